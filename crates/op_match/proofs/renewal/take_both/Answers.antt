use Rattle.op_match.proofs.Keeping.{sides_taken}
use Rattle.op_match.proofs.Lists.{both_true}
use Rattle.op_match.proofs.Naming.{numbered_kept}
use Rattle.op_match.proofs.renewal.take_both.Goals as goal

pub returns-in_err-many_stay-clause-matching : goal.returns-in_err-many_stay-clause-matching
returns-in_err-many_stay-clause-matching c =
    let m = c.args.matching.now in
    sides_taken m c.take_labels.new.signatures c.take_labels.new.side m.ones c.take_labels.ensures.numbered
    (numbered_kept m.signatures.labels c.take_labels.new.signatures.labels m.pairing m.ones c.take_labels.ensures.kept c.requires.matching.ones) c.requires.none

pub take_labels-requires-2 : goal.take_labels-requires-2
take_labels-requires-2 c =
    let m = c.args.matching.now in
    record { numbered = numbered_kept m.signatures.labels c.take_labels.new.signatures.labels m.pairing m.ones c.take_labels.ensures.kept c.requires.matching.ones }

pub returns-in_err-ones_stay-clause-matching : goal.returns-in_err-ones_stay-clause-matching
returns-in_err-ones_stay-clause-matching c =
    let m = c.args.matching.now in
    sides_taken m c.take_labels-2.new.signatures c.take_labels.new.side c.take_labels-2.new.side
    (numbered_kept c.take_labels.new.signatures.labels c.take_labels-2.new.signatures.labels m.pairing c.take_labels.new.side c.take_labels-2.ensures.kept c.take_labels.ensures.numbered) c.take_labels-2.ensures.numbered c.requires.none

pub returns-clause-matching : goal.returns-clause-matching
returns-clause-matching c =
    let m = c.args.matching.now in
    sides_taken m c.take_labels-2.new.signatures c.take_labels.new.side c.take_labels-2.new.side
    (numbered_kept c.take_labels.new.signatures.labels c.take_labels-2.new.signatures.labels m.pairing c.take_labels.new.side c.take_labels-2.ensures.kept c.take_labels.ensures.numbered) c.take_labels-2.ensures.numbered c.requires.none

pub returns-clause-many_stay : goal.returns-clause-many_stay
returns-clause-many_stay c = λ t. c.in_ok-many_stay.ensures.stayed (both_true c.in_ok-many_stay.many_stay c.in_ok-ones_stay.ones_stay t).0

pub returns-clause-ones_stay : goal.returns-clause-ones_stay
returns-clause-ones_stay c = λ t. c.in_ok-ones_stay.ensures.stayed (both_true c.in_ok-many_stay.many_stay c.in_ok-ones_stay.ones_stay t).1
