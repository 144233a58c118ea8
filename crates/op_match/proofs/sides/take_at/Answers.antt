use Rattle.std.proofs.Common.{◌∙◌, ◌<◌, ◌+◌, List, arith, length, ap, sym, subst, take}
use Rattle.std.specs.Option.{option_map}
use Rattle.std.specs.Prelude.{slice_get}
use Rattle.op_match.specs.Places.{IsNumbered, Stays, names_fed}
use Rattle.op_match.specs.declared.sides.Fed.{Fed}
use Rattle.op_match.proofs.Naming.{fed_more, fed_same, fed_set, fed_stays, has_number, numbered_kept, numbered_more, numbered_set}
use Rattle.op_match.proofs.sides.take_at.Goals as goal

pub returns-in_err-signed-clause-numbered : goal.returns-in_err-signed-clause-numbered
returns-in_err-signed-clause-numbered c = numbered_kept c.args.signatures.now.labels c.signed.new.signatures.labels c.args.p.now c.args.side.now c.signed.ensures.kept c.requires.numbered

pub returns-in_err-push-clause-numbered : goal.returns-in_err-push-clause-numbered
returns-in_err-push-clause-numbered c =
    subst (IsNumbered c.signed.new.signatures.labels c.args.p.now) (sym c.in_err-push.ensures.err) (numbered_kept c.args.signatures.now.labels c.signed.new.signatures.labels c.args.p.now c.args.side.now c.signed.ensures.kept c.requires.numbered)

pub returns-then-i-as_slice-clause-numbered : goal.returns-then-i-as_slice-clause-numbered
returns-then-i-as_slice-clause-numbered c =
    let f = c.in_ok-signed.field-0 in
    subst (IsNumbered c.signed.new.signatures.labels c.args.p.now) (sym c.in_ok-push.ensures.ok)
    (numbered_more c.args.signatures.now.labels c.signed.new.signatures.labels c.args.p.now c.args.side.now f c.signed.ensures.kept (has_number c.signed.new.signatures.labels c.args.p.now f c.args.labels.now c.in_ok-signed.ensures.labels c.in_ok-signed.ensures.number) c.requires.numbered)

pub returns-then-i-as_slice-clause-fed : goal.returns-then-i-as_slice-clause-fed
returns-then-i-as_slice-clause-fed c =
    ap (λ (fs : List Fed). take (c.args.i + 1) (names_fed fs)) c.in_ok-push.ensures.ok
    ∙ fed_more c.args.side.now c.in_ok-signed.field-0 c.args.i c.args.labels.now (c.if-i-as_slice.true ∙ ap length c.as_slice.ensures) c.in_ok-signed.ensures.labels

pub returns-then-i-as_slice-clause-stayed : goal.returns-then-i-as_slice-clause-stayed
returns-then-i-as_slice-clause-stayed c = λ t. subst (λ (fs : List Fed). Stays (names_fed c.args.side.now) (names_fed fs)) (sym c.in_ok-push.ensures.ok) (fed_stays c.args.side.now c.in_ok-signed.field-0)

pub returns-then-has_labels-clause-fed : goal.returns-then-has_labels-clause-fed
returns-then-has_labels-clause-fed c = fed_same c.args.side.now c.args.i c.args.labels.now (ap (λ (fs : List Fed). option_map (λ (f : Fed). f.labels) (slice_get fs c.args.i)) (sym c.as_slice-2.ensures) ∙ c.has_labels.ensures c.if-has_labels.true)

pub returns-in_err-fed-clause-numbered : goal.returns-in_err-fed-clause-numbered
returns-in_err-fed-clause-numbered c = numbered_kept c.args.signatures.now.labels c.signed-2.new.signatures.labels c.args.p.now c.args.side.now c.signed-2.ensures.kept c.requires.numbered

pub returns-clause-numbered : goal.returns-clause-numbered
returns-clause-numbered c =
    let f = c.in_ok-fed.fed in
    subst (IsNumbered c.signed-2.new.signatures.labels c.args.p.now) (sym c.replace.ensures.now)
    (numbered_set c.args.signatures.now.labels c.signed-2.new.signatures.labels c.args.p.now c.args.side.now c.args.i f c.signed-2.ensures.kept (has_number c.signed-2.new.signatures.labels c.args.p.now f c.args.labels.now c.in_ok-fed.ensures.labels c.in_ok-fed.ensures.number) c.requires.numbered)

pub returns-clause-fed : goal.returns-clause-fed
returns-clause-fed c =
    let l : c.args.i < length c.args.side.now = omega (arith, c.requires.within, c.if-i-as_slice.false, ap length c.as_slice.ensures) in
    ap (λ (fs : List Fed). take (c.args.i + 1) (names_fed fs)) c.replace.ensures.now ∙ fed_set c.args.side.now c.in_ok-fed.fed c.args.i c.args.labels.now l c.in_ok-fed.ensures.labels
