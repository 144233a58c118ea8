use Rattle.std.proofs.Common.{◌∙◌, List, Option, ap, sym, subst}
use Rattle.std.specs.Prelude.{◌&&◌, slice_get}
use Rattle.label_set.specs.declared.rules.Pairing.{Pairing}
use Rattle.xfrac.specs.declared.value.PairOp.{PairOp}
use Rattle.step_batch.specs.Lent.{has_few_rows}
use Rattle.op_match.specs.Places.{AreKept, names_fed}
use Rattle.op_match.specs.declared.kept.Kept.{Kept}
use Rattle.op_match.proofs.Keeping.{kept_again, labels_stay}
use Rattle.op_match.proofs.Lists.{both_true}
use Rattle.op_match.proofs.renewal.renew_sides.Goals as goal

pub returns-clause-matching : goal.returns-clause-matching
returns-clause-matching c =
    let m = c.args.matching.now in
    let new = c.take_sides.new.matching in
    let before = c.args.rows.now.labels in
    let after = c.begin_feed.new.self.labels in
    let stayed = c.in_ok-stayed.stayed in
    let has = c.has_labels.result in
    let many = names_fed new.many in
    let ones = names_fed new.ones in
    record {
      many = c.in_ok-stayed.ensures.matching.many;
      ones = c.in_ok-stayed.ensures.matching.ones;
      kept = subst (λ (o : PairOp). AreKept o new.pairing after many ones c.make_room.new.kept) (sym c.in_ok-stayed.ensures.op)
          (subst (λ (p : Pairing). AreKept m.op p after many ones c.make_room.new.kept) (sym c.in_ok-stayed.ensures.pairing)
          (kept_again m.op m.pairing before after (names_fed m.many) many (names_fed m.ones) ones (stayed && has) c.replace-kept.result c.make_room.new.kept (subst (AreKept m.op m.pairing before (names_fed m.many) (names_fed m.ones)) (sym c.replace-kept.ensures.value) c.requires.kept)
          (λ t. labels_stay (has_few_rows c.args.rows.now) before after c.begin_feed.ensures.labels (c.has_labels.ensures (both_true stayed has t).1))
          (λ t. c.in_ok-stayed.ensures.many_stay (both_true stayed has t).0) (λ t. c.in_ok-stayed.ensures.ones_stay (both_true stayed has t).0)
          (λ j k e. ap (λ (ks : List (Option Kept)). slice_get ks j) (sym c.kept_if-kept.ensures) ∙ c.in_ok-make_room.ensures.more j k e)));
    }
