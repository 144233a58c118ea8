use Rattle.std.proofs.Common.{ℕ, sym, subst}
use Rattle.std.specs.Prelude.{slice_get}
use Rattle.step_batch.specs.Lent.{SlotsRise}
use Rattle.op_subquery.specs.Kept.{AreWithin}
use Rattle.op_subquery.proofs.Feeding.{moved_within}
use Rattle.op_subquery.proofs.Placing.{step_kept}
use Rattle.op_subquery.proofs.waiting.waiting_step.Goals as goal

pub moved-requires : goal.moved-requires
moved-requires c = subst (λ (n : ℕ). SlotsRise 0 n c.slots.result.now) (sym c.requires.places) c.slots.ensures.rising

pub returns-clause-within : goal.returns-clause-within
returns-clause-within c = λ high below.
    subst (AreWithin high) (sym c.in_ok-moved.ensures)
    (moved_within c.args.places.now high 0 c.slots.result.now below (subst (λ (n : ℕ). SlotsRise 0 n c.slots.result.now) (sym c.requires.places) c.slots.ensures.rising))

pub returns-clause-kept : goal.returns-clause-kept
returns-clause-kept c = λ labels placed.
    step_kept c.args.rows.now.labels labels c.args.places.now (slice_get c.args.rows.now.steps c.args.i) c.at.result c.slots.result.now c.in_ok-moved.field-0.items c.marks.result.now c.in_ok-copy.field-0
    c.at.ensures c.slots.ensures.slots c.marks.ensures c.slots.ensures.rising c.in_ok-moved.ensures c.in_ok-copy.ensures placed
