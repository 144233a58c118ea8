use Rattle.std.proofs.Common.{◌≡◌, ◌∙◌, ◌≤◌, ap, length, sym, subst}
use Rattle.std.specs.Prelude.{List, Some, map, slice_get}
use Rattle.step_table.specs.Groups.{Names}
use Rattle.step_batch.specs.Lent.{Lent, stage_of, stages}
use Rattle.step_batch.proofs.Places.{lent_named, named_more, place_kept, place_within, stages_named}
use Rattle.step_batch.proofs.buffer.StepBuffer.place_own.Goals as goal

pub invariant_of-self-2 : goal.invariant_of-self-2
invariant_of-self-2 c = lent_named c.self.inside.labels.keys c.place_own_in.new.set.keys c.args.labels c.self.inside.steps c.self.invariant c.place_own_in.ensures.distinct c.in_ok-place.ensures.keys

pub returns-clause-within : goal.returns-clause-within
returns-clause-within c = place_within c.place_own_in.new.set.keys c.in_ok-place.place c.args.labels c.in_ok-place.ensures.place

pub returns-clause-kept : goal.returns-clause-kept
returns-clause-kept c = λ j names at.
    place_kept c.self.inside.labels.keys c.place_own_in.new.set.keys c.args.labels c.in_ok-place.ensures.keys j names (subst (λ (l : Lent). slice_get l.labels j ≡ Some names) (sym c.self.view_is) at)

pub returns-clause-stages : goal.returns-clause-stages
returns-clause-stages c =
    ap (λ (ls : List Names). map (stage_of ls) c.self.inside.steps) c.in_ok-place.ensures.keys
    ∙ stages_named c.self.inside.labels.keys c.args.labels c.self.inside.steps c.self.invariant.placed ∙ ap stages c.self.view_is

pub returns-clause-more : goal.returns-clause-more
returns-clause-more c =
    subst (λ (l : Lent). length l.labels ≤ length c.place_own_in.new.set.keys) c.self.view_is
    (subst (λ (ls : List Names). length c.self.inside.labels.keys ≤ length ls) (sym c.in_ok-place.ensures.keys) (named_more c.self.inside.labels.keys c.args.labels))
