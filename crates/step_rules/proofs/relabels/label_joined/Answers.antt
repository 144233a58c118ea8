use Rattle.std.proofs.Common.{◌≡◌, ◌∙◌, ◌++◌, [], ap, append-nil, map, subst, sym}
use Rattle.std.specs.Prelude.{IfOk}
use Rattle.std.specs.Vec.Iter.{into_iter_items}
use Rattle.std.proofs.lemmas.List.{nil_from_length}
use Rattle.step_table.specs.Outcomes.{settled, taken}
use Rattle.step_rules.specs.Joined.{joined_row}
use Rattle.step_rules.proofs.relabels.label_joined.Goals as goal

pub returns : goal.returns
returns c =
    let f = joined_row c.args.target.now c.args.separator.now c.args.sources.now in
    let none : into_iter_items c.loop-row.row-iterator ≡ [] = nil_from_length _ (sym c.loop-row.row-iterator.rest.ok.0 ∙ c.in-None.ensures.steps.0) in
    let items : into_iter_items c.into_iter-row-iterator.result ≡ c.args.step.table.rows = c.into_iter-row-iterator.ensures.into_iter_gives.0 ∙ c.into_vec-row-items.ensures in
    let made : c.loop-row.outcomes ≡ map f c.args.step.table.rows =
    sym (append-nil c.loop-row.outcomes) ∙ ap (λ r. c.loop-row.outcomes ++ map f r) (sym none) ∙ c.loop-row.invariant ∙ ap (map f) items in
    subst (λ x. IfOk c.settled.result (λ s. s ≡ x)) (ap settled (c.in_ok-taken.ensures ∙ ap (taken c.args.step.marks) made)) c.settled.ensures
