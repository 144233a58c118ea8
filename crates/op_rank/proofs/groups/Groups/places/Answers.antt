use Rattle.std.proofs.Common.{◌∙◌, ◌<◌, ℕ, length, map, ap, sym, subst}
use Rattle.std.specs.List.{All}
use Rattle.step_put.specs.Placed.{left_of}
use Rattle.op_rank.specs.Groups.{Grouped}
use Rattle.op_rank.proofs.FirstsMade.{placed_as_many, placed_within}
use Rattle.op_rank.proofs.groups.Groups.places.Goals as goal

pub returns-clause-count : goal.returns-clause-count
returns-clause-count c =
    let inside = c.self.inside in
    ap length c.places.ensures ∙ placed_as_many (left_of inside.placing.left) inside.kept.labels inside.placing.fed inside.placing.places c.self.invariant ∙ ap (λ (g : Grouped). length g.fed) c.self.view_is

pub returns-clause-within : goal.returns-clause-within
returns-clause-within c =
    let inside = c.self.inside in
    let all : All (λ (place : ℕ). place < length inside.kept.labels) inside.placing.places = placed_within inside.kept.labels (map (left_of inside.placing.left) inside.placing.fed) inside.placing.places c.self.invariant in
    subst (λ (g : Grouped). All (λ (place : ℕ). place < length g.groups) c.places.result.now) c.self.view_is (subst (All (λ (place : ℕ). place < length inside.kept.labels)) (sym c.places.ensures) all)
