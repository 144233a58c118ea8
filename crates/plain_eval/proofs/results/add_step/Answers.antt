use Rattle.std.proofs.Common.{◌≡◌, ◌∙◌, [], ap, sym}
use Rattle.std.specs.Prelude.{map}
use Rattle.std.specs.Vec.Iter.{into_iter_items}
use Rattle.std.proofs.lemmas.List.{nil_from_length}
use Rattle.plain_eval.proofs.Walking.{all_put, labelled_at, on_any, put_all}
use Rattle.plain_eval.proofs.results.add_step.Goals as goal

pub returns-clause-points : goal.returns-clause-points
returns-clause-points c =
    let at = labelled_at c.args.t in
    let entries = c.loop-row.found.points.entries in
    let nil : into_iter_items c.loop-row.row-iterator ≡ [] = nil_from_length _ (sym c.loop-row.row-iterator.rest.ok.0 ∙ c.in-None.ensures.steps.0) in
    let items : into_iter_items c.into_iter-row-iterator.result ≡ c.args.step.table.rows = c.into_iter-row-iterator.ensures.into_iter_gives.0 ∙ c.into_vec-row-items.ensures in
    on_any c.unite.result (λ points was.
    ap (λ rows. put_all entries (map at rows)) (sym nil) ∙ c.loop-row.invariant.points ∙ ap (λ rows. put_all c.args.found.now.points.entries (map at rows)) items
    ∙ ap (λ groups. put_all groups (map at c.args.step.table.rows)) was ∙ all_put points (map at c.args.step.table.rows))
