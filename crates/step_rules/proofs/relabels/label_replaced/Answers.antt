use Rattle.std.proofs.Common.{◌≡◌, ◌∙◌, ◌++◌, ℕ, List, [], Some, true, ap, append-nil, map, sym}
use Rattle.std.specs.Prelude.{slice_get}
use Rattle.std.specs.Vec.Iter.{into_iter_items}
use Rattle.std.proofs.lemmas.List.{nil_from_length}
use Rattle.step_table.specs.Outcomes.{settled, taken}
use Rattle.promql_meaning.specs.Relabels.{label_replaced}
use Rattle.step_rules.specs.Joined.{replaced_row}
use Rattle.step_rules.proofs.Replaced.{row_more, when_kept}
use Rattle.step_rules.proofs.relabels.label_replaced.Goals as goal

pub loop-row-preserved : goal.loop-row-preserved
loop-row-preserved c =
    let asked = c.args.replacing.now in
    record {
      same = c.replaced_outcome.ensures.same ∙ c.loop-row.invariant.same;
      outcomes = λ text there.
          row_more (replaced_row asked.target asked.template asked.source text) c.loop-row.outcomes c.push.new.self _ c.in_ok-replaced_outcome.field-0 c.in-Some.row (into_iter_items c.loop-row.row-iterator) (into_iter_items c.next.new.self)
          c.in-Some.ensures.steps.0 (c.in_ok-replaced_outcome.ensures.outcome text (ap (λ kept. slice_get kept asked.pattern.0) c.loop-row.invariant.same ∙ there)) c.in_ok-push.ensures.ok (c.loop-row.invariant.outcomes text there);
    }

pub returns-clause-step : goal.returns-clause-step
returns-clause-step c =
    let asked = c.args.replacing.now in
    let nil : into_iter_items c.loop-row.row-iterator ≡ [] = nil_from_length _ (sym c.loop-row.row-iterator.rest.ok.0 ∙ c.in-None.ensures.steps.0) in
    let items : into_iter_items c.into_iter-row-iterator.result ≡ c.args.step.table.rows = c.into_iter-row-iterator.ensures.into_iter_gives.0 ∙ c.into_vec-row-items.ensures in
    when_kept c.settled.result c.args.patterns.now asked.pattern.0 (λ text. label_replaced asked.target asked.template asked.source text c.args.step) (settled c.in_ok-taken.field-0) c.settled.ensures
    λ (text : List ℕ) (there : slice_get c.args.patterns.now asked.pattern.0 ≡ Some (true, text)).
    let f = replaced_row asked.target asked.template asked.source text in
    let made : c.loop-row.outcomes ≡ map f c.args.step.table.rows =
    sym (append-nil c.loop-row.outcomes) ∙ ap (λ r. c.loop-row.outcomes ++ map f r) (sym nil) ∙ c.loop-row.invariant.outcomes text there ∙ ap (map f) items in
    ap settled (c.in_ok-taken.ensures ∙ ap (taken c.args.step.marks) made)
