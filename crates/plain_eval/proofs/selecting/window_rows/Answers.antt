use Rattle.std.proofs.Common.{◌≡◌, ◌<◌, ◌++◌, ℕ, List, ap, subst, sym, ◌∙◌, arith, length}
use Rattle.std.proofs.lemmas.Grind.{common_steps}
use Rattle.std.specs.List.{AllByRecursion, filter_map}
use Rattle.promql_meaning.specs.Selecting.{series_window}
use Rattle.plain_eval.specs.Numbered.{window_numbered}
use Rattle.plain_eval.proofs.Newest.{all_within, made_of}
use Rattle.plain_eval.proofs.selecting.window_rows.Goals as goal

pub loop-s-init : goal.loop-s-init
loop-s-init g c =
    let store = c.args.store.now in
    let P : List ℕ → Type 0 = λ numbers. AllByRecursion (λ (n : ℕ). n < length store) numbers in
    record {
      rows = ap (λ rows. rows ++ filter_map (window_numbered c.args.closed c.args.m.0 c.args.range.0 store) c.as_slice-s-items.result.now) c.new-rows.ensures;
      within = subst P (sym c.as_slice-s-items.ensures) (all_within _ c.args.rules.now store _ c.in_ok-places.ensures.selected);
    }

pub returns-clause-rows : goal.returns-clause-rows
returns-clause-rows g c =
    let store = c.args.store.now in
    let f = window_numbered c.args.closed c.args.m.0 c.args.range.0 store in
    let items = c.as_slice-s-items.result.now in
    let whole : c.loop-s.rows ≡ filter_map f items = grind (arith, common_steps, c.loop-s.invariant.rows) in
    whole ∙ ap (filter_map f) c.as_slice-s-items.ensures ∙ made_of (series_window c.args.closed c.args.m.0 c.args.range.0) store _ _ c.in_ok-places.ensures.chosen
