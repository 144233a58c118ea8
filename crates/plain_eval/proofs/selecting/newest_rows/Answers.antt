use Rattle.std.proofs.Common.{rules, ◌≡◌, ◌<◌, ◌++◌, ℕ, List, ap, subst, sym, ◌∙◌, arith, length}
use Rattle.std.proofs.lemmas.Grind.{common_steps}
use Rattle.std.specs.List.{AllByRecursion, filter_map}
use Rattle.promql_meaning.specs.Selecting.{newest_row, passing}
use Rattle.plain_eval.specs.Numbered.{row_numbered}
use Rattle.plain_eval.proofs.Newest.{all_within, as_many_pass, made_of}
use Rattle.plain_eval.proofs.selecting.newest_rows.Goals as goal

pub loop-s-init : goal.loop-s-init
loop-s-init g c =
    let store = c.args.store.now in
    let P : List ℕ → Type 0 = λ numbers. AllByRecursion (λ (n : ℕ). n < length store) numbers in
    record {
      rows = ap (λ rows. rows ++ filter_map (row_numbered c.args.closed c.args.m.0 store) c.as_slice-s-items.result.now) c.new-rows.ensures;
      fetched = search rules;
      within = subst P (sym c.as_slice-s-items.ensures) (all_within _ c.args.rules.now store _ c.in_ok-places.ensures.selected);
    }

pub returns-clause-rows : goal.returns-clause-rows
returns-clause-rows g c =
    let store = c.args.store.now in
    let f = row_numbered c.args.closed c.args.m.0 store in
    let items = c.as_slice-s-items.result.now in
    let whole : c.loop-s.rows ≡ filter_map f items = grind (arith, common_steps, c.loop-s.invariant.rows) in
    whole ∙ ap (filter_map f) c.as_slice-s-items.ensures ∙ made_of (newest_row c.args.closed c.args.m.0) store _ _ c.in_ok-places.ensures.chosen

pub returns-clause-fetched : goal.returns-clause-fetched
returns-clause-fetched g c =
    let many : length c.in_ok-places.places ≡ length (passing c.args.store.now c.args.patterns.now c.args.rules.now) = as_many_pass c.args.patterns.now c.args.rules.now c.args.store.now c.in_ok-places.places c.in_ok-places.ensures.selected c.in_ok-places.ensures.chosen in
    let told = c.loop-s.invariant.fetched in
    let items = ap length c.as_slice-s-items.ensures in
    omega (arith, many, told, items)
