use Rattle.std.proofs.Common.{◌≡◌, ◌-◌, ◌^◌, ◌≤◌, ℕ, List, [], drop, length, map, max, min, ap, sym, ◌∙◌, arith}
use Rattle.std.proofs.lemmas.List.{drop_all}
use Rattle.promql_ast.specs.Depth.{depth, greatest}
use Rattle.promql_ast.specs.declared.tree.Expr.{Expr}
use Rattle.promql_ast.proofs.tree.+depths.Goals as goal

-- at the end of the list the greatest so far is that of all
ended : (most count i : ℕ) (es : List Expr) → most ≤ count → length es ≤ i → min (max most (greatest (map depth (drop i es)))) count ≡ min (greatest (map depth es)) count → most ≡ min (greatest (map depth es)) count
ended most count i es fits end is =
    let nil : drop i es ≡ [] = drop_all i es end in
    let left : max most (greatest (map depth (drop i es))) ≡ most = ap (λ ds. max most (greatest (map depth ds))) nil ∙ omega arith in
    let kept : min most count ≡ most = omega (arith, fits) in
    sym kept ∙ ap (λ n. min n count) (sym left) ∙ is

pub greatest_depth-returns : goal.greatest_depth-returns
greatest_depth-returns t c =
    let e : _ ≡ _ = c.as_slice-e-items.ensures in
    rw (sym e) (ended c.loop-e.most (2 ^ 64 - 1) c.loop-e.e-index c.as_slice-e-items.result.now c.loop-e.invariant.fits c.loop-e-test.false c.loop-e.invariant.rest)
