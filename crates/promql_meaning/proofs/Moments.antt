-- What a selector means at a moment.
use Rattle.std.proofs.Common.{◌≡◌, ◌∙◌, refl, sym, ap, Some}
use Rattle.std.specs.Prelude.{ℤ, pos, ◌-ℤ◌}
use Rattle.std.proofs.Math.IntN.{+ℤ_idr}
use Rattle.promql_ast.specs.Folds.{fold-Select}
use Rattle.promql_ast.specs.declared.tree.Expr.{Expr}
use Rattle.promql_ast.specs.declared.tree.Fixed.{Fixed}
use Rattle.promql_ast.specs.declared.tree.Fixed.TheVariants.{At, Start, End}
use Rattle.promql_ast.specs.declared.tree.Node.TheVariants.{Select}
use Rattle.promql_ast.specs.declared.tree.Selector.{Selector}
use Rattle.promql_meaning.specs.Laws.{FixedSelectorStays, OffsetIsEarlier, without_offset}
use Rattle.promql_meaning.specs.Meaning.{meaning, node_meaning}
use Rattle.promql_meaning.specs.Selecting.{Asked, base_of, moment_of, newest_row, passing}
use Rattle.promql_meaning.specs.declared.given.Given.{Given}
use Rattle.promql_meaning.specs.declared.given.Given.TheVariants.{Selected}
use Rattle.std.specs.List.{filter_map}

-- the selector's samples at a moment
at_moment : Asked → Selector → ℤ → Given
at_moment asked selector m = Selected (record { rules = selector.rules; rows = filter_map (newest_row selector.moment.closed m) (passing asked.samples asked.kept selector.rules) })

by_moment : (asked : Asked) (e : Expr) (selector : Selector) (t : ℤ) → e.node ≡ Select selector → meaning asked e t ≡ at_moment asked selector (moment_of asked selector.moment t)
unfolding at_moment
by_moment asked e selector t is = ap (λ (f : ℤ → Given). f t) (fold-Select (node_meaning asked) (λ e. e.node) e selector is)

fixed_base : (start end t u : ℤ) (at : Fixed) → base_of start end t (Some at) ≡ base_of start end u (Some at)
fixed_base start end t u (At at) = refl
fixed_base start end t u Start = refl
fixed_base start end t u End = refl

pub fixed_stays : FixedSelectorStays
fixed_stays asked e selector at t u is fixed =
    let base = ap (base_of asked.start asked.end t) fixed ∙ fixed_base asked.start asked.end t u at ∙ sym (ap (base_of asked.start asked.end u) fixed) in
    by_moment asked e selector t is ∙ ap (λ b. at_moment asked selector (b -ℤ selector.moment.offset.0)) base ∙ sym (by_moment asked e selector u is)

less_nothing : (x : ℤ) → x -ℤ pos 0 ≡ x
less_nothing x = +ℤ_idr x

pub offset_earlier : OffsetIsEarlier
unfolding at_moment
offset_earlier asked e plain selector t is plain_is free =
    let base = ap (base_of asked.start asked.end t) free in
    let other = ap (base_of asked.start asked.end (t -ℤ selector.moment.offset.0)) free in
    by_moment asked e selector t is ∙ ap (λ b. at_moment asked selector (b -ℤ selector.moment.offset.0)) base
    ∙ sym (by_moment asked plain (without_offset selector) (t -ℤ selector.moment.offset.0) plain_is
    ∙ ap (λ b. at_moment asked selector (b -ℤ pos 0)) other ∙ ap (at_moment asked selector) (less_nothing (t -ℤ selector.moment.offset.0)))
