-- A sum that is formed as its values come, as a cell.
use Rattle.std.proofs.Common.{◌≡◌, ◌∙◌, ◌<◌, ◌^◌, true, false, List, length, refl, sym, ap, Some, None, arith}
use Rattle.std.specs.Prelude.{Bool, Option, IfSome, if◌then◌else◌}
use Rattle.window_fn.specs.Totals.{HasRoom, KeepsSum}
use Rattle.xfrac.specs.Sums.{Totals, fits, totals, value_of}
use Rattle.xfrac.specs.declared.value.XFrac.{XFrac}
use Rattle.step_table.specs.declared.cells.Cell.TheVariants as cell
use Rattle.step_cells.specs.Owed.{sum_cell}

pub few : (sum : Option Totals) (xs : List XFrac) → KeepsSum sum xs → length xs < 2 ^ 64 → HasRoom sum
unfolding totals
few None xs h w = tt
few (Some t) xs h w = let n : t.count ≡ length xs = ap (λ (s : Totals). s.count) h in omega (arith, n, w)

by_fit : (b : Bool) (t : Totals) (v : XFrac) → (if b then Some v else None) ≡ None → None ≡ (if b then Some (cell.Sum t) else None)
by_fit true t v h = absurd (cc)
by_fit false t v h = refl

pub none_made : (sum : Option Totals) (xs : List XFrac) → KeepsSum sum xs → IfSome sum (λ (t : Totals). fits t ≡ true) → sum ≡ None → None ≡ sum_cell xs
none_made None xs h w is = by_fit (fits (totals xs)) (totals xs) (value_of (totals xs)) h
none_made (Some t) xs h w is = absurd (cc)

pub sum_made : (sum : Option Totals) (xs : List XFrac) (t : Totals) → KeepsSum sum xs → IfSome sum (λ (u : Totals). fits u ≡ true) → sum ≡ Some t → Some (cell.Sum t) ≡ sum_cell xs
sum_made None xs t h w is = absurd (cc)
sum_made (Some u) xs t h w is =
    let same : t ≡ totals xs = (let e : u ≡ t = cc in sym e) ∙ h in
    let fit : fits (totals xs) ≡ true = ap fits (sym h) ∙ w in
    ap (λ (s : Totals). Some (cell.Sum s)) same ∙ sym (ap (λ (b : Bool). if b then Some (cell.Sum (totals xs)) else None) fit)
