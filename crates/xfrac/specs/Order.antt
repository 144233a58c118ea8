-- The order of numbers, and the comparison operators. (Prometheus' operators, on exact numbers; the place of NaN in the total order is this project's own.)
use Rattle.std.specs.Prelude.{ℕ, ℤ, pos, ◌*ℤ◌, Bool, true, false, ◌||◌, if◌then◌else◌}
use Rattle.std.specs.declared.cmp.Ordering.{Ordering}
use Rattle.std.specs.Ordering.{int_cmp, nat_cmp, is_eq, is_ne, is_lt, is_le, is_gt, is_ge}
use Rattle.xfrac.specs.Kinds.{is_not_a_number}
use Rattle.xfrac.specs.declared.value.XFrac.{XFrac}
use Rattle.xfrac.specs.declared.value.XFrac.TheVariants.{Fin, PosInf, NegInf, NaN}
use Rattle.xfrac.specs.declared.value.CompareOp.{CompareOp}
use Rattle.xfrac.specs.declared.value.CompareOp.TheVariants.{Eq, Ne, Lt, Le, Gt, Ge}

-- how two fractions stand to one another: n/d to m/e as n * e to m * d
abbrev pub fraction_order : ℤ × ℕ → ℤ × ℕ → Ordering
fraction_order a b = int_cmp (a.0 *ℤ pos b.1) (b.0 *ℤ pos a.1)

-- the place among -Inf, the fractions, +Inf and NaN
abbrev pub rank : XFrac → ℕ
rank NegInf = 0
rank (Fin f) = 1
rank PosInf = 2
rank NaN = 3

-- the total order: -Inf, the fractions, +Inf, NaN
abbrev pub total_order : XFrac → XFrac → Ordering
total_order (Fin a) (Fin b) = fraction_order a b
total_order a b = nat_cmp (rank a) (rank b)

-- whether an operator holds of two numbers that stand so
abbrev pub holds_at : CompareOp → Ordering → Bool
holds_at Eq o = is_eq o
holds_at Ne o = is_ne o
holds_at Lt o = is_lt o
holds_at Le o = is_le o
holds_at Gt o = is_gt o
holds_at Ge o = is_ge o

-- whether an operator holds where one side is NaN: only that they differ
abbrev pub holds_of_nan : CompareOp → Bool
holds_of_nan Ne = true
holds_of_nan _ = false

-- whether a comparison holds
abbrev pub compares : CompareOp → XFrac → XFrac → Bool
compares op a b =
    if is_not_a_number a || is_not_a_number b then holds_of_nan op else holds_at op (total_order a b)
