-- What is kept of values that come behind and go in front. (This project's own.)
use Rattle.std.specs.Prelude.{◌≡◌, ◌+◌, ◌≤◌, ◌<◌, ◌^◌, ℕ, suc, List, [], ◌∷◌, length, take, drop, slice_get, Option, None, Some, if◌then◌else◌, ⊤}
use Rattle.std.specs.List.{All}
use Rattle.window_fn.specs.Aggregates.{greatest, least}
use Rattle.window_fn.specs.Increases.{lost}
use Rattle.window_fn.specs.Totals.{IsSumOf}
use Rattle.xfrac.specs.Laws.{IsNumber}
use Rattle.xfrac.specs.Order.{compares}
use Rattle.xfrac.specs.Sums.{Totals}
use Rattle.xfrac.specs.declared.value.CompareOp.TheVariants.{Lt}
use Rattle.xfrac.specs.declared.value.XFrac.{XFrac}
use Rattle.op_running.specs.declared.extremes.Greatest.{Greatest}
use Rattle.op_running.specs.declared.extremes.Least.{Least}
use Rattle.op_running.specs.declared.losses.Loss.{Loss}
use Rattle.op_running.specs.declared.running.Running.{Running}
use Rattle.op_running.specs.declared.totals.Total.{Total}
use Rattle.op_running.specs.declared.window.Kept.{Kept}
use Rattle.op_running.specs.declared.window.Kept.TheVariants as kept

-- of each tail of some values one is kept, the shortest first
abbrev pub AreTails : {S : Type 0} → (S → List XFrac → Type 0) → List S → List XFrac → Type 0
AreTails {S} is_of tails values = (i k : ℕ) (s : S) → i + suc k ≡ length values → slice_get tails k ≡ Some s → is_of s (drop i values)

-- one is kept of each tail of the first values, and one of so many values behind them
pub record Keeps {S : Type 0} (is_of : S → List XFrac → Type 0) (tails : List S) (last : S) (counted : ℕ) (values : List XFrac) : Type 0 where
  pub within : length tails + counted ≤ length values
  pub front : AreTails is_of tails (take (length tails) values)
  pub behind : is_of last (take counted (drop (length tails) values))

-- ---- what is kept of values

abbrev pub IsTotalOf : Total → List XFrac → Type 0
IsTotalOf total values = IsSumOf total.sum values

-- two sums have room for the numbers of both
abbrev pub HaveRoom : Option Totals → Option Totals → Type 0
HaveRoom (Some a) (Some b) = a.count + b.count < 2 ^ 96
HaveRoom _ _ = ⊤

pub record IsLeastOf (kept : Least) (values : List XFrac) : Type 0 where
  pub numbers : All IsNumber values
  pub is_least : kept.value ≡ least values

pub record IsGreatestOf (kept : Greatest) (values : List XFrac) : Type 0 where
  pub numbers : All IsNumber values
  pub is_greatest : kept.value ≡ greatest values

-- ---- counters

-- what a counter stood at before a value, where it is reset to that value
abbrev pub seam : XFrac → XFrac → List XFrac
seam before value = if compares Lt value before then before ∷ [] else []

-- the last of a value and others behind it
abbrev pub last_from : XFrac → List XFrac → XFrac
last_from x [] = x
last_from x (y ∷ ys) = last_from y ys

-- the first and the last of values
abbrev pub ends_of : List XFrac → Option (XFrac × XFrac)
ends_of [] = None
ends_of (x ∷ xs) = Some (x, last_from x xs)

pub record IsLossOf (kept : Loss) (values : List XFrac) : Type 0 where
  pub numbers : All IsNumber values
  pub is_ends : kept.ends ≡ ends_of values
  pub is_lost : IsSumOf kept.lost (lost values)

-- ---- what is kept of a window

abbrev pub IsRunning : {S : Type 0} → (S → List XFrac → Type 0) → Running S → List XFrac → Type 0
IsRunning is_of r values = Keeps is_of r.tails.items r.behind r.counted values

abbrev pub IsKept : Kept → List XFrac → Type 0
IsKept kept.Nothing values = ⊤
IsKept (kept.Sum r) values = IsRunning IsTotalOf r values
IsKept (kept.Least r) values = IsRunning IsLeastOf r values
IsKept (kept.Greatest r) values = IsRunning IsGreatestOf r values
IsKept (kept.Lost r) values = IsRunning IsLossOf r values
