-- A sum that is formed as its numbers come: nothing is kept from the first overflow on. (This project's own.)
use Rattle.std.specs.Prelude.{◌≡◌, ◌+◌, ◌<◌, ◌^◌, List, IfSome, Option, None, Some, Result, is_ok}
use Rattle.std.specs.Bool.{MatchBool}
use Rattle.std.specs.List.{All, list_all, filter_map}
use Rattle.std.specs.Result.{result_ok}
use Rattle.xfrac.specs.Laws.{IsNumber}
use Rattle.xfrac.specs.Sums.{Totals, StandsFor, sum_of}
use Rattle.xfrac.specs.declared.value.NumFault.{NumFault}
use Rattle.xfrac.specs.declared.value.XFrac.{XFrac}

-- what is kept of the sum of a list: its totals, or nothing where it has no sum
abbrev pub KeepsSum : Option Totals → List XFrac → Type 0
KeepsSum (Some t) xs = StandsFor t xs
KeepsSum None xs = sum_of xs ≡ None

pub record IsSumOf (sum : Option Totals) (xs : List XFrac) : Type 0 where
  pub numbers : All IsNumber xs
  pub kept : KeepsSum sum xs

-- the same of a list of answers: nothing where one of them is a fault, either
pub record IsSumOfAnswers (sum : Option Totals) (answers : List (Result XFrac NumFault)) : Type 0 where
  pub numbers : All IsNumber (filter_map result_ok answers)
  pub kept : MatchBool (list_all is_ok answers) (KeepsSum sum (filter_map result_ok answers)) (sum ≡ None)

-- a sum has room for one more number
abbrev pub HasRoom : Option Totals → Type 0
HasRoom sum = IfSome sum (λ s. s.count + 1 < 2 ^ 96)
