-- What the evaluation of a typed tree at an instant asks for. (Our own.)
use Rattle.std.specs.Prelude.{◌≡◌, ℕ, ℤ, Bool, true, List, [], Some, slice_get}
use Rattle.std.specs.List.{AllByRecursion}
use Rattle.promql_ast.specs.declared.tree.Expr.{Expr}
use Rattle.promql_type.specs.Judging.{judged}
use Rattle.promql_type.specs.declared.replace.Replacement.{Replacement}
use Rattle.promql_meaning.specs.Conditions.{AreMet, needs_of}
use Rattle.promql_meaning.specs.Selecting.{Asked}

-- a text is kept, as a pattern that has to match the whole value, under some number
pub record IsKeptWhole (kept : List (Bool × List ℕ)) (text : List ℕ) : Type 0 where
  pub number : ℕ
  pub there : slice_get kept number ≡ Some (true, text)

-- so is the text of a label_replace call
abbrev pub IsPatternKept : List (Bool × List ℕ) → Replacement → Type 0
IsPatternKept kept r = IsKeptWhole kept r.text

-- so are those of all calls of a tree
abbrev pub ArePatternsKept : List (Bool × List ℕ) → Expr → Type 0
ArePatternsKept kept e = AllByRecursion (IsPatternKept kept) (judged e).replacements

-- at an instant the tree's needs are met, it is well typed, and the patterns of its calls are kept
pub record IsReady (asked : Asked) (e : Expr) (t : ℤ) : Type 0 where
  pub met : AreMet asked (needs_of asked e t)
  pub typed : (judged e).refusals ≡ []
  pub patterns : ArePatternsKept asked.kept e
