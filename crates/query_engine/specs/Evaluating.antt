-- What the text of a query comes to: the query is read, then typed, then answered over the samples. (Prometheus' instant and
-- range queries; the refusals and their order are this project's own.)
use Rattle.std.specs.Prelude.{◌≡◌, ℕ, Bool, List, [], None, Ok, Err, ⊤}
use Rattle.promql_ast.specs.Edged.{edged}
use Rattle.promql_ast.specs.declared.refusal.QueryRefusal.{QueryRefusal}
use Rattle.promql_ast.specs.declared.tree.Expr.{Expr}
use Rattle.promql_meaning.specs.Results.{result_of}
use Rattle.promql_meaning.specs.Selecting.{AllSeries, asked_over}
use Rattle.promql_meaning.specs.declared.answer.Outcome.{Outcome}
use Rattle.promql_meaning.specs.declared.answer.Outcome.TheVariants as outcome
use Rattle.promql_parse.specs.Parsing.{Parses}
use Rattle.promql_type.specs.Answers.{IsLeastRefusal, refusals_of}
use Rattle.promql_type.specs.Judging.{judged}
use Rattle.promql_type.specs.Replacements.{AreBuilt, Kept}
use Rattle.promql_type.specs.Settled.{settled}
use Rattle.ticks.specs.declared.grid.Grid.{Grid}

-- A text is refused: it is no query of the grammar, or its tree has a least refusal by its types and patterns.
pub data IsRefusedWith (text : List ℕ) : QueryRefusal → Type 0 where
  unread : (kept : Kept) (refusal : QueryRefusal) → Parses text [] kept (Err refusal) → IsRefusedWith text refusal
  untyped : (read kept : Kept) (tree : Expr) (refusal : QueryRefusal) → Parses text [] read (Ok tree) → IsLeastRefusal tree read kept refusal → IsRefusedWith text refusal

-- A text is taken: it is a query of the grammar, nothing refuses its tree, and all patterns of it are kept; then it stands for
-- the typed tree over these patterns.
pub record StandsFor (text : List ℕ) (kept : Kept) (e : Expr) : Type 0 where
  pub read : Kept
  pub tree : Expr
  pub parses : Parses text [] read (Ok tree)
  pub taken : refusals_of tree ≡ []
  pub built : AreBuilt read (judged tree).replacements kept None
  pub typed : e ≡ settled tree

-- What a text comes to over samples and a grid: its refusal, or the result of its typed tree, each of whose windows is closed on
-- the left, or each open, as is asked for.
pub data ComesTo (text : List ℕ) (samples : AllSeries) (grid : Grid) (instant closed : Bool) : Outcome → Type 0 where
  refused : (refusal : QueryRefusal) → IsRefusedWith text refusal → ComesTo text samples grid instant closed (outcome.Refused refusal)
  answered : (kept : Kept) (e : Expr) (answer : Outcome) → StandsFor text kept e → answer ≡ result_of (asked_over samples kept grid) (edged closed e) grid instant
      → ComesTo text samples grid instant closed answer

abbrev pub IsRefused : Outcome → Type 0
IsRefused (outcome.Refused refusal) = ⊤
IsRefused _ = ⊥
