-- What files, queries and expressions come to, where that is one thing. (This project's own.)
use Rattle.std.specs.Prelude.{◌≡◌, ℕ, Bool, false, List, Option, None, Some, Ok, length}
use Rattle.std.specs.List.{AllByRecursion}
use Rattle.logical_plan.specs.declared.nodes.Plan.{Plan}
use Rattle.plan_rewrites.specs.declared.choosing.Choices.{Choices as Rewrites}
use Rattle.promql_ast.specs.declared.refusal.QueryRefusal.{QueryRefusal}
use Rattle.promql_ast.specs.declared.tree.Expr.{Expr}
use Rattle.promql_meaning.specs.declared.answer.Outcome.{Outcome}
use Rattle.promql_type.specs.Replacements.{Kept}
use Rattle.query_engine.specs.Evaluating.{IsRefusedWith, StandsFor}
use Rattle.query_engine.specs.Planning.{HasPlan}
use Rattle.script_read.specs.Outcomes.{PatternList}
use Rattle.script_read.specs.declared.script.Script.{Script}
use Rattle.test_runner.specs.Running.{IsAnswerOver}
use Rattle.test_runner.specs.Verdicts.{Judged}
use Rattle.ticks.specs.Moments.{Moments, moments_in}
use Rattle.ticks.specs.declared.grid.Grid.{Grid}
use Rattle.tool_words.specs.Asked.{Wish, explain, format, query, test, workload}
use Rattle.promql_tool.specs.Chosen.{Terms, terms_in}
use Rattle.promql_tool.specs.Files.{IsJudged}
use Rattle.promql_tool.specs.Found.{Have, Just}
use Rattle.promql_tool.specs.Printed.{rewrites_in}
use Rattle.promql_tool.specs.Query.{AreNoteLines, notes_in}
use Rattle.promql_tool.specs.Reading.{IsReadAs, IsRefusedFor}
use Rattle.promql_tool.specs.Workload.{workload_path, workload_text}
use Rattle.promql_tool.specs.declared.fault.Refusal.{Refusal}

-- what a file comes to: it isn't there, or is refused, or its evaluations have these verdicts
pub data Seen : Type 0 where
  NotThere : Seen
  NotRun : Refusal → Seen
  Run : List Judged → Seen

-- a file comes to this
abbrev pub IsSeen : Terms → (List ℕ → Option (List ℕ) → Type 0) → List ℕ → Seen → Type 0
IsSeen terms found path NotThere = found path None
IsSeen terms found path (NotRun refusal) = (bytes : List ℕ) × found path (Some bytes) × IsRefusedFor terms bytes refusal
IsSeen terms found path (Run verdicts) = IsJudged terms found path verdicts

-- a file comes to one thing
abbrev pub ComesToOne : Terms → (List ℕ → Option (List ℕ) → Type 0) → List ℕ → Type 0
ComesToOne terms found path = (a b : Seen) → IsSeen terms found path a → IsSeen terms found path b → a ≡ b

-- what a query over a file comes to: the file isn't there, or is refused, or the expression has this outcome, whose notes have these
-- lines
pub data Told : Type 0 where
  NoFile : Told
  NoScript : Refusal → Told
  Came : Outcome → List (List ℕ) → Told

-- an expression has this outcome at these moments over the samples that a file leaves, and its notes have these lines
pub record CameOver (terms : Terms) (moments : Moments) (found : List ℕ → Option (List ℕ) → Type 0) (path expr : List ℕ) (got : Outcome) (notes : List (List ℕ)) : Type 0 where
  pub grid : Grid
  pub instant : Bool
  pub at : moments ≡ moments_in grid instant
  pub bytes : List ℕ
  pub is_found : found path (Some bytes)
  pub kept : PatternList
  pub script : Script
  pub is_read : IsReadAs kept bytes (Ok script)
  pub over : IsAnswerOver terms.declared script expr grid instant terms.closed got
  pub lines : AreNoteLines (notes_in got) notes

abbrev pub IsToldSo : Terms → Moments → (List ℕ → Option (List ℕ) → Type 0) → List ℕ → List ℕ → Told → Type 0
IsToldSo terms moments found path expr NoFile = found path None
IsToldSo terms moments found path expr (NoScript refusal) = (bytes : List ℕ) × found path (Some bytes) × IsRefusedFor terms bytes refusal
IsToldSo terms moments found path expr (Came got notes) = CameOver terms moments found path expr got notes

-- a query comes to one thing
abbrev pub IsAnsweredOnce : Terms → Moments → (List ℕ → Option (List ℕ) → Type 0) → List ℕ → List ℕ → Type 0
IsAnsweredOnce terms moments found path expr = (a b : Told) → IsToldSo terms moments found path expr a → IsToldSo terms moments found path expr b → a ≡ b

-- what an expression is read as: the typed tree that it stands for, whose patterns are kept, or its refusal
pub data Read : Type 0 where
  Tree : Kept → Expr → Read
  NoTree : QueryRefusal → Read

abbrev pub IsReadSo : List ℕ → Read → Type 0
IsReadSo expr (Tree kept tree) = StandsFor expr kept tree
IsReadSo expr (NoTree refusal) = IsRefusedWith expr refusal

-- an expression is read as one thing
abbrev pub IsReadOnce : List ℕ → Type 0
IsReadOnce expr = (a b : Read) → IsReadSo expr a → IsReadSo expr b → a ≡ b

-- what an expression is planned as over so many engines: its plan behind some rewrites, whose patterns are kept, or its refusal
pub data Outline : Type 0 where
  Planned : Kept → Plan → Outline
  NoPlan : QueryRefusal → Outline

abbrev pub IsPlannedSo : ℕ → Rewrites → List ℕ → Outline → Type 0
IsPlannedSo engines rewrites expr (Planned kept plan) = HasPlan expr engines rewrites false kept plan
IsPlannedSo engines rewrites expr (NoPlan refusal) = IsRefusedWith expr refusal

-- an expression is planned as one thing
abbrev pub IsPlannedOnce : ℕ → Rewrites → List ℕ → Type 0
IsPlannedOnce engines rewrites expr = (a b : Outline) → IsPlannedSo engines rewrites expr a → IsPlannedSo engines rewrites expr b → a ≡ b

-- What words ask for comes to one thing: each of the files, the query, the script of the workload, or the expression or the plan
-- that is printed.
abbrev pub IsSettled : Option Wish → (List ℕ → Option (List ℕ)) → Type 0
IsSettled None files = Unit {0}
IsSettled (Some (test choices engines paths)) files = AllByRecursion (ComesToOne (terms_in choices engines) (Have files)) paths
IsSettled (Some (query choices engines moments path expr)) files = IsAnsweredOnce (terms_in choices engines) moments (Have files) path expr
IsSettled (Some (workload choices engines series)) files = ComesToOne (terms_in choices engines) (Just (workload_text series)) workload_path
IsSettled (Some (format expr)) files = IsReadOnce expr
IsSettled (Some (explain optimisers engines expr)) files = IsPlannedOnce (length engines) (rewrites_in optimisers) expr
