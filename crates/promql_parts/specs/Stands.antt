-- A refusal stands whatever follows its lexeme: what a reader gives of some lexemes, beside what it gives where others follow
-- them. Where lexemes are left, nothing behind the first of them was looked at.
use Rattle.std.specs.Prelude.{ℕ, Bool, List, [], ◌∷◌, ◌++◌, Option, Result, Ok, Err}
use Rattle.promql_ast.specs.declared.refusal.QueryRefusal.{QueryRefusal}
use Rattle.promql_ast.specs.declared.refusal.QueryRefusal.TheVariants.{Expected}
use Rattle.promql_parts.specs.Labels.{grouping_at, grouping_behind}
use Rattle.promql_parts.specs.Operators.{matching_at}
use Rattle.promql_parts.specs.Selectors.{braces_at}
use Rattle.promql_parts.specs.Spans.{brackets_at, offset_at, when_at}
use Rattle.promql_parts.specs.declared.lexeme.Lexeme.{Lexeme}
use Rattle.promql_parts.specs.declared.operator.BinaryOp.{BinaryOp}

-- What is read of some lexemes in a text that ends there, and what is read where more follow: the same value and the same
-- refusal, unless all lexemes were read or more was expected at the end. `Put` puts a value before what is left.
pub data Stands {X B : Type 0} (Put : X → List Lexeme → B) (end : ℕ) (more : List Lexeme) : Result B QueryRefusal → Result B QueryRefusal → Type 0 where
  goes : (x : X) (l : Lexeme) (ls : List Lexeme) → Stands Put end more (Ok (Put x (l ∷ ls))) (Ok (Put x (l ∷ ls ++ more)))
  all : (x : X) (other : Result B QueryRefusal) → Stands Put end more (Ok (Put x [])) other
  stops : (refusal : QueryRefusal) → Stands Put end more (Err refusal) (Err refusal)
  wants : (other : Result B QueryRefusal) → Stands Put end more (Err (Expected end)) other

abbrev pub pair : {X : Type 0} → X → List Lexeme → X × List Lexeme
pair x ls = (x, ls)

-- of a reader, by the text's length
abbrev pub StandsAlways : {X : Type 0} → (ℕ → List Lexeme → Result (X × List Lexeme) QueryRefusal) → Type 0
StandsAlways {X} reader = (end other : ℕ) (ls more : List Lexeme) → Stands (pair {X = X}) end more (reader end ls) (reader other (ls ++ more))

abbrev pub GroupingStands : Type 0
GroupingStands = (without : Bool) (l : Lexeme) → StandsAlways (λ end ls. grouping_at without end (l ∷ ls))

abbrev pub GroupingBehindStands : Type 0
GroupingBehindStands = StandsAlways grouping_behind

abbrev pub BracesStand : Type 0
BracesStand = (name : Option (List ℕ)) → StandsAlways (λ end ls. braces_at end name ls)

abbrev pub BracketsStand : Type 0
BracketsStand = (plain : Bool) → StandsAlways (brackets_at plain)

abbrev pub OffsetStands : Type 0
OffsetStands = StandsAlways offset_at

abbrev pub TimeStands : Type 0
TimeStands = StandsAlways when_at

abbrev pub MatchingStands : Type 0
MatchingStands = (op : BinaryOp) → StandsAlways (matching_at op)
