-- Where the label_replace calls of a query stand: no two of them begin at one byte of its text. (This project's own.)
use Rattle.std.specs.Prelude.{◌≡◌, ℕ, Bool, List, [], ◌∷◌, Ok, ⊤}
use Rattle.std.specs.List.{AllByRecursion}
use Rattle.promql_ast.specs.Edged.{edged}
use Rattle.promql_ast.specs.declared.tree.Expr.{Expr}
use Rattle.promql_parse.specs.Parsing.{Parses}
use Rattle.promql_parts.specs.Patterned.{Kept}
use Rattle.promql_type.specs.Judging.{judged}
use Rattle.promql_type.specs.Settled.{settled}
use Rattle.promql_type.specs.declared.replace.Replacement.{Replacement}

-- no two calls stand at one place
abbrev pub StandApart : List Replacement → Type 0
StandApart [] = ⊤
StandApart (r ∷ rs) = AllByRecursion (λ (s : Replacement). r.at ≡ s.at → ⊥) rs × StandApart rs

-- so do the calls of the typed tree of a text, whatever the edge of its windows
abbrev pub CallsStandApart : Type 0
CallsStandApart =
    (text : List ℕ) (before after : Kept) (e : Expr) (closed : Bool) → Parses text before after (Ok e) → StandApart (judged (edged closed (settled e))).replacements
