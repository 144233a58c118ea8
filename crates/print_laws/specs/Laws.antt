-- The canonical text of a tree that was read is read as the same tree. (This project's own.)
use Rattle.std.specs.Prelude.{◌≡◌, ◌≤◌, ℕ, List, length, Ok}
use Rattle.print_laws.specs.Same.{unplaced}
use Rattle.promql_ast.specs.declared.tree.Expr.{Expr}
use Rattle.promql_parse.specs.Parsing.{Parses, most_bytes}
use Rattle.promql_parts.specs.Patterned.{Kept}
use Rattle.promql_print.specs.Canonical.{canonical}

-- Of a tree that a text gives, with the patterns that are kept then: its canonical text, unless it is longer than a query may be, gives
-- the same tree but for the places, and no more patterns are kept.
abbrev pub CanonicalTextsAreRead : Type 0
CanonicalTextsAreRead =
    (text : List ℕ) (before kept : Kept) (e : Expr) → Parses text before kept (Ok e) → length (canonical kept e) ≤ most_bytes
    → (f : Expr) × Parses (canonical kept e) kept kept (Ok f) × (unplaced f ≡ unplaced e)

-- The same over the patterns that were kept before the text: then the same patterns are kept, under the same numbers.
abbrev pub CanonicalTextsAreReadAnew : Type 0
CanonicalTextsAreReadAnew =
    (text : List ℕ) (before kept : Kept) (e : Expr) → Parses text before kept (Ok e) → length (canonical kept e) ≤ most_bytes
    → (f : Expr) × Parses (canonical kept e) before kept (Ok f) × (unplaced f ≡ unplaced e)
