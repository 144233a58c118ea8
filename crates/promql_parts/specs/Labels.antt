-- Labels, lists of them and groupings: `grouping_label`, `grouping_labels` and `aggregate_modifier` of Prometheus' grammar.
-- A word may be a label, and a string; that an empty one is refused is this project's own.
use Rattle.std.specs.Prelude.{ℕ, Bool, true, false, ◌==◌, if◌then◌else◌, List, [], ◌∷◌, ◌++◌, drop, Option, Some, None, Result, Ok, Err, bytes_eq}
use Rattle.std.specs.List.{list_any}
use Rattle.label_set.specs.declared.rules.Grouping.{Grouping}
use Rattle.promql_ast.specs.declared.refusal.QueryRefusal.{QueryRefusal}
use Rattle.promql_ast.specs.declared.refusal.QueryRefusal.TheVariants.{BadLabelName, LabelTwice}
use Rattle.promql_parts.specs.declared.lexeme.Lexeme.{Lexeme}
use Rattle.promql_parts.specs.declared.lexeme.LexemeKind.{LexemeKind}
use Rattle.promql_parts.specs.declared.lexeme.LexemeKind.TheVariants as kinds
use Rattle.promql_parts.specs.declared.lexeme.Sign.{Sign}
use Rattle.promql_parts.specs.declared.lexeme.Sign.TheVariants.{LeftParen, RightParen, Comma}
use Rattle.promql_lex.specs.declared.word.Word.TheVariants.{By, Without}
use Rattle.promql_parts.specs.Reads.{Read, Turn, ◌>>=◌, refused, refused_at, begins, after, all_turns}

-- a colon stands in a metric's name alone
abbrev pub has_colon : List ℕ → Bool
has_colon name = list_any (λ byte. byte == 58) name

-- the label that a lexeme is: a name without a colon, a word or a string
abbrev pub label_of : LexemeKind → Option (List ℕ)
label_of (kinds.Name name) = if has_colon name then None else Some name
label_of (kinds.Word word spelling) = Some spelling
label_of (kinds.Quoted text) = Some text
label_of _ = None

-- behind an item of a list: a comma, behind which another item may follow, or the sign that closes the list, which stays
unfoldable pub item_behind : ℕ → Sign → List Lexeme → Read Bool
item_behind end close ls = if begins Comma ls then Ok (true, drop 1 ls) else if begins close ls then Ok (false, ls) else Err (refused_at end ls)

abbrev pub is_among : List (List ℕ) → List ℕ → Bool
is_among labels label = list_any (λ other. bytes_eq other label) labels

-- a label that isn't empty and isn't among those that are taken
abbrev pub judged : List (List ℕ) → ℕ → List ℕ → Result (List ℕ) QueryRefusal
judged taken at [] = Err (BadLabelName at)
judged taken at (byte ∷ bytes) = if is_among taken (byte ∷ bytes) then Err (LabelTwice at) else Ok (byte ∷ bytes)

abbrev pub label_kind : List (List ℕ) → Lexeme → Option (List ℕ) → Result (List ℕ) QueryRefusal
label_kind taken l None = Err (refused l)
label_kind taken l (Some label) = judged taken l.at label

abbrev pub label_at : List (List ℕ) → ℕ → List Lexeme → Read (List ℕ)
label_at taken end [] = Err (refused_at end [])
label_at taken end (l ∷ ls) = label_kind taken l (label_of l.kind) >>= λ label. Ok (label, ls)

-- one more label, up to the closing parenthesis
unfoldable pub labels_turn : List (List ℕ) → ℕ → Turn (List (List ℕ))
labels_turn taken end sofar ls =
    if begins RightParen ls then Ok (false, sofar, ls) else (do
      label ← label_at taken end ls
      next ← item_behind end RightParen label.1
      Ok (next.0, sofar ++ label.0 ∷ [], next.1))

-- labels in parentheses, none of which is among those that are taken; a last comma is taken
unfoldable pub labels_at : List (List ℕ) → ℕ → List Lexeme → Read (List (List ℕ))
labels_at taken end ls = do
  inside ← after end LeftParen ls
  labels ← all_turns (labels_turn taken end) [] inside
  rest ← after end RightParen labels.1
  Ok (labels.0, rest)

-- whether a lexeme begins a grouping, and whether that leaves labels out
abbrev pub grouping_word : LexemeKind → Option Bool
grouping_word (kinds.Word By spelling) = Some false
grouping_word (kinds.Word Without spelling) = Some true
grouping_word _ = None

abbrev pub grouping_begun : List Lexeme → Option Bool
grouping_begun [] = None
grouping_begun (l ∷ ls) = grouping_word l.kind

abbrev pub grouping_of : Bool → List (List ℕ) → Grouping
grouping_of without names = record { without = without; names = names }

-- one group of all rows
abbrev pub no_grouping : Grouping
no_grouping = grouping_of false []

-- the labels of a grouping whose word stands at the front
unfoldable pub grouping_at : Bool → ℕ → List Lexeme → Read Grouping
grouping_at without end ls = labels_at [] end (drop 1 ls) >>= λ names. Ok (grouping_of without names.0, names.1)

-- a grouping, if one stands at the front
abbrev pub optional_grouping : Option Bool → ℕ → List Lexeme → Read Grouping
optional_grouping None end ls = Ok (no_grouping, ls)
optional_grouping (Some without) end ls = grouping_at without end ls

abbrev pub grouping_behind : ℕ → List Lexeme → Read Grouping
grouping_behind end ls = optional_grouping (grouping_begun ls) end ls
