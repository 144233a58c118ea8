-- Patterns come first: each string right behind `=~` or `!~` stands for its pattern, under its number, and what the pattern
-- says of the empty text. That they are built before the text is read, and how many may be, is this project's own.
use Rattle.std.specs.Prelude.{◌≡◌, ◌≤◌, ℕ, Bool, true, false, List, [], ◌∷◌, length, ⊤}
use Rattle.std.specs.List.{AllByRecursion}
use Rattle.match_rule.specs.Patterns.{IsRefused, IsWholeId, is_kept, is_plain, is_readable, number_of, pattern_passes, regex_text, with_pattern}
use Rattle.label_set.specs.declared.rules.PatternId.{PatternId}
use Rattle.promql_ast.specs.declared.refusal.QueryRefusal.TheVariants.{BadPattern, TooManyPatterns}
use Rattle.promql_parts.specs.declared.lexeme.Sign.TheVariants.{Matches, Unmatched}
use Rattle.promql_parts.specs.declared.lexeme.Lexeme.{Lexeme}
use Rattle.promql_parts.specs.declared.lexeme.LexemeKind.{LexemeKind}
use Rattle.promql_parts.specs.declared.lexeme.LexemeKind.TheVariants as kinds

-- the patterns that are kept: whether each has to match a whole value, and its text
abbrev pub Kept : Type 0
Kept = List (Bool × List ℕ)

abbrev pub takes_pattern : LexemeKind → Bool
takes_pattern (kinds.Sign Matches) = true
takes_pattern (kinds.Sign Unmatched) = true
takes_pattern _ = false

abbrev pub is_string : LexemeKind → Bool
is_string (kinds.Quoted text) = true
is_string _ = false

abbrev pub is_bad : LexemeKind → Bool
is_bad (kinds.Bad refusal) = true
is_bad _ = false

-- what a string at a place is as a pattern: one that is kept, under its number, beside at most 31 others; or, where `regex` refuses its text or where
-- it would be one too many, a refusal, and nothing more is kept
pub data IsPattern (at : ℕ) (text : List ℕ) (before : Kept) : Kept → LexemeKind → Type 0 where
  kept : (after : Kept) (id : PatternId) (passes_empty : Bool) → is_readable true text ≡ true → after ≡ with_pattern (true, text) before → length after ≤ 32
      → id.0 ≡ number_of (true, text) before → passes_empty ≡ pattern_passes (true, text) [] → IsPattern at text before after (kinds.Pattern id passes_empty)
  refused : (after : Kept) → is_plain text ≡ false → IsRefused (regex_text true text) → after ≡ before → IsPattern at text before after (kinds.Bad (BadPattern at))
  too_many : (after : Kept) → is_readable true text ≡ true → is_kept (true, text) before ≡ false → length before ≡ 32 → after ≡ before
      → IsPattern at text before after (kinds.Bad (TooManyPatterns at))

-- What a lexeme becomes, and the patterns that are kept then: a string right behind `=~` or `!~` becomes its pattern, and any
-- other lexeme stays. `behind`: one of the two signs stands right before.
pub data Becomes (behind : Bool) (before : Kept) : Lexeme → Kept → Lexeme → Type 0 where
  same : (l : Lexeme) → behind ≡ false → Becomes behind before l before l
  other : (l : Lexeme) → is_string l.kind ≡ false → Becomes behind before l before l
  pattern : (l m : Lexeme) (text : List ℕ) (after : Kept) → behind ≡ true → l.kind ≡ kinds.Quoted text → m.at ≡ l.at → IsPattern l.at text before after m.kind
      → Becomes behind before l after m

-- Lexemes with patterns in place of their strings, from the patterns that were kept to those that are kept then. The first
-- lexeme that is refused is the last.
pub data Patterned : Bool → Kept → List Lexeme → Kept → List Lexeme → Type 0 where
  done : {behind : Bool} {kept : Kept} → Patterned behind kept [] kept []
  last : {behind : Bool} {kept : Kept} (l m : Lexeme) (ls : List Lexeme) (after : Kept) → Becomes behind kept l after m → is_bad m.kind ≡ true
      → Patterned behind kept (l ∷ ls) after (m ∷ [])
  more : {behind : Bool} {kept : Kept} (l m : Lexeme) (ls ms : List Lexeme) (then after : Kept) → Becomes behind kept l then m → is_bad m.kind ≡ false
      → Patterned (takes_pattern l.kind) then ls after ms → Patterned behind kept (l ∷ ls) after (m ∷ ms)

-- a lexeme that is a pattern has it kept under its number, for whole values
abbrev pub HasPattern : Kept → LexemeKind → Type 0
HasPattern known (kinds.Pattern id passes_empty) = IsWholeId known id.0
HasPattern known _ = ⊤

abbrev pub HavePatterns : Kept → List Lexeme → Type 0
HavePatterns known ls = AllByRecursion (λ l. HasPattern known l.kind) ls
