-- What comes of keeping the patterns of label_replace calls, in the order of the text. Whether a text that isn't plain is a
-- pattern is what `regex` answers. The limit of patterns is this project's own.
use Rattle.std.specs.Prelude.{◌≡◌, ◌≤◌, ℕ, Bool, true, false, List, [], ◌∷◌, ◌++◌, length, slice_get, Some, Option, None, ⊤}
use Rattle.std.specs.List.{AllByRecursion}
use Rattle.promql_ast.specs.declared.refusal.QueryRefusal.{QueryRefusal}
use Rattle.promql_ast.specs.declared.refusal.QueryRefusal.TheVariants.{BadPattern, TooManyPatterns}
use Rattle.match_rule.specs.Patterns.{IsRefused, is_kept, is_plain, is_readable, regex_text, with_pattern}
use Rattle.promql_type.specs.declared.replace.Placed.{Placed}
use Rattle.promql_type.specs.declared.replace.Replacement.{Replacement}

-- the patterns that are kept: each with the flag whether it has to match a whole value, and its text
abbrev pub Kept : Type 0
Kept = List (Bool × List ℕ)

-- the patterns that are kept once these are
abbrev pub kept_with : Kept → List Replacement → Kept
kept_with kept [] = kept
kept_with kept (r ∷ rs) = kept_with (with_pattern (true, r.text) kept) rs

-- each of these can be read; they are kept behind those that were, and at most 32 are kept then
pub record AreTaken (before : Kept) (wanted : List Replacement) (after : Kept) : Type 0 where
  pub kept : after ≡ kept_with before wanted
  pub readable : AllByRecursion (λ (r : Replacement). is_readable true r.text ≡ true) wanted
  pub few : length before ≤ 32 → length after ≤ 32

-- why one is refused, at its string: `regex` refuses a text that isn't plain, or it can be read and 32 others are kept. One
-- that is kept is never refused.
abbrev pub HasCause : Kept → Replacement → QueryRefusal → Type 0
HasCause kept r (BadPattern at) = (at ≡ r.place) × (is_plain r.text ≡ false) × (is_kept (true, r.text) kept ≡ false) × IsRefused (regex_text true r.text)
HasCause kept r (TooManyPatterns at) = (at ≡ r.place) × (is_readable true r.text ≡ true) × (is_kept (true, r.text) kept ≡ false) × (length kept ≡ 32)
HasCause kept r other = ⊥

-- the first of several that is refused; those before it are kept
pub record IsFirstRefused (before : Kept) (wanted : List Replacement) (after : Kept) (refusal : QueryRefusal) : Type 0 where
  pub front : List Replacement
  pub string : Replacement
  pub behind : List Replacement
  pub split : wanted ≡ front ++ string ∷ behind
  pub taken : AreTaken before front after
  pub cause : HasCause after string refusal

-- all are taken, or one is refused first
abbrev pub AreBuilt : Kept → List Replacement → Kept → Option QueryRefusal → Type 0
AreBuilt before wanted after None = AreTaken before wanted after
AreBuilt before wanted after (Some refusal) = IsFirstRefused before wanted after refusal

-- each has a number under which its text is kept, in the same order
abbrev pub AreKept : Kept → List Replacement → List Placed → Type 0
AreKept kept [] [] = ⊤
AreKept kept [] (p ∷ ps) = ⊥
AreKept kept (r ∷ rs) [] = ⊥
AreKept kept (r ∷ rs) (p ∷ ps) = (p.at ≡ r.at) × (slice_get kept p.id.0 ≡ Some (true, r.text)) × AreKept kept rs ps
