-- Patterns: what a text means that a label's value is tested by.
-- Prometheus, "Time series selectors": `=~` and `!~` take a regular expression that has to match the whole value.
-- That a text with no special character is a list of words, each of which stands for itself, follows from that; it is this
-- project's own rule that such a text never reaches the regular expressions. Those are Rust's, by the words of `regex`.
use Rattle.std.specs.Prelude.{◌≡◌, ◌≢◌, ℕ, zero, suc, slice_index, ◌<◌, ◌≤◌, Bool, true, false, List, [], ◌∷◌, ◌++◌, length, codes, bytes_eq, is_some, not, nat_lt, chars, slice_get, ◌==◌, ◌&&◌, ◌||◌, if◌then◌else◌, Option, None, Some, IsCharBoundary}
use Rattle.std.specs.List.{AllByRecursion, list_all, list_any, position_or_len, slice_split}
use Rattle.std.specs.Option.{option_map}
use Rattle.regex.specs.Patterns.{Re, Match, find_str, default_config}
use Rattle.regex.specs.Patterns.{span}
use Rattle.regex.specs.Strings.{IsDefaultFailure, captures_span, regex_names, regex_pattern}
use Rattle.regex.specs.Writes.{group_of}
use Rattle.regex.specs.declared.string.captures.Captures.{Captures}
use Rattle.regex.specs.declared.string.regex.Regex.{Regex}
use Rattle.match_rule.specs.declared.patterns.PatternRefusal.{PatternRefusal}
use Rattle.match_rule.specs.declared.patterns.PatternRefusal.TheVariants.{BadPattern, TooManyPatterns, Memory}
use Rattle.regex.specs.declared.error.Error.{Error}
use Rattle.regex.specs.declared.error.Error.TheVariants.{OutOfMemory}
use Rattle.regex_syntax.specs.Brackets.{Nested}
use Rattle.regex_syntax.specs.Grammar.{Names, read}
use Rattle.label_set.specs.Labels.{value_of}
use Rattle.label_set.specs.declared.rules.Rule.{Rule}
use Rattle.label_set.specs.declared.rules.RuleKind.{RuleKind}
use Rattle.label_set.specs.declared.rules.RuleKind.TheVariants.{Eq, Ne, Re as Matching, Nre}

-- the characters of which a plain text has none
abbrev pub special : List ℕ
special = codes "\\.+*?()[]{}^$"

abbrev pub is_special : ℕ → Bool
is_special b = list_any (λ c. c == b) special

abbrev pub is_plain : List ℕ → Bool
is_plain text = not (list_any is_special text)

-- the words of a plain text, which `|` parts; a word may be empty
abbrev pub words : List ℕ → List (List ℕ)
words text = slice_split (λ b. b == 124) text

-- whether a text begins with a word
abbrev pub begins_with : List ℕ → List ℕ → Bool
begins_with [] text = true
begins_with (b ∷ word) [] = false
begins_with (b ∷ word) (c ∷ text) = b == c && begins_with word text

-- whether a word stands in a text
abbrev pub stands_in : List ℕ → List ℕ → Bool
stands_in word [] = begins_with word []
stands_in word (b ∷ text) = begins_with word (b ∷ text) || stands_in word text

-- whether a plain text passes a value: the value is one of its words or, where a part is enough, has one of them in it
abbrev pub plain_passes : Bool → List ℕ → List ℕ → Bool
plain_passes whole text value = list_any (λ word. if whole then bytes_eq word value else stands_in word value) (words text)

-- the text that `regex` is given: for a whole value it is anchored at both ends, and dot is any character
abbrev pub regex_text : Bool → List ℕ → List ℕ
regex_text whole text = if whole then codes "^(?s:" ++ text ++ codes ")$" else text

-- what the grammar of `regex` reads in a text under its usual options
abbrev pub regex_tree : List ℕ → Option Re
regex_tree text = option_map (λ found. found.0.value) (read default_config (chars text))

-- the leftmost match that `regex` finds in a value
abbrev pub found_by : Option Re → List ℕ → Option Match
found_by None value = None
found_by (Some re) value = find_str re value 0

-- what the first groups of a match span, from group 0, the whole match, on
abbrev pub group_spans : ℕ → Match → List (Option (ℕ × ℕ))
group_spans zero m = []
group_spans (suc n) m = group_spans n m ++ (if n == 0 then Some (span m) else group_of m n) ∷ []

-- what the groups of a pattern with its names span in a value, if it is found there
abbrev pub groups_read : Option (Nested Re × Names) → List ℕ → Option (List (Option (ℕ × ℕ)))
groups_read None value = None
groups_read (Some found) value = option_map (group_spans (length found.1)) (find_str found.0.value value 0)

-- the same for the pattern that the grammar of `regex` reads in a text
abbrev pub regex_groups : List ℕ → List ℕ → Option (List (Option (ℕ × ℕ)))
regex_groups text value = groups_read (read default_config (chars text)) value

-- whether `regex` finds a text's pattern in a value
abbrev pub regex_finds : List ℕ → List ℕ → Bool
regex_finds text value = is_some (found_by (regex_tree text) value)

-- the grammar reads a text, and a pattern with its names of groups finds, in every list of bytes, what the text does
pub record FindsAs (re : Re) (names : List (Option (List ℕ))) (text : List ℕ) : Type 0 where
  pub read : is_some (regex_tree text) ≡ true
  pub found : (value : List ℕ) → ((k : ℕ) → slice_index value k < 256) → is_some (find_str re value 0) ≡ regex_finds text value
  pub groups : (value : List ℕ) → ((k : ℕ) → slice_index value k < 256) → option_map (group_spans (length names)) (find_str re value 0) ≡ regex_groups text value

-- a built pattern does
abbrev pub IsFinder : Regex → List ℕ → Type 0
IsFinder regex text = FindsAs (regex_pattern regex) (regex_names regex) text

-- a text is plain, or the grammar of `regex` reads what `regex` is given for it
abbrev pub is_readable : Bool → List ℕ → Bool
is_readable whole text = is_plain text || is_some (regex_tree (regex_text whole text))

-- what the groups of a pattern for whole values span, where the value passes; a plain text has group 0 alone
abbrev pub pattern_groups : List ℕ → List ℕ → Option (List (Option (ℕ × ℕ)))
pattern_groups text value =
    if is_plain text then (if plain_passes true text value then Some (Some (0, length value) ∷ []) else None)
    else regex_groups (regex_text true text) value

-- A pattern is a flag, which says whether it has to match the whole value, and its text. What it passes:
abbrev pub pattern_passes : Bool × List ℕ → List ℕ → Bool
pattern_passes pattern value =
    if is_plain pattern.1 then plain_passes pattern.0 pattern.1 value else regex_finds (regex_text pattern.0 pattern.1) value

-- what a pattern passes, if there is one
abbrev pub passes_by : Option (Bool × List ℕ) → List ℕ → Bool
passes_by None value = false
passes_by (Some pattern) value = pattern_passes pattern value

-- what the pattern of a number passes
abbrev pub passes_at : List (Bool × List ℕ) → ℕ → List ℕ → Bool
passes_at kept id value = passes_by (slice_get kept id) value

-- what the groups of the pattern of a number span, which has to match the whole value
abbrev pub groups_at : List (Bool × List ℕ) → ℕ → List ℕ → Option (List (Option (ℕ × ℕ)))
groups_at kept id value = groups_by (slice_get kept id)
  where
    groups_by : Option (Bool × List ℕ) → Option (List (Option (ℕ × ℕ)))
    groups_by None = None
    groups_by (Some pattern) = pattern_groups pattern.1 value

-- what the first groups of captures span
abbrev pub first_spans : Captures → ℕ → List (Option (ℕ × ℕ))
first_spans captures zero = []
first_spans captures (suc n) = first_spans captures n ++ captures_span captures n ∷ []

-- a span is a part of a value, cut between characters
abbrev pub IsCutFrom : List ℕ → ℕ × ℕ → Type 0
IsCutFrom value s = (s.0 ≤ s.1) × IsCharBoundary value s.0 × IsCharBoundary value s.1

-- each group that took part spans a part of the value, cut between characters
abbrev pub AreCutFrom : List ℕ → List (Option (ℕ × ℕ)) → Type 0
AreCutFrom value spans = (k : ℕ) (s : ℕ × ℕ) → slice_get spans k ≡ Some (Some s) → IsCutFrom value s

-- `regex` refuses a text, and not for want of memory
abbrev pub IsRefused : List ℕ → Type 0
IsRefused text = (error : Error) × (error ≢ OutOfMemory) × IsDefaultFailure text error

-- which refusals come where a fact holds of them
abbrev pub MayRefuse : Type 0 → Type 0 → PatternRefusal → Type 0
MayRefuse bad many BadPattern = bad
MayRefuse bad many TooManyPatterns = many
MayRefuse bad many Memory = Unit {0}

abbrev pub is_pattern : Bool × List ℕ → Bool × List ℕ → Bool
is_pattern p q = (if p.0 then q.0 else not q.0) && bytes_eq p.1 q.1

-- the number of a pattern, or the next one where it is not kept
abbrev pub number_of : Bool × List ℕ → List (Bool × List ℕ) → ℕ
number_of p kept = position_or_len (is_pattern p) kept

abbrev pub is_kept : Bool × List ℕ → List (Bool × List ℕ) → Bool
is_kept p kept = nat_lt (number_of p kept) (length kept)

-- the kept patterns with one more, if it isn't there
abbrev pub with_pattern : Bool × List ℕ → List (Bool × List ℕ) → List (Bool × List ℕ)
with_pattern p kept = if is_kept p kept then kept else kept ++ p ∷ []

-- what is kept: 32 patterns at most, each of them plain or read by the grammar of `regex`
pub record MayBeKept (kept : List (Bool × List ℕ)) : Type 0 where
  pub few : length kept ≤ 32
  pub readable : (k : ℕ) (p : Bool × List ℕ) → slice_get kept k ≡ Some p → is_readable p.0 p.1 ≡ true

-- whether a value passes a test
abbrev pub kind_passes : List (Bool × List ℕ) → RuleKind → List ℕ → Bool
kind_passes kept (Eq text) value = bytes_eq value text
kind_passes kept (Ne text) value = not (bytes_eq value text)
kind_passes kept (Matching id) value = passes_at kept id.0 value
kind_passes kept (Nre id) value = not (passes_at kept id.0 value)

-- a number of a pattern for whole values
abbrev pub IsWholeId : List (Bool × List ℕ) → ℕ → Type 0
IsWholeId kept id = option_map (λ p. p.0) (slice_get kept id) ≡ Some true

-- the patterns that a test names are kept, for whole values
abbrev pub HasItsPattern : List (Bool × List ℕ) → RuleKind → Type 0
HasItsPattern kept (Eq text) = Unit {0}
HasItsPattern kept (Ne text) = Unit {0}
HasItsPattern kept (Matching id) = IsWholeId kept id.0
HasItsPattern kept (Nre id) = IsWholeId kept id.0

-- each rule has its pattern
abbrev pub HaveTheirPatterns : List (Bool × List ℕ) → List Rule → Type 0
HaveTheirPatterns kept rules = AllByRecursion (λ rule. HasItsPattern kept rule.kind) rules

-- whether labels pass each of some rules; a missing label is the empty text
abbrev pub labels_pass : List (Bool × List ℕ) → List Rule → List (List ℕ × List ℕ) → Bool
labels_pass kept rules names = list_all (λ rule. kind_passes kept rule.kind (value_of names rule.label)) rules
