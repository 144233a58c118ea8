-- What a pattern's groups span, by what searches for it.
use Rattle.std.proofs.Common.{◌≡◌, ◌<◌, ◌∙◌, ℕ, List, [], ◌∷◌, Bool, true, false, Option, None, Some, IfOk, Vec, Global, if◌then◌else◌, length, subst, get_or}
use Rattle.std.specs.Prelude.{Result, Ok, Err}
use Rattle.std.specs.Option.{ForSome, option_map}
use Rattle.regex.specs.Patterns.{find_str}
use Rattle.regex.specs.Strings.{matcher_names, matcher_pattern}
use Rattle.regex.specs.declared.string.matcher.Matcher.{Matcher}
use Rattle.match_rule.specs.Patterns.{FindsAs, group_spans, is_plain, pattern_groups, plain_passes, regex_text}

abbrev Spanned : Type 0
Spanned = Option (Vec (Option (ℕ × ℕ)) Global)

-- a plain text has group 0 alone
pub plain_groups : {E : Type 0} (r : Result Spanned E) (shown text value : List ℕ) → shown ≡ text → is_plain text ≡ true
    → IfOk r (λ o. option_map (λ v. v.items) o ≡ (if plain_passes true shown value then Some (Some (0, length value) ∷ []) else None))
    → IfOk r (λ o. option_map (λ v. v.items) o ≡ pattern_groups text value)
plain_groups (Ok o) shown text value is plain told =
    rw plain (subst (λ (t : List ℕ). option_map (λ v. v.items) o ≡ (if plain_passes true t value then Some (Some (0, length value) ∷ []) else None)) is told)
plain_groups (Err e) shown text value is plain told = record {}

-- any other has the groups that are found
pub found_groups : {E : Type 0} (r : Result Spanned E) (m : Matcher) (whole : Bool) (text value : List ℕ) → is_plain text ≡ false → whole ≡ true
    → FindsAs (matcher_pattern m) (matcher_names m) (regex_text whole text) → ((k : ℕ) → get_or value k 0 < 256)
    → IfOk r (λ o. option_map (λ v. v.items) o ≡ option_map (group_spans (length (matcher_names m))) (find_str (matcher_pattern m) value 0))
    → IfOk r (λ o. option_map (λ v. v.items) o ≡ pattern_groups text value)
found_groups (Ok o) m whole text value off on finds bytes told =
    let as_whole = subst (λ (w : Bool). FindsAs (matcher_pattern m) (matcher_names m) (regex_text w text)) on finds in
    rw off (told ∙ as_whole.groups value bytes)
found_groups (Err e) m whole text value off on finds bytes told = record {}

-- what searches for what was built searches for its text
pub searches : (m : Matcher) (source text : List ℕ) → source ≡ text → FindsAs (matcher_pattern m) (matcher_names m) source
    → ForSome (Some m) (λ x. FindsAs (matcher_pattern x) (matcher_names x) text)
searches m source text is finds x e =
    let same : m ≡ x = cc in
    subst (λ (y : Matcher). FindsAs (matcher_pattern y) (matcher_names y) text) same (subst (FindsAs (matcher_pattern m) (matcher_names m)) is finds)
