-- A built pattern finds what its text does.
use Rattle.std.proofs.Common.{◌≡◌, ℕ, ◌*◌, ◌+◌, ◌<◌, ◌≤◌, ◌++◌, ◌∷◌, [], zero, suc, true, false, List, Option, None, Some, is_some, length, chars, refl, sym, ap, ◌∙◌, get_or, cond, eqb, arith}
use Rattle.std.specs.Option.{IsSomeAnd, option_map}
use Rattle.std.proofs.lemmas.Bool.Decides.{nat_tests}
use Rattle.std.proofs.lemmas.List.{get_or_default}
use Rattle.regex.specs.declared.string.captures.Captures.{Captures}
use Rattle.regex.specs.Names.{names_of}
use Rattle.regex.specs.Patterns.{Re, Match, find_str, default_config, span, Reads, SameCaptures}
use Rattle.regex.specs.Search.{group_span}
use Rattle.regex.specs.Strings.{IsCapturesOf, IsReadFromSource, captures_span, regex_config, regex_names, regex_pattern, regex_source}
use Rattle.regex.specs.declared.string.regex.Regex.{Regex}
use Rattle.regex.specs.Writes.{both, group_of}
use Rattle.regex.proofs.ForCallers.{is_match_alike, spans}
use Rattle.regex_syntax.proofs.CapturesLemmas.{find_str_alike}
use Rattle.regex_syntax.specs.Brackets.{Nested}
use Rattle.regex_syntax.specs.Grammar.{Names, group_count, read}
use Rattle.match_rule.specs.Patterns.{IsFinder, first_spans, found_by, group_spans, groups_read}

abbrev Found : Type 0
Found = Option (Nested Re × Names)

-- what `Reads` says of what is read
abbrev IsOf : Re → Names → ℕ → Found → Type 0
IsOf a names most o = IsSomeAnd o (λ (re, found). (re.depth ≤ most) × SameCaptures a re.value × (names ≡ found) × (group_count a ≤ length names))

found_alike : (o : Found) (a : Re) (names : Names) (most : ℕ) → IsOf a names most o → (value : List ℕ) → ((k : ℕ) → get_or value k 0 < 256) → is_some (find_str a value 0) ≡ is_some (found_by (option_map (λ found. found.0.value) o) value)
found_alike None a names most p value bytes = absurd p
found_alike (Some x) a names most p value bytes = is_match_alike p.1 value bytes true 0

-- the groups' spans from what a caller sees of a match
seen_spans : ℕ → ℕ × ℕ × (ℕ → Option ℕ) → List (Option (ℕ × ℕ))
seen_spans zero s = []
seen_spans (suc n) s = seen_spans n s ++ cond (eqb n 0) (Some (s.0, s.1)) (both (s.2 (2 * n)) (s.2 (2 * n + 1))) ∷ []

unfolds_seen : (n : ℕ) (m : Match) → group_spans n m ≡ seen_spans n (spans m)
unfolding seen_spans
unfolds_seen zero m = refl
unfolds_seen (suc n) m = ap (λ xs. xs ++ cond (eqb n 0) (Some (span m)) (group_of m n) ∷ []) (unfolds_seen n m)

through_seen : (n : ℕ) (o : Option Match) → option_map (group_spans n) o ≡ option_map (seen_spans n) (option_map spans o)
through_seen n None = refl
through_seen n (Some m) = ap Some (unfolds_seen n m)

was_read : (o : Found) (a : Re) (names : Names) (most : ℕ) → IsOf a names most o → is_some (option_map (λ found. found.0.value) o) ≡ true
was_read None a names most p = absurd p
was_read (Some x) a names most p = refl

groups_alike : (o : Found) (a : Re) (names : Names) (most : ℕ) → IsOf a names most o → (value : List ℕ) → ((k : ℕ) → get_or value k 0 < 256) → option_map (group_spans (length names)) (find_str a value 0) ≡ groups_read o value
groups_alike None a names most p value bytes = absurd p
groups_alike (Some x) a names most p value bytes =
    through_seen (length names) (find_str a value 0)
    ∙ ap (option_map (seen_spans (length names))) (find_str_alike a x.0.value p.1 value (λ k d h. rw (get_or_default value k d 0 h) (bytes k)) 0)
    ∙ sym (through_seen (length names) (find_str x.0.value value 0))
    ∙ ap (λ found. option_map (group_spans (length found)) (find_str x.0.value value 0)) p.2

module _ (r : Regex) (source : List ℕ) (is_source : regex_source r ≡ source) (is_default : regex_config r ≡ default_config) (is_read : IsReadFromSource r) where
  reads : Reads default_config source r.pattern.program.hir (names_of r.pattern.names.items)
  reads = rw (is_source, is_default) at is_read

  pub is_finder : IsFinder r source
  unfolding Reads
  is_finder = record {
    read = was_read (read default_config (chars source)) (regex_pattern r) (regex_names r) default_config.nest_limit reads;
    found = found_alike (read default_config (chars source)) (regex_pattern r) (regex_names r) default_config.nest_limit reads;
    groups = groups_alike (read default_config (chars source)) (regex_pattern r) (regex_names r) default_config.nest_limit reads;
  }

suc_not_zero : (n : ℕ) → eqb (suc n) 0 ≡ false
suc_not_zero n = grind (arith, nat_tests)

whole_at : (hay : List ℕ) (m : Match) (c : Captures) → IsCapturesOf hay m c → captures_span c 0 ≡ Some (span m)
unfolding group_span
whole_at hay m c h = ap Some h.1.whole_is

group_at : (hay : List ℕ) (m : Match) (c : Captures) → IsCapturesOf hay m c → (n : ℕ) → captures_span c n ≡ cond (eqb n 0) (Some (span m)) (group_of m n)
group_at hay m c h zero = whole_at hay m c h
group_at hay m c h (suc n) = rw (suc_not_zero n) (h.2 (suc n) (omega arith))

-- the captures' spans are the groups' spans
pub captures_groups : (hay : List ℕ) (m : Match) (c : Captures) → IsCapturesOf hay m c → (n : ℕ) → first_spans c n ≡ group_spans n m
captures_groups hay m c h zero = refl
captures_groups hay m c h (suc n) =
    let e = captures_groups hay m c h n in
    let f = group_at hay m c h n in
    λ i. e i ++ f i ∷ []
