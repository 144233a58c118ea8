-- A template, one reference further.
use Rattle.std.proofs.Common.{◌≡◌, ◌∙◌, ℕ, zero, suc, ◌+◌, ◌-◌, ◌*◌, ◌<◌, ◌≤◌, ◌^◌, Bool, true, false, cond, List, [], ◌∷◌, ◌++◌, length, get_or, take, drop, ap, sym, subst, refl, Option, None, Some, Ok, Err, Result, arith, add-one, append_assoc, length-append, length-drop}
use Rattle.std.specs.Prelude.{◌==◌, ◌&&◌, not, is_some, slice_get}
use Rattle.std.specs.Char.{digit_value, is_ascii_digit}
use Rattle.std.specs.List.{list_all, prefix_len}
use Rattle.std.specs.Result.{OkIff}
use Rattle.std.specs.Str.{IsCharBoundary, IsUtf8}
use Rattle.std.specs.Str.Parse.{AllDigits, ParsesUnsigned, digits_value}
use Rattle.std.proofs.lemmas.Bool.Decides.{nat_tests}
use Rattle.std.proofs.lemmas.Str.{IsCharBoundary-after_ascii, IsCharBoundary-start}
use Rattle.std.proofs.lemmas.Str.Parse.{numerals_by_value, parse_digits, tells_digits}
use Rattle.promql_meaning.specs.Templates.{Spans, expanded_from, group_number, group_text, is_braced, is_word_byte, name_in, reference_size, reference_text, span_text}

-- ---- names

word_ascii : (b : ℕ) → is_word_byte b ≡ true → b < 128
word_ascii b h = grind (arith, nat_tests)

run_within : (text : List ℕ) → prefix_len is_word_byte text ≤ length text
run_within [] = omega arith
run_within (b ∷ text) = let rest = run_within text in elim (is_word_byte b) as (λ t. cond t (1 + prefix_len is_word_byte text) 0 ≤ length (b ∷ text)) [ true ↦ omega arith | false ↦ omega arith ]

length_take : (n : ℕ) (text : List ℕ) → n ≤ length text → length (take n text) ≡ n
length_take zero text w = refl
length_take (suc n) [] w = absurd (omega arith)
length_take (suc n) (b ∷ text) w = ap suc (length_take n text (omega arith))

pub name_length : (text : List ℕ) → length (name_in text) ≡ prefix_len is_word_byte text
name_length text = length_take (prefix_len is_word_byte text) text (run_within text)

pub name_within : (text : List ℕ) → length (name_in text) ≤ length text
name_within text = let a = name_length text in let b = run_within text in omega (arith, a, b)

-- the last byte of a run is one of it
last_of_run : (text : List ℕ) (n : ℕ) → prefix_len is_word_byte text ≡ suc n → (n < length text) × (is_word_byte (get_or text n 0) ≡ true)
last_of_run [] n e = absurd (omega arith)
last_of_run (b ∷ text) n e =
    let rest = last_of_run text in
    elim (is_word_byte b) as (λ t. is_word_byte b ≡ t → cond t (1 + prefix_len is_word_byte text) 0 ≡ suc n → (n < length (b ∷ text)) × (is_word_byte (get_or (b ∷ text) n 0) ≡ true)) [
      | true ↦ λ h f. at_place rest n h (omega (arith, f))
      | false ↦ λ h f. absurd (omega (arith, f))
    ] refl e
  where
    at_place : ((n : ℕ) → prefix_len is_word_byte text ≡ suc n → (n < length text) × (is_word_byte (get_or text n 0) ≡ true)) → (n : ℕ) → is_word_byte b ≡ true → prefix_len is_word_byte text ≡ n
        → (n < length (b ∷ text)) × (is_word_byte (get_or (b ∷ text) n 0) ≡ true)
    at_place rest zero h f = (omega arith, h)
    at_place rest (suc n) h f = let last = rest n f in (omega (arith, last.0), last.1)

pub run_boundary : (text : List ℕ) (n : ℕ) → IsUtf8 text → n ≡ prefix_len is_word_byte text → IsCharBoundary text n
run_boundary text zero u e = IsCharBoundary-start text u
run_boundary text (suc n) u e =
    let last = last_of_run text n (sym e) in
    let P : ℕ → Type 0 = λ k. IsCharBoundary text k in
    subst P (add-one n) (IsCharBoundary-after_ascii text n u last.0 (word_ascii (get_or text n 0) last.1))

pub name_boundary : (text : List ℕ) (n : ℕ) → IsUtf8 text → n ≡ length (name_in text) → IsCharBoundary text n
name_boundary text n u e = run_boundary text n u (e ∙ name_length text)

-- ---- names in braces

abbrev closes : List ℕ → Bool
closes [] = false
closes (b ∷ rest) = b == 125

pub braced_at : (text rest : List ℕ) → drop (length (name_in text)) text ≡ rest → is_braced text ≡ (not (length (name_in text) == 0) && closes rest)
braced_at text [] e = rw e refl
braced_at text (b ∷ rest) e = rw e refl

get_drop : (n : ℕ) (xs : List ℕ) (b : ℕ) (rest : List ℕ) → drop n xs ≡ b ∷ rest → get_or xs n 0 ≡ b
get_drop zero [] b rest e = absurd (cc)
get_drop zero (x ∷ xs) b rest e = let s : x ≡ b = cc in s
get_drop (suc n) [] b rest e = absurd (cc)
get_drop (suc n) (x ∷ xs) b rest e = get_drop n xs b rest e

closing_byte : (text : List ℕ) → is_braced text ≡ true → (length (name_in text) < length text) × (get_or text (length (name_in text)) 0 ≡ 125)
closing_byte text h = by (drop (length (name_in text)) text) refl
  where
    by : (rest : List ℕ) → drop (length (name_in text)) text ≡ rest → (length (name_in text) < length text) × (get_or text (length (name_in text)) 0 ≡ 125)
    by [] e = let f : (not (length (name_in text) == 0) && false) ≡ true = sym (braced_at text [] e) ∙ h in absurd (never (not (length (name_in text) == 0)) f)
      where
        never : (a : Bool) → (a && false) ≡ true → ⊥
        never true f = cc
        never false f = cc
    by (b ∷ rest) e =
        let f : (not (length (name_in text) == 0) && (b == 125)) ≡ true = sym (braced_at text (b ∷ rest) e) ∙ h in
        let size : length (drop (length (name_in text)) text) ≡ suc (length rest) = ap length e in
        let is : b ≡ 125 = grind (arith, nat_tests) in
        (omega (arith, size, length-drop (length (name_in text)) text), get_drop (length (name_in text)) text b rest e ∙ is)

-- ---- references

-- a text may be cut behind a reference
pub reference_boundary : (behind : List ℕ) → IsUtf8 behind → IsCharBoundary behind (reference_size behind)
reference_boundary [] u = IsCharBoundary-start [] u
reference_boundary (b ∷ rest) u =
    elim (b == 36) as (λ t. (b == 36) ≡ t → IsCharBoundary (b ∷ rest) (cond t 1 (cond (is_word_byte b) (length (name_in (b ∷ rest))) (cond ((b == 123) && is_braced rest) (length (name_in rest) + 2) 0)))) [
      | true ↦ λ h. let is : b ≡ 36 = grind (arith, nat_tests) in IsCharBoundary-after_ascii (b ∷ rest) 0 u (omega arith) (omega (arith, is))
      | false ↦ λ h. elim (is_word_byte b) as (λ t. IsCharBoundary (b ∷ rest) (cond t (length (name_in (b ∷ rest))) (cond ((b == 123) && is_braced rest) (length (name_in rest) + 2) 0))) [
        | true ↦ name_boundary (b ∷ rest) (length (name_in (b ∷ rest))) u refl
        | false ↦ elim ((b == 123) && is_braced rest) as (λ t. ((b == 123) && is_braced rest) ≡ t → IsCharBoundary (b ∷ rest) (cond t (length (name_in rest) + 2) 0)) [
          | true ↦ λ f. behind_brace f
          | false ↦ λ f. IsCharBoundary-start (b ∷ rest) u
        ] refl
      ]
    ] refl
  where
    second : (a c : Bool) → (a && c) ≡ true → c ≡ true
    second true c f = f
    second false c f = absurd (cc)

    behind_brace : ((b == 123) && is_braced rest) ≡ true → IsCharBoundary (b ∷ rest) (length (name_in rest) + 2)
    behind_brace f =
        let last = closing_byte rest (second (b == 123) (is_braced rest) f) in
        let n = length (name_in rest) in
        let P : ℕ → Type 0 = λ k. IsCharBoundary (b ∷ rest) k in
        let e : suc n + 1 ≡ n + 2 = omega arith in
        subst P e (IsCharBoundary-after_ascii (b ∷ rest) (suc n) u (omega (arith, last.0)) (omega (arith, last.1)))

-- ---- the template

no_more : (spans : Spans) (value text : List ℕ) → ((i : ℕ) → i < length text → get_or text i 0 ≡ 36 → ⊥) → expanded_from 0 spans value text ≡ text
no_more spans value [] none = refl
no_more spans value (b ∷ text) none =
    let rest = no_more spans value text (λ i w e. none (suc i) (omega arith) e) in
    elim (b == 36) as (λ t. (b == 36) ≡ t → cond t (reference_text spans value text ++ expanded_from (reference_size text) spans value text) (b ∷ expanded_from 0 spans value text) ≡ b ∷ text) [
      | true ↦ λ h. let is : b ≡ 36 = grind (arith, nat_tests) in absurd (none 0 (omega arith) is)
      | false ↦ λ h. ap (λ t. b ∷ t) rest
    ] refl

waits : (n : ℕ) (spans : Spans) (value text : List ℕ) → expanded_from n spans value text ≡ expanded_from 0 spans value (drop n text)
waits zero spans value text = refl
waits (suc n) spans value [] = refl
waits (suc n) spans value (b ∷ text) = waits n spans value text

up_to : (spans : Spans) (value plain behind : List ℕ) → ((i : ℕ) → i < length plain → get_or plain i 0 ≡ 36 → ⊥)
    → expanded_from 0 spans value (plain ++ 36 ∷ behind) ≡ plain ++ (reference_text spans value behind ++ expanded_from 0 spans value (drop (reference_size behind) behind))
up_to spans value [] behind none = ap (λ t. reference_text spans value behind ++ t) (waits (reference_size behind) spans value behind)
up_to spans value (b ∷ plain) behind none =
    let rest = up_to spans value plain behind (λ i w e. none (suc i) (omega arith) e) in
    elim (b == 36) as (λ t. (b == 36) ≡ t → cond t (reference_text spans value (plain ++ 36 ∷ behind) ++ expanded_from (reference_size (plain ++ 36 ∷ behind)) spans value (plain ++ 36 ∷ behind)) (b ∷ expanded_from 0 spans value (plain ++ 36 ∷ behind))
    ≡ b ∷ (plain ++ (reference_text spans value behind ++ expanded_from 0 spans value (drop (reference_size behind) behind)))) [
      | true ↦ λ h. let is : b ≡ 36 = grind (arith, nat_tests) in absurd (none 0 (omega arith) is)
      | false ↦ λ h. ap (λ t. b ∷ t) rest
    ] refl

pub expanded_more : (spans : Spans) (value template plain behind old first second new after : List ℕ) (all : List ℕ) → template ≡ plain ++ 36 ∷ behind → ((i : ℕ) → i < length plain → get_or plain i 0 ≡ 36 → ⊥)
    → first ≡ old ++ plain → new ≡ first ++ second → second ≡ reference_text spans value behind → after ≡ drop (reference_size behind) behind
    → old ++ expanded_from 0 spans value template ≡ all → new ++ expanded_from 0 spans value after ≡ all
expanded_more spans value template plain behind old first second new after all is none a b c d told =
    let rest = expanded_from 0 spans value (drop (reference_size behind) behind) in
    let text = reference_text spans value behind in
    ap (λ t. new ++ expanded_from 0 spans value t) d ∙ ap (λ t. t ++ rest) (b ∙ ap (λ t. t ++ second) a ∙ ap (λ t. (old ++ plain) ++ t) c) ∙ append_assoc (old ++ plain) text rest ∙ append_assoc old plain (text ++ rest)
    ∙ sym (ap (λ t. old ++ t) (ap (expanded_from 0 spans value) is ∙ up_to spans value plain behind none)) ∙ told

pub expanded_all : (spans : Spans) (value rest old new all : List ℕ) → ((i : ℕ) → i < length rest → get_or rest i 0 ≡ 36 → ⊥) → new ≡ old ++ rest → old ++ expanded_from 0 spans value rest ≡ all → new ≡ all
expanded_all spans value rest old new all none a told = a ∙ ap (λ t. old ++ t) (sym (no_more spans value rest none)) ∙ told

pub after_less : (template plain behind : List ℕ) → template ≡ plain ++ 36 ∷ behind → length (drop (reference_size behind) behind) < length template
after_less template plain behind is = omega (arith, ap length is, length-append plain (36 ∷ behind), length-drop (reference_size behind) behind)

-- ---- numbers of groups

all_digits : (ds : List ℕ) → list_all is_ascii_digit ds ≡ true → AllDigits 10 ds
all_digits [] h = tt
all_digits (d ∷ ds) h =
    elim (is_ascii_digit d) as (λ t. is_ascii_digit d ≡ t → (t && list_all is_ascii_digit ds) ≡ true → AllDigits 10 (d ∷ ds)) [
      | true ↦ λ e f. (digit e, all_digits ds f)
      | false ↦ λ e f. absurd (cc)
    ] refl h
  where
    digit : is_ascii_digit d ≡ true → digit_value d < 10
    digit e = grind (arith, nat_tests)

digit_is : (d : ℕ) → is_ascii_digit d ≡ true → digit_value d ≡ d - 48
digit_is d e = grind (arith, nat_tests)

first_true : (a b : Bool) → (a && b) ≡ true → a ≡ true
first_true true b h = refl
first_true false b h = h

-- what a name that is a number stands for, and that it has digits alone
named : (name : List ℕ) → is_some (group_number name) ≡ true → AllDigits 10 name × ((0 < length name) × (group_number name ≡ Some (digits_value 10 name)))
named [] h = absurd (cc)
named (d ∷ []) h =
    elim (is_ascii_digit d) as (λ t. is_ascii_digit d ≡ t → is_some (cond t (Some (d - 48)) None) ≡ true → AllDigits 10 (d ∷ []) × ((0 < length (d ∷ [])) × (cond t (Some (d - 48)) None ≡ Some (digits_value 10 (d ∷ []))))) [
      | true ↦ λ e f. let v : d - 48 ≡ 0 * 10 + digit_value d = omega (arith, digit_is d e) in (all_digits (d ∷ []) (ap (λ b. b && true) e), (omega arith, ap Some v))
      | false ↦ λ e f. absurd (cc)
    ] refl h
named (d ∷ c ∷ ds) h =
    elim (list_all is_ascii_digit (d ∷ c ∷ ds) && not (d == 48)) as (λ t. (list_all is_ascii_digit (d ∷ c ∷ ds) && not (d == 48)) ≡ t → is_some (cond t (Some (digits_value 10 (d ∷ c ∷ ds))) None) ≡ true
    → AllDigits 10 (d ∷ c ∷ ds) × ((0 < length (d ∷ c ∷ ds)) × (cond t (Some (digits_value 10 (d ∷ c ∷ ds))) None ≡ Some (digits_value 10 (d ∷ c ∷ ds))))) [
      | true ↦ λ e f. (all_digits (d ∷ c ∷ ds) (first_true (list_all is_ascii_digit (d ∷ c ∷ ds)) (not (d == 48)) e), (omega arith, refl))
      | false ↦ λ e f. absurd (cc)
    ] refl h

pub not_named : (spans : Spans) (value name : List ℕ) → is_some (group_number name) ≡ false → group_text spans value (group_number name) ≡ []
not_named spans value name h = by (group_number name) h
  where
    by : (o : Option ℕ) → is_some o ≡ false → group_text spans value o ≡ []
    by None h = refl
    by (Some n) h = absurd (cc)

pub parsed : {E : Type 0} (name : List ℕ) (n : ℕ) (r : Result ℕ E) → is_some (group_number name) ≡ true → ParsesUnsigned 64 10 name r → r ≡ Ok n → group_number name ≡ Some n
parsed {E = E} name n r h p is =
    let known = named name h in
    let told = parse_digits (numerals_by_value (AllDigits 10) tells_digits) 64 name r p known.0 in
    let Q : Result ℕ E → Type 0 = λ x. OkIff x ((0 < length name) × (digits_value 10 name < 2 ^ 64)) (digits_value 10 name) in
    let ok = subst Q is told in
    known.1.1 ∙ ap Some (sym ok.1)

beyond : (spans : Spans) (n : ℕ) → length spans ≤ n → slice_get spans n ≡ None
beyond [] n w = refl
beyond (s ∷ spans) zero w = absurd (omega arith)
beyond (s ∷ spans) (suc n) w = beyond spans n (omega arith)

pub too_far : {E : Type 0} (spans : Spans) (value name : List ℕ) (n : ℕ) (e : E) (r : Result ℕ E) → n ≡ length spans → n ≤ 2 ^ 64 → is_some (group_number name) ≡ true → ParsesUnsigned 64 10 name r → r ≡ Err e
    → span_text value (slice_get spans n) ≡ group_text spans value (group_number name)
too_far {E = E} spans value name n e r count few h p is =
    let known = named name h in
    let told = parse_digits (numerals_by_value (AllDigits 10) tells_digits) 64 name r p known.0 in
    let Q : Result ℕ E → Type 0 = λ x. OkIff x ((0 < length name) × (digits_value 10 name < 2 ^ 64)) (digits_value 10 name) in
    let large = subst Q is told in
    ap (span_text value) (beyond spans n (omega (arith, count)))
    ∙ sym (ap (group_text spans value) known.1.1 ∙ ap (span_text value) (beyond spans (digits_value 10 name) (at_least (digits_value 10 name) (λ l. large (known.1.0, l)))))
  where
    at_least : (m : ℕ) → (m < 2 ^ 64 → ⊥) → length spans ≤ m
    at_least m h = omega (arith, h, count, few)

pub brace_boundary : (text : List ℕ) → IsUtf8 text → slice_get text 0 ≡ Some 123 → IsCharBoundary text 1
brace_boundary [] u e = absurd (cc)
brace_boundary (b ∷ rest) u e = let is : b ≡ 123 = cc in IsCharBoundary-after_ascii (b ∷ rest) 0 u (omega arith) (omega (arith, is))
