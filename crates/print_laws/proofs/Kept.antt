-- Patterns that are kept: they stay under their numbers, and are found there again.
use Rattle.std.proofs.Common.{◌≡◌, ◌∙◌, ℕ, suc, ◌+◌, ◌<◌, ◌≤◌, ◌++◌, Bool, true, false, cond, not, List, [], ◌∷◌, length, refl, ap, sym, subst, arith, length-append}
use Rattle.std.specs.Prelude.{if◌then◌else◌, Some, nat_lt, slice_get}
use Rattle.std.specs.Str.{is_utf8}
use Rattle.std.proofs.lemmas.Bool.{ltb-true}
use Rattle.std.proofs.lemmas.Slice.Eq.{bytes_eq-Decides}
use Rattle.match_rule.specs.Patterns.{is_kept, is_pattern, is_readable, number_of, pattern_passes, with_pattern}
use Rattle.label_set.specs.declared.rules.PatternId.{PatternId}
use Rattle.promql_parts.specs.Patterned.{Becomes, IsPattern, Kept, Patterned}
use Rattle.promql_parts.specs.Steps.{true_false}
use Rattle.promql_parts.specs.declared.lexeme.Lexeme.{Lexeme}
use Rattle.promql_parts.specs.declared.lexeme.LexemeKind.{LexemeKind}
use Rattle.promql_parts.specs.declared.lexeme.LexemeKind.TheVariants as kinds

lt_test : (m n : ℕ) → m < n → nat_lt m n ≡ true
lt_test m n less = grind (arith, less)

-- ---- numbers of patterns

abbrev Pattern : Type 0
Pattern = Bool × List ℕ

same_pattern : (p : Pattern) → is_pattern p p ≡ true
same_pattern (true, text) = (bytes_eq-Decides text text).1 refl
same_pattern (false, text) = (bytes_eq-Decides text text).1 refl

is_same : (p q : Pattern) → is_pattern p q ≡ true → q ≡ p
is_same (true, text) (true, other) h = let e : text ≡ other = (bytes_eq-Decides text other).0 h in ap (λ t. (true, t)) (sym e)
is_same (true, text) (false, other) h = true_false (sym h)
is_same (false, text) (true, other) h = true_false (sym h)
is_same (false, text) (false, other) h = let e : text ≡ other = (bytes_eq-Decides text other).0 h in ap (λ t. (false, t)) (sym e)

here : (p q : Pattern) (qs : Kept) (t : Bool) → is_pattern p q ≡ t → cond (not t) (1 + number_of p qs) 0 < length (q ∷ qs) → (number_of p qs < length qs → slice_get qs (number_of p qs) ≡ Some p)
    → slice_get (q ∷ qs) (cond (not t) (1 + number_of p qs) 0) ≡ Some p
here p q qs true is within later = ap (λ x. Some x) (is_same p q is)
here p q qs false is within later =
    let e : 1 + number_of p qs ≡ suc (number_of p qs) = omega arith in
    ap (λ n. slice_get (q ∷ qs) n) e ∙ later (omega (arith, within))

-- a pattern that is kept stands under its number
pub found : (p : Pattern) (qs : Kept) → number_of p qs < length qs → slice_get qs (number_of p qs) ≡ Some p
found p [] within = absurd (omega (arith, within))
found p (q ∷ qs) within = here p q qs (is_pattern p q) refl within (found p qs)

within_step : (t : Bool) (n m : ℕ) → n ≤ m → cond (not t) (1 + n) 0 ≤ suc m
within_step true n m h = omega arith
within_step false n m h = omega (arith, h)

at_most : (p : Pattern) (qs : Kept) → number_of p qs ≤ length qs
at_most p [] = omega arith
at_most p (q ∷ qs) = within_step (is_pattern p q) (number_of p qs) (length qs) (at_most p qs)

stays_step : (t : Bool) (n m k : ℕ) → cond (not t) (1 + n) 0 < suc k → (n < k → m ≡ n) → cond (not t) (1 + m) 0 ≡ cond (not t) (1 + n) 0
stays_step true n m k within same = refl
stays_step false n m k within same = ap (λ x. 1 + x) (same (omega (arith, within)))

-- it stays under it
pub stays : (p : Pattern) (qs rs : Kept) → number_of p qs < length qs → number_of p (qs ++ rs) ≡ number_of p qs
stays p [] rs within = absurd (omega (arith, within))
stays p (q ∷ qs) rs within = stays_step (is_pattern p q) (number_of p qs) (number_of p (qs ++ rs)) (length qs) within (stays p qs rs)

last_step : (t : Bool) (n m : ℕ) → m ≡ n → cond (not t) (1 + m) 0 ≡ cond (not t) (1 + n) 0
last_step t n m same = ap (λ x. cond (not t) (1 + x) 0) same

-- a new one is the last
last_is : (p : Pattern) (qs : Kept) → number_of p (qs ++ p ∷ []) ≡ number_of p qs
last_is p [] = ap (λ t. cond (not t) 1 0) (same_pattern p)
last_is p (q ∷ qs) = last_step (is_pattern p q) (number_of p qs) (number_of p (qs ++ p ∷ [])) (last_is p qs)

pub kept_then : (p : Pattern) (qs : Kept) (t : Bool) → nat_lt (number_of p qs) (length qs) ≡ t
    → (number_of p (if t then qs else qs ++ p ∷ []) ≡ number_of p qs) × (number_of p (if t then qs else qs ++ p ∷ []) < length (if t then qs else qs ++ p ∷ []))
kept_then p qs true is = (refl, ltb-true _ _ is)
kept_then p qs false is =
    let same = last_is p qs in
    let most = at_most p qs in
    let long : length (qs ++ p ∷ []) ≡ length qs + 1 = length-append qs (p ∷ []) in
    (same, omega (arith, same, most, long))

-- ---- growth

pub record Grown (before after : Kept) : Type 0 where
  pub more : Kept
  pub is : after ≡ before ++ more
  pub few : length before ≤ 32 → length after ≤ 32

none_more : (qs : Kept) → qs ≡ qs ++ []
none_more [] = refl
none_more (q ∷ qs) = ap (λ xs. q ∷ xs) (none_more qs)

joined_more : (xs ys zs : Kept) → (xs ++ ys) ++ zs ≡ xs ++ (ys ++ zs)
joined_more [] ys zs = refl
joined_more (x ∷ xs) ys zs = ap (λ us. x ∷ us) (joined_more xs ys zs)

grown_none : (qs : Kept) → Grown qs qs
grown_none qs = record { more = []; is = none_more qs; few = λ h. h }

grown_one : (p : Pattern) (qs : Kept) (t : Bool) → length (if t then qs else qs ++ p ∷ []) ≤ 32 → Grown qs (if t then qs else qs ++ p ∷ [])
grown_one p qs true few = grown_none qs
grown_one p qs false few = record { more = p ∷ []; is = refl; few = λ h. few }

grown_both : (xs ys zs : Kept) → Grown xs ys → Grown ys zs → Grown xs zs
grown_both xs ys zs a b =
    record { more = a.more ++ b.more; is = b.is ∙ ap (λ us. us ++ b.more) a.is ∙ joined_more xs a.more b.more; few = λ h. b.few (a.few h) }

pattern_grows : {at : ℕ} {text : List ℕ} {before after : Kept} {kind : LexemeKind} → IsPattern at text before after kind → Grown before after
pattern_grows {text = text} {before = before} (IsPattern.kept after id passes readable is few number told) =
    subst (Grown before) (sym is) (grown_one (true, text) before (is_kept (true, text) before) (subst (λ ks. length ks ≤ 32) is few))
pattern_grows {before = before} (IsPattern.refused after plain refused is) = subst (Grown before) (sym is) (grown_none before)
pattern_grows {before = before} (IsPattern.too_many after readable kept full is) = subst (Grown before) (sym is) (grown_none before)

becomes_grows : {behind : Bool} {before after : Kept} {l m : Lexeme} → Becomes behind before l after m → Grown before after
becomes_grows {before = before} (Becomes.same l no_sign) = grown_none before
becomes_grows {before = before} (Becomes.other l no_string) = grown_none before
becomes_grows (Becomes.pattern l m text after sign string place is) = pattern_grows is

pub grows : {behind : Bool} {before after : Kept} {ls ms : List Lexeme} → Patterned behind before ls after ms → Grown before after
grows {before = before} Patterned.done = grown_none before
grows (Patterned.last l m ls after becomes bad) = becomes_grows becomes
grows {before = before} (Patterned.more l m ls ms middle after becomes good later) = grown_both before middle after (becomes_grows becomes) (grows later)

-- ---- a pattern of a query

pub record IsKeptPattern (kept : Kept) (id : PatternId) (passes_empty : Bool) : Type 0 where
  pub text : List ℕ
  pub utf8 : is_utf8 text ≡ true
  pub readable : is_readable true text ≡ true
  pub number : id.0 ≡ number_of (true, text) kept
  pub within : number_of (true, text) kept < length kept
  pub few : length kept ≤ 32
  pub told : passes_empty ≡ pattern_passes (true, text) []

pub lifted : (before after : Kept) (id : PatternId) (passes_empty : Bool) → Grown before after → IsKeptPattern before id passes_empty → IsKeptPattern after id passes_empty
lifted before after id passes_empty grown is =
    let p : Pattern = (true, is.text) in
    let same : number_of p after ≡ number_of p before = ap (number_of p) grown.is ∙ stays p before grown.more is.within in
    let long : length after ≡ length before + length grown.more = ap length grown.is ∙ length-append before grown.more in
    let within = is.within in
    record {
      text = is.text;
      utf8 = is.utf8;
      readable = is.readable;
      number = is.number ∙ sym same;
      within = omega (arith, same, long, within);
      few = grown.few is.few;
      told = is.told;
    }

pub pattern_kept : (text : List ℕ) (before after : Kept) (id : PatternId) (passes_empty : Bool) → is_utf8 text ≡ true → is_readable true text ≡ true → after ≡ with_pattern (true, text) before
    → length after ≤ 32 → id.0 ≡ number_of (true, text) before → passes_empty ≡ pattern_passes (true, text) [] → IsKeptPattern after id passes_empty
pattern_kept text before after id passes_empty utf8 readable is few number told =
    let p : Pattern = (true, text) in
    let both = kept_then p before (is_kept p before) refl in
    record {
      text = text;
      utf8 = utf8;
      readable = readable;
      number = number ∙ sym (ap (number_of p) is ∙ both.0);
      within = subst (λ ks. number_of p ks < length ks) (sym is) both.1;
      few = few;
      told = told;
    }

-- it is read again as it is
pub pattern_again : (kept : Kept) (id : PatternId) (passes_empty : Bool) (at : ℕ) → (is : IsKeptPattern kept id passes_empty) → IsPattern at is.text kept kept (kinds.Pattern id passes_empty)
pattern_again kept id passes_empty at is =
    let p : Pattern = (true, is.text) in
    let kept_so : is_kept p kept ≡ true = lt_test (number_of p kept) (length kept) is.within in
    IsPattern.kept kept id passes_empty is.readable (ap (λ (t : Bool). if t then kept else kept ++ p ∷ []) (sym kept_so)) is.few is.number is.told

pub pattern_text_is : (kept : Kept) (id : PatternId) (passes_empty : Bool) → (is : IsKeptPattern kept id passes_empty) → slice_get kept id.0 ≡ Some (true, is.text)
pattern_text_is kept id passes_empty is = ap (slice_get kept) is.number ∙ found (true, is.text) kept is.within
