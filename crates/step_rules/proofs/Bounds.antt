-- Bounds of buckets, and the cases of a histogram's quantile.
use Rattle.std.proofs.Common.{◌≡◌, ◌∙◌, ℕ, zero, suc, ◌+◌, ◌-◌, ◌<◌, ◌≤◌, Bool, true, false, cond, List, [], ◌∷◌, length, get_or, take, drop, refl, sym, ap, subst, Option, None, Some, Result, Ok, arith}
use Rattle.std.specs.Prelude.{◌≢◌, ◌==◌, ◌&&◌, ◌||◌, not, nat_lt, slice_get}
use Rattle.std.specs.List.{All, last_or}
use Rattle.std.specs.Result.{result_ok}
use Rattle.std.proofs.lemmas.Bool.Decides.{nat_tests}
use Rattle.std.proofs.lemmas.List.{take_all}
use Rattle.frac_text.specs.Readings.{literal_answer, turned}
use Rattle.xfrac.specs.Arithmetic.{whole_number}
use Rattle.xfrac.specs.Kinds.{is_not_a_number, is_positive_infinity}
use Rattle.xfrac.specs.Order.{compares}
use Rattle.xfrac.specs.Sequencing.{◌>>=◌}
use Rattle.xfrac.specs.declared.value.CompareOp.TheVariants.{Lt, Gt}
use Rattle.xfrac.specs.declared.value.NumFault.{NumFault}
use Rattle.xfrac.specs.declared.value.XFrac.{XFrac}
use Rattle.xfrac.specs.declared.value.XFrac.TheVariants.{Fin, PosInf, NegInf, NaN}
use Rattle.step_table.specs.declared.marks.Note.TheVariants.{BadBucket}
use Rattle.step_table.specs.declared.step.Row.{Row}
use Rattle.promql_meaning.specs.declared.buckets.Bucket.{Bucket}
use Rattle.promql_meaning.specs.Buckets.{are_finite, at_rank, bound_note, bound_of, bound_or, bound_text, histogram_quantile, is_fixed, is_fixed_of, is_whole, last_count, merged, quantile_of_merged, signed_number}
use Rattle.window_fn.specs.Slopes.{is_finite}
use Rattle.promql_meaning.specs.Outcomes.{is_outside}
use Rattle.step_rules.specs.Rests.{drop_item}

-- ---- texts of bounds

pub unsigned : (text : List ℕ) → ((rest : List ℕ) → text ≢ 45 ∷ rest) → ((rest : List ℕ) → text ≢ 43 ∷ rest) → result_ok (literal_answer text) ≡ result_ok (signed_number text)
unsigned [] m p = refl
unsigned (b ∷ text) m p =
    let no_minus : (b == 45) ≡ false = by_test (b == 45) refl (λ e. m text (ap (λ c. c ∷ text) e)) in
    let no_plus : (b == 43) ≡ false = plus_test (b == 43) refl (λ e. p text (ap (λ c. c ∷ text) e)) in
    sym (ap (λ t. result_ok (cond t (turned (literal_answer text)) (cond (b == 43) (literal_answer text) (literal_answer (b ∷ text))))) no_minus ∙ ap (λ t. result_ok (cond t (literal_answer text) (literal_answer (b ∷ text)))) no_plus)
  where
    by_test : (t : Bool) → (b == 45) ≡ t → (b ≡ 45 → ⊥) → (b == 45) ≡ false
    by_test true e never = let is : b ≡ 45 = grind (arith, nat_tests) in absurd (never is)
    by_test false e never = e

    plus_test : (t : Bool) → (b == 43) ≡ t → (b ≡ 43 → ⊥) → (b == 43) ≡ false
    plus_test true e never = let is : b ≡ 43 = grind (arith, nat_tests) in absurd (never is)
    plus_test false e never = e

pub noted : (row : Row) → bound_of row ≡ None → bound_note row ≡ Some (BadBucket (bound_text row))
noted row e = rw e refl

pub not_noted : (row : Row) (bound : XFrac) → bound_of row ≡ Some bound → bound_note row ≡ None
not_noted row bound e = rw e refl

-- ---- a quantile outside 0 to 1

inside_first : (a b c : Bool) → (a || (b || c)) ≡ false → a ≡ false
inside_first true b c e = e
inside_first false b c e = refl

inside_second : (a b c : Bool) → (a || (b || c)) ≡ false → b ≡ false
inside_second true b c e = absurd (cc)
inside_second false true c e = e
inside_second false false c e = refl

inside_third : (a b c : Bool) → (a || (b || c)) ≡ false → c ≡ false
inside_third true b c e = absurd (cc)
inside_third false true c e = absurd (cc)
inside_third false false c e = e

pub outside_value : (q : XFrac) (buckets : List Bucket) → is_outside q ≡ true
    → histogram_quantile q buckets ≡ Ok (cond (is_not_a_number q) NaN (cond (compares Lt q (whole_number 0)) NegInf PosInf))
outside_value q buckets h = by (is_not_a_number q) (compares Lt q (whole_number 0)) (compares Gt q (whole_number 1)) h
  where
    inner : Result XFrac NumFault
    inner = cond (are_finite buckets) (merged buckets >>= λ all. quantile_of_merged q all) (Ok NaN)

    by : (a b c : Bool) → (a || (b || c)) ≡ true → cond a (Ok NaN) (cond b (Ok NegInf) (cond c (Ok PosInf) inner)) ≡ Ok (cond a NaN (cond b NegInf PosInf))
    by true b c e = refl
    by false true c e = refl
    by false false true e = refl
    by false false false e = absurd (cc)

pub outside_fixed : (q : XFrac) (buckets : List Bucket) → is_outside q ≡ true → is_fixed q buckets ≡ false
outside_fixed q buckets h = ap (λ o. not o && (are_finite buckets && is_fixed_of (merged buckets))) h

pub inside_value : (q : XFrac) (buckets : List Bucket) → is_outside q ≡ false → histogram_quantile q buckets ≡ cond (are_finite buckets) (merged buckets >>= λ all. quantile_of_merged q all) (Ok NaN)
inside_value q buckets h =
    let a = inside_first (is_not_a_number q) (compares Lt q (whole_number 0)) (compares Gt q (whole_number 1)) h in
    let b = inside_second (is_not_a_number q) (compares Lt q (whole_number 0)) (compares Gt q (whole_number 1)) h in
    let c = inside_third (is_not_a_number q) (compares Lt q (whole_number 0)) (compares Gt q (whole_number 1)) h in
    ap (λ t. cond t (Ok NaN) (cond (compares Lt q (whole_number 0)) (Ok NegInf) (cond (compares Gt q (whole_number 1)) (Ok PosInf) inner))) a
    ∙ ap (λ t. cond t (Ok NegInf) (cond (compares Gt q (whole_number 1)) (Ok PosInf) inner)) b ∙ ap (λ t. cond t (Ok PosInf) inner) c
  where
    inner : Result XFrac NumFault
    inner = cond (are_finite buckets) (merged buckets >>= λ all. quantile_of_merged q all) (Ok NaN)

pub inside_fixed : (q : XFrac) (buckets : List Bucket) → is_outside q ≡ false → is_fixed q buckets ≡ (are_finite buckets && is_fixed_of (merged buckets))
inside_fixed q buckets h = ap (λ o. not o && (are_finite buckets && is_fixed_of (merged buckets))) h

-- ---- the last bucket

last_at : {X : Type 0} (o : Option X) (x : X) (xs : List X) → last_or o (x ∷ xs) ≡ slice_get (x ∷ xs) (length xs)
last_at o x [] = refl
last_at o x (y ∷ xs) = last_at (Some x) y xs

pub last_is : {X : Type 0} (xs : List X) (x : X) → slice_get xs (length xs - 1) ≡ Some x → last_or None xs ≡ Some x
last_is [] x e = absurd (cc)
last_is (y ∷ xs) x e = last_at None y xs ∙ ap (slice_get (y ∷ xs)) (sym less) ∙ e
  where
    less : length (y ∷ xs) - 1 ≡ length xs
    less = omega arith

pub count_of_last : (buckets : List Bucket) (b : Bucket) → slice_get buckets (length buckets - 1) ≡ Some b → last_count buckets ≡ b.count
count_of_last buckets b e = rw (last_is buckets b e) refl

pub count_of_none : (buckets : List Bucket) → length buckets ≡ 0 → last_count buckets ≡ whole_number 0
count_of_none [] e = refl
count_of_none (b ∷ buckets) e = absurd (omega arith)

pub whole_at : (buckets : List Bucket) (b : Bucket) → 2 ≤ length buckets → slice_get buckets (length buckets - 1) ≡ Some b → is_whole buckets ≡ is_positive_infinity b.bound
whole_at buckets b w e = rw (last_is buckets b e) (ap (λ t. t && is_positive_infinity b.bound) (several (nat_lt 1 (length buckets)) refl))
  where
    several : (t : Bool) → nat_lt 1 (length buckets) ≡ t → nat_lt 1 (length buckets) ≡ true
    several true h = h
    several false h = absurd (grind (arith, nat_tests))

pub not_whole : (buckets : List Bucket) → length buckets < 2 → is_whole buckets ≡ false
not_whole [] w = refl
not_whole (b ∷ []) w = refl
not_whole (b ∷ c ∷ buckets) w = absurd (omega arith)

pub rank_short : (rank : XFrac) (earlier : Option Bucket) (buckets : List Bucket) → length buckets < 2 → at_rank rank earlier buckets ≡ Ok (bound_or NaN earlier)
rank_short rank earlier [] w = refl
rank_short rank earlier (b ∷ []) w = refl
rank_short rank earlier (b ∷ c ∷ buckets) w = absurd (omega arith)

-- ---- the same by the item at a place

get_at : {X : Type 0} (xs : List X) (i : ℕ) (x : X) → i < length xs → x ≡ get_or xs i x → slice_get xs i ≡ Some x
get_at [] i x w is = absurd (omega arith)
get_at (y ∷ xs) zero x w is = ap Some (sym is)
get_at (y ∷ xs) (suc i) x w is = get_at xs i x (omega arith) is

pub whole_last : (buckets : List Bucket) (b : Bucket) → 2 ≤ length buckets → b ≡ get_or buckets (length buckets - 1) b → is_whole buckets ≡ is_positive_infinity b.bound
whole_last buckets b w is = whole_at buckets b w (get_at buckets (length buckets - 1) b (omega arith) is)

pub last_count_is : (buckets : List Bucket) (b : Bucket) → 1 ≤ length buckets → b ≡ get_or buckets (length buckets - 1) b → last_count buckets ≡ b.count
last_count_is buckets b w is = count_of_last buckets b (get_at buckets (length buckets - 1) b (omega arith) is)

pub not_infinite : (v : XFrac) → (v ≡ PosInf → ⊥) → is_positive_infinity v ≡ false
not_infinite PosInf differs = absurd (differs refl)
not_infinite NegInf differs = refl
not_infinite NaN differs = refl
not_infinite (Fin f) differs = refl

-- ---- counts that are finite

pub finite_behind : (xs : List Bucket) (i : ℕ) (x : Bucket) → i < length xs → x ≡ get_or xs i x → is_finite x.count ≡ true → are_finite (drop (i + 1) xs) ≡ are_finite (drop i xs)
finite_behind xs i x w is h = sym (ap are_finite (drop_item xs i x w is) ∙ ap (λ t. t && are_finite (drop (i + 1) xs)) h)

pub all_taken : {X : Type 0} (P : X → Type 0) (xs : List X) (n : ℕ) → length xs ≤ n → All P (take n xs) → All P xs
all_taken P xs n w a = subst (All P) (take_all n xs w) a
