-- Which texts are decimal numbers: what reading finds is what the grammar spells.
use Rattle.std.proofs.Common.{◌≡◌, ℕ, ◌<◌, refl, sym, subst, ap, ◌∙◌, arith, Bool, true, false, cond, not, ◌==◌, ◌&&◌, ◌||◌, nat_lt, List, [], ◌∷◌, ◌++◌, length, get_or, inl, inr, ◌⊎◌, Some, None, take-append-drop, append-nil}
use Rattle.std.specs.Prelude.{Option}
use Rattle.std.specs.Char.{is_ascii_digit}
use Rattle.std.specs.List.{list_all, prefix_len}
use Rattle.std.proofs.lemmas.Bool.{and_from, and_parts, cond-true, cond-false, eqb-true, eq-eqb, ne_eqb, ltb-true, lt-ltb, true≢false, false≢true}
use Rattle.frac_text.specs.declared.digits.Base.TheVariants.{Ten}
use Rattle.frac_text.specs.Decimals.{Decimal, Power, are_digits, count_of, decimal_from, decimal_of, ending_of, exponent_of, fraction_of, has_leading_zero, is_optional_run, power, signed_exponent}
use Rattle.frac_text.specs.Digits.{front, back, digits_in, is_part, is_run, number}
use Rattle.frac_text.specs.Literals.{IsRun, IsOptionalRun, IsFraction, IsMark, IsExponent, IsDecimal, IsZeroLed, absent, unsigned, plus, minus}
use Rattle.frac_text.proofs.Numbers.{digit_range}
use Rattle.frac_text.proofs.Runs.{front_may, front_run, may_stand, optional_back, optional_digits, optional_front, optional_passes, run_digits, run_from, run_passes, run_some}

-- ---- counts

abbrev counted : ℕ → Option ℕ
counted n = Some n

abbrev powered : Power → Option Power
powered p = Some p

same_power : (p q : Power) → powered p ≡ Some q → p ≡ q
same_power p q is = cc is

whole_front : (grouped : Bool) (text : List ℕ) → length (back grouped text) ≡ 0 → front grouped text ≡ text
whole_front grouped text none = by_back (back grouped text) none (take-append-drop (prefix_len (is_part grouped) text) text)
  where
    by_back : (b : List ℕ) → length b ≡ 0 → front grouped text ++ b ≡ text → front grouped text ≡ text
    by_back [] none is = sym (append-nil (front grouped text)) ∙ is
    by_back (c ∷ cs) none is = absurd (omega arith)

-- a text that is a run from end to end
pub whole_run : (grouped : Bool) (text : List ℕ) → length (back grouped text) ≡ 0 → is_run false text ≡ true → IsRun Ten grouped text (digits_in text)
whole_run grouped text none passes =
    run_from Ten grouped text passes (subst (λ t. list_all (may_stand grouped) t ≡ true) (whole_front grouped text none) (front_may grouped text))

run_alone : (grouped : Bool) (run digits : List ℕ) → IsRun Ten grouped run digits → back grouped run ≡ []
run_alone grouped run digits is = ap (back grouped) (sym (append-nil run)) ∙ optional_back grouped run digits [] (inr is) refl

abbrev count_by : Bool → Bool → List ℕ → Option ℕ
count_by b c text = cond (b && c) (Some (number (digits_in text))) None

count_found : (grouped : Bool) (run digits : List ℕ) → IsRun Ten grouped run digits → count_of grouped run ≡ Some (number digits)
count_found grouped run digits is =
    let ends : (length (back grouped run) == 0) ≡ true = ap (λ b. length b == 0) (run_alone grouped run digits is) in
    ap (λ b. count_by b (is_run false run) run) ends
    ∙ ap (λ b. count_by true b run) (run_passes Ten grouped false run digits is)
    ∙ ap (λ ds. counted (number ds)) (run_digits Ten grouped run digits is)

-- a count that was found is that of a run
count_read : (P : Type 0) (negative grouped : Bool) (text : List ℕ) (p : Power) → power negative (count_of grouped text) ≡ Some p
    → ((digits : List ℕ) → IsRun Ten grouped text digits → record { negative = negative; size = number digits } ≡ p → P) → P
count_read P negative grouped text p is goes = by_tests (length (back grouped text) == 0) (is_run false text) refl refl is
  where
    by_tests : (b c : Bool) → (length (back grouped text) == 0) ≡ b → is_run false text ≡ c → power negative (count_by b c text) ≡ Some p → P
    by_tests true true ends passes e = goes (digits_in text) (whole_run grouped text (eqb-true (length (back grouped text)) 0 ends) passes) (same_power (record { negative = negative; size = number (digits_in text) }) p e)
    by_tests true false ends passes e = absurd (cc e)
    by_tests false c ends passes e = absurd (cc e)

-- ---- exponents

mark_test : (c : ℕ) → IsMark c → (c == 101 || c == 69) ≡ true
mark_test c (inl is) = subst (λ z. (z == 101 || z == 69) ≡ true) (sym is) refl
mark_test c (inr is) = subst (λ z. (z == 101 || z == 69) ≡ true) (sym is) refl

test_mark : (c : ℕ) → (c == 101 || c == 69) ≡ true → IsMark c
test_mark c passes = by_first (c == 101) refl passes
  where
    by_first : (b : Bool) → (c == 101) ≡ b → (b || c == 69) ≡ true → IsMark c
    by_first true is p = inl (eqb-true c 101 is)
    by_first false is p = inr (eqb-true c 69 p)

-- a run begins with a digit
run_first : (grouped : Bool) (c : ℕ) (run digits : List ℕ) → IsRun Ten grouped (c ∷ run) digits → is_ascii_digit c ≡ true
run_first grouped c run digits is = by_test (is_ascii_digit c) refl (run_passes Ten grouped false (c ∷ run) digits is)
  where
    by_test : (b : Bool) → is_ascii_digit c ≡ b → cond b (is_run true run) (false && (c == 95 && is_run false run)) ≡ true → b ≡ true
    by_test true is p = refl
    by_test false is p = absurd (false≢true p)

no_sign : (grouped : Bool) (run digits : List ℕ) (sign : ℕ) → is_ascii_digit sign ≡ false → IsRun Ten grouped (sign ∷ run) digits → ⊥
no_sign grouped run digits sign other is = true≢false (sym (run_first grouped sign run digits is) ∙ other)

-- a run has no sign
unsigned_run : (grouped : Bool) (run digits : List ℕ) → IsRun Ten grouped run digits → signed_exponent grouped run ≡ power false (count_of grouped run)
unsigned_run grouped [] digits is = absurd (let some = (run_some Ten grouped [] digits is).0 in omega (arith, some))
unsigned_run grouped (c ∷ cs) digits is =
    cond-false _ _ _ (ne_eqb c 45 (λ e. no_sign grouped cs digits 45 refl (subst (λ z. IsRun Ten grouped (z ∷ cs) digits) e is)))
    ∙ cond-false _ _ _ (ne_eqb c 43 (λ e. no_sign grouped cs digits 43 refl (subst (λ z. IsRun Ten grouped (z ∷ cs) digits) e is)))

exponent_found : (grouped : Bool) (ending : List ℕ) (p : Power) → IsExponent grouped ending p → exponent_of grouped ending ≡ Some p
exponent_found grouped ending p absent = refl
exponent_found grouped ending p (unsigned c run digits mark is) =
    cond-true _ _ _ (mark_test c mark) ∙ unsigned_run grouped run digits is ∙ ap (power false) (count_found grouped run digits is)
exponent_found grouped ending p (plus c run digits mark is) = cond-true _ _ _ (mark_test c mark) ∙ ap (power false) (count_found grouped run digits is)
exponent_found grouped ending p (minus c run digits mark is) = cond-true _ _ _ (mark_test c mark) ∙ ap (power true) (count_found grouped run digits is)

exponent_read : (grouped : Bool) (ending : List ℕ) (p : Power) → exponent_of grouped ending ≡ Some p → IsExponent grouped ending p
exponent_read grouped [] p is = subst (IsExponent grouped []) (same_power (record { negative = false; size = 0 }) p is) absent
exponent_read grouped (c ∷ []) p is = by_mark (c == 101 || c == 69) is
  where
    by_mark : (b : Bool) → cond b (power false None) None ≡ Some p → IsExponent grouped (c ∷ []) p
    by_mark true e = absurd (cc e)
    by_mark false e = absurd (cc e)
exponent_read grouped (c ∷ (s ∷ cs)) p is = by_mark (c == 101 || c == 69) refl is
  where
    by_sign : (b d : Bool) → (s == 45) ≡ b → (s == 43) ≡ d → IsMark c
        → cond b (power true (count_of grouped cs)) (cond d (power false (count_of grouped cs)) (power false (count_of grouped (s ∷ cs)))) ≡ Some p → IsExponent grouped (c ∷ (s ∷ cs)) p
    by_sign true d is other mark e =
        subst (λ z. IsExponent grouped (c ∷ (z ∷ cs)) p) (sym (eqb-true s 45 is)) (count_read (IsExponent grouped (c ∷ (45 ∷ cs)) p) true grouped cs p e (λ digits run same. subst (IsExponent grouped (c ∷ (45 ∷ cs))) same (minus c cs digits mark run)))
    by_sign false true other is mark e =
        subst (λ z. IsExponent grouped (c ∷ (z ∷ cs)) p) (sym (eqb-true s 43 is)) (count_read (IsExponent grouped (c ∷ (43 ∷ cs)) p) false grouped cs p e (λ digits run same. subst (IsExponent grouped (c ∷ (43 ∷ cs))) same (plus c cs digits mark run)))
    by_sign false false other is mark e =
        count_read (IsExponent grouped (c ∷ (s ∷ cs)) p) false grouped (s ∷ cs) p e (λ digits run same. subst (IsExponent grouped (c ∷ (s ∷ cs))) same (unsigned c (s ∷ cs) digits mark run))

    by_mark : (b : Bool) → (c == 101 || c == 69) ≡ b → cond b (signed_exponent grouped (s ∷ cs)) None ≡ Some p → IsExponent grouped (c ∷ (s ∷ cs)) p
    by_mark true passes e = by_sign (s == 45) (s == 43) refl refl (test_mark c passes) e
    by_mark false passes e = absurd (cc e)

-- ---- what stands behind the whole digits

mark_stops : (grouped : Bool) (c : ℕ) (cs : List ℕ) → IsMark c → prefix_len (is_part grouped) (c ∷ cs) ≡ 0
mark_stops true c cs (inl is) = subst (λ z. prefix_len (is_part true) (z ∷ cs) ≡ 0) (sym is) refl
mark_stops true c cs (inr is) = subst (λ z. prefix_len (is_part true) (z ∷ cs) ≡ 0) (sym is) refl
mark_stops false c cs (inl is) = subst (λ z. prefix_len (is_part false) (z ∷ cs) ≡ 0) (sym is) refl
mark_stops false c cs (inr is) = subst (λ z. prefix_len (is_part false) (z ∷ cs) ≡ 0) (sym is) refl

exponent_stops : (grouped : Bool) (ending : List ℕ) (p : Power) → IsExponent grouped ending p → prefix_len (is_part grouped) ending ≡ 0
exponent_stops grouped ending p absent = refl
exponent_stops grouped ending p (unsigned c run digits mark is) = mark_stops grouped c run mark
exponent_stops grouped ending p (plus c run digits mark is) = mark_stops grouped c (43 ∷ run) mark
exponent_stops grouped ending p (minus c run digits mark is) = mark_stops grouped c (45 ∷ run) mark

point_stops : (grouped : Bool) (cs : List ℕ) → prefix_len (is_part grouped) (46 ∷ cs) ≡ 0
point_stops true cs = refl
point_stops false cs = refl

mark_no_point : (c : ℕ) → IsMark c → (c == 46) ≡ false
mark_no_point c (inl is) = subst (λ z. (z == 46) ≡ false) (sym is) refl
mark_no_point c (inr is) = subst (λ z. (z == 46) ≡ false) (sym is) refl

-- what reading finds behind the whole digits
record IsRest (grouped : Bool) (rest ending after : List ℕ) : Type 0 where
  pub stops : prefix_len (is_part grouped) rest ≡ 0
  pub passes : is_optional_run (fraction_of grouped rest) ≡ true
  pub digits : digits_in (fraction_of grouped rest) ≡ after
  pub ends : ending_of grouped rest ≡ ending

no_fraction : (grouped : Bool) (c : ℕ) (cs : List ℕ) → IsMark c → IsRest grouped (c ∷ cs) (c ∷ cs) []
no_fraction grouped c cs mark =
    let f : fraction_of grouped (c ∷ cs) ≡ [] = cond-false _ _ _ (mark_no_point c mark) in
    record { stops = mark_stops grouped c cs mark; passes = ap is_optional_run f; digits = ap digits_in f; ends = cond-false _ _ _ (mark_no_point c mark) }

bare_ending : (grouped : Bool) (ending : List ℕ) (p : Power) → IsExponent grouped ending p → IsRest grouped ending ending []
bare_ending grouped ending p absent = record { stops = refl; passes = refl; digits = refl; ends = refl }
bare_ending grouped ending p (unsigned c run digits mark is) = no_fraction grouped c run mark
bare_ending grouped ending p (plus c run digits mark is) = no_fraction grouped c (43 ∷ run) mark
bare_ending grouped ending p (minus c run digits mark is) = no_fraction grouped c (45 ∷ run) mark

rest_found : (grouped : Bool) (rest ending after : List ℕ) (p : Power) → IsFraction grouped rest ending after → IsExponent grouped ending p → IsRest grouped rest ending after
rest_found grouped rest ending after p (inl none) is = subst (λ (r : List ℕ). IsRest grouped r ending after) (sym none.0) (subst (IsRest grouped ending ending) (sym none.1) (bare_ending grouped ending p is))
rest_found grouped rest ending after p (inr pointed) is =
    let run : List ℕ = pointed.0 in
    let stop = exponent_stops grouped ending p is in
    let f : front grouped (run ++ ending) ≡ run = optional_front grouped run after ending pointed.2 stop in
    subst (λ (r : List ℕ). IsRest grouped r ending after) (sym pointed.1)
    (record {
      stops = point_stops grouped (run ++ ending);
      passes = ap is_optional_run f ∙ optional_passes grouped run after pointed.2;
      digits = ap digits_in f ∙ optional_digits grouped run after pointed.2;
      ends = optional_back grouped run after ending pointed.2 stop;
    })

rest_read : (grouped : Bool) (rest : List ℕ) → is_optional_run (fraction_of grouped rest) ≡ true → IsFraction grouped rest (ending_of grouped rest) (digits_in (fraction_of grouped rest))
rest_read grouped [] passes = inl (refl, refl)
rest_read grouped (c ∷ cs) passes = by_point (c == 46) refl passes
  where
    by_point : (b : Bool) → (c == 46) ≡ b → is_optional_run (cond b (front grouped cs) []) ≡ true → IsFraction grouped (c ∷ cs) (cond b (back grouped cs) (c ∷ cs)) (digits_in (cond b (front grouped cs) []))
    by_point true is p =
        inr (
          front grouped cs,
          ap (λ z. z ∷ cs) (eqb-true c 46 is) ∙ ap (λ l. 46 ∷ l) (sym (take-append-drop (prefix_len (is_part grouped) cs) cs)),
          front_run grouped cs p,
        )
    by_point false is p = inl (refl, refl)

-- ---- decimal numbers

abbrev found : Decimal → Option Decimal
found d = Some d

same_decimal : (d e : Decimal) → found d ≡ Some e → d ≡ e
same_decimal d e is = cc is

abbrev assembled : Bool → List ℕ → List ℕ → Option Power → Option Decimal
assembled b whole fraction p = cond b (decimal_from whole fraction p) None

abbrev decimal : List ℕ → ℕ → Power → Decimal
decimal digits places exponent = record { digits = digits; places = places; exponent = exponent }

-- runs on at least one side
either_side : (a b : List ℕ) → is_optional_run a ≡ true → is_optional_run b ≡ true → 0 < length (digits_in a ++ digits_in b) → are_digits a b ≡ true
either_side a b left right some = and_from _ _ left (and_from _ _ right (not_both a b some))
  where
    not_both : (a b : List ℕ) → 0 < length (digits_in a ++ digits_in b) → not (length a == 0 && length b == 0) ≡ true
    not_both [] [] some = absurd (omega (arith, some))
    not_both [] (c ∷ cs) some = ap not (ne_eqb (length (c ∷ cs)) 0 (λ e. omega arith))
    not_both (c ∷ cs) b some = ap (λ t. not (t && length b == 0)) (ne_eqb (length (c ∷ cs)) 0 (λ e. omega arith))

pub decimal_found : (grouped : Bool) (text : List ℕ) (d : Decimal) → IsDecimal grouped text d → decimal_of grouped text ≡ Some d
decimal_found grouped text d is =
    let rest = rest_found grouped is.rest is.ending is.after d.exponent is.right is.exponent in
    let f : front grouped text ≡ is.whole = ap (front grouped) is.spelled ∙ optional_front grouped is.whole is.before is.rest is.left rest.stops in
    let b : back grouped text ≡ is.rest = ap (back grouped) is.spelled ∙ optional_back grouped is.whole is.before is.rest is.left rest.stops in
    let before : digits_in is.whole ≡ is.before = optional_digits grouped is.whole is.before is.left in
    let some : 0 < length (digits_in is.whole ++ digits_in (fraction_of grouped is.rest)) =
    subst (λ x. 0 < length (x ++ digits_in (fraction_of grouped is.rest))) (sym before) (subst (λ y. 0 < length (is.before ++ y)) (sym rest.digits) is.some) in
    let tests : are_digits is.whole (fraction_of grouped is.rest) ≡ true = either_side is.whole (fraction_of grouped is.rest) (optional_passes grouped is.whole is.before is.left) rest.passes some in
    let digits : digits_in is.whole ++ digits_in (fraction_of grouped is.rest) ≡ d.digits =
    ap (λ x. x ++ digits_in (fraction_of grouped is.rest)) before ∙ ap (λ y. is.before ++ y) rest.digits ∙ sym is.digits in
    let places : length (digits_in (fraction_of grouped is.rest)) ≡ d.places = ap length rest.digits ∙ sym is.places in
    ap (λ w. assembled (are_digits w (fraction_of grouped (back grouped text))) w (fraction_of grouped (back grouped text)) (exponent_of grouped (ending_of grouped (back grouped text)))) f
    ∙ ap (λ r. assembled (are_digits is.whole (fraction_of grouped r)) is.whole (fraction_of grouped r) (exponent_of grouped (ending_of grouped r))) b
    ∙ ap (λ t. assembled t is.whole (fraction_of grouped is.rest) (exponent_of grouped (ending_of grouped is.rest))) tests
    ∙ ap (λ e. decimal_from is.whole (fraction_of grouped is.rest) (exponent_of grouped e)) rest.ends
    ∙ ap (decimal_from is.whole (fraction_of grouped is.rest)) (exponent_found grouped is.ending d.exponent is.exponent)
    ∙ ap (λ ds. found (decimal ds (length (digits_in (fraction_of grouped is.rest))) d.exponent)) digits
    ∙ ap (λ n. found (decimal d.digits n d.exponent)) places

run_or_none : (grouped : Bool) (run digits : List ℕ) → IsOptionalRun grouped run digits → (length run ≡ 0) ⊎ (0 < length digits)
run_or_none grouped run digits (inl none) = inl (ap length none.0)
run_or_none grouped run digits (inr some) = inr (run_some Ten grouped run digits some).1

longer : (xs ys : List ℕ) → (0 < length xs) ⊎ (0 < length ys) → 0 < length (xs ++ ys)
longer [] ys (inl some) = absurd (omega (arith, some))
longer [] ys (inr some) = some
longer (x ∷ xs) ys some = omega arith

module _ (grouped : Bool) (text : List ℕ) where
  abbrev w : List ℕ
  w = front grouped text

  abbrev r : List ℕ
  r = back grouped text

  abbrev f : List ℕ
  f = fraction_of grouped r

  abbrev e : List ℕ
  e = ending_of grouped r

  made : (p : Power) → are_digits w f ≡ true → exponent_of grouped e ≡ Some p → IsDecimal grouped text (decimal (digits_in w ++ digits_in f) (length (digits_in f)) p)
  made p tests exponent =
      let parts = and_parts (is_optional_run w) (is_optional_run f && not (length w == 0 && length f == 0)) tests in
      let more = and_parts (is_optional_run f) (not (length w == 0 && length f == 0)) parts.1 in
      let left = front_run grouped text parts.0 in
      let right = rest_read grouped r more.0 in
      record {
        whole = w;
        rest = r;
        ending = e;
        before = digits_in w;
        after = digits_in f;
        spelled = sym (take-append-drop (prefix_len (is_part grouped) text) text);
        left = left;
        right = right;
        some = longer (digits_in w) (digits_in f) (sides left (optional_fraction more.0) more.1);
        digits = refl;
        places = refl;
        exponent = exponent_read grouped e p exponent;
      }
    where
      optional_fraction : is_optional_run f ≡ true → (length f ≡ 0) ⊎ (0 < length (digits_in f))
      optional_fraction passes = by_rest r passes
        where
          by_rest : (r : List ℕ) → is_optional_run (fraction_of grouped r) ≡ true → (length (fraction_of grouped r) ≡ 0) ⊎ (0 < length (digits_in (fraction_of grouped r)))
          by_rest [] p = inl refl
          by_rest (c ∷ cs) p = by_point (c == 46) p
            where
              by_point : (b : Bool) → is_optional_run (cond b (front grouped cs) []) ≡ true → (length (cond b (front grouped cs) []) ≡ 0) ⊎ (0 < length (digits_in (cond b (front grouped cs) [])))
              by_point true q = run_or_none grouped (front grouped cs) (digits_in (front grouped cs)) (front_run grouped cs q)
              by_point false q = inl refl

      sides : IsOptionalRun grouped w (digits_in w) → (length f ≡ 0) ⊎ (0 < length (digits_in f)) → not (length w == 0 && length f == 0) ≡ true → (0 < length (digits_in w)) ⊎ (0 < length (digits_in f))
      sides left fraction some = by_left (run_or_none grouped w (digits_in w) left) fraction
        where
          by_left : (length w ≡ 0) ⊎ (0 < length (digits_in w)) → (length f ≡ 0) ⊎ (0 < length (digits_in f)) → (0 < length (digits_in w)) ⊎ (0 < length (digits_in f))
          by_left (inr some) b = inl some
          by_left (inl none) (inr some) = inr some
          by_left (inl bare) (inl none) =
              let both : (length w == 0 && length f == 0) ≡ true = and_from _ _ (eq-eqb (length w) 0 bare) (eq-eqb (length f) 0 none) in
              absurd (false≢true (sym (ap not both) ∙ some))

  by_exponent : (d : Decimal) (o : Option Power) → are_digits w f ≡ true → exponent_of grouped e ≡ o → decimal_from w f o ≡ Some d → IsDecimal grouped text d
  by_exponent d None tests at k = absurd (cc k)
  by_exponent d (Some p) tests at k = subst (IsDecimal grouped text) (same_decimal (decimal (digits_in w ++ digits_in f) (length (digits_in f)) p) d k) (made p tests at)

  by_tests : (d : Decimal) (b : Bool) → are_digits w f ≡ b → assembled b w f (exponent_of grouped e) ≡ Some d → IsDecimal grouped text d
  by_tests d true tests k = by_exponent d (exponent_of grouped e) tests refl k
  by_tests d false tests k = absurd (cc k)

  pub decimal_read : (d : Decimal) → decimal_of grouped text ≡ Some d → IsDecimal grouped text d
  decimal_read d is = by_tests d (are_digits w f) refl is

-- ---- a needless 0

second_digit : (ds : List ℕ) → 0 < length ds → 1 < length (48 ∷ ds)
second_digit ds some = omega arith

-- a run begins with its first digit
run_head : (grouped : Bool) (text : List ℕ) (d : ℕ) (ds : List ℕ) → IsRun Ten grouped text (d ∷ ds) → (rest : List ℕ) × (text ≡ d ∷ rest)
run_head grouped [] d ds is = absurd (let some = (run_some Ten grouped [] (d ∷ ds) is).0 in omega (arith, some))
run_head grouped (c ∷ cs) d ds is =
    let digits : digits_in (c ∷ cs) ≡ d ∷ ds = run_digits Ten grouped (c ∷ cs) (d ∷ ds) is in
    let first : digits_in (c ∷ cs) ≡ c ∷ digits_in cs = cond-true _ _ _ (run_first grouped c cs (d ∷ ds) is) in
    let same : c ≡ d = ap (λ l. get_or l 0 0) (sym first ∙ digits) in
    (cs, ap (λ z. z ∷ cs) same)

pub zero_found : (grouped : Bool) (text : List ℕ) → IsZeroLed grouped text → has_leading_zero grouped text ≡ true
zero_found grouped text zero =
    let head = run_head grouped text 48 zero.0 zero.1 in
    let ends : length (back grouped text) ≡ 0 = ap length (run_alone grouped text (48 ∷ zero.0) zero.1) in
    let many : 1 < length (digits_in text) = subst (λ l. 1 < length l) (sym (run_digits Ten grouped text (48 ∷ zero.0) zero.1)) (second_digit zero.0 zero.2) in
    by_head text head.0 head.1 ends many
  where
    by_head : (t rest : List ℕ) → t ≡ 48 ∷ rest → length (back grouped t) ≡ 0 → 1 < length (digits_in t) → has_leading_zero grouped t ≡ true
    by_head t rest is ends many =
        let ends' : length (back grouped (48 ∷ rest)) ≡ 0 = subst (λ (l : List ℕ). length (back grouped l) ≡ 0) is ends in
        let many' : 1 < length (digits_in (48 ∷ rest)) = subst (λ (l : List ℕ). 1 < length (digits_in l)) is many in
        ap (has_leading_zero grouped) is ∙ and_from _ _ (eq-eqb (length (back grouped (48 ∷ rest))) 0 ends') (lt-ltb 1 (length (digits_in (48 ∷ rest))) many')

-- the whole text of a decimal number that is digits alone is a run
alone_run : (grouped : Bool) (text : List ℕ) (d : Decimal) → decimal_of grouped text ≡ Some d → 0 < length text → length (back grouped text) ≡ 0 → IsRun Ten grouped text (digits_in text)
alone_run grouped text d reads some ends = by_tests (are_digits (front grouped text) (fraction_of grouped (back grouped text))) refl reads
  where
    by_run : IsOptionalRun grouped text (digits_in text) → IsRun Ten grouped text (digits_in text)
    by_run (inl bare) = absurd (omega (arith, some, ap length bare.0))
    by_run (inr run) = run

    by_tests : (b : Bool) → are_digits (front grouped text) (fraction_of grouped (back grouped text)) ≡ b
        → assembled b (front grouped text) (fraction_of grouped (back grouped text)) (exponent_of grouped (ending_of grouped (back grouped text))) ≡ Some d → IsRun Ten grouped text (digits_in text)
    by_tests true tests e =
        let parts = and_parts (is_optional_run (front grouped text)) (is_optional_run (fraction_of grouped (back grouped text)) && not (length (front grouped text) == 0 && length (fraction_of grouped (back grouped text)) == 0)) tests in
        by_run (subst (λ (l : List ℕ). IsOptionalRun grouped l (digits_in l)) (whole_front grouped text ends) (front_run grouped text parts.0))
    by_tests false tests e = absurd (cc e)

pub zero_read : (grouped : Bool) (text : List ℕ) (d : Decimal) → decimal_of grouped text ≡ Some d → has_leading_zero grouped text ≡ true → IsZeroLed grouped text
zero_read grouped [] d reads lead = absurd (false≢true lead)
zero_read grouped (c ∷ cs) d reads lead =
    let first = and_parts (c == 48) (length (back grouped (c ∷ cs)) == 0 && nat_lt 1 (length (digits_in (c ∷ cs)))) lead in
    let more = and_parts (length (back grouped (c ∷ cs)) == 0) (nat_lt 1 (length (digits_in (c ∷ cs)))) first.1 in
    let ends : length (back grouped (c ∷ cs)) ≡ 0 = eqb-true (length (back grouped (c ∷ cs))) 0 more.0 in
    let many : 1 < length (digits_in (c ∷ cs)) = ltb-true 1 (length (digits_in (c ∷ cs))) more.1 in
    let run : IsRun Ten grouped (c ∷ cs) (digits_in (c ∷ cs)) = alone_run grouped (c ∷ cs) d reads (omega arith) ends in
    let zero : c ≡ 48 = eqb-true c 48 first.0 in
    let digits : digits_in (c ∷ cs) ≡ 48 ∷ digits_in cs = cond-true _ _ _ (run_first grouped c cs (digits_in (c ∷ cs)) run) ∙ ap (λ z. z ∷ digits_in cs) zero in (
      digits_in cs,
      subst (λ (l : List ℕ). IsRun Ten grouped (c ∷ cs) l) digits run,
      (let few : 1 < length (48 ∷ digits_in cs) = subst (λ (l : List ℕ). 1 < length l) digits many in omega arith),
    )

-- ---- the first byte

-- a decimal number begins with a digit or a point
abbrev pub IsLow : List ℕ → Type 0
IsLow [] = ⊥
IsLow (c ∷ cs) = c < 58

digit_low : (c : ℕ) → is_ascii_digit c ≡ true → c < 58
digit_low c is = let range = digit_range c is in omega (arith, range.1)

pub first_low : (grouped : Bool) (text : List ℕ) (d : Decimal) → IsDecimal grouped text d → IsLow text
first_low grouped text d is = by_left is.whole is.rest is.before is.ending is.after is.spelled is.left is.right is.some
  where
    by_left : (w r b e a : List ℕ) → text ≡ w ++ r → IsOptionalRun grouped w b → IsFraction grouped r e a → 0 < length (b ++ a) → IsLow text
    by_left [] r b e a spelled (inl empty) (inl bare) some = absurd (omega (arith, some, ap (λ (x : List ℕ). length (x ++ a)) empty.1 ∙ ap length bare.1))
    by_left [] r b e a spelled (inl empty) (inr pointed) some = subst IsLow (sym (spelled ∙ pointed.1)) (omega arith)
    by_left [] r b e a spelled (inr run) right some = absurd (let long = (run_some Ten grouped [] b run).0 in omega (arith, long))
    by_left (c ∷ cs) r b e a spelled (inl empty) right some = absurd (omega (arith, ap length empty.0))
    by_left (c ∷ cs) r b e a spelled (inr run) right some = subst IsLow (sym spelled) (digit_low c (run_first grouped c cs b run))
