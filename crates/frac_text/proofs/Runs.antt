-- Runs of digits: what the tests take is what the grammar spells.
use Rattle.std.proofs.Common.{◌≡◌, ℕ, suc, ◌+◌, ◌<◌, refl, sym, subst, ap, ◌∙◌, arith, Bool, true, false, cond, not, ◌==◌, ◌&&◌, ◌||◌, List, [], ◌∷◌, ◌++◌, length, take, drop, inl, inr, ◌⊎◌}
use Rattle.std.specs.Char.{is_ascii_digit}
use Rattle.std.specs.List.{filter, list_all, prefix_len}
use Rattle.std.proofs.Math.Seq.{take-append_seam, drop-append_seam}
use Rattle.std.proofs.lemmas.Bool.{and_from, and_parts, cond-true, cond-false, eqb-true, true≢false, false≢true}
use Rattle.frac_text.specs.declared.digits.Base.{Base}
use Rattle.frac_text.specs.declared.digits.Base.TheVariants.{Ten, Sixteen}
use Rattle.frac_text.specs.Decimals.{is_optional_run}
use Rattle.frac_text.specs.Digits.{front, back, digits_in, is_digit, is_part, is_run_in}
use Rattle.frac_text.specs.Literals.{IsRun, IsOptionalRun, last, next, parted}

no_digit : (base : Base) → is_digit base 95 ≡ false
no_digit Ten = refl
no_digit Sixteen = refl

-- an underscore only where digits may be grouped
abbrev pub may_stand : Bool → ℕ → Bool
may_stand grouped c = grouped || not (c == 95)

-- ---- what the grammar spells passes the tests

pub run_passes : (base : Base) (grouped after : Bool) (run digits : List ℕ) → IsRun base grouped run digits → is_run_in base after run ≡ true
run_passes base grouped after run digits (last c some) = cond-true _ _ _ some
run_passes base grouped after run digits (next c cs ds some more) = cond-true _ _ _ some ∙ run_passes base grouped true cs ds more
run_passes base grouped after run digits (parted c cs ds may some more) =
    cond-true _ _ _ some ∙ cond-false _ _ _ (no_digit base) ∙ run_passes base grouped false cs ds more

pub run_digits : (base : Base) (grouped : Bool) (run digits : List ℕ) → IsRun base grouped run digits → filter (is_digit base) run ≡ digits
run_digits base grouped run digits (last c some) = cond-true _ _ _ some
run_digits base grouped run digits (next c cs ds some more) = cond-true _ _ _ some ∙ ap (λ l. c ∷ l) (run_digits base grouped cs ds more)
run_digits base grouped run digits (parted c cs ds may some more) =
    cond-true _ _ _ some ∙ ap (λ l. c ∷ l) (cond-false _ _ _ (no_digit base) ∙ run_digits base grouped cs ds more)

pub run_some : (base : Base) (grouped : Bool) (run digits : List ℕ) → IsRun base grouped run digits → (0 < length run) × (0 < length digits)
run_some base grouped run digits (last c some) = (omega arith, omega arith)
run_some base grouped run digits (next c cs ds some more) = (omega arith, omega arith)
run_some base grouped run digits (parted c cs ds may some more) = (omega arith, omega arith)

part_digit : (grouped : Bool) (c : ℕ) → is_ascii_digit c ≡ true → is_part grouped c ≡ true
part_digit grouped c some = ap (λ b. b || (grouped && c == 95)) some

run_length : (grouped : Bool) (run digits rest : List ℕ) → IsRun Ten grouped run digits → prefix_len (is_part grouped) rest ≡ 0 → prefix_len (is_part grouped) (run ++ rest) ≡ length run
run_length grouped run digits rest (last c some) stop = cond-true _ _ _ (part_digit grouped c some) ∙ omega (arith, stop)
run_length grouped run digits rest (next c cs ds some more) stop =
    cond-true _ _ _ (part_digit grouped c some) ∙ (let later = run_length grouped cs ds rest more stop in omega (arith, later))
run_length grouped run digits rest (parted c cs ds may some more) stop =
    let second : prefix_len (is_part grouped) (95 ∷ (cs ++ rest)) ≡ 1 + prefix_len (is_part grouped) (cs ++ rest) = cond-true _ _ _ (ap (λ b. b && true) may) in
    let later = run_length grouped cs ds rest more stop in
    cond-true _ _ _ (part_digit grouped c some) ∙ omega (arith, second, later)

-- an optional run and what stops it
optional_length : (grouped : Bool) (run digits rest : List ℕ) → IsOptionalRun grouped run digits → prefix_len (is_part grouped) rest ≡ 0 → prefix_len (is_part grouped) (run ++ rest) ≡ length run
optional_length grouped run digits rest (inl none) stop = subst (λ (r : List ℕ). prefix_len (is_part grouped) (r ++ rest) ≡ length r) (sym none.0) stop
optional_length grouped run digits rest (inr some) stop = run_length grouped run digits rest some stop

pub optional_front : (grouped : Bool) (run digits rest : List ℕ) → IsOptionalRun grouped run digits → prefix_len (is_part grouped) rest ≡ 0 → front grouped (run ++ rest) ≡ run
optional_front grouped run digits rest is stop = ap (λ k. take k (run ++ rest)) (optional_length grouped run digits rest is stop) ∙ take-append_seam run rest

pub optional_back : (grouped : Bool) (run digits rest : List ℕ) → IsOptionalRun grouped run digits → prefix_len (is_part grouped) rest ≡ 0 → back grouped (run ++ rest) ≡ rest
optional_back grouped run digits rest is stop = ap (λ k. drop k (run ++ rest)) (optional_length grouped run digits rest is stop) ∙ drop-append_seam run rest

pub optional_digits : (grouped : Bool) (run digits : List ℕ) → IsOptionalRun grouped run digits → digits_in run ≡ digits
optional_digits grouped run digits (inl none) = ap digits_in none.0 ∙ sym none.1
optional_digits grouped run digits (inr some) = run_digits Ten grouped run digits some

pub optional_passes : (grouped : Bool) (run digits : List ℕ) → IsOptionalRun grouped run digits → is_optional_run run ≡ true
optional_passes grouped run digits (inl none) = ap is_optional_run none.0
optional_passes grouped run digits (inr some) = by_length (length run == 0) (run_passes Ten grouped false run digits some)
  where
    by_length : (b : Bool) → is_run_in Ten false run ≡ true → (b || is_run_in Ten false run) ≡ true
    by_length true passes = refl
    by_length false passes = passes

-- ---- what passes the tests is spelled

-- what stands behind a digit, or at the front of a run
abbrev Spelled : Base → Bool → Bool → List ℕ → Type 0
Spelled base grouped true cs = (c : ℕ) → is_digit base c ≡ true → IsRun base grouped (c ∷ cs) (c ∷ filter (is_digit base) cs)
Spelled base grouped false cs = IsRun base grouped cs (filter (is_digit base) cs)

at_front : (base : Base) (grouped : Bool) (x : ℕ) (xs : List ℕ) → (is_run_in base true xs ≡ true → Spelled base grouped true xs) → is_run_in base false (x ∷ xs) ≡ true → IsRun base grouped (x ∷ xs) (filter (is_digit base) (x ∷ xs))
at_front base grouped x xs digit passes = by_digit (is_digit base x) refl passes
  where
    by_digit : (b : Bool) → is_digit base x ≡ b → cond b (is_run_in base true xs) (false && (x == 95 && is_run_in base false xs)) ≡ true → IsRun base grouped (x ∷ xs) (cond b (x ∷ filter (is_digit base) xs) (filter (is_digit base) xs))
    by_digit true is p = digit p x is
    by_digit false is p = absurd (false≢true p)

is_grouped : (grouped : Bool) (x : ℕ) → may_stand grouped x ≡ true → x ≡ 95 → grouped ≡ true
is_grouped true x may e = refl
is_grouped false x may e = absurd (false≢true (subst (λ z. not (z == 95) ≡ true) e may))

behind_digit : (base : Base) (grouped : Bool) (x : ℕ) (xs : List ℕ) → (is_run_in base true xs ≡ true → Spelled base grouped true xs) → (is_run_in base false xs ≡ true → Spelled base grouped false xs) → may_stand grouped x ≡ true
    → is_run_in base true (x ∷ xs) ≡ true → (c : ℕ) → is_digit base c ≡ true → IsRun base grouped (c ∷ (x ∷ xs)) (c ∷ filter (is_digit base) (x ∷ xs))
behind_digit base grouped x xs digit other may passes c some = by_digit (is_digit base x) refl passes
  where
    by_digit : (b : Bool) → is_digit base x ≡ b → cond b (is_run_in base true xs) (true && (x == 95 && is_run_in base false xs)) ≡ true
        → IsRun base grouped (c ∷ (x ∷ xs)) (c ∷ cond b (x ∷ filter (is_digit base) xs) (filter (is_digit base) xs))
    by_digit true is p = next c (x ∷ xs) (x ∷ filter (is_digit base) xs) some (digit p x is)
    by_digit false is p =
        let both = and_parts (x == 95) (is_run_in base false xs) p in
        let e : x ≡ 95 = eqb-true x 95 both.0 in
        subst (λ z. IsRun base grouped (c ∷ (z ∷ xs)) (c ∷ filter (is_digit base) xs)) (sym e) (parted c xs (filter (is_digit base) xs) (is_grouped grouped x may e) some (other both.1))

spelled : (base : Base) (grouped : Bool) (cs : List ℕ) → list_all (may_stand grouped) cs ≡ true → (is_run_in base true cs ≡ true → Spelled base grouped true cs) × (is_run_in base false cs ≡ true → Spelled base grouped false cs)
spelled base grouped [] may = (λ passes c some. last c some, λ passes. absurd (false≢true passes))
spelled base grouped (x ∷ xs) may =
    let mays = and_parts (may_stand grouped x) (list_all (may_stand grouped) xs) may in
    let both = spelled base grouped xs mays.1 in
    (behind_digit base grouped x xs both.0 both.1 mays.0, at_front base grouped x xs both.0)

-- a run that may not begin with an underscore
pub run_from : (base : Base) (grouped : Bool) (text : List ℕ) → is_run_in base false text ≡ true → list_all (may_stand grouped) text ≡ true → IsRun base grouped text (filter (is_digit base) text)
run_from base grouped text passes may = (spelled base grouped text may).1 passes

-- a run behind a prefix after which an underscore may stand
pub run_joined : (base : Base) (text : List ℕ) → 0 < length text → is_run_in base true text ≡ true
    → IsRun base true text (filter (is_digit base) text) ⊎ ((run : List ℕ) × (text ≡ 95 ∷ run) × IsRun base true run (filter (is_digit base) text))
run_joined base [] some passes = absurd (omega arith)
run_joined base (c ∷ cs) some passes = by_digit (is_digit base c) refl passes
  where
    all_may : (xs : List ℕ) → list_all (may_stand true) xs ≡ true
    all_may [] = refl
    all_may (x ∷ xs) = all_may xs

    by_digit : (b : Bool) → is_digit base c ≡ b → cond b (is_run_in base true cs) (true && (c == 95 && is_run_in base false cs)) ≡ true
        → IsRun base true (c ∷ cs) (cond b (c ∷ filter (is_digit base) cs) (filter (is_digit base) cs)) ⊎ ((run : List ℕ) × (c ∷ cs ≡ 95 ∷ run) × IsRun base true run (cond b (c ∷ filter (is_digit base) cs) (filter (is_digit base) cs)))
    by_digit true is p = inl ((spelled base true cs (all_may cs)).0 p c is)
    by_digit false is p =
        let both = and_parts (c == 95) (is_run_in base false cs) p in
        inr (cs, ap (λ z. z ∷ cs) (eqb-true c 95 both.0), run_from base true cs both.1 (all_may cs))

-- ---- the run at the front of a text

part_may : (grouped : Bool) (c : ℕ) → is_part grouped c ≡ true → may_stand grouped c ≡ true
part_may true c is = refl
part_may false c is = by_underscore (c == 95) refl
  where
    by_underscore : (b : Bool) → (c == 95) ≡ b → not b ≡ true
    by_underscore false other = refl
    by_underscore true same =
        let none : is_part false c ≡ false = ap (λ z. is_part false z) (eqb-true c 95 same) in
        absurd (true≢false (sym is ∙ none))

pub front_may : (grouped : Bool) (text : List ℕ) → list_all (may_stand grouped) (front grouped text) ≡ true
front_may grouped [] = refl
front_may grouped (c ∷ cs) = by_part (is_part grouped c) refl (front_may grouped cs)
  where
    by_part : (b : Bool) → is_part grouped c ≡ b → list_all (may_stand grouped) (front grouped cs) ≡ true → list_all (may_stand grouped) (take (cond b (1 + prefix_len (is_part grouped) cs) 0) (c ∷ cs)) ≡ true
    by_part true is more =
        let one : 1 + prefix_len (is_part grouped) cs ≡ suc (prefix_len (is_part grouped) cs) = omega arith in
        subst (λ (k : ℕ). list_all (may_stand grouped) (take k (c ∷ cs)) ≡ true) (sym one) (and_from _ _ (part_may grouped c is) more)
    by_part false is more = refl

pub front_run : (grouped : Bool) (text : List ℕ) → is_optional_run (front grouped text) ≡ true → IsOptionalRun grouped (front grouped text) (digits_in (front grouped text))
front_run grouped text passes = by_front (front grouped text) passes (front_may grouped text)
  where
    by_front : (f : List ℕ) → is_optional_run f ≡ true → list_all (may_stand grouped) f ≡ true → IsOptionalRun grouped f (digits_in f)
    by_front [] p may = inl (refl, refl)
    by_front (c ∷ cs) p may = inr (run_from Ten grouped (c ∷ cs) (passes_of (length (c ∷ cs) == 0) refl p) may)
      where
        passes_of : (b : Bool) → (length (c ∷ cs) == 0) ≡ b → (b || is_run_in Ten false (c ∷ cs)) ≡ true → is_run_in Ten false (c ∷ cs) ≡ true
        passes_of false is q = q
        passes_of true is q =
            let none : length (c ∷ cs) ≡ 0 = eqb-true (length (c ∷ cs)) 0 is in
            absurd (omega arith)
