-- The run of digits at the front of a text is that of its own bytes alone.
use Rattle.std.proofs.Common.{◌≡◌, ℕ, zero, suc, ◌+◌, ◌-◌, ◌<◌, ◌≤◌, ◌∙◌, Bool, true, false, cond, List, [], ◌∷◌, length, take, drop, refl, ap, sym, subst, arith, eqb-true}
use Rattle.std.proofs.Math.Seq.{take-nil}
use Rattle.std.specs.Prelude.{◌&&◌, ◌||◌, ◌==◌}
use Rattle.std.proofs.lemmas.Bool.{eq-eqb}
use Rattle.std.proofs.lemmas.Grind.{common_steps}
use Rattle.std.proofs.lemmas.List.{drop-drop, drop-take, length-take-le}
use Rattle.std.specs.Char.{is_ascii_digit}
use Rattle.std.specs.List.{prefix_len}
use Rattle.frac_text.specs.Decimals.{is_optional_run}
use Rattle.frac_text.specs.Digits.{is_part}
use Rattle.promql_lex.specs.Laws.{is_whole_run}
use Rattle.promql_lex.specs.Numbers.{begins_exponent, begins_number, begins_with_digit, exponent_len, fraction_len, is_mantissa, is_word_byte, mantissa_len, point_len, run_len, signed_len}
use Rattle.promql_lex.proofs.Sizes.{some_run, within_run}

-- what is read at the front of a text is read at the front of its first bytes, where these reach as far

none_left : (n : ℕ) → n ≤ 0 → 0 ≡ n
none_left n h = omega (arith, h)

longer_cut : (c : Bool) (a b m : ℕ) → (b ≤ m → a ≡ b) → cond c (1 + b) 0 ≤ suc m → cond c (1 + a) 0 ≡ cond c (1 + b) 0
longer_cut true a b m same h = ap (λ n. 1 + n) (same (omega (arith, h)))
longer_cut false a b m same h = refl

choice_cut : (c : Bool) (a b m : ℕ) → (b ≤ m → a ≡ b) → cond c b 0 ≤ m → cond c a 0 ≡ cond c b 0
choice_cut true a b m same h = same h
choice_cut false a b m same h = refl

prefix_cut : (p : ℕ → Bool) (m : ℕ) (text : List ℕ) → prefix_len p text ≤ m → prefix_len p (take m text) ≡ prefix_len p text
prefix_cut p m [] h = ap (prefix_len p) (take-nil m)
prefix_cut p zero (x ∷ xs) h = none_left (prefix_len p (x ∷ xs)) h
prefix_cut p (suc m) (x ∷ xs) h = longer_cut (p x) (prefix_len p (take m xs)) (prefix_len p xs) m (prefix_cut p m xs) h

fraction_cut : (m : ℕ) (text : List ℕ) → fraction_len text ≤ m → fraction_len (take m text) ≡ fraction_len text
fraction_cut m [] h = ap fraction_len (take-nil m)
fraction_cut zero (x ∷ xs) h = none_left (fraction_len (x ∷ xs)) h
fraction_cut (suc m) (x ∷ xs) h = longer_cut (x == 46) (prefix_len (is_part true) (take m xs)) (prefix_len (is_part true) xs) m (prefix_cut (is_part true) m xs) h

point_cut : (m : ℕ) (whole rest : List ℕ) → point_len whole rest ≤ m → point_len whole (take m rest) ≡ point_len whole rest
point_cut m whole rest h = choice_cut (is_optional_run whole) (fraction_len (take m rest)) (fraction_len rest) m (fraction_cut m rest) h

take_within : (n m : ℕ) (xs : List ℕ) → n ≤ m → take n (take m xs) ≡ take n xs
take_within zero m xs h = refl
take_within (suc n) zero xs h = absurd (omega (arith, h))
take_within (suc n) (suc m) [] h = refl
take_within (suc n) (suc m) (x ∷ xs) h = ap (λ ys. x ∷ ys) (take_within n m xs (omega (arith, h)))

drop_within : (n m : ℕ) (xs : List ℕ) → n ≤ m → drop n (take m xs) ≡ take (m - n) (drop n xs)
drop_within n m xs h =
    let e : n + (m - n) ≡ m = omega (arith, h) in
    subst (λ k. drop n (take k xs) ≡ take (m - n) (drop n xs)) e (drop-take n (m - n) xs)

-- with the number of bytes of the first part for a name, and the length that is read behind it
parted_cut : (f : List ℕ → List ℕ → ℕ) (m n k : ℕ) (text : List ℕ) → k ≡ n → n ≤ m → f (take n text) (take (m - n) (drop n text)) ≡ f (take n text) (drop n text)
    → k + f (take k (take m text)) (drop k (take m text)) ≡ n + f (take n text) (drop n text)
parted_cut f m n k text same within cut =
    ap (λ j. j + f (take j (take m text)) (drop j (take m text))) same ∙ ap (λ xs. n + f xs (drop n (take m text))) (take_within n m text within)
    ∙ ap (λ xs. n + f (take n text) xs) (drop_within n m text within) ∙ ap (λ j. n + j) cut

mantissa_cut : (m : ℕ) (text : List ℕ) → mantissa_len text ≤ m → mantissa_len (take m text) ≡ mantissa_len text
mantissa_cut m text h =
    let n = prefix_len (is_part true) text in
    let within : n ≤ m = omega (arith, h) in
    let left : point_len (take n text) (drop n text) ≤ m - n = omega (arith, h) in
    parted_cut point_len m n (prefix_len (is_part true) (take m text)) text (prefix_cut (is_part true) m text within) within (point_cut (m - n) (take n text) (drop n text) left)

-- an exponent is seen by its letter, its sign and a digit

exponent_near : (m : ℕ) (text : List ℕ) → 3 ≤ m → begins_exponent (take m text) ≡ begins_exponent text
exponent_near zero text h = absurd (omega (arith, h))
exponent_near (suc zero) text h = absurd (omega (arith, h))
exponent_near (suc (suc zero)) text h = absurd (omega (arith, h))
exponent_near (suc (suc (suc m))) [] h = refl
exponent_near (suc (suc (suc m))) (a ∷ []) h = refl
exponent_near (suc (suc (suc m))) (a ∷ (b ∷ [])) h = refl
exponent_near (suc (suc (suc m))) (a ∷ (b ∷ (c ∷ text))) h = refl

exponent_none : (m : ℕ) (text : List ℕ) → begins_exponent text ≡ false → begins_exponent (take m text) ≡ false
exponent_none zero text h = refl
exponent_none (suc zero) [] h = refl
exponent_none (suc zero) (a ∷ text) h = refl
exponent_none (suc (suc zero)) [] h = refl
exponent_none (suc (suc zero)) (a ∷ []) h = refl
exponent_none (suc (suc zero)) (a ∷ (b ∷ text)) h = refl
exponent_none (suc (suc (suc m))) text h = exponent_near (suc (suc (suc m))) text (omega arith) ∙ h

digit_is_word : (byte : ℕ) (bytes : List ℕ) → is_ascii_digit byte ≡ true → 1 ≤ prefix_len is_word_byte (byte ∷ bytes)
digit_is_word byte bytes h = grind (arith, common_steps)

and_right : (a b : Bool) → (a && b) ≡ true → b ≡ true
and_right true b h = h
and_right false b h = absurd (cc)

digit_behind : (text : List ℕ) → begins_exponent text ≡ true → 1 ≤ prefix_len is_word_byte (drop 2 text)
digit_behind [] h = absurd (cc)
digit_behind (a ∷ []) h = absurd (cc)
digit_behind (a ∷ (b ∷ [])) h = absurd (cc)
digit_behind (a ∷ (b ∷ (c ∷ text))) h =
    digit_is_word c text (and_right (b == 43 || b == 45) (is_ascii_digit c) (and_right (a == 101 || a == 69) ((b == 43 || b == 45) && is_ascii_digit c) h))

exponent_step : (a b : Bool) (m : ℕ) (text : List ℕ) → begins_exponent text ≡ b → cond (a && b) 2 0 + prefix_len is_word_byte (drop (cond (a && b) 2 0) text) ≤ m
    → ◌≡◌ {A = ℕ} (cond (a && begins_exponent (take m text)) 2 0) (cond (a && b) 2 0)
exponent_step false b m text is h = refl
exponent_step true false m text is h = ap (λ c. cond c 2 0) (exponent_none m text is)
exponent_step true true m text is h = ap (λ c. cond c 2 0) (exponent_near m text (omega (arith, h, digit_behind text is)) ∙ is)

exponent_cut : (m : ℕ) (mantissa text : List ℕ) → exponent_len mantissa text + prefix_len is_word_byte (drop (exponent_len mantissa text) text) ≤ m
    → exponent_len mantissa (take m text) ≡ exponent_len mantissa text
exponent_cut m mantissa text h = exponent_step (is_mantissa mantissa) (begins_exponent text) m text refl h

signed_cut : (m : ℕ) (text : List ℕ) → run_len text ≤ m → signed_len (take m text) ≡ signed_len text
signed_cut m text h =
    let n = mantissa_len text in
    let e = exponent_len (take n text) (drop n text) in
    let within : n ≤ m = omega (arith, h) in
    let behind : drop e (drop n text) ≡ drop (n + e) text = drop-drop e n text in
    let all : n + e + prefix_len is_word_byte (drop (n + e) text) ≤ m = h in
    let left : e + prefix_len is_word_byte (drop e (drop n text)) ≤ m - n =
    subst (λ xs. e + prefix_len is_word_byte xs ≤ m - n) (sym behind) (omega (arith, all)) in
    parted_cut exponent_len m n (mantissa_len (take m text)) text (mantissa_cut m text within) within (exponent_cut (m - n) (take n text) (drop n text) left)

run_cut : (m : ℕ) (text : List ℕ) → run_len text ≤ m → run_len (take m text) ≡ run_len text
run_cut m text h =
    let n = signed_len text in
    let within : n ≤ m = omega (arith, h) in
    let left : prefix_len is_word_byte (drop n text) ≤ m - n = omega (arith, h) in
    parted_cut (λ signed rest. prefix_len is_word_byte rest) m n (signed_len (take m text)) text (signed_cut m text h) within (prefix_cut is_word_byte (m - n) (drop n text) left)

-- the first bytes of a run begin a number

digit_cut : (k : ℕ) (bytes : List ℕ) → 1 ≤ k → begins_with_digit (take k bytes) ≡ begins_with_digit bytes
digit_cut zero bytes h = absurd (omega (arith, h))
digit_cut (suc k) [] h = refl
digit_cut (suc k) (x ∷ xs) h = refl

begins_step : (a b c d : Bool) → (a ≡ false → b ≡ true → c ≡ true → d ≡ true) → (a || (b && c)) ≡ true → (a || (b && d)) ≡ true
begins_step true b c d same h = refl
begins_step false true c d same h = same refl refl h
begins_step false false c d same h = absurd (cc)

some_digits : (bytes : List ℕ) → begins_with_digit bytes ≡ true → 1 ≤ prefix_len (is_part true) bytes
some_digits [] h = absurd (cc)
some_digits (byte ∷ bytes) h = grind (arith, common_steps)

point_mantissa : (byte : ℕ) (bytes : List ℕ) → byte ≡ 46 → begins_with_digit bytes ≡ true → 2 ≤ mantissa_len (byte ∷ bytes)
point_mantissa byte bytes point digit =
    let all : 2 ≤ mantissa_len (46 ∷ bytes) = omega (arith, some_digits bytes digit) in
    subst (λ x. 2 ≤ mantissa_len (x ∷ bytes)) (sym point) all

point_run : (byte : ℕ) (bytes : List ℕ) → (byte == 46) ≡ true → begins_with_digit bytes ≡ true → 2 ≤ run_len (byte ∷ bytes)
point_run byte bytes point digit = let h = point_mantissa byte bytes (eqb-true byte 46 point) digit in omega (arith, h)

and_whole : (a b : Bool) → a ≡ true → b ≡ true → (a && b) ≡ true
and_whole true b p q = q
and_whole false b p q = absurd (cc)

whole_at : (n byte : ℕ) (bytes : List ℕ) → 0 < n → run_len (take n (byte ∷ bytes)) ≡ length (take n (byte ∷ bytes)) → begins_number byte bytes ≡ true
    → ((byte == 46) ≡ true → begins_with_digit bytes ≡ true → 2 ≤ n) → is_whole_run (take n (byte ∷ bytes)) ≡ true
whole_at zero byte bytes some run begins far = absurd (omega (arith, some))
whole_at (suc k) byte bytes some run begins far =
    let first : begins_number byte (take k bytes) ≡ true =
    begins_step (is_ascii_digit byte) (byte == 46) (begins_with_digit bytes) (begins_with_digit (take k bytes))
    (λ _ point digit. digit_cut k bytes (omega (arith, far point digit)) ∙ digit) begins in
    and_whole (begins_number byte (take k bytes)) (run_len (byte ∷ take k bytes) == length (byte ∷ take k bytes)) first
    (eq-eqb (run_len (byte ∷ take k bytes)) (length (byte ∷ take k bytes)) run)

pub whole_run : (byte : ℕ) (bytes : List ℕ) → begins_number byte bytes ≡ true → is_whole_run (take (run_len (byte ∷ bytes)) (byte ∷ bytes)) ≡ true
whole_run byte bytes begins =
    let text = byte ∷ bytes in
    let n = run_len text in
    let most : n ≤ n = omega arith in
    whole_at n byte bytes (some_run byte bytes begins) (run_cut n text most ∙ sym (length-take-le n text (within_run text))) begins (λ point digit. point_run byte bytes point digit)
