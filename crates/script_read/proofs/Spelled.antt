-- The bytes of a number: no `x` and no underscore, and a sign at the front or behind `e` or `E` alone.
use Rattle.std.proofs.Common.{◌≡◌, ◌≤◌, inl, inr, ℕ, ◌+◌, Bool, true, false, not, cond, List, [], ◌∷◌, ◌++◌, length, Option, Some, None, option_map, Result, Ok, Err, refl, ap, sym, ◌∙◌, subst, arith, length-append}
use Rattle.std.specs.Prelude.{◌==◌, ◌&&◌, ◌||◌, codes}
use Rattle.std.specs.Char.{is_ascii_digit, to_ascii_lowercase}
use Rattle.std.specs.List.{list_all}
use Rattle.std.proofs.lemmas.Bool.Decides.{nat_tests}
use Rattle.frac_text.specs.Decimals.{Decimal, Power}
use Rattle.frac_text.specs.Literals.{IsRun, last, next, parted, IsOptionalRun, IsFraction, IsMark, IsExponent, absent, unsigned, plus, minus, IsDecimal, IsInAnyCase, IsUnsignedNumber, IsScriptNumber}
use Rattle.frac_text.specs.Readings.{script_answer}
use Rattle.frac_text.specs.declared.refusal.NumberRefusal.{NumberRefusal}
use Rattle.frac_text.specs.declared.digits.Base.TheVariants.{Ten}
use Rattle.xfrac.specs.declared.value.XFrac.{XFrac}
use Rattle.script_read.specs.Items.{is_exponent, is_sign, step_behind}
use Rattle.script_read.specs.Words.{is_ascii, number_spelled, spelled_or_refused}
use Rattle.script_read.specs.declared.fault.LineFault.TheVariants.{Malformed}
use Rattle.script_read.proofs.Fronts.{and_both}
use Rattle.script_read.proofs.Takes.{if_ok}

-- what can't stand in a number behind a byte
abbrev pub halts : ℕ → ℕ → Bool
halts before byte = (is_sign byte && not (is_exponent before)) || (byte == 120 || byte == 95)

-- the last byte of a text in which nothing halts
abbrev pub scan : ℕ → List ℕ → Option ℕ
scan before [] = Some before
scan before (byte ∷ bytes) = cond (halts before byte) None (scan byte bytes)

-- ---- what a text that is scanned lacks

scan_step : (b : Bool) (r : Option ℕ) (end : ℕ) → cond b None r ≡ Some end → (b ≡ false) × (r ≡ Some end)
scan_step true r end h = absurd (cc)
scan_step false r end h = (refl, h)

no_sign : (before byte : ℕ) → halts before byte ≡ false → (is_sign byte && not (is_exponent before)) ≡ false
no_sign before byte h = by (is_sign byte && not (is_exponent before)) (byte == 120 || byte == 95) h
  where
    by : (a b : Bool) → (a || b) ≡ false → a ≡ false
    by true b h = absurd (cc)
    by false b h = refl

no_times : (before byte : ℕ) → halts before byte ≡ false → not (byte == 120) ≡ true
no_times before byte h = by (is_sign byte && not (is_exponent before)) (byte == 120) (byte == 95) h
  where
    by : (a b c : Bool) → (a || (b || c)) ≡ false → not b ≡ true
    by true b c h = absurd (cc)
    by false true c h = absurd (cc)
    by false false c h = refl

no_score : (before byte : ℕ) → halts before byte ≡ false → (byte == 95) ≡ false
no_score before byte h = by (is_sign byte && not (is_exponent before)) (byte == 120) (byte == 95) h
  where
    by : (a b c : Bool) → (a || (b || c)) ≡ false → c ≡ false
    by true b c h = absurd (cc)
    by false true c h = absurd (cc)
    by false false c h = h

pub scan_first : (before byte : ℕ) (bytes : List ℕ) (end : ℕ) → scan before (byte ∷ bytes) ≡ Some end → ((byte == 95) ≡ false) × (scan byte bytes ≡ Some end)
scan_first before byte bytes end h = let k = scan_step (halts before byte) (scan byte bytes) end h in (no_score before byte k.0, k.1)

pub scan_times : (before : ℕ) (text : List ℕ) (end : ℕ) → scan before text ≡ Some end → list_all (λ byte. not (byte == 120)) text ≡ true
scan_times before [] end h = refl
scan_times before (byte ∷ bytes) end h =
    let k = scan_step (halts before byte) (scan byte bytes) end h in
    and_both (not (byte == 120)) (list_all (λ byte. not (byte == 120)) bytes) (no_times before byte k.0) (scan_times byte bytes end k.1)

pub scan_unstepped : (before : ℕ) (text : List ℕ) (end : ℕ) → scan before text ≡ Some end → step_behind before text ≡ None
scan_unstepped before [] end h = refl
scan_unstepped before (byte ∷ bytes) end h =
    let k = scan_step (halts before byte) (scan byte bytes) end h in
    ap (λ b. cond b (Some 0) (option_map (λ place. place + 1) (step_behind byte bytes))) (no_sign before byte k.0)
    ∙ ap (option_map (λ place. place + 1)) (scan_unstepped byte bytes end k.1)

sign_here : (before sign : ℕ) (rest : List ℕ) → is_sign sign ≡ true → is_exponent before ≡ false → step_behind before (sign ∷ rest) ≡ Some 0
sign_here before sign rest s e =
    ap (λ b. cond (b && not (is_exponent before)) (Some 0) (option_map (λ place. place + 1) (step_behind sign rest))) s
    ∙ ap (λ b. cond (not b) (Some 0) (option_map (λ place. place + 1) (step_behind sign rest))) e

pub scan_stepped : (before : ℕ) (text : List ℕ) (end sign : ℕ) (rest : List ℕ) → scan before text ≡ Some end → is_exponent end ≡ false → is_sign sign ≡ true
    → step_behind before (text ++ sign ∷ rest) ≡ Some (length text)
scan_stepped before [] end sign rest h e s = let same : before ≡ end = cc in sign_here before sign rest s (ap is_exponent same ∙ e)
scan_stepped before (byte ∷ bytes) end sign rest h e s =
    let k = scan_step (halts before byte) (scan byte bytes) end h in
    let n : length bytes + 1 ≡ length (byte ∷ bytes) = omega arith in
    ap (λ b. cond b (Some 0) (option_map (λ place. place + 1) (step_behind byte (bytes ++ sign ∷ rest)))) (no_sign before byte k.0)
    ∙ ap (option_map (λ place. place + 1)) (scan_stepped byte bytes end sign rest k.1 e s) ∙ ap Some n

-- ---- numbers are scanned

pub scan_append : (before : ℕ) (xs ys : List ℕ) (end : ℕ) → scan before xs ≡ Some end → scan before (xs ++ ys) ≡ scan end ys
scan_append before [] ys end h = let same : before ≡ end = cc in ap (λ b. scan b ys) same
scan_append before (byte ∷ xs) ys end h =
    let k = scan_step (halts before byte) (scan byte xs) end h in
    ap (λ b. cond b None (scan byte (xs ++ ys))) k.0 ∙ scan_append byte xs ys end k.1

scan_byte : (before byte : ℕ) (bytes : List ℕ) → halts before byte ≡ false → scan before (byte ∷ bytes) ≡ scan byte bytes
scan_byte before byte bytes h = ap (λ b. cond b None (scan byte bytes)) h

-- a text that is scanned to a byte that is no mark of an exponent
pub record Ends (before : ℕ) (text : List ℕ) : Type 0 where
  pub end : ℕ
  pub scanned : scan before text ≡ Some end
  pub unmarked : is_exponent end ≡ false

digit_passes : (before byte : ℕ) → is_ascii_digit byte ≡ true → halts before byte ≡ false
digit_passes before byte h =
    let sign : is_sign byte ≡ false = grind (arith, nat_tests, h) in
    let times : (byte == 120) ≡ false = grind (arith, nat_tests, h) in
    let score : (byte == 95) ≡ false = grind (arith, nat_tests, h) in
    rw (sign, times, score) refl

digit_unmarked : (byte : ℕ) → is_ascii_digit byte ≡ true → is_exponent byte ≡ false
digit_unmarked byte h = grind (arith, nat_tests, h)

pub run_ends : (before : ℕ) (run digits : List ℕ) → IsRun Ten false run digits → Ends before run
run_ends before _ _ (last c d) = record { end = c; scanned = scan_byte before c [] (digit_passes before c d); unmarked = digit_unmarked c d }
run_ends before _ _ (next c run digits d r) =
    let more = run_ends c run digits r in
    record { end = more.end; scanned = scan_byte before c run (digit_passes before c d) ∙ more.scanned; unmarked = more.unmarked }
run_ends before _ _ (parted c run digits g d r) = absurd (cc)

mark_passes : (before byte : ℕ) → IsMark byte → halts before byte ≡ false
mark_passes before byte (inl e) = ap (halts before) e
mark_passes before byte (inr e) = ap (halts before) e

mark_marks : (byte : ℕ) → IsMark byte → is_exponent byte ≡ true
mark_marks byte (inl e) = ap is_exponent e
mark_marks byte (inr e) = ap is_exponent e

sign_passes : (before sign : ℕ) → is_exponent before ≡ true → (sign == 120 || sign == 95) ≡ false → halts before sign ≡ false
sign_passes before sign h k = rw (h, k) (by (is_sign sign))
  where
    by : (b : Bool) → ((b && not true) || false) ≡ false
    by true = refl
    by false = refl

-- an exponent, which may be left out
module _ (before : ℕ) (unmarked : is_exponent before ≡ false) where
  marked_ends : (c : ℕ) (run digits : List ℕ) → IsMark c → IsRun Ten false run digits → Ends before (c ∷ run)
  marked_ends c run digits m r =
      let more = run_ends c run digits r in
      record { end = more.end; scanned = scan_byte before c run (mark_passes before c m) ∙ more.scanned; unmarked = more.unmarked }

  signed_ends : (c sign : ℕ) (run digits : List ℕ) → IsMark c → (sign == 120 || sign == 95) ≡ false → IsRun Ten false run digits → Ends before (c ∷ (sign ∷ run))
  signed_ends c sign run digits m s r =
      let more = run_ends sign run digits r in
      record {
        end = more.end;
        scanned = scan_byte before c (sign ∷ run) (mark_passes before c m) ∙ scan_byte c sign run (sign_passes c sign (mark_marks c m) s) ∙ more.scanned;
        unmarked = more.unmarked;
      }

  exponent_ends : (text : List ℕ) (power : Power) → IsExponent false text power → Ends before text
  exponent_ends _ _ absent = record { end = before; scanned = refl; unmarked = unmarked }
  exponent_ends _ _ (unsigned c run digits m r) = marked_ends c run digits m r
  exponent_ends _ _ (plus c run digits m r) = signed_ends c 43 run digits m refl r
  exponent_ends _ _ (minus c run digits m r) = signed_ends c 45 run digits m refl r

-- parts one behind the other
joined_ends : (before : ℕ) (xs ys : List ℕ) → Ends before xs → ((end : ℕ) → is_exponent end ≡ false → Ends end ys) → Ends before (xs ++ ys)
joined_ends before xs ys a b =
    let more = b a.end a.unmarked in
    record { end = more.end; scanned = scan_append before xs ys a.end a.scanned ∙ more.scanned; unmarked = more.unmarked }

optional_ends : (before : ℕ) (run digits : List ℕ) → is_exponent before ≡ false → IsOptionalRun false run digits → Ends before run
optional_ends before run digits u (inl e) = subst (Ends before) (sym e.0) (record { end = before; scanned = refl; unmarked = u })
optional_ends before run digits u (inr r) = run_ends before run digits r

point_passes : (before : ℕ) → halts before 46 ≡ false
point_passes before = refl

-- a point, digits and an exponent
point_ends : (before : ℕ) (run digits ending : List ℕ) (power : Power) → IsOptionalRun false run digits → IsExponent false ending power → Ends before (46 ∷ (run ++ ending))
point_ends before run digits ending power o x =
    let more = joined_ends 46 run ending (optional_ends 46 run digits refl o) (λ end u. exponent_ends end u ending power x) in
    record { end = more.end; scanned = scan_byte before 46 (run ++ ending) (point_passes before) ∙ more.scanned; unmarked = more.unmarked }

fraction_ends : (before : ℕ) (text ending digits : List ℕ) (power : Power) → is_exponent before ≡ false → IsFraction false text ending digits → IsExponent false ending power → Ends before text
fraction_ends before text ending digits power u (inl e) x = subst (Ends before) (sym e.0) (exponent_ends before u ending power x)
fraction_ends before text ending digits power u (inr e) x = subst (Ends before) (sym e.1) (point_ends before e.0 digits ending power e.2 x)

-- a number begins with digits, or with a point
decimal_ends : (before : ℕ) (text : List ℕ) (d : Decimal) → IsDecimal false text d → Ends before text
decimal_ends before text d h = subst (Ends before) (sym h.spelled) (by h.left h.right)
  where
    by : IsOptionalRun false h.whole h.before → IsFraction false h.rest h.ending h.after → Ends before (h.whole ++ h.rest)
    by (inr r) f = joined_ends before h.whole h.rest (run_ends before h.whole h.before r) (λ end u. fraction_ends end h.rest h.ending h.after d.exponent u f h.exponent)
    by (inl e) (inr f) = subst (Ends before) (sym (ap (λ w. w ++ h.rest) e.0 ∙ f.1)) (point_ends before f.0 h.after h.ending d.exponent f.2 h.exponent)
    by (inl e) (inl f) = absurd (omega (arith, h.some, ap length e.1, ap length f.1, length-append h.before h.after))

-- ---- words

-- a letter of `inf` or `nan`, in any case
record IsCalm (byte : ℕ) : Type 0 where
  pub sign : is_sign byte ≡ false
  pub other : (byte == 120 || byte == 95) ≡ false
  pub unmarked : is_exponent byte ≡ false

letter_calm : (byte letter : ℕ) → to_ascii_lowercase byte ≡ letter → 97 ≤ letter → letter ≤ 122 → (letter == 120) ≡ false → (letter == 101) ≡ false → IsCalm byte
letter_calm byte letter h lo hi t e = record {
  sign = grind (arith, nat_tests, h, lo, hi);
  other = grind (arith, nat_tests, h, lo, hi, t);
  unmarked = grind (arith, nat_tests, h, lo, hi, e);
}

calm_passes : (before byte : ℕ) → IsCalm byte → halts before byte ≡ false
calm_passes before byte h = rw (h.sign, h.other) refl

letters_end : (before a b c : ℕ) → IsCalm a → IsCalm b → IsCalm c → Ends before (a ∷ (b ∷ (c ∷ [])))
letters_end before a b c x y z = record {
  end = c;
  scanned = scan_byte before a (b ∷ (c ∷ [])) (calm_passes before a x) ∙ scan_byte a b (c ∷ []) (calm_passes a b y) ∙ scan_byte b c [] (calm_passes b c z);
  unmarked = z.unmarked;
}

inf_ends : (before : ℕ) (text : List ℕ) → IsInAnyCase (codes "inf") text → Ends before text
inf_ends before (a ∷ (b ∷ (c ∷ []))) h =
    let x : to_ascii_lowercase a ≡ 105 = cc in
    let y : to_ascii_lowercase b ≡ 110 = cc in
    let z : to_ascii_lowercase c ≡ 102 = cc in
    letters_end before a b c (letter_calm a 105 x (omega arith) (omega arith) refl refl) (letter_calm b 110 y (omega arith) (omega arith) refl refl) (letter_calm c 102 z (omega arith) (omega arith) refl refl)
inf_ends before [] h = absurd (cc)
inf_ends before (a ∷ []) h = absurd (cc)
inf_ends before (a ∷ (b ∷ [])) h = absurd (cc)
inf_ends before (a ∷ (b ∷ (c ∷ (d ∷ text)))) h = absurd (cc)

nan_ends : (before : ℕ) (text : List ℕ) → IsInAnyCase (codes "nan") text → Ends before text
nan_ends before (a ∷ (b ∷ (c ∷ []))) h =
    let x : to_ascii_lowercase a ≡ 110 = cc in
    let y : to_ascii_lowercase b ≡ 97 = cc in
    let z : to_ascii_lowercase c ≡ 110 = cc in
    letters_end before a b c (letter_calm a 110 x (omega arith) (omega arith) refl refl) (letter_calm b 97 y (omega arith) (omega arith) refl refl) (letter_calm c 110 z (omega arith) (omega arith) refl refl)
nan_ends before [] h = absurd (cc)
nan_ends before (a ∷ []) h = absurd (cc)
nan_ends before (a ∷ (b ∷ [])) h = absurd (cc)
nan_ends before (a ∷ (b ∷ (c ∷ (d ∷ text)))) h = absurd (cc)

unsigned_ends : (before : ℕ) (text : List ℕ) (v : XFrac) → IsUnsignedNumber false text v → Ends before text
unsigned_ends before text v (inl h) = inf_ends before text h.0
unsigned_ends before text v (inr (inl h)) = nan_ends before text h.0
unsigned_ends before text v (inr (inr h)) = decimal_ends before text h.1.0 h.1.1

-- ---- numbers of a script

behind_sign : (sign : ℕ) (rest text : List ℕ) → text ≡ sign ∷ rest → (sign == 120 || sign == 95) ≡ false → Ends sign rest → Ends 101 text
behind_sign sign rest text is s h =
    subst (Ends 101) (sym is) (record { end = h.end; scanned = scan_byte 101 sign rest (sign_passes 101 sign refl s) ∙ h.scanned; unmarked = h.unmarked })

script_ends : (text : List ℕ) (v : XFrac) → IsScriptNumber text v → Ends 101 text
script_ends text v (inl h) = unsigned_ends 101 text v h
script_ends text v (inr (inl h)) = behind_sign 43 h.0 text h.1 refl (unsigned_ends 43 h.0 v h.2)
script_ends text v (inr (inr h)) = behind_sign 45 h.0 text h.2 refl (unsigned_ends 45 h.0 h.1 h.3)

-- what reading a script's number tells
abbrev pub NumbersAreTold : Type 0
NumbersAreTold = (text : List ℕ) (v : XFrac) → script_answer text ≡ Ok v → IsScriptNumber text v

answered : (r : Result XFrac NumberRefusal) (v : XFrac) → spelled_or_refused r ≡ Ok v → r ≡ Ok v
answered (Ok w) v h = cc
answered (Err e) v h = absurd (cc)

pub number_ends : NumbersAreTold → (text : List ℕ) (v : XFrac) → number_spelled text ≡ Ok v → Ends 101 text
number_ends told text v h =
    let k = if_ok (is_ascii text) (spelled_or_refused (script_answer text)) Malformed v h in
    script_ends text v (told text v (answered (script_answer text) v k.1))

pub ends_some : (text : List ℕ) → Ends 101 text → text ≡ [] → ⊥
ends_some text h none =
    let end : Some 101 ≡ Some h.end = ap (scan 101) (sym none) ∙ h.scanned in
    let same : 101 ≡ h.end = cc in
    let marked : true ≡ false = ap is_exponent same ∙ h.unmarked in
    absurd (cc)
