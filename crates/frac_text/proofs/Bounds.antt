-- The parts of a number that was read are within the limit.
use Rattle.std.proofs.Common.{◌≡◌, ℕ, ◌+◌, ◌*◌, ◌/◌, ◌^◌, ◌<◌, ◌≤◌, refl, sym, subst, ap, ◌∙◌, arith, Bool, true, false, cond, Some, None, inl, inr, ◌⊎◌, List, drop}
use Rattle.std.specs.Prelude.{ℤ, pos, Option, Result, Ok, Err, IfOk, IsErrOf, codes}
use Rattle.std.proofs.Math.Nat.{eq_of_mul-eq-mul_right}
use Rattle.std.proofs.lemmas.Bool.{cases_lt}
use Rattle.xfrac.specs.Divisors.{gcd}
use Rattle.xfrac.specs.Fractions.{limit}
use Rattle.xfrac.specs.Forming.{formed}
use Rattle.xfrac.specs.declared.value.XFrac.{XFrac}
use Rattle.xfrac.specs.declared.value.XFrac.TheVariants.{Fin, PosInf, NegInf, NaN}
use Rattle.xfrac.specs.Formed.{formed_outside, formed_within}
use Rattle.frac_text.specs.declared.refusal.NumberRefusal.{NumberRefusal}
use Rattle.frac_text.specs.declared.refusal.NumberRefusal.TheVariants.{BadNumber}
use Rattle.frac_text.specs.Decimals.{Decimal, scaled, decimal_of, has_leading_zero}
use Rattle.frac_text.specs.declared.digits.Base.TheVariants.{Sixteen}
use Rattle.frac_text.specs.Digits.{number, number_in}
use Rattle.frac_text.specs.Hexadecimals.{is_hexadecimal}
use Rattle.frac_text.specs.Readings.{judged, decimal_answer, plain_answer, literal_answer, hexadecimal_answer, is_word}
use Rattle.frac_text.specs.Times.{IsBounded, IsMilliseconds, IsSeconds}
use Rattle.frac_text.proofs.Lowest.{Terms, terms}
use Rattle.frac_text.proofs.Numbers.{ten_positive}

formed_bounded : (a b : ℕ) (v : XFrac) → 0 < b → formed (pos a) b ≡ Some v → IsBounded v
formed_bounded a b v h is = by_size (cases_lt limit (a / gcd a b)) (cases_lt limit (b / gcd a b))
  where
    t : Terms a b
    t = terms a b h

    outside : (limit < a / gcd a b) ⊎ (limit < b / gcd a b) → IsBounded v
    outside out =
        let none : None ≡ Some v = sym (formed_outside false a b (a / gcd a b) (b / gcd a b) refl refl out) ∙ is in
        absurd (cc none)

    by_size : (limit < a / gcd a b) ⊎ (a / gcd a b ≤ limit) → (limit < b / gcd a b) ⊎ (b / gcd a b ≤ limit) → IsBounded v
    by_size (inl x) y = outside (inl x)
    by_size (inr x) (inl y) = outside (inr y)
    by_size (inr x) (inr y) =
        let some : Some (Fin (pos (a / gcd a b), b / gcd a b)) ≡ Some v = sym (formed_within false a b (a / gcd a b) (b / gcd a b) refl refl x y) ∙ is in
        let same : Fin (pos (a / gcd a b), b / gcd a b) ≡ v = cc some in
        subst IsBounded same (x, t.positive, y)

scaled_bounded : (n places : ℕ) (negative : Bool) (size : ℕ) (v : XFrac) → scaled n places negative size ≡ Some v → IsBounded v
scaled_bounded n places true size v is = formed_bounded n (10 ^ (places + size)) v (ten_positive (places + size)) is
scaled_bounded n places false size v is = formed_bounded (n * 10 ^ size) (10 ^ places) v (ten_positive places) is

judged_some : (lead : Bool) (o : Option XFrac) (v : XFrac) → judged lead o ≡ Ok v → o ≡ Some v
judged_some lead None v is = absurd (cc is)
judged_some true (Some x) v is = absurd (cc is)
judged_some false (Some x) v is =
    let same : x ≡ v = cc is in
    ap (λ y. Some y) same

decimal_bounded : (lead : Bool) (d : Option Decimal) (v : XFrac) → decimal_answer lead d ≡ Ok v → IsBounded v
decimal_bounded lead None v is = absurd (cc is)
decimal_bounded lead (Some d) v is = scaled_bounded (number d.digits) d.places d.exponent.negative d.exponent.size v (judged_some lead _ v is)

by_bool : {A : Type 0} (P : Type 0) (b : Bool) (x y z : A) → cond b x y ≡ z → (x ≡ z → P) → (y ≡ z → P) → P
by_bool P true x y z is f g = f is
by_bool P false x y z is f g = g is

plain_bounded : (grouped : Bool) (text : List ℕ) (v : XFrac) → plain_answer grouped text ≡ Ok v → IsBounded v
plain_bounded grouped text v is =
    by_bool (IsBounded v) (is_word text (codes "inf")) (Ok PosInf) _ (Ok v) is
    (λ e. let same : PosInf ≡ v = cc e in subst IsBounded same tt)
    (λ e. by_bool (IsBounded v) (is_word text (codes "nan")) (Ok NaN) _ (Ok v) e
    (λ f. let same : NaN ≡ v = cc f in subst IsBounded same tt)
    (λ f. decimal_bounded (has_leading_zero grouped text) (decimal_of grouped text) v f))

hexadecimal_bounded : (digits : List ℕ) (v : XFrac) → hexadecimal_answer digits ≡ Ok v → IsBounded v
hexadecimal_bounded digits v is =
    by_bool (IsBounded v) _ (judged false (formed (pos (number_in Sixteen digits)) 1)) (Err BadNumber) (Ok v) is
    (λ e. formed_bounded (number_in Sixteen digits) 1 v (omega arith) (judged_some false _ v e))
    (λ e. absurd (cc e))

pub literal_bounded : (text : List ℕ) (v : XFrac) → literal_answer text ≡ Ok v → IsBounded v
literal_bounded text v is =
    by_bool (IsBounded v) (is_hexadecimal text) (hexadecimal_answer (drop 2 text)) (plain_answer true text) (Ok v) is
    (λ e. hexadecimal_bounded (drop 2 text) v e) (λ e. plain_bounded true text v e)

-- a number of seconds is at most one number of milliseconds
pub milliseconds_once : (v : XFrac) (m n : ℕ) → IsBounded v → IsMilliseconds v m → IsMilliseconds v n → m ≡ n
milliseconds_once (Fin f) m n b x y = eq_of_mul-eq-mul_right f.1 b.1 m n (sym x ∙ y)
milliseconds_once PosInf m n b x y = absurd x
milliseconds_once NegInf m n b x y = absurd x
milliseconds_once NaN m n b x y = absurd x

pub seconds_of : (text : List ℕ) (v : XFrac) (n : ℕ) → literal_answer text ≡ Ok v → IsSeconds text n → IsMilliseconds v n
seconds_of text v n reads is =
    let same : is.value ≡ v = cc (is.reads, reads) in
    subst (λ x. IsMilliseconds x n) same is.whole

pub no_seconds : (text : List ℕ) (e : NumberRefusal) (n : ℕ) → literal_answer text ≡ Err e → IsSeconds text n → ⊥
no_seconds text e n reads is = cc (is.reads, reads)

pub if_ok_weaker : {E : Type 0} (P Q : ℤ → Type 0) (r : Result ℤ E) → IfOk r P → ((t : ℤ) → P t → Q t) → IfOk r Q
if_ok_weaker P Q (Ok t) is f = f t is
if_ok_weaker P Q (Err e) is f = tt

pub err_moved : {T U E : Type 0} (e d : E) → IsErrOf {T = T} {E = E} (Err e) d → IsErrOf {T = U} {E = E} (Err e) d
err_moved e d is =
    let same : e ≡ d = cc is in
    ap (λ x. Err x) same
