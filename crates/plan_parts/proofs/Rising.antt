-- Numbers of which each is below the next one rise.
use Rattle.std.proofs.Common.{◌≡◌, ◌<◌, ◌≤◌, ℕ, zero, suc, Bool, true, false, List, [], ◌∷◌, length, slice_get, get_or, Some, nat_lt, arith, refl, sym, ap}
use Rattle.std.specs.Prelude.{◌&&◌, drop}
use Rattle.std.proofs.lemmas.Bool.{le-ltb, lt-ltb, ltb-true}
use Rattle.exchange.specs.Requests.{AreRising}
use Rattle.plan_serving.specs.Asking.{is_rising}

left : (a b : Bool) → (a && b) ≡ true → a ≡ true
left true b h = refl
left false b h = absurd (cc)

right : (a b : Bool) → (a && b) ≡ true → b ≡ true
right true b h = h
right false b h = absurd (cc)

above : (n : ℕ) (numbers : List ℕ) → is_rising (n ∷ numbers) ≡ true → (k m : ℕ) → slice_get numbers k ≡ Some m → n < m
above n [] h k m e = absurd (cc)
above n (x ∷ xs) h zero m e = let low = ltb-true n x (left (nat_lt n x) (is_rising (x ∷ xs)) h) in let same : x ≡ m = cc in omega (arith, low, same)
above n (x ∷ xs) h (suc k) m e =
    let low = ltb-true n x (left (nat_lt n x) (is_rising (x ∷ xs)) h) in let high = above x xs (right (nat_lt n x) (is_rising (x ∷ xs)) h) k m e in omega (arith, low, high)

pub rise : (numbers : List ℕ) → is_rising numbers ≡ true → AreRising numbers
rise [] h j k m n e f less = absurd (cc)
rise (x ∷ []) h j zero m n e f less = absurd (omega arith)
rise (x ∷ []) h j (suc k) m n e f less = absurd (cc)
rise (x ∷ y ∷ xs) h j zero m n e f less = absurd (omega arith)
rise (x ∷ y ∷ xs) h zero (suc k) m n e f less = let low = above x (y ∷ xs) h k n f in let same : x ≡ m = cc in omega (arith, low, same)
rise (x ∷ y ∷ xs) h (suc j) (suc k) m n e f less = rise (y ∷ xs) (right (nat_lt x y) (is_rising (y ∷ xs)) h) j k m n e f (omega arith)

-- ---- from the front on

pub rises_on : (xs : List ℕ) → 1 < length xs → get_or xs 0 0 < get_or xs 1 0 → is_rising (drop 1 xs) ≡ is_rising xs
rises_on [] l h = absurd (omega arith)
rises_on (n ∷ []) l h = absurd (omega arith)
rises_on (n ∷ m ∷ xs) l h = ap (λ (b : Bool). b && is_rising (m ∷ xs)) (sym (lt-ltb n m h))

pub falls : (xs : List ℕ) → 1 < length xs → get_or xs 1 0 ≤ get_or xs 0 0 → is_rising xs ≡ false
falls [] l h = absurd (omega arith)
falls (n ∷ []) l h = absurd (omega arith)
falls (n ∷ m ∷ xs) l h = ap (λ (b : Bool). b && is_rising (m ∷ xs)) (le-ltb n m h)

pub one_rises : (xs : List ℕ) → length xs ≤ 1 → is_rising xs ≡ true
one_rises [] l = refl
one_rises (n ∷ []) l = refl
one_rises (n ∷ m ∷ xs) l = absurd (omega arith)
