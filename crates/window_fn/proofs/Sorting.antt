-- The order of a sort has to hold of all pairs that look like fractions; those over 0, which are no numbers, count as NaN.
use Rattle.std.proofs.Common.{◌≡◌, ◌∙◌, ℕ, zero, suc, ◌+◌, ◌*◌, ◌<◌, ◌≤◌, Bool, true, false, cond, List, [], ◌∷◌, get_or, refl, sym, ap, subst, arith}
use Rattle.std.specs.Prelude.{ℤ, pos, negsuc, neg_ℤ, ◌*ℤ◌, int_lt, ⊤}
use Rattle.std.proofs.Math.Nat.{mul-le-mul, mul-le-mul_right, le_of_mul-le-mul_right}
use Rattle.std.proofs.lemmas.Bool.{le-ltb, ltb-false}
use Rattle.std.specs.Cmp.{IsStrictWeakOrder}
use Rattle.std.specs.List.{All}
use Rattle.std.specs.List.Sorted.{IsPermutation, IsSortedBy}
use Rattle.std.proofs.lemmas.List.Elements.{All-head, All-nil, All-tail}
use Rattle.std.proofs.lemmas.List.Sorted.{All-permutation}
use Rattle.std.specs.Ordering.{int_cmp, is_lt}
use Rattle.std.specs.declared.cmp.Ordering.TheVariants.{Less, Equal, Greater}
use Rattle.xfrac.specs.Kinds.{is_not_a_number}
use Rattle.xfrac.specs.Laws.{IsNumber, EqualIsSame, LessIsTransitive, OrderIsReversed}
use Rattle.xfrac.specs.Order.{total_order}
use Rattle.xfrac.specs.declared.value.XFrac.{XFrac}
use Rattle.xfrac.specs.declared.value.XFrac.TheVariants.{Fin, PosInf, NegInf, NaN}
use Rattle.window_fn.specs.Aggregates.{ascending, inserted, is_before}
use Rattle.window_fn.proofs.Insertion.{Rises, insertion_is_orderless, sorted_stays}
use Rattle.window_fn.proofs.Permuting.{fold-permutation}
use Rattle.window_fn.proofs.Ranking.{before_is_strict, ranked-one_way, ranked-chain}

abbrev tidy : XFrac → XFrac
tidy (Fin (n, zero)) = NaN
tidy (Fin (n, suc d)) = Fin (n, suc d)
tidy v = v

abbrev pub below : XFrac → XFrac → Bool
below x y = is_before (tidy x) (tidy y)

-- ---- fractions over positive denominators

up_carries : (a d b e c f : ℕ) → 0 < e → b * d ≤ a * e → c * e ≤ b * f → c * d ≤ a * f
up_carries a d b e c f pe h k =
    let u : c * e * d ≤ b * f * d = mul-le-mul_right d k in
    let v : b * d * f ≤ a * e * f = mul-le-mul_right f h in
    let w : c * d * e ≤ a * f * e = omega arith in
    le_of_mul-le-mul_right w pe

neg_le : (x y : ℕ) → int_lt (neg_ℤ (pos x)) (neg_ℤ (pos y)) ≡ false → x ≤ y
neg_le zero y h = omega arith
neg_le (suc x) zero h = absurd (cc)
neg_le (suc x) (suc y) h = omega (arith, ltb-false y x h)

le_neg : (x y : ℕ) → x ≤ y → int_lt (neg_ℤ (pos x)) (neg_ℤ (pos y)) ≡ false
le_neg zero zero h = refl
le_neg zero (suc y) h = refl
le_neg (suc x) zero h = absurd (omega arith)
le_neg (suc x) (suc y) h = le-ltb y x (omega arith)

pos_above : (x y : ℕ) → int_lt (pos x) (neg_ℤ (pos y)) ≡ false
pos_above x zero = le-ltb x 0 (omega arith)
pos_above x (suc y) = refl

pub neg_below : (x z : ℕ) → 0 < x → int_lt (neg_ℤ (pos x)) (pos z) ≡ true
neg_below zero z h = absurd (omega arith)
neg_below (suc x) z h = refl

pub some_product : (x y : ℕ) → 0 < y → 0 < suc x * y
some_product x y h = let one : 1 * 1 ≤ suc x * y = mul-le-mul {n₁ = 1} {m₁ = 1} {n₂ = suc x} {m₂ = y} (omega arith) (omega arith) in omega (arith, one)

not_less_fractions : (n m p : ℤ) (d e f : ℕ) → 0 < d → 0 < e → 0 < f → int_lt (n *ℤ pos e) (m *ℤ pos d) ≡ false → int_lt (m *ℤ pos f) (p *ℤ pos e) ≡ false → int_lt (n *ℤ pos f) (p *ℤ pos d) ≡ false
not_less_fractions (pos a) (pos b) (pos c) d e f hd he hf h k = le-ltb _ _ (up_carries a d b e c f he (ltb-false _ _ h) (ltb-false _ _ k))
not_less_fractions (negsuc a) (negsuc b) (negsuc c) d e f hd he hf h k = le_neg _ _ (up_carries (suc c) f (suc b) e (suc a) d he (neg_le _ _ k) (neg_le _ _ h))
not_less_fractions (pos a) m (negsuc c) d e f hd he hf h k = pos_above (a * f) (suc c * d)
not_less_fractions (negsuc a) (pos b) p d e f hd he hf h k = let t : int_lt (negsuc a *ℤ pos e) (pos b *ℤ pos d) ≡ true = neg_below (suc a * e) (b * d) (some_product a e he) in absurd (cc)
not_less_fractions (pos a) (negsuc b) (pos c) d e f hd he hf h k = let t : int_lt (negsuc b *ℤ pos f) (pos c *ℤ pos e) ≡ true = neg_below (suc b * f) (c * e) (some_product b f hf) in absurd (cc)
not_less_fractions (negsuc a) (negsuc b) (pos c) d e f hd he hf h k = let t : int_lt (negsuc b *ℤ pos f) (pos c *ℤ pos e) ≡ true = neg_below (suc b * f) (c * e) (some_product b f hf) in absurd (cc)

-- ---- all that look like numbers

by_test : (b c : Bool) → is_lt (cond b Less (cond c Greater Equal)) ≡ false → b ≡ false
by_test true c h = absurd (cc)
by_test false c h = refl

not_less_int : (x y : ℤ) → is_lt (int_cmp x y) ≡ false → int_lt x y ≡ false
not_less_int x y h = by_test (int_lt x y) _ h

from_test : (b c : Bool) → b ≡ false → is_lt (cond b Less (cond c Greater Equal)) ≡ false
from_test true c h = absurd (cc)
from_test false true h = refl
from_test false false h = refl

int_not_less : (x y : ℤ) → int_lt x y ≡ false → is_lt (int_cmp x y) ≡ false
int_not_less x y h = from_test (int_lt x y) _ h

abbrev IsTidy : XFrac → Type 0
IsTidy (Fin f) = 0 < f.1
IsTidy v = ⊤

is_tidy : (v : XFrac) → IsTidy (tidy v)
is_tidy (Fin (n, zero)) = tt
is_tidy (Fin (n, suc d)) = omega arith
is_tidy PosInf = tt
is_tidy NegInf = tt
is_tidy NaN = tt

not_less : (a b c : XFrac) → IsTidy a → IsTidy b → IsTidy c → is_lt (total_order a b) ≡ false → is_lt (total_order b c) ≡ false → is_lt (total_order a c) ≡ false
not_less (Fin a) (Fin b) (Fin c) ta tb tc h k =
    int_not_less (a.0 *ℤ pos c.1) (c.0 *ℤ pos a.1) (not_less_fractions a.0 b.0 c.0 a.1 b.1 c.1 ta tb tc (not_less_int (a.0 *ℤ pos b.1) (b.0 *ℤ pos a.1) h) (not_less_int (b.0 *ℤ pos c.1) (c.0 *ℤ pos b.1) k))
not_less (Fin a) b NegInf ta tb tc h k = refl
not_less PosInf b NegInf ta tb tc h k = refl
not_less NegInf b NegInf ta tb tc h k = refl
not_less NaN b NegInf ta tb tc h k = refl
not_less NaN b (Fin c) ta tb tc h k = refl
not_less NaN b PosInf ta tb tc h k = refl
not_less NaN b NaN ta tb tc h k = refl
not_less PosInf b (Fin c) ta tb tc h k = refl
not_less PosInf b PosInf ta tb tc h k = refl
not_less PosInf (Fin b) NaN ta tb tc h k = absurd (cc)
not_less PosInf PosInf NaN ta tb tc h k = absurd (cc)
not_less PosInf NegInf NaN ta tb tc h k = absurd (cc)
not_less PosInf NaN NaN ta tb tc h k = absurd (cc)
not_less NegInf (Fin b) (Fin c) ta tb tc h k = absurd (cc)
not_less NegInf (Fin b) PosInf ta tb tc h k = absurd (cc)
not_less NegInf (Fin b) NaN ta tb tc h k = absurd (cc)
not_less NegInf PosInf c ta tb tc h k = absurd (cc)
not_less NegInf NegInf (Fin c) ta tb tc h k = absurd (cc)
not_less NegInf NegInf PosInf ta tb tc h k = absurd (cc)
not_less NegInf NegInf NaN ta tb tc h k = absurd (cc)
not_less NegInf NaN c ta tb tc h k = absurd (cc)
not_less (Fin a) PosInf c ta tb tc h k = absurd (cc)
not_less (Fin a) NaN c ta tb tc h k = absurd (cc)
not_less (Fin a) NegInf (Fin c) ta tb tc h k = absurd (cc)
not_less (Fin a) NegInf PosInf ta tb tc h k = absurd (cc)
not_less (Fin a) NegInf NaN ta tb tc h k = absurd (cc)
not_less (Fin a) (Fin b) PosInf ta tb tc h k = absurd (cc)
not_less (Fin a) (Fin b) NaN ta tb tc h k = absurd (cc)

pub below_is_weak : OrderIsReversed → IsStrictWeakOrder below
below_is_weak reversed = record {
  one_way = λ x y h. ranked-one_way (is_not_a_number (tidy x)) (is_not_a_number (tidy y)) (total_order (tidy x) (tidy y)) (total_order (tidy y) (tidy x)) (reversed (tidy x) (tidy y)) h;
  chain = λ x y z h k. ranked-chain (is_not_a_number (tidy x)) (is_not_a_number (tidy y)) (is_not_a_number (tidy z)) (total_order (tidy x) (tidy y)) (total_order (tidy y) (tidy z)) (total_order (tidy x) (tidy z)) (not_less (tidy x) (tidy y) (tidy z) (is_tidy x) (is_tidy y) (is_tidy z)) h k;
}

tidy-number : (v : XFrac) → IsNumber v → tidy v ≡ v
tidy-number (Fin (n, zero)) number = absurd (omega (arith, number.positive))
tidy-number (Fin (n, suc d)) number = refl
tidy-number PosInf number = refl
tidy-number NegInf number = refl
tidy-number NaN number = refl

pub below-number : (a b : XFrac) → IsNumber a → IsNumber b → below a b ≡ is_before a b
below-number a b na nb = ap (λ v. is_before v (tidy b)) (tidy-number a na) ∙ ap (is_before a) (tidy-number b nb)

-- ---- sorted lists

rises_from : {A : Type 0} (lt : A → A → Bool) (xs : List A) → IsSortedBy lt xs → Rises lt xs
rises_from lt [] up = tt
rises_from lt (x ∷ []) up = tt
rises_from {A = A} lt (x ∷ y ∷ ys) up = (
  up 0 x (omega arith) (omega arith),
  rises_from lt (y ∷ ys) (λ k d low high. next k d (up (suc k) d (omega arith) (omega arith))),
)
  where
    next : (k : ℕ) (d : A) → lt (get_or (x ∷ y ∷ ys) (suc k + 1) d) (get_or (x ∷ y ∷ ys) (suc k) d) ≡ false → lt (get_or (y ∷ ys) (k + 1) d) (get_or (y ∷ ys) k d) ≡ false
    next k d h = let behind : suc k + 1 ≡ suc (k + 1) = omega arith in subst (λ n. lt (get_or (x ∷ y ∷ ys) n d) (get_or (y ∷ ys) k d) ≡ false) behind h

rises_before : (xs : List XFrac) → All IsNumber xs → Rises below xs → Rises is_before xs
rises_before [] numbers up = tt
rises_before (x ∷ []) numbers up = tt
rises_before (x ∷ y ∷ ys) numbers up =
    let rest = All-tail IsNumber x (y ∷ ys) numbers in
    (sym (below-number y x (All-head IsNumber y ys rest) (All-head IsNumber x (y ∷ ys) numbers)) ∙ up.0, rises_before (y ∷ ys) rest up.1)

-- a sorted list of numbers in another order is the sorted one
pub ascending_is : EqualIsSame → OrderIsReversed → LessIsTransitive → (values sorted : List XFrac) → All IsNumber values → IsPermutation values sorted → IsSortedBy below sorted → sorted ≡ ascending values
ascending_is equal reversed transitive values sorted numbers moved up =
    let o = before_is_strict equal reversed transitive in
    let all = All-permutation IsNumber values sorted moved numbers in
    sym (sorted_stays IsNumber is_before o sorted all (rises_before sorted all (rises_from below sorted up)))
    ∙ fold-permutation IsNumber (All IsNumber) (inserted is_before) (insertion_is_orderless IsNumber is_before o) values sorted [] (All-nil IsNumber) numbers moved
