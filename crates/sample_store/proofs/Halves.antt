-- A binary search for the first later sample: what stands before and after the part that is left, and its cost.
use Rattle.std.proofs.Common.{List, ◌≡◌, ℕ, zero, suc, ◌+◌, ◌*◌, ◌<◌, ◌≤◌, ◌-◌, ◌^◌, [], ◌∷◌, length, drop, Some, slice_get, inl, inr, eq-or-lt_of_le, refl, sym, ap, subst, arith, true, false}
use Rattle.std.specs.Prelude.{ℤ, pos, ◌<ℤ◌, ◌≤ℤ◌, int_lt}
use Rattle.std.specs.Ordering.{int_cmp}
use Rattle.std.specs.Cmp.{int_ranked}
use Rattle.std.specs.declared.cmp.Ordering.TheVariants.{Less, Greater}
use Rattle.std.proofs.lemmas.Int.{ints, by_lt_z}
use Rattle.std.proofs.Math.Nat.{mul-le-mul_right, pow-le-pow_right, pow-succ'}
use Rattle.ticks.specs.declared.moment.Ms.{Ms}
use Rattle.xfrac.specs.declared.value.Held.{Held}
use Rattle.label_set.specs.Entries.{insert_at_gap, later_key}
use Rattle.std.proofs.lemmas.Map.Entries.{lookup_at_gap}
use Rattle.sample_store.specs.Laws.{time_cmp_total}
use Rattle.sample_store.specs.Samples.{IsRising, IsTimeGapAt, Samples, later_than, time_cmp}

-- what a search with so many probes has left
pub record IsHalved (samples : Samples) (after : Ms) (low high old probed : ℕ) : Type 0 where
  pub ordered : low ≤ high
  pub within : high ≤ length samples
  pub before : (j : ℕ) (s : Ms × Held) → j < low → slice_get samples j ≡ Some s → s.0.0 ≤ℤ after.0
  pub beyond : (j : ℕ) (s : Ms × Held) → high ≤ j → slice_get samples j ≡ Some s → after.0 <ℤ s.0.0
  pub count : ℕ
  pub probes : probed ≡ old + count
  pub spent : (high - low) * 2 ^ count ≤ length samples
  pub paid : 2 ^ count ≤ 2 * length samples + 1
  pub told : length samples + 2 ≤ (high - low + 2) * 2 ^ count

earlier : (samples : Samples) (i j : ℕ) (a b : Ms × Held) → IsRising samples → i < j → slice_get samples i ≡ Some a → slice_get samples j ≡ Some b → a.0.0 <ℤ b.0.0
earlier samples i j a b s l f g = let less : int_cmp a.0.0 b.0.0 ≡ Less = later_key time_cmp samples i j a b s l f g in int_ranked a.0.0 b.0.0 Less (sym less)

-- a half at most is left, at twice the price
spent-half : (w v p n : ℕ) → v * 2 ≤ w → w * p ≤ n → v * (2 * p) ≤ n
spent-half w v p n h s = let t : v * 2 * p ≤ w * p = mul-le-mul_right p h in omega (arith, t, s)

paid-half : (w p n : ℕ) → 1 ≤ w → w * p ≤ n → 2 * p ≤ 2 * n + 1
paid-half w p n h s = let t : 1 * p ≤ w * p = mul-le-mul_right p h in omega (arith, t, s)

-- less than a half is never left
told-half : (w v p n : ℕ) → w ≤ v * 2 + 2 → n + 2 ≤ (w + 2) * p → n + 2 ≤ (v + 2) * (2 * p)
told-half w v p n h s = let t : (w + 2) * p ≤ (v * 2 + 4) * p = mul-le-mul_right p (let k : w + 2 ≤ v * 2 + 4 = omega arith in k) in omega (arith, t, s)

module _ (samples : Samples) (after : Ms) (rising : IsRising samples) (low high old probed now m : ℕ) (b : IsHalved samples after low high old probed)
    (l : low ≤ m) (w : m < high) (e : now ≡ probed + 1) (a : Ms × Held) (at : slice_get samples m ≡ Some a) where
  pub lower : (m - low) * 2 ≤ high - low → high - low ≤ (m - low) * 2 + 2 → after.0 <ℤ a.0.0 → IsHalved samples after low m old now
  lower half wide h = record {
    ordered = l;
    within = let i = b.within in omega arith;
    before = b.before;
    beyond = λ j s g f. elim (eq-or-lt_of_le g) [
      | inl same ↦ let here : a ≡ s = cc in subst (λ (z : Ms × Held). after.0 <ℤ z.0.0) here h
      | inr less ↦ let r = earlier samples m j a s rising less at f in omega (arith, ints, h, r)
    ];
    count = suc b.count;
    probes = let p = b.probes in omega arith;
    spent = subst (λ (z : ℕ). (m - low) * z ≤ length samples) (sym (pow-succ' 2 b.count)) (spent-half (high - low) (m - low) (2 ^ b.count) (length samples) half b.spent);
    paid = subst (λ (z : ℕ). z ≤ 2 * length samples + 1) (sym (pow-succ' 2 b.count)) (paid-half (high - low) (2 ^ b.count) (length samples) (omega arith) b.spent);
    told = subst (λ (z : ℕ). length samples + 2 ≤ ((m - low) + 2) * z) (sym (pow-succ' 2 b.count)) (told-half (high - low) (m - low) (2 ^ b.count) (length samples) wide b.told);
  }

  pub upper : (high - (m + 1)) * 2 ≤ high - low → high - low ≤ (high - (m + 1)) * 2 + 2 → a.0.0 ≤ℤ after.0 → IsHalved samples after (m + 1) high old now
  upper half wide h = record {
    ordered = omega arith;
    within = b.within;
    before = λ j s g f. elim (eq-or-lt_of_le (let n : j ≤ m = omega arith in n)) [
      | inl same ↦ let here : a ≡ s = cc in subst (λ (z : Ms × Held). z.0.0 ≤ℤ after.0) here h
      | inr less ↦ let r = earlier samples j m s a rising less f at in omega (arith, ints, h, r)
    ];
    beyond = b.beyond;
    count = suc b.count;
    probes = let p = b.probes in omega arith;
    spent = subst (λ (z : ℕ). (high - (m + 1)) * z ≤ length samples) (sym (pow-succ' 2 b.count)) (spent-half (high - low) (high - (m + 1)) (2 ^ b.count) (length samples) half b.spent);
    paid = subst (λ (z : ℕ). z ≤ 2 * length samples + 1) (sym (pow-succ' 2 b.count)) (paid-half (high - low) (2 ^ b.count) (length samples) (omega arith) b.spent);
    told = subst (λ (z : ℕ). length samples + 2 ≤ ((high - (m + 1)) + 2) * z) (sym (pow-succ' 2 b.count)) (told-half (high - low) (high - (m + 1)) (2 ^ b.count) (length samples) wide b.told);
  }

pub whole : (samples : Samples) (after : Ms) (old : ℕ) → IsHalved samples after 0 (length samples) old old
whole samples after old = record {
  ordered = omega arith;
  within = omega arith;
  before = λ j s g f. absurd (omega arith);
  beyond = λ j s g f. beyond-end samples j s g f;
  count = 0;
  probes = omega arith;
  spent = omega arith;
  paid = omega arith;
  told = omega arith;
}
  where
    beyond-end : (samples : Samples) (j : ℕ) (s : Ms × Held) → length samples ≤ j → slice_get samples j ≡ Some s → after.0 <ℤ s.0.0
    beyond-end [] j s g f = absurd (cc)
    beyond-end (x ∷ xs) zero s g f = absurd (omega arith)
    beyond-end (x ∷ xs) (suc j) s g f = beyond-end xs j s (omega arith) f

-- a search that is done has looked often enough to tell the samples apart
pub looked-enough : (samples : Samples) (after : Ms) (low high old probed : ℕ) → IsHalved samples after low high old probed → high ≤ low → length samples + 2 ≤ 2 * 2 ^ (probed - old)
looked-enough samples after low high old probed b done =
    let looks : probed - old ≡ b.count = (let p = b.probes in omega (arith, p)) in
    let none : high - low ≡ 0 = omega arith in
    subst (λ (z : ℕ). length samples + 2 ≤ 2 * 2 ^ z) (sym looks) (subst (λ (z : ℕ). length samples + 2 ≤ (z + 2) * 2 ^ b.count) none b.told)

few : (count n : ℕ) → n < 2 ^ 64 → 2 ^ count ≤ 2 * n + 1 → 65 ≤ count → ⊥
few count n h p l = let q : 2 ^ 65 ≤ 2 ^ count = pow-le-pow_right {n = 2} (omega arith) l in omega (arith, q, h, p)

by-count : (count : ℕ) (P : Type 0) → (count ≤ 64 → P) → (65 ≤ count → P) → P
by-count count P f g = by_lt_z (pos count) (pos 65) (λ h. f (omega (arith, ints, h))) (λ h. g (omega (arith, ints, h)))

few-21 : (count n : ℕ) → n ≤ 2000000 → 2 ^ count ≤ 2 * n + 1 → 22 ≤ count → ⊥
few-21 count n h p l = let q : 2 ^ 22 ≤ 2 ^ count = pow-le-pow_right {n = 2} (omega arith) l in omega (arith, q, h, p)

by-count-21 : (count : ℕ) (P : Type 0) → (count ≤ 21 → P) → (22 ≤ count → P) → P
by-count-21 count P f g = by_lt_z (pos count) (pos 22) (λ h. f (omega (arith, ints, h))) (λ h. g (omega (arith, ints, h)))

pub at_most_21 : (n old probed count : ℕ) → probed ≡ old + count → 2 ^ count ≤ 2 * n + 1 → n ≤ 2000000 → probed ≤ old + 21
at_most_21 n old probed count p b h = by-count-21 count (probed ≤ old + 21) (λ f. omega (arith, p, f)) (λ g. absurd (few-21 count n h b g))

-- what a search among n things has spent
pub record IsSpent (n low high old probed : ℕ) : Type 0 where
  pub count : ℕ
  pub probes : probed ≡ old + count
  pub spent : (high - low) * 2 ^ count ≤ n
  pub paid : 2 ^ count ≤ 2 * n + 1

pub spent_whole : (n old : ℕ) → IsSpent n 1 n old old
spent_whole n old = record { count = 0; probes = omega arith; spent = (let h : (n - 1) * 1 ≤ n = omega arith in h); paid = (let h : 1 ≤ 2 * n + 1 = omega arith in h) }

pub spent_on : (n low high nlow nhigh old probed now : ℕ) → IsSpent n low high old probed → low < high → (nhigh - nlow) * 2 ≤ high - low → now ≡ probed + 1 → IsSpent n nlow nhigh old now
spent_on n low high nlow nhigh old probed now b l half e = let p = b.probes in record {
  count = suc b.count;
  probes = omega (arith, p, e);
  spent = subst (λ (z : ℕ). (nhigh - nlow) * z ≤ n) (sym (pow-succ' 2 b.count)) (spent-half (high - low) (nhigh - nlow) (2 ^ b.count) n half b.spent);
  paid = subst (λ (z : ℕ). z ≤ 2 * n + 1) (sym (pow-succ' 2 b.count)) (paid-half (high - low) (2 ^ b.count) n (omega (arith, l)) b.spent);
}

pub at-most-64 : (samples : Samples) (after : Ms) (low high old probed : ℕ) → IsHalved samples after low high old probed → length samples < 2 ^ 64 → probed ≤ old + 64
at-most-64 samples after low high old probed b h = by-count b.count (probed ≤ old + 64) (λ f. let p = b.probes in omega (arith, p, f))
    (λ g. absurd (few b.count (length samples) h b.paid g))

pub drop-later : (after : Ms) (samples : Samples) (i : ℕ) → ((j : ℕ) (s : Ms × Held) → j < i → slice_get samples j ≡ Some s → s.0.0 ≤ℤ after.0)
    → ((j : ℕ) (s : Ms × Held) → i ≤ j → slice_get samples j ≡ Some s → after.0 <ℤ s.0.0) → drop i samples ≡ later_than after samples
drop-later after [] zero b f = refl
drop-later after [] (suc i) b f = refl
drop-later after (x ∷ xs) zero b f =
    let t : int_lt after.0 x.0.0 ≡ true = is-later after.0 x.0.0 (f 0 x (omega arith) refl) in
    rw t (ap (λ z. x ∷ z) (drop-later after xs zero (λ j s g. absurd (omega arith)) (λ j s g h. f (suc j) s (omega arith) h)))
  where
    is-later : (y z : ℤ) → y <ℤ z → int_lt y z ≡ true
    is-later y z h = grind (arith, ints)
drop-later after (x ∷ xs) (suc i) b f =
    let t : int_lt after.0 x.0.0 ≡ false = is-not after.0 x.0.0 (b 0 x (omega arith) refl) in
    rw t (drop-later after xs i (λ j s g h. b (suc j) s (omega arith) h) (λ j s g h. f (suc j) s (omega arith) h))
  where
    is-not : (y z : ℤ) → z ≤ℤ y → int_lt y z ≡ false
    is-not y z h = grind (arith, ints)

pub is-greater : (x y : ℤ) → y <ℤ x → int_cmp x y ≡ Greater
is-greater x y h = grind (arith, ints)

none-at-end : {X : Type 0} (xs : List X) (x : X) → slice_get xs (length xs) ≡ Some x → ⊥
none-at-end [] x h = absurd (cc)
none-at-end (y ∷ ys) x h = none-at-end ys x h

-- a time after the last one has its place at the end
pub past-last : (samples : Samples) (at : Ms) (last : Ms × Held) → IsRising samples → 0 < length samples → slice_get samples (length samples - 1) ≡ Some last → last.0.0 <ℤ at.0
    → IsTimeGapAt samples at (length samples)
past-last samples at last rising some there less =
    let before : (j : ℕ) (e : Ms × Held) → j < length samples → slice_get samples j ≡ Some e → time_cmp at e.0 ≡ Greater = λ j e l f.
    is-greater at.0 e.0.0 (elim (eq-or-lt_of_le (let n : j ≤ length samples - 1 = omega arith in n)) [
      | inl same ↦ let here : last ≡ e = cc in subst (λ (z : Ms × Held). z.0.0 <ℤ at.0) here less
      | inr short ↦ let r = earlier samples j (length samples - 1) e last rising short f there in omega (arith, ints, r, less)
    ]) in
    let after : (e : Ms × Held) → slice_get samples (length samples) ≡ Some e → time_cmp at e.0 ≡ Less = λ e f. absurd (none-at-end samples e f) in
    record {
      within = omega arith;
      absent = lookup_at_gap time_cmp_total at samples (length samples) rising before after;
      added = λ v. insert_at_gap time_cmp at v samples (length samples) (omega arith) before after;
    }

pub is-less : (x y : ℤ) → x <ℤ y → int_cmp x y ≡ Less
is-less x y h = grind (arith, ints)
