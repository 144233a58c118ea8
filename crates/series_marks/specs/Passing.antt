-- Samples that are walked over one by one up to a moment, for proofs.
use Rattle.std.proofs.Common.{◌≡◌, ℕ, zero, suc, ◌+◌, ◌<◌, ◌≤◌, true, false, [], ◌∷◌, length, drop, Option, None, Some, refl, sym, ap, subst, arith}
use Rattle.std.specs.Prelude.{ℤ, ◌<ℤ◌, ◌≤ℤ◌, int_lt, if◌then◌else◌}
use Rattle.std.proofs.lemmas.Int.{ints}
use Rattle.sample_store.specs.Samples.{Samples}
use Rattle.series_marks.specs.Walked.{eq_lt}
use Rattle.series_marks.specs.Reads.{after, Sample, Rises, last_of, stands_at, head_of, ahead_of}

pub lt_is : (a b : ℤ) → a <ℤ b → int_lt a b ≡ true
lt_is a b h = grind (arith, ints, h)

pub ge_is : (a b : ℤ) → b ≤ℤ a → int_lt a b ≡ false
ge_is a b h = grind (arith, ints, h)

-- the first sample is later
pub last_past : (m : ℤ) (x : Sample) (xs rest : Samples) (l : Option Sample) → rest ≡ x ∷ xs → m <ℤ x.0.0 → last_of m rest l ≡ l
last_past m x xs rest l is h = let e = lt_is m x.0.0 h in rw (is, e) refl

pub after_past : (m : ℤ) (x : Sample) (xs rest : Samples) → rest ≡ x ∷ xs → m <ℤ x.0.0 → after m rest ≡ rest
after_past m x xs rest is h = let e = lt_is m x.0.0 h in rw (is, e) refl

-- it is not
pub last_goes : (m : ℤ) (x : Sample) (xs rest : Samples) (l : Option Sample) → rest ≡ x ∷ xs → x.0.0 ≤ℤ m → last_of m rest l ≡ last_of m xs (Some x)
last_goes m x xs rest l is h = let e = ge_is m x.0.0 h in rw (is, e) refl

pub after_goes : (m : ℤ) (x : Sample) (xs rest : Samples) → rest ≡ x ∷ xs → x.0.0 ≤ℤ m → after m rest ≡ after m xs
after_goes m x xs rest is h = let e = ge_is m x.0.0 h in rw (is, e) refl

-- one stands at the moment

pub after_there : (m : ℤ) (xs : Samples) (l : Option Sample) → stands_at m l ≡ true → Rises l xs → after m xs ≡ xs
after_there m xs None h r = absurd (no h)
  where
    no : false ≡ true → ⊥
    no e = cc
after_there m [] (Some x) h r = refl
after_there m (y ∷ ys) (Some x) h r = let e = eq_lt x.0.0 m y.0.0 h r.0 in rw e refl

pub ahead_there : (m : ℤ) (l : Option Sample) (xs : Samples) → stands_at m l ≡ true → None ≡ ahead_of m l xs
ahead_there m l xs h = rw h refl

pub ahead_none : (m : ℤ) (l : Option Sample) (xs : Samples) → xs ≡ [] → None ≡ ahead_of m l xs
ahead_none m l xs is = rw is (elim (stands_at m l) as (λ b. None ≡ (if b then None else head_of [])) [ true ↦ refl | false ↦ refl ])

pub ahead_some : (m : ℤ) (l : Option Sample) (x : Sample) (xs : Samples) → stands_at m l ≡ false → Some x ≡ ahead_of m l (x ∷ xs)
ahead_some m l x xs h = rw h refl

-- a later start
pub rises_next : (l : Option Sample) (x : Sample) (xs rest : Samples) → rest ≡ x ∷ xs → Rises l rest → Rises (Some x) xs
rises_next None x xs rest is r = subst (Rises None) is r
rises_next (Some p) x xs rest is r = (subst (Rises (Some p)) is r).1

-- one more sample is behind the cursor
drop_suc : (S : Samples) (p : ℕ) (x : Sample) (xs : Samples) → drop p S ≡ x ∷ xs → xs ≡ drop (suc p) S
drop_suc S zero x xs e = subst (λ s. xs ≡ drop 1 s) (sym e) refl
drop_suc [] (suc p) x xs e = absurd (omega (arith, ap length e))
drop_suc (y ∷ S) (suc p) x xs e = drop_suc S p x xs e

pub drop_next : (S : Samples) (p q : ℕ) (x : Sample) (xs : Samples) → q ≡ p + 1 → drop p S ≡ x ∷ xs → xs ≡ drop q S
drop_next S p q x xs is e = let h : q ≡ suc p = omega arith in rw h (drop_suc S p x xs e)

pub drop_within : (S : Samples) (p : ℕ) (x : Sample) (xs : Samples) → drop p S ≡ x ∷ xs → p + 1 ≤ length S
drop_within S zero x xs e = let h : length S ≡ suc (length xs) = ap length e in omega arith
drop_within [] (suc p) x xs e = absurd (omega (arith, ap length e))
drop_within (y ∷ S) (suc p) x xs e = let h = drop_within S p x xs e in omega arith
