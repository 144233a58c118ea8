-- Engines that forget their asks, one after another.
use Rattle.std.proofs.Common.{◌≡◌, ◌∙◌, ℕ, zero, suc, ◌+◌, ◌<◌, ◌≤◌, List, [], ◌∷◌, length, map, slice_get, slice_set, refl, sym, ap, subst, Some, arith, false, inl, inr, eq-or-lt_of_le}
use Rattle.remote_api.specs.Seen.{EngineSeen}
use Rattle.gather_tree_tests.specs.Fitting.{AreIdle, AreUnasked}

-- nothing is asked of an engine
abbrev pub IsUnasked : EngineSeen → Type 0
IsUnasked e = (e.asks ≡ []) × (e.spent ≡ false)

-- nor of the first engines
abbrev pub AreBegun : ℕ → List EngineSeen → Type 0
AreBegun count es = (i : ℕ) (e : EngineSeen) → slice_get es i ≡ Some e → i < count → IsUnasked e

inside : {X : Type 0} (xs : List X) (i : ℕ) (x : X) → slice_get xs i ≡ Some x → i < length xs
inside [] i x e = absurd (cc)
inside (y ∷ xs) zero x e = omega arith
inside (y ∷ xs) (suc i) x e = let h = inside xs i x e in omega (arith, h)

map_long : {B : Type 0} (f : B → EngineSeen) (bs : List B) → length (map f bs) ≡ length bs
map_long f [] = refl
map_long f (b ∷ bs) = ap suc (map_long f bs)

set_other : {B : Type 0} (f : B → EngineSeen) (bs : List B) (i k : ℕ) (b : B) → (k ≡ i → ⊥) → slice_get (map f (slice_set bs i b)) k ≡ slice_get (map f bs) k
set_other f [] zero k b ne = refl
set_other f [] (suc i) k b ne = refl
set_other f (c ∷ bs) zero zero b ne = absurd (ne refl)
set_other f (c ∷ bs) zero (suc k) b ne = refl
set_other f (c ∷ bs) (suc i) zero b ne = refl
set_other f (c ∷ bs) (suc i) (suc k) b ne = set_other f bs i k b (λ e. ne (ap suc e))

set_here : {B : Type 0} (f : B → EngineSeen) (bs : List B) (i : ℕ) (b : B) (e : EngineSeen) → slice_get (map f (slice_set bs i b)) i ≡ Some e → f b ≡ e
set_here f [] zero b e at = absurd (cc)
set_here f [] (suc i) b e at = absurd (cc)
set_here f (c ∷ bs) zero b e at = cc
set_here f (c ∷ bs) (suc i) b e at = set_here f bs i b e at

pub set_long : {B : Type 0} (bs : List B) (i : ℕ) (b : B) → length (slice_set bs i b) ≡ length bs
set_long [] zero b = refl
set_long [] (suc i) b = refl
set_long (c ∷ bs) zero b = refl
set_long (c ∷ bs) (suc i) b = ap suc (set_long bs i b)

-- one engine more
pub begun_more : {B : Type 0} (f : B → EngineSeen) (bs : List B) (i : ℕ) (b : B) → (f b).asks ≡ [] → (f b).spent ≡ false → AreBegun i (map f bs) → AreBegun (i + 1) (map f (slice_set bs i b))
begun_more f bs i b asks going begun k e at few =
    let w : k ≤ i = omega (arith, few) in
    elim (eq-or-lt_of_le w) [
      | inl same ↦
          let there : slice_get (map f (slice_set bs i b)) i ≡ Some e = ap (slice_get (map f (slice_set bs i b))) (sym same) ∙ at in
          subst IsUnasked (set_here f bs i b e there) (asks, going)
      | inr less ↦ begun k e (sym (set_other f bs i k b (λ e. omega (arith, less, e))) ∙ at) less
    ]

pub all_begun : {B : Type 0} (f : B → EngineSeen) (bs : List B) (i : ℕ) → length bs ≤ i → length bs ≡ 2 → AreBegun i (map f bs) → AreIdle (map f bs)
all_begun f bs i whole two begun = record {
  two = map_long f bs ∙ two;
  unasked = λ k e at. begun k e at (let h = inside (map f bs) k e at in let n = map_long f bs in omega (arith, h, n, whole));
}
