-- How many of the labels that are fed have each place, one labels after another.
use Rattle.std.proofs.Common.{◌≡◌, ◌∙◌, ◌+◌, ◌<◌, ℕ, zero, suc, arith, Bool, true, false, List, [], ◌∷◌, length, get_or, refl, sym, ap, subst}
use Rattle.std.specs.Prelude.{◌==◌}
use Rattle.std.specs.List.{AllByRecursion}
use Rattle.std.proofs.Math.ListN.{set}
use Rattle.std.proofs.lemmas.List.{get_or-set_other, get_or-set_same}
use Rattle.step_table.specs.Groups.{Names}
use Rattle.step_put.specs.Clashes.{with_owner}
use Rattle.step_put.specs.Puts.{AreAt}
use Rattle.step_put.specs.declared.owners.Owners.{Owners}
use Rattle.step_put.specs.declared.owners.Owners.TheVariants.{Nobody, One, Several}
use Rattle.step_put.proofs.Lone.{same_place}
use Rattle.step_put.proofs.Putting.{within}

-- each of the first so many places is one that somebody has
abbrev pub AreOwned : List Owners → List ℕ → ℕ → Type 0
AreOwned owners places k = (i : ℕ) → i < k → get_or owners (get_or places i 0) Several ≡ Nobody → ⊥

-- and one that stands twice among them is one that several have
abbrev pub AreShared : List Owners → List ℕ → ℕ → Type 0
AreShared owners places k = (i j : ℕ) → i < j → j < k → get_or places i 0 ≡ get_or places j 0 → get_or owners (get_or places j 0) Several ≡ Several

never_nobody : (o : Owners) → with_owner o ≡ Nobody → ⊥
never_nobody Nobody e = absurd (cc)
never_nobody One e = absurd (cc)
never_nobody Several e = absurd (cc)

then_several : (o : Owners) → (o ≡ Nobody → ⊥) → with_owner o ≡ Several
then_several Nobody f = absurd (f refl)
then_several One f = refl
then_several Several f = refl

-- the owners of a place behind one labels more, at that place and at others
module _ (owners : List Owners) (place : ℕ) (there : place < length owners) where
  abbrev now : List Owners
  now = set owners place (with_owner (get_or owners place Several))

  at_same : (n : ℕ) → n ≡ place → get_or now n Several ≡ with_owner (get_or owners n Several)
  at_same n e = subst (λ (m : ℕ). get_or now m Several ≡ with_owner (get_or owners m Several)) (sym e) (get_or-set_same owners place (with_owner (get_or owners place Several)) Several there)

  at_other : (n : ℕ) → (n ≡ place → ⊥) → get_or now n Several ≡ get_or owners n Several
  at_other n f = get_or-set_other owners place n (with_owner (get_or owners place Several)) Several f

  by_place : (n : ℕ) (P : Type 0) → (n ≡ place → P) → ((n ≡ place → ⊥) → P) → P
  by_place n P f g =
      elim (n == place) as (λ (b : Bool). (n == place) ≡ b → P) [ true ↦ λ h. f (same_place n place h) | false ↦ λ h. g (λ e. let z : (n == place) ≡ true = grind (arith, e) in absurd (cc)) ] refl

  module _ (places : List ℕ) (k : ℕ) (here : place ≡ get_or places k 0) (owned : AreOwned owners places k) where
    earlier : (i : ℕ) → i < k + 1 → (get_or places i 0 ≡ place → ⊥) → i < k
    earlier i l f =
        elim (i == k) as (λ (b : Bool). (i == k) ≡ b → i < k) [ true ↦ λ h. absurd (f (ap (λ (m : ℕ). get_or places m 0) (same_place i k h) ∙ sym here)) | false ↦ λ h. grind (arith, h, l) ] refl

    pub owned_more : AreOwned now places (k + 1)
    owned_more i l e =
        by_place (get_or places i 0) ⊥ (λ s. never_nobody (get_or owners (get_or places i 0) Several) (sym (at_same (get_or places i 0) s) ∙ e))
        (λ f. owned i (earlier i l f) (sym (at_other (get_or places i 0) f) ∙ e))

    pub shared_more : AreShared owners places k → AreShared now places (k + 1)
    shared_more shared i j a b e =
        by_place (get_or places j 0) (get_or now (get_or places j 0) Several ≡ Several)
        (λ s. at_same (get_or places j 0) s ∙ then_several (get_or owners (get_or places j 0) Several) (λ z. owned i (omega arith) (ap (λ (m : ℕ). get_or owners m Several) e ∙ z)))
        (λ f. at_other (get_or places j 0) f ∙ shared i j a (earlier j b f) e)

-- a place among them is one of so many
pub one_below : (count : ℕ) (places : List ℕ) (i d : ℕ) → i < length places → AllByRecursion (λ (p : ℕ). p < count) places → get_or places i d < count
one_below count [] i d l a = absurd (omega arith)
one_below count (p ∷ places) zero d l a = a.0
one_below count (p ∷ places) (suc i) d l a = one_below count places i d (omega arith) a.1

pub same_there : (places : List ℕ) (i d e : ℕ) → i < length places → get_or places i d ≡ get_or places i e
same_there [] i d e l = absurd (omega arith)
same_there (p ∷ places) zero d e l = refl
same_there (p ∷ places) (suc i) d e l = same_there places i d e (omega arith)

-- places of labels are below their number
pub at_below : (labels names : List Names) (places : List ℕ) → AreAt labels names places → AllByRecursion (λ (p : ℕ). p < length labels) places
at_below labels [] [] a = tt
at_below labels [] (p ∷ places) a = absurd a
at_below labels (n ∷ names) [] a = absurd a
at_below labels (n ∷ names) (p ∷ places) a = (within labels p n a.0, at_below labels names places a.1)
