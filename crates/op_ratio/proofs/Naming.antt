-- Labels by their numbers.
use Rattle.std.proofs.Common.{◌≡◌, ◌∙◌, ◌<◌, ℕ, zero, suc, arith, List, [], ◌∷◌, length, get_or, slice_get, map, refl, ap, subst, Some}
use Rattle.std.proofs.lemmas.Option.{slice_get_within}
use Rattle.step_batch.specs.Lent.{Lent}
use Rattle.step_put.specs.Placed.{IsPlaced, Naming, left_of}
use Rattle.step_put.specs.Puts.{AreAt}
use Rattle.step_put.specs.declared.labels_left.Left.{Left}
use Rattle.step_put.specs.declared.labels_left.Left.TheVariants as kind
use Rattle.step_table.specs.Groups.{Names}
use Rattle.op_ratio.specs.Counts.{AreBelow}

-- labels keep their places where all of them stay
at_kept : (labels now names : List Names) (places : List ℕ) → ((j : ℕ) (n : Names) → slice_get labels j ≡ Some n → slice_get now j ≡ Some n) → AreAt labels names places → AreAt now names places
at_kept labels now [] [] k a = tt
at_kept labels now [] (q ∷ places) k a = absurd a
at_kept labels now (m ∷ names) [] k a = absurd a
at_kept labels now (m ∷ names) (q ∷ places) k a = (k q m a.0, at_kept labels now names places k a.1)

pub placed_kept : (lent now : Lent) (n : Naming) → ((j : ℕ) (names : Names) → slice_get lent.labels j ≡ Some names → slice_get now.labels j ≡ Some names) → IsPlaced lent n → IsPlaced now n
placed_kept lent now n k a = at_kept lent.labels now.labels (map (left_of n.left) n.fed) n.places k a

all_left : (names : List Names) → map (left_of kind.All) names ≡ names
all_left [] = refl
all_left (n ∷ names) = ap (λ (z : List Names). n ∷ z) (all_left names)

-- all of the labels that were fed is left
pub placed_all : (lent : Lent) (n : Naming) → n.left ≡ kind.All → IsPlaced lent n → AreAt lent.labels n.fed n.places
placed_all lent n e a =
    let all : map (left_of n.left) n.fed ≡ n.fed = ap (λ (z : Left). map (left_of z) n.fed) e ∙ all_left n.fed in
    subst (λ (z : List Names). AreAt lent.labels z n.places) all a

-- there are as many places as labels
pub at_length : (labels names : List Names) (places : List ℕ) → AreAt labels names places → length places ≡ length names
at_length labels [] [] a = refl
at_length labels [] (p ∷ places) a = absurd a
at_length labels (n ∷ names) [] a = absurd a
at_length labels (n ∷ names) (p ∷ places) a = ap suc (at_length labels names places a.1)

-- labels by their place
pub at_place : (labels names : List Names) (places : List ℕ) (i : ℕ) → AreAt labels names places → i < length names → slice_get labels (get_or places i 0) ≡ Some (get_or names i [])
at_place labels [] places i a h = absurd (omega arith)
at_place labels (n ∷ names) [] i a h = absurd a
at_place labels (n ∷ names) (p ∷ places) zero a h = a.0
at_place labels (n ∷ names) (p ∷ places) (suc i) a h = at_place labels names places i a.1 (omega arith)

-- places are those of labels
pub at_below : (labels names : List Names) (places : List ℕ) → AreAt labels names places → AreBelow (length labels) places
at_below labels names places a i h =
    let count = at_length labels names places a in
    slice_get_within labels (get_or places i 0) (get_or names i []) (at_place labels names places i a (omega arith))
