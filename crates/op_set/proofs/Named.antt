-- Labels by their places, and the names of a side.
use Rattle.std.proofs.Common.{◌≡◌, ◌∙◌, ◌+◌, ◌<◌, ◌≤◌, ℕ, zero, suc, arith, Bool, List, [], ◌∷◌, ◌++◌, length, get_or, slice_get, take, map, refl, sym, ap, subst, Some}
use Rattle.std.proofs.lemmas.Option.{slice_get_within}
use Rattle.label_set.specs.declared.rules.Pairing.{Pairing}
use Rattle.step_put.specs.Placed.{left_of}
use Rattle.step_put.specs.Puts.{AreAt}
use Rattle.step_put.specs.declared.labels_left.Left.{Left}
use Rattle.step_put.specs.declared.labels_left.Left.TheVariants as kind
use Rattle.step_table.specs.Groups.{Names}
use Rattle.op_set.specs.Sides.{AreBelow, IsNamed, lent_labels, signature_by}
use Rattle.op_set.specs.declared.sides.Side.{Side}

-- labels keep their places where all of them stay
pub at_kept : (labels now names : List Names) (places : List ℕ) → ((j : ℕ) (n : Names) → slice_get labels j ≡ Some n → slice_get now j ≡ Some n) → AreAt labels names places → AreAt now names places
at_kept labels now [] [] k a = tt
at_kept labels now [] (q ∷ places) k a = absurd a
at_kept labels now (m ∷ names) [] k a = absurd a
at_kept labels now (m ∷ names) (q ∷ places) k a = (k q m a.0, at_kept labels now names places k a.1)

pub take_more : {A : Type 0} (rows : List A) (i : ℕ) (d : A) → i < length rows → take (i + 1) rows ≡ take i rows ++ get_or rows i d ∷ []
take_more [] i d h = absurd (omega arith)
take_more (r ∷ rows) zero d h = refl
take_more (r ∷ rows) (suc i) d h = let e : suc i + 1 ≡ suc (i + 1) = omega arith in rw e (ap (λ rs. r ∷ rs) (take_more rows i d (omega arith)))

pub whole : {A : Type 0} (xs : List A) (i : ℕ) → length xs ≤ i → take i xs ≡ xs
whole [] zero l = refl
whole [] (suc i) l = refl
whole (x ∷ xs) zero l = absurd (omega arith)
whole (x ∷ xs) (suc i) l = ap (λ r. x ∷ r) (whole xs i (omega arith))

-- there are as many places as labels
pub at_length : (labels names : List Names) (places : List ℕ) → AreAt labels names places → length places ≡ length names
at_length labels [] [] a = refl
at_length labels [] (p ∷ places) a = absurd a
at_length labels (n ∷ names) [] a = absurd a
at_length labels (n ∷ names) (p ∷ places) a = ap suc (at_length labels names places a.1)

pub count_of : {A B : Type 0} (f : A → B) (xs : List A) → length (map f xs) ≡ length xs
count_of f [] = refl
count_of f (x ∷ xs) = ap suc (count_of f xs)

-- labels by their place
pub at_place : (labels names : List Names) (places : List ℕ) (i : ℕ) → AreAt labels names places → i < length names → slice_get labels (get_or places i 0) ≡ Some (get_or names i [])
at_place labels [] places i a h = absurd (omega arith)
at_place labels (n ∷ names) [] i a h = absurd a
at_place labels (n ∷ names) (p ∷ places) zero a h = a.0
at_place labels (n ∷ names) (p ∷ places) (suc i) a h = at_place labels names places i a.1 (omega arith)

-- places are those of labels
pub at_below : (labels names : List Names) (places : List ℕ) → AreAt labels names places → AreBelow (length labels) places
at_below labels names places a i h =
    let count = at_length labels names places a in
    slice_get_within labels (get_or places i 0) (get_or names i []) (at_place labels names places i a (omega arith))

pub made_at : (f : Names → Names) (names : List Names) (i : ℕ) → i < length names → get_or (map f names) i [] ≡ f (get_or names i [])
made_at f [] i h = absurd (omega arith)
made_at f (n ∷ names) zero h = refl
made_at f (n ∷ names) (suc i) h = made_at f names i (omega arith)

-- what is made of labels by their place
pub named_at : (f : Names → Names) (labels names : List Names) (places : List ℕ) (i : ℕ) → AreAt labels (map f names) places → i < length names → slice_get labels (get_or places i 0) ≡ Some (f (get_or names i []))
named_at f labels names places i a h =
    let count = count_of f names in
    at_place labels (map f names) places i a (omega arith) ∙ ap Some (made_at f names i h)

-- ---- sides

all_left : (names : List Names) → map (left_of kind.All) names ≡ names
all_left [] = refl
all_left (n ∷ names) = ap (λ (z : List Names). n ∷ z) (all_left names)

-- what a side keeps stands at its places
pub signed_placed : (p : Pairing) (lends : Bool) (signatures labels : List Names) (side : Side) → IsNamed p lends signatures labels side → AreAt signatures (map (left_of side.signed.left) side.signed.fed) side.signed.places
signed_placed p lends signatures labels side n =
    subst (λ (z : Left). AreAt signatures (map (left_of z) side.signed.fed) side.signed.places) (sym n.signed_left) n.numbers

pub own_placed : (p : Pairing) (lends : Bool) (signatures labels : List Names) (side : Side) → IsNamed p lends signatures labels side → AreAt labels (map (left_of side.own.left) side.own.fed) side.own.places
own_placed p lends signatures labels side n =
    let all : map (left_of side.own.left) side.own.fed ≡ lent_labels lends side.signed.fed = ap (λ (z : Left). map (left_of z) side.own.fed) n.own_left ∙ all_left side.own.fed ∙ n.fed in
    subst (λ (z : List Names). AreAt labels z side.own.places) (sym all) n.places

-- a side that took its labels is named
pub taken_named : (p : Pairing) (lends : Bool) (signatures labels more others : List Names) (side now : Side) → IsNamed p lends signatures labels side → now.signed.left ≡ side.signed.left → now.own.left ≡ side.own.left
    → now.own.fed ≡ lent_labels lends now.signed.fed → AreAt more (map (left_of now.signed.left) now.signed.fed) now.signed.places → AreAt others (map (left_of now.own.left) now.own.fed) now.own.places → IsNamed p lends more others now
taken_named p lends signatures labels more others side now n s o f a b =
    let signed : now.signed.left ≡ kind.Signature p.on p.names = s ∙ n.signed_left in
    let own : now.own.left ≡ kind.All = o ∙ n.own_left in
    let all : map (left_of now.own.left) now.own.fed ≡ lent_labels lends now.signed.fed = ap (λ (z : Left). map (left_of z) now.own.fed) own ∙ all_left now.own.fed ∙ f in
    record {
      signed_left = signed;
      own_left = own;
      fed = f;
      numbers = subst (λ (z : Left). AreAt more (map (left_of z) now.signed.fed) now.signed.places) signed a;
      places = subst (λ (z : List Names). AreAt others z now.own.places) all b;
    }

-- names stay where all labels stay at their places
pub named_kept : (p : Pairing) (lends : Bool) (signatures labels more others : List Names) (side : Side) → ((j : ℕ) (n : Names) → slice_get signatures j ≡ Some n → slice_get more j ≡ Some n)
    → ((j : ℕ) (n : Names) → slice_get labels j ≡ Some n → slice_get others j ≡ Some n) → IsNamed p lends signatures labels side → IsNamed p lends more others side
named_kept p lends signatures labels more others side s k n = record {
  signed_left = n.signed_left;
  own_left = n.own_left;
  fed = n.fed;
  numbers = at_kept signatures more (map (signature_by p) side.signed.fed) side.signed.places s n.numbers;
  places = at_kept labels others (lent_labels lends side.signed.fed) side.own.places k n.places;
}
