-- What `==` and a hash say of labels: they are equal by `==` exactly where they are the same pairs.
use Rattle.std.proofs.Common.{◌≡◌, ℕ, Bool, true, false, List, ◌++◌, refl, ap}
use Rattle.std.specs.Prelude.{◌&&◌, bytes_eq}
use Rattle.std.specs.Bool.{Decides}
use Rattle.std.specs.Hash as fed
use Rattle.std.specs.Cmp.Lexicographic.{pointwise}
use Rattle.std.proofs.lemmas.Slice.Eq.{slice_eq-Decides, bytes_eq-Decides}

and_decides : (s t : Bool) (P Q : Type 0) → Decides s P → Decides t Q → Decides (s && t) (P × Q)
and_decides true true P Q h k = (λ e. (h.0 refl, k.0 refl), λ e. refl)
and_decides true false P Q h k = (λ e. absurd (cc), λ e. k.1 e.1)
and_decides false t P Q h k = (λ e. absurd (cc), λ e. h.1 e.0)

pair_decides : (p q : List ℕ × List ℕ) → Decides (bytes_eq p.0 q.0 && bytes_eq p.1 q.1) (p ≡ q)
pair_decides p q =
    let d = and_decides (bytes_eq p.0 q.0) (bytes_eq p.1 q.1) (p.0 ≡ q.0) (p.1 ≡ q.1) (bytes_eq-Decides p.0 q.0) (bytes_eq-Decides p.1 q.1) in
    (λ e. let both = d.0 e in λ i. (both.0 i, both.1 i), λ e. d.1 (ap (λ z. z.0) e, ap (λ z. z.1) e))

-- `==` of labels tells whether they are equal
pub labels_decide : (ps qs : List (List ℕ × List ℕ)) (r : Bool) → r ≡ pointwise (λ p q. bytes_eq p.0 q.0 && bytes_eq p.1 q.1) ps qs → Decides r (ps ≡ qs)
labels_decide ps qs r e = slice_eq-Decides pair_decides ps qs r e

-- `==` of labels
abbrev pub labels_eq : List (List ℕ × List ℕ) → List (List ℕ × List ℕ) → Bool
labels_eq = pointwise (λ p q. bytes_eq p.0 q.0 && bytes_eq p.1 q.1)

-- the writes of a hash
abbrev pub labels_hash : List (List ℕ × List ℕ) → List (List ℕ)
labels_hash ps = fed.slice (λ p. fed.str p.0 ++ fed.str p.1) ps

pub labels_hash_alike : (ps qs : List (List ℕ × List ℕ)) → pointwise (λ p q. bytes_eq p.0 q.0 && bytes_eq p.1 q.1) ps qs ≡ true → labels_hash ps ≡ labels_hash qs
labels_hash_alike ps qs e = ap labels_hash ((labels_decide ps qs _ refl).0 e)
