-- Where a pattern is among the kept ones.
use Rattle.std.proofs.Common.{◌≡◌, ℕ, ◌<◌, ◌≤◌, ◌+◌, suc, zero, length-append, Bool, true, false, not, cond, List, [], ◌∷◌, ◌++◌, length, Option, None, Some, slice_get, refl, subst, sym, ap, arith, ◌&&◌, bytes_eq}
use Rattle.std.specs.Prelude.{nat_lt, unwrap_or}
use Rattle.std.specs.List.{position}
use Rattle.std.proofs.lemmas.Bool.Decides.{nat_tests}
use Rattle.std.proofs.lemmas.Slice.Eq.{bytes_eq-Decides}
use Rattle.match_rule.specs.Patterns.{MayBeKept, is_pattern, is_readable, number_of}

pub number_at_most : (q : Bool × List ℕ) (ps : List (Bool × List ℕ)) → number_of q ps ≤ length ps
number_at_most q [] = omega arith
number_at_most q (p ∷ ps) = let h = number_at_most q ps in elim (is_pattern q p) as (λ b. cond (not b) (1 + number_of q ps) 0 ≤ suc (length ps)) [ true ↦ omega arith | false ↦ omega arith ]

or_length : (n l : ℕ) → n ≤ l → unwrap_or (cond (nat_lt n l) (Some n) None) l ≡ n
or_length n l h = by (nat_lt n l) refl
  where
    by : (b : Bool) → nat_lt n l ≡ b → unwrap_or (cond b (Some n) None) l ≡ n
    by true e = refl
    by false e = grind (arith, nat_tests)

-- the place that a search finds, or how many there are
pub number_by_position : (q : Bool × List ℕ) (ps : List (Bool × List ℕ)) → unwrap_or (position (is_pattern q) ps) (length ps) ≡ number_of q ps
number_by_position q ps = or_length (number_of q ps) (length ps) (number_at_most q ps)

same_flag : (a b : Bool) → cond a b (not b) ≡ true → b ≡ a
same_flag true b e = e
same_flag false true e = sym e
same_flag false false e = refl

both_true : (a b : Bool) → (a && b) ≡ true → (a ≡ true) × (b ≡ true)
both_true true b e = (refl, e)
both_true false b e = absurd (cc)

-- what passes the test is the pattern
pub is_pattern_same : (q p : Bool × List ℕ) → is_pattern q p ≡ true → p ≡ q
is_pattern_same q p e =
    let b = both_true (cond q.0 p.0 (not p.0)) (bytes_eq q.1 p.1) e in
    let flag : p.0 ≡ q.0 = same_flag q.0 p.0 b.0 in
    let text : q.1 ≡ p.1 = (bytes_eq-Decides q.1 p.1).0 b.1 in
    λ k. (flag k, sym text k)

pub number_there : (q : Bool × List ℕ) (ps : List (Bool × List ℕ)) → number_of q ps < length ps → slice_get ps (number_of q ps) ≡ Some q
number_there q [] w = absurd (omega arith)
number_there q (p ∷ ps) w = go (is_pattern q p) refl (number_there q ps) w
  where
    go : (b : Bool) → is_pattern q p ≡ b → (number_of q ps < length ps → slice_get ps (number_of q ps) ≡ Some q) → cond (not b) (1 + number_of q ps) 0 < suc (length ps) → slice_get (p ∷ ps) (cond (not b) (1 + number_of q ps) 0) ≡ Some q
    go true e rest w = ap Some (is_pattern_same q p e)
    go false e rest w = let one : 1 + number_of q ps ≡ suc (number_of q ps) = omega arith in rw one (rest (omega arith))

own_flag : (a : Bool) → cond a a (not a) ≡ true
own_flag true = refl
own_flag false = refl

own_pattern : (q : Bool × List ℕ) → is_pattern q q ≡ true
own_pattern q = rw (own_flag q.0) ((bytes_eq-Decides q.1 q.1).1 refl)

-- where no place is found, no number is the pattern's
pub absent : (q : Bool × List ℕ) (ps : List (Bool × List ℕ)) → length ps ≤ number_of q ps → (k : ℕ) → slice_get ps k ≡ Some q → ⊥
absent q [] w k e = absurd (cc)
absent q (p ∷ ps) w zero e =
    let own : is_pattern q p ≡ true = subst (λ (o : Option (Bool × List ℕ)). is_pattern_in o ≡ true) (sym e) (own_pattern q) in
    let none : suc (length ps) ≤ 0 = subst (λ b. suc (length ps) ≤ cond (not b) (1 + number_of q ps) 0) own w in
    absurd (omega arith)
  where
    is_pattern_in : Option (Bool × List ℕ) → Bool
    is_pattern_in None = true
    is_pattern_in (Some p) = is_pattern q p
absent q (p ∷ ps) w (suc k) e = go (is_pattern q p) w (λ v. absent q ps v k e)
  where
    go : (b : Bool) → suc (length ps) ≤ cond (not b) (1 + number_of q ps) 0 → (length ps ≤ number_of q ps → ⊥) → ⊥
    go true w rest = absurd (omega arith)
    go false w rest = rest (omega arith)

-- the last of the kept ones
pub last_kept : (ps : List (Bool × List ℕ)) (q : Bool × List ℕ) → slice_get (ps ++ q ∷ []) (length ps) ≡ Some q
last_kept [] q = refl
last_kept (p ∷ ps) q = last_kept ps q

pub last_within : (ps : List (Bool × List ℕ)) (q : Bool × List ℕ) → length ps < length (ps ++ q ∷ [])
last_within ps q = let f = length-append ps (q ∷ []) in omega arith

pub earlier_kept : (ps : List (Bool × List ℕ)) (q : Bool × List ℕ) (i : ℕ) → i < length ps → slice_get (ps ++ q ∷ []) i ≡ slice_get ps i
earlier_kept [] q i w = absurd (omega arith)
earlier_kept (p ∷ ps) q zero w = refl
earlier_kept (p ∷ ps) q (suc i) w = earlier_kept ps q i (omega arith)

abbrev AreReadable : List (Bool × List ℕ) → Type 0
AreReadable ps = (k : ℕ) (p : Bool × List ℕ) → slice_get ps k ≡ Some p → is_readable p.0 p.1 ≡ true

one_more_readable : (ps : List (Bool × List ℕ)) (q : Bool × List ℕ) → AreReadable ps → is_readable q.0 q.1 ≡ true → AreReadable (ps ++ q ∷ [])
one_more_readable [] q all one zero p e = subst (λ (o : Option (Bool × List ℕ)). is_readable_in o ≡ true) e one
  where
    is_readable_in : Option (Bool × List ℕ) → Bool
    is_readable_in None = true
    is_readable_in (Some p) = is_readable p.0 p.1
one_more_readable [] q all one (suc k) p e = absurd (cc)
one_more_readable (x ∷ ps) q all one zero p e = all zero p e
one_more_readable (x ∷ ps) q all one (suc k) p e = one_more_readable ps q (λ n. all (suc n)) one k p e

-- one more may be kept
pub one_more : (ps : List (Bool × List ℕ)) (q : Bool × List ℕ) → MayBeKept ps → length ps < 32 → is_readable q.0 q.1 ≡ true → MayBeKept (ps ++ q ∷ [])
one_more ps q h few one = record {
  few = let f = length-append ps (q ∷ []) in omega (arith, few, f);
  readable = one_more_readable ps q h.readable one;
}
