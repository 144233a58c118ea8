-- The front of a list that passes a test, and what stands behind it.
use Rattle.std.proofs.Common.{◌≡◌, ◌+◌, Bool, true, false, not, cond, List, [], ◌∷◌, ◌++◌, length, take, drop, refl, ap, ◌∙◌, arith}
use Rattle.std.proofs.Math.Seq.{take-append_seam, drop-append_seam}
use Rattle.std.specs.Prelude.{◌&&◌, take_while}
use Rattle.std.specs.List.{list_all, prefix_len}
use Rattle.std.proofs.lemmas.Bool.{not-true}
use Rattle.script_read.proofs.Names.{and_left, and_right}

pub and_both : (a b : Bool) → a ≡ true → b ≡ true → (a && b) ≡ true
and_both true b h k = k
and_both false b h k = absurd (cc)

module _ {X : Type 0} (p : X → Bool) where
  -- the list is empty, or its first element doesn't pass
  abbrev pub stops : List X → Bool
  stops [] = true
  stops (x ∷ xs) = not (p x)

  pub front_len : (front back : List X) → list_all p front ≡ true → stops back ≡ true → prefix_len p (front ++ back) ≡ length front
  front_len [] [] h s = refl
  front_len [] (x ∷ back) h s = ap (λ b. cond b (1 + prefix_len p back) 0) (not-true (p x) s)
  front_len (x ∷ front) back h s =
      let more = front_len front back (and_right (p x) (list_all p front) h) s in
      ap (λ b. cond b (1 + prefix_len p (front ++ back)) 0) (and_left (p x) (list_all p front) h) ∙ omega (arith, more)

  pub front_taken : (front back : List X) → list_all p front ≡ true → stops back ≡ true → take_while p (front ++ back) ≡ front
  front_taken front back h s = ap (λ n. take n (front ++ back)) (front_len front back h s) ∙ take-append_seam front back

  pub front_dropped : (front back : List X) → list_all p front ≡ true → stops back ≡ true → drop (prefix_len p (front ++ back)) (front ++ back) ≡ back
  front_dropped front back h s = ap (λ n. drop n (front ++ back)) (front_len front back h s) ∙ drop-append_seam front back

  -- a list as its front and what stands behind it
  pub record Parts (xs : List X) : Type 0 where
    pub front : List X
    pub back : List X
    pub joined : xs ≡ front ++ back
    pub passes : list_all p front ≡ true
    pub ends : stops back ≡ true

  pub parts_of : (xs : List X) → Parts xs
  parts_of [] = record { front = []; back = []; joined = refl; passes = refl; ends = refl }
  parts_of (x ∷ xs) = by (parts_of xs) (p x) refl
    where
      by : Parts xs → (b : Bool) → p x ≡ b → Parts (x ∷ xs)
      by more true e = record { front = x ∷ more.front; back = more.back; joined = ap (λ l. x ∷ l) more.joined; passes = and_both (p x) (list_all p more.front) e more.passes; ends = more.ends }
      by more false e = record { front = []; back = x ∷ xs; joined = refl; passes = refl; ends = ap not e }
