-- A list that is sorted, with items that tie in their old order, is the one that insertion makes. (This project's own.)
use Rattle.std.proofs.Common.{◌≡◌, ◌∙◌, ℕ, suc, ◌+◌, Bool, true, false, cond, List, [], ◌∷◌, ◌++◌, map, get_or, refl, sym, ap, subst, arith, append_assoc, append-nil}
use Rattle.std.specs.Prelude.{◌&&◌, not, filter, fold, ⊤}
use Rattle.std.specs.Cmp.{IsStrictWeakOrder}
use Rattle.std.specs.List.{AllByRecursion}
use Rattle.std.specs.List.Sorted.{IsSortedBy, IsStableBy, ties}
use Rattle.label_set.specs.Entries.{recursion_map}
use Rattle.window_fn.specs.Aggregates.{inserted}

-- none is below the one before it
abbrev pub Rises : {X : Type 0} → (X → X → Bool) → List X → Type 0
Rises lt [] = ⊤
Rises lt (x ∷ []) = ⊤
Rises lt (x ∷ y ∷ ys) = (lt y x ≡ false) × Rises lt (y ∷ ys)

pub rises_from : {X : Type 0} (lt : X → X → Bool) (xs : List X) → IsSortedBy lt xs → Rises lt xs
rises_from lt [] up = tt
rises_from lt (x ∷ []) up = tt
rises_from {X = X} lt (x ∷ y ∷ ys) up = (
  up 0 x (omega arith) (omega arith),
  rises_from lt (y ∷ ys) (λ k d low high. next k d (up (suc k) d (omega arith) (omega arith))),
)
  where
    next : (k : ℕ) (d : X) → lt (get_or (x ∷ y ∷ ys) (suc k + 1) d) (get_or (x ∷ y ∷ ys) (suc k) d) ≡ false → lt (get_or (y ∷ ys) (k + 1) d) (get_or (y ∷ ys) k d) ≡ false
    next k d h = let behind : suc k + 1 ≡ suc (k + 1) = omega arith in subst (λ n. lt (get_or (x ∷ y ∷ ys) n d) (get_or (y ∷ ys) k d) ≡ false) behind h

both_false : (a b : Bool) → a ≡ false → b ≡ false → (not a && not b) ≡ true
both_false true b p q = absurd (cc)
both_false false true p q = absurd (cc)
both_false false false p q = refl

tied_left : (a b : Bool) → (not a && not b) ≡ true → a ≡ false
tied_left true b h = absurd (cc)
tied_left false b h = refl

tied_right : (a b : Bool) → (not a && not b) ≡ true → b ≡ false
tied_right true b h = absurd (cc)
tied_right false true h = absurd (cc)
tied_right false false h = refl

module _ {X : Type 0} (lt : X → X → Bool) (o : IsStrictWeakOrder lt) where
  never_itself : (x : X) → lt x x ≡ false
  never_itself x = by (lt x x) refl
    where
      by : (b : Bool) → lt x x ≡ b → lt x x ≡ false
      by true h = o.one_way x x h
      by false h = h

  ties_itself : (x : X) → ties lt x x ≡ true
  ties_itself x = both_false (lt x x) (lt x x) (never_itself x) (never_itself x)

  pub rises_tail : (x : X) (xs : List X) → Rises lt (x ∷ xs) → Rises lt xs
  rises_tail x [] up = tt
  rises_tail x (y ∷ ys) up = up.1

  -- none of a sorted list is below its first
  pub all_above : (x : X) (xs : List X) → Rises lt (x ∷ xs) → AllByRecursion (λ y. lt y x ≡ false) xs
  all_above x [] up = tt
  all_above x (y ∷ ys) up = (up.0, recursion_map (λ z. lt z y ≡ false) (λ z. lt z x ≡ false) (λ z h. o.chain z y x h up.0) ys (all_above y ys up.1))

  -- what is below one that none of a list is below ties with none of the list
  none_tie : (y z : X) → lt y z ≡ true → (ws : List X) → AllByRecursion (λ w. lt w z ≡ false) ws → filter (ties lt y) ws ≡ []
  none_tie y z l [] a = refl
  none_tie y z l (w ∷ ws) a = ap (λ b. cond b (w ∷ filter (ties lt y) ws) (filter (ties lt y) ws)) (by (ties lt y w) refl) ∙ none_tie y z l ws a.1
    where
      by : (b : Bool) → ties lt y w ≡ b → ties lt y w ≡ false
      by true h = let no : lt y z ≡ false = o.chain y w z (tied_left (lt y w) (lt w y) h) a.0 in absurd (cc)
      by false h = h

  kept : (x y : X) (ys : List X) → ties lt x y ≡ true → filter (ties lt x) (y ∷ ys) ≡ y ∷ filter (ties lt x) ys
  kept x y ys e = ap (λ b. cond b (y ∷ filter (ties lt x) ys) (filter (ties lt x) ys)) e

  left_out : (x y : X) (ys : List X) → ties lt x y ≡ false → filter (ties lt x) (y ∷ ys) ≡ filter (ties lt x) ys
  left_out x y ys e = ap (λ b. cond b (y ∷ filter (ties lt x) ys) (filter (ties lt x) ys)) e

  -- two sorted lists in which the same items tie with each are one
  pub same_sorted : (ys zs : List X) → Rises lt ys → Rises lt zs → ((x : X) → filter (ties lt x) ys ≡ filter (ties lt x) zs) → ys ≡ zs
  same_sorted [] [] up high f = refl
  same_sorted [] (z ∷ zs) up high f = let e : [] ≡ z ∷ filter (ties lt z) zs = f z ∙ kept z z zs (ties_itself z) in absurd (cc)
  same_sorted (y ∷ ys) [] up high f = let e : y ∷ filter (ties lt y) ys ≡ [] = sym (kept y y ys (ties_itself y)) ∙ f y in absurd (cc)
  same_sorted (y ∷ ys) (z ∷ zs) up high f = by (λ g. same_sorted ys zs (rises_tail y ys up) (rises_tail z zs high) g) (lt y z) (lt z y) refl refl
    where
      tails : y ≡ z → (x : X) → (b : Bool) → ties lt x y ≡ b → filter (ties lt x) ys ≡ filter (ties lt x) zs
      tails same x true h =
          let e : y ∷ filter (ties lt x) ys ≡ z ∷ filter (ties lt x) zs = sym (kept x y ys h) ∙ f x ∙ kept x z zs (ap (ties lt x) (sym same) ∙ h) in cc
      tails same x false h = sym (left_out x y ys h) ∙ f x ∙ left_out x z zs (ap (ties lt x) (sym same) ∙ h)

      by : (((x : X) → filter (ties lt x) ys ≡ filter (ties lt x) zs) → ys ≡ zs) → (a b : Bool) → lt y z ≡ a → lt z y ≡ b → y ∷ ys ≡ z ∷ zs
      by later true b p q =
          let e : y ∷ filter (ties lt y) ys ≡ [] = sym (kept y y ys (ties_itself y)) ∙ f y ∙ none_tie y z p (z ∷ zs) (never_itself z, all_above z zs high) in absurd (cc)
      by later false true p q =
          let e : [] ≡ z ∷ filter (ties lt z) zs = sym (none_tie z y q (y ∷ ys) (never_itself y, all_above y ys up)) ∙ f z ∙ kept z z zs (ties_itself z) in absurd (cc)
      by later false false p q =
          let e : y ∷ filter (ties lt y) ys ≡ z ∷ filter (ties lt y) zs = sym (kept y y ys (ties_itself y)) ∙ f y ∙ kept y z zs (both_false (lt y z) (lt z y) p q) in
          let same : y ≡ z = cc in
          let rest = later (λ x. tails same x (ties lt x y) refl) in
          ap (λ w. w ∷ ys) same ∙ ap (λ ws. z ∷ ws) rest

  -- ---- insertion

  here : (x y : X) (ys : List X) → lt x y ≡ true → inserted lt (y ∷ ys) x ≡ x ∷ y ∷ ys
  here x y ys e = ap (λ b. cond b (x ∷ y ∷ ys) (y ∷ inserted lt ys x)) e

  later : (x y : X) (ys : List X) → lt x y ≡ false → inserted lt (y ∷ ys) x ≡ y ∷ inserted lt ys x
  later x y ys e = ap (λ b. cond b (x ∷ y ∷ ys) (y ∷ inserted lt ys x)) e

  rises_inserted : (zs : List X) (x : X) → Rises lt zs → Rises lt (inserted lt zs x)
  rises_inserted [] x up = tt
  rises_inserted (z ∷ zs) x up =
      elim (lt x z) as (λ b. lt x z ≡ b → Rises lt (cond b (x ∷ z ∷ zs) (z ∷ inserted lt zs x))) [
        | true ↦ λ h. (o.one_way x z h, up)
        | false ↦ λ h. behind zs up (rises_inserted zs x (rises_tail z zs up)) h
      ] refl
    where
      behind : (zs : List X) → Rises lt (z ∷ zs) → Rises lt (inserted lt zs x) → lt x z ≡ false → Rises lt (z ∷ inserted lt zs x)
      behind [] up rest h = (h, tt)
      behind (w ∷ ws) up rest h =
          elim (lt x w) as (λ b. Rises lt (cond b (x ∷ w ∷ ws) (w ∷ inserted lt ws x)) → Rises lt (z ∷ cond b (x ∷ w ∷ ws) (w ∷ inserted lt ws x))) [
            | true ↦ λ r. (h, r)
            | false ↦ λ r. (up.0, r)
          ] rest

  one_of : X → X → List X
  one_of x y = cond (ties lt x y) (y ∷ []) []

  stable_inserted : (x : X) (zs : List X) (y : X) → Rises lt zs → filter (ties lt x) (inserted lt zs y) ≡ filter (ties lt x) zs ++ cond (ties lt x y) (y ∷ []) []
  stable_inserted x [] y up = refl
  stable_inserted x (z ∷ zs) y up = by (stable_inserted x zs y (rises_tail z zs up)) (lt y z) refl
    where
      first : (b : Bool) → ties lt x y ≡ b → lt y z ≡ true → filter (ties lt x) (y ∷ z ∷ zs) ≡ filter (ties lt x) (z ∷ zs) ++ cond (ties lt x y) (y ∷ []) []
      first false t h = left_out x y (z ∷ zs) t ∙ sym (append-nil (filter (ties lt x) (z ∷ zs))) ∙ ap (λ b. filter (ties lt x) (z ∷ zs) ++ cond b (y ∷ []) []) (sym t)
      first true t h =
          let below : lt x z ≡ true = under (lt x z) refl in
          let none = none_tie x z below (z ∷ zs) (never_itself z, all_above z zs up) in
          kept x y (z ∷ zs) t ∙ ap (λ ws. y ∷ ws) none ∙ ap (λ b. cond b (y ∷ []) []) (sym t) ∙ ap (λ ws. ws ++ cond (ties lt x y) (y ∷ []) []) (sym none)
        where
          under : (b : Bool) → lt x z ≡ b → lt x z ≡ true
          under true e = e
          under false e = let no : lt y z ≡ false = o.chain y x z (tied_right (lt x y) (lt y x) t) e in absurd (cc)

      by : filter (ties lt x) (inserted lt zs y) ≡ filter (ties lt x) zs ++ cond (ties lt x y) (y ∷ []) [] → (b : Bool) → lt y z ≡ b
          → filter (ties lt x) (inserted lt (z ∷ zs) y) ≡ filter (ties lt x) (z ∷ zs) ++ cond (ties lt x y) (y ∷ []) []
      by rest true h = ap (filter (ties lt x)) (here y z zs h) ∙ first (ties lt x y) refl h
      by rest false h =
          ap (filter (ties lt x)) (later y z zs h)
          ∙ elim (ties lt x z) as (λ b. cond b (z ∷ filter (ties lt x) (inserted lt zs y)) (filter (ties lt x) (inserted lt zs y)) ≡ cond b (z ∷ filter (ties lt x) zs) (filter (ties lt x) zs) ++ cond (ties lt x y) (y ∷ []) []) [
            | true ↦ ap (λ ws. z ∷ ws) rest
            | false ↦ rest
          ]

  rises_folded : (zs xs : List X) → Rises lt zs → Rises lt (fold (inserted lt) zs xs)
  rises_folded zs [] up = up
  rises_folded zs (x ∷ xs) up = rises_folded (inserted lt zs x) xs (rises_inserted zs x up)

  stable_folded : (x : X) (zs xs : List X) → Rises lt zs → filter (ties lt x) (fold (inserted lt) zs xs) ≡ filter (ties lt x) zs ++ filter (ties lt x) xs
  stable_folded x zs [] up = sym (append-nil (filter (ties lt x) zs))
  stable_folded x zs (y ∷ xs) up =
      stable_folded x (inserted lt zs y) xs (rises_inserted zs y up)
      ∙ ap (λ ws. ws ++ filter (ties lt x) xs) (stable_inserted x zs y up)
      ∙ append_assoc (filter (ties lt x) zs) (cond (ties lt x y) (y ∷ []) []) (filter (ties lt x) xs)
      ∙ ap (λ ws. filter (ties lt x) zs ++ ws) (elim (ties lt x y) as (λ b. cond b (y ∷ []) [] ++ filter (ties lt x) xs ≡ cond b (y ∷ filter (ties lt x) xs) (filter (ties lt x) xs)) [ true ↦ refl | false ↦ refl ])

  pub sorted_is : (xs ys : List X) → IsSortedBy lt ys → IsStableBy lt xs ys → ys ≡ fold (inserted lt) [] xs
  sorted_is xs ys sorted stable =
      same_sorted ys (fold (inserted lt) [] xs) (rises_from lt ys sorted) (rises_folded [] xs tt) (λ x. stable x ∙ sym (stable_folded x [] xs tt))

-- ---- insertion by an order of what a function gives

module _ {X Y : Type 0} (f : X → Y) (lt : X → X → Bool) (below : Y → Y → Bool) (P : X → Type 0) (agree : (a b : X) → P a → P b → lt a b ≡ below (f a) (f b)) where
  all_inserted : (zs : List X) (x : X) → AllByRecursion P zs → P x → AllByRecursion P (inserted lt zs x)
  all_inserted [] x all p = (p, tt)
  all_inserted (z ∷ zs) x all p =
      elim (lt x z) as (λ b. AllByRecursion P (cond b (x ∷ z ∷ zs) (z ∷ inserted lt zs x))) [
        | true ↦ (p, all)
        | false ↦ (all.0, all_inserted zs x all.1 p)
      ]

  map_inserted : (zs : List X) (x : X) → AllByRecursion P zs → P x → map f (inserted lt zs x) ≡ inserted below (map f zs) (f x)
  map_inserted [] x all p = refl
  map_inserted (z ∷ zs) x all p =
      let rest = map_inserted zs x all.1 p in
      ap (λ b. map f (cond b (x ∷ z ∷ zs) (z ∷ inserted lt zs x))) (agree x z p all.0)
      ∙ elim (below (f x) (f z)) as (λ b. map f (cond b (x ∷ z ∷ zs) (z ∷ inserted lt zs x)) ≡ cond b (f x ∷ f z ∷ map f zs) (f z ∷ inserted below (map f zs) (f x))) [
        | true ↦ refl
        | false ↦ ap (λ ws. f z ∷ ws) rest
      ]

  pub map_folded : (zs xs : List X) → AllByRecursion P zs → AllByRecursion P xs → map f (fold (inserted lt) zs xs) ≡ fold (inserted below) (map f zs) (map f xs)
  map_folded zs [] all more = refl
  map_folded zs (x ∷ xs) all more =
      map_folded (inserted lt zs x) xs (all_inserted zs x all more.0) more.1 ∙ ap (λ ws. fold (inserted below) ws (map f xs)) (map_inserted zs x all more.0)
