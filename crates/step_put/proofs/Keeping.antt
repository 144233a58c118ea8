-- Labels that are kept while they are fed again, and their places.
use Rattle.std.proofs.Common.{◌≡◌, ◌∙◌, ◌+◌, ◌<◌, ◌≤◌, ℕ, zero, suc, arith, List, [], ◌∷◌, ◌++◌, length, get_or, slice_get, take, drop, map, refl, sym, ap, subst, Some}
use Rattle.std.proofs.Math.ListN.{set}
use Rattle.step_table.specs.Groups.{Names}
use Rattle.step_put.specs.Puts.{AreAt}
use Rattle.std.proofs.lemmas.List.{map-append}
use Rattle.step_put.proofs.Putting.{at_kept, at_more, take_more}

-- the first so many
pub at_take : (f : Names → Names) (labels fed : List Names) (places : List ℕ) (n : ℕ) → AreAt labels (map f fed) places → AreAt labels (map f (take n fed)) (take n places)
at_take f labels [] [] zero a = tt
at_take f labels [] [] (suc n) a = tt
at_take f labels [] (p ∷ places) n a = absurd a
at_take f labels (m ∷ fed) [] n a = absurd a
at_take f labels (m ∷ fed) (p ∷ places) zero a = tt
at_take f labels (m ∷ fed) (p ∷ places) (suc n) a = (a.0, at_take f labels fed places n a.1)

-- other labels at one place, or more of them
pub at_set : (f : Names → Names) (labels fed : List Names) (places : List ℕ) (i p : ℕ) (one : Names) → AreAt labels (map f fed) places → slice_get labels p ≡ Some (f one)
    → AreAt labels (map f (take i fed ++ one ∷ drop (i + 1) fed)) (take i places ++ p ∷ drop (i + 1) places)
at_set f labels [] [] zero p one a h = (h, tt)
at_set f labels [] [] (suc i) p one a h = let e : suc i + 1 ≡ suc (i + 1) = omega arith in rw e (h, tt)
at_set f labels [] (q ∷ places) i p one a h = absurd a
at_set f labels (m ∷ fed) [] i p one a h = absurd a
at_set f labels (m ∷ fed) (q ∷ places) zero p one a h = (h, a.1)
at_set f labels (m ∷ fed) (q ∷ places) (suc i) p one a h = let e : suc i + 1 ≡ suc (i + 1) = omega arith in rw e (a.0, at_set f labels fed places i p one a.1 h)

pub at_count : (f : Names → Names) (labels fed : List Names) (places : List ℕ) → AreAt labels (map f fed) places → length places ≡ length fed
at_count f labels [] [] a = refl
at_count f labels [] (p ∷ places) a = absurd a
at_count f labels (m ∷ fed) [] a = absurd a
at_count f labels (m ∷ fed) (p ∷ places) a = ap suc (at_count f labels fed places a.1)

-- what was fed up to a place is taken, and from there on what was fed before is kept
abbrev pub mixed : {A : Type 0} → ℕ → List A → List A → List A
mixed i all before = take i all ++ drop i before

drop_none : {A : Type 0} (n : ℕ) → drop {A = A} n [] ≡ []
drop_none zero = refl
drop_none (suc n) = refl

drop_more : {A : Type 0} (n : ℕ) (xs : List A) → drop (suc n) xs ≡ drop n (drop 1 xs)
drop_more n [] = sym (drop_none n)
drop_more n (x ∷ xs) = refl

mixed_more : {A : Type 0} (i : ℕ) (a : A) (all before : List A) → mixed (suc i) (a ∷ all) before ≡ a ∷ mixed i all (drop 1 before)
mixed_more {A} i a all before = ap (λ (z : List A). a ∷ (take i all ++ z)) (drop_more i before)

pub mixed_next : {A : Type 0} (all before now : List A) (i : ℕ) (one : A) → i < length all → one ≡ get_or all i one → now ≡ take i (mixed i all before) ++ one ∷ drop (i + 1) (mixed i all before) → now ≡ mixed (i + 1) all before
mixed_next [] before now i one l o e = absurd (omega arith)
mixed_next {A} (a ∷ all) before now zero one l o e = e ∙ ap (λ (z : A). z ∷ drop 1 before) o
mixed_next {A} (a ∷ all) before now (suc i) one l o e =
    let n : suc i + 1 ≡ suc (i + 1) = omega arith in
    let here : take (suc i) (mixed (suc i) (a ∷ all) before) ++ one ∷ drop (suc (i + 1)) (mixed (suc i) (a ∷ all) before) ≡ a ∷ (take i (mixed i all (drop 1 before)) ++ one ∷ drop (i + 1) (mixed i all (drop 1 before))) =
    ap (λ (z : List A). take (suc i) z ++ one ∷ drop (suc (i + 1)) z) (mixed_more i a all before) in
    let next : take i (mixed i all (drop 1 before)) ++ one ∷ drop (i + 1) (mixed i all (drop 1 before)) ≡ mixed (i + 1) all (drop 1 before) = mixed_next all (drop 1 before) _ i one (omega arith) o refl in
    e ∙ rw n (here ∙ ap (λ (z : List A). a ∷ z) next ∙ sym (mixed_more (i + 1) a all before))

pub mixed_reaches : {A : Type 0} (all before : List A) (i : ℕ) → i < length all → i ≤ length (mixed i all before)
mixed_reaches [] before i l = absurd (omega arith)
mixed_reaches (a ∷ all) before zero l = omega arith
mixed_reaches (a ∷ all) before (suc i) l =
    let h : i ≤ length (mixed i all (drop 1 before)) = mixed_reaches all (drop 1 before) i (omega arith) in
    let e = ap length (mixed_more i a all before) in
    omega (arith, h, e)

rest_shorter : {A : Type 0} (xs : List A) (n : ℕ) → length xs ≤ suc n → length (drop 1 xs) ≤ n
rest_shorter [] n l = omega arith
rest_shorter (x ∷ xs) n l = omega arith

pub mixed_whole : {A : Type 0} (all before : List A) (n : ℕ) → n ≡ length all → length before ≤ length all → mixed n all before ≡ all
mixed_whole [] [] zero e l = refl
mixed_whole [] [] (suc n) e l = refl
mixed_whole [] (b ∷ before) n e l = absurd (omega arith)
mixed_whole (a ∷ all) before zero e l = absurd (omega arith)
mixed_whole {A} (a ∷ all) before (suc n) e l = mixed_more n a all before ∙ ap (λ (r : List A). a ∷ r) (mixed_whole all (drop 1 before) n (omega arith) (rest_shorter before (length all) l))

-- what stands at a place that is there
pub split_here : {A : Type 0} (xs : List A) (i : ℕ) (x : A) → slice_get xs i ≡ Some x → xs ≡ take i xs ++ x ∷ drop (i + 1) xs
split_here [] i x e = absurd (cc)
split_here {A} (y ∷ xs) zero x e = let same : y ≡ x = cc in ap (λ (z : A). z ∷ xs) same
split_here {A} (y ∷ xs) (suc i) x e = let n : suc i + 1 ≡ suc (i + 1) = omega arith in rw n (ap (λ (r : List A). y ∷ r) (split_here xs i x e))

-- the place of what is left of other labels
pub at_renewed : (f : Names → Names) (labels now fed fed' : List Names) (places places' : List ℕ) (i p : ℕ) (one : Names) → ((j : ℕ) (n : Names) → slice_get labels j ≡ Some n → slice_get now j ≡ Some n)
    → fed' ≡ take i fed ++ one ∷ drop (i + 1) fed → places' ≡ take i places ++ p ∷ drop (i + 1) places → AreAt labels (map f fed) places → slice_get now p ≡ Some (f one) → AreAt now (map f fed') places'
at_renewed f labels now fed fed' places places' i p one k g h a e =
    subst (λ (z : List Names). AreAt now (map f z) places') (sym g)
    (subst (AreAt now (map f (take i fed ++ one ∷ drop (i + 1) fed))) (sym h) (at_set f now fed places i p one (at_kept labels now (map f fed) places k a) e))

-- what is kept, cut off
pub at_cut : (f : Names → Names) (labels now fed fed' : List Names) (places places' : List ℕ) (n : ℕ) → now ≡ labels → fed' ≡ take n fed → places' ≡ take n places → AreAt labels (map f fed) places → AreAt now (map f fed') places'
at_cut f labels now fed fed' places places' n e g h a =
    subst (λ (z : List Names). AreAt z (map f fed') places') (sym e)
    (subst (λ (z : List Names). AreAt labels (map f z) places') (sym g) (subst (AreAt labels (map f (take n fed))) (sym h) (at_take f labels fed places n a)))

-- one that is put in the place of another
pub set_here : {A : Type 0} (xs : List A) (i : ℕ) (x : A) → i < length xs → set xs i x ≡ take i xs ++ x ∷ drop (i + 1) xs
set_here [] i x l = absurd (omega arith)
set_here (y ∷ xs) zero x l = refl
set_here {A} (y ∷ xs) (suc i) x l = let n : suc i + 1 ≡ suc (i + 1) = omega arith in rw n (ap (λ (r : List A). y ∷ r) (set_here xs i x (omega arith)))

-- one that is put behind the others
pub push_here : {A : Type 0} (xs : List A) (i : ℕ) (x : A) → i ≡ length xs → xs ++ x ∷ [] ≡ take i xs ++ x ∷ drop (i + 1) xs
push_here [] zero x e = refl
push_here [] (suc i) x e = absurd (omega arith)
push_here (y ∷ xs) zero x e = absurd (omega arith)
push_here {A} (y ∷ xs) (suc i) x e = let n : suc i + 1 ≡ suc (i + 1) = omega arith in rw n (ap (λ (r : List A). y ∷ r) (push_here xs i x (omega arith)))

-- the place of what is left of one more
pub at_one_more : (f : Names → Names) (labels now fed : List Names) (places : List ℕ) (i p : ℕ) (one : Names) → i < length fed → one ≡ get_or fed i one → ((j : ℕ) (n : Names) → slice_get labels j ≡ Some n → slice_get now j ≡ Some n)
    → AreAt labels (map f (take i fed)) places → slice_get now p ≡ Some (f one) → AreAt now (map f (take (i + 1) fed)) (places ++ p ∷ [])
at_one_more f labels now fed places i p one l o k a h =
    let e : map f (take (i + 1) fed) ≡ map f (take i fed) ++ f one ∷ [] = ap (map f) (take_more fed i one l ∙ ap (λ (z : Names). take i fed ++ z ∷ []) (sym o)) ∙ map-append f (take i fed) (one ∷ []) in
    subst (λ (z : List Names). AreAt now z (places ++ p ∷ [])) (sym e) (at_more now (map f (take i fed)) places p (f one) (at_kept labels now (map f (take i fed)) places k a) h)
