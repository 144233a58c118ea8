-- Labels that are kept while they are fed again, and what was made of them.
use Rattle.std.proofs.Common.{◌≡◌, ◌∙◌, ◌+◌, ◌<◌, ◌≤◌, ℕ, zero, suc, arith, Bool, true, List, [], ◌∷◌, ◌++◌, length, get_or, slice_get, take, drop, map, refl, sym, ap, Option, Some, None}
use Rattle.std.specs.Prelude.{unwrap_or}
use Rattle.std.specs.Option.{option_map}
use Rattle.std.proofs.Math.ListN.{set}
use Rattle.label_set.specs.declared.rules.Relabel.{Relabel}
use Rattle.match_rule.specs.Patterns.{IsWholeId}
use Rattle.step_table.specs.Groups.{Names}
use Rattle.op_labels.specs.Rules.{AreMade, Kept, fate_by, labels_by, text_at}
use Rattle.op_labels.specs.declared.change.Fate.{Fate}

-- ---- patterns

-- a pattern for whole values has its text
pub text_there : (kept : Kept) (id : ℕ) → IsWholeId kept id → slice_get kept id ≡ Some (true, text_at kept id)
text_there kept id w = by (slice_get kept id) w
  where
    by : (o : Option (Bool × List ℕ)) → option_map (λ (p : Bool × List ℕ). p.0) o ≡ Some true → o ≡ Some (true, unwrap_or (option_map (λ (p : Bool × List ℕ). p.1) o) [])
    by None e = absurd (cc)
    by (Some p) e = let h : p.0 ≡ true = cc in ap (λ (b : Bool). Some (b, p.1)) h

-- ---- what was made of labels

mapped_take : {A B : Type 0} (f : A → B) (xs : List A) (n : ℕ) → map f (take n xs) ≡ take n (map f xs)
mapped_take f [] zero = refl
mapped_take f [] (suc n) = refl
mapped_take f (x ∷ xs) zero = refl
mapped_take {B = B} f (x ∷ xs) (suc n) = ap (λ (r : List B). f x ∷ r) (mapped_take f xs n)

mapped_set : {A B : Type 0} (f : A → B) (xs : List A) (i : ℕ) (x : A) → map f (take i xs ++ x ∷ drop (i + 1) xs) ≡ take i (map f xs) ++ f x ∷ drop (i + 1) (map f xs)
mapped_set f [] zero x = refl
mapped_set f [] (suc i) x = let n : suc i + 1 ≡ suc (i + 1) = omega arith in rw n refl
mapped_set f (y ∷ xs) zero x = refl
mapped_set {B = B} f (y ∷ xs) (suc i) x = let n : suc i + 1 ≡ suc (i + 1) = omega arith in rw n (ap (λ (r : List B). f y ∷ r) (mapped_set f xs i x))

pub mapped_count : {A B : Type 0} (f : A → B) (xs : List A) → length (map f xs) ≡ length xs
mapped_count f [] = refl
mapped_count f (x ∷ xs) = ap suc (mapped_count f xs)

cut_mapped : {A B : Type 0} (f : A → B) (fed fed' : List A) (made made' : List B) (n : ℕ) → fed' ≡ take n fed → made' ≡ take n made → made ≡ map f fed → made' ≡ map f fed'
cut_mapped f fed fed' made made' n e g h = g ∙ ap (take n) h ∙ sym (mapped_take f fed n) ∙ ap (map f) (sym e)

set_mapped : {A B : Type 0} (f : A → B) (fed fed' : List A) (made made' : List B) (i : ℕ) (one : A) (new : B) → fed' ≡ take i fed ++ one ∷ drop (i + 1) fed → made' ≡ take i made ++ new ∷ drop (i + 1) made → new ≡ f one → made ≡ map f fed → made' ≡ map f fed'
set_mapped {B = B} f fed fed' made made' i one new e g n h =
    g ∙ ap (λ (z : List B). take i z ++ new ∷ drop (i + 1) z) h ∙ ap (λ (z : B). take i (map f fed) ++ z ∷ drop (i + 1) (map f fed)) n ∙ sym (mapped_set f fed i one) ∙ ap (map f) (sym e)

-- nothing is made of no labels
pub made_none : (kept : Kept) (rule : Relabel) (fed made : List Names) (fates : List Fate) → fed ≡ [] → made ≡ [] → fates ≡ [] → AreMade kept rule fed made fates
made_none kept rule fed made fates e g h = record { made = g ∙ ap (map (labels_by kept rule)) (sym e); fates = h ∙ ap (map (fate_by kept rule)) (sym e) }

-- the same under other names
pub made_same : (kept : Kept) (rule : Relabel) (fed fed' made made' : List Names) (fates fates' : List Fate) → fed ≡ fed' → made' ≡ made → fates' ≡ fates → AreMade kept rule fed made fates → AreMade kept rule fed' made' fates'
made_same kept rule fed fed' made made' fates fates' e g h a = record {
  made = g ∙ a.made ∙ ap (map (labels_by kept rule)) e;
  fates = h ∙ a.fates ∙ ap (map (fate_by kept rule)) e;
}

pub made_counts : (kept : Kept) (rule : Relabel) (fed made : List Names) (fates : List Fate) → AreMade kept rule fed made fates → (length made ≡ length fed) × (length fates ≡ length fed)
made_counts kept rule fed made fates a = (ap length a.made ∙ mapped_count (labels_by kept rule) fed, ap length a.fates ∙ mapped_count (fate_by kept rule) fed)

-- what is kept, cut off
pub made_cut : (kept : Kept) (rule : Relabel) (fed fed' made made' : List Names) (fates fates' : List Fate) (n : ℕ) → fed' ≡ take n fed → made' ≡ take n made → fates' ≡ take n fates → AreMade kept rule fed made fates → AreMade kept rule fed' made' fates'
made_cut kept rule fed fed' made made' fates fates' n e g h a = record {
  made = cut_mapped (labels_by kept rule) fed fed' made made' n e g a.made;
  fates = cut_mapped (fate_by kept rule) fed fed' fates fates' n e h a.fates;
}

-- what is made of other labels at one place, or of more of them
pub made_set : (kept : Kept) (rule : Relabel) (fed fed' made made' : List Names) (fates fates' : List Fate) (i : ℕ) (one new : Names) (fate : Fate)
    → fed' ≡ take i fed ++ one ∷ drop (i + 1) fed → made' ≡ take i made ++ new ∷ drop (i + 1) made → fates' ≡ take i fates ++ fate ∷ drop (i + 1) fates
    → new ≡ labels_by kept rule one → fate ≡ fate_by kept rule one → AreMade kept rule fed made fates → AreMade kept rule fed' made' fates'
made_set kept rule fed fed' made made' fates fates' i one new fate e g h n f a = record {
  made = set_mapped (labels_by kept rule) fed fed' made made' i one new e g n a.made;
  fates = set_mapped (fate_by kept rule) fed fed' fates fates' i one fate e h f a.fates;
}

-- ---- labels that were fed up to a place

-- what was fed up to a place is taken, and from there on what was fed before is kept
abbrev pub mixed : {A : Type 0} → ℕ → List A → List A → List A
mixed i all before = take i all ++ drop i before

drop_none : {A : Type 0} (n : ℕ) → drop {A = A} n [] ≡ []
drop_none zero = refl
drop_none (suc n) = refl

drop_more : {A : Type 0} (n : ℕ) (xs : List A) → drop (suc n) xs ≡ drop n (drop 1 xs)
drop_more n [] = sym (drop_none n)
drop_more n (x ∷ xs) = refl

mixed_more : {A : Type 0} (i : ℕ) (a : A) (all before : List A) → mixed (suc i) (a ∷ all) before ≡ a ∷ mixed i all (drop 1 before)
mixed_more {A} i a all before = ap (λ (z : List A). a ∷ (take i all ++ z)) (drop_more i before)

pub mixed_next : {A : Type 0} (all before now : List A) (i : ℕ) (one : A) → i < length all → one ≡ get_or all i one → now ≡ take i (mixed i all before) ++ one ∷ drop (i + 1) (mixed i all before) → now ≡ mixed (i + 1) all before
mixed_next [] before now i one l o e = absurd (omega arith)
mixed_next {A} (a ∷ all) before now zero one l o e = e ∙ ap (λ (z : A). z ∷ drop 1 before) o
mixed_next {A} (a ∷ all) before now (suc i) one l o e =
    let n : suc i + 1 ≡ suc (i + 1) = omega arith in
    let here : take (suc i) (mixed (suc i) (a ∷ all) before) ++ one ∷ drop (suc (i + 1)) (mixed (suc i) (a ∷ all) before) ≡ a ∷ (take i (mixed i all (drop 1 before)) ++ one ∷ drop (i + 1) (mixed i all (drop 1 before))) =
    ap (λ (z : List A). take (suc i) z ++ one ∷ drop (suc (i + 1)) z) (mixed_more i a all before) in
    let next : take i (mixed i all (drop 1 before)) ++ one ∷ drop (i + 1) (mixed i all (drop 1 before)) ≡ mixed (i + 1) all (drop 1 before) = mixed_next all (drop 1 before) _ i one (omega arith) o refl in
    e ∙ rw n (here ∙ ap (λ (z : List A). a ∷ z) next ∙ sym (mixed_more (i + 1) a all before))

pub mixed_reaches : {A : Type 0} (all before : List A) (i : ℕ) → i < length all → i ≤ length (mixed i all before)
mixed_reaches [] before i l = absurd (omega arith)
mixed_reaches (a ∷ all) before zero l = omega arith
mixed_reaches (a ∷ all) before (suc i) l =
    let h : i ≤ length (mixed i all (drop 1 before)) = mixed_reaches all (drop 1 before) i (omega arith) in
    let e = ap length (mixed_more i a all before) in
    omega (arith, h, e)

rest_shorter : {A : Type 0} (xs : List A) (n : ℕ) → length xs ≤ suc n → length (drop 1 xs) ≤ n
rest_shorter [] n l = omega arith
rest_shorter (x ∷ xs) n l = omega arith

pub mixed_past : {A : Type 0} (all before : List A) (n : ℕ) → length all ≤ n → length before ≤ length all → mixed n all before ≡ all
mixed_past [] [] zero e l = refl
mixed_past [] [] (suc n) e l = refl
mixed_past [] (b ∷ before) n e l = absurd (omega arith)
mixed_past (a ∷ all) before zero e l = absurd (omega arith)
mixed_past {A} (a ∷ all) before (suc n) e l = mixed_more n a all before ∙ ap (λ (r : List A). a ∷ r) (mixed_past all (drop 1 before) n (omega arith) (rest_shorter before (length all) l))

pub mixed_whole : {A : Type 0} (all before : List A) (n : ℕ) → n ≡ length all → length before ≤ length all → mixed n all before ≡ all
mixed_whole all before n e l = mixed_past all before n (omega (arith, e)) l

-- what stands at a place that is there
pub split_here : {A : Type 0} (xs : List A) (i : ℕ) (x : A) → slice_get xs i ≡ Some x → xs ≡ take i xs ++ x ∷ drop (i + 1) xs
split_here [] i x e = absurd (cc)
split_here {A} (y ∷ xs) zero x e = let same : y ≡ x = cc in ap (λ (z : A). z ∷ xs) same
split_here {A} (y ∷ xs) (suc i) x e = let n : suc i + 1 ≡ suc (i + 1) = omega arith in rw n (ap (λ (r : List A). y ∷ r) (split_here xs i x e))

-- one that is put in the place of another
pub set_here : {A : Type 0} (xs : List A) (i : ℕ) (x : A) → i < length xs → set xs i x ≡ take i xs ++ x ∷ drop (i + 1) xs
set_here [] i x l = absurd (omega arith)
set_here (y ∷ xs) zero x l = refl
set_here {A} (y ∷ xs) (suc i) x l = let n : suc i + 1 ≡ suc (i + 1) = omega arith in rw n (ap (λ (r : List A). y ∷ r) (set_here xs i x (omega arith)))

-- one that is put behind the others
pub push_here : {A : Type 0} (xs : List A) (i : ℕ) (x : A) → i ≡ length xs → xs ++ x ∷ [] ≡ take i xs ++ x ∷ drop (i + 1) xs
push_here [] zero x e = refl
push_here [] (suc i) x e = absurd (omega arith)
push_here (y ∷ xs) zero x e = absurd (omega arith)
push_here {A} (y ∷ xs) (suc i) x e = let n : suc i + 1 ≡ suc (i + 1) = omega arith in rw n (ap (λ (r : List A). y ∷ r) (push_here xs i x (omega arith)))
