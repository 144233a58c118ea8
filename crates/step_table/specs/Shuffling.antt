-- Lists in another order: lemmas that the crates above cite too.
use Rattle.std.proofs.Common.{◌≡◌, ◌∙◌, ℕ, zero, suc, ◌<◌, length, get_or, arith, Bool, true, false, cond, List, [], ◌∷◌, ◌++◌, map, refl, sym, ap, subst, Some, None, Option}
use Rattle.std.specs.Prelude.{◌||◌, filter, if◌then◌else◌}
use Rattle.std.specs.declared.cmp.Ordering.{Ordering}
use Rattle.std.specs.declared.cmp.Ordering.TheVariants.{Equal}
use Rattle.std.specs.Cmp.{IsTotalOrder}
use Rattle.std.specs.BTreeMap.{is_at}
use Rattle.std.specs.List.{cons_option, filter_map, list_any, swap}
use Rattle.std.specs.List.Sorted.{IsPermutation, SwapsInRange, apply_swaps}
use Rattle.std.specs.Map.{keys_of, values_of}
use Rattle.std.proofs.Math.ListN.{set}
use Rattle.std.proofs.lemmas.List.Edits.{length-swap, swap_is}
use Rattle.std.proofs.lemmas.List.Sorted.{IsPermutation-append_comm, IsPermutation-append_left, IsPermutation-cons, IsPermutation-refl, IsPermutation-trans}
use Rattle.label_set.specs.LabelOrder.{labels_cmp_ties, labels_cmp_total}
use Rattle.label_set.specs.Labels.{labels_cmp}
use Rattle.step_table.specs.Alike.{same_sets}
use Rattle.step_table.specs.Groups.{Names, alone, gathered, has_several, items_of, lone_items, names_among, shared_names, shared_of}
use Rattle.step_table.specs.KeySets.{any_of_set, sorted_set}
use Rattle.step_table.specs.OrderLaws.{mark_cmp_ties, mark_cmp_total, note_cmp_ties, note_cmp_total}
use Rattle.step_table.specs.Orders.{mark_cmp, note_cmp}
use Rattle.step_table.specs.Shuffles.{Shuffled, none, kept, swapped, joined}
use Rattle.step_table.specs.Unions.{set_of, united, with_fatal}
use Rattle.step_table.specs.declared.marks.Mark.{Mark}
use Rattle.step_table.specs.declared.marks.Marks.{Marks}
use Rattle.step_table.specs.declared.marks.Note.{Note}

-- ---- any items

pub itself : {A : Type 0} (xs : List A) → Shuffled xs xs
itself [] = none
itself (x ∷ xs) = kept x xs xs (itself xs)

pub turned_back : {A : Type 0} (xs ys : List A) → Shuffled xs ys → Shuffled ys xs
turned_back _ _ none = none
turned_back _ _ (kept x xs ys s) = kept x ys xs (turned_back xs ys s)
turned_back _ _ (swapped x y xs) = swapped y x xs
turned_back _ _ (joined xs ys zs s t) = joined zs ys xs (turned_back ys zs t) (turned_back xs ys s)

pub front_kept : {A : Type 0} (es xs ys : List A) → Shuffled xs ys → Shuffled (es ++ xs) (es ++ ys)
front_kept [] xs ys s = s
front_kept (e ∷ es) xs ys s = kept e (es ++ xs) (es ++ ys) (front_kept es xs ys s)

pub back_kept : {A : Type 0} (es xs ys : List A) → Shuffled xs ys → Shuffled (xs ++ es) (ys ++ es)
back_kept es _ _ none = itself es
back_kept es _ _ (kept x xs ys s) = kept x (xs ++ es) (ys ++ es) (back_kept es xs ys s)
back_kept es _ _ (swapped x y xs) = swapped x y (xs ++ es)
back_kept es _ _ (joined xs ys zs s t) = joined (xs ++ es) (ys ++ es) (zs ++ es) (back_kept es xs ys s) (back_kept es ys zs t)

pub both_kept : {A : Type 0} (xs xs' ys ys' : List A) → Shuffled xs xs' → Shuffled ys ys' → Shuffled (xs ++ ys) (xs' ++ ys')
both_kept xs xs' ys ys' s t = joined (xs ++ ys) (xs' ++ ys) (xs' ++ ys') (back_kept ys xs xs' s) (front_kept xs' ys ys' t)

-- an item that goes behind others
pub to_back : {A : Type 0} (e : A) (es done : List A) → Shuffled (e ∷ (es ++ done)) (es ++ e ∷ done)
to_back e [] done = itself (e ∷ done)
to_back e (d ∷ es) done = joined (e ∷ d ∷ (es ++ done)) (d ∷ e ∷ (es ++ done)) (d ∷ (es ++ e ∷ done)) (swapped e d (es ++ done)) (kept d (e ∷ (es ++ done)) (es ++ e ∷ done) (to_back e es done))

-- ---- permutations

-- an item in the place of another, which comes to the front
placed : {A : Type 0} (y : A) (xs : List A) (j : ℕ) (d : A) → j < length xs → Shuffled (y ∷ xs) (get_or xs j d ∷ set xs j y)
placed y [] j d h = absurd (omega arith)
placed y (x ∷ xs) zero d h = swapped y x xs
placed y (x ∷ xs) (suc j) d h =
    joined (y ∷ x ∷ xs) (x ∷ y ∷ xs) (get_or xs j d ∷ x ∷ set xs j y) (swapped y x xs)
    (joined (x ∷ y ∷ xs) (x ∷ get_or xs j d ∷ set xs j y) (get_or xs j d ∷ x ∷ set xs j y) (kept x (y ∷ xs) (get_or xs j d ∷ set xs j y) (placed y xs j d (omega arith))) (swapped x (get_or xs j d) (set xs j y)))

exchanged : {A : Type 0} (xs : List A) (i j : ℕ) (d : A) → i < length xs → j < length xs → Shuffled xs (set (set xs i (get_or xs j d)) j (get_or xs i d))
exchanged [] i j d h k = absurd (omega arith)
exchanged (x ∷ xs) zero zero d h k = itself (x ∷ xs)
exchanged (x ∷ xs) zero (suc j) d h k = placed x xs j d (omega arith)
exchanged (x ∷ xs) (suc i) zero d h k = placed x xs i d (omega arith)
exchanged (x ∷ xs) (suc i) (suc j) d h k = kept x xs (set (set xs i (get_or xs j d)) j (get_or xs i d)) (exchanged xs i j d (omega arith) (omega arith))

swap_shuffled : {A : Type 0} (xs : List A) (i j : ℕ) → i < length xs → j < length xs → Shuffled xs (swap xs i j)
swap_shuffled [] i j h k = absurd (omega arith)
swap_shuffled (x ∷ xs) i j h k = subst (λ zs. Shuffled (x ∷ xs) zs) (swap_is (x ∷ xs) i j x h k) (exchanged (x ∷ xs) i j x h k)

length-swaps : {A : Type 0} (xs : List A) (ps : List (ℕ × ℕ)) → length (apply_swaps xs ps) ≡ length xs
length-swaps xs [] = refl
length-swaps xs (p ∷ ps) = length-swap (apply_swaps xs ps) p.0 p.1 ∙ length-swaps xs ps

swaps_shuffled : {A : Type 0} (xs : List A) (ps : List (ℕ × ℕ)) → SwapsInRange (length xs) ps → Shuffled xs (apply_swaps xs ps)
swaps_shuffled xs [] h = itself xs
swaps_shuffled xs (p ∷ ps) h =
    let e = length-swaps xs ps in
    joined xs (apply_swaps xs ps) (swap (apply_swaps xs ps) p.0 p.1) (swaps_shuffled xs ps h.2)
    (swap_shuffled (apply_swaps xs ps) p.0 p.1 (subst (λ n. p.0 < n) (sym e) h.0) (subst (λ n. p.1 < n) (sym e) h.1))

pub from_permutation : {A : Type 0} (xs ys : List A) → IsPermutation xs ys → Shuffled xs ys
from_permutation xs ys p = subst (λ zs. Shuffled xs zs) (sym p.is) (swaps_shuffled xs p.moves p.below)

pub to_permutation : {A : Type 0} (xs ys : List A) → Shuffled xs ys → IsPermutation xs ys
to_permutation _ _ none = IsPermutation-refl []
to_permutation _ _ (kept x xs ys s) = IsPermutation-cons x xs ys (to_permutation xs ys s)
to_permutation _ _ (swapped x y xs) = IsPermutation-append_left xs (x ∷ y ∷ []) (y ∷ x ∷ []) (IsPermutation-append_comm (x ∷ []) (y ∷ []))
to_permutation _ _ (joined xs ys zs s t) = IsPermutation-trans xs ys zs (to_permutation xs ys s) (to_permutation ys zs t)

-- ---- what is made of each item

swapped_options : {B : Type 0} (o p : Option B) (r : List B) → Shuffled (cons_option o (cons_option p r)) (cons_option p (cons_option o r))
swapped_options None None r = itself r
swapped_options None (Some b) r = itself (b ∷ r)
swapped_options (Some a) None r = itself (a ∷ r)
swapped_options (Some a) (Some b) r = swapped a b r

kept_option : {B : Type 0} (o : Option B) (r s : List B) → Shuffled r s → Shuffled (cons_option o r) (cons_option o s)
kept_option None r s h = h
kept_option (Some b) r s h = kept b r s h

pub chosen_shuffled : {A B : Type 0} (f : A → Option B) (xs ys : List A) → Shuffled xs ys → Shuffled (filter_map f xs) (filter_map f ys)
chosen_shuffled f _ _ none = none
chosen_shuffled f _ _ (kept x xs ys s) = kept_option (f x) (filter_map f xs) (filter_map f ys) (chosen_shuffled f xs ys s)
chosen_shuffled f _ _ (swapped x y xs) = swapped_options (f x) (f y) (filter_map f xs)
chosen_shuffled f _ _ (joined xs ys zs s t) = joined (filter_map f xs) (filter_map f ys) (filter_map f zs) (chosen_shuffled f xs ys s) (chosen_shuffled f ys zs t)

pub mapped_shuffled : {A B : Type 0} (f : A → B) (xs ys : List A) → Shuffled xs ys → Shuffled (map f xs) (map f ys)
mapped_shuffled f _ _ none = none
mapped_shuffled f _ _ (kept x xs ys s) = kept (f x) (map f xs) (map f ys) (mapped_shuffled f xs ys s)
mapped_shuffled f _ _ (swapped x y xs) = swapped (f x) (f y) (map f xs)
mapped_shuffled f _ _ (joined xs ys zs s t) = joined (map f xs) (map f ys) (map f zs) (mapped_shuffled f xs ys s) (mapped_shuffled f ys zs t)

module _ {A : Type 0} (p : A → Bool) where
  abbrev kept_one : A → Option A
  kept_one x = if p x then Some x else None

  filter_is : (xs : List A) → filter_map kept_one xs ≡ filter p xs
  filter_is [] = refl
  filter_is (x ∷ xs) =
      elim (p x) as (λ b. cons_option (if b then Some x else None) (filter_map kept_one xs) ≡ cond b (x ∷ filter p xs) (filter p xs)) [
        | true ↦ ap (λ r. x ∷ r) (filter_is xs)
        | false ↦ filter_is xs
      ]

  pub filtered_shuffled : (xs ys : List A) → Shuffled xs ys → Shuffled (filter p xs) (filter p ys)
  filtered_shuffled xs ys s =
      subst (λ (r : List A). Shuffled r (filter p ys)) (filter_is xs)
      (subst (λ (r : List A). Shuffled (filter_map kept_one xs) r) (filter_is ys) (chosen_shuffled kept_one xs ys s))

or_swapped : (a b c : Bool) → (a || (b || c)) ≡ (b || (a || c))
or_swapped true true c = refl
or_swapped true false c = refl
or_swapped false b c = refl

pub any_shuffled : {A : Type 0} (p : A → Bool) (xs ys : List A) → Shuffled xs ys → list_any p xs ≡ list_any p ys
any_shuffled p _ _ none = refl
any_shuffled p _ _ (kept x xs ys s) = ap (λ b. p x || b) (any_shuffled p xs ys s)
any_shuffled p _ _ (swapped x y xs) = or_swapped (p x) (p y) (list_any p xs)
any_shuffled p _ _ (joined xs ys zs s t) = any_shuffled p xs ys s ∙ any_shuffled p ys zs t

-- ---- sets

pub set_shuffled : {K : Type 0} {R : K → K → Ordering} (o : IsTotalOrder R) (ties : (x y : K) → R x y ≡ Equal → x ≡ y) (xs ys : List K) → Shuffled xs ys → set_of R xs ≡ set_of R ys
set_shuffled {R = R} o ties xs ys s =
    same_sets o ties (set_of R xs) (set_of R ys) (sorted_set o ties xs) (sorted_set o ties ys)
    (λ k. any_of_set o ties (is_at (R k)) xs ∙ any_shuffled (is_at (R k)) xs ys s ∙ sym (any_of_set o ties (is_at (R k)) ys))

pub marks_shuffled : (xs ys : List Mark) → Shuffled xs ys → set_of mark_cmp xs ≡ set_of mark_cmp ys
marks_shuffled xs ys s = set_shuffled mark_cmp_total mark_cmp_ties xs ys s

pub notes_shuffled : (xs ys : List Note) → Shuffled xs ys → set_of note_cmp xs ≡ set_of note_cmp ys
notes_shuffled xs ys s = set_shuffled note_cmp_total note_cmp_ties xs ys s

pub fatal_shuffled : (marks : Marks) (xs ys : List Mark) → Shuffled xs ys → with_fatal marks xs ≡ with_fatal marks ys
fatal_shuffled marks xs ys s = ap (λ (fs : List Mark). united marks (record { fatal = fs; notes = [] })) (marks_shuffled xs ys s)

-- ---- items under labels

abbrev no_items : {A : Type 0} → List A → Bool
no_items [] = true
no_items (x ∷ xs) = false

none_shuffled : {A : Type 0} (xs ys : List A) → Shuffled xs ys → no_items xs ≡ no_items ys
none_shuffled _ _ none = refl
none_shuffled _ _ (kept x xs ys s) = refl
none_shuffled _ _ (swapped x y xs) = refl
none_shuffled _ _ (joined xs ys zs s t) = none_shuffled xs ys s ∙ none_shuffled ys zs t

alone_is : {A : Type 0} (x : A) (xs : List A) → alone (x ∷ xs) ≡ (if no_items xs then Some x else None)
alone_is x [] = refl
alone_is x (y ∷ xs) = refl

several_is : {A : Type 0} (x : A) (xs : List A) → has_several (x ∷ xs) ≡ (if no_items xs then false else true)
several_is x [] = refl
several_is x (y ∷ xs) = refl

pub alone_shuffled : {A : Type 0} (xs ys : List A) → Shuffled xs ys → alone xs ≡ alone ys
alone_shuffled _ _ none = refl
alone_shuffled _ _ (kept x xs ys s) = alone_is x xs ∙ ap (λ (b : Bool). if b then Some x else None) (none_shuffled xs ys s) ∙ sym (alone_is x ys)
alone_shuffled _ _ (swapped x y xs) = refl
alone_shuffled _ _ (joined xs ys zs s t) = alone_shuffled xs ys s ∙ alone_shuffled ys zs t

pub several_shuffled : {A : Type 0} (xs ys : List A) → Shuffled xs ys → has_several xs ≡ has_several ys
several_shuffled _ _ none = refl
several_shuffled _ _ (kept x xs ys s) = several_is x xs ∙ ap (λ (b : Bool). if b then false else true) (none_shuffled xs ys s) ∙ sym (several_is x ys)
several_shuffled _ _ (swapped x y xs) = refl
several_shuffled _ _ (joined xs ys zs s t) = several_shuffled xs ys s ∙ several_shuffled ys zs t

-- what gives the same of each item gives the same list
pub chosen_alike : {X B : Type 0} (f g : X → Option B) (ns : List X) → ((n : X) → f n ≡ g n) → filter_map f ns ≡ filter_map g ns
chosen_alike f g [] e = refl
chosen_alike f g (n ∷ ns) e = ap (λ o. cons_option o (filter_map f ns)) (e n) ∙ ap (cons_option (g n)) (chosen_alike f g ns e)

module _ {T : Type 0} where
  abbrev under : Names → Names × T → Option T
  under names item = if is_at (labels_cmp names) item.0 then Some item.1 else None

  items_are : (names : Names) (items : List (Names × T)) → items_of items names ≡ filter_map (under names) items
  items_are names [] = refl
  items_are names (item ∷ items) =
      elim (is_at (labels_cmp names) item.0) as (λ b. values_of (cond b (item ∷ filter (λ e. is_at (labels_cmp names) e.0) items) (filter (λ e. is_at (labels_cmp names) e.0) items)) ≡ cons_option (if b then Some item.1 else None) (filter_map (under names) items)) [
        | true ↦ ap (λ r. item.1 ∷ r) (items_are names items)
        | false ↦ items_are names items
      ]

  pub items_shuffled : (xs ys : List (Names × T)) → Shuffled xs ys → (names : Names) → Shuffled (items_of xs names) (items_of ys names)
  items_shuffled xs ys s names =
      subst (λ (r : List T). Shuffled r (items_of ys names)) (sym (items_are names xs))
      (subst (λ (r : List T). Shuffled (filter_map (under names) xs) r) (sym (items_are names ys)) (chosen_shuffled (under names) xs ys s))

  pub names_shuffled : (xs ys : List (Names × T)) → Shuffled xs ys → names_among xs ≡ names_among ys
  names_shuffled xs ys s = set_shuffled labels_cmp_total labels_cmp_ties (keys_of xs) (keys_of ys) (mapped_shuffled (λ (e : Names × T). e.0) xs ys s)

  fused : {B : Type 0} (h : Names × List T → Option B) (f : Names → List T) (ns : List Names) → filter_map h (map (λ names. (names, f names)) ns) ≡ filter_map (λ names. h (names, f names)) ns
  fused h f [] = refl
  fused h f (n ∷ ns) = ap (cons_option (h (n, f n))) (fused h f ns)

  pub lone_shuffled : (xs ys : List (Names × T)) → Shuffled xs ys → lone_items xs ≡ lone_items ys
  unfolding gathered
  lone_shuffled xs ys s =
      fused (λ (g : Names × List T). alone g.1) (items_of xs) (names_among xs)
      ∙ chosen_alike (λ names. alone (items_of xs names)) (λ names. alone (items_of ys names)) (names_among xs) (λ names. alone_shuffled (items_of xs names) (items_of ys names) (items_shuffled xs ys s names))
      ∙ ap (filter_map (λ names. alone (items_of ys names))) (names_shuffled xs ys s) ∙ sym (fused (λ (g : Names × List T). alone g.1) (items_of ys) (names_among ys))

  pub shared_shuffled : (xs ys : List (Names × T)) → Shuffled xs ys → shared_names xs ≡ shared_names ys
  unfolding gathered
  shared_shuffled xs ys s =
      fused shared_of (items_of xs) (names_among xs)
      ∙ chosen_alike (λ names. shared_of (names, items_of xs names)) (λ names. shared_of (names, items_of ys names)) (names_among xs)
      (λ names. ap (λ (b : Bool). if b then Some names else None) (several_shuffled (items_of xs names) (items_of ys names) (items_shuffled xs ys s names)))
      ∙ ap (filter_map (λ names. shared_of (names, items_of ys names))) (names_shuffled xs ys s) ∙ sym (fused shared_of (items_of ys) (names_among ys))
