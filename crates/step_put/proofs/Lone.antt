-- What came to places: the slots that are alone at their place, and the places that several have.
use Rattle.std.proofs.Common.{◌≡◌, ◌∙◌, ◌+◌, ◌<◌, ◌≤◌, ℕ, zero, suc, arith, Bool, true, false, cond, List, [], ◌∷◌, ◌++◌, length, get_or, drop, refl, sym, ap, subst, Option, Some, None}
use Rattle.std.specs.Prelude.{◌==◌, filter, slice_index_or, if◌then◌else◌}
use Rattle.std.proofs.Math.ListN.{replicate, set}
use Rattle.std.specs.List.{AllByRecursion, cons_option, list_any}
use Rattle.std.specs.Option.{option_to_list}
use Rattle.std.proofs.lemmas.List.Elements.{filter-append}
use Rattle.step_batch.specs.Lent.{SlotsRise}
use Rattle.step_batch.specs.declared.steps.Slot.{Slot}
use Rattle.step_table.specs.Groups.{alone, has_several}
use Rattle.step_put.specs.Clashes.{cell_of, cells_from, cells_of, is_shared, joined_by, lone_slot, lone_slots, shared_places, slots_at}
use Rattle.step_put.specs.declared.cells.Cell.{Cell}
use Rattle.step_put.specs.declared.cells.Cell.TheVariants.{Empty, One, Several}

abbrev pub only : List Slot → List Slot
only slots = option_to_list (alone slots)

abbrev pub AllBelow : ℕ → List Slot → Type 0
AllBelow high slots = AllByRecursion (λ (s : Slot). s.place < high) slots

pub same_place : (m n : ℕ) → (m == n) ≡ true → m ≡ n
same_place m n h = grind (arith, h)

is_same : (m n : ℕ) → m ≡ n → (m == n) ≡ true
is_same m n h = grind (arith, h)

is_other : (m n : ℕ) → m < n → (m == n) ≡ false
is_other m n h = grind (arith, h)

-- ---- slots that count, which all have one place

module _ (q : ℕ → Bool) where
  abbrev pub counted : List Slot → List Slot
  counted slots = filter (λ (s : Slot). q s.place) slots

  none_counted : (high : ℕ) (slots : List Slot) → AllBelow high slots → ((j : ℕ) → j < high → q j ≡ false) → counted slots ≡ []
  none_counted high [] b f = refl
  none_counted high (s ∷ slots) b f = let here = f s.place b.0 in rw here (none_counted high slots b.1 f)

  -- none from a place on
  none_lone : (place : ℕ) (cells : List Cell) → ((j : ℕ) → place ≤ j → q j ≡ false) → counted (lone_slots place cells) ≡ []
  none_lone place [] f = refl
  none_lone place (c ∷ cells) f = one c (none_lone (place + 1) cells (λ j l. f j (omega arith)))
    where
      one : (c : Cell) → counted (lone_slots (place + 1) cells) ≡ [] → counted (cons_option (lone_slot place c) (lone_slots (place + 1) cells)) ≡ []
      one Empty e = e
      one (One v) e = let here = f place (omega arith) in rw here e
      one Several e = e

  none_shared : (place : ℕ) (cells : List Cell) → ((j : ℕ) → place ≤ j → q j ≡ false) → list_any q (shared_places place cells) ≡ false
  none_shared place [] f = refl
  none_shared place (c ∷ cells) f = one (is_shared c) (none_shared (place + 1) cells (λ j l. f j (omega arith)))
    where
      one : (b : Bool) → list_any q (shared_places (place + 1) cells) ≡ false → list_any q (if b then place ∷ shared_places (place + 1) cells else shared_places (place + 1) cells) ≡ false
      one true e = let here = f place (omega arith) in rw here e
      one false e = e

  -- a place that doesn't count is passed over
  lone_past : (place : ℕ) (c : Cell) (slots : List Slot) → q place ≡ false → counted (cons_option (lone_slot place c) slots) ≡ counted slots
  lone_past place Empty slots e = refl
  lone_past place (One v) slots e = rw e refl
  lone_past place Several slots e = refl

  shared_past : (place : ℕ) (b : Bool) (places : List ℕ) → q place ≡ false → list_any q (if b then place ∷ places else places) ≡ list_any q places
  shared_past place true places e = rw e refl
  shared_past place false places e = refl

  abbrev AllAt : ℕ → List Slot → Type 0
  AllAt place slots = AllByRecursion (λ (s : Slot). s.place ≡ place) slots

  -- at the place that counts
  lone_here : (place : ℕ) (here rest : List Slot) → q place ≡ true → AllAt place here → counted rest ≡ [] → counted (cons_option (lone_slot place (cell_of here)) rest) ≡ only here
  lone_here place [] rest e a n = n
  lone_here place (s ∷ []) rest e a n =
      let same : cond (q place) (record { place = place; value = s.value } ∷ counted rest) (counted rest) ≡ record { place = place; value = s.value } ∷ [] = rw (e, n) refl in
      same ∙ ap (λ (m : ℕ). record { place = m; value = s.value } ∷ []) (sym a.0)
  lone_here place (s ∷ t ∷ here) rest e a n = n

  shared_here : (place : ℕ) (here : List Slot) (rest : List ℕ) → q place ≡ true → list_any q rest ≡ false → list_any q (if is_shared (cell_of here) then place ∷ rest else rest) ≡ has_several here
  shared_here place [] rest e n = n
  shared_here place (s ∷ []) rest e n = n
  shared_here place (s ∷ t ∷ here) rest e n = rw e refl

  module _ (one : (i j : ℕ) → q i ≡ true → q j ≡ true → i ≡ j) where
    counts_at : (place n : ℕ) → q place ≡ true → q n ≡ (n == place)
    counts_at place n e =
        elim (q n) as (λ (b : Bool). q n ≡ b → b ≡ (n == place)) [
          | true ↦ λ h. sym (is_same n place (one n place h e))
          | false ↦ λ h. elim (n == place) as (λ (c : Bool). (n == place) ≡ c → false ≡ c) [ true ↦ λ t. absurd (let same : n ≡ place = same_place n place t in let k : q n ≡ true = ap q same ∙ e in let z : true ≡ false = sym k ∙ h in cc) | false ↦ λ t. refl ] refl
        ] refl

    counted_at : (place : ℕ) (slots : List Slot) → q place ≡ true → counted slots ≡ slots_at place slots
    counted_at place [] e = refl
    counted_at place (s ∷ slots) e = λ i. cond (counts_at place s.place e i) (s ∷ counted_at place slots e i) (counted_at place slots e i)

    all_at : (place : ℕ) (slots : List Slot) → AllAt place (slots_at place slots)
    all_at place [] = tt
    all_at place (s ∷ slots) =
        elim (s.place == place) as (λ (b : Bool). (s.place == place) ≡ b → AllAt place (cond b (s ∷ slots_at place slots) (slots_at place slots))) [
          | true ↦ λ e. (same_place s.place place e, all_at place slots)
          | false ↦ λ e. all_at place slots
        ] refl

    none_behind : (place j : ℕ) → q place ≡ true → place + 1 ≤ j → q j ≡ false
    none_behind place j e l = elim (q j) as (λ (b : Bool). q j ≡ b → b ≡ false) [ true ↦ λ h. absurd (let same : place ≡ j = one place j e h in omega arith) | false ↦ λ h. refl ] refl

    lone_from : (place count : ℕ) (slots : List Slot) → AllBelow (place + count) slots → ((j : ℕ) → j < place → q j ≡ false) → counted (lone_slots place (cells_from place count slots)) ≡ only (counted slots)
    lone_from place zero slots b f = sym (ap only (none_counted (place + zero) slots b (λ j l. f j (omega arith))))
    lone_from place (suc count) slots b f =
        elim (q place) as (λ (c : Bool). q place ≡ c → counted (lone_slots place (cells_from place (suc count) slots)) ≡ only (counted slots)) [
          | true ↦ λ e. lone_here place (slots_at place slots) (lone_slots (place + 1) (cells_from (place + 1) count slots)) e (all_at place slots) (none_lone (place + 1) (cells_from (place + 1) count slots) (λ j l. none_behind place j e l))
              ∙ ap only (sym (counted_at place slots e))
          | false ↦ λ e. lone_past place (cell_of (slots_at place slots)) (lone_slots (place + 1) (cells_from (place + 1) count slots)) e
              ∙ lone_from (place + 1) count slots (subst (λ (n : ℕ). AllBelow n slots) (omega arith) b) (before_next place e f)
        ] refl
      where
        before_next : (place : ℕ) → q place ≡ false → ((j : ℕ) → j < place → q j ≡ false) → (j : ℕ) → j < place + 1 → q j ≡ false
        before_next place e f j l = elim (j == place) as (λ (c : Bool). (j == place) ≡ c → q j ≡ false) [ true ↦ λ t. ap q (same_place j place t) ∙ e | false ↦ λ t. f j (grind (arith, t, l)) ] refl

    shared_from : (place count : ℕ) (slots : List Slot) → AllBelow (place + count) slots → ((j : ℕ) → j < place → q j ≡ false) → list_any q (shared_places place (cells_from place count slots)) ≡ has_several (counted slots)
    shared_from place zero slots b f = sym (ap has_several (none_counted (place + zero) slots b (λ j l. f j (omega arith))))
    shared_from place (suc count) slots b f =
        elim (q place) as (λ (c : Bool). q place ≡ c → list_any q (shared_places place (cells_from place (suc count) slots)) ≡ has_several (counted slots)) [
          | true ↦ λ e. shared_here place (slots_at place slots) (shared_places (place + 1) (cells_from (place + 1) count slots)) e (none_shared (place + 1) (cells_from (place + 1) count slots) (λ j l. none_behind place j e l))
              ∙ ap has_several (sym (counted_at place slots e))
          | false ↦ λ e. shared_past place (is_shared (cell_of (slots_at place slots))) (shared_places (place + 1) (cells_from (place + 1) count slots)) e
              ∙ shared_from (place + 1) count slots (subst (λ (n : ℕ). AllBelow n slots) (omega arith) b) (before_next place e f)
        ] refl
      where
        before_next : (place : ℕ) → q place ≡ false → ((j : ℕ) → j < place → q j ≡ false) → (j : ℕ) → j < place + 1 → q j ≡ false
        before_next place e f j l = elim (j == place) as (λ (c : Bool). (j == place) ≡ c → q j ≡ false) [ true ↦ λ t. ap q (same_place j place t) ∙ e | false ↦ λ t. f j (grind (arith, t, l)) ] refl

    pub lone_counted : (count : ℕ) (slots : List Slot) → AllBelow count slots → counted (lone_slots 0 (cells_of count slots)) ≡ only (counted slots)
    lone_counted count slots b = let e : count ≡ 0 + count = omega arith in lone_from 0 count slots (subst (λ (n : ℕ). AllBelow n slots) e b) (λ j l. absurd (omega arith))

    pub shared_counted : (count : ℕ) (slots : List Slot) → AllBelow count slots → list_any q (shared_places 0 (cells_of count slots)) ≡ has_several (counted slots)
    shared_counted count slots b = let e : count ≡ 0 + count = omega arith in shared_from 0 count slots (subst (λ (n : ℕ). AllBelow n slots) e b) (λ j l. absurd (omega arith))

-- ---- the slots that are alone rise

rise_lower : (low next high : ℕ) (slots : List Slot) → low ≤ next → SlotsRise next high slots → SlotsRise low high slots
rise_lower low next high [] l r = tt
rise_lower low next high (s ∷ slots) l r = (omega (arith, r.0), r.1, r.2)

pub lone_rises : (place high : ℕ) (cells : List Cell) → place + length cells ≤ high → SlotsRise place high (lone_slots place cells)
lone_rises place high [] l = tt
lone_rises place high (c ∷ cells) l = one c (lone_rises (place + 1) high cells (omega arith))
  where
    one : (c : Cell) → SlotsRise (place + 1) high (lone_slots (place + 1) cells) → SlotsRise place high (cons_option (lone_slot place c) (lone_slots (place + 1) cells))
    one Empty r = rise_lower place (place + 1) high (lone_slots (place + 1) cells) (omega arith) r
    one (One v) r = (omega arith, omega arith, r)
    one Several r = rise_lower place (place + 1) high (lone_slots (place + 1) cells) (omega arith) r

drop_here : {A : Type 0} (xs : List A) (i : ℕ) (x : A) → i < length xs → x ≡ get_or xs i x → drop i xs ≡ x ∷ drop (i + 1) xs
drop_here [] i x l e = absurd (omega arith)
drop_here {A} (y ∷ xs) zero x l e = ap (λ (z : A). z ∷ xs) (sym e)
drop_here (y ∷ xs) (suc i) x l e = let n : suc i + 1 ≡ suc (i + 1) = omega arith in rw n (drop_here xs i x (omega arith) e)

-- one cell after another
pub lone_next : (place : ℕ) (cells : List Cell) (c : Cell) → place < length cells → c ≡ get_or cells place c → lone_slots place (drop place cells) ≡ option_to_list (lone_slot place c) ++ lone_slots (place + 1) (drop (place + 1) cells)
lone_next place cells c l is = ap (lone_slots place) (drop_here cells place c l is) ∙ put (lone_slot place c) (lone_slots (place + 1) (drop (place + 1) cells))
  where
    put : (o : Option Slot) (rest : List Slot) → cons_option o rest ≡ option_to_list o ++ rest
    put None rest = refl
    put (Some s) rest = refl

pub shared_next : (place : ℕ) (cells : List Cell) (c : Cell) (b : Bool) → place < length cells → c ≡ get_or cells place c → b ≡ is_shared c
    → shared_places place (drop place cells) ≡ (if b then place ∷ shared_places (place + 1) (drop (place + 1) cells) else shared_places (place + 1) (drop (place + 1) cells))
shared_next place cells c b l is e =
    ap (shared_places place) (drop_here cells place c l is) ∙ ap (λ (d : Bool). if d then place ∷ shared_places (place + 1) (drop (place + 1) cells) else shared_places (place + 1) (drop (place + 1) cells)) (sym e)

-- ---- one value more

pub cells_count : (place count : ℕ) (slots : List Slot) → length (cells_from place count slots) ≡ count
cells_count place zero slots = refl
cells_count place (suc count) slots = ap suc (cells_count (place + 1) count slots)

pub no_cells : (place count : ℕ) → replicate count Empty ≡ cells_from place count []
no_cells place zero = refl
no_cells place (suc count) = ap (λ (cs : List Cell). Empty ∷ cs) (no_cells (place + 1) count)

cell_more : (slots : List Slot) (s : Slot) → cell_of (slots ++ s ∷ []) ≡ joined_by (cell_of slots) s.value
cell_more [] s = refl
cell_more (r ∷ []) s = refl
cell_more (r ∷ t ∷ slots) s = refl

at_more : (place : ℕ) (slots : List Slot) (s : Slot) → slots_at place (slots ++ s ∷ []) ≡ slots_at place slots ++ cond (s.place == place) (s ∷ []) []
at_more place slots s = filter-append (λ (s : Slot). s.place == place) slots (s ∷ [])

nothing_behind : (slots : List Slot) → slots ++ [] ≡ slots
nothing_behind [] = refl
nothing_behind (s ∷ slots) = ap (λ (r : List Slot). s ∷ r) (nothing_behind slots)

other_cell : (place : ℕ) (slots : List Slot) (s : Slot) → (s.place == place) ≡ false → cell_of (slots_at place (slots ++ s ∷ [])) ≡ cell_of (slots_at place slots)
other_cell place slots s h = ap cell_of (at_more place slots s ∙ ap (λ (b : Bool). slots_at place slots ++ cond b (s ∷ []) []) h ∙ nothing_behind (slots_at place slots))

same_cell : (place : ℕ) (slots : List Slot) (s : Slot) → (s.place == place) ≡ true → cell_of (slots_at place (slots ++ s ∷ [])) ≡ joined_by (cell_of (slots_at place slots)) s.value
same_cell place slots s h = ap cell_of (at_more place slots s ∙ ap (λ (b : Bool). slots_at place slots ++ cond b (s ∷ []) []) h) ∙ cell_more (slots_at place slots) s

cells_behind : (place count : ℕ) (slots : List Slot) (s : Slot) → s.place < place → cells_from place count (slots ++ s ∷ []) ≡ cells_from place count slots
cells_behind place zero slots s l = refl
cells_behind place (suc count) slots s l = λ i. other_cell place slots s (is_other s.place place l) i ∷ cells_behind (place + 1) count slots s (omega arith) i

taken_from : (place count i : ℕ) (slots : List Slot) (s : Slot) → s.place ≡ place + i → i < count
    → set (cells_from place count slots) i (joined_by (slice_index_or (cells_from place count slots) i Empty) s.value) ≡ cells_from place count (slots ++ s ∷ [])
taken_from place zero i slots s e l = absurd (omega arith)
taken_from place (suc count) zero slots s e l =
    λ i. sym (same_cell place slots s (is_same s.place place (omega (arith, e)))) i ∷ sym (cells_behind (place + 1) count slots s (omega (arith, e))) i
taken_from place (suc count) (suc n) slots s e l =
    λ i. sym (other_cell place slots s (turned s.place place (is_other place s.place (omega (arith, e))))) i ∷ taken_from (place + 1) count n slots s (omega (arith, e)) (omega arith) i
  where
    turned : (m n : ℕ) → (n == m) ≡ false → (m == n) ≡ false
    turned m n h = grind (arith, h)

pub taken_more : (count : ℕ) (slots : List Slot) (s : Slot) → s.place < count
    → set (cells_of count slots) s.place (joined_by (slice_index_or (cells_of count slots) s.place Empty) s.value) ≡ cells_of count (slots ++ s ∷ [])
taken_more count slots s l = taken_from 0 count s.place slots s (omega arith) l

cell_from : (place count i : ℕ) (slots : List Slot) (d : Cell) → i < count → slice_index_or (cells_from place count slots) i d ≡ cell_of (slots_at (place + i) slots)
cell_from place zero i slots d l = absurd (omega arith)
cell_from place (suc count) zero slots d l = ap (λ (n : ℕ). cell_of (slots_at n slots)) (omega arith)
cell_from place (suc count) (suc i) slots d l = cell_from (place + 1) count i slots d (omega arith) ∙ ap (λ (n : ℕ). cell_of (slots_at n slots)) (omega arith)

-- what came to a place
pub cell_is : (count place : ℕ) (slots : List Slot) (d : Cell) → place < count → slice_index_or (cells_of count slots) place d ≡ cell_of (slots_at place slots)
cell_is count place slots d l = cell_from 0 count place slots d l ∙ ap (λ (n : ℕ). cell_of (slots_at n slots)) (omega arith)
