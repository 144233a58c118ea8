-- The rows that are kept are those that the operator gives.
use Rattle.std.proofs.Common.{◌≡◌, ◌∙◌, ◌+◌, ◌<◌, ℕ, zero, suc, arith, Bool, true, false, cond, List, [], ◌∷◌, ◌++◌, length, get_or, slice_get, map, refl, sym, ap, subst, Some}
use Rattle.std.specs.Prelude.{◌==◌, ◌||◌, filter, not, pos}
use Rattle.std.specs.BTreeMap.{is_at}
use Rattle.std.specs.List.{AllByRecursion, IsDistinct}
use Rattle.std.specs.List.Sorted.{IsStrictlySortedBy}
use Rattle.std.specs.Ordering.{is_eq}
use Rattle.std.specs.declared.cmp.Ordering.{Ordering}
use Rattle.std.specs.declared.cmp.Ordering.TheVariants.{Less, Equal, Greater}
use Rattle.std.proofs.lemmas.Bool.{false≢true}
use Rattle.std.proofs.lemmas.Bool.Decides.{Decides-eqb}
use Rattle.std.proofs.lemmas.Cmp.{tied_itself}
use Rattle.std.proofs.lemmas.List.{map-append}
use Rattle.std.proofs.lemmas.List.Elements.{filter_map-append}
use Rattle.func_table.specs.declared.table.SetOp.{SetOp}
use Rattle.func_table.specs.declared.table.SetOp.TheVariants.{And, Unless, Or}
use Rattle.label_set.specs.Entries.{recursion_map}
use Rattle.label_set.specs.LabelEquality.{labels_decide, labels_eq}
use Rattle.label_set.specs.LabelOrder.{labels_cmp_ties, labels_cmp_total}
use Rattle.label_set.specs.Labels.{labels_cmp}
use Rattle.label_set.specs.declared.rules.Pairing.{Pairing}
use Rattle.step_batch.specs.Laws.{LentRowsAreTables, LentRowsAreThoseOfSlots}
use Rattle.step_batch.specs.Lent.{SlotsRise, entries_of, entry_of, no_marks, row_of, step_of}
use Rattle.step_batch.specs.declared.steps.PlacedStep.{PlacedStep}
use Rattle.step_batch.specs.declared.steps.Slot.{Slot}
use Rattle.step_put.specs.Puts.{AreAt}
use Rattle.step_table.specs.Gathering.{settled_table}
use Rattle.step_table.specs.Groups.{Names}
use Rattle.step_table.specs.Laws.{CombinedIsWellFormed}
use Rattle.step_table.specs.Sets.{combined, is_on, rows_off, rows_on, step_of_rows}
use Rattle.step_table.specs.Shuffles.{AreAlike, CombinedIgnoresOrder, OrIgnoresOrder, SettledIgnoresOrder, Shuffled, TableIsOneOrder, joined}
use Rattle.step_table.specs.Shuffling.{chosen_shuffled, mapped_shuffled, turned_back}
use Rattle.step_table.specs.Unions.{united}
use Rattle.step_table.specs.WellFormed.{IsTable, IsWellFormed}
use Rattle.step_table.specs.declared.marks.Marks.{Marks}
use Rattle.step_table.specs.declared.step.Row.{Row}
use Rattle.step_table.specs.declared.step.Step.{Step}
use Rattle.step_table.specs.Timed.{StepAt}
use Rattle.ticks.specs.declared.moment.Ms.{Ms}
use Rattle.op_set.specs.Combining.{combined_at}
use Rattle.op_set.specs.Rising.{AreApart, AreWithin}
use Rattle.op_set.specs.Sides.{AreNamed, IsNamed, has_number, is_met, lends_right, lent_labels, moved, number_of, rows_kept, signature_by}
use Rattle.op_set.specs.declared.sides.Naming.{Naming}
use Rattle.op_set.specs.declared.sides.Side.{Side}
use Rattle.op_set.proofs.Named.{at_below, at_length, at_place, count_of, named_at}
use Rattle.op_set.proofs.Rises.{get_there}

-- ---- labels that are distinct

all_get : (P : Names → Type 0) (xs : List Names) (i : ℕ) (x : Names) → slice_get xs i ≡ Some x → AllByRecursion P xs → P x
all_get P [] i x h a = absurd (cc)
all_get P (y ∷ xs) zero x h a = let e : y ≡ x = cc in subst P e a.0
all_get P (y ∷ xs) (suc i) x h a = all_get P xs i x h a.1

never_equal : (a b : Names) → a ≡ b → labels_eq a b ≡ false → ⊥
never_equal a b e h = false≢true (sym h ∙ (labels_decide a b (labels_eq a b) refl).1 e)

-- labels have one place
one_place : (labels : List Names) (i j : ℕ) (n : Names) → IsDistinct labels_eq labels → slice_get labels i ≡ Some n → slice_get labels j ≡ Some n → i ≡ j
unfolding IsDistinct
one_place [] i j n d h k = absurd (cc)
one_place (l ∷ labels) zero zero n d h k = refl
one_place (l ∷ labels) zero (suc j) n d h k = let e : l ≡ n = cc in absurd (never_equal l n e (all_get (λ y. labels_eq l y ≡ false) labels j n k d.0))
one_place (l ∷ labels) (suc i) zero n d h k = let e : l ≡ n = cc in absurd (never_equal l n e (all_get (λ y. labels_eq l y ≡ false) labels i n h d.0))
one_place (l ∷ labels) (suc i) (suc j) n d h k = ap suc (one_place labels i j n d.1 h k)

same_truth : (a b : Bool) → (a ≡ true → b ≡ true) → (b ≡ true → a ≡ true) → a ≡ b
same_truth true true f g = refl
same_truth true false f g = sym (f refl)
same_truth false true f g = g refl
same_truth false false f g = refl

is_equal : (o : Ordering) → is_eq o ≡ true → o ≡ Equal
is_equal Less h = absurd (cc)
is_equal Equal h = refl
is_equal Greater h = absurd (cc)

unsome : {A : Type 0} (a b : A) → Some a ≡ Some b → a ≡ b
unsome a b e = cc

-- numbers are equal exactly where their signatures are
numbers_tell : (signatures : List Names) (m n : ℕ) (a b : Names) → IsDistinct labels_eq signatures → slice_get signatures m ≡ Some a → slice_get signatures n ≡ Some b → (m == n) ≡ is_at (labels_cmp b) a
numbers_tell signatures m n a b d h k =
    same_truth (m == n) (is_at (labels_cmp b) a)
    (λ e. let same : a ≡ b = unsome a b (sym h ∙ ap (slice_get signatures) ((Decides-eqb m n).0 e) ∙ k) in subst (λ (z : Names). is_at (labels_cmp b) z ≡ true) (sym same) (ap is_eq (tied_itself labels_cmp_total b)))
    (λ e. let same : b ≡ a = labels_cmp_ties b a (is_equal (labels_cmp b a) e) in (Decides-eqb m n).1 (one_place signatures m n a d h (k ∙ ap Some same)))

-- ---- rows

abbrev pub rows_at : List Names → List Slot → List Row
rows_at labels slots = map row_of (entries_of labels slots)

abbrev row_at : List Names → Slot → Row
row_at labels slot = record { labels = get_or labels slot.place []; value = slot.value }

rows_here : (labels : List Names) (s : Slot) (slots : List Slot) → s.place < length labels → rows_at labels (s ∷ slots) ≡ row_at labels s ∷ rows_at labels slots
rows_here labels s slots h = let e = get_there labels s.place h in rw e refl

rows_moved : (labels fed : List Names) (places : List ℕ) (s : Slot) (slots : List Slot) → AreAt labels fed places → s.place < length fed → rows_at labels (moved places s ∷ slots) ≡ row_at fed s ∷ rows_at labels slots
rows_moved labels fed places s slots a h = let e = at_place labels fed places s.place a h in rw e refl

rows_append : (labels : List Names) (xs ys : List Slot) → rows_at labels (xs ++ ys) ≡ rows_at labels xs ++ rows_at labels ys
rows_append labels xs ys = ap (map row_of) (filter_map-append (entry_of labels) xs ys) ∙ map-append row_of (entries_of labels xs) (entries_of labels ys)

module _ (labels fed : List Names) (places : List ℕ) (a : AreAt labels fed places) where
  all_moved : (low : ℕ) (slots : List Slot) → SlotsRise low (length fed) slots → rows_at labels (map (moved places) slots) ≡ rows_at fed slots
  all_moved low [] r = refl
  all_moved low (s ∷ slots) r =
      rows_moved labels fed places s (map (moved places) slots) a r.1 ∙ ap (λ (z : List Row). row_at fed s ∷ z) (all_moved (s.place + 1) slots r.2) ∙ sym (rows_here fed s slots r.1)

  -- rows that a test of slots keeps are those that the same test of rows keeps
  some_moved : (f : Slot → Bool) (g : Row → Bool) → ((s : Slot) → s.place < length fed → f s ≡ g (row_at fed s)) → (low : ℕ) (slots : List Slot) → SlotsRise low (length fed) slots
      → rows_at labels (map (moved places) (filter f slots)) ≡ filter g (rows_at fed slots)
  some_moved f g t low [] r = refl
  some_moved f g t low (s ∷ slots) r =
      let rest = some_moved f g t (s.place + 1) slots r.2 in
      ap (λ (b : Bool). rows_at labels (map (moved places) (cond b (s ∷ filter f slots) (filter f slots)))) (t s r.1) ∙ one (g (row_at fed s)) rest ∙ sym (ap (filter g) (rows_here fed s slots r.1))
    where
      one : (b : Bool) → rows_at labels (map (moved places) (filter f slots)) ≡ filter g (rows_at fed slots)
          → rows_at labels (map (moved places) (cond b (s ∷ filter f slots) (filter f slots))) ≡ cond b (row_at fed s ∷ filter g (rows_at fed slots)) (filter g (rows_at fed slots))
      one true e = rows_moved labels fed places s (map (moved places) (filter f slots)) a r.1 ∙ ap (λ (z : List Row). row_at fed s ∷ z) e
      one false e = e

  moved_within : (f : Slot → Bool) (low : ℕ) (slots : List Slot) → SlotsRise low (length fed) slots → (high : ℕ) → ((i : ℕ) → i < length fed → get_or places i 0 < high) → AreWithin high (map (moved places) (filter f slots))
  moved_within f low [] r high b = tt
  moved_within f low (s ∷ slots) r high b =
      elim (f s) as (λ c. AreWithin high (map (moved places) (cond c (s ∷ filter f slots) (filter f slots)))) [
        | true ↦ (b s.place r.1, moved_within f (s.place + 1) slots r.2 high b)
        | false ↦ moved_within f (s.place + 1) slots r.2 high b
      ]

  module _ (d : IsDistinct labels_eq fed) where
    other_place : (p q : ℕ) → p < length fed → q < length fed → p < q → get_or places p 0 ≡ get_or places q 0 → ⊥
    other_place p q hp hq l e =
        let same : get_or fed p [] ≡ get_or fed q [] = unsome (get_or fed p []) (get_or fed q []) (sym (at_place labels fed places p a hp) ∙ ap (slice_get labels) e ∙ at_place labels fed places q a hq) in
        let one : p ≡ q = one_place fed p q (get_or fed q []) d (get_there fed p hp ∙ ap Some same) (get_there fed q hq) in
        omega arith

    behind_apart : (f : Slot → Bool) (p low : ℕ) (slots : List Slot) → p < length fed → p < low → SlotsRise low (length fed) slots → AllByRecursion (λ (t : Slot). get_or places p 0 ≡ t.place → ⊥) (map (moved places) (filter f slots))
    behind_apart f p low [] h l r = tt
    behind_apart f p low (s ∷ slots) h l r =
        let rest = behind_apart f p (s.place + 1) slots h (omega arith) r.2 in
        elim (f s) as (λ c. AllByRecursion (λ (t : Slot). get_or places p 0 ≡ t.place → ⊥) (map (moved places) (cond c (s ∷ filter f slots) (filter f slots)))) [
          | true ↦ (other_place p s.place h r.1 (omega arith), rest)
          | false ↦ rest
        ]

    moved_apart : (f : Slot → Bool) (low : ℕ) (slots : List Slot) → SlotsRise low (length fed) slots → AreApart (map (moved places) (filter f slots))
    moved_apart f low [] r = tt
    moved_apart f low (s ∷ slots) r =
        let rest = moved_apart f (s.place + 1) slots r.2 in
        elim (f s) as (λ c. AreApart (map (moved places) (cond c (s ∷ filter f slots) (filter f slots)))) [
          | true ↦ (behind_apart f s.place (s.place + 1) slots r.1 (omega arith) r.2, rest)
          | false ↦ rest
        ]

-- the places of labels are among those of labels that are lent
places_below : (labels fed : List Names) (places : List ℕ) → AreAt labels fed places → (i : ℕ) → i < length fed → get_or places i 0 < length labels
places_below labels fed places a i h = let count = at_length labels fed places a in at_below labels fed places a i (omega arith)

all_kept : (slots : List Slot) → filter (λ (s : Slot). true) slots ≡ slots
all_kept [] = refl
all_kept (s ∷ slots) = ap (λ z. s ∷ z) (all_kept slots)

-- ---- two lists behind each other

all_append : (P : Slot → Type 0) (xs ys : List Slot) → AllByRecursion P xs → AllByRecursion P ys → AllByRecursion P (xs ++ ys)
all_append P [] ys a b = b
all_append P (x ∷ xs) ys a b = (a.0, all_append P xs ys a.1 b)

abbrev NotAmong : List Slot → Slot → Type 0
NotAmong xs y = AllByRecursion (λ (x : Slot). x.place ≡ y.place → ⊥) xs

apart_append : (xs ys : List Slot) → AreApart xs → AreApart ys → AllByRecursion (NotAmong xs) ys → AreApart (xs ++ ys)
apart_append [] ys a b c = b
apart_append (x ∷ xs) ys a b c = (
  all_append (λ (t : Slot). x.place ≡ t.place → ⊥) xs ys a.0 (recursion_map (NotAmong (x ∷ xs)) (λ (t : Slot). x.place ≡ t.place → ⊥) (λ t n. n.0) ys c),
  apart_append xs ys a.1 b (recursion_map (NotAmong (x ∷ xs)) (NotAmong xs) (λ t n. n.1) ys c),
)

-- ---- the step

abbrev loose : SetOp → Pairing → List Row → List Row → List Row
loose And p l r = rows_on p r l
loose Unless p l r = rows_off p r l
loose Or p l r = l ++ rows_off p l r

pub record Laws : Type 0 where
  pub rows : LentRowsAreThoseOfSlots
  pub tables : LentRowsAreTables
  pub formed : CombinedIsWellFormed
  pub sides : CombinedIgnoresOrder
  pub either : OrIgnoresOrder
  pub settled : SettledIgnoresOrder
  pub table : TableIsOneOrder

abbrev placed_step : List Slot → Marks → PlacedStep
placed_step slots marks = record { at = record { 0 = pos 0 }; slots = slots; marks = marks }

alike_rows : Laws → (labels : List Names) (slots : List Slot) (marks : Marks) → IsDistinct labels_eq labels → SlotsRise 0 (length labels) slots → AreAlike (step_of_rows (rows_at labels slots) marks) (step_of (entries_of labels slots) marks)
alike_rows laws labels slots marks d r = record {
  rows = laws.rows (record { labels = labels; steps = [] }) (placed_step slots marks) (record { distinct = d; placed = tt; rising = tt }) r;
  marks = refl;
}

unmarked_is_formed : (s : Step) → IsTable s.table.rows → IsWellFormed (record { table = s.table; marks = no_marks })
unfolding IsStrictlySortedBy
unmarked_is_formed s t = record { rows = t; marks = record { fatal = tt; notes = tt } }

-- a table of the rows that an operator gives, in any order, is what it makes of both steps
by_op : Laws → (op : SetOp) (L R T : Step) (ls rs : List Row) (p : Pairing) → AreAlike (step_of_rows ls L.marks) L → AreAlike (step_of_rows rs R.marks) R → T.marks ≡ united L.marks R.marks
    → IsTable L.table.rows → IsTable R.table.rows → IsTable T.table.rows → Shuffled (loose op p ls rs) T.table.rows → T ≡ combined L R op p
by_op laws And L R T ls rs p a b m wl wr wt s =
    let alike = laws.sides And p (step_of_rows ls L.marks) L (step_of_rows rs R.marks) R a b in
    let formed = laws.formed (record { table = L.table; marks = no_marks }) (record { table = R.table; marks = no_marks }) And p (unmarked_is_formed L wl) (unmarked_is_formed R wr) in
    let same : T.table.rows ≡ rows_on p R.table.rows L.table.rows = laws.table T.table.rows (rows_on p R.table.rows L.table.rows) wt formed.rows (joined T.table.rows (rows_on p rs ls) (rows_on p R.table.rows L.table.rows) (turned_back (rows_on p rs ls) T.table.rows s) alike.rows) in
    λ j. record { table = record { rows = same j }; marks = m j }
by_op laws Unless L R T ls rs p a b m wl wr wt s =
    let alike = laws.sides Unless p (step_of_rows ls L.marks) L (step_of_rows rs R.marks) R a b in
    let formed = laws.formed (record { table = L.table; marks = no_marks }) (record { table = R.table; marks = no_marks }) Unless p (unmarked_is_formed L wl) (unmarked_is_formed R wr) in
    let same : T.table.rows ≡ rows_off p R.table.rows L.table.rows = laws.table T.table.rows (rows_off p R.table.rows L.table.rows) wt formed.rows (joined T.table.rows (rows_off p rs ls) (rows_off p R.table.rows L.table.rows) (turned_back (rows_off p rs ls) T.table.rows s) alike.rows) in
    λ j. record { table = record { rows = same j }; marks = m j }
by_op laws Or L R T ls rs p a b m wl wr wt s =
    let loosely : combined (step_of_rows ls L.marks) (step_of_rows rs R.marks) Or p ≡ combined L R Or p = laws.either p (step_of_rows ls L.marks) L (step_of_rows rs R.marks) R a b in
    let whole = laws.settled (step_of_rows (ls ++ rows_off p ls rs) (united L.marks R.marks)) T (record { rows = s; marks = sym m }) in
    sym (settled_table T wt) ∙ sym whole ∙ loosely

-- ---- both sides

either_false : (a b : Bool) → (a || b) ≡ false → (a ≡ false) × (b ≡ false)
either_false true b h = absurd (cc)
either_false false b h = (refl, h)

not_is : (b : Bool) → not b ≡ true → b ≡ false
not_is true h = absurd (cc)
not_is false h = refl

module _ (p : Pairing) (signatures labels : List Names) (d : IsDistinct labels_eq signatures) where
  -- whether a row is met, by numbers and by signatures
  met_is : (side other : Side) → AreAt signatures (map (signature_by p) side.signed.fed) side.signed.places → AreAt signatures (map (signature_by p) other.signed.fed) other.signed.places → (s : Slot) → s.place < length side.signed.fed
      → (low : ℕ) (others : List Slot) → SlotsRise low (length other.signed.fed) others → is_met other others side s ≡ is_on p (rows_at other.signed.fed others) (row_at side.signed.fed s)
  met_is side other a b s h low [] r = refl
  met_is side other a b s h low (t ∷ others) r =
      let here = numbers_tell signatures (number_of other.signed.places t) (number_of side.signed.places s) (signature_by p (get_or other.signed.fed t.place [])) (signature_by p (get_or side.signed.fed s.place [])) d (named_at (signature_by p) signatures other.signed.fed other.signed.places t.place b r.1) (named_at (signature_by p) signatures side.signed.fed side.signed.places s.place a h) in
      let rest = met_is side other a b s h (t.place + 1) others r.2 in
      (λ j. here j || rest j) ∙ sym (ap (λ (z : List Row). is_on p z (row_at side.signed.fed s)) (rows_here other.signed.fed t others r.1))

  module _ (l r : Side) (ln : AreAt signatures (map (signature_by p) l.signed.fed) l.signed.places) (rn : AreAt signatures (map (signature_by p) r.signed.fed) r.signed.places) (lp : AreAt labels l.signed.fed l.own.places) (ls rs : List Slot) (lr : SlotsRise 0 (length l.signed.fed) ls) (rr : SlotsRise 0 (length r.signed.fed) rs) where
    rows_are : (op : SetOp) → AreAt labels (lent_labels (lends_right op) r.signed.fed) r.own.places → rows_at labels (rows_kept op l r ls rs) ≡ loose op p (rows_at l.signed.fed ls) (rows_at r.signed.fed rs)
    rows_are And rp = some_moved labels l.signed.fed l.own.places lp (is_met r rs l) (is_on p (rows_at r.signed.fed rs)) (λ s h. met_is l r ln rn s h 0 rs rr) 0 ls lr
    rows_are Unless rp = some_moved labels l.signed.fed l.own.places lp (λ s. not (is_met r rs l s)) (λ row. not (is_on p (rows_at r.signed.fed rs) row)) (λ s h. ap not (met_is l r ln rn s h 0 rs rr)) 0 ls lr
    rows_are Or rp =
        let more = some_moved labels r.signed.fed r.own.places rp (λ s. not (is_met l ls r s)) (λ row. not (is_on p (rows_at l.signed.fed ls) row)) (λ s h. ap not (met_is r l rn ln s h 0 ls lr)) 0 rs rr in
        let first = all_moved labels l.signed.fed l.own.places lp 0 ls lr in
        rows_append labels (map (moved l.own.places) ls) (map (moved r.own.places) (filter (λ s. not (is_met l ls r s)) rs)) ∙ (λ j. first j ++ more j)

    -- a right row that is not met has no left row's place
    cross_one : AreAt labels r.signed.fed r.own.places → (t : Slot) → t.place < length r.signed.fed → (low : ℕ) (xs : List Slot) → SlotsRise low (length l.signed.fed) xs → has_number l.signed.places xs (number_of r.signed.places t) ≡ false → NotAmong (map (moved l.own.places) xs) (moved r.own.places t)
    cross_one rp t h low [] x n = tt
    cross_one rp t h low (s ∷ xs) x n =
        let both = either_false (number_of l.signed.places s == number_of r.signed.places t) (has_number l.signed.places xs (number_of r.signed.places t)) n in
        (λ e. apart s x.1 both.0 e, cross_one rp t h (s.place + 1) xs x.2 both.1)
      where
        apart : (s : Slot) → s.place < length l.signed.fed → (number_of l.signed.places s == number_of r.signed.places t) ≡ false → get_or l.own.places s.place 0 ≡ get_or r.own.places t.place 0 → ⊥
        apart s k f e =
            let same : get_or l.signed.fed s.place [] ≡ get_or r.signed.fed t.place [] = unsome (get_or l.signed.fed s.place []) (get_or r.signed.fed t.place []) (sym (at_place labels l.signed.fed l.own.places s.place lp k) ∙ ap (slice_get labels) e ∙ at_place labels r.signed.fed r.own.places t.place rp h) in
            let left = named_at (signature_by p) signatures l.signed.fed l.signed.places s.place ln k in
            let right = named_at (signature_by p) signatures r.signed.fed r.signed.places t.place rn h in
            let one : number_of l.signed.places s ≡ number_of r.signed.places t = one_place signatures (number_of l.signed.places s) (number_of r.signed.places t) (signature_by p (get_or r.signed.fed t.place [])) d (left ∙ ap (λ (z : Names). Some (signature_by p z)) same) right in
            false≢true (sym f ∙ (Decides-eqb (number_of l.signed.places s) (number_of r.signed.places t)).1 one)

    cross_all : AreAt labels r.signed.fed r.own.places → (low : ℕ) (us : List Slot) → SlotsRise low (length r.signed.fed) us → AllByRecursion (NotAmong (map (moved l.own.places) ls)) (map (moved r.own.places) (filter (λ s. not (is_met l ls r s)) us))
    cross_all rp low [] x = tt
    cross_all rp low (t ∷ us) x =
        let rest = cross_all rp (t.place + 1) us x.2 in
        elim (not (is_met l ls r t)) as (λ c. not (is_met l ls r t) ≡ c → AllByRecursion (NotAmong (map (moved l.own.places) ls)) (map (moved r.own.places) (cond c (t ∷ filter (λ s. not (is_met l ls r s)) us) (filter (λ s. not (is_met l ls r s)) us)))) [
          | true ↦ λ h. (cross_one rp t x.1 0 ls lr (not_is (is_met l ls r t) h), rest)
          | false ↦ λ h. rest
        ] refl

    -- no two rows that are kept have one place
    pub apart_is : (op : SetOp) → AreAt labels (lent_labels (lends_right op) r.signed.fed) r.own.places → IsDistinct labels_eq l.signed.fed → IsDistinct labels_eq r.signed.fed → AreApart (rows_kept op l r ls rs)
    apart_is And rp ld rd = moved_apart labels l.signed.fed l.own.places lp ld (is_met r rs l) 0 ls lr
    apart_is Unless rp ld rd = moved_apart labels l.signed.fed l.own.places lp ld (λ s. not (is_met r rs l s)) 0 ls lr
    apart_is Or rp ld rd =
        apart_append (map (moved l.own.places) ls) (map (moved r.own.places) (filter (λ s. not (is_met l ls r s)) rs))
        (subst (λ (z : List Slot). AreApart (map (moved l.own.places) z)) (all_kept ls) (moved_apart labels l.signed.fed l.own.places lp ld (λ s. true) 0 ls lr))
        (moved_apart labels r.signed.fed r.own.places rp rd (λ s. not (is_met l ls r s)) 0 rs rr) (cross_all rp 0 rs rr)

    pub within_is : (op : SetOp) → AreAt labels (lent_labels (lends_right op) r.signed.fed) r.own.places → AreWithin (length labels) (rows_kept op l r ls rs)
    within_is And rp = moved_within labels l.signed.fed l.own.places lp (is_met r rs l) 0 ls lr (length labels) (places_below labels l.signed.fed l.own.places lp)
    within_is Unless rp = moved_within labels l.signed.fed l.own.places lp (λ s. not (is_met r rs l s)) 0 ls lr (length labels) (places_below labels l.signed.fed l.own.places lp)
    within_is Or rp =
        all_append (λ (s : Slot). s.place < length labels) (map (moved l.own.places) ls) (map (moved r.own.places) (filter (λ s. not (is_met l ls r s)) rs))
        (subst (λ (z : List Slot). AreWithin (length labels) (map (moved l.own.places) z)) (all_kept ls) (moved_within labels l.signed.fed l.own.places lp (λ s. true) 0 ls lr (length labels) (places_below labels l.signed.fed l.own.places lp)))
        (moved_within labels r.signed.fed r.own.places rp (λ s. not (is_met l ls r s)) 0 rs rr (length labels) (places_below labels r.signed.fed r.own.places rp))

    -- the step of the rows that are kept, in rising place, is what the operator makes of both steps
    pub lent_is : Laws → (op : SetOp) → AreAt labels (lent_labels (lends_right op) r.signed.fed) r.own.places → IsDistinct labels_eq l.signed.fed → IsDistinct labels_eq r.signed.fed → IsDistinct labels_eq labels
        → (new : List Slot) → Shuffled (rows_kept op l r ls rs) new → SlotsRise 0 (length labels) new → (lm rm : Marks)
        → step_of (entries_of labels new) (united lm rm) ≡ combined (step_of (entries_of l.signed.fed ls) lm) (step_of (entries_of r.signed.fed rs) rm) op p
    lent_is laws op rp ld rd dd new s rise lm rm = by_op laws op (step_of (entries_of l.signed.fed ls) lm) (step_of (entries_of r.signed.fed rs) rm) (step_of (entries_of labels new) (united lm rm)) (rows_at l.signed.fed ls) (rows_at r.signed.fed rs) p
        (alike_rows laws l.signed.fed ls lm ld lr) (alike_rows laws r.signed.fed rs rm rd rr) refl (laws.tables l.signed.fed (placed_step ls lm)) (laws.tables r.signed.fed (placed_step rs rm)) (laws.tables labels (placed_step new (united lm rm)))
        (subst (λ (z : List Row). Shuffled z (step_of (entries_of labels new) (united lm rm)).table.rows) (rows_are op rp)
        (joined (rows_at labels (rows_kept op l r ls rs)) (rows_at labels new) (step_of (entries_of labels new) (united lm rm)).table.rows
        (mapped_shuffled row_of (entries_of labels (rows_kept op l r ls rs)) (entries_of labels new) (chosen_shuffled (entry_of labels) (rows_kept op l r ls rs) new s))
        (alike_rows laws labels new (united lm rm) dd rise).rows))

-- ---- what is fed

-- no two labels are equal, all have their names, and the rows of both sides stand in rising place
pub record AreFed (names : Naming) (labels : List Names) (ls rs : List Slot) : Type 0 where
  pub signatures : IsDistinct labels_eq names.signatures.labels
  pub labels_apart : IsDistinct labels_eq labels
  pub lefts : IsDistinct labels_eq names.left.signed.fed
  pub rights : IsDistinct labels_eq names.right.signed.fed
  pub named : AreNamed names labels
  pub left_rise : SlotsRise 0 (length names.left.signed.fed) ls
  pub right_rise : SlotsRise 0 (length names.right.signed.fed) rs

pub side_count : (p : Pairing) (lends : Bool) (signatures labels : List Names) (side : Side) → IsNamed p lends signatures labels side → length side.signed.places ≡ length side.signed.fed
side_count p lends signatures labels side n = at_length signatures (map (signature_by p) side.signed.fed) side.signed.places n.numbers ∙ count_of (signature_by p) side.signed.fed

-- where rows of the side are lent there are as many places as labels
pub lent_count : (p : Pairing) (op : SetOp) (signatures labels : List Names) (side : Side) → IsNamed p (lends_right op) signatures labels side → op ≡ Or → length side.own.places ≡ length side.signed.fed
lent_count p op signatures labels side n e = at_length labels (lent_labels (lends_right op) side.signed.fed) side.own.places n.places ∙ ap (λ (o : SetOp). length (lent_labels (lends_right o) side.signed.fed)) e

pub rise_made : (names : Naming) (labels : List Names) (ls rs kept sorted : List Slot) → AreFed names labels ls rs → kept ≡ rows_kept names.op names.left names.right ls rs
    → ((high : ℕ) → AreWithin high kept → AreApart kept → SlotsRise 0 high sorted) → SlotsRise 0 (length labels) sorted
rise_made names labels ls rs kept sorted f e r =
    let left = f.named.left in
    let right = f.named.right in
    r (length labels)
    (subst (AreWithin (length labels)) (sym e) (within_is names.pairing names.signatures.labels labels f.signatures names.left names.right left.numbers right.numbers left.places ls rs f.left_rise f.right_rise names.op right.places))
    (subst AreApart (sym e) (apart_is names.pairing names.signatures.labels labels f.signatures names.left names.right left.numbers right.numbers left.places ls rs f.left_rise f.right_rise names.op right.places f.lefts f.rights))

-- the step that is put, by what is known of each of its parts
pub one_made : Laws → (names : Naming) (labels : List Names) (ls rs kept sorted : List Slot) (lm rm : Marks) (t : Ms) (a b : StepAt) (old new : List StepAt) → AreFed names labels ls rs
    → kept ≡ rows_kept names.op names.left names.right ls rs → Shuffled kept sorted → ((high : ℕ) → AreWithin high kept → AreApart kept → SlotsRise 0 high sorted)
    → a ≡ record { at = t; step = step_of (entries_of names.left.signed.fed ls) lm } → b.step ≡ step_of (entries_of names.right.signed.fed rs) rm
    → new ≡ old ++ record { at = t; step = step_of (entries_of labels sorted) (united lm rm) } ∷ [] → new ≡ old ++ combined_at names.op names.pairing a b ∷ []
one_made laws names labels ls rs kept sorted lm rm t a b old new f e s r ea eb n =
    let left = f.named.left in
    let right = f.named.right in
    let L : Step = step_of (entries_of names.left.signed.fed ls) lm in
    let R : Step = step_of (entries_of names.right.signed.fed rs) rm in
    let is : step_of (entries_of labels sorted) (united lm rm) ≡ combined L R names.op names.pairing =
    lent_is names.pairing names.signatures.labels labels f.signatures names.left names.right left.numbers right.numbers left.places ls rs f.left_rise f.right_rise laws names.op right.places f.lefts f.rights f.labels_apart sorted
    (subst (λ (z : List Slot). Shuffled z sorted) e s) (rise_made names labels ls rs kept sorted f e r) lm rm in
    let there : combined_at names.op names.pairing a b ≡ record { at = t; step = combined L R names.op names.pairing } = λ j. record { at = (ea j).at; step = combined (ea j).step (eb j) names.op names.pairing } in
    n ∙ ap (λ (z : Step). old ++ record { at = t; step = z } ∷ []) is ∙ ap (λ (z : StepAt). old ++ z ∷ []) (sym there)
