-- What is found is what the operator makes of both sides.
use Rattle.std.proofs.Common.{◌≡◌, ◌∙◌, ◌<◌, ◌+◌, ℕ, arith, Bool, true, false, List, [], ◌∷◌, map, length, refl, sym, ap, subst, Option, None}
use Rattle.std.specs.Prelude.{◌||◌, IsTrue, if◌then◌else◌}
use Rattle.std.specs.BTreeMap.{is_at}
use Rattle.std.specs.List.{AllByRecursion, IsDistinct, cons_option}
use Rattle.std.specs.List.Sorted.{IsPermutation, IsStrictlySortedBy}
use Rattle.std.specs.Map.{keys_of, values_of}
use Rattle.std.specs.Option.{option_map}
use Rattle.std.proofs.lemmas.Map.Keys.{IsDistinct-IsPermutation}
use Rattle.label_set.specs.LabelEquality.{labels_eq}
use Rattle.label_set.specs.LabelOrder.{labels_eq_at, labels_eq_equivalence}
use Rattle.label_set.specs.Labels.{labels_cmp}
use Rattle.label_set.specs.declared.rules.Pairing.{Pairing}
use Rattle.step_batch.specs.Lent.{SlotsRise, entries_of, entry_of, row_of}
use Rattle.step_batch.specs.declared.steps.Slot.{Slot}
use Rattle.step_put.specs.Placed.{do_rise}
use Rattle.step_put.specs.Puts.{AreAt}
use Rattle.step_table.specs.Gathering.{nothing_more}
use Rattle.step_table.specs.Groups.{Names}
use Rattle.step_table.specs.Matching.{by_signature, is_empty, many_side, one_side, pair_marks, pair_rows, paired}
use Rattle.step_table.specs.Operators.{is_grouped, is_left_one}
use Rattle.step_table.specs.Outcomes.{keyed}
use Rattle.step_table.specs.Shuffles.{Shuffled, joined, kept, none, swapped}
use Rattle.step_table.specs.Shuffling.{chosen_shuffled, from_permutation, mapped_shuffled, to_permutation, turned_back}
use Rattle.step_table.specs.Unions.{united, with_fatal}
use Rattle.step_table.specs.declared.marks.Mark.{Mark}
use Rattle.step_table.specs.declared.marks.Marks.{Marks}
use Rattle.step_table.specs.declared.step.Row.{Row}
use Rattle.step_table.specs.declared.step.Step.{Step}
use Rattle.xfrac.specs.declared.value.PairOp.{PairOp}
use Rattle.op_match.specs.Apart.{AreApart, IsClear, IsPairByPair, PairsAreTaken, pairs_left}
use Rattle.op_match.specs.Noted.{IsNoted}
use Rattle.op_match.specs.Places.{ArePairs, ArePut, IsMade, IsOneSide, IsPaired, has_no_slots, many_of, one_of, rows_in, step_with}
use Rattle.op_match.specs.declared.meeting.Found.{Found}
use Rattle.op_match.specs.declared.meeting.OneSide.{OneSide}
use Rattle.op_match.proofs.Finding.{AreOnce, apart_keys, noted_once}
use Rattle.op_match.proofs.Lists.{there, within}
use Rattle.op_match.proofs.Rising.{rise_below}

-- ---- labels apart, in any order

abbrev ties : Names → Names → Bool
ties a b = is_at (labels_cmp a) b

distinct_from : (ns : List Names) → AreApart ns → IsDistinct ties ns
unfolding IsDistinct
distinct_from [] a = tt
distinct_from (n ∷ ns) a = (a.0, distinct_from ns a.1)

apart_from : (ns : List Names) → IsDistinct ties ns → AreApart ns
unfolding IsDistinct
apart_from [] a = tt
apart_from (n ∷ ns) a = (a.0, apart_from ns a.1)

apart_shuffled : (xs ys : List Names) → Shuffled xs ys → AreApart xs → AreApart ys
apart_shuffled xs ys s a =
    apart_from ys (IsDistinct-IsPermutation ties (λ x y. labels_eq_at x y ∙ labels_eq_equivalence.symm x y ∙ sym (labels_eq_at y x)) xs ys (to_permutation xs ys s) (distinct_from xs a))

all_shuffled : {A : Type 0} (P : A → Type 0) (xs ys : List A) → Shuffled xs ys → AllByRecursion P xs → AllByRecursion P ys
all_shuffled P _ _ none a = tt
all_shuffled P _ _ (kept x xs ys s) a = (a.0, all_shuffled P xs ys s a.1)
all_shuffled P _ _ (swapped x y xs) a = (a.1.0, (a.0, a.1.1))
all_shuffled P _ _ (joined xs ys zs s t) a = all_shuffled P ys zs t (all_shuffled P xs ys s a)

-- ---- values at places

abbrev places : List Slot → List ℕ
places [] = []
places (s ∷ slots) = s.place ∷ places slots

rise_once : (low high : ℕ) (slots : List Slot) → SlotsRise low high slots → AreOnce (places slots)
rise_once low high [] r = tt
rise_once low high (s ∷ slots) r = (behind (s.place + 1) slots r.2 (omega arith), rise_once (s.place + 1) high slots r.2)
  where
    behind : (from : ℕ) (slots : List Slot) → SlotsRise from high slots → s.place < from → AllByRecursion (λ (m : ℕ). s.place ≡ m → ⊥) (places slots)
    behind from [] r l = tt
    behind from (x ∷ slots) r l = ((λ e. omega (arith, r.0)), behind (x.place + 1) slots r.2 (omega (arith, r.0)))

put_rows : (labels : List Names) (slots : List Slot) (rows : List Row) → ArePut labels slots rows → rows_in labels slots ≡ rows
put_rows labels [] [] a = refl
put_rows labels [] (r ∷ rows) a = absurd a
put_rows labels (s ∷ slots) [] a = absurd a
put_rows labels (s ∷ slots) (r ∷ rows) a =
    ap (λ (o : Option Names). map row_of (cons_option (option_map (λ (n : Names). (n, s.value)) o) (entries_of labels slots))) a.0
    ∙ ap (λ (z : Row). z ∷ rows_in labels slots) (let v = a.1 in λ i. record { labels = r.labels; value = v i }) ∙ ap (λ (rs : List Row). r ∷ rs) (put_rows labels slots rows a.2)

put_below : (labels : List Names) (slots : List Slot) (rows : List Row) → ArePut labels slots rows → AllByRecursion (λ (s : Slot). s.place < length labels) slots
put_below labels [] [] a = tt
put_below labels [] (r ∷ rows) a = absurd a
put_below labels (s ∷ slots) [] a = absurd a
put_below labels (s ∷ slots) (r ∷ rows) a = (within labels s.place r.labels a.0, put_below labels slots rows a.2)

places_at : (labels : List Names) (low : ℕ) (slots : List Slot) → SlotsRise low (length labels) slots → AreAt labels (keys_of (keyed (rows_in labels slots))) (places slots)
places_at labels low [] r = tt
places_at labels low (s ∷ slots) r =
    subst (λ (o : Option Names). AreAt labels (keys_of (keyed (map row_of (cons_option (option_map (λ (n : Names). (n, s.value)) o) (entries_of labels slots))))) (s.place ∷ places slots)) (sym (there labels s.place [] r.1))
    (there labels s.place [] r.1, places_at labels (s.place + 1) slots r.2)

rows_shuffled : (labels : List Names) (xs ys : List Slot) → Shuffled xs ys → Shuffled (rows_in labels xs) (rows_in labels ys)
rows_shuffled labels xs ys s = mapped_shuffled row_of (entries_of labels xs) (entries_of labels ys) (chosen_shuffled (entry_of labels) xs ys s)

keys_shuffled : (xs ys : List Row) → Shuffled xs ys → Shuffled (keys_of (keyed xs)) (keys_of (keyed ys))
keys_shuffled xs ys s = mapped_shuffled (λ (e : Names × Row). e.0) (keyed xs) (keyed ys) (mapped_shuffled (λ (r : Row). (r.labels, r)) xs ys s)

-- ---- a many and a one side

pub found_paired : PairsAreTaken → (op : PairOp) (p : Pairing) (set labels : List Names) (many ones : List Row) (side : OneSide) (found : Found) (at : List ℕ) (slots : List Slot) → IsOneSide set p ones side → IsDistinct labels_eq labels → ArePairs op p set labels many ones found
    → (is_grouped p.card ≡ false → IsNoted at found.numbers.items) → IsPermutation found.slots.items slots → IsTrue (do_rise None slots) → IsPaired op p labels many ones slots found.fatal
found_paired law op p set labels many ones side found at slots one d f noted order rise =
    let left : List Row = values_of (pairs_left op p many ones) in
    let same : Shuffled found.slots.items slots = from_permutation found.slots.items slots order in
    let rows : rows_in labels found.slots.items ≡ left = put_rows labels found.slots.items left f.slots in
    let moved : Shuffled left (rows_in labels slots) = subst (λ (rs : List Row). Shuffled rs (rows_in labels slots)) rows (rows_shuffled labels found.slots.items slots same) in
    let up : SlotsRise 0 (length labels) slots = rise_below 0 (length labels) None slots (all_shuffled (λ (s : Slot). s.place < length labels) found.slots.items slots same (put_below labels found.slots.items left f.slots)) (λ n h. omega arith) rise in
    let apart : AreApart (keys_of (keyed (rows_in labels slots))) = apart_keys labels (keys_of (keyed (rows_in labels slots))) (places slots) d (places_at labels 0 slots up) (rise_once 0 (length labels) slots up) in
    let clear : IsClear op p many ones = record {
      one_side = apart_keys set (keys_of (by_signature p ones)) side.numbers.items one.distinct one.numbers (noted_once side.at.items side.numbers.items one.noted);
      pairs = λ e. apart_keys set (keys_of (pairs_left op p many ones)) found.numbers.items one.distinct f.numbers (noted_once at found.numbers.items (noted e));
      labels = apart_shuffled (keys_of (keyed (rows_in labels slots))) (keys_of (keyed left)) (keys_shuffled (rows_in labels slots) left (turned_back left (rows_in labels slots) moved)) apart;
    } in
    let taken : IsPairByPair op p many ones = law op p many ones clear in
    record {
      rising = up;
      rows = joined (rows_in labels slots) left (pair_rows op p many ones) (turned_back left (rows_in labels slots) moved) taken.rows;
      table = taken.table;
      marks = taken.marks ∙ sym f.marks;
    }

-- ---- a left and a right side

not_bare : (labels : List Names) (low : ℕ) (slots : List Slot) → SlotsRise low (length labels) slots → has_no_slots slots ≡ is_empty (rows_in labels slots)
not_bare labels low [] r = refl
not_bare labels low (s ∷ slots) r = sym (ap (λ (o : Option Names). is_empty (map row_of (cons_option (option_map (λ (n : Names). (n, s.value)) o) (entries_of labels slots)))) (there labels s.place [] r.1))

module _ (op : PairOp) (p : Pairing) (left right : List Row) where
  abbrev by_bare : Bool → Marks → Marks → Step
  by_bare bare a b = if bare then step_with [] (united a b)
      else step_with (pair_rows op p (many_side p.card left right) (one_side p.card left right)) (with_fatal (united a b) (pair_marks op p (many_side p.card left right) (one_side p.card left right)))

  bare_is : (a b : Marks) (bare : Bool) → (is_empty left || is_empty right) ≡ bare → paired (step_with left a) (step_with right b) op p ≡ by_bare bare a b
  bare_is a b bare e = ap (λ (c : Bool). by_bare c a b) e

  pub none_made : (labels : List Names) → (is_empty left || is_empty right) ≡ true → IsMade op p labels left right [] []
  unfolding IsStrictlySortedBy
  none_made labels e = record { rising = tt; table = []; sorted = tt; rows = none; made = λ a b. bare_is a b true e ∙ ap (step_with []) (sym (nothing_more (united a b))) }

  pub some_made : (labels : List Names) (slots : List Slot) (fatal : List Mark) → (is_empty left || is_empty right) ≡ false → IsPaired op p labels (many_side p.card left right) (one_side p.card left right) slots fatal → IsMade op p labels left right slots fatal
  some_made labels slots fatal e h = record {
    rising = h.rising;
    table = pair_rows op p (many_side p.card left right) (one_side p.card left right);
    sorted = h.table;
    rows = h.rows;
    made = λ a b. bare_is a b false e ∙ ap (λ (ms : List Mark). step_with (pair_rows op p (many_side p.card left right) (one_side p.card left right)) (with_fatal (united a b) ms)) h.marks;
  }

-- the sides of a matching
module _ (op : PairOp) (p : Pairing) (labels many ones : List Names) (left right : List Slot)
    (r : SlotsRise 0 (length many) (many_of p.card left right)) (s : SlotsRise 0 (length ones) (one_of p.card left right)) where
  abbrev left_rows : List Row
  left_rows = rows_in (one_of p.card ones many) left

  abbrev right_rows : List Row
  right_rows = rows_in (one_of p.card many ones) right

  bare_same : (b : Bool) → is_left_one p.card ≡ b → (has_no_slots left || has_no_slots right) ≡ (is_empty left_rows || is_empty right_rows)
  bare_same true e =
      let l = not_bare ones 0 left (subst (SlotsRise 0 (length ones)) (rw e refl) s) in
      let m = not_bare many 0 right (subst (SlotsRise 0 (length many)) (rw e refl) r) in
      rw e (λ i. l i || m i)
  bare_same false e =
      let l = not_bare many 0 left (subst (SlotsRise 0 (length many)) (rw e refl) r) in
      let m = not_bare ones 0 right (subst (SlotsRise 0 (length ones)) (rw e refl) s) in
      rw e (λ i. l i || m i)

  pub bare_made : (has_no_slots left || has_no_slots right) ≡ true → IsMade op p labels left_rows right_rows [] []
  bare_made e = none_made op p left_rows right_rows labels (sym (bare_same (is_left_one p.card) refl) ∙ e)

  pub left_one_made : (slots : List Slot) (fatal : List Mark) → is_left_one p.card ≡ true → (has_no_slots left || has_no_slots right) ≡ false → IsPaired op p labels (rows_in many right) (rows_in ones left) slots fatal → IsMade op p labels left_rows right_rows slots fatal
  left_one_made slots fatal e n h = some_made op p left_rows right_rows labels slots fatal (sym (bare_same true e) ∙ n) (rw e h)

  pub right_one_made : (slots : List Slot) (fatal : List Mark) → is_left_one p.card ≡ false → (has_no_slots left || has_no_slots right) ≡ false → IsPaired op p labels (rows_in many left) (rows_in ones right) slots fatal → IsMade op p labels left_rows right_rows slots fatal
  right_one_made slots fatal e n h = some_made op p left_rows right_rows labels slots fatal (sym (bare_same false e) ∙ n) (rw e h)

pub either : (a b c d : Bool) → c ≡ a → d ≡ b → (a || b) ≡ (c || d)
either a b c d e f = sym (λ i. e i || f i)
