-- Steps that are put value by value, or whole.
use Rattle.std.proofs.Common.{◌≡◌, ◌∙◌, ◌+◌, ◌<◌, ◌≤◌, ℕ, zero, suc, arith, Bool, true, false, List, [], ◌∷◌, ◌++◌, length, get_or, take, drop, map, refl, sym, ap, subst, Option, Some, None}
use Rattle.std.specs.Prelude.{◌||◌, slice_get, pos, if◌then◌else◌}
use Rattle.std.specs.List.{IsDistinct, cons_option}
use Rattle.std.specs.List.Sorted.{IsStrictlySortedBy}
use Rattle.std.specs.Option.{option_map}
use Rattle.std.proofs.lemmas.Grind.{fold-append}
use Rattle.label_set.specs.LabelEquality.{labels_eq}
use Rattle.label_set.specs.declared.rules.Card.{Card}
use Rattle.label_set.specs.declared.rules.Pairing.{Pairing}
use Rattle.step_table.specs.Operators.{is_left_one}
use Rattle.step_batch.specs.Laws.{LentRowsAreTables, LentRowsAreThoseOfSlots, rows_at}
use Rattle.step_batch.specs.Lent.{Lent, SlotsRise, entries_of, entry_in, no_marks, on_last, row_of, stage_with_marks, stage_with_row, step_of}
use Rattle.step_batch.specs.Tables.{in_order, put_into}
use Rattle.step_batch.specs.declared.steps.PlacedStep.{PlacedStep}
use Rattle.step_batch.specs.declared.steps.Slot.{Slot}
use Rattle.step_table.specs.Groups.{Names}
use Rattle.step_table.specs.Laws.{PairedIsWellFormed}
use Rattle.step_table.specs.Matching.{is_empty, paired}
use Rattle.step_table.specs.Shuffles.{AreAlike, PairedIgnoresOrder, Shuffled, TableIsOneOrder, joined}
use Rattle.step_table.specs.Shuffling.{turned_back}
use Rattle.step_table.specs.Timed.{StepAt}
use Rattle.step_table.specs.Unions.{set_of, united, with_fatal}
use Rattle.step_table.specs.Orders.{mark_cmp}
use Rattle.step_table.specs.WellFormed.{IsTable}
use Rattle.step_table.specs.declared.marks.Mark.{Mark}
use Rattle.step_table.specs.declared.marks.Marks.{Marks}
use Rattle.step_table.specs.declared.step.Row.{Row}
use Rattle.step_table.specs.declared.step.Step.{Step}
use Rattle.ticks.specs.declared.moment.Ms.{Ms}
use Rattle.xfrac.specs.declared.value.PairOp.{PairOp}
use Rattle.xfrac.specs.declared.value.XFrac.{XFrac}
use Rattle.op_match.specs.Joins.{joined_at}
use Rattle.op_match.specs.Places.{IsAfter, IsMade, IsMatching, IsReady, Stays, many_of, names_fed, one_of, rows_in, step_with}
use Rattle.op_match.specs.declared.renewal.Matching.{Matching}
use Rattle.op_match.specs.declared.sides.Fed.{Fed}
use Rattle.op_match.proofs.Keeping.{keeps_on}
use Rattle.op_match.proofs.Rising.{more_room}
use Rattle.op_match.proofs.Lists.{there}

-- ---- values in the last step

on_last_one : (f : StepAt → StepAt) (front : List StepAt) (s : StepAt) → on_last f (front ++ s ∷ []) ≡ front ++ f s ∷ []
on_last_one f [] s = refl
on_last_one f (x ∷ []) s = refl
on_last_one f (x ∷ y ∷ front) s = ap (λ (r : List StepAt). x ∷ r) (on_last_one f (y ∷ front) s)

back : (es : List (Names × XFrac)) → map entry_in (map row_of es) ≡ es
back [] = refl
back (e ∷ es) = ap (λ r. e ∷ r) (back es)

stage_more : (at : Ms) (es : List (Names × XFrac)) (marks : Marks) (n : Names) (v : XFrac) → stage_with_row n v (record { at = at; step = step_of es marks }) ≡ record { at = at; step = step_of (es ++ (n, v) ∷ []) marks }
stage_more at es marks n v =
    ap (λ (z : List (Names × XFrac)). record { at = at; step = record { table = record { rows = map row_of z }; marks = marks } }) (ap (λ (z : List (Names × XFrac)). put_into z (n, v)) (back (in_order es)) ∙ sym (fold-append put_into [] es ((n, v) ∷ [])))

entries_more : (labels : List Names) (slots : List Slot) (i : ℕ) (s : Slot) (n : Names) → i < length slots → s ≡ get_or slots i s → slice_get labels s.place ≡ Some n → entries_of labels (take (i + 1) slots) ≡ entries_of labels (take i slots) ++ (n, s.value) ∷ []
entries_more labels [] i s n l is h = absurd (omega arith)
entries_more labels (x ∷ slots) zero s n l is h = subst (λ (z : Slot). entries_of labels (z ∷ []) ≡ (n, s.value) ∷ []) is (ap (λ (o : Option Names). cons_option (option_map (λ (m : Names). (m, s.value)) o) []) h)
entries_more labels (x ∷ slots) (suc i) s n l is h =
    let e : suc i + 1 ≡ suc (i + 1) = omega arith in
    rw e (one (option_map (λ (m : Names). (m, x.value)) (slice_get labels x.place)) (entries_more labels slots i s n (omega arith) is h))
  where
    one : (o : Option (Names × XFrac)) → entries_of labels (take (i + 1) slots) ≡ entries_of labels (take i slots) ++ (n, s.value) ∷ []
        → cons_option o (entries_of labels (take (i + 1) slots)) ≡ cons_option o (entries_of labels (take i slots)) ++ (n, s.value) ∷ []
    one None e = e
    one (Some x) e = ap (λ (es : List (Names × XFrac)). x ∷ es) e

-- one more value in the last step
pub value_put : (labels : List Names) (was now front : List StepAt) (at : Ms) (marks : Marks) (slots : List Slot) (i : ℕ) (s : Slot) → i < length slots → s ≡ get_or slots i s → s.place < length labels
    → ((names : Names) → slice_get labels s.place ≡ Some names → now ≡ on_last (stage_with_row names s.value) was) → was ≡ front ++ record { at = at; step = step_of (entries_of labels (take i slots)) marks } ∷ []
    → now ≡ front ++ record { at = at; step = step_of (entries_of labels (take (i + 1) slots)) marks } ∷ []
value_put labels was now front at marks slots i s l is w put o =
    let n : Names = get_or labels s.place [] in
    let here : slice_get labels s.place ≡ Some n = there labels s.place [] w in
    put n here ∙ ap (on_last (stage_with_row n s.value)) o ∙ on_last_one (stage_with_row n s.value) front (record { at = at; step = step_of (entries_of labels (take i slots)) marks })
    ∙ ap (λ (z : StepAt). front ++ z ∷ []) (stage_more at (entries_of labels (take i slots)) marks n s.value)
    ∙ ap (λ (es : List (Names × XFrac)). front ++ record { at = at; step = step_of es marks } ∷ []) (sym (entries_more labels slots i s n l is here))

pub rise_on : (low high : ℕ) (slots : List Slot) (i : ℕ) (s : Slot) → i < length slots → s ≡ get_or slots i s → SlotsRise low high (drop i slots) → (low ≤ s.place) × (s.place < high) × SlotsRise (s.place + 1) high (drop (i + 1) slots)
rise_on low high [] i s l is r = absurd (omega arith)
rise_on low high (x ∷ slots) zero s l is r = subst (λ (z : Slot). (low ≤ z.place) × (z.place < high) × SlotsRise (z.place + 1) high slots) (sym is) r
rise_on low high (x ∷ slots) (suc i) s l is r = let e : suc i + 1 ≡ suc (i + 1) = omega arith in rw e (rise_on low high slots i s (omega arith) is r)

-- the marks of a step that was begun, and those at its end
pub unite_first : (front began now : List StepAt) (at : Ms) (marks : Marks) → began ≡ front ++ record { at = at; step = step_of [] no_marks } ∷ [] → now ≡ on_last (stage_with_marks marks) began
    → now ≡ front ++ record { at = at; step = step_of [] marks } ∷ []
unite_first front began now at marks b n = n ∙ ap (on_last (stage_with_marks marks)) b ∙ on_last_one (stage_with_marks marks) front (record { at = at; step = step_of [] no_marks })

pub unite_last : (front put now : List StepAt) (at : Ms) (marks more : Marks) (es : List (Names × XFrac)) (fatal : List Mark) → put ≡ front ++ record { at = at; step = step_of es marks } ∷ [] → now ≡ on_last (stage_with_marks more) put
    → more ≡ record { fatal = set_of mark_cmp fatal; notes = [] } → now ≡ front ++ record { at = at; step = step_of es (with_fatal marks fatal) } ∷ []
unite_last front put now at marks more es fatal p n m =
    n ∙ ap (on_last (stage_with_marks more)) p ∙ on_last_one (stage_with_marks more) front (record { at = at; step = step_of es marks })
    ∙ ap (λ (z : Marks). front ++ record { at = at; step = step_of es (united marks z) } ∷ []) m

-- ---- steps that are lent

module _ (law : LentRowsAreThoseOfSlots) (order : PairedIgnoresOrder) where
  pub alike : (labels : List Names) (slots : List Slot) (marks : Marks) → IsDistinct labels_eq labels → SlotsRise 0 (length labels) slots → AreAlike (step_of (entries_of labels slots) marks) (step_with (rows_in labels slots) marks)
  alike labels slots marks d r =
      let placed : PlacedStep = record { at = record { 0 = pos 0 }; slots = slots; marks = marks } in
      let same : Shuffled (rows_at labels placed) (step_of (entries_of labels slots) marks).table.rows = law (record { labels = labels; steps = [] }) placed (record { distinct = d; placed = tt; rising = tt }) r in
      record { rows = turned_back (rows_at labels placed) (step_of (entries_of labels slots) marks).table.rows same; marks = refl }

  pub paired_rows : (op : PairOp) (p : Pairing) (left right : List Names) (xs ys : List Slot) (a b : Marks) → IsDistinct labels_eq left → IsDistinct labels_eq right → SlotsRise 0 (length left) xs → SlotsRise 0 (length right) ys
      → paired (step_of (entries_of left xs) a) (step_of (entries_of right ys) b) op p ≡ paired (step_with (rows_in left xs) a) (step_with (rows_in right ys) b) op p
  paired_rows op p left right xs ys a b d e r s =
      order op p (step_of (entries_of left xs) a) (step_with (rows_in left xs) a) (step_of (entries_of right ys) b) (step_with (rows_in right ys) b) (alike left xs a d r) (alike right ys b e s)

  -- values that are put are the operator's
  pub made_step : TableIsOneOrder → LentRowsAreTables → (op : PairOp) (p : Pairing) (labels : List Names) (left right : List Row) (slots : List Slot) (fatal : List Mark) (a b : Marks) → IsDistinct labels_eq labels → IsMade op p labels left right slots fatal
      → step_of (entries_of labels slots) (with_fatal (united a b) fatal) ≡ paired (step_with left a) (step_with right b) op p
  made_step one tables op p labels left right slots fatal a b d m =
      let marks : Marks = with_fatal (united a b) fatal in
      let placed : PlacedStep = record { at = record { 0 = pos 0 }; slots = slots; marks = marks } in
      let whole : Step = step_of (entries_of labels slots) marks in
      let same : Shuffled whole.table.rows (rows_in labels slots) = (alike labels slots marks d m.rising).rows in
      let rows : whole.table.rows ≡ m.table = one whole.table.rows m.table (tables labels placed) m.sorted (joined whole.table.rows (rows_in labels slots) m.table same m.rows) in
      ap (λ (rs : List Row). step_with rs marks) rows ∙ sym (m.made a b)

module _ (law : LentRowsAreThoseOfSlots) (order : PairedIgnoresOrder) (op : PairOp) (p : Pairing) (left right : List Names) (xs ys : List Slot) (a b : Marks) (t : Ms) (l r : StepAt) (old new : List StepAt)
    (dl : IsDistinct labels_eq left) (dr : IsDistinct labels_eq right) (ul : SlotsRise 0 (length left) xs) (ur : SlotsRise 0 (length right) ys)
    (el : l ≡ record { at = t; step = step_of (entries_of left xs) a }) (er : r.step ≡ step_of (entries_of right ys) b) where
  -- what is put of the rows in the order of places is put of the steps
  pub whole_joined : new ≡ old ++ record { at = t; step = paired (step_with (rows_in left xs) a) (step_with (rows_in right ys) b) op p } ∷ [] → new ≡ old ++ joined_at op p l r ∷ []
  whole_joined n =
      let there : joined_at op p l r ≡ record { at = t; step = paired (step_of (entries_of left xs) a) (step_of (entries_of right ys) b) op p } = λ i. record { at = (el i).at; step = paired (el i).step (er i) op p } in
      n ∙ ap (λ (z : StepAt). old ++ z ∷ []) (ap (λ (s : Step). record { at = t; step = s }) (sym (paired_rows law order op p left right xs ys a b dl dr ul ur)) ∙ sym there)

  pub clear_joined : TableIsOneOrder → LentRowsAreTables → (labels : List Names) (slots : List Slot) (fatal : List Mark) (marks : Marks) (ls rs : List Row) → IsDistinct labels_eq labels → rows_in left xs ≡ ls → rows_in right ys ≡ rs → IsMade op p labels ls rs slots fatal → marks ≡ united a b
      → new ≡ old ++ record { at = t; step = step_of (entries_of labels slots) (with_fatal marks fatal) } ∷ [] → new ≡ old ++ joined_at op p l r ∷ []
  clear_joined one tables labels slots fatal marks ls rs d x y m e n =
      whole_joined (n ∙ ap (λ (s : Step). old ++ record { at = t; step = s } ∷ []) (ap (λ (z : Marks). step_of (entries_of labels slots) (with_fatal z fatal)) e ∙ made_step law order one tables op p labels ls rs slots fatal a b d m
      ∙ (λ i. paired (step_with (sym x i) a) (step_with (sym y i) b) op p)))

-- ---- the rows of a pairing are a table, whatever the marks are

pub paired_table : PairedIsWellFormed → (l r : Step) (op : PairOp) (p : Pairing) → IsTable l.table.rows → IsTable r.table.rows → IsTable (paired l r op p).table.rows
unfolding IsStrictlySortedBy
paired_table law l r op p x y =
    subst IsTable (same (is_empty l.table.rows || is_empty r.table.rows) refl) (law (step_with l.table.rows no_marks) (step_with r.table.rows no_marks) op p (record { rows = x; marks = record { fatal = tt; notes = tt } }) (record { rows = y; marks = record { fatal = tt; notes = tt } })).rows
  where
    same : (b : Bool) → (is_empty l.table.rows || is_empty r.table.rows) ≡ b → (paired (step_with l.table.rows no_marks) (step_with r.table.rows no_marks) op p).table.rows ≡ (paired l r op p).table.rows
    same true e = rw e refl
    same false e = rw e refl

-- ---- labels that are fed

pub rows_stay : (before after : List Names) (low : ℕ) (slots : List Slot) → Stays before after → SlotsRise low (length before) slots → rows_in before slots ≡ rows_in after slots
rows_stay before after low [] s r = refl
rows_stay before after low (x ∷ slots) s r =
    let n : Names = get_or before x.place [] in
    let here : slice_get before x.place ≡ Some n = there before x.place [] r.1 in
    let same : slice_get before x.place ≡ slice_get after x.place = here ∙ sym (s x.place n here) in
    ap (λ (o : Option Names). map row_of (cons_option (option_map (λ (m : Names). (m, x.value)) o) (entries_of before slots))) same ∙ after_first (option_map (λ (m : Names). (m, x.value)) (slice_get after x.place)) (rows_stay before after (x.place + 1) slots s r.2)
  where
    after_first : (o : Option (Names × XFrac)) → rows_in before slots ≡ rows_in after slots → map row_of (cons_option o (entries_of before slots)) ≡ map row_of (cons_option o (entries_of after slots))
    after_first None e = e
    after_first (Some z) e = ap (λ (rs : List Row). row_of z ∷ rs) e

pub stays_count : (xs ys : List Names) → Stays xs ys → length xs ≤ length ys
stays_count [] ys s = omega arith
stays_count (x ∷ xs) [] s = let e = s 0 x refl in absurd (cc)
stays_count (x ∷ xs) (y ∷ ys) s = let k = stays_count xs ys (λ j z e. s (suc j) z e) in omega arith

-- ---- the sides of a matching

pub whole_table : LentRowsAreThoseOfSlots → PairedIgnoresOrder → LentRowsAreTables → PairedIsWellFormed → (op : PairOp) (p : Pairing) (left right : List Names) (xs ys : List Slot) (a b : Marks) → IsDistinct labels_eq left → IsDistinct labels_eq right → SlotsRise 0 (length left) xs → SlotsRise 0 (length right) ys
    → IsTable (paired (step_with (rows_in left xs) a) (step_with (rows_in right ys) b) op p).table.rows
whole_table law order tables well op p left right xs ys a b dl dr ul ur =
    subst (λ (s : Step). IsTable s.table.rows) (paired_rows law order op p left right xs ys a b dl dr ul ur)
    (paired_table well (step_of (entries_of left xs) a) (step_of (entries_of right ys) b) op p (tables left (record { at = record { 0 = pos 0 }; slots = xs; marks = a })) (tables right (record { at = record { 0 = pos 0 }; slots = ys; marks = b })))

pub many_fit : (card : Card) (left right : List Names) (xs ys : List Slot) (high : ℕ) → length (many_of card left right) ≤ high → SlotsRise 0 (length left) xs → SlotsRise 0 (length right) ys → SlotsRise 0 high (many_of card xs ys)
many_fit card left right xs ys high l r s =
    elim (is_left_one card) as (λ b. length (if b then right else left) ≤ high → SlotsRise 0 high (if b then ys else xs)) [
      | true ↦ λ m. more_room 0 (length right) high ys m s
      | false ↦ λ m. more_room 0 (length left) high xs m r
    ] l

pub one_fit : (card : Card) (left right : List Names) (xs ys : List Slot) (high : ℕ) → length (one_of card left right) ≤ high → SlotsRise 0 (length left) xs → SlotsRise 0 (length right) ys → SlotsRise 0 high (one_of card xs ys)
one_fit card left right xs ys high l r s =
    elim (is_left_one card) as (λ b. length (if b then left else right) ≤ high → SlotsRise 0 high (if b then xs else ys)) [
      | true ↦ λ m. more_room 0 (length left) high xs m r
      | false ↦ λ m. more_room 0 (length right) high ys m s
    ] l

pub sides_stay : (card : Card) (left right many ones : List Names) → Stays (many_of card left right) many → Stays (one_of card left right) ones → Stays left (one_of card ones many) × Stays right (one_of card many ones)
sides_stay card left right many ones s t =
    elim (is_left_one card) as (λ b. Stays (if b then right else left) many → Stays (if b then left else right) ones → Stays left (if b then ones else many) × Stays right (if b then many else ones)) [
      | true ↦ λ m o. (o, m)
      | false ↦ λ m o. (m, o)
    ] s t

pub ready_after : (a b : Matching) (r s : Lent) (many ones : List Names) → IsAfter a r b s → IsReady a many ones → IsReady b many ones
ready_after a b r s many ones h k = record {
  many = subst (λ (fs : List Fed). Stays many (names_fed fs)) (sym h.many) k.many;
  ones = subst (λ (fs : List Fed). Stays ones (names_fed fs)) (sym h.ones) k.ones;
  room = subst (λ (n : ℕ). length many ≤ n) (sym h.room) k.room;
}

pub matching_stays : (m : Matching) (before after : List Names) → Stays before after → IsMatching m before → IsMatching m after
matching_stays m before after s h = record {
  many = h.many;
  ones = h.ones;
  kept = keeps_on m.op m.pairing before after (names_fed m.many) (names_fed m.many) (names_fed m.ones) (names_fed m.ones) m.kept s (λ j x e. e) (λ j x e. e) h.kept;
}
