-- What is made of the rows of a step is what the rule makes of it.
use Rattle.std.proofs.Common.{◌≡◌, ◌∙◌, ◌+◌, ◌<◌, ◌≤◌, ℕ, zero, suc, arith, Bool, true, false, cond, List, [], ◌∷◌, ◌++◌, length, get_or, slice_get, take, map, refl, sym, ap, subst, Option, Some, None, Ok, Err}
use Rattle.std.specs.Prelude.{pos}
use Rattle.std.specs.List.{AllByRecursion, IsDistinct, cons_option, filter_map}
use Rattle.std.specs.List.Sorted.{IsStrictlySortedBy}
use Rattle.std.specs.Option.{option_map, option_to_list}
use Rattle.std.specs.declared.cmp.Ordering.TheVariants.{Less}
use Rattle.label_set.specs.LabelEquality.{labels_eq}
use Rattle.label_set.specs.Labels.{labels_cmp}
use Rattle.label_set.specs.declared.rules.Relabel.{Relabel}
use Rattle.label_set.specs.declared.rules.Relabel.TheVariants.{Replace, Join, Filter}
use Rattle.label_set.specs.declared.rules.Rule.{Rule}
use Rattle.match_rule.specs.Patterns.{labels_pass}
use Rattle.promql_meaning.specs.Filters.{passing_rows}
use Rattle.promql_meaning.specs.Relabels.{joined_labels, replaced_labels}
use Rattle.step_batch.specs.Laws.{LentRowsAreTables, LentRowsAreThoseOfSlots}
use Rattle.step_batch.specs.Lent.{SlotsRise, entries_of, row_of, step_of}
use Rattle.step_batch.specs.declared.steps.PlacedStep.{PlacedStep}
use Rattle.step_batch.specs.declared.steps.Slot.{Slot}
use Rattle.step_put.specs.Placed.{PlacesRise, made_step, outcomes_of}
use Rattle.step_put.specs.declared.labels_left.Left.{Left}
use Rattle.step_put.specs.declared.labels_left.Left.TheVariants as kind
use Rattle.step_put.specs.declared.placed.PlacedOutcome.{PlacedOutcome}
use Rattle.step_table.specs.Gathering.{nothing_more, settled_table}
use Rattle.step_table.specs.Groups.{Names}
use Rattle.step_table.specs.Matching.{labelled}
use Rattle.step_table.specs.Outcomes as outcomes
use Rattle.step_table.specs.Outcomes.{mark_of, settled, taken}
use Rattle.step_table.specs.Shuffles.{OutcomesIgnoreOrder, Shuffled}
use Rattle.step_table.specs.Shuffling.{chosen_shuffled}
use Rattle.step_table.specs.Timed.{StepAt}
use Rattle.step_table.specs.Unions.{with_fatal}
use Rattle.step_table.specs.WellFormed.{IsTable}
use Rattle.step_table.specs.declared.marks.Mark.{Mark}
use Rattle.step_table.specs.declared.marks.Marks.{Marks}
use Rattle.step_table.specs.declared.outcomes.Outcome.{Outcome}
use Rattle.step_table.specs.declared.step.Row.{Row}
use Rattle.step_table.specs.declared.step.Step.{Step}
use Rattle.ticks.specs.declared.moment.Ms.{Ms}
use Rattle.xfrac.specs.declared.value.NumFault.TheVariants.{Overflow}
use Rattle.xfrac.specs.declared.value.XFrac.{XFrac}
use Rattle.op_labels.specs.Rules.{AreMade, Kept, fate_by, fated, filtered, labels_by, relabelled_at, relabelled_step, remade, slot_fated, slots_placed, text_at}
use Rattle.op_labels.specs.declared.change.Fate.{Fate}
use Rattle.op_labels.specs.declared.change.Fate.TheVariants.{Stays, Beyond, Out}

-- ---- what becomes of a row

abbrev outcome_fated : Fate → Names → XFrac → Option Outcome
outcome_fated Stays names value = Some (record { labels = names; value = Ok (Some value) })
outcome_fated Beyond names value = Some (record { labels = names; value = Err Overflow })
outcome_fated Out names value = None

abbrev row_fated : Kept → Relabel → Row → Option Outcome
row_fated kept rule row = outcome_fated (fate_by kept rule row.labels) (labels_by kept rule row.labels) row.value

-- ---- slots

get_there : (labels : List Names) (i : ℕ) (d : Names) → i < length labels → slice_get labels i ≡ Some (get_or labels i d)
get_there [] i d h = absurd (omega arith)
get_there (l ∷ labels) zero d h = refl
get_there (l ∷ labels) (suc i) d h = get_there labels i d (omega arith)

get_mapped : {A B : Type 0} (f : A → B) (xs : List A) (i : ℕ) (x : A) → slice_get xs i ≡ Some x → slice_get (map f xs) i ≡ Some (f x)
get_mapped f [] i x e = absurd (cc)
get_mapped f (y ∷ xs) zero x e = let same : y ≡ x = cc in ap (λ z. Some (f z)) same
get_mapped f (y ∷ xs) (suc i) x e = get_mapped f xs i x e

one_outcome : (fate : Fate) (made : List Names) (names : Names) (s : Slot) (rest : List PlacedOutcome) (more : List Outcome) → slice_get made s.place ≡ Some names → outcomes_of kind.All made rest ≡ more
    → outcomes_of kind.All made (cons_option (fated fate s) rest) ≡ cons_option (outcome_fated fate names s.value) more
one_outcome Stays made names s rest more h r = rw h (ap (λ (z : List Outcome). record { labels = names; value = Ok (Some s.value) } ∷ z) r)
one_outcome Beyond made names s rest more h r = rw h (ap (λ (z : List Outcome). record { labels = names; value = Err Overflow } ∷ z) r)
one_outcome Out made names s rest more h r = r

abbrev rows_at : List Names → List Slot → List Row
rows_at labels slots = map row_of (entries_of labels slots)

outcomes_are : (kept : Kept) (rule : Relabel) (labels : List Names) (low : ℕ) (slots : List Slot) → SlotsRise low (length labels) slots
    → outcomes_of kind.All (map (labels_by kept rule) labels) (slots_placed (map (fate_by kept rule) labels) slots) ≡ filter_map (row_fated kept rule) (rows_at labels slots)
outcomes_are kept rule labels low [] r = refl
outcomes_are kept rule labels low (s ∷ slots) r =
    let made : List Names = map (labels_by kept rule) labels in
    let fates : List Fate = map (fate_by kept rule) labels in
    let n : Names = get_or labels s.place [] in
    let e : slice_get labels s.place ≡ Some n = get_there labels s.place [] r.1 in
    ap (λ (o : Option Fate). outcomes_of kind.All made (cons_option (slot_fated o s) (slots_placed fates slots))) (get_mapped (fate_by kept rule) labels s.place n e)
    ∙ one_outcome (fate_by kept rule n) made (labels_by kept rule n) s (slots_placed fates slots) (filter_map (row_fated kept rule) (rows_at labels slots)) (get_mapped (labels_by kept rule) labels s.place n e) (outcomes_are kept rule labels (s.place + 1) slots r.2)
    ∙ sym (ap (λ (o : Option Names). filter_map (row_fated kept rule) (map row_of (cons_option (option_map (λ (names : Names). (names, s.value)) o) (entries_of labels slots)))) e)

raised_low : (low next high : ℕ) (placed : List PlacedOutcome) → low ≤ next → PlacesRise next high placed → PlacesRise low high placed
raised_low low next high [] l r = tt
raised_low low next high (p ∷ placed) l r = (omega (arith, l, r.0), r.1, r.2)

one_rises : (fate : Option Fate) (low high : ℕ) (s : Slot) (rest : List PlacedOutcome) → low ≤ s.place → s.place < high → PlacesRise (s.place + 1) high rest → PlacesRise low high (cons_option (slot_fated fate s) rest)
one_rises None low high s rest l h r = raised_low low (s.place + 1) high rest (omega (arith, l)) r
one_rises (Some Stays) low high s rest l h r = (l, h, r)
one_rises (Some Beyond) low high s rest l h r = (l, h, r)
one_rises (Some Out) low high s rest l h r = raised_low low (s.place + 1) high rest (omega (arith, l)) r

pub placed_rise : (fates : List Fate) (low high : ℕ) (slots : List Slot) → SlotsRise low high slots → PlacesRise low high (slots_placed fates slots)
placed_rise fates low high [] r = tt
placed_rise fates low high (s ∷ slots) r = one_rises (slice_get fates s.place) low high s (slots_placed fates slots) r.0 r.1 (placed_rise fates (s.place + 1) high slots r.2)

-- one row more
chosen_more : {A B : Type 0} (f : A → Option B) (xs : List A) (i : ℕ) (d : A) → i < length xs → filter_map f (take (i + 1) xs) ≡ filter_map f (take i xs) ++ option_to_list (f (get_or xs i d))
chosen_more f [] i d h = absurd (omega arith)
chosen_more {A} {B} f (x ∷ xs) zero d h = elim (f x) as (λ (o : Option B). cons_option o [] ≡ option_to_list o) [ None ↦ refl | Some b ↦ refl ]
chosen_more {A} {B} f (x ∷ xs) (suc i) d h =
    let e : suc i + 1 ≡ suc (i + 1) = omega arith in
    rw e (ap (cons_option (f x)) (chosen_more f xs i d (omega arith)) ∙ behind (f x) (filter_map f (take i xs)) (option_to_list (f (get_or xs i d))))
  where
    behind : (o : Option B) (ys zs : List B) → cons_option o (ys ++ zs) ≡ cons_option o ys ++ zs
    behind None ys zs = refl
    behind (Some b) ys zs = refl

abbrev slot_placed : List Fate → Slot → Option PlacedOutcome
slot_placed fates slot = slot_fated (slice_get fates slot.place) slot

pub placed_more : (fates : List Fate) (slots : List Slot) (i : ℕ) (slot : Slot) (fate : Fate) (old new : List PlacedOutcome) → i < length slots → slot ≡ get_or slots i slot → slice_get fates slot.place ≡ Some fate → old ≡ slots_placed fates (take i slots)
    → new ≡ old ++ option_to_list (fated fate slot) → new ≡ slots_placed fates (take (i + 1) slots)
placed_more fates slots i slot fate old new l is h o n =
    n ∙ ap (λ (z : List PlacedOutcome). z ++ option_to_list (fated fate slot)) o ∙ ap (λ (x : Option Fate). slots_placed fates (take i slots) ++ option_to_list (slot_fated x slot)) (sym h)
    ∙ ap (λ (s : Slot). slots_placed fates (take i slots) ++ option_to_list (slot_placed fates s)) is ∙ sym (chosen_more (slot_placed fates) slots i slot l)

pub slot_within : (high : ℕ) (slots : List Slot) (i : ℕ) (slot : Slot) → i < length slots → slot ≡ get_or slots i slot → SlotsRise 0 high slots → slot.place < high
slot_within high slots i slot l is rise = subst (λ (s : Slot). s.place < high) (sym is) (place_within 0 slots i slot l rise)
  where
    place_within : (low : ℕ) (slots : List Slot) (i : ℕ) (d : Slot) → i < length slots → SlotsRise low high slots → (get_or slots i d).place < high
    place_within low [] i d l r = absurd (omega arith)
    place_within low (s ∷ slots) zero d l r = r.1
    place_within low (s ∷ slots) (suc i) d l r = place_within (s.place + 1) slots i d (omega arith) r.2

-- ---- labels made anew

one_labelled : (o : Option Names) (value : XFrac) → outcome_fated (remade o).1 (remade o).0 value ≡ Some (labelled o value)
one_labelled None value = refl
one_labelled (Some names) value = refl

all_labelled : (f : Names → Option Names) (rows : List Row)
    → filter_map (λ (row : Row). outcome_fated (remade (f row.labels)).1 (remade (f row.labels)).0 row.value) rows ≡ map (λ (row : Row). labelled (f row.labels) row.value) rows
all_labelled f [] = refl
all_labelled f (row ∷ rows) =
    ap (λ (o : Option Outcome). cons_option o (filter_map (λ (r : Row). outcome_fated (remade (f r.labels)).1 (remade (f r.labels)).0 r.value) rows)) (one_labelled (f row.labels) row.value)
    ∙ ap (λ (z : List Outcome). labelled (f row.labels) row.value ∷ z) (all_labelled f rows)

-- ---- rows that pass

module _ (kept : Kept) (rules : List Rule) where
  abbrev passed : Row → Option Outcome
  passed row = row_fated kept (Filter rules) row

  one_row : (b : Bool) (row : Row) (rest : List Outcome)
      → filter_map outcomes.row_of (cons_option (outcome_fated (cond {A = Names × Fate} b (row.labels, Stays) ([], Out)).1 (cond {A = Names × Fate} b (row.labels, Stays) ([], Out)).0 row.value) rest) ≡ cond b (row ∷ filter_map outcomes.row_of rest) (filter_map outcomes.row_of rest)
  one_row true row rest = refl
  one_row false row rest = refl

  one_mark : (b : Bool) (row : Row) (rest : List Outcome) → filter_map mark_of (cons_option (outcome_fated (cond {A = Names × Fate} b (row.labels, Stays) ([], Out)).1 (cond {A = Names × Fate} b (row.labels, Stays) ([], Out)).0 row.value) rest) ≡ filter_map mark_of rest
  one_mark true row rest = refl
  one_mark false row rest = refl

  rows_pass : (rows : List Row) → filter_map outcomes.row_of (filter_map passed rows) ≡ passing_rows kept rules rows
  rows_pass [] = refl
  rows_pass (row ∷ rows) = one_row (labels_pass kept rules row.labels) row (filter_map passed rows) ∙ ap (λ (z : List Row). cond (labels_pass kept rules row.labels) (row ∷ z) z) (rows_pass rows)

  no_faults : (rows : List Row) → filter_map mark_of (filter_map passed rows) ≡ []
  no_faults [] = refl
  no_faults (row ∷ rows) = one_mark (labels_pass kept rules row.labels) row (filter_map passed rows) ∙ no_faults rows

  all_pass : (P : Names → Type 0) (rows : List Row) → AllByRecursion P (map (λ (row : Row). row.labels) rows) → AllByRecursion P (map (λ (row : Row). row.labels) (passing_rows kept rules rows))
  all_pass P [] a = tt
  all_pass P (row ∷ rows) a = pick (labels_pass kept rules row.labels) (all_pass P rows a.1)
    where
      pick : (b : Bool) → AllByRecursion P (map (λ (r : Row). r.labels) (passing_rows kept rules rows)) → AllByRecursion P (map (λ (r : Row). r.labels) (cond b (row ∷ passing_rows kept rules rows) (passing_rows kept rules rows)))
      pick true rest = (a.0, rest)
      pick false rest = rest

  table_passes : (rows : List Row) → IsTable rows → IsTable (passing_rows kept rules rows)
  unfolding IsStrictlySortedBy
  table_passes [] t = tt
  table_passes (row ∷ rows) t = pick (labels_pass kept rules row.labels) (all_pass (λ q. labels_cmp row.labels q ≡ Less) rows t.0) (table_passes rows t.1)
    where
      pick : (b : Bool) → AllByRecursion (λ q. labels_cmp row.labels q ≡ Less) (map (λ (r : Row). r.labels) (passing_rows kept rules rows)) → IsStrictlySortedBy labels_cmp (map (λ (r : Row). r.labels) (passing_rows kept rules rows))
          → IsStrictlySortedBy labels_cmp (map (λ (r : Row). r.labels) (cond b (row ∷ passing_rows kept rules rows) (passing_rows kept rules rows)))
      pick true all rest = (all, rest)
      pick false all rest = rest

  taken_passes : (step : Step) → taken step.marks (filter_map passed step.table.rows) ≡ filtered kept rules step
  taken_passes step =
      let marks : with_fatal step.marks (filter_map mark_of (filter_map passed step.table.rows)) ≡ step.marks = ap (λ (z : List Mark). with_fatal step.marks z) (no_faults step.table.rows) ∙ nothing_more step.marks in
      let rows = rows_pass step.table.rows in
      λ j. record { table = record { rows = rows j }; marks = marks j }

  filter_made : (step : Step) → IsTable step.table.rows → settled (taken step.marks (filter_map passed step.table.rows)) ≡ filtered kept rules step
  filter_made step t = ap settled (taken_passes step) ∙ settled_table (filtered kept rules step) (table_passes step.table.rows t)

-- ---- steps

rule_made : (kept : Kept) (rule : Relabel) (step : Step) → IsTable step.table.rows → settled (taken step.marks (filter_map (row_fated kept rule) step.table.rows)) ≡ relabelled_step kept rule step
rule_made kept (Replace target template source pattern) step t = ap (λ (z : List Outcome). settled (taken step.marks z)) (all_labelled (replaced_labels target template source (text_at kept pattern.0)) step.table.rows)
rule_made kept (Join target separator sources) step t = ap (λ (z : List Outcome). settled (taken step.marks z)) (all_labelled (joined_labels target separator sources) step.table.rows)
rule_made kept (Filter rules) step t = filter_made kept rules step t

-- what is made of the slots of a step is what the rule makes of it
made_is : LentRowsAreTables → LentRowsAreThoseOfSlots → OutcomesIgnoreOrder → (kept : Kept) (rule : Relabel) (labels : List Names) (slots : List Slot) (marks : Marks) → IsDistinct labels_eq labels → SlotsRise 0 (length labels) slots
    → made_step kind.All (map (labels_by kept rule) labels) marks (slots_placed (map (fate_by kept rule) labels) slots) ≡ relabelled_step kept rule (step_of (entries_of labels slots) marks)
made_is table law order kept rule labels slots marks d r =
    let step : Step = step_of (entries_of labels slots) marks in
    let placed : PlacedStep = record { at = record { 0 = pos 0 }; slots = slots; marks = marks } in
    let same : Shuffled (rows_at labels slots) step.table.rows = law (record { labels = labels; steps = [] }) placed (record { distinct = d; placed = tt; rising = tt }) r in
    ap (λ (z : List Outcome). settled (taken marks z)) (outcomes_are kept rule labels 0 slots r)
    ∙ order marks (filter_map (row_fated kept rule) (rows_at labels slots)) (filter_map (row_fated kept rule) step.table.rows) (chosen_shuffled (row_fated kept rule) (rows_at labels slots) step.table.rows same)
    ∙ rule_made kept rule step (table labels placed)

-- the step that is put, by what is known of each of its parts
pub one_made : LentRowsAreTables → LentRowsAreThoseOfSlots → OutcomesIgnoreOrder → (kept : Kept) (rule : Relabel) (labels made : List Names) (fates : List Fate) (slots : List Slot) (marks : Marks) (t : Ms) (s : StepAt)
    → (left : Left) (placed : List PlacedOutcome) (old new : List StepAt) → IsDistinct labels_eq labels → SlotsRise 0 (length labels) slots → AreMade kept rule labels made fates
    → s ≡ record { at = t; step = step_of (entries_of labels slots) marks } → left ≡ kind.All → placed ≡ slots_placed fates slots
    → new ≡ old ++ record { at = t; step = made_step left made marks placed } ∷ [] → new ≡ old ++ relabelled_at kept rule s ∷ []
one_made table law order kept rule labels made fates slots marks t s left placed old new d r a es el ep n =
    let all : placed ≡ slots_placed (map (fate_by kept rule) labels) slots = ep ∙ ap (λ (z : List Fate). slots_placed z slots) a.fates in
    let whole : made_step left made marks placed ≡ made_step kind.All (map (labels_by kept rule) labels) marks (slots_placed (map (fate_by kept rule) labels) slots) = λ j. made_step (el j) (a.made j) marks (all j) in
    n ∙ ap (λ (z : Step). old ++ record { at = t; step = z } ∷ []) (whole ∙ made_is table law order kept rule labels slots marks d r) ∙ ap (λ (z : StepAt). old ++ relabelled_at kept rule z ∷ []) (sym es)
