-- Steps that are made of lent ones, and the loops over them.
use Rattle.std.proofs.Common.{◌≡◌, ◌∙◌, ◌+◌, ◌<◌, ℕ, zero, suc, arith, Bool, true, List, [], ◌∷◌, ◌++◌, length, get_or, slice_get, take, drop, map, refl, sym, ap, subst, Option, Some, None}
use Rattle.std.specs.Prelude.{ℤ, pos, ◌<ℤ◌, Result, Ok, unwrap_or, ⊤}
use Rattle.std.specs.List.{IsDistinct, cons_option, filter_map, list_any}
use Rattle.std.specs.List.Sorted.{IsStrictlySortedBy}
use Rattle.std.specs.Option.{option_map}
use Rattle.std.proofs.lemmas.List.{map-append}
use Rattle.label_set.specs.LabelEquality.{labels_eq}
use Rattle.promql_meaning.specs.Absences.{absence_under}
use Rattle.promql_meaning.specs.Elements.{row_by_row}
use Rattle.promql_meaning.specs.Givens.{barren, no_marks}
use Rattle.promql_meaning.specs.Meaning.{as_scalar, value_of_one}
use Rattle.step_table.specs.Gathering.{nothing_more, settled_table}
use Rattle.step_table.specs.Groups.{Names, alone}
use Rattle.step_table.specs.Laws.{TakenIsTable}
use Rattle.step_table.specs.Outcomes.{mark_of, settled, taken}
use Rattle.step_table.specs.Outcomes as outcomes
use Rattle.step_table.specs.Shuffles.{OutcomesIgnoreOrder, Shuffled}
use Rattle.step_table.specs.Shuffling.{alone_shuffled, any_shuffled, mapped_shuffled}
use Rattle.step_table.specs.Timed.{StepAt}
use Rattle.step_table.specs.Unions.{with_fatal}
use Rattle.step_table.specs.declared.marks.Mark.{Mark}
use Rattle.step_table.specs.declared.marks.Marks.{Marks}
use Rattle.step_table.specs.declared.outcomes.Outcome.{Outcome}
use Rattle.step_table.specs.declared.step.Row.{Row}
use Rattle.step_table.specs.declared.step.Step.{Step}
use Rattle.ticks.specs.declared.moment.Ms.{Ms}
use Rattle.xfrac.specs.declared.value.NumFault.{NumFault}
use Rattle.xfrac.specs.declared.value.XFrac.{XFrac}
use Rattle.xfrac.specs.declared.value.XFrac.TheVariants.{NaN}
use Rattle.step_batch.specs.Laws.{LentRowsAreTables, LentRowsAreThoseOfSlots}
use Rattle.step_batch.specs.Lent.{InstantsRise, IsLater, LaterThanLast, Lent, SlotsRise, blank, entries_of, row_of, stage_of, stages, step_of}
use Rattle.step_batch.specs.LentWindows.{TimesRise}
use Rattle.step_batch.specs.declared.steps.PlacedStep.{PlacedStep}
use Rattle.step_batch.specs.declared.steps.Slot.{Slot}
use Rattle.step_put.specs.Placed.{PlacesRise, left_of, made_step, outcomes_of}
use Rattle.step_put.specs.declared.labels_left.Left.{Left}
use Rattle.step_put.specs.declared.labels_left.Left.TheVariants as kind
use Rattle.step_put.specs.declared.placed.PlacedOutcome.{PlacedOutcome}
use Rattle.op_small.specs.Rules.{absent_value, each, each_at, each_of, names_under, rule_of, small, small_at, value_at, value_of, value_of_slots}
use Rattle.op_small.specs.declared.rule.SmallRule.TheVariants.{Vector}

-- the rows that slots stand for, in the order of places
abbrev rows_at : List Names → List Slot → List Row
rows_at labels slots = map row_of (entries_of labels slots)

get_within : (labels : List Names) (i : ℕ) (d : Names) → i < length labels → slice_get labels i ≡ Some (get_or labels i d)
get_within [] i d h = absurd (omega arith)
get_within (l ∷ labels) zero d h = refl
get_within (l ∷ labels) (suc i) d h = get_within labels i d (omega arith)

-- ---- the order of rows

module _ (law : LentRowsAreThoseOfSlots) (labels : List Names) (slots : List Slot) (marks : Marks) (d : IsDistinct labels_eq labels) (r : SlotsRise 0 (length labels) slots) where
  abbrev there : List Row
  there = (step_of (entries_of labels slots) marks).table.rows

  same_rows : Shuffled (rows_at labels slots) there
  same_rows = law (record { labels = labels; steps = [] }) (record { at = record { 0 = pos 0 }; slots = slots; marks = marks }) (record { distinct = d; placed = tt; rising = tt }) r

  row_by_row_same : OutcomesIgnoreOrder → (f : Row → Outcome) → settled (taken marks (map f (rows_at labels slots))) ≡ row_by_row f (step_of (entries_of labels slots) marks)
  row_by_row_same o f = o marks (map f (rows_at labels slots)) (map f there) (mapped_shuffled f (rows_at labels slots) there same_rows)

  value_alone : (rows : List Row) → value_of_one rows ≡ unwrap_or (option_map (λ (row : Row). row.value) (alone rows)) NaN
  value_alone [] = refl
  value_alone (row ∷ []) = refl
  value_alone (row ∷ other ∷ rows) = refl

  value_same : value_of_slots slots ≡ value_of_one there
  value_same = value_of_rows labels 0 slots r ∙ value_alone (rows_at labels slots) ∙ ap (λ o. unwrap_or (option_map (λ (row : Row). row.value) o) NaN) (alone_shuffled (rows_at labels slots) there same_rows) ∙ sym (value_alone there)
    where
      value_of_rows : (labels : List Names) (low : ℕ) (slots : List Slot) → SlotsRise low (length labels) slots → value_of_slots slots ≡ value_of_one (rows_at labels slots)
      value_of_rows labels low [] r = refl
      value_of_rows labels low (s ∷ []) r = let e = get_within labels s.place [] r.1 in rw e refl
      value_of_rows labels low (s ∷ t ∷ slots) r = let e = get_within labels s.place [] r.1 in let f = get_within labels t.place [] r.2.1 in rw (e, f) refl

  absence_same : (under : Option Names) → absence_under under slots marks ≡ absence_under under there marks
  absence_same under = by_slots slots r same_rows
    where
      some_there : (rows : List Row) → list_any (λ row. true) rows ≡ true → (under : Option Names) (s : Slot) (rest : List Slot) → absence_under under (s ∷ rest) marks ≡ absence_under under rows marks
      some_there [] h under s rest = absurd (cc)
      some_there (row ∷ rows) h under s rest = refl

      by_slots : (xs : List Slot) → SlotsRise 0 (length labels) xs → Shuffled (rows_at labels xs) (step_of (entries_of labels xs) marks).table.rows → absence_under under xs marks ≡ absence_under under (step_of (entries_of labels xs) marks).table.rows marks
      by_slots [] r p = refl
      by_slots (s ∷ xs) r p =
          let e = get_within labels s.place [] r.1 in
          let any : list_any (λ row. true) (rows_at labels (s ∷ xs)) ≡ true = rw e refl in
          some_there (step_of (entries_of labels (s ∷ xs)) marks).table.rows (sym (any_shuffled (λ row. true) (rows_at labels (s ∷ xs)) (step_of (entries_of labels (s ∷ xs)) marks).table.rows p) ∙ any) under s xs

-- ---- one row

-- what is made of the only labels that were fed, where no names are lost
pub made_one : TakenIsTable → (left : Left) (fed : List Names) (names : Names) (marks : Marks) (value : Result (Option XFrac) NumFault) → left ≡ kind.All → fed ≡ names ∷ []
    → made_step left fed marks (record { place = 0; value = value } ∷ []) ≡ taken marks (record { labels = names; value = value } ∷ [])
unfolding IsStrictlySortedBy
made_one law left fed names marks value d f =
    (λ j. made_step (d j) (f j) marks (record { place = 0; value = value } ∷ []))
    ∙ settled_table (taken marks (record { labels = names; value = value } ∷ [])) (law marks (record { labels = names; value = value } ∷ []) (tt, tt))

pub one_rises : (fed : List Names) (names : Names) (value : Result (Option XFrac) NumFault) → fed ≡ names ∷ [] → PlacesRise 0 (length fed) (record { place = 0; value = value } ∷ [])
one_rises fed names value f = subst (λ (z : List Names). PlacesRise 0 (length z) (record { place = 0; value = value } ∷ [])) (sym f) (omega arith, omega arith, tt)

pub instant_is : (number : Option XFrac) (t : ℤ) → taken no_marks (record { labels = []; value = value_at number t } ∷ []) ≡ small (rule_of number) t (barren no_marks)
instant_is (Some value) t = refl
instant_is None t = refl

pub scalar_is : LentRowsAreThoseOfSlots → (labels : List Names) (slots : List Slot) (marks : Marks) → IsDistinct labels_eq labels → SlotsRise 0 (length labels) slots
    → taken marks (record { labels = []; value = Ok (Some (value_of_slots slots)) } ∷ []) ≡ as_scalar (step_of (entries_of labels slots) marks)
scalar_is law labels slots marks d r =
    ap (λ (m : Marks). record { table = record { rows = record { labels = []; value = value_of_slots slots } ∷ [] }; marks = m }) (nothing_more marks)
    ∙ ap (λ (v : XFrac). record { table = record { rows = record { labels = []; value = v } ∷ [] }; marks = marks }) (value_same law labels slots marks d r)

absent_alone : (under : Option Names) (slots : List Slot) (marks : Marks) → taken marks (record { labels = names_under under; value = absent_value under slots } ∷ []) ≡ absence_under under slots marks
absent_alone (Some names) [] marks = refl
absent_alone None [] marks = refl
absent_alone (Some names) (slot ∷ slots) marks = ap (λ (m : Marks). record { table = record { rows = [] }; marks = m }) (nothing_more marks)
absent_alone None (slot ∷ slots) marks = ap (λ (m : Marks). record { table = record { rows = [] }; marks = m }) (nothing_more marks)

pub absent_is : LentRowsAreThoseOfSlots → (labels : List Names) (slots : List Slot) (marks : Marks) → IsDistinct labels_eq labels → SlotsRise 0 (length labels) slots → (under : Option Names)
    → taken marks (record { labels = names_under under; value = absent_value under slots } ∷ []) ≡ absence_under under (step_of (entries_of labels slots) marks).table.rows marks
absent_is law labels slots marks d r under = absent_alone under slots marks ∙ absence_same law labels slots marks d r under

-- ---- a row of each row

each_rises : (own : Bool) (t : ℤ) (low high : ℕ) (slots : List Slot) → SlotsRise low high slots → PlacesRise low high (map (each_of own t) slots)
each_rises own t low high [] r = tt
each_rises own t low high (s ∷ slots) r = (r.0, r.1, each_rises own t (s.place + 1) high slots r.2)

outcomes_are : (left : Left) (own : Bool) (t : ℤ) (labels : List Names) (slots : List Slot) → outcomes_of left labels (map (each_of own t) slots) ≡ map (each left own t) (rows_at labels slots)
outcomes_are left own t labels [] = refl
outcomes_are left own t labels (s ∷ slots) = one (slice_get labels s.place) (outcomes_of left labels (map (each_of own t) slots)) (entries_of labels slots) (outcomes_are left own t labels slots)
  where
    one : (o : Option Names) (outs : List Outcome) (entries : List (Names × XFrac)) → outs ≡ map (each left own t) (map row_of entries)
        → cons_option (option_map (λ (names : Names). record { labels = left_of left names; value = value_of own t s.value }) o) outs
        ≡ map (each left own t) (map row_of (cons_option (option_map (λ (names : Names). (names, s.value)) o) entries))
    one None outs entries e = e
    one (Some names) outs entries e = ap (λ (os : List Outcome). record { labels = left_of left names; value = value_of own t s.value } ∷ os) e

pub made_each : LentRowsAreThoseOfSlots → OutcomesIgnoreOrder → (left : Left) (own : Bool) (t : ℤ) (labels : List Names) (slots : List Slot) (marks : Marks) → IsDistinct labels_eq labels → SlotsRise 0 (length labels) slots
    → made_step left labels marks (map (each_of own t) slots) ≡ row_by_row (each left own t) (step_of (entries_of labels slots) marks)
made_each law o left own t labels slots marks d r =
    ap (λ (os : List Outcome). settled (taken marks os)) (outcomes_are left own t labels slots) ∙ row_by_row_same law labels slots marks d r o (each left own t)

pub each_fits : (own : Bool) (t : ℤ) (fed labels : List Names) (slots : List Slot) (placed : List PlacedOutcome) → fed ≡ labels → placed ≡ map (each_of own t) slots → SlotsRise 0 (length labels) slots → PlacesRise 0 (length fed) placed
each_fits own t fed labels slots placed f p r =
    subst (λ (z : List Names). PlacesRise 0 (length z) placed) (sym f) (subst (PlacesRise 0 (length labels)) (sym p) (each_rises own t 0 (length labels) slots r))

-- a table whose rows stay is itself
kept_rows : (t : ℤ) (rows : List Row) → filter_map outcomes.row_of (map (each kind.All true t) rows) ≡ rows
kept_rows t [] = refl
kept_rows t (row ∷ rows) = ap (λ (rs : List Row). row ∷ rs) (kept_rows t rows)

no_faults : (t : ℤ) (rows : List Row) → filter_map mark_of (map (each kind.All true t) rows) ≡ []
no_faults t [] = refl
no_faults t (row ∷ rows) = no_faults t rows

copy_is : LentRowsAreTables → (labels : List Names) (s : PlacedStep) → row_by_row (each kind.All true s.at.0) (stage_of labels s).step ≡ (stage_of labels s).step
copy_is law labels s =
    let step : Step = (stage_of labels s).step in
    let same : taken step.marks (map (each kind.All true s.at.0) step.table.rows) ≡ step =
    (λ j. record { table = record { rows = kept_rows s.at.0 step.table.rows j }; marks = (ap (λ (ms : List Mark). with_fatal step.marks ms) (no_faults s.at.0 step.table.rows) ∙ nothing_more step.marks) j }) in
    ap settled same ∙ settled_table step (law labels s)

pub copies_are : LentRowsAreTables → (labels : List Names) (steps : List PlacedStep) → map (each_at kind.All true) (map (stage_of labels) steps) ≡ map (small_at Vector) (map (stage_of labels) steps)
copies_are law labels [] = refl
copies_are law labels (s ∷ steps) = λ j. record { at = s.at; step = copy_is law labels s j } ∷ copies_are law labels steps j

-- ---- loops

-- what a rule makes of a step at its instant
abbrev pub by_rule : (ℤ → Step → Step) → StepAt → StepAt
by_rule rule s = record { at = s.at; step = rule s.at.0 s.step }

-- the first of some instants is later than the last step
abbrev pub Follow : Lent → List Ms → Type 0
Follow lent [] = ⊤
Follow lent (t ∷ at) = IsLater lent t

abbrev pub times_of : List PlacedStep → List Ms
times_of steps = map (λ (s : PlacedStep). s.at) steps

times_rise : (steps : List PlacedStep) → InstantsRise steps → TimesRise (times_of steps)
times_rise [] r = tt
times_rise (s ∷ []) r = tt
times_rise (s ∷ t ∷ steps) r = (r.0, times_rise (t ∷ steps) r.1)

pub follow_here : (lent : Lent) (at : List Ms) (i : ℕ) (d : Ms) → i < length at → Follow lent (drop i at) → IsLater lent (get_or at i d)
follow_here lent [] i d l f = absurd (omega arith)
follow_here lent (t ∷ at) zero d l f = f
follow_here lent (t ∷ at) (suc i) d l f = follow_here lent at i d (omega arith) f

pub follow_next : (lent : Lent) (at : List Ms) (i : ℕ) (d : Ms) → i < length at → TimesRise at → ((u : Ms) → (get_or at i d).0 <ℤ u.0 → IsLater lent u) → Follow lent (drop (i + 1) at)
follow_next lent [] i d l r k = absurd (omega arith)
follow_next lent (t ∷ []) zero d l r k = tt
follow_next lent (t ∷ u ∷ at) zero d l r k = k u r.0
follow_next lent (t ∷ []) (suc i) d l r k = absurd (omega arith)
follow_next lent (t ∷ u ∷ at) (suc i) d l r k = let e : suc i + 1 ≡ suc (i + 1) = omega arith in rw e (follow_next lent (u ∷ at) i d (omega arith) r.1 k)

mapped_more : {A B : Type 0} (f : A → B) (xs : List A) (i : ℕ) (d : A) → i < length xs → map f (take (i + 1) xs) ≡ map f (take i xs) ++ f (get_or xs i d) ∷ []
mapped_more f [] i d h = absurd (omega arith)
mapped_more f (x ∷ xs) zero d h = refl
mapped_more f (x ∷ xs) (suc i) d h = let e : suc i + 1 ≡ suc (i + 1) = omega arith in rw e (ap (λ r. f x ∷ r) (mapped_more f xs i d (omega arith)))

-- one slot more of what is made
pub made_more : (own : Bool) (t : ℤ) (slots : List Slot) (i : ℕ) (s : Slot) (v : Result (Option XFrac) NumFault) (done now : List PlacedOutcome) → i < length slots → s ≡ get_or slots i s → v ≡ value_of own t s.value
    → done ≡ map (each_of own t) (take i slots) → now ≡ done ++ record { place = s.place; value = v } ∷ [] → now ≡ map (each_of own t) (take (i + 1) slots)
made_more own t slots i s v done now l e g o w =
    w ∙ (λ j. o j ++ record { place = s.place; value = g j } ∷ []) ∙ ap (λ (x : Slot). map (each_of own t) (take i slots) ++ each_of own t x ∷ []) e ∙ sym (mapped_more (each_of own t) slots i s l)

count_of : {A B : Type 0} (f : A → B) (xs : List A) → length (map f xs) ≡ length xs
count_of f [] = refl
count_of f (x ∷ xs) = ap suc (count_of f xs)

-- one step more of what a rule made
pub lent_next : {A : Type 0} (rule : ℤ → Step → Step) (g : A → StepAt) (xs : List A) (i : ℕ) (d : A) (t : Ms) (from step : Step) (old new : List StepAt) → i < length xs → g (get_or xs i d) ≡ record { at = t; step = from }
    → old ≡ map (by_rule rule) (map g (take i xs)) → step ≡ rule t.0 from → new ≡ old ++ record { at = t; step = step } ∷ [] → new ≡ map (by_rule rule) (map g (take (i + 1) xs))
lent_next rule g xs i d t from step old new l e o m w =
    w ∙ ap (λ (z : List StepAt). z ++ record { at = t; step = step } ∷ []) o
    ∙ ap (λ (z : Step). map (by_rule rule) (map g (take i xs)) ++ record { at = t; step = z } ∷ []) m
    ∙ ap (λ (z : StepAt). map (by_rule rule) (map g (take i xs)) ++ by_rule rule z ∷ []) (sym e)
    ∙ sym (map-append (by_rule rule) (map g (take i xs)) (g (get_or xs i d) ∷ []))
    ∙ ap (map (by_rule rule)) (sym (mapped_more g xs i d l))

pub follow_none : (lent : Lent) (at : List Ms) → lent.steps ≡ [] → Follow lent at
follow_none lent [] e = tt
follow_none lent (t ∷ at) e = subst (λ (z : List PlacedStep). LaterThanLast z t) (sym e) tt

pub stages_none : (lent : Lent) → lent.steps ≡ [] → stages lent ≡ []
stages_none lent e = ap (map (stage_of lent.labels)) e

-- a step by what is told of it
stage_told : (labels : List Names) (steps : List PlacedStep) (i : ℕ) (d : PlacedStep) (t : Ms) (slots : List Slot) (marks : Marks)
    → option_map (λ (s : PlacedStep). s.at) (slice_get steps i) ≡ Some t → option_map (λ (s : PlacedStep). s.slots) (slice_get steps i) ≡ Some slots → option_map (λ (s : PlacedStep). s.marks) (slice_get steps i) ≡ Some marks
    → stage_of labels (get_or steps i d) ≡ record { at = t; step = step_of (entries_of labels slots) marks }
stage_told labels [] i d t slots marks a b c = absurd (cc)
stage_told labels (s ∷ steps) zero d t slots marks a b c =
    let at : s.at ≡ t = cc in
    let slots_are : s.slots ≡ slots = cc in
    let marks_are : s.marks ≡ marks = cc in
    λ j. record { at = at j; step = step_of (entries_of labels (slots_are j)) (marks_are j) }
stage_told labels (s ∷ steps) (suc i) d t slots marks a b c = stage_told labels steps i d t slots marks a b c

time_told : (steps : List PlacedStep) (i : ℕ) (d t : Ms) → option_map (λ (s : PlacedStep). s.at) (slice_get steps i) ≡ Some t → get_or (times_of steps) i d ≡ t
time_told [] i d t e = absurd (cc)
time_told (s ∷ steps) zero d t e = cc
time_told (s ∷ steps) (suc i) d t e = time_told steps i d t e

times_count : (steps : List PlacedStep) → length (times_of steps) ≡ length steps
times_count steps = count_of (λ (s : PlacedStep). s.at) steps

pub follow_told : (lent : Lent) (steps : List PlacedStep) (i : ℕ) (t : Ms) → i < length steps → option_map (λ (s : PlacedStep). s.at) (slice_get steps i) ≡ Some t → Follow lent (drop i (times_of steps)) → IsLater lent t
follow_told lent steps i t l e f =
    let k = times_count steps in
    subst (IsLater lent) (time_told steps i t t e) (follow_here lent (times_of steps) i t (omega arith) f)

pub follow_after : (lent : Lent) (steps : List PlacedStep) (i : ℕ) (t : Ms) → i < length steps → option_map (λ (s : PlacedStep). s.at) (slice_get steps i) ≡ Some t → InstantsRise steps → ((u : Ms) → t.0 <ℤ u.0 → IsLater lent u) → Follow lent (drop (i + 1) (times_of steps))
follow_after lent steps i t l e r k =
    let n = times_count steps in
    follow_next lent (times_of steps) i t (omega arith) (times_rise steps r) (λ u h. k u (subst (λ (z : Ms). z.0 <ℤ u.0) (time_told steps i t t e) h))

-- one step more of what a rule made of a batch
pub told_next : (rule : ℤ → Step → Step) (labels : List Names) (steps : List PlacedStep) (i : ℕ) (t : Ms) (slots : List Slot) (marks : Marks) (made : Step) (old new : List StepAt) → i < length steps
    → option_map (λ (s : PlacedStep). s.at) (slice_get steps i) ≡ Some t → option_map (λ (s : PlacedStep). s.slots) (slice_get steps i) ≡ Some slots → option_map (λ (s : PlacedStep). s.marks) (slice_get steps i) ≡ Some marks
    → old ≡ map (by_rule rule) (map (stage_of labels) (take i steps)) → made ≡ rule t.0 (step_of (entries_of labels slots) marks) → new ≡ old ++ record { at = t; step = made } ∷ []
    → new ≡ map (by_rule rule) (map (stage_of labels) (take (i + 1) steps))
told_next rule labels steps i t slots marks made old new l a b c o m w =
    lent_next rule (stage_of labels) steps i (blank t) t (step_of (entries_of labels slots) marks) made old new l (stage_told labels steps i (blank t) t slots marks a b c) o m w
