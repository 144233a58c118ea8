-- Steps come into windows one by one.
use Rattle.std.proofs.Common.{◌≡◌, ◌∙◌, ◌+◌, ◌<◌, ◌≤◌, ℕ, zero, suc, true, false, List, [], ◌∷◌, ◌++◌, length, map, drop, refl, sym, ap, subst, arith, append_assoc, append-nil, get_or, slice_get, Option, Some}
use Rattle.std.specs.Prelude.{ℤ, ◌<ℤ◌, ◌≤ℤ◌, int_lt, if◌then◌else◌}
use Rattle.std.specs.BTreeMap.{is_at}
use Rattle.std.specs.List.{AllByRecursion, IsDistinct, cons_option}
use Rattle.std.specs.Map.{keys_of}
use Rattle.std.specs.Option.{option_map}
use Rattle.std.proofs.lemmas.Int.{ints}
use Rattle.label_set.specs.Entries.{recursion_map}
use Rattle.label_set.specs.LabelEquality.{labels_eq}
use Rattle.label_set.specs.LabelOrder.{labels_eq_at, labels_eq_equivalence}
use Rattle.label_set.specs.Labels.{labels_cmp}
use Rattle.step_batch.specs.Columns.{Columns, column_more}
use Rattle.step_batch.specs.Lent.{entries_of}
use Rattle.step_batch.specs.declared.steps.Slot.{Slot}
use Rattle.step_table.specs.Groups.{Names, items_of}
use Rattle.step_table.specs.Timed.{StepAt, rows_of_steps, timed}
use Rattle.step_table.specs.declared.windows.WindowRow.{WindowRow}
use Rattle.ticks.specs.Listed.{AreRising}
use Rattle.ticks.specs.declared.moment.Ms.{Ms}
use Rattle.xfrac.specs.declared.value.XFrac.{XFrac}
use Rattle.op_subquery.specs.Kept.{AreKept, AreWindowsOf, IsKept, KeptStep, columns_of, due, instants_of, kept_of, later, samples_under, timed_entries, with_samples}
use Rattle.op_subquery.specs.Raised.{AreRaised, Raised}
use Rattle.op_subquery.specs.Rings.{AreHeld, Goes}
use Rattle.op_subquery.specs.declared.waiting.WaitingStep.{WaitingStep}
use Rattle.op_subquery.proofs.Items.{columns_append, items_more, times_hold}

-- ---- the values of a step, one after another

pub none_more : (columns : Columns) → with_samples columns [] ≡ columns
none_more columns = λ i. record { times = append-nil columns.times i; values = append-nil columns.values i }

module _ (q : Names) (at : Ms) where
  -- a value in the windows, and those that are still to come, are the same as all to come
  pub one_more : (e : Names × XFrac) (rest : List (Names × XFrac)) (before : Columns)
      → with_samples (if labels_eq q e.0 then column_more before at e.1 else before) (items_of (timed_entries at rest) q) ≡ with_samples before (items_of (timed_entries at (e ∷ rest)) q)
  one_more e rest before =
      elim (labels_eq q e.0) as (λ b. labels_eq q e.0 ≡ b → with_samples (if b then column_more before at e.1 else before) (items_of (timed_entries at rest) q) ≡ with_samples before (items_of (timed_entries at (e ∷ rest)) q)) [
        | true ↦ λ h.
            let at_it : is_at (labels_cmp q) e.0 ≡ true = labels_eq_at q e.0 ∙ h in
            rw at_it (taken (items_of (timed_entries at rest) q))
        | false ↦ λ h. let not_it : is_at (labels_cmp q) e.0 ≡ false = labels_eq_at q e.0 ∙ h in rw not_it refl
      ] refl
    where
      taken : (items : List (Ms × XFrac)) → with_samples (column_more before at e.1) items ≡ with_samples before ((at, e.1) ∷ items)
      taken items = λ i. record {
        times = append_assoc before.times (at ∷ []) (map (λ (s : Ms × XFrac). s.0) items) i;
        values = append_assoc before.values (e.1 ∷ []) (map (λ (s : Ms × XFrac). s.1) items) i;
      }

-- the windows with labels to come end before the instant
abbrev pub ComeBefore : Ms → List WindowRow → List (Names × XFrac) → Type 0
ComeBefore at rows entries = AllByRecursion (λ (q : Names). AllByRecursion (λ (t : Ms). t.0 <ℤ at.0) (samples_under q rows).times) (keys_of entries)

pub all_before : (at : Ms) (rows : List WindowRow) (entries : List (Names × XFrac)) → ((q : Names) → AllByRecursion (λ (t : Ms). t.0 <ℤ at.0) (samples_under q rows).times) → ComeBefore at rows entries
all_before at rows [] a = tt
all_before at rows (e ∷ entries) a = (a e.0, all_before at rows entries a)

-- a value under other labels leaves them as they are
pub still_before : (at : Ms) (e : Names × XFrac) (rows more : List WindowRow) (entries : List (Names × XFrac))
    → ((q : Names) → samples_under q more ≡ (if labels_eq q e.0 then column_more (samples_under q rows) at e.1 else samples_under q rows))
    → AllByRecursion (λ (q : Names). labels_eq q e.0 ≡ false) (keys_of entries) → ComeBefore at rows entries → ComeBefore at more entries
still_before at e rows more [] same apart b = tt
still_before at e rows more (f ∷ entries) same apart b =
    let not_it : labels_eq f.0 e.0 ≡ false = apart.0 in
    let here : samples_under f.0 more ≡ samples_under f.0 rows = same f.0 ∙ rw not_it refl in
    (subst (λ (c : Columns). AllByRecursion (λ (t : Ms). t.0 <ℤ at.0) c.times) (sym here) b.0, still_before at e rows more entries same apart.1 b.1)

-- the values of a step that are still to come, and the windows with those that came; together they are the whole
pub record Adds (at : Ms) (entries : List (Names × XFrac)) (windows : List WindowRow) (whole : Names → Columns) : Type 0 where
  pub distinct : IsDistinct labels_eq (keys_of entries)
  pub before : ComeBefore at windows entries
  pub rows : (q : Names) → with_samples (samples_under q windows) (items_of (timed_entries at entries) q) ≡ whole q

turned : (n : Names) (names : List Names) → AllByRecursion (λ y. labels_eq n y ≡ false) names → AllByRecursion (λ y. labels_eq y n ≡ false) names
turned n names a = recursion_map (λ (y : Names). labels_eq n y ≡ false) (λ (y : Names). labels_eq y n ≡ false) (λ y h. labels_eq_equivalence.symm y n ∙ h) names a

pub adds_next : (at : Ms) (e : Names × XFrac) (rest : List (Names × XFrac)) (windows more : List WindowRow) (whole : Names → Columns)
    → ((q : Names) → samples_under q more ≡ (if labels_eq q e.0 then column_more (samples_under q windows) at e.1 else samples_under q windows)) → Adds at (e ∷ rest) windows whole → Adds at rest more whole
unfolding IsDistinct
adds_next at e rest windows more whole same a = record {
  distinct = a.distinct.1;
  before = still_before at e windows more rest same (turned e.0 (keys_of rest) a.distinct.0) a.before.1;
  rows = λ q. ap (λ (c : Columns). with_samples c (items_of (timed_entries at rest) q)) (same q) ∙ one_more q at e rest (samples_under q windows) ∙ a.rows q;
}

pub adds_done : (at : Ms) (entries : List (Names × XFrac)) (windows : List WindowRow) (whole : Names → Columns) → entries ≡ [] → Adds at entries windows whole → (q : Names) → samples_under q windows ≡ whole q
adds_done at entries windows whole none a q =
    sym (none_more (samples_under q windows)) ∙ ap (λ (es : List (Names × XFrac)). with_samples (samples_under q windows) (items_of (timed_entries at es) q)) (sym none) ∙ a.rows q

drop_here : (slots : List Slot) (i : ℕ) (d : Slot) → i < length slots → drop i slots ≡ get_or slots i d ∷ drop (i + 1) slots
drop_here [] i d l = absurd (omega arith)
drop_here (s ∷ slots) zero d l = refl
drop_here (s ∷ slots) (suc i) d l = let e : suc i + 1 ≡ suc (i + 1) = omega arith in rw e (drop_here slots i d (omega arith))

-- the values from a place on
pub entries_here : (labels : List Names) (slots : List Slot) (i : ℕ) (s : Slot) (n : Names) → i < length slots → s ≡ get_or slots i s → slice_get labels s.place ≡ Some n
    → entries_of labels (drop i slots) ≡ (n, s.value) ∷ entries_of labels (drop (i + 1) slots)
entries_here labels slots i s n l is h =
    ap (entries_of labels) (drop_here slots i s l ∙ ap (λ (z : Slot). z ∷ drop (i + 1) slots) (sym is))
    ∙ ap (λ (o : Option Names). cons_option (option_map (λ (names : Names). (names, s.value)) o) (entries_of labels (drop (i + 1) slots))) h

pub entries_past : (labels : List Names) (slots : List Slot) (i : ℕ) → length slots ≤ i → entries_of labels (drop i slots) ≡ []
entries_past labels [] zero l = refl
entries_past labels [] (suc i) l = refl
entries_past labels (s ∷ slots) zero l = absurd (omega (arith, l))
entries_past labels (s ∷ slots) (suc i) l = entries_past labels slots i (omega (arith, l))

pub get_there : (labels : List Names) (i : ℕ) → i < length labels → slice_get labels i ≡ Some (get_or labels i [])
get_there [] i h = absurd (omega arith)
get_there (l ∷ labels) zero h = refl
get_there (l ∷ labels) (suc i) h = get_there labels i (omega arith)

pub slot_within : (high : ℕ) (slots : List Slot) (i : ℕ) (s : Slot) → i < length slots → s ≡ get_or slots i s → AllByRecursion (λ (z : Slot). z.place < high) slots → s.place < high
slot_within high [] i s l is a = absurd (omega arith)
slot_within high (z ∷ slots) zero s l is a = subst (λ (y : Slot). y.place < high) (sym is) a.0
slot_within high (z ∷ slots) (suc i) s l is a = slot_within high slots i s (omega arith) is a.1

-- ---- a step

-- a step more in the windows
pub windows_with : (rows more : List WindowRow) (held : List StepAt) (kept : KeptStep) (s : StepAt) → AreWindowsOf rows held → IsKept kept s
    → ((q : Names) → samples_under q more ≡ with_samples (samples_under q rows) (items_of (timed_entries kept.at kept.entries) q)) → AreWindowsOf more (held ++ s ∷ [])
windows_with rows more held kept s are is e = λ q.
    e q ∙ ap (with_samples (samples_under q rows)) (is.rows q) ∙ ap (λ (c : Columns). with_samples c (items_of (timed s.at s.step) q)) (are q)
    ∙ columns_append (items_of (rows_of_steps held) q) (items_of (timed s.at s.step) q) ∙ sym (ap columns_of (items_more held s q))

before_append : (s : StepAt) (held coming : List StepAt) → AreRising (instants_of (held ++ s ∷ coming)) → AllByRecursion (λ (t : Ms). t.0 <ℤ s.at.0) (instants_of held)
before_append s [] coming r = tt
before_append s (h ∷ held) coming r = (among held r.0, before_append s held coming r.1)
  where
    among : (more : List StepAt) → AllByRecursion (λ (u : Ms). h.at.0 <ℤ u.0) (instants_of (more ++ s ∷ coming)) → h.at.0 <ℤ s.at.0
    among [] a = a.0
    among (m ∷ more) a = among more a.1

-- all samples in windows are before the steps to come
pub held_before : (rows : List WindowRow) (held coming : List StepAt) (s : StepAt) (at : Ms) → at ≡ s.at → AreWindowsOf rows held → AreRising (instants_of (held ++ s ∷ coming)) → (q : Names) → AllByRecursion (λ (t : Ms). t.0 <ℤ at.0) (samples_under q rows).times
held_before rows held coming s at same are r q =
    subst (λ (u : Ms). AllByRecursion (λ (t : Ms). t.0 <ℤ u.0) (samples_under q rows).times) (sym same)
    (subst (λ (c : Columns). AllByRecursion (λ (t : Ms). t.0 <ℤ s.at.0) c.times) (sym (are q)) (times_hold (λ (t : Ms). t.0 <ℤ s.at.0) q held (before_append s held coming r)))

-- ---- step by step

pub begins : (m : ℤ) (windows : List WindowRow) (marks : Raised) (kept : List KeptStep) (held coming : List StepAt) → AreHeld windows marks kept held coming → Goes m windows marks kept held coming
begins m windows marks kept held coming are = record { now = held; next = coming; are = are; all = refl; left = refl }

-- the first of the steps that wait
pub head_kept : (kept : KeptStep) (rest : List KeptStep) (coming : List StepAt) → AreKept (kept ∷ rest) coming → (s : StepAt) × (more : List StepAt) × (coming ≡ s ∷ more) × IsKept kept s × AreKept rest more
head_kept kept rest [] a = absurd a
head_kept kept rest (s ∷ more) a = (s, more, refl, a.0, a.1)

pub goes_on : (m : ℤ) (windows more : List WindowRow) (marks raised : Raised) (kept : KeptStep) (rest : List KeptStep) (held coming : List StepAt)
    → kept.at.0 ≤ℤ m
    → ((q : Names) → samples_under q more ≡ with_samples (samples_under q windows) (items_of (timed_entries kept.at kept.entries) q))
    → ((steps : List StepAt) (s : StepAt) → s.at ≡ kept.at → s.step.marks ≡ kept.marks → AreRaised marks steps → AreRaised raised (steps ++ s ∷ []))
    → Goes m windows marks (kept ∷ rest) held coming → Goes m more raised rest held coming
goes_on m windows more marks raised kept rest held coming h e r g =
    let head = head_kept kept rest g.next g.are.waiting in
    let s = head.0 in
    let next = head.1 in
    let is = head.3 in
    let split : g.next ≡ s ∷ next = head.2 in
    let up : s.at.0 ≤ℤ m = subst (λ (t : Ms). t.0 ≤ℤ m) is.at h in
    let f : int_lt m s.at.0 ≡ false = grind (arith, ints, up) in
    let due_now : due m (s ∷ next) ≡ s ∷ due m next = rw f refl in
    let later_now : later m (s ∷ next) ≡ later m next = rw f refl in
    record {
      now = g.now ++ s ∷ [];
      next = next;
      are = record {
        rows = windows_with windows more g.now kept s g.are.rows is e;
        raised = r g.now s (sym is.at) (sym is.marks) g.are.raised;
        waiting = head.4;
        rising = subst (λ (z : List StepAt). AreRising (instants_of z)) (ap (λ (z : List StepAt). g.now ++ z) split ∙ sym (append_assoc g.now (s ∷ []) next)) g.are.rising;
      };
      all = append_assoc g.now (s ∷ []) (due m next) ∙ ap (λ (z : List StepAt). g.now ++ z) (sym due_now) ∙ ap (λ (z : List StepAt). g.now ++ due m z) (sym split) ∙ g.all;
      left = sym later_now ∙ ap (later m) (sym split) ∙ g.left;
    }

-- what the first of the steps that wait asks of the windows
pub first_fits : (rows : List WindowRow) (marks : Raised) (kept : KeptStep) (rest : List KeptStep) (held coming : List StepAt) → AreHeld rows marks (kept ∷ rest) held coming
    → IsDistinct labels_eq (keys_of kept.entries) × ((q : Names) → AllByRecursion (λ (t : Ms). t.0 <ℤ kept.at.0) (samples_under q rows).times)
first_fits rows marks kept rest held coming are =
    let head = head_kept kept rest coming are.waiting in
    let rising : AreRising (instants_of (held ++ head.0 ∷ head.1)) = subst (λ (z : List StepAt). AreRising (instants_of (held ++ z))) head.2 are.rising in
    (head.3.distinct, held_before rows held head.1 head.0 kept.at head.3.at are.rows rising)

-- where no step is due the others stay
none_due : (m : ℤ) (s : StepAt) (next : List StepAt) → m <ℤ s.at.0 → (due m (s ∷ next) ≡ []) × (later m (s ∷ next) ≡ s ∷ next)
none_due m s next h = let f : int_lt m s.at.0 ≡ true = grind (arith, ints, h) in (rw f refl, rw f refl)

stays : (m : ℤ) (kept : List KeptStep) (next : List StepAt) → AreKept kept next → ((k : KeptStep) (rest : List KeptStep) → kept ≡ k ∷ rest → m <ℤ k.at.0) → (due m next ≡ []) × (later m next ≡ next)
stays m [] [] a h = (refl, refl)
stays m [] (s ∷ next) a h = absurd a
stays m (k ∷ kept) [] a h = absurd a
stays m (k ∷ kept) (s ∷ next) a h = none_due m s next (subst (λ (t : Ms). m <ℤ t.0) a.0.at (h k kept refl))

pub ends : (m : ℤ) (windows : List WindowRow) (marks : Raised) (kept : List KeptStep) (held coming : List StepAt) → ((k : KeptStep) (rest : List KeptStep) → kept ≡ k ∷ rest → m <ℤ k.at.0)
    → Goes m windows marks kept held coming → AreHeld windows marks kept (held ++ due m coming) (later m coming)
ends m windows marks kept held coming h g =
    let none = stays m kept g.next g.are.waiting h in
    let now : g.now ≡ held ++ due m coming = sym (append-nil g.now) ∙ ap (λ (z : List StepAt). g.now ++ z) (sym none.0) ∙ g.all in
    let next : g.next ≡ later m coming = sym none.1 ∙ g.left in
    subst (λ (z : List StepAt). AreHeld windows marks kept z (later m coming)) now (subst (λ (z : List StepAt). AreHeld windows marks kept g.now z) next g.are)

-- a step that waits is late where it is as it was fed
pub late_kept : (labels : List Names) (m : ℤ) (steps : List WaitingStep) → ((step : WaitingStep) (rest : List WaitingStep) → steps ≡ step ∷ rest → m <ℤ step.at.0)
    → (k : KeptStep) (rest : List KeptStep) → map (kept_of labels) steps ≡ k ∷ rest → m <ℤ k.at.0
late_kept labels m [] late k rest e = absurd (cc)
late_kept labels m (s ∷ steps) late k rest e = let same : kept_of labels s ≡ k = cc in subst (λ (z : KeptStep). m <ℤ z.at.0) same (late s steps refl)
