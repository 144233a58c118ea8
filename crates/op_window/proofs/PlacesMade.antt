-- What comes of windows, by the places of their labels.
use Rattle.std.proofs.Common.{◌≡◌, ◌∙◌, ℕ, zero, suc, ◌+◌, ◌<◌, ◌≤◌, List, [], ◌∷◌, ◌++◌, length, map, get_or, slice_get, take, Option, Some, None, refl, sym, ap, arith}
use Rattle.std.specs.Prelude.{Result, ◌&&◌, if◌then◌else◌}
use Rattle.std.specs.List.{cons_option, filter_map}
use Rattle.std.specs.List.Sorted.{IsStrictlySortedBy}
use Rattle.std.specs.Option.{option_map}
use Rattle.func_table.specs.declared.table.Window.{Window}
use Rattle.func_table.specs.declared.table.Window.TheVariants as window
use Rattle.promql_meaning.specs.Givens.{barren}
use Rattle.label_set.specs.Labels.{metric_name, value_of}
use Rattle.promql_meaning.specs.Outcomes.{range_notes_of, with_notes}
use Rattle.promql_meaning.specs.Ranges.{asks_counters, has_value, name_note, window_labels, windowed}
use Rattle.sample_store.specs.Samples.{AllSeries, labels_at}
use Rattle.step_put.specs.Placed.{PlacesRise, left_of, made_step, outcome_of, outcomes_of}
use Rattle.step_put.specs.declared.labels_left.Left.{Left}
use Rattle.step_put.specs.declared.placed.PlacedOutcome.{PlacedOutcome}
use Rattle.step_table.specs.Gathering.{nothing_more, settled_table}
use Rattle.step_table.specs.Groups.{Names}
use Rattle.step_table.specs.Outcomes.{settled, taken}
use Rattle.step_table.specs.declared.marks.Marks.{Marks}
use Rattle.step_table.specs.declared.marks.Note.{Note}
use Rattle.step_table.specs.declared.outcomes.Outcome.{Outcome}
use Rattle.step_table.specs.declared.windows.WindowRow.{WindowRow}
use Rattle.window_fn.specs.declared.frame.WindowFrame.{WindowFrame}
use Rattle.xfrac.specs.declared.value.NumFault.{NumFault}
use Rattle.xfrac.specs.declared.value.XFrac.{XFrac}
use Rattle.op_window.specs.NoteSets.{AreOneSet}
use Rattle.op_window.specs.Rules.{left_for, names_in, names_of, note_in, notes_given, outcome_in, outcomes_given, windows_in}
use Rattle.op_window.proofs.Lists.{filter_both, map_both}
use Rattle.op_window.proofs.NotesTold.{given_same}
use Rattle.op_window.proofs.WindowRowsMade.{step_made}

-- ---- places

-- one more, behind the others
rise_more : (low high : ℕ) (placed : List PlacedOutcome) (p : PlacedOutcome) → PlacesRise low p.place placed → low ≤ p.place → p.place < high → PlacesRise low high (placed ++ p ∷ [])
rise_more low high [] p r l h = (l, h, tt)
rise_more low high (q ∷ placed) p r l h = let m = r.1 in (r.0, omega arith, rise_more (q.place + 1) high placed p r.2 (omega arith) h)

pub rise_wider : (low high more : ℕ) (placed : List PlacedOutcome) → PlacesRise low high placed → high ≤ more → PlacesRise low more placed
rise_wider low high more [] r h = tt
rise_wider low high more (q ∷ placed) r h = let m = r.1 in (r.0, omega arith, rise_wider (q.place + 1) high more placed r.2 h)

pub rise_next : (placed now : List PlacedOutcome) (p : PlacedOutcome) (i : ℕ) → p.place ≡ i → now ≡ placed ++ p ∷ [] → PlacesRise 0 i placed → PlacesRise 0 (i + 1) now
rise_next placed now p i e n r = rw (n) (rise_more 0 (i + 1) placed p (rise_wider 0 i p.place placed r (omega arith)) (omega arith) (omega arith))

-- ---- labels

pub left_is : (f : Window) (names : Names) → left_of (left_for f) names ≡ window_labels f names
left_is window.Rate names = refl
left_is window.Increase names = refl
left_is window.Delta names = refl
left_is window.Irate names = refl
left_is window.Idelta names = refl
left_is window.Deriv names = refl
left_is window.PredictLinear names = refl
left_is window.Changes names = refl
left_is window.Resets names = refl
left_is window.AvgOver names = refl
left_is window.MinOver names = refl
left_is window.MaxOver names = refl
left_is window.SumOver names = refl
left_is window.CountOver names = refl
left_is window.StdvarOver names = refl
left_is window.QuantileOver names = refl
left_is window.LastOver names = refl
left_is window.PresentOver names = refl

pub series_named : (store : AllSeries) (xs : List ℕ) (i : ℕ) → i < length xs → slice_get (names_of store xs) i ≡ Some (labels_at store (get_or xs i 0))
series_named store [] i h = absurd (omega arith)
series_named store (x ∷ xs) zero h = refl
series_named store (x ∷ xs) (suc i) h = series_named store xs i (omega arith)

pub window_named : (rows : List WindowRow) (i : ℕ) (w : WindowRow) → slice_get rows i ≡ Some w → slice_get (names_in rows) i ≡ Some w.labels
window_named [] i w e = absurd (cc)
window_named (x ∷ rows) zero w e = let k : x ≡ w = cc in ap (λ (z : WindowRow). Some z.labels) k
window_named (x ∷ rows) (suc i) w e = window_named rows i w e

pub names_next : (rows : List WindowRow) (i : ℕ) (names : Names) → option_map (λ (w : WindowRow). w.labels) (slice_get rows i) ≡ Some names → names_in (take i rows) ++ names ∷ [] ≡ names_in (take (i + 1) rows)
names_next [] i names e = absurd (cc)
names_next (x ∷ rows) zero names e = let k : x.labels ≡ names = cc in ap (λ (z : Names). z ∷ []) (sym k)
names_next (x ∷ rows) (suc i) names e = let k : suc i + 1 ≡ suc (i + 1) = omega arith in rw k (ap (λ (r : List Names). x.labels ∷ r) (names_next rows i names e))

-- ---- what comes of one window more

outcome_is : (f : Window) (frame : WindowFrame) (arg : XFrac) (names : List Names) (p : PlacedOutcome) (w : WindowRow) → slice_get names p.place ≡ Some w.labels → p.value ≡ (outcome_in f frame arg w).value → outcome_of (left_for f) names p ≡ Some (outcome_in f frame arg w)
outcome_is f frame arg names p w e v =
    ap (option_map (λ (n : Names). record { labels = left_of (left_for f) n; value = p.value })) e ∙ ap (λ (l : Names). Some (record { labels = l; value = p.value })) (left_is f w.labels)
    ∙ ap (λ u. Some (record { labels = window_labels f w.labels; value = u })) v

pub given_next : (f : Window) (frame : WindowFrame) (arg : XFrac) (names : List Names) (rows more : List WindowRow) (w : WindowRow) (placed now : List PlacedOutcome) (p : PlacedOutcome) → slice_get names p.place ≡ Some w.labels → p.value ≡ (outcome_in f frame arg w).value
    → outcomes_given f names placed ≡ map (outcome_in f frame arg) rows → now ≡ placed ++ p ∷ [] → rows ++ w ∷ [] ≡ more → outcomes_given f names now ≡ map (outcome_in f frame arg) more
given_next f frame arg names rows more w placed now p e v was n m =
    ap (outcomes_given f names) n ∙ filter_both (outcome_of (left_for f) names) placed (p ∷ [])
    ∙ ap (λ (os : List Outcome). outcomes_given f names placed ++ os) (ap (λ (o : Option Outcome). cons_option o []) (outcome_is f frame arg names p w e v))
    ∙ ap (λ (os : List Outcome). os ++ outcome_in f frame arg w ∷ []) was ∙ sym (map_both (outcome_in f frame arg) rows (w ∷ [])) ∙ ap (map (outcome_in f frame arg)) m

-- ---- steps

pub none_made : (marks : Marks) → settled (taken marks []) ≡ barren marks
unfolding IsStrictlySortedBy
none_made marks = settled_table (taken marks []) tt ∙ ap barren (nothing_more marks)

there : (names : List Names) (i : ℕ) (d : Names) → i < length names → slice_get names i ≡ Some (get_or names i d)
there [] i d h = absurd (omega arith)
there (n ∷ names) zero d h = refl
there (n ∷ names) (suc i) d h = there names i d (omega arith)

range_same : (arg : XFrac) (left : Left) (names : List Names) (low : ℕ) (placed : List PlacedOutcome) → PlacesRise low (length names) placed → range_notes_of arg placed ≡ range_notes_of arg (outcomes_of left names placed)
range_same arg left names low [] r = refl
range_same arg left names low (p ∷ placed) r = let e = there names p.place [] r.1 in rw e refl

-- the notes are those of what comes of the windows
pub notes_same : (f : Window) (arg : XFrac) (left : Left) (names : List Names) (placed : List PlacedOutcome) (notes : List Note) → PlacesRise 0 (length names) placed → notes_given f arg placed notes ≡ notes_given f arg (outcomes_of left names placed) notes
notes_same window.QuantileOver arg left names placed notes r = range_same arg left names 0 placed r
notes_same window.Rate arg left names placed notes r = refl
notes_same window.Increase arg left names placed notes r = refl
notes_same window.Delta arg left names placed notes r = refl
notes_same window.Irate arg left names placed notes r = refl
notes_same window.Idelta arg left names placed notes r = refl
notes_same window.Deriv arg left names placed notes r = refl
notes_same window.PredictLinear arg left names placed notes r = refl
notes_same window.Changes arg left names placed notes r = refl
notes_same window.Resets arg left names placed notes r = refl
notes_same window.AvgOver arg left names placed notes r = refl
notes_same window.MinOver arg left names placed notes r = refl
notes_same window.MaxOver arg left names placed notes r = refl
notes_same window.SumOver arg left names placed notes r = refl
notes_same window.CountOver arg left names placed notes r = refl
notes_same window.StdvarOver arg left names placed notes r = refl
notes_same window.LastOver arg left names placed notes r = refl
notes_same window.PresentOver arg left names placed notes r = refl

-- the note of a window's name
pub note_is : (f : Window) (frame : WindowFrame) (arg : XFrac) (w : WindowRow) (value : Result (Option XFrac) NumFault) (names : Names) (told : Option Note) → value ≡ (outcome_in f frame arg w).value → names ≡ w.labels
    → told ≡ (if asks_counters f && has_value value then name_note (value_of names metric_name) else None) → told ≡ note_in f frame arg w
note_is f frame arg w value names told a b e =
    e ∙ ap (λ (v : Result (Option XFrac) NumFault). if asks_counters f && has_value v then name_note (value_of names metric_name) else None) a
    ∙ ap (λ (n : Names). if asks_counters f && has_value (outcome_in f frame arg w).value then name_note (value_of n metric_name) else None) b

-- the step of what comes of windows is the meaning's
pub put_made : (f : Window) (frame : WindowFrame) (arg : XFrac) (rows : List WindowRow) (marks : Marks) (left : Left) (fed names : List Names) (placed : List PlacedOutcome) (notes : List Note) → left ≡ left_for f → fed ≡ names → PlacesRise 0 (length names) placed
    → outcomes_given f names placed ≡ map (outcome_in f frame arg) rows → AreOneSet notes (filter_map (note_in f frame arg) rows) → made_step left fed (with_notes marks (notes_given f arg placed notes)) placed ≡ windowed f frame.eval.0 arg (windows_in frame rows marks)
put_made f frame arg rows marks left fed names placed notes d e r o n =
    let told = filter_map (note_in f frame arg) rows in
    ap (λ (b : Left). made_step b fed (with_notes marks (notes_given f arg placed notes)) placed) d
    ∙ ap (λ (ns : List Names). made_step (left_for f) ns (with_notes marks (notes_given f arg placed notes)) placed) e
    ∙ ap (λ (all : List Note). made_step (left_for f) names (with_notes marks all) placed) (notes_same f arg (left_for f) names placed notes r)
    ∙ ap (λ (m : Marks). made_step (left_for f) names m placed) (given_same f arg (outcomes_given f names placed) marks notes told n)
    ∙ step_made f frame arg rows marks (outcomes_given f names placed) told o refl
