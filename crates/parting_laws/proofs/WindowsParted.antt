-- Functions of windows that are parted.
use Rattle.std.proofs.Common.{◌≡◌, ◌∙◌, ◌<◌, Bool, true, false, List, [], ◌∷◌, length, map, refl, sym, ap, Some, None}
use Rattle.std.specs.Prelude.{◌||◌, Option, ℤ}
use Rattle.std.specs.BTreeMap.{is_at}
use Rattle.std.specs.List.{AllByRecursion, filter_map, list_any}
use Rattle.func_table.specs.declared.table.Func.TheVariants as func
use Rattle.func_table.specs.declared.table.Window.{Window}
use Rattle.func_table.specs.declared.table.Window.TheVariants as window
use Rattle.label_set.specs.declared.rules.Rule.{Rule}
use Rattle.promql_ast.specs.Folds.{fold-Call}
use Rattle.xfrac.specs.declared.value.XFrac.{XFrac}
use Rattle.step_table.specs.Groups.{Names}
use Rattle.step_table.specs.KeySets.{any_of_set}
use Rattle.step_table.specs.Laws.{UnionHasMarks, UnionHasNotes, has_mark, has_note}
use Rattle.step_table.specs.OrderLaws.{note_cmp_ties, note_cmp_total}
use Rattle.step_table.specs.Orders.{note_cmp}
use Rattle.step_table.specs.Unions.{set_of, united}
use Rattle.step_table.specs.declared.marks.Mark.{Mark}
use Rattle.step_table.specs.declared.marks.Marks.{Marks}
use Rattle.step_table.specs.declared.marks.Note.{Note}
use Rattle.step_table.specs.declared.step.Step.{Step}
use Rattle.step_table.specs.declared.windows.WindowRow.{WindowRow}
use Rattle.promql_meaning.specs.Givens.{barren, by_value, value_in}
use Rattle.promql_meaning.specs.Meaning.{called, given_at, meaning, node_meaning, over_windows, over_windows_with, step_at, windowed_with, zero_number}
use Rattle.promql_meaning.specs.Outcomes.{range_notes, range_notes_of, with_notes}
use Rattle.promql_meaning.specs.Ranges.{counter_note, window_labels, window_notes, window_outcome, windowed}
use Rattle.promql_meaning.specs.declared.given.Given.{Given}
use Rattle.promql_meaning.specs.declared.given.Given.TheVariants as given
use Rattle.promql_meaning.specs.declared.given.Stamped.{Stamped}
use Rattle.promql_meaning.specs.declared.given.Windows.{Windows}
use Rattle.parting_laws.specs.LocalLaws.{QuantilesAreParted, WindowFunctionsAreParted, is_quantile}
use Rattle.parting_laws.specs.PartLaws.{IgnoresName, over}
use Rattle.parting_laws.specs.Portions.{ArePortions, GivenParts, HaveMarks, IsOfOne, Portion, StepParts, samples_in, windows_in}
use Rattle.parting_laws.specs.Portions as portions_of
use Rattle.parting_laws.proofs.Chosen.{chosen_any, everywhere, if_some, mapped_along}
use Rattle.parting_laws.proofs.Joins.{window_labels as labels_in}
use Rattle.parting_laws.proofs.Locals.{ignore_name, with_others}
use Rattle.parting_laws.proofs.Made.{Keeps}
use Rattle.parting_laws.proofs.MarksParted.{any_same, any_two, nothing, or_none}
use Rattle.parting_laws.proofs.Parts.{any_parted, in_part}
use Rattle.parting_laws.proofs.StepsParted.{barren_parts, made_parts, marks_with, no_marks_parted, none_any, test_of}

-- ---- notes

-- the notes of a list of things, where each is of a thing
abbrev pub NotesOf : {X : Type 0} → (List X → List Note) → (Note → X → Bool) → Type 0
NotesOf {X} notes of = (note : Note) (xs : List X) → list_any (is_at (note_cmp note)) (notes xs) ≡ list_any (of note) xs

pub chosen_notes : {X : Type 0} (h : X → Option Note) → NotesOf (filter_map h) (λ note x. if_some (is_at (note_cmp note)) (h x))
chosen_notes h note xs = chosen_any (is_at (note_cmp note)) h xs

constant_any : {X : Type 0} (c : Bool) (xs : List X) → (c || list_any (λ (x : X). c) xs) ≡ c
constant_any true xs = refl
constant_any false xs = none_any xs

-- the notes of a quantile, where something is there
range_notes_are : {X : Type 0} (q : XFrac) → NotesOf {X = X} (range_notes_of q) (λ note x. list_any (is_at (note_cmp note)) (range_notes q))
range_notes_are q note [] = refl
range_notes_are q note (x ∷ xs) = sym (constant_any (list_any (is_at (note_cmp note)) (range_notes q)) xs)

module _ (portions : List Portion) (unions : UnionHasMarks) (note_unions : UnionHasNotes) where
  -- notes of things beside the marks of their portions
  pub notes_parts : {X : Type 0} (labels : X → Names) (notes : List X → List Note) (of : Note → X → Bool) → NotesOf notes of → (m : Marks) (f : Portion → Marks) (xs : List X) (ys : Portion → List X)
      → AllByRecursion (λ (p : Portion). ys p ≡ in_part test_of labels p xs) portions
      → AllByRecursion (λ (x : X). IsOfOne portions (labels x)) xs
      → HaveMarks portions m f → HaveMarks portions (with_notes m (notes xs)) (λ p. with_notes (f p) (notes (ys p)))
  notes_parts {X = X} labels notes of are m f xs ys pieces one have =
      let fatal : (a : Marks) (ns : List Note) (mark : Mark) → has_mark (with_notes a ns).fatal mark ≡ has_mark a.fatal mark = λ a ns mark. unions a (record { fatal = []; notes = set_of note_cmp ns }) mark ∙ sym (or_none (has_mark a.fatal mark)) in
      let noted : (a : Marks) (zs : List X) (note : Note) → has_note (with_notes a (notes zs)).notes note ≡ (has_note a.notes note || list_any (of note) zs) = λ a zs note.
      note_unions a (record { fatal = []; notes = set_of note_cmp (notes zs) }) note
      ∙ ap (λ b. has_note a.notes note || b) (any_of_set note_cmp_total note_cmp_ties (is_at (note_cmp note)) (notes zs) ∙ are note zs) in
      record {
        fatal = λ mark. any_same (λ (p : Portion). has_mark (with_notes (f p) (notes (ys p))).fatal mark) (λ (p : Portion). has_mark (f p).fatal mark) portions
            (everywhere (λ (p : Portion). has_mark (with_notes (f p) (notes (ys p))).fatal mark ≡ has_mark (f p).fatal mark) (λ p. fatal (f p) (notes (ys p)) mark) portions)
            ∙ have.fatal mark ∙ sym (fatal m (notes xs) mark);
        notes = λ note. any_same (λ (p : Portion). has_note (with_notes (f p) (notes (ys p))).notes note) (λ (p : Portion). has_note (f p).notes note || list_any (of note) (in_part test_of labels p xs)) portions
            (mapped_along (λ (p : Portion). ys p ≡ in_part test_of labels p xs) (λ (p : Portion). has_note (with_notes (f p) (notes (ys p))).notes note ≡ (has_note (f p).notes note || list_any (of note) (in_part test_of labels p xs)))
            (λ p e. noted (f p) (ys p) note ∙ ap (λ (zs : List X). has_note (f p).notes note || list_any (of note) zs) e) portions pieces)
            ∙ any_two (λ (p : Portion). has_note (f p).notes note) (λ (p : Portion). list_any (of note) (in_part test_of labels p xs)) portions
            ∙ (λ i. have.notes note i || any_parted test_of labels (of note) portions xs one i)
            ∙ sym (noted m xs note);
      }

  -- ---- a function of windows

  module _ (ignore : AllByRecursion (λ (p : Portion). IgnoresName p.test) portions) where
    window_keeps : (f : Window) (t : ℤ) (arg : XFrac) (w : Windows) → AllByRecursion (λ (p : Portion). Keeps labels_in (window_outcome f t arg w) p.test) portions
    window_keeps f t arg w = mapped_along (λ (p : Portion). IgnoresName p.test) (λ (p : Portion). Keeps labels_in (window_outcome f t arg w) p.test) (λ p h row v e. by p h f row.labels) portions ignore
      where
        by : (p : Portion) → IgnoresName p.test → (f : Window) (names : Names) → p.test (window_labels f names) ≡ p.test names
        by p h window.LastOver names = refl
        by p h _ names = h names

    abbrev piece : Windows → (Portion → Marks) → Portion → Windows
    piece w marks p = record w { rows = windows_in p w.rows; marks = marks p }

    pub windowed_parts : (f : Window) (t : ℤ) (arg : XFrac) (w : Windows) (marks : Portion → Marks) → AllByRecursion (λ (row : WindowRow). IsOfOne portions row.labels) w.rows → HaveMarks portions w.marks marks
        → StepParts portions (windowed f t arg w) (λ p. windowed f t arg (piece w marks p))
    windowed_parts f t arg w marks one have =
        made_parts portions unions labels_in (window_outcome f t arg w) (with_notes w.marks (window_notes f t arg w)) (λ p. with_notes (marks p) (window_notes f t arg (piece w marks p))) w.rows (λ p. windows_in p w.rows)
        (everywhere (λ (p : Portion). windows_in p w.rows ≡ windows_in p w.rows) (λ p. refl) portions) one (window_keeps f t arg w) (notes f)
      where
        own_rows : AllByRecursion (λ (p : Portion). windows_in p w.rows ≡ in_part test_of labels_in p w.rows) portions
        own_rows = everywhere (λ (p : Portion). windows_in p w.rows ≡ in_part test_of labels_in p w.rows) (λ p. refl) portions

        notes : (g : Window) → HaveMarks portions (with_notes w.marks (window_notes g t arg w)) (λ p. with_notes (marks p) (window_notes g t arg (piece w marks p)))
        notes window.QuantileOver = notes_parts labels_in (range_notes_of arg) (λ note x. list_any (is_at (note_cmp note)) (range_notes arg)) (range_notes_are arg) w.marks marks w.rows (λ p. windows_in p w.rows) own_rows one have
        notes g = notes_parts labels_in (filter_map (counter_note g t arg w)) (λ note x. if_some (is_at (note_cmp note)) (counter_note g t arg w x)) (chosen_notes (counter_note g t arg w)) w.marks marks w.rows (λ p. windows_in p w.rows) own_rows one have

    module _ (some : 0 < length portions) where
      with_parts : (f : Window) (t : ℤ) (scalar : Step) (w : Windows) (marks : Portion → Marks) → AllByRecursion (λ (row : WindowRow). IsOfOne portions row.labels) w.rows → HaveMarks portions w.marks marks
          → StepParts portions (windowed_with f t scalar w) (λ p. windowed_with f t scalar (piece w marks p))
      with_parts f t scalar w marks one have =
          let both : HaveMarks portions (united w.marks scalar.marks) (λ p. united (marks p) scalar.marks) = marks_with portions unions note_unions some w.marks marks scalar.marks have in
          elim (value_in scalar) as (λ o. StepParts portions (by_value o (united w.marks scalar.marks) (λ arg. windowed f t arg (record w { marks = united w.marks scalar.marks }))) (λ p. by_value o (united (marks p) scalar.marks) (λ arg. windowed f t arg (record w { rows = windows_in p w.rows; marks = united (marks p) scalar.marks })))) [
            | None ↦ barren_parts portions (united w.marks scalar.marks) (λ p. united (marks p) scalar.marks) both
            | Some a ↦ windowed_parts f t a (record w { marks = united w.marks scalar.marks }) (λ p. united (marks p) scalar.marks) one both
          ]

    -- what makes a step of windows, and nothing of anything else
    windows_of : (F : Given → Step) → ((step : Step) → F (given.Vector step) ≡ barren nothing) → ((rules : List Rule) (rows : List Stamped) → F (given.Selected (record { rules = rules; rows = rows })) ≡ barren nothing)
        → ((w : Windows) (marks : Portion → Marks) → AllByRecursion (λ (row : WindowRow). IsOfOne portions row.labels) w.rows → HaveMarks portions w.marks marks → StepParts portions (F (given.Windows w)) (λ p. F (given.Windows (piece w marks p))))
        → (whole : Given) (pieces : Portion → Given) → GivenParts portions whole pieces → GivenParts portions (given.Vector (F whole)) (λ p. given.Vector (F (pieces p)))
    windows_of F of_vector of_selected keeps whole pieces (portions_of.selected rules rows is each one) =
        portions_of.vector (barren nothing) (λ p. barren nothing) (ap (λ (g : Given). given.Vector (F g)) is ∙ ap given.Vector (of_selected rules rows))
        (mapped_along (λ (p : Portion). pieces p ≡ given.Selected (record { rules = rules; rows = samples_in p rows })) (λ (p : Portion). given.Vector (F (pieces p)) ≡ given.Vector (barren nothing)) (λ p e. ap (λ (g : Given). given.Vector (F g)) e ∙ ap given.Vector (of_selected rules (samples_in p rows))) portions each)
        (barren_parts portions nothing (λ p. nothing) (no_marks_parted portions))
    windows_of F of_vector of_selected keeps whole pieces (portions_of.windows w marks is each one have) =
        portions_of.vector (F (given.Windows w)) (λ p. F (given.Windows (piece w marks p))) (ap (λ (g : Given). given.Vector (F g)) is)
        (mapped_along (λ (p : Portion). pieces p ≡ given.Windows (piece w marks p)) (λ (p : Portion). given.Vector (F (pieces p)) ≡ given.Vector (F (given.Windows (piece w marks p)))) (λ p e. ap (λ (g : Given). given.Vector (F g)) e) portions each)
        (keeps w marks one have)
    windows_of F of_vector of_selected keeps whole pieces (portions_of.vector step steps is each parts) =
        portions_of.vector (barren nothing) (λ p. barren nothing) (ap (λ (g : Given). given.Vector (F g)) is ∙ ap given.Vector (of_vector step))
        (mapped_along (λ (p : Portion). pieces p ≡ given.Vector (steps p)) (λ (p : Portion). given.Vector (F (pieces p)) ≡ given.Vector (barren nothing)) (λ p e. ap (λ (g : Given). given.Vector (F g)) e ∙ ap given.Vector (of_vector (steps p))) portions each)
        (barren_parts portions nothing (λ p. nothing) (no_marks_parted portions))

    over_parts : (f : Window) (t : ℤ) (whole : Given) (pieces : Portion → Given) → GivenParts portions whole pieces → GivenParts portions (given.Vector (over_windows f t whole)) (λ p. given.Vector (over_windows f t (pieces p)))
    over_parts f t = windows_of (over_windows f t) (λ step. refl) (λ rules rows. refl) (λ w marks one have. windowed_parts f t zero_number w marks one have)

    pub over_parts_with : (some : 0 < length portions) (f : Window) (t : ℤ) (scalar : Step) (whole : Given) (pieces : Portion → Given) → GivenParts portions whole pieces
        → GivenParts portions (given.Vector (over_windows_with f t scalar whole)) (λ p. given.Vector (over_windows_with f t scalar (pieces p)))
    over_parts_with some f t scalar = windows_of (over_windows_with f t scalar) (λ step. refl) (λ rules rows. refl) (λ w marks one have. with_parts some f t scalar w marks one have)

    pub ranged_parts : (some : 0 < length portions) (f : Window) (t : ℤ) (gs : List Given) → is_quantile f ≡ false → (whole : Given) (pieces : Portion → Given) → GivenParts portions whole pieces
        → GivenParts portions (called (func.Window f) (whole ∷ gs) t) (λ p. called (func.Window f) (pieces p ∷ gs) t)
    ranged_parts some window.QuantileOver t gs h whole pieces parts = absurd (cc)
    ranged_parts some window.PredictLinear t gs h whole pieces parts = over_parts_with some window.PredictLinear t (step_at (whole ∷ gs) 1) whole pieces parts
    ranged_parts some f t gs h whole pieces parts = over_parts f t whole pieces parts

-- ---- expressions

module _ (unions : UnionHasMarks) (note_unions : UnionHasNotes) where
  pub window_functions_parted : WindowFunctionsAreParted
  window_functions_parted names e inner f others is single none parted asked portions t ok =
      let gs : List Given = given_at (map (meaning asked) others) t in
      with_others e inner others (λ hs g. called (func.Window f) (g ∷ hs) t) asked portions t (λ a. ap (λ (m : ℤ → Given). m t) (fold-Call (node_meaning a) (λ e. e.node) e (func.Window f) (inner ∷ others) is)) none
      (ranged_parts portions unions note_unions (ignore_name names portions asked.samples ok) ok.some f t gs single (meaning asked inner t) (λ p. meaning (over p.samples asked) inner t) (parted asked portions t ok))

  pub quantiles_parted : QuantilesAreParted
  quantiles_parted names e quantile inner is none parted asked portions t ok =
      let qs : List Given = given_at (map (meaning asked) (quantile ∷ [])) t in
      with_others e inner (quantile ∷ []) (λ hs g. given.Vector (over_windows_with window.QuantileOver t (step_at hs 0) g)) asked portions t
      (λ a. ap (λ (m : ℤ → Given). m t) (fold-Call (node_meaning a) (λ e. e.node) e (func.Window window.QuantileOver) (quantile ∷ inner ∷ []) is)) (none, tt)
      (over_parts_with portions unions note_unions (ignore_name names portions asked.samples ok) ok.some window.QuantileOver t (step_at qs 0) (meaning asked inner t) (λ p. meaning (over p.samples asked) inner t) (parted asked portions t ok))
