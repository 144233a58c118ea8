-- Steps that are parted, and what is made of them.
use Rattle.std.proofs.Common.{◌≡◌, ◌∙◌, ◌<◌, Bool, true, false, List, [], ◌∷◌, length, map, refl, sym, ap, subst, arith, Some, None}
use Rattle.std.specs.Prelude.{◌||◌, filter}
use Rattle.std.specs.List.{AllByRecursion, list_any}
use Rattle.xfrac.specs.declared.value.XFrac.{XFrac}
use Rattle.step_table.specs.Groups.{Names}
use Rattle.step_table.specs.Laws.{UnionHasMarks, UnionHasNotes, has_mark, has_note}
use Rattle.step_table.specs.Unions.{united}
use Rattle.step_table.specs.declared.marks.Marks.{Marks}
use Rattle.step_table.specs.declared.marks.Note.{Note}
use Rattle.step_table.specs.declared.outcomes.Outcome.{Outcome}
use Rattle.step_table.specs.declared.step.Row.{Row}
use Rattle.step_table.specs.declared.step.Step.{Step}
use Rattle.label_set.specs.declared.rules.Rule.{Rule}
use Rattle.promql_meaning.specs.Elements.{row_by_row}
use Rattle.promql_meaning.specs.Givens.{barren, both, by_value, marked, step_of, unstamped, value_in, with_scalar, with_scalars}
use Rattle.promql_meaning.specs.declared.given.Given.{Given}
use Rattle.promql_meaning.specs.declared.given.Given.TheVariants as given
use Rattle.promql_meaning.specs.declared.given.Stamped.{Stamped}
use Rattle.parting_laws.specs.Portions.{GivenParts, HaveMarks, IsOfOne, Portion, StepParts, samples_in, selected, vector, windows, windows_in}
use Rattle.parting_laws.proofs.Chosen.{all_mapped, both_along, everywhere, filter_mapped, mapped_along}
use Rattle.parting_laws.proofs.Made.{Keeps, made_all, made_step, row_labels, rows_made}
use Rattle.parting_laws.proofs.MarksParted.{any_same, made_of_one, nothing, own_notes, parted_has}
use Rattle.parting_laws.proofs.Parts.{in_part}

abbrev pub test_of : Portion → Names → Bool
test_of p = p.test

-- ---- tests of portions

or_const : (a c : Bool) → ((a || c) || false) ≡ ((a || false) || c)
or_const true c = refl
or_const false true = refl
or_const false false = refl

or_both : (a b c : Bool) → ((a || c) || (b || c)) ≡ ((a || b) || c)
or_both true b c = refl
or_both false true true = refl
or_both false true false = refl
or_both false false true = refl
or_both false false false = refl

any_or : {P : Type 0} (a : P → Bool) (c : Bool) (ps : List P) → 0 < length ps → list_any (λ p. a p || c) ps ≡ (list_any a ps || c)
any_or a c [] h = absurd (omega arith)
any_or a c (p ∷ []) h = or_const (a p) c
any_or a c (p ∷ q ∷ ps) h = ap (λ b. (a p || c) || b) (any_or a c (q ∷ ps) (omega arith)) ∙ or_both (a p) (list_any a (q ∷ ps)) c

pub none_any : {P : Type 0} (ps : List P) → list_any (λ (p : P). false) ps ≡ false
none_any [] = refl
none_any (p ∷ ps) = none_any ps

-- no scalar is parted
abbrev pub IsNoScalar : Given → Type 0
IsNoScalar (given.Scalar step) = ⊥
IsNoScalar (given.Vector step) = Unit {0}
IsNoScalar (given.Selected selection) = Unit {0}
IsNoScalar (given.Windows w) = Unit {0}
IsNoScalar (given.Words text) = Unit {0}

module _ (portions : List Portion) where
  -- ---- marks

  pub no_marks_parted : HaveMarks portions nothing (λ p. nothing)
  no_marks_parted = record { fatal = λ mark. none_any portions; notes = λ note. none_any portions }

  pub marks_along : (whole : Marks) (f g : Portion → Marks) → AllByRecursion (λ (p : Portion). g p ≡ f p) portions → HaveMarks portions whole f → HaveMarks portions whole g
  marks_along whole f g a h = record {
    fatal = λ mark. any_same (λ (p : Portion). has_mark (g p).fatal mark) (λ (p : Portion). has_mark (f p).fatal mark) portions (mapped_along (λ (p : Portion). g p ≡ f p) (λ (p : Portion). has_mark (g p).fatal mark ≡ has_mark (f p).fatal mark) (λ p e. ap (λ (m : Marks). has_mark m.fatal mark) e) portions a) ∙ h.fatal mark;
    notes = λ note. any_same (λ (p : Portion). has_note (g p).notes note) (λ (p : Portion). has_note (f p).notes note) portions (mapped_along (λ (p : Portion). g p ≡ f p) (λ (p : Portion). has_note (g p).notes note ≡ has_note (f p).notes note) (λ p e. ap (λ (m : Marks). has_note m.notes note) e) portions a) ∙ h.notes note;
  }

  -- ---- steps

  pub step_along : (whole : Step) (f g : Portion → Step) → AllByRecursion (λ (p : Portion). g p ≡ f p) portions → StepParts portions whole f → StepParts portions whole g
  step_along whole f g a h = record {
    one = h.one;
    rows = mapped_along (λ (p : Portion). (g p ≡ f p) × ((f p).table.rows ≡ filter (λ (row : Row). p.test row.labels) whole.table.rows)) (λ (p : Portion). (g p).table.rows ≡ filter (λ (row : Row). p.test row.labels) whole.table.rows)
        (λ p e. ap (λ (s : Step). s.table.rows) e.0 ∙ e.1) portions (both_along (λ (p : Portion). g p ≡ f p) (λ (p : Portion). (f p).table.rows ≡ filter (λ (row : Row). p.test row.labels) whole.table.rows) portions a h.rows);
    marks = marks_along whole.marks (λ p. (f p).marks) (λ p. (g p).marks) (mapped_along (λ (p : Portion). g p ≡ f p) (λ (p : Portion). (g p).marks ≡ (f p).marks) (λ p e. ap (λ (s : Step). s.marks) e) portions a) h.marks;
  }

  pub barren_parts : (m : Marks) (f : Portion → Marks) → HaveMarks portions m f → StepParts portions (barren m) (λ p. barren (f p))
  barren_parts m f h = record { one = tt; rows = everywhere (λ (p : Portion). [] ≡ filter (λ (row : Row). p.test row.labels) []) (λ p. refl) portions; marks = h }

  -- ---- a vector, or windows in its place

  selected_step : (rules : List Rule) (rows : List Stamped) → AllByRecursion (λ (row : Stamped). IsOfOne portions row.labels) rows
      → StepParts portions (step_of (given.Selected (record { rules = rules; rows = rows }))) (λ p. step_of (given.Selected (record { rules = rules; rows = samples_in p rows })))
  selected_step rules rows one = record {
    one = all_mapped (λ (row : Row). IsOfOne portions row.labels) unstamped rows one;
    rows = everywhere (λ (p : Portion). map unstamped (samples_in p rows) ≡ filter (λ (row : Row). p.test row.labels) (map unstamped rows)) (λ p. sym (filter_mapped (λ (row : Row). p.test row.labels) unstamped rows)) portions;
    marks = no_marks_parted;
  }

  pub step_parts : (whole : Given) (pieces : Portion → Given) → GivenParts portions whole pieces → StepParts portions (step_of whole) (λ p. step_of (pieces p))
  step_parts whole pieces (selected rules rows is each one) =
      let each_step = mapped_along (λ (p : Portion). pieces p ≡ given.Selected (record { rules = rules; rows = samples_in p rows })) (λ (p : Portion). step_of (pieces p) ≡ step_of (given.Selected (record { rules = rules; rows = samples_in p rows }))) (λ p e. ap step_of e) portions each in
      subst (λ (g : Given). StepParts portions (step_of g) (λ p. step_of (pieces p))) (sym is)
      (step_along (step_of (given.Selected (record { rules = rules; rows = rows }))) (λ p. step_of (given.Selected (record { rules = rules; rows = samples_in p rows }))) (λ p. step_of (pieces p)) each_step (selected_step rules rows one))
  step_parts whole pieces (windows w marks is each one have) =
      let each_step = mapped_along (λ (p : Portion). pieces p ≡ given.Windows (record w { rows = windows_in p w.rows; marks = marks p })) (λ (p : Portion). step_of (pieces p) ≡ barren nothing) (λ p e. ap step_of e) portions each in
      subst (λ (g : Given). StepParts portions (step_of g) (λ p. step_of (pieces p))) (sym is) (step_along (barren nothing) (λ p. barren nothing) (λ p. step_of (pieces p)) each_step (barren_parts nothing (λ p. nothing) no_marks_parted))
  step_parts whole pieces (vector step steps is each parts) =
      let each_step = mapped_along (λ (p : Portion). pieces p ≡ given.Vector (steps p)) (λ (p : Portion). step_of (pieces p) ≡ steps p) (λ p e. ap step_of e) portions each in
      subst (λ (g : Given). StepParts portions (step_of g) (λ p. step_of (pieces p))) (sym is) (step_along step steps (λ p. step_of (pieces p)) each_step parts)

  pub no_scalar : (whole : Given) (pieces : Portion → Given) → GivenParts portions whole pieces → IsNoScalar whole × AllByRecursion (λ (p : Portion). IsNoScalar (pieces p)) portions
  no_scalar whole pieces (selected rules rows is each one) =
      (subst IsNoScalar (sym is) tt, mapped_along (λ (p : Portion). pieces p ≡ given.Selected (record { rules = rules; rows = samples_in p rows })) (λ (p : Portion). IsNoScalar (pieces p)) (λ p e. subst IsNoScalar (sym e) tt) portions each)
  no_scalar whole pieces (windows w marks is each one have) =
      (subst IsNoScalar (sym is) tt, mapped_along (λ (p : Portion). pieces p ≡ given.Windows (record w { rows = windows_in p w.rows; marks = marks p })) (λ (p : Portion). IsNoScalar (pieces p)) (λ p e. subst IsNoScalar (sym e) tt) portions each)
  no_scalar whole pieces (vector step steps is each parts) =
      (subst IsNoScalar (sym is) tt, mapped_along (λ (p : Portion). pieces p ≡ given.Vector (steps p)) (λ (p : Portion). IsNoScalar (pieces p)) (λ p e. subst IsNoScalar (sym e) tt) portions each)

  -- what makes a vector of each step makes a parted vector, where it makes parted steps of parted steps
  pub vector_of : (F : Given → Given) (S : Step → Step) → ((g : Given) → IsNoScalar g → F g ≡ given.Vector (S (step_of g)))
      → ((step : Step) (steps : Portion → Step) → StepParts portions step steps → StepParts portions (S step) (λ p. S (steps p)))
      → (whole : Given) (pieces : Portion → Given) → GivenParts portions whole pieces → GivenParts portions (F whole) (λ p. F (pieces p))
  vector_of F S makes keeps whole pieces parts =
      let plain = no_scalar whole pieces parts in
      vector (S (step_of whole)) (λ p. S (step_of (pieces p))) (makes whole plain.0)
      (mapped_along (λ (p : Portion). IsNoScalar (pieces p)) (λ (p : Portion). F (pieces p) ≡ given.Vector (S (step_of (pieces p)))) (λ p h. makes (pieces p) h) portions plain.1)
      (keeps (step_of whole) (λ p. step_of (pieces p)) (step_parts whole pieces parts))

  module _ (unions : UnionHasMarks) where
    -- what is made of things that have labels
    pub made_parts : {X : Type 0} (labels : X → Names) (outcome : X → Outcome) (m : Marks) (before : Portion → Marks) (xs : List X) (ys : Portion → List X)
        → AllByRecursion (λ (p : Portion). ys p ≡ in_part test_of labels p xs) portions
        → AllByRecursion (λ (x : X). IsOfOne portions (labels x)) xs
        → AllByRecursion (λ (p : Portion). Keeps labels outcome p.test) portions
        → HaveMarks portions m before
        → StepParts portions (made_step labels outcome m xs) (λ p. made_step labels outcome (before p) (ys p))
    made_parts {X = X} labels outcome m before xs ys are one keeps have = record {
      one = made_all labels outcome (IsOfOne portions) (made_of_one labels outcome test_of portions keeps) m xs one;
      rows = mapped_along (λ (p : Portion). (ys p ≡ in_part test_of labels p xs) × Keeps labels outcome p.test) (λ (p : Portion). (made_step labels outcome (before p) (ys p)).table.rows ≡ filter (λ (row : Row). p.test row.labels) (made_step labels outcome m xs).table.rows)
          (λ p h. ap (λ (zs : List X). (made_step labels outcome (before p) zs).table.rows) h.0 ∙ rows_made labels outcome p.test h.1 (before p) m xs)
          portions (both_along (λ (p : Portion). ys p ≡ in_part test_of labels p xs) (λ (p : Portion). Keeps labels outcome p.test) portions are keeps);
      marks = record {
        fatal = λ mark. any_same (λ (p : Portion). has_mark (made_step labels outcome (before p) (ys p)).marks.fatal mark) (λ (p : Portion). has_mark (made_step labels outcome (before p) (in_part test_of labels p xs)).marks.fatal mark) portions
            (mapped_along (λ (p : Portion). ys p ≡ in_part test_of labels p xs) (λ (p : Portion). has_mark (made_step labels outcome (before p) (ys p)).marks.fatal mark ≡ has_mark (made_step labels outcome (before p) (in_part test_of labels p xs)).marks.fatal mark)
            (λ p e. ap (λ (zs : List X). has_mark (made_step labels outcome (before p) zs).marks.fatal mark) e) portions are)
            ∙ parted_has labels outcome unions test_of before m portions xs keeps one mark (have.fatal mark);
        notes = λ note. any_same (λ (p : Portion). has_note (made_step labels outcome (before p) (ys p)).marks.notes note) (λ (p : Portion). has_note (before p).notes note) portions
            (everywhere (λ (p : Portion). has_note (made_step labels outcome (before p) (ys p)).marks.notes note ≡ has_note (before p).notes note) (λ p. ap (λ (ns : List Note). has_note ns note) (own_notes labels outcome (before p) (ys p))) portions)
            ∙ have.notes note ∙ ap (λ (ns : List Note). has_note ns note) (sym (own_notes labels outcome m xs));
      };
    }

    -- what is made row by row
    pub row_parts : (outcome : Row → Outcome) → AllByRecursion (λ (p : Portion). Keeps row_labels outcome p.test) portions
        → (step : Step) (steps : Portion → Step) → StepParts portions step steps → StepParts portions (row_by_row outcome step) (λ p. row_by_row outcome (steps p))
    row_parts outcome keeps step steps h = made_parts row_labels outcome step.marks (λ p. (steps p).marks) step.table.rows (λ p. (steps p).table.rows) h.rows h.one keeps h.marks

    module _ (note_unions : UnionHasNotes) (some : 0 < length portions) where
      -- marks that stand beside those of each portion
      pub marks_with : (m : Marks) (f : Portion → Marks) (c : Marks) → HaveMarks portions m f → HaveMarks portions (united m c) (λ p. united (f p) c)
      marks_with m f c h = record {
        fatal = λ mark. any_same (λ (p : Portion). has_mark (united (f p) c).fatal mark) (λ (p : Portion). has_mark (f p).fatal mark || has_mark c.fatal mark) portions
            (everywhere (λ (p : Portion). has_mark (united (f p) c).fatal mark ≡ (has_mark (f p).fatal mark || has_mark c.fatal mark)) (λ p. unions (f p) c mark) portions)
            ∙ any_or (λ (p : Portion). has_mark (f p).fatal mark) (has_mark c.fatal mark) portions some ∙ ap (λ b. b || has_mark c.fatal mark) (h.fatal mark) ∙ sym (unions m c mark);
        notes = λ note. any_same (λ (p : Portion). has_note (united (f p) c).notes note) (λ (p : Portion). has_note (f p).notes note || has_note c.notes note) portions
            (everywhere (λ (p : Portion). has_note (united (f p) c).notes note ≡ (has_note (f p).notes note || has_note c.notes note)) (λ p. note_unions (f p) c note) portions)
            ∙ any_or (λ (p : Portion). has_note (f p).notes note) (has_note c.notes note) portions some ∙ ap (λ b. b || has_note c.notes note) (h.notes note) ∙ sym (note_unions m c note);
      }

      pub marked_parts : (c : Marks) (step : Step) (steps : Portion → Step) → StepParts portions step steps → StepParts portions (marked c step) (λ p. marked c (steps p))
      marked_parts c step steps h = record { one = h.one; rows = h.rows; marks = marks_with step.marks (λ p. (steps p).marks) c h.marks }

      -- a function of a vector and of a constant scalar, or of two
      pub scalar_parts : (f : XFrac → Step → Step) → ((a : XFrac) (step : Step) (steps : Portion → Step) → StepParts portions step steps → StepParts portions (f a step) (λ p. f a (steps p)))
          → (scalar : Step) (step : Step) (steps : Portion → Step) → StepParts portions step steps → StepParts portions (with_scalar f scalar step) (λ p. with_scalar f scalar (steps p))
      scalar_parts f keeps scalar step steps h =
          elim (value_in scalar) as (λ o. StepParts portions (by_value o (united step.marks scalar.marks) (λ a. f a (marked scalar.marks step))) (λ p. by_value o (united (steps p).marks scalar.marks) (λ a. f a (marked scalar.marks (steps p))))) [
            | None ↦ barren_parts (united step.marks scalar.marks) (λ p. united (steps p).marks scalar.marks) (marks_with step.marks (λ p. (steps p).marks) scalar.marks h.marks)
            | Some a ↦ keeps a (marked scalar.marks step) (λ p. marked scalar.marks (steps p)) (marked_parts scalar.marks step steps h)
          ]

      pub scalars_parts : (f : XFrac → XFrac → Step → Step) → ((a b : XFrac) (step : Step) (steps : Portion → Step) → StepParts portions step steps → StepParts portions (f a b step) (λ p. f a b (steps p)))
          → (first second : Step) (step : Step) (steps : Portion → Step) → StepParts portions step steps → StepParts portions (with_scalars f first second step) (λ p. with_scalars f first second (steps p))
      scalars_parts f keeps first second step steps h =
          elim (both (value_in first) (value_in second)) as (λ o. StepParts portions (by_value o (united (united step.marks first.marks) second.marks) (λ b. f b.0 b.1 (marked second.marks (marked first.marks step)))) (λ p. by_value o (united (united (steps p).marks first.marks) second.marks) (λ b. f b.0 b.1 (marked second.marks (marked first.marks (steps p)))))) [
            | None ↦
                barren_parts (united (united step.marks first.marks) second.marks) (λ p. united (united (steps p).marks first.marks) second.marks)
                (marks_with (united step.marks first.marks) (λ p. united (steps p).marks first.marks) second.marks (marks_with step.marks (λ p. (steps p).marks) first.marks h.marks))
            | Some b ↦
                keeps b.0 b.1 (marked second.marks (marked first.marks step)) (λ p. marked second.marks (marked first.marks (steps p)))
                (marked_parts second.marks (marked first.marks step) (λ p. marked first.marks (steps p)) (marked_parts first.marks step steps h))
          ]
