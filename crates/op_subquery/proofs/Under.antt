-- The samples that windows have under labels, as points come and go.
use Rattle.std.proofs.Common.{◌≡◌, ◌∙◌, ◌-◌, ℕ, zero, suc, Bool, true, false, cond, List, [], ◌∷◌, length, drop, refl, sym, ap, subst, arith, length-drop, Some, slice_get}
use Rattle.std.specs.Prelude.{ℤ, ◌<ℤ◌, if◌then◌else◌}
use Rattle.std.specs.List.{AllByRecursion, IsDistinct}
use Rattle.label_set.specs.LabelEquality.{labels_decide, labels_eq}
use Rattle.label_set.specs.LabelOrder.{labels_eq_equivalence}
use Rattle.step_batch.specs.Columns.{Columns, column_more, columns_behind, early, has_some}
use Rattle.step_batch.specs.LentWindows.{EndsBefore, IsWindow, behind, columns_in, left_behind, lengthened, names_of, with_sample}
use Rattle.step_table.specs.Groups.{Names}
use Rattle.step_table.specs.declared.windows.WindowRow.{WindowRow}
use Rattle.ticks.specs.declared.moment.Ms.{Ms}
use Rattle.xfrac.specs.declared.value.XFrac.{XFrac}
use Rattle.op_subquery.specs.Kept.{samples_under}

pub labels_same : (ps qs : Names) → labels_eq ps qs ≡ true → ps ≡ qs
labels_same ps qs e = (labels_decide ps qs (labels_eq ps qs) refl).0 e

pub labels_itself : (ps : Names) → labels_eq ps ps ≡ true
labels_itself ps = (labels_decide ps ps (labels_eq ps ps) refl).1 refl

-- ---- a sample more

module _ (q names : Names) (at : Ms) (v : XFrac) where
  both : (w : WindowRow) (rest : Columns) (b : Bool) → (if b then columns_in (lengthened at v w) else rest) ≡ (if b then column_more (if b then columns_in w else rest) at v else (if b then columns_in w else rest))
  both w rest true = refl
  both w rest false = refl

  other : (w : WindowRow) → labels_eq names w.labels ≡ false → labels_eq q w.labels ≡ true → labels_eq q names ≡ false
  other w h k = labels_eq_equivalence.symm q names ∙ ap (labels_eq names) (labels_same q w.labels k) ∙ h

  pub under_more : (rows : List WindowRow) → samples_under q (with_sample rows names at v) ≡ (if labels_eq q names then column_more (samples_under q rows) at v else samples_under q rows)
  under_more [] = refl
  under_more (w ∷ rows) =
      elim (labels_eq names w.labels) as (λ b. labels_eq names w.labels ≡ b → samples_under q (if b then lengthened at v w ∷ rows else w ∷ with_sample rows names at v) ≡ (if labels_eq q names then column_more (samples_under q (w ∷ rows)) at v else samples_under q (w ∷ rows))) [
        | true ↦ λ h.
            subst (λ (n : Names). (if labels_eq q w.labels then columns_in (lengthened at v w) else samples_under q rows) ≡ (if labels_eq q n then column_more (if labels_eq q w.labels then columns_in w else samples_under q rows) at v else (if labels_eq q w.labels then columns_in w else samples_under q rows)))
            (sym (labels_same names w.labels h)) (both w (samples_under q rows) (labels_eq q w.labels))
        | false ↦ λ h.
            elim (labels_eq q w.labels) as (λ c. labels_eq q w.labels ≡ c → (if c then columns_in w else samples_under q (with_sample rows names at v)) ≡ (if labels_eq q names then column_more (if c then columns_in w else samples_under q rows) at v else (if c then columns_in w else samples_under q rows))) [
              | true ↦ λ k. rw (other w h k) refl
              | false ↦ λ k. under_more rows
            ] refl
      ] refl

-- ---- the window with some labels

among : (P : Names → Type 0) (rows : List WindowRow) (i : ℕ) (w : WindowRow) → AllByRecursion P (names_of rows) → slice_get rows i ≡ Some w → P w.labels
among P [] i w a h = absurd (cc)
among P (x ∷ rows) zero w a h = let same : x ≡ w = cc in subst (λ (y : WindowRow). P y.labels) same a.0
among P (x ∷ rows) (suc i) w a h = among P rows i w a.1 h

found : (names : Names) (rows : List WindowRow) (i : ℕ) (w : WindowRow) → IsDistinct labels_eq (names_of rows) → slice_get rows i ≡ Some w → w.labels ≡ names → samples_under names rows ≡ columns_in w
unfolding IsDistinct
found names [] i w d h e = absurd (cc)
found names (x ∷ rows) zero w d h e =
    let same : x ≡ w = cc in
    let here : labels_eq names x.labels ≡ true = ap (labels_eq names) (ap (λ (y : WindowRow). y.labels) same ∙ e) ∙ labels_itself names in
    rw here (ap columns_in same)
found names (x ∷ rows) (suc i) w d h e =
    let apart : labels_eq x.labels w.labels ≡ false = among (λ y. labels_eq x.labels y ≡ false) rows i w d.0 h in
    let no : labels_eq names x.labels ≡ false = labels_eq_equivalence.symm names x.labels ∙ ap (labels_eq x.labels) (sym e) ∙ apart in
    rw no (found names rows i w d.1 h e)

-- what adding a sample asks for
pub ends_before : (names : Names) (at : Ms) (rows : List WindowRow) → IsDistinct labels_eq (names_of rows) → AllByRecursion (λ (t : Ms). t.0 <ℤ at.0) (samples_under names rows).times
    → (i : ℕ) (w : WindowRow) → slice_get rows i ≡ Some w → w.labels ≡ names → EndsBefore at w
ends_before names at rows d a i w h e = subst (λ (c : Columns). AllByRecursion (λ (t : Ms). t.0 <ℤ at.0) c.times) (found names rows i w d h e) a

-- ---- samples that go

none_under : (edge : ℤ) (q : Names) (rows : List WindowRow) → AllByRecursion (λ y. labels_eq q y ≡ false) (names_of rows) → samples_under q (behind edge rows) ≡ record { times = []; values = [] }
none_under edge q [] a = refl
none_under edge q (w ∷ rows) a =
    elim (has_some (columns_in (left_behind edge w))) as (λ b. samples_under q (cond b (left_behind edge w ∷ behind edge rows) (behind edge rows)) ≡ record { times = []; values = [] }) [
      | true ↦ rw a.0 (none_under edge q rows a.1)
      | false ↦ none_under edge q rows a.1
    ]

abbrev no_columns : Columns
no_columns = record { times = []; values = [] }

abbrev columns_in_both : List Ms → List XFrac → Columns
columns_in_both times values = record { times = times; values = values }

no_times : (times : List Ms) (values : List XFrac) → has_some (columns_in_both times values) ≡ false → length times ≡ length values → columns_in_both times values ≡ no_columns
no_times [] [] h e = refl
no_times [] (v ∷ values) h e = absurd (omega (arith, e))
no_times (t ∷ times) values h e = absurd (cc)

all_gone : (edge : ℤ) (w : WindowRow) → IsWindow w → has_some (columns_in (left_behind edge w)) ≡ false → columns_behind edge (columns_in w) ≡ record { times = []; values = [] }
all_gone edge w is h =
    let n = early edge w.times in
    no_times (drop n w.times) (drop n w.values) h (length-drop n w.times ∙ ap (λ k. k - n) is.same ∙ sym (length-drop n w.values))

apart_from : (q x : Names) (rows : List WindowRow) → labels_eq q x ≡ true → AllByRecursion (λ y. labels_eq x y ≡ false) (names_of rows) → AllByRecursion (λ y. labels_eq q y ≡ false) (names_of rows)
apart_from q x rows e a = subst (λ (n : Names). AllByRecursion (λ y. labels_eq n y ≡ false) (names_of rows)) (sym (labels_same q x e)) a

pub under_behind : (edge : ℤ) (q : Names) (rows : List WindowRow) → IsDistinct labels_eq (names_of rows) → AllByRecursion IsWindow rows → samples_under q (behind edge rows) ≡ columns_behind edge (samples_under q rows)
unfolding IsDistinct
under_behind edge q [] d a = refl
under_behind edge q (w ∷ rows) d a =
    elim (has_some (columns_in (left_behind edge w))) as (λ b. has_some (columns_in (left_behind edge w)) ≡ b → samples_under q (cond b (left_behind edge w ∷ behind edge rows) (behind edge rows)) ≡ columns_behind edge (samples_under q (w ∷ rows))) [
      | true ↦ λ h.
          elim (labels_eq q w.labels) as (λ c. (if c then columns_in (left_behind edge w) else samples_under q (behind edge rows)) ≡ columns_behind edge (if c then columns_in w else samples_under q rows)) [
            | true ↦ refl
            | false ↦ under_behind edge q rows d.1 a.1
          ]
      | false ↦ λ h.
          elim (labels_eq q w.labels) as (λ c. labels_eq q w.labels ≡ c → samples_under q (behind edge rows) ≡ columns_behind edge (if c then columns_in w else samples_under q rows)) [
            | true ↦ λ k. none_under edge q rows (apart_from q w.labels rows k d.0) ∙ sym (all_gone edge w a.0 h)
            | false ↦ λ k. under_behind edge q rows d.1 a.1
          ] refl
    ] refl
