-- Every call keeps steps well formed.
use Rattle.std.proofs.Common.{◌≡◌, length, Bool, true, false, List, [], ◌∷◌, ◌+◌, cond, map, refl, ap, subst, arith, Option, Some, None, Result, Ok, Err}
use Rattle.std.specs.Prelude.{filter, not, ◌||◌, if◌then◌else◌}
use Rattle.std.specs.declared.cmp.Ordering.TheVariants.{Less}
use Rattle.std.specs.List.{AllByRecursion, cons_option, filter_map}
use Rattle.std.specs.List.Sorted.{IsStrictlySortedBy}
use Rattle.std.proofs.lemmas.Option.{same_Some}
use Rattle.func_table.specs.declared.table.SetOp.{SetOp}
use Rattle.func_table.specs.declared.table.SetOp.TheVariants.{And, Unless, Or}
use Rattle.label_set.specs.Labels.{labels_cmp}
use Rattle.label_set.specs.declared.rules.Pairing.{Pairing}
use Rattle.xfrac.specs.declared.value.NumFault.{NumFault}
use Rattle.xfrac.specs.declared.value.PairOp.{PairOp}
use Rattle.xfrac.specs.declared.value.XFrac.{XFrac}
use Rattle.step_table.specs.Matching.{paired, pair_marks, uncrowded, left_rows, matches, many_side, one_side, is_empty}
use Rattle.step_table.specs.OrderLaws.{mark_cmp_total, mark_cmp_ties, note_cmp_total}
use Rattle.step_table.specs.Orders.{mark_cmp}
use Rattle.step_table.specs.Groups.{Names, shared_names}
use Rattle.step_table.specs.Outcomes.{settled, keyed, row_of}
use Rattle.step_table.specs.Sets.{combined, is_on}
use Rattle.step_table.specs.Unions.{set_of, united, with_fatal}
use Rattle.step_table.specs.WellFormed.{AreSets, IsTable, IsWellFormed}
use Rattle.step_table.specs.declared.marks.Mark.{Mark}
use Rattle.step_table.specs.declared.marks.Mark.TheVariants.{SameLabelset}
use Rattle.step_table.specs.declared.marks.Marks.{Marks}
use Rattle.step_table.specs.declared.outcomes.Outcome.{Outcome}
use Rattle.step_table.specs.declared.step.Row.{Row}
use Rattle.step_table.specs.declared.step.Step.{Step}
use Rattle.step_table.proofs.LoneRows.{lone_rows_sorted}
use Rattle.step_table.proofs.Ordered.{sorted_union, sorted_filtered}
use Rattle.step_table.specs.KeySets.{sorted_set}

pub united_sets : (a b : Marks) → AreSets a → AreSets b → AreSets (united a b)
united_sets a b s t = record { fatal = sorted_union mark_cmp_total a.fatal b.fatal s.fatal t.fatal; notes = sorted_union note_cmp_total a.notes b.notes s.notes t.notes }

pub with_fatal_sets : (marks : Marks) (fatal : List Mark) → AreSets marks → AreSets (with_fatal marks fatal)
unfolding IsStrictlySortedBy
with_fatal_sets marks fatal s = united_sets marks (record { fatal = set_of mark_cmp fatal; notes = [] }) s (record { fatal = sorted_set mark_cmp_total mark_cmp_ties fatal; notes = tt })

pub settled_well : (step : Step) → AreSets step.marks → IsWellFormed (settled step)
settled_well step s = record { rows = lone_rows_sorted step.table.rows; marks = with_fatal_sets step.marks (map SameLabelset (shared_names (keyed step.table.rows))) s }

well_if : (b : Bool) (s t : Step) → IsWellFormed s → IsWellFormed t → IsWellFormed (if b then s else t)
well_if true s t v w = v
well_if false s t v w = w

no_rows : (marks : Marks) → AreSets marks → IsWellFormed (record { table = record { rows = [] }; marks = marks })
unfolding IsStrictlySortedBy
no_rows marks s = record { rows = tt; marks = s }

pub paired_well : (l r : Step) (op : PairOp) (p : Pairing) → IsWellFormed l → IsWellFormed r → IsWellFormed (paired l r op p)
paired_well l r op p s t =
    let marks : AreSets (united l.marks r.marks) = united_sets l.marks r.marks s.marks t.marks in
    let many : List Row = many_side p.card l.table.rows r.table.rows in
    let ones : List Row = one_side p.card l.table.rows r.table.rows in
    well_if (is_empty l.table.rows || is_empty r.table.rows) _ _ (no_rows _ marks)
    (record { rows = lone_rows_sorted (uncrowded p.card (left_rows (matches op p many ones))); marks = with_fatal_sets (united l.marks r.marks) (pair_marks op p many ones) marks })

pub combined_well : (l r : Step) (op : SetOp) (p : Pairing) → IsWellFormed l → IsWellFormed r → IsWellFormed (combined l r op p)
combined_well l r And p s t = record { rows = sorted_filtered labels_cmp (λ row. row.labels) (is_on p r.table.rows) l.table.rows s.rows; marks = united_sets l.marks r.marks s.marks t.marks }
combined_well l r Unless p s t = record { rows = sorted_filtered labels_cmp (λ row. row.labels) (λ row. not (is_on p r.table.rows row)) l.table.rows s.rows; marks = united_sets l.marks r.marks s.marks t.marks }
combined_well l r Or p s t = settled_well _ (united_sets l.marks r.marks s.marks t.marks)

counted : (row : Row) (k : Bool) (passed failed all : List Row) → length passed + length failed ≡ length all → length (cond k (row ∷ passed) passed) + length failed ≡ length (cond k (row ∷ all) all)
counted row true passed failed all e = omega arith
counted row false passed failed all e = e

counted_after : (row : Row) (k : Bool) (passed failed all : List Row) → length passed + length failed ≡ length all → length passed + length (cond k (row ∷ failed) failed) ≡ length (cond k (row ∷ all) all)
counted_after row true passed failed all e = omega arith
counted_after row false passed failed all e = e

-- of each kind as many rows pass a test or don't as there are
pub parted_counts : (kind test : Row → Bool) (rows : List Row) → length (filter kind (filter test rows)) + length (filter kind (filter (λ row. not (test row)) rows)) ≡ length (filter kind rows)
parted_counts kind test [] = refl
parted_counts kind test (row ∷ rows) =
    elim (test row) as (λ t. length (filter kind (cond t (row ∷ filter test rows) (filter test rows))) + length (filter kind (cond (not t) (row ∷ filter (λ row. not (test row)) rows) (filter (λ row. not (test row)) rows))) ≡ length (filter kind (row ∷ rows))) [
      | true ↦ counted row (kind row) _ _ _ (parted_counts kind test rows)
      | false ↦ counted_after row (kind row) _ _ _ (parted_counts kind test rows)
    ]

-- ---- outcomes in the order of their labels give a table

labels_taken : (outcome : Outcome) (row : Row) → row_of outcome ≡ Some row → outcome.labels ≡ row.labels
labels_taken outcome row e = by outcome.value refl
  where
    by : (v : Result (Option XFrac) NumFault) → outcome.value ≡ v → outcome.labels ≡ row.labels
    by (Ok (Some value)) is =
        let made : Row = record { labels = outcome.labels; value = value } in
        ap (λ (r : Row). r.labels) (same_Some made row (rw is at e))
    by (Ok None) is = let none : ◌≡◌ {A = Option Row} None (Some row) = rw is at e in absurd (cc)
    by (Err fault) is = let none : ◌≡◌ {A = Option Row} None (Some row) = rw is at e in absurd (cc)

taken_split : (outcome : Outcome) (outcomes : List Outcome) (Q : List Row → Type 0) → Q (filter_map row_of outcomes) → ((row : Row) → outcome.labels ≡ row.labels → Q (row ∷ filter_map row_of outcomes)) → Q (filter_map row_of (outcome ∷ outcomes))
taken_split outcome outcomes Q none some = by (row_of outcome) refl
  where
    by : (o : Option Row) → row_of outcome ≡ o → Q (cons_option o (filter_map row_of outcomes))
    by None e = none
    by (Some row) e = some row (labels_taken outcome row e)

all_taken : (P : Names → Type 0) (outcomes : List Outcome) → AllByRecursion P (map (λ outcome. outcome.labels) outcomes) → AllByRecursion P (map (λ row. row.labels) (filter_map row_of outcomes))
all_taken P [] a = tt
all_taken P (outcome ∷ outcomes) a =
    taken_split outcome outcomes (λ rows. AllByRecursion P (map (λ row. row.labels) rows)) (all_taken P outcomes a.1) (λ row e. (subst P e a.0, all_taken P outcomes a.1))

pub taken_table : (outcomes : List Outcome) → IsStrictlySortedBy labels_cmp (map (λ outcome. outcome.labels) outcomes) → IsTable (filter_map row_of outcomes)
unfolding IsStrictlySortedBy
taken_table [] s = tt
taken_table (outcome ∷ outcomes) s =
    taken_split outcome outcomes IsTable (taken_table outcomes s.1)
    (λ row e. (subst (λ names. AllByRecursion (λ z. labels_cmp names z ≡ Less) (map (λ row. row.labels) (filter_map row_of outcomes))) e (all_taken (λ z. labels_cmp outcome.labels z ≡ Less) outcomes s.0), taken_table outcomes s.1))
