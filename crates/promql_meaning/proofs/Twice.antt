-- Minus twice.
use Rattle.std.proofs.Common.{◌≡◌, ◌∙◌, Bool, true, false, cond, List, [], ◌∷◌, map, refl, sym, ap, subst}
use Rattle.std.specs.Prelude.{ℤ, zero, suc, pos, negsuc, neg_ℤ, not, filter}
use Rattle.std.specs.List.{filter_map}
use Rattle.std.specs.List.Sorted.{IsStrictlySortedBy}
use Rattle.func_table.specs.declared.table.Element.TheVariants.{Neg}
use Rattle.label_set.specs.Labels.{is_named, labels_cmp, metric_name}
use Rattle.xfrac.specs.Forming.{negated}
use Rattle.xfrac.specs.declared.value.XFrac.{XFrac}
use Rattle.xfrac.specs.declared.value.XFrac.TheVariants.{Fin, PosInf, NegInf, NaN}
use Rattle.step_table.specs.Gathering.{labels_of, nothing_more, settled_table}
use Rattle.step_table.specs.Outcomes.{mark_of, row_of, settled}
use Rattle.step_table.specs.Unions.{with_fatal}
use Rattle.step_table.specs.WellFormed.{IsTable}
use Rattle.step_table.specs.declared.step.Row.{Row}
use Rattle.step_table.specs.declared.step.Step.{Step}
use Rattle.promql_meaning.specs.Elements.{element_outcome, mapped, nameless}
use Rattle.step_table.specs.Sets.{step_of_rows}
use Rattle.promql_meaning.specs.Laws.{MinusTwice, unnamed_row}
use Rattle.promql_meaning.specs.Meaning.{zero_number}

-- a row under minus
abbrev turned : Row → Row
turned row = record { labels = nameless row.labels; value = negated row.value }

neg_twice : (z : ℤ) → neg_ℤ (neg_ℤ z) ≡ z
neg_twice (pos zero) = refl
neg_twice (pos (suc n)) = refl
neg_twice (negsuc n) = refl

negated_twice : (v : XFrac) → negated (negated v) ≡ v
negated_twice (Fin f) = ap (λ z. Fin (z, f.1)) (neg_twice f.0)
negated_twice PosInf = refl
negated_twice NegInf = refl
negated_twice NaN = refl

filter_twice : {X : Type 0} (p : X → Bool) (xs : List X) → filter p (filter p xs) ≡ filter p xs
filter_twice p [] = refl
filter_twice p (x ∷ xs) = by (p x) refl (filter_twice p xs)
  where
    by : (b : Bool) → p x ≡ b → filter p (filter p xs) ≡ filter p xs → filter p (cond b (x ∷ filter p xs) (filter p xs)) ≡ cond b (x ∷ filter p xs) (filter p xs)
    by true e rest = ap (λ c. cond c (x ∷ filter p (filter p xs)) (filter p (filter p xs))) e ∙ ap (λ r. x ∷ r) rest
    by false e rest = rest

outcomes_rows : (rows : List Row) → filter_map row_of (map (element_outcome Neg zero_number zero_number) rows) ≡ map turned rows
outcomes_rows [] = refl
outcomes_rows (row ∷ rows) = ap (λ more. turned row ∷ more) (outcomes_rows rows)

outcomes_marks : (rows : List Row) → filter_map mark_of (map (element_outcome Neg zero_number zero_number) rows) ≡ []
outcomes_marks [] = refl
outcomes_marks (row ∷ rows) = outcomes_marks rows

labels_turned : (rows : List Row) → labels_of (map turned rows) ≡ labels_of (map unnamed_row rows)
labels_turned [] = refl
labels_turned (row ∷ rows) = ap (λ ks. nameless row.labels ∷ ks) (labels_turned rows)

labels_again : (rows : List Row) → labels_of (map unnamed_row (map turned rows)) ≡ labels_of (map unnamed_row rows)
labels_again [] = refl
labels_again (row ∷ rows) =
    ap (λ names. names ∷ labels_of (map unnamed_row (map turned rows))) (filter_twice (λ p. not (is_named (metric_name ∷ []) p.0)) row.labels)
    ∙ ap (λ ks. nameless row.labels ∷ ks) (labels_again rows)

turned_twice : (rows : List Row) → map turned (map turned rows) ≡ map unnamed_row rows
turned_twice [] = refl
turned_twice (row ∷ rows) =
    ap (λ (r : Row). r ∷ map turned (map turned rows)) (λ i. record { labels = filter_twice (λ p. not (is_named (metric_name ∷ []) p.0)) row.labels i; value = negated_twice row.value i })
    ∙ ap (λ more. unnamed_row row ∷ more) (turned_twice rows)

-- minus once
once : (v : Step) → IsTable (map unnamed_row v.table.rows) → mapped Neg zero_number zero_number v ≡ step_of_rows (map turned v.table.rows) v.marks
once v table =
    ap settled (λ i. step_of_rows (outcomes_rows v.table.rows i) ((ap (with_fatal v.marks) (outcomes_marks v.table.rows) ∙ nothing_more v.marks) i))
    ∙ settled_table (step_of_rows (map turned v.table.rows) v.marks) (subst (IsStrictlySortedBy labels_cmp) (sym (labels_turned v.table.rows)) table)

pub twice : MinusTwice
twice v table =
    ap (mapped Neg zero_number zero_number) (once v table)
    ∙ once (step_of_rows (map turned v.table.rows) v.marks) (subst (IsStrictlySortedBy labels_cmp) (sym (labels_again v.table.rows)) table)
    ∙ ap (λ rows. step_of_rows rows v.marks) (turned_twice v.table.rows)
