-- The order of a sort of rows by value has to hold of all that look like numbers.
use Rattle.std.proofs.Common.{◌≡◌, ◌∙◌, Bool, ap}
use Rattle.std.specs.Cmp.{IsTotalOrder}
use Rattle.std.specs.declared.cmp.Ordering.{Ordering}
use Rattle.std.proofs.lemmas.Cmp.{on_total, then_total}
use Rattle.label_set.specs.LabelOrder.{labels_cmp_total}
use Rattle.xfrac.specs.Laws.{IsNumber, EqualIsSame, LessIsTransitive, OrderIsReversed}
use Rattle.step_table.specs.declared.step.Row.{Row}
use Rattle.promql_meaning.specs.NumberOrder.{tidy, tidy-same, values_total}
use Rattle.promql_meaning.specs.Ranks.{row_order}

abbrev tidied : Row → Row
tidied row = record { labels = row.labels; value = tidy row.value }

pub tidied_order : Bool → Row → Row → Ordering
tidied_order down a b = row_order down (tidied a) (tidied b)

pub rows_total : EqualIsSame → OrderIsReversed → LessIsTransitive → (down : Bool) → IsTotalOrder (tidied_order down)
unfolding tidied_order
rows_total equal reversed transitive down =
    then_total (on_total (λ (row : Row). row.value) (values_total equal reversed transitive down)) (on_total (λ (row : Row). row.labels) labels_cmp_total)

pub tidied_same : (down : Bool) (a b : Row) → IsNumber a.value → IsNumber b.value → tidied_order down a b ≡ row_order down a b
unfolding tidied_order
tidied_same down a b na nb =
    ap (λ v. row_order down (record { labels = a.labels; value = v }) (tidied b)) (tidy-same a.value na)
    ∙ ap (λ v. row_order down a (record { labels = b.labels; value = v })) (tidy-same b.value nb)
