-- A union with itself is the set, and `or` of a vector with itself is the vector.
use Rattle.std.proofs.Common.{◌≡◌, ◌∙◌, Bool, true, false, List, [], ◌∷◌, ◌++◌, refl, ap, append-nil}
use Rattle.std.specs.Prelude.{◌||◌, filter, not}
use Rattle.std.specs.declared.cmp.Ordering.{Ordering}
use Rattle.std.specs.Cmp.{IsTotalOrder}
use Rattle.std.specs.Ordering.{is_eq}
use Rattle.std.specs.BTreeMap.{is_at}
use Rattle.std.specs.List.{AllByRecursion}
use Rattle.std.specs.Set.{sorted_merge}
use Rattle.std.proofs.lemmas.Cmp.{tied_itself}
use Rattle.func_table.specs.declared.table.SetOp.TheVariants.{Or}
use Rattle.label_set.specs.Entries.{recursion_map}
use Rattle.label_set.specs.Labels.{labels_cmp}
use Rattle.label_set.specs.LabelOrder.{labels_cmp_total}
use Rattle.label_set.specs.declared.rules.Pairing.{Pairing}
use Rattle.step_table.specs.Gathering.{settled_table}
use Rattle.step_table.specs.Matching.{signature_of}
use Rattle.step_table.specs.OrderLaws.{mark_cmp_total, note_cmp_total}
use Rattle.step_table.specs.Outcomes.{settled}
use Rattle.step_table.specs.Sets.{combined, is_on, rows_off, step_of_rows}
use Rattle.step_table.specs.Unions.{united}
use Rattle.step_table.specs.WellFormed.{IsWellFormed}
use Rattle.step_table.specs.declared.step.Row.{Row}
use Rattle.step_table.specs.declared.step.Step.{Step}

module _ {K : Type 0} {R : K → K → Ordering} (o : IsTotalOrder R) where
  union_itself : (xs : List K) → sorted_merge R true xs xs ≡ xs
  union_itself [] = refl
  union_itself (x ∷ xs) = rw (tied_itself o x) (ap (λ ys. x ∷ ys) (union_itself xs))

true_or : (a b : Bool) → a ≡ true → (a || b) ≡ true
true_or true b e = refl
true_or false b e = absurd (cc)

or_true : (a b : Bool) → b ≡ true → (a || b) ≡ true
or_true true b e = refl
or_true false b e = e

all_on : (p : Pairing) (rows : List Row) → AllByRecursion (λ row. is_on p rows row ≡ true) rows
all_on p [] = tt
all_on p (row ∷ rows) =
    (true_or _ _ (ap is_eq (tied_itself labels_cmp_total (signature_of p row))), recursion_map (λ x. is_on p rows x ≡ true) (λ x. is_on p (row ∷ rows) x ≡ true) (λ x e. or_true (is_at (labels_cmp (signature_of p x)) (signature_of p row)) (is_on p rows x) e) rows (all_on p rows))

filter_none : (test : Row → Bool) (rows : List Row) → AllByRecursion (λ row. test row ≡ true) rows → filter (λ row. not (test row)) rows ≡ []
filter_none test [] a = refl
filter_none test (row ∷ rows) a = rw a.0 (filter_none test rows a.1)

-- `or` of a vector with itself is the vector
pub or_itself : (v : Step) (p : Pairing) → IsWellFormed v → combined v v Or p ≡ v
or_itself v p w =
    let rows : v.table.rows ++ rows_off p v.table.rows v.table.rows ≡ v.table.rows = ap (λ more. v.table.rows ++ more) (filter_none (is_on p v.table.rows) v.table.rows (all_on p v.table.rows)) ∙ append-nil v.table.rows in
    let marks : united v.marks v.marks ≡ v.marks = λ i. record { fatal = union_itself mark_cmp_total v.marks.fatal i; notes = union_itself note_cmp_total v.marks.notes i } in
    ap settled (λ i. step_of_rows (rows i) (marks i)) ∙ settled_table v w.rows
