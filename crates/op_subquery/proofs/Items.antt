-- The rows of steps under labels.
use Rattle.std.proofs.Common.{◌≡◌, ◌∙◌, ℕ, zero, true, false, cond, List, [], ◌∷◌, ◌++◌, map, refl, sym, ap, subst, append_assoc, append-nil, arith}
use Rattle.std.specs.Prelude.{ℤ, ◌<ℤ◌, ◌≤ℤ◌, int_lt, filter, if◌then◌else◌}
use Rattle.std.specs.BTreeMap.{is_at}
use Rattle.std.specs.List.{AllByRecursion}
use Rattle.std.specs.Map.{values_of}
use Rattle.std.proofs.lemmas.Int.{ints}
use Rattle.std.proofs.lemmas.List.{map-append}
use Rattle.std.proofs.lemmas.List.Elements.{filter-append}
use Rattle.label_set.specs.Entries.{recursion_map}
use Rattle.label_set.specs.Labels.{labels_cmp}
use Rattle.promql_meaning.specs.Selecting.{sample_times, sample_values}
use Rattle.step_batch.specs.Columns.{columns_behind, columns_from, early}
use Rattle.step_table.specs.Groups.{Names, items_of}
use Rattle.step_table.specs.Timed.{StepAt, rows_of_steps, timed}
use Rattle.step_table.specs.declared.step.Row.{Row}
use Rattle.ticks.specs.Listed.{AreRising}
use Rattle.ticks.specs.declared.moment.Ms.{Ms}
use Rattle.xfrac.specs.declared.value.XFrac.{XFrac}
use Rattle.op_subquery.specs.Kept.{columns_of, instants_of, later, with_samples}

pub items_append : {T : Type 0} (xs ys : List (Names × T)) (q : Names) → items_of (xs ++ ys) q ≡ items_of xs q ++ items_of ys q
items_append {T} xs ys q =
    ap values_of (filter-append (λ (item : Names × T). is_at (labels_cmp q) item.0) xs ys)
    ∙ map-append (λ (e : Names × T). e.1) (filter (λ (item : Names × T). is_at (labels_cmp q) item.0) xs) (filter (λ (item : Names × T). is_at (labels_cmp q) item.0) ys)

pub rows_append : (xs ys : List StepAt) → rows_of_steps (xs ++ ys) ≡ rows_of_steps xs ++ rows_of_steps ys
rows_append [] ys = refl
rows_append (s ∷ xs) ys = ap (λ r. timed s.at s.step ++ r) (rows_append xs ys) ∙ sym (append_assoc (timed s.at s.step) (rows_of_steps xs) (rows_of_steps ys))

pub columns_append : (xs ys : List (Ms × XFrac)) → with_samples (columns_of xs) ys ≡ columns_of (xs ++ ys)
columns_append xs ys = λ i. record { times = sym (map-append (λ (s : Ms × XFrac). s.0) xs ys) i; values = sym (map-append (λ (s : Ms × XFrac). s.1) xs ys) i }

-- one step more
pub items_more : (held : List StepAt) (s : StepAt) (q : Names) → items_of (rows_of_steps (held ++ s ∷ [])) q ≡ items_of (rows_of_steps held) q ++ items_of (timed s.at s.step) q
items_more held s q =
    ap (λ (r : List (Names × (Ms × XFrac))). items_of r q) (rows_append held (s ∷ []) ∙ ap (λ (r : List (Names × (Ms × XFrac))). rows_of_steps held ++ r) (append-nil (timed s.at s.step)))
    ∙ items_append (rows_of_steps held) (timed s.at s.step) q

-- ---- the times of rows

module _ (P : Ms → Type 0) (q : Names) where
  row_times : (u : Ms) (rows : List Row) → P u → AllByRecursion P (sample_times (items_of (map (λ (row : Row). (row.labels, (u, row.value))) rows) q))
  row_times u [] p = tt
  row_times u (row ∷ rows) p =
      elim (is_at (labels_cmp q) row.labels) as (λ b. AllByRecursion P (sample_times (values_of (cond b ((row.labels, (u, row.value)) ∷ filter (λ item. is_at (labels_cmp q) item.0) (map (λ (row : Row). (row.labels, (u, row.value))) rows)) (filter (λ item. is_at (labels_cmp q) item.0) (map (λ (row : Row). (row.labels, (u, row.value))) rows)))))) [
        | true ↦ (p, row_times u rows p)
        | false ↦ row_times u rows p
      ]

  all_append : (xs ys : List Ms) → AllByRecursion P xs → AllByRecursion P ys → AllByRecursion P (xs ++ ys)
  all_append [] ys a b = b
  all_append (x ∷ xs) ys a b = (a.0, all_append xs ys a.1 b)

  times_append : (xs ys : List (Ms × XFrac)) → AllByRecursion P (sample_times xs) → AllByRecursion P (sample_times ys) → AllByRecursion P (sample_times (xs ++ ys))
  times_append xs ys a b = subst (AllByRecursion P) (sym (map-append (λ (s : Ms × XFrac). s.0) xs ys)) (all_append (sample_times xs) (sample_times ys) a b)

  -- what holds of the instants of steps holds of the times of their rows
  pub times_hold : (steps : List StepAt) → AllByRecursion P (instants_of steps) → AllByRecursion P (sample_times (items_of (rows_of_steps steps) q))
  times_hold [] a = tt
  times_hold (s ∷ steps) a =
      subst (λ (items : List (Ms × XFrac)). AllByRecursion P (sample_times items)) (sym (items_append (timed s.at s.step) (rows_of_steps steps) q))
      (times_append (items_of (timed s.at s.step) q) (items_of (rows_of_steps steps) q) (row_times s.at s.step.table.rows a.0) (times_hold steps a.1))

-- ---- rows that go

module _ (edge : ℤ) where
  none_early : (times : List Ms) → AllByRecursion (λ (t : Ms). edge <ℤ t.0) times → early edge times ≡ zero
  none_early [] a = refl
  none_early (t ∷ times) a = let h = a.0 in let f : int_lt edge t.0 ≡ true = grind (arith, ints, h) in rw f refl

  early_front : (xs ys : List (Ms × XFrac)) → AllByRecursion (λ (t : Ms). t.0 ≤ℤ edge) (sample_times xs) → columns_behind edge (columns_of (xs ++ ys)) ≡ columns_behind edge (columns_of ys)
  early_front [] ys a = refl
  early_front (x ∷ xs) ys a = let h = a.0 in let f : int_lt edge x.0.0 ≡ false = grind (arith, ints, h) in rw f (early_front xs ys a.1)

  none_gone : (xs : List (Ms × XFrac)) → AllByRecursion (λ (t : Ms). edge <ℤ t.0) (sample_times xs) → columns_behind edge (columns_of xs) ≡ columns_of xs
  none_gone xs a = ap (λ (n : ℕ). columns_from n (sample_times xs) (sample_values xs)) (none_early (sample_times xs) a)

  -- the samples that stay are those of the steps that stay
  pub columns_later : (q : Names) (steps : List StepAt) → AreRising (instants_of steps) → columns_behind edge (columns_of (items_of (rows_of_steps steps) q)) ≡ columns_of (items_of (rows_of_steps (later edge steps)) q)
  columns_later q [] r = refl
  columns_later q (s ∷ steps) r =
      elim (int_lt edge s.at.0) as (λ b. int_lt edge s.at.0 ≡ b → columns_behind edge (columns_of (items_of (rows_of_steps (s ∷ steps)) q)) ≡ columns_of (items_of (rows_of_steps (if b then s ∷ steps else later edge steps)) q)) [
        | true ↦ λ h.
            let here : edge <ℤ s.at.0 = grind (arith, ints, h) in
            none_gone (items_of (rows_of_steps (s ∷ steps)) q)
            (times_hold (λ (t : Ms). edge <ℤ t.0) q (s ∷ steps) (here, recursion_map (λ (u : Ms). s.at.0 <ℤ u.0) (λ (u : Ms). edge <ℤ u.0) (λ u l. omega (arith, ints, here, l)) (instants_of steps) r.0))
        | false ↦ λ h.
            let here : s.at.0 ≤ℤ edge = grind (arith, ints, h) in
            ap (λ (items : List (Ms × XFrac)). columns_behind edge (columns_of items)) (items_append (timed s.at s.step) (rows_of_steps steps) q)
            ∙ early_front (items_of (timed s.at s.step) q) (items_of (rows_of_steps steps) q) (row_times (λ (t : Ms). t.0 ≤ℤ edge) q s.at s.step.table.rows here)
            ∙ columns_later q steps r.1
      ] refl
