-- Steps that are fed one after another.
use Rattle.std.proofs.Common.{◌≡◌, ◌∙◌, ◌+◌, ◌<◌, ℕ, zero, suc, arith, List, [], ◌∷◌, ◌++◌, length, slice_get, take, map, refl, sym, ap, subst, Some}
use Rattle.std.specs.Prelude.{Bool, true, false, not, if◌then◌else◌}
use Rattle.std.specs.List.{AllByRecursion}
use Rattle.std.proofs.lemmas.Option.{slice_get_within}
use Rattle.func_table.specs.declared.table.Aggregate.{Aggregate}
use Rattle.label_set.specs.declared.rules.Grouping.{Grouping}
use Rattle.promql_meaning.specs.Ranks.{kept_labels}
use Rattle.step_put.specs.Placed.{left_of}
use Rattle.step_put.specs.Puts.{AreAt}
use Rattle.step_put.specs.declared.labels_left.Left.{Left}
use Rattle.step_put.specs.declared.labels_left.Left.TheVariants.{Signature}
use Rattle.step_put.specs.Feeding.{some_here}
use Rattle.step_table.specs.Groups.{Names}
use Rattle.step_table.specs.Timed.{StepAt}
use Rattle.step_table.specs.declared.cells.StepCells.{StepCells}
use Rattle.step_cells.specs.Owed.{partial_cells}
use Rattle.std.proofs.lemmas.List.{map-append}
use Rattle.op_aggregate.specs.OwedCells.{cells_at}
use Rattle.op_aggregate.specs.declared.owed.OwedStep.{OwedStep}
use Rattle.op_aggregate.specs.Rules.{aggregated_at, aggregations, owed_cells}

-- ---- places

pub places_count : (f : Names → Names) (labels fed : List Names) (places : List ℕ) → AreAt labels (map f fed) places → length places ≡ length fed
places_count f labels [] [] a = refl
places_count f labels [] (p ∷ places) a = absurd a
places_count f labels (n ∷ fed) [] a = absurd a
places_count f labels (n ∷ fed) (p ∷ places) a = ap suc (places_count f labels fed places a.1)

pub places_within : (f : Names → Names) (labels fed : List Names) (places : List ℕ) → AreAt labels (map f fed) places → AllByRecursion (λ p. p < length labels) places
places_within f labels [] [] a = tt
places_within f labels [] (p ∷ places) a = absurd a
places_within f labels (n ∷ fed) [] a = absurd a
places_within f labels (n ∷ fed) (p ∷ places) a = (slice_get_within labels p (f n) a.0, places_within f labels fed places a.1)

-- the places of groups are those of what a grouping keeps
pub placed_by : (by : Grouping) (labels fed now : List Names) (left : Left) (places kept : List ℕ) → AreAt labels (map (left_of left) fed) places → left ≡ Signature (not by.without) by.names → fed ≡ now → kept ≡ places
    → AreAt labels (map (kept_labels by) now) kept
placed_by by labels fed now left places kept a l f p =
    subst (λ (z : List ℕ). AreAt labels (map (kept_labels by) now) z) (sym p)
    (subst (λ (z : List Names). AreAt labels (map (kept_labels by) z) places) f
    (subst (λ (z : Left). AreAt labels (map (left_of z) fed) places) l a))

-- ---- what is made

-- one step more
aggregations_more : (f : Aggregate) (by : Grouping) (ss : List StepAt) (i : ℕ) (s : StepAt) → slice_get ss i ≡ Some s → aggregations f by (take (i + 1) ss) ≡ aggregations f by (take i ss) ++ aggregated_at f by s ∷ []
aggregations_more f by [] i s x = absurd (cc)
aggregations_more f by (r ∷ ss) zero s x = let e : r ≡ s = cc in ap (λ (z : StepAt). aggregated_at f by z ∷ []) e
aggregations_more f by (r ∷ ss) (suc i) s x = let n : suc i + 1 ≡ suc (i + 1) = omega arith in rw n (ap (λ (w : List StepAt). aggregated_at f by r ∷ w) (aggregations_more f by ss i s x))

pub lent_more : (f : Aggregate) (by : Grouping) (ss old new : List StepAt) (i : ℕ) → i < length ss → old ≡ aggregations f by (take i ss) → ((s : StepAt) → slice_get ss i ≡ Some s → new ≡ old ++ aggregated_at f by s ∷ []) → new ≡ aggregations f by (take (i + 1) ss)
lent_more f by ss old new i l o n =
    let s = some_here ss i l in
    n s.0 s.1 ∙ ap (λ (w : List StepAt). w ++ aggregated_at f by s.0 ∷ []) o ∙ sym (aggregations_more f by ss i s.0 s.1)

-- ---- what is owed

mapped_more : {A B : Type 0} (f : A → B) (xs : List A) (i : ℕ) (x : A) → slice_get xs i ≡ Some x → map f (take (i + 1) xs) ≡ map f (take i xs) ++ f x ∷ []
mapped_more f [] i x e = absurd (cc)
mapped_more f (y ∷ xs) zero x e = let same : y ≡ x = cc in ap (λ z. f z ∷ []) same
mapped_more f (y ∷ xs) (suc i) x e = let n : suc i + 1 ≡ suc (i + 1) = omega arith in rw n (ap (λ r. f y ∷ r) (mapped_more f xs i x e))

pub owed_none : (partial : Bool) (f : Aggregate) (by : Grouping) → owed_cells partial f by [] ≡ []
owed_none true f by = refl
owed_none false f by = refl

owed_more : (partial : Bool) (f : Aggregate) (by : Grouping) (ss : List StepAt) (i : ℕ) (s : StepAt) → slice_get ss i ≡ Some s → owed_cells partial f by (take (i + 1) ss) ≡ owed_cells partial f by (take i ss) ++ owed_cells partial f by (s ∷ [])
owed_more true f by ss i s e = mapped_more (partial_cells f by) ss i s e
owed_more false f by ss i s e = refl

-- what is owed of one step more
pub owed_next : (partial : Bool) (f : Aggregate) (by : Grouping) (ss : List StepAt) (old new : List StepCells) (i : ℕ) → i < length ss → old ≡ owed_cells partial f by (take i ss)
    → ((s : StepAt) → slice_get ss i ≡ Some s → new ≡ old ++ owed_cells partial f by (s ∷ [])) → new ≡ owed_cells partial f by (take (i + 1) ss)
owed_next partial f by ss old new i l o n =
    let s = some_here ss i l in
    n s.0 s.1 ∙ ap (λ (w : List StepCells). w ++ owed_cells partial f by (s.0 ∷ [])) o ∙ sym (owed_more partial f by ss i s.0 s.1)

-- the cells of what is kept of one step more, if they are asked for
pub kept_next : (partial : Bool) (f : Aggregate) (by : Grouping) (labels : List Names) (old new : List OwedStep) (step : OwedStep) (s : StepAt) → new ≡ old ++ (if partial then step ∷ [] else []) → cells_at labels step ≡ partial_cells f by s
    → map (cells_at labels) new ≡ map (cells_at labels) old ++ owed_cells partial f by (s ∷ [])
kept_next true f by labels old new step s e c = ap (map (cells_at labels)) e ∙ map-append (cells_at labels) old (step ∷ []) ∙ ap (λ (z : StepCells). map (cells_at labels) old ++ z ∷ []) c
kept_next false f by labels old new step s e c = ap (map (cells_at labels)) e ∙ map-append (cells_at labels) old []
