use Rattle.std.proofs.Common.{◌≡◌, ◌∙◌, ◌<◌, ◌∷◌, ◌++◌, [], ℕ, List, length, map, arith, sym, ap, subst}
use Rattle.std.specs.List.{AllByRecursion, IsDistinct}
use Rattle.label_set.specs.LabelEquality.{labels_eq}
use Rattle.step_batch.specs.Lent.{Lent, entries_of, stages, step_of}
use Rattle.step_put.specs.Clashes.{cells_of, lone_slots, marks_at, shared_places}
use Rattle.step_put.specs.Placed.{PlacesRise, left_of, marks_made, slots_made}
use Rattle.step_put.specs.declared.cells.Cell.{Cell}
use Rattle.step_put.specs.declared.placed.PlacedOutcome.{PlacedOutcome}
use Rattle.step_table.specs.Groups.{Names}
use Rattle.step_table.specs.Orders.{mark_cmp}
use Rattle.step_table.specs.Unions.{set_of, united}
use Rattle.step_table.specs.declared.marks.Mark.{Mark}
use Rattle.step_table.specs.declared.step.Step.{Step}
use Rattle.step_put.proofs.Keeping.{at_count}
use Rattle.step_put.proofs.Lone.{cells_count}
use Rattle.step_put.proofs.Making.{made_clashing, unite_first, unite_more}
use Rattle.step_put.proofs.Owned.{at_below}
use Rattle.step_put.proofs.clashing.put_clashing.Goals as goal

-- no cell has come to anything, and there is one for each labels
empty_is : (now : List Cell) (counted labels : List Names) → now ≡ cells_of (length counted) [] → counted ≡ labels → (now ≡ cells_of (length labels) []) × (length now ≡ length labels)
empty_is now counted labels e l =
    let is : now ≡ cells_of (length labels) [] = e ∙ ap (λ (ls : List Names). cells_of (length ls) []) l in
    (is, ap length is ∙ cells_count 0 (length labels) [])

pub take_values-faults-requires-clause-empty : goal.take_values-faults-requires-clause-empty
take_values-faults-requires-clause-empty c =
    let e = empty_is c.empty.new.cells.items c.labels-count.result.now c.args.buffer.now.labels c.in_ok-empty.ensures (c.labels-count.ensures.labels ∙ ap (λ (z : Lent). z.labels) c.lend.ensures) in
    e.0 ∙ ap (λ (k : ℕ). cells_of k []) (sym e.1)

pub take_values-faults-requires-clause-there : goal.take_values-faults-requires-clause-there
take_values-faults-requires-clause-there c =
    let n = c.args.placing.now in
    let labels = c.args.buffer.now.labels in
    let e = empty_is c.empty.new.cells.items c.labels-count.result.now labels c.in_ok-empty.ensures (c.labels-count.ensures.labels ∙ ap (λ (z : Lent). z.labels) c.lend.ensures) in
    let below = at_below labels (map (left_of n.left) n.fed) n.places c.requires.named in
    subst (λ (k : ℕ). AllByRecursion (λ (p : ℕ). p < k) c.places.result.now) (sym e.1) (subst (λ (ps : List ℕ). AllByRecursion (λ (p : ℕ). p < length labels) ps) (sym c.places.ensures) below)

pub take_values-faults-requires-clause-within : goal.take_values-faults-requires-clause-within
take_values-faults-requires-clause-within c =
    let n = c.args.placing.now in
    subst (λ (m : ℕ). PlacesRise 0 m c.args.placed.now) (sym (ap length c.places.ensures ∙ at_count (left_of n.left) c.args.buffer.now.labels n.fed n.places c.requires.named)) c.requires.within

-- the cells behind all rows
came : (now : List Cell) (size : ℕ) (labels : List Names) (own places : List ℕ) (placed : List PlacedOutcome) → now ≡ cells_of size (slots_made own placed) → size ≡ length labels → own ≡ places
    → (now ≡ cells_of (length labels) (slots_made places placed)) × (length now ≡ length labels)
came now size labels own places placed e s o =
    let is : now ≡ cells_of (length labels) (slots_made places placed) = e ∙ (λ i. cells_of (s i) (slots_made (o i) placed)) in
    (is, ap length is ∙ cells_count 0 (length labels) (slots_made places placed))

pub marks_of_shared-requires : goal.marks_of_shared-requires
marks_of_shared-requires c =
    let labels = c.args.buffer.now.labels in
    let e = empty_is c.empty.new.cells.items c.labels-count.result.now labels c.in_ok-empty.ensures (c.labels-count.ensures.labels ∙ ap (λ (z : Lent). z.labels) c.lend.ensures) in
    let is = came c.take_values-faults.new.cells.items (length c.empty.new.cells.items) labels c.places.result.now c.args.placing.now.places c.args.placed.now c.take_values-faults.ensures.cells e.1 c.places.ensures in
    let a = ap length c.as_slice.ensures.value in
    let b = ap length (c.labels.ensures.labels ∙ ap (λ (z : Lent). z.labels) c.lend-2.ensures) in
    omega (arith, a, b, is.1)

pub unite-requires-2 : goal.unite-requires-2
unite-requires-2 c = (c.in_ok-unite.ensures.free 0 c.in_ok-begin.ensures.free).0

pub unite-requires-3 : goal.unite-requires-3
unite-requires-3 c = (c.in_ok-unite-2.ensures.free 0 (c.in_ok-unite.ensures.free 0 c.in_ok-begin.ensures.free)).0

pub put_lone-requires-clause-begun : goal.put_lone-requires-clause-begun
put_lone-requires-clause-begun c = c.in_ok-unite-3.ensures.free 0 (c.in_ok-unite-2.ensures.free 0 (c.in_ok-unite.ensures.free 0 c.in_ok-begin.ensures.free))

pub put_lone-requires-clause-within : goal.put_lone-requires-clause-within
put_lone-requires-clause-within c =
    let labels = c.args.buffer.now.labels in
    let e = empty_is c.empty.new.cells.items c.labels-count.result.now labels c.in_ok-empty.ensures (c.labels-count.ensures.labels ∙ ap (λ (z : Lent). z.labels) c.lend.ensures) in
    let is = came c.take_values-faults.new.cells.items (length c.empty.new.cells.items) labels c.places.result.now c.args.placing.now.places c.args.placed.now c.take_values-faults.ensures.cells e.1 c.places.ensures in
    let a = ap length c.as_slice-2.ensures.value in
    let b = ap length (c.unite-3.ensures.labels ∙ c.unite-2.ensures.labels ∙ c.unite.ensures.labels ∙ ap (λ (z : Lent). z.labels) c.in_ok-begin.ensures.ok) in
    omega (arith, a, b, is.1)

pub returns-clause-lent : goal.returns-clause-lent
returns-clause-lent c =
    let n = c.args.placing.now in
    let old = c.args.buffer.now in
    let at = c.args.at in
    let marks = c.args.marks.now in
    let placed = c.args.placed.now in
    let cells : List Cell = cells_of (length old.labels) (slots_made n.places placed) in
    let e = empty_is c.empty.new.cells.items c.labels-count.result.now old.labels c.in_ok-empty.ensures (c.labels-count.ensures.labels ∙ ap (λ (z : Lent). z.labels) c.lend.ensures) in
    let is = came c.take_values-faults.new.cells.items (length c.empty.new.cells.items) old.labels c.places.result.now n.places placed c.take_values-faults.ensures.cells e.1 c.places.ensures in
    let looked : c.as_slice.result.now ≡ cells = c.as_slice.ensures.value ∙ is.0 in
    let put : c.as_slice-2.result.now ≡ cells = c.as_slice-2.ensures.value ∙ is.0 in
    let labels_are : c.labels.result.now ≡ old.labels = c.labels.ensures.labels ∙ ap (λ (z : Lent). z.labels) c.lend-2.ensures in
    let same : c.unite-3.new.self.labels ≡ old.labels = c.unite-3.ensures.labels ∙ c.unite-2.ensures.labels ∙ c.unite.ensures.labels ∙ ap (λ (z : Lent). z.labels) c.in_ok-begin.ensures.ok in
    let first = unite_first (stages old) (stages c.begin.new.self) (stages c.unite.new.self) at marks c.in_ok-begin.ensures.stages c.in_ok-unite.ensures.stages in
    let second = unite_more (stages old) (stages c.unite.new.self) (stages c.unite-2.new.self) at marks c.in_ok-faulty.faulty first c.in_ok-unite-2.ensures.stages in
    let third = unite_more (stages old) (stages c.unite-2.new.self) (stages c.unite-3.new.self) at (united marks c.in_ok-faulty.faulty) c.in_ok-shared.shared second c.in_ok-unite-3.ensures.stages in
    let faulty : c.in_ok-faulty.faulty ≡ record { fatal = set_of mark_cmp (marks_made placed); notes = [] } = c.in_ok-faulty.ensures ∙ ap (λ (fs : List Mark). record { fatal = fs; notes = [] }) c.take_values-faults.ensures.faults in
    let shared : c.in_ok-shared.shared ≡ record { fatal = set_of mark_cmp (marks_at old.labels (shared_places 0 cells)); notes = [] } =
    c.in_ok-shared.ensures ∙ (λ i. record { fatal = set_of mark_cmp (marks_at (labels_are i) (shared_places 0 (looked i))); notes = [] }) in
    let distinct = subst (IsDistinct labels_eq) labels_are c.labels.ensures.distinct in
    let whole = made_clashing n.left old.labels n.fed n.places c.requires.named c.lent_steps_are_tables.ensures.rows c.lent_steps_are_tables.ensures.table c.rows_ignore_order.ensures.settled distinct marks placed c.requires.within in
    c.in_ok-put_lone.ensures.lent (stages old) at (united (united marks c.in_ok-faulty.faulty) c.in_ok-shared.shared) third
    ∙ (λ i. stages old ++ record { at = at; step = step_of (entries_of (same i) (lone_slots 0 (put i))) (united (united marks (faulty i)) (shared i)) } ∷ [])
    ∙ ap (λ (s : Step). stages old ++ record { at = at; step = s } ∷ []) (sym whole)
