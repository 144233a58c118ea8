-- The notes and marks of the windows that an expression gives are sets.
use Rattle.std.proofs.Common.{ℕ, Bool, true, false, List, [], ◌∷◌, map, sym, subst}
use Rattle.std.specs.Prelude.{ℤ, ⊤}
use Rattle.std.specs.List.Sorted.{IsStrictlySortedBy}
use Rattle.func_table.specs.declared.table.Func.{Func}
use Rattle.func_table.specs.declared.table.Func.TheVariants as func
use Rattle.label_set.specs.declared.rules.Pairing.{Pairing}
use Rattle.promql_ast.specs.declared.tree.Expr.{Expr}
use Rattle.promql_ast.specs.declared.tree.Node.{Node}
use Rattle.promql_ast.specs.declared.tree.Node.TheOpen.{Node-F}
use Rattle.promql_ast.specs.declared.tree.Node.TheViews.{roll-Node, roll-Expr}
use Rattle.promql_ast.specs.declared.tree.Node.TheFolds.{map-Node, fold-Node, fold-roll-Node, fold-roll-Expr, ind-Expr}
use Rattle.step_table.specs.Laws.{UnionIsSet}
use Rattle.step_table.specs.Timed.{marks_of_steps, steps_over}
use Rattle.step_table.specs.Unions.{united}
use Rattle.step_table.specs.WellFormed.{AreSets}
use Rattle.step_table.specs.declared.marks.Marks.{Marks}
use Rattle.step_table.specs.declared.step.Step.{Step}
use Rattle.ticks.specs.declared.moment.Ms.{Ms}
use Rattle.xfrac.specs.declared.value.PairOp.{PairOp}
use Rattle.promql_meaning.specs.Givens.{no_marks, step_of}
use Rattle.promql_meaning.specs.Laws.{MeaningIsWellFormed}
use Rattle.promql_meaning.specs.Meaning.{called, given_at, meaning, negation, node_meaning, operation}
use Rattle.promql_meaning.specs.Selecting.{Asked, moment_of}
use Rattle.promql_meaning.specs.Subqueries.{as_times, multiples}
use Rattle.promql_meaning.specs.declared.given.Given.{Given}
use Rattle.promql_meaning.specs.declared.given.Given.TheVariants as given
use Rattle.plan_agreement.proofs.Sides.{is_scalar, operation_is, sides}

-- what is given has sets: the notes and marks of a step, or of windows
abbrev pub HasSets : Given → Type 0
HasSets (given.Scalar step) = AreSets step.marks
HasSets (given.Vector step) = AreSets step.marks
HasSets (given.Selected selection) = ⊤
HasSets (given.Windows windows) = AreSets windows.marks
HasSets (given.Words text) = ⊤

-- where it is windows
abbrev Framed : Given → Type 0
Framed (given.Scalar step) = ⊤
Framed (given.Vector step) = ⊤
Framed (given.Selected selection) = ⊤
Framed (given.Windows windows) = AreSets windows.marks
Framed (given.Words text) = ⊤

pub none_sets : AreSets no_marks
unfolding IsStrictlySortedBy
none_sets = record { fatal = tt; notes = tt }

pub step_sets : (g : Given) → HasSets g → AreSets (step_of g).marks
step_sets (given.Scalar step) h = h
step_sets (given.Vector step) h = h
step_sets (given.Selected selection) h = none_sets
step_sets (given.Windows windows) h = none_sets
step_sets (given.Words text) h = none_sets

with_framed : (g : Given) → AreSets (step_of g).marks → Framed g → HasSets g
with_framed (given.Scalar step) s f = s
with_framed (given.Vector step) s f = s
with_framed (given.Selected selection) s f = tt
with_framed (given.Windows windows) s f = f
with_framed (given.Words text) s f = tt

-- the steps of some instants
pub over_sets : UnionIsSet → (inner : ℤ → Step) (marks : Marks) (times : List Ms) → AreSets marks → ((t : ℤ) → AreSets (inner t).marks) → AreSets (marks_of_steps marks (steps_over inner times))
over_sets sets inner marks [] s h = s
over_sets sets inner marks (t ∷ times) s h = over_sets sets inner (united marks (inner t.0).marks) times (sets marks (inner t.0).marks s (h t.0)) h

negation_framed : (g : Given) → Framed (negation g)
negation_framed (given.Scalar step) = tt
negation_framed (given.Vector step) = tt
negation_framed (given.Selected selection) = tt
negation_framed (given.Windows windows) = tt
negation_framed (given.Words text) = tt

call_framed : (f : Func) (gs : List Given) (t : ℤ) → Framed (called f gs t)
call_framed (func.Element f) gs t = tt
call_framed (func.Window f) gs t = tt
call_framed func.Absent gs t = tt
call_framed func.AbsentOver gs t = tt
call_framed func.HistogramQuantile gs t = tt
call_framed func.LabelJoin gs t = tt
call_framed func.LabelReplace gs t = tt
call_framed func.Scalar gs t = tt
call_framed func.Sort gs t = tt
call_framed func.SortDesc gs t = tt
call_framed func.Time gs t = tt
call_framed func.Timestamp gs t = tt
call_framed func.Vector gs t = tt

sides_framed : (op : PairOp) (pairing : Pairing) (left right : Bool) (l r : Step) → Framed (sides op pairing left right l r)
sides_framed op pairing true true l r = tt
sides_framed op pairing true false l r = tt
sides_framed op pairing false true l r = tt
sides_framed op pairing false false l r = tt

operation_framed : (op : PairOp) (pairing : Pairing) (a b : Given) → Framed (operation op pairing a b)
operation_framed op pairing a b = subst Framed (sym (operation_is op pairing a b)) (sides_framed op pairing (is_scalar a) (is_scalar b) (step_of a) (step_of b))

module _ (sets : UnionIsSet) (well : MeaningIsWellFormed) (asked : Asked) where
  abbrev Fits : Expr → Type 0
  Fits e = (t : ℤ) → Framed (meaning asked e t)

  abbrev meaning_in : Node → ℤ → Given
  meaning_in = fold-Node (ℤ → Given) (ℤ → Given) (node_meaning asked) (λ e. e.node)

  abbrev NodeFits : Node → Type 0
  NodeFits n = (t : ℤ) → Framed (meaning_in n t)

  abbrev Layer : Type 0
  Layer = Node-F ((n : Node) × NodeFits n) ((e : Expr) × Fits e)

  abbrev plain : Layer → Node-F Node Expr
  plain = map-Node ((n : Node) × NodeFits n) ((e : Expr) × Fits e) Node Expr (λ n. n.0) (λ e. e.0)

  level : (y : Layer) (t : ℤ) → Framed (node_meaning asked (map-Node Node Expr (ℤ → Given) (ℤ → Given) meaning_in (meaning asked) (plain y)) t)
  level (Node-F.Number value) t = tt
  level (Node-F.Words text) t = tt
  level (Node-F.Paren e) t = e.1 t
  level (Node-F.Negate e) t = negation_framed (meaning asked e.0 t)
  level (Node-F.Select selector) t = tt
  level (Node-F.Range selector range) t = none_sets
  level (Node-F.Subquery e range step moment) t =
      over_sets sets (λ u. step_of (meaning asked e.0 u)) no_marks (as_times (multiples moment.closed (moment_of asked moment t) range.0 step.0)) none_sets (λ u. (well asked e.0 u).marks)
  level (Node-F.Call f items) t = call_framed f (given_at (map (meaning asked) (map (λ e. e.0) items)) t) t
  level (Node-F.Aggregate f by items) t = tt
  level (Node-F.Pair op l r pairing) t = operation_framed op pairing (meaning asked l.0 t) (meaning asked r.0 t)
  level (Node-F.Set op l r pairing) t = tt

  node_fits : (y : Layer) → NodeFits (roll-Node (plain y))
  node_fits y t = subst (λ (f : ℤ → Given). Framed (f t)) (sym (fold-roll-Node (ℤ → Given) (ℤ → Given) (node_meaning asked) (λ e. e.node) (plain y))) (level y t)

  expr_fits : (at : ℕ) (n : Node) → NodeFits n → Fits (roll-Expr (record { at = at; node = n }))
  expr_fits at n is t = subst (λ (f : ℤ → Given). Framed (f t)) (sym (fold-roll-Expr (ℤ → Given) (ℤ → Given) (node_meaning asked) (λ e. e.node) (record { at = at; node = n }))) (is t)

  all_framed : (e : Expr) → Fits e
  all_framed = ind-Expr NodeFits Fits (λ x y is. subst (λ z. NodeFits (roll-Node z)) is (node_fits y)) (λ x y is. subst (λ z. Fits (roll-Expr z)) is (expr_fits y.at y.node.0 y.node.1))

  pub meaning_sets : (e : Expr) (t : ℤ) → HasSets (meaning asked e t)
  meaning_sets e t = with_framed (meaning asked e t) (well asked e t).marks (all_framed e t)
