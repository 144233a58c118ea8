-- An expression means the same whatever engines hold beside the samples.
use Rattle.std.proofs.Common.{◌≡◌, ap, refl}
use Rattle.std.specs.Prelude.{ℤ, Bool, List}
use Rattle.promql_ast.specs.declared.tree.Expr.{Expr}
use Rattle.promql_ast.specs.declared.tree.Node.TheFolds.{fold-Expr}
use Rattle.promql_ast.specs.declared.tree.Node.TheOpen.{Node-F}
use Rattle.promql_meaning.specs.Givens.{step_of}
use Rattle.promql_meaning.specs.Meaning.{meaning, meaning_step, node_meaning}
use Rattle.promql_meaning.specs.Results.{grid_times, judged, result_of}
use Rattle.promql_meaning.specs.Selecting.{AllSeries, Asked}
use Rattle.promql_meaning.specs.declared.given.Given.{Given}
use Rattle.step_table.specs.Timed.{steps_over}
use Rattle.step_table.specs.declared.step.Step.{Step}
use Rattle.ticks.specs.declared.grid.Grid.{Grid}

module _ (asked : Asked) (engines : List AllSeries) where
  abbrev beside : Asked
  beside = record asked { engines = engines }

  node_unread : (y : Node-F (ℤ → Given) (ℤ → Given)) (t : ℤ) → node_meaning beside y t ≡ node_meaning asked y t
  node_unread (Node-F.Number value) t = refl
  node_unread (Node-F.Words text) t = refl
  node_unread (Node-F.Paren inner) t = refl
  node_unread (Node-F.Negate inner) t = refl
  node_unread (Node-F.Select selector) t = refl
  node_unread (Node-F.Range selector range) t = refl
  node_unread (Node-F.Subquery inner range step moment) t = refl
  node_unread (Node-F.Call f arguments) t = refl
  node_unread (Node-F.Aggregate f by arguments) t = refl
  node_unread (Node-F.Pair op left right pairing) t = refl
  node_unread (Node-F.Set op left right pairing) t = refl

  nodes_unread : node_meaning beside ≡ node_meaning asked
  nodes_unread = λ j y t. node_unread y t j

  pub meaning_unread : (e : Expr) (t : ℤ) → meaning beside e t ≡ meaning asked e t
  meaning_unread e t = ap (λ (f : Node-F (ℤ → Given) (ℤ → Given) → ℤ → Given). fold-Expr (ℤ → Given) (ℤ → Given) f (λ x. x.node) e t) nodes_unread

  pub result_unread : (e : Expr) (grid : Grid) (instant : Bool) → result_of beside e grid instant ≡ result_of asked e grid instant
  result_unread e grid instant =
      let same : meaning_step beside e ≡ meaning_step asked e = λ j t. step_of (meaning_unread e t j) in
      ap (λ (m : ℤ → Step). judged instant e (steps_over m (grid_times grid))) same
