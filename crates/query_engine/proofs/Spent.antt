-- What an evaluation spends: the build of its tree looks at series alone, and the tree reads samples within its plan's bound.
use Rattle.std.proofs.Common.{◌≡◌, ◌+◌, ◌≤◌, ℕ, Bool, List, None, arith, refl, subst}
use Rattle.logical_plan.specs.declared.nodes.Plan.{Plan}
use Rattle.plan_rewrites.specs.declared.choosing.Choices.{Choices}
use Rattle.plan_tree.specs.Laws.{FreshTreesBegin}
use Rattle.plan_tree.specs.Nodes.{shape_of}
use Rattle.plan_tree.specs.Spending.{HasSpent, IsFresh, IsWithinBound, RisesBy}
use Rattle.plan_tree.specs.declared.tree.Tree.{Tree}
use Rattle.plan_bases.specs.Looks.{LooksAt, plan_looks}
use Rattle.plan_work.specs.PlanBounds.{plan_bound}
use Rattle.plan_work.specs.TreeBounds.{SpendingStays, StaysWithin}
use Rattle.promql_ast.specs.Edged.{edged}
use Rattle.promql_ast.specs.declared.tree.Expr.{Expr}
use Rattle.promql_meaning.specs.Results.{grid_times}
use Rattle.promql_meaning.specs.Selecting.{AllSeries, Asked, asked_over}
use Rattle.promql_type.specs.Judging.{judged}
use Rattle.promql_type.specs.Replacements.{AreKept, Kept}
use Rattle.promql_type.specs.declared.replace.Placed.{Placed}
use Rattle.query_engine.specs.Bounds.{Spends, SpendsAtMost, at_most, evaluated_plan, nothing}
use Rattle.query_engine.specs.Evaluating.{StandsFor}
use Rattle.ticks.specs.Listed.{IsListed}
use Rattle.ticks.specs.Works.{Counts}
use Rattle.ticks.specs.declared.grid.Grid.{Grid}
use Rattle.ticks.specs.declared.walk.Walk.{Walk}
use Rattle.ticks.specs.declared.walk.Walk.{Grid as GridWalk}

holds_still : (a b most : ℕ) → b ≡ a → b ≤ a + most
holds_still a b most same = omega (arith, same)

rises_later : (a b c most : ℕ) → b ≡ a → c ≤ b + most → c ≤ a + most
rises_later a b c most same more = omega (arith, same, more)

rises_before : (a b c most : ℕ) → b ≤ a + most → c ≡ b → c ≤ a + most
rises_before a b c most more same = omega (arith, more, same)

module _ (asked : Asked) (grid : Grid) (p : Plan) where
  pub spends_nothing : (now : Counts) → SpendsAtMost asked grid p now now
  spends_nothing now = record {
    fetched = holds_still now.fetched now.fetched (plan_bound asked p (grid_times grid)).fetched refl;
    probed = holds_still now.probed now.probed (plan_bound asked p (grid_times grid)).probed refl;
    tested = holds_still now.tested now.tested (plan_looks asked.kept asked.samples p) refl;
  }

  -- what the build looks at
  pub spends_building : (before after : Counts) → LooksAt before after (plan_looks asked.kept asked.samples p) → SpendsAtMost asked grid p before after
  spends_building before after looks = record {
    fetched = holds_still before.fetched after.fetched (plan_bound asked p (grid_times grid)).fetched looks.fetched;
    probed = holds_still before.probed after.probed (plan_bound asked p (grid_times grid)).probed looks.probed;
    tested = looks.tested;
  }

  -- and what the tree reads behind it
  pub spends_both : (before between after : Counts) → LooksAt before between (plan_looks asked.kept asked.samples p) → RisesBy between after (plan_bound asked p (grid_times grid)) → SpendsAtMost asked grid p before after
  spends_both before between after looks rises = record {
    fetched = rises_later before.fetched between.fetched after.fetched (plan_bound asked p (grid_times grid)).fetched looks.fetched rises.fetched;
    probed = rises_later before.probed between.probed after.probed (plan_bound asked p (grid_times grid)).probed looks.probed rises.probed;
    tested = rises_before before.tested between.tested after.tested (plan_looks asked.kept asked.samples p) looks.tested rises.tested;
  }

  -- a fresh tree that stays within the plan's bound reads within it over the grid
  pub tree_reads : (tree : Tree) (between after : Counts) → FreshTreesBegin → SpendingStays → IsListed (GridWalk grid) (grid_times grid) → tree.fed ≡ None → IsFresh tree.node → tree.walk ≡ GridWalk grid
      → StaysWithin asked (GridWalk grid) p (shape_of tree.node)
      → ((start : Counts) → HasSpent asked.samples tree start between → IsWithinBound asked.samples tree.walk (shape_of tree.node) start after)
      → RisesBy between after (plan_bound asked p (grid_times grid))
  tree_reads tree between after begin stays listed fed fresh walk within bounded =
      stays asked (GridWalk grid) p (shape_of tree.node) (grid_times grid) between after within listed
      (subst (λ (w : Walk). IsWithinBound asked.samples w (shape_of tree.node) between after) walk (bounded between (begin asked.samples tree between fed fresh)))

-- what the plan of a typed tree costs is what its text spends at most
pub text_spends : (text : List ℕ) (samples : AllSeries) (grid : Grid) (choices : Choices) (closed : Bool) (kept : Kept) (e tree : Expr) (placed : List Placed) (before after : Counts) → StandsFor text kept e
    → tree ≡ edged closed e → AreKept kept (judged tree).replacements placed → SpendsAtMost (asked_over samples kept grid) grid (evaluated_plan choices kept placed tree) before after
    → Spends text samples grid choices closed before after
text_spends text samples grid choices closed kept e tree placed before after stands edge there spends =
    at_most kept e placed stands (subst (λ (x : Expr). AreKept kept (judged x).replacements placed) edge there)
    (subst (λ (x : Expr). SpendsAtMost (asked_over samples kept grid) grid (evaluated_plan choices kept placed x) before after) edge spends)

-- of a text that isn't evaluated nothing is spent
pub text_spends_nothing : (text : List ℕ) (samples : AllSeries) (grid : Grid) (choices : Choices) (closed : Bool) (now : Counts) → Spends text samples grid choices closed now now
text_spends_nothing text samples grid choices closed now = nothing refl
