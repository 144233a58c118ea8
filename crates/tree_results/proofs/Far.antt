-- How far a tree went, and what one turn adds.
use Rattle.std.proofs.Common.{◌≡◌, ◌∙◌, ◌<◌, Bool, true, false, List, ◌++◌, length, drop, take-append-drop, Option, None, Some, sym, ap, subst}
use Rattle.std.specs.Prelude.{ℤ, IfSome}
use Rattle.op_labels.specs.Rules.{Kept as Rules}
use Rattle.plan_tree.specs.Chains.{Chain, IsComing, IsSame, IsTurn}
use Rattle.plan_tree.specs.Feeds.{fed_on}
use Rattle.plan_tree.specs.Laws.{TurnsAreTheWalk}
use Rattle.plan_tree.specs.Nodes.{lent_by, shape_of}
use Rattle.plan_tree.specs.Shapes.{Shape, rule}
use Rattle.plan_tree.specs.Spending.{IsWithinBound}
use Rattle.plan_tree.specs.Worlds.{Gathers, world}
use Rattle.plan_tree.specs.declared.tree.Tree.{Tree}
use Rattle.plan_tree.specs.declared.turns.Fed.{Fed}
use Rattle.promql_ast.specs.declared.tree.Expr.{Expr}
use Rattle.promql_meaning.specs.Results.{first_stop, grid_times, judged}
use Rattle.promql_meaning.specs.declared.answer.Outcome.{Outcome}
use Rattle.result_rows.specs.Judged.{StoppedIsJudged}
use Rattle.result_rows.specs.Taken.{HasTaken, Kept}
use Rattle.sample_store.specs.Samples.{AllSeries}
use Rattle.step_batch.specs.Lent.{Lent, stages}
use Rattle.step_table.specs.Timed.{StepAt, steps_over}
use Rattle.step_table.specs.declared.step.Step.{Step}
use Rattle.ticks.specs.Works.{Counts}
use Rattle.ticks.specs.declared.grid.Grid.{Grid}
use Rattle.ticks.specs.declared.moment.Ms.{Ms}
use Rattle.ticks.specs.declared.walk.Walk.{Walk}
use Rattle.ticks.specs.declared.walk.Walk.{Grid as GridWalk}
use Rattle.tree_results.proofs.Going.{chain_both, fed_both, fewer, left, steps_both}
use Rattle.tree_results.proofs.Listed.{grid_listed}
use Rattle.tree_results.specs.Drained.{GridsAreNumbered}

-- the steps at a front of the grid's instants were taken, where it is known what gathers give
pub record IsFar (store : AllSeries) (kept : Rules) (known : Option Gathers) (shape : Shape) (grid : Grid) (tree : Tree) (taken : Kept) : Type 0 where
  pub walk : tree.walk ≡ GridWalk grid
  pub shape_is : shape_of tree.node ≡ shape
  pub done : List Ms
  pub chain : Chain (GridWalk grid) None done
  pub fed : tree.fed ≡ fed_on None done
  pub has : IfSome known (λ gathers. HasTaken taken (steps_over (rule (world store gathers) kept shape) done))

-- instants behind those that were taken, and their steps
record AreBehind (store : AllSeries) (kept : Rules) (known : Option Gathers) (shape : Shape) (grid : Grid) (done : List Ms) (fed : Option Fed) (batch : Lent) : Type 0 where
  pub at : List Ms
  pub some : 0 < length at
  pub chain : Chain (GridWalk grid) (fed_on None done) at
  pub fed_is : fed ≡ fed_on (fed_on None done) at
  pub lent : IfSome known (λ gathers. steps_over (rule (world store gathers) kept shape) done ++ stages batch ≡ steps_over (rule (world store gathers) kept shape) (done ++ at))

if_known : (known : Option Gathers) (P Q : Gathers → Type 0) → ((g : Gathers) → P g → Q g) → IfSome known P → IfSome known Q
if_known None P Q f h = tt
if_known (Some g) P Q f h = f g h

if_both : (known : Option Gathers) (P Q R : Gathers → Type 0) → ((g : Gathers) → P g → Q g → R g) → IfSome known P → IfSome known Q → IfSome known R
if_both None P Q R f h k = tt
if_both (Some g) P Q R f h k = f g h k

module _ (store : AllSeries) (kept now : Rules) (known : Option Gathers) (shape : Shape) (grid : Grid) (tree new : Tree) (taken : Kept) (batch : Lent) (more : Bool) (same : now ≡ kept) (far : IsFar store kept known shape grid tree taken) (turn : (at : List Ms) × IsTurn store now known tree new more at) (goes : more ≡ true)
    (is : batch ≡ lent_by new.exchange.places new.node) where
  abbrev pub steps : Gathers → ℤ → Step
  steps g = rule (world store g) kept shape

  behind : AreBehind store kept known shape grid far.done new.fed batch
  behind = record {
    at = turn.0;
    some = turn.1.some goes;
    chain = subst (λ (f : Option Fed). Chain (GridWalk grid) f turn.0) far.fed (subst (λ (w : Walk). Chain w tree.fed turn.0) far.walk turn.1.chain);
    fed_is = turn.1.fed ∙ ap (λ (f : Option Fed). fed_on f turn.0) far.fed;
    lent = if_known known (λ g. stages (lent_by new.exchange.places new.node) ≡ steps_over (rule (world store g) now (shape_of tree.node)) turn.0) (λ g. steps_over (steps g) far.done ++ stages batch ≡ steps_over (steps g) (far.done ++ turn.0))
        (λ g l. (let own : stages batch ≡ steps_over (steps g) turn.0 = ap (λ (l : Lent). stages l) is ∙ l ∙ ap (λ (k : Rules). steps_over (rule (world store g) k (shape_of tree.node)) turn.0) same ∙ ap (λ (s : Shape). steps_over (rule (world store g) kept s) turn.0) far.shape_is in
        ap (λ (back : List StepAt). steps_over (steps g) far.done ++ back) own ∙ sym (steps_both (steps g) far.done turn.0)))
        (turn.1.lent goes);
  }

  pub farther : (after : Kept) → IsSame tree new → ((front : List StepAt) → HasTaken taken front → HasTaken after (front ++ stages batch)) → IsFar store kept known shape grid new after
  farther after kind takes = record {
    walk = kind.walk ∙ far.walk;
    shape_is = kind.shape ∙ far.shape_is;
    done = far.done ++ behind.at;
    chain = chain_both (GridWalk grid) None far.done behind.at far.chain behind.chain;
    fed = behind.fed_is ∙ sym (fed_both None far.done behind.at);
    has = if_both known (λ g. steps_over (steps g) far.done ++ stages batch ≡ steps_over (steps g) (far.done ++ behind.at)) (λ g. HasTaken taken (steps_over (steps g) far.done)) (λ g. HasTaken after (steps_over (steps g) (far.done ++ behind.at)))
        (λ g l h. subst (λ (front : List StepAt). HasTaken after front) l (takes (steps_over (steps g) far.done) h)) behind.lent far.has;
  }

  pub nearer : left grid new.fed < left grid tree.fed
  nearer =
      let less = fewer grid (fed_on None far.done) behind.at behind.chain behind.some in
      subst (λ (f : Option Fed). left grid new.fed < left grid f) (sym far.fed) (subst (λ (f : Option Fed). left grid f < left grid (fed_on None far.done)) (sym behind.fed_is) less)

-- an instant that ends the evaluation ends that of the whole grid
pub stops :
    (store : AllSeries) (kept now : Rules) (gathers : Gathers) (shape : Shape) (grid : Grid) (tree new : Tree) (taken : Kept) (batch : Lent) (more : Bool) (same : now ≡ kept) (far : IsFar store kept (Some gathers) shape grid tree taken)
    (turn : (at : List Ms) × IsTurn store now (Some gathers) tree new more at) (goes : more ≡ true) (is : batch ≡ lent_by new.exchange.places new.node) →
    GridsAreNumbered → TurnsAreTheWalk → StoppedIsJudged → (o : Outcome) →
    ((front : List StepAt) → HasTaken taken front → first_stop 0 (front ++ stages batch) ≡ Some o) →
    (instant : Bool) (e : Expr) → o ≡ judged instant e (steps_over (rule (world store gathers) kept shape) (grid_times grid))
stops store kept now gathers shape grid tree new taken batch more same far turn goes is numbered turns judges o at_front instant e =
    let f : ℤ → Step = rule (world store gathers) kept shape in
    let b = behind store kept now (Some gathers) shape grid tree new taken batch more same far turn goes is in
    let chain = chain_both (GridWalk grid) None far.done b.at far.chain b.chain in
    let first = (turns (GridWalk grid) (grid_times grid) (far.done ++ b.at) (grid_listed numbered grid) chain).0 in
    let count = length (far.done ++ b.at) in
    let rest = drop count (grid_times grid) in
    let all : grid_times grid ≡ (far.done ++ b.at) ++ rest = sym (take-append-drop count (grid_times grid)) ∙ ap (λ (ts : List Ms). ts ++ rest) (sym first) in
    let here : first_stop 0 (steps_over f (far.done ++ b.at)) ≡ Some o = subst (λ (ss : List StepAt). first_stop 0 ss ≡ Some o) b.lent (at_front (steps_over f far.done) far.has) in
    let whole_is : steps_over f (grid_times grid) ≡ steps_over f (far.done ++ b.at) ++ steps_over f rest = ap (λ (ts : List Ms). steps_over f ts) all ∙ steps_both f (far.done ++ b.at) rest in
    judges instant e (steps_over f (far.done ++ b.at)) (steps_over f rest) o here ∙ ap (λ (ss : List StepAt). judged instant e ss) (sym whole_is)

-- where no instant is coming, all steps were taken
pub all_taken :
    (store : AllSeries) (kept now : Rules) (gathers : Gathers) (shape : Shape) (grid : Grid) (tree new : Tree) (taken : Kept) (more : Bool) →
    IsFar store kept (Some gathers) shape grid tree taken → ((at : List Ms) × IsTurn store now (Some gathers) tree new more at) → more ≡ false →
    GridsAreNumbered → TurnsAreTheWalk → HasTaken taken (steps_over (rule (world store gathers) kept shape) (grid_times grid))
all_taken store kept now gathers shape grid tree new taken more far turn stopped numbered turns =
    let over = (turn.1.over stopped).1 in
    let end = subst (λ (f : Option Fed). IsComing (GridWalk grid) f None) far.fed (subst (λ (w : Walk). IsComing w tree.fed None) far.walk over) in
    let is = (turns (GridWalk grid) (grid_times grid) far.done (grid_listed numbered grid) far.chain).1 end in
    subst (λ (ts : List Ms). HasTaken taken (steps_over (rule (world store gathers) kept shape) ts)) is far.has

-- the bound is that of the tree at the start
pub within_at :
    (store : AllSeries) (kept : Rules) (known : Option Gathers) (shape : Shape) (grid : Grid) (tree : Tree) (taken : Kept) (walk : Walk) (start now : Counts) →
    IsFar store kept known shape grid tree taken → walk ≡ GridWalk grid → IsWithinBound store tree.walk (shape_of tree.node) start now → IsWithinBound store walk shape start now
within_at store kept known shape grid tree taken walk start now far is h =
    subst (λ (s : Shape). IsWithinBound store walk s start now) far.shape_is (subst (λ (w : Walk). IsWithinBound store w (shape_of tree.node) start now) (far.walk ∙ sym is) h)
