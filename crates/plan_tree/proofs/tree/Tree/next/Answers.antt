use Rattle.std.proofs.Common.{◌≡◌, Option, None, Some, sym, subst}
use Rattle.std.specs.Prelude.{IfSome}
use Rattle.step_batch.specs.Lent.{Lent, stages}
use Rattle.step_table.specs.Timed.{steps_over}
use Rattle.plan_tree.specs.Nodes.{shape_of}
use Rattle.plan_tree.specs.Shapes.{rule}
use Rattle.plan_tree.specs.Worlds.{world}
use Rattle.plan_tree.proofs.tree.Tree.next.Goals as goal

pub returns-then-branch-clause-lent : goal.returns-then-branch-clause-lent
returns-then-branch-clause-lent g c known ready =
    let turn = c.in_ok-step.ensures.turn known ready in
    let more = c.if-branch.true in
    let lent = subst (λ (l : Lent). IfSome known (λ gathers. stages l ≡ steps_over (rule (world c.args.store.now gathers) c.args.patterns.now (shape_of c.args.self.now.node)) turn.0)) (sym c.lend.ensures) (turn.1.lent more) in
    (turn.0, turn.1.chain, turn.1.some more, turn.1.few, lent)
