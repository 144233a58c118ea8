use Rattle.std.proofs.Common.{None, refl, ap, ap₂, subst, sym, rules}
use Rattle.std.specs.Prelude.{IsTrue}
use Rattle.plan_tree.specs.Asking.{HaveRequests}
use Rattle.plan_tree.specs.Worlds.{world}
use Rattle.plan_tree.specs.Nodes.{CanGo, shape_of}
use Rattle.plan_tree.specs.Shapes.{Shape, UnaryOf}
use Rattle.plan_tree.specs.Spending.{IsFresh}
use Rattle.plan_tree.specs.declared.node.Node.{Node}
use Rattle.plan_work.specs.TreeBounds.{StaysWithin}
use Rattle.step_kernels.specs.Unaries.{KeepsPatterns, is_unary}
use Rattle.plan_parts.proofs.parts.unary.Goals as goal

pub returns-clause-made : goal.returns-clause-made
returns-clause-made c =
    let rule = c.args.rule in
    let rows = c.args.rows.tree in
    let same = c.in_ok-new-2.ensures.ok in
    let shape = ap₂ UnaryOf c.in_ok-new.ensures.rule (ap shape_of same) in
    let kept = c.args.patterns.now in
    let reads : IsTrue (is_unary rule) = search rules in
    let keeps : KeepsPatterns kept rule = search rules in
    record {
      made = record { shape_is = shape; scalar_is = refl; plain = refl };
      reads = reads;
      can = λ store k gs ps. (c.in_ok-new.ensures.can kept keeps, subst (λ (n : Node). CanGo (world store gs) kept ps None n) (sym same) (k gs ps));
      asks = λ requests times h. subst (HaveRequests requests times) (sym same) h;
      fresh = subst IsFresh (sym same);
      within = λ asked walk below p o w. subst (λ (s : Shape). StaysWithin asked walk p s) (sym shape) (c.trees_stay_within.ensures.over asked walk below p rule (shape_of rows) o w);
    }
