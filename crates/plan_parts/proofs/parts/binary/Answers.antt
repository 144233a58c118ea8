use Rattle.std.proofs.Common.{◌≡◌, None, refl, subst, sym, rules}
use Rattle.std.specs.Prelude.{IsTrue}
use Rattle.plan_tree.specs.Asking.{HaveRequests}
use Rattle.plan_tree.specs.Worlds.{world}
use Rattle.plan_tree.specs.Nodes.{CanGo, shape_of}
use Rattle.plan_tree.specs.Shapes.{BinaryOf, Shape}
use Rattle.plan_tree.specs.Spending.{IsFresh}
use Rattle.plan_tree.specs.declared.node.Node.{Node}
use Rattle.plan_work.specs.TreeBounds.{StaysWithin}
use Rattle.step_kernels.specs.Binaries.{binary_rule, takes_scalar}
use Rattle.plan_parts.proofs.parts.binary.Goals as goal

pub returns-clause-made : goal.returns-clause-made
returns-clause-made c =
    let rule = c.args.rule in
    let rows = c.in_ok-new-2.ensures.ok in
    let beside = c.in_ok-new-3.ensures.ok in
    let shape : BinaryOf (binary_rule c.in_ok-new.field-0) (shape_of c.in_ok-new-2.field-0.value) (shape_of c.in_ok-new-3.field-0.value) ≡ BinaryOf rule (shape_of c.args.rows.tree) (shape_of c.args.beside.tree) =
    λ j. BinaryOf (c.in_ok-new.ensures j) (shape_of (rows j)) (shape_of (beside j)) in
    let reads : IsTrue (takes_scalar rule) → IsTrue c.args.beside.scalar = search rules in
    record {
      made = record { shape_is = shape; scalar_is = refl; plain = refl };
      reads = reads;
      can = λ store kept k l gs ps. (subst (λ (n : Node). CanGo (world store gs) kept ps None n) (sym rows) (k gs ps), subst (λ (n : Node). CanGo (world store gs) kept ps None n) (sym beside) (l gs ps));
      asks = λ requests times h k. (subst (HaveRequests requests times) (sym rows) h, subst (HaveRequests requests times) (sym beside) k);
      fresh = λ f g. (subst IsFresh (sym rows) f, subst IsFresh (sym beside) g);
      within = λ asked walk left right p o v w. subst (λ (s : Shape). StaysWithin asked walk p s) (sym shape)
          (c.trees_stay_within.ensures.beside asked walk left right p rule (shape_of c.args.rows.tree) (shape_of c.args.beside.tree) o v w);
    }
