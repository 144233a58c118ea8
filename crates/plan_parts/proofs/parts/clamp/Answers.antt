use Rattle.std.proofs.Common.{◌≡◌, None, refl, subst, sym, rules}
use Rattle.std.specs.Prelude.{IsTrue}
use Rattle.plan_tree.specs.Asking.{HaveRequests}
use Rattle.plan_tree.specs.Worlds.{world}
use Rattle.plan_tree.specs.Nodes.{CanGo, shape_of}
use Rattle.plan_tree.specs.Shapes.{ClampOf, Shape}
use Rattle.plan_tree.specs.Spending.{IsFresh}
use Rattle.plan_tree.specs.declared.node.Node.{Node}
use Rattle.plan_work.specs.TreeBounds.{StaysWithin}
use Rattle.plan_parts.proofs.parts.clamp.Goals as goal

pub returns-clause-made : goal.returns-clause-made
returns-clause-made c =
    let rule = c.args.rule in
    let rows = c.in_ok-new-2.ensures.ok in
    let low = c.in_ok-new-3.ensures.ok in
    let high = c.in_ok-new-4.ensures.ok in
    let shape : ClampOf c.in_ok-new.field-0.rule (shape_of c.in_ok-new-2.field-0.value) (shape_of c.in_ok-new-3.field-0.value) (shape_of c.in_ok-new-4.field-0.value)
    ≡ ClampOf rule (shape_of c.args.rows.tree) (shape_of c.args.low.tree) (shape_of c.args.high.tree) =
    λ j. ClampOf (c.in_ok-new.ensures.rule j) (shape_of (rows j)) (shape_of (low j)) (shape_of (high j)) in
    let scalars : IsTrue c.args.low.scalar × IsTrue c.args.high.scalar = search rules in
    record {
      made = record { shape_is = shape; scalar_is = refl; plain = refl };
      scalars = scalars;
      can = λ store kept k l m gs ps. (
        subst (λ (n : Node). CanGo (world store gs) kept ps None n) (sym rows) (k gs ps),
        subst (λ (n : Node). CanGo (world store gs) kept ps None n) (sym low) (l gs ps),
        subst (λ (n : Node). CanGo (world store gs) kept ps None n) (sym high) (m gs ps),
      );
      asks = λ requests times h k l. (subst (HaveRequests requests times) (sym rows) h, subst (HaveRequests requests times) (sym low) k, subst (HaveRequests requests times) (sym high) l);
      fresh = λ f g h. (subst IsFresh (sym rows) f, subst IsFresh (sym low) g, subst IsFresh (sym high) h);
      within = λ asked walk first second third p o u v w. subst (λ (s : Shape). StaysWithin asked walk p s) (sym shape)
          (c.trees_stay_within.ensures.three asked walk first second third p rule (shape_of c.args.rows.tree) (shape_of c.args.low.tree) (shape_of c.args.high.tree) o u v w);
    }
