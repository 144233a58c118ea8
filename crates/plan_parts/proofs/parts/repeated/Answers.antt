use Rattle.std.proofs.Common.{◌≡◌, None, [], ◌∷◌, refl, subst, sym, ap}
use Rattle.plan_tree.specs.Asking.{HaveRequests}
use Rattle.plan_tree.specs.Worlds.{world}
use Rattle.plan_tree.specs.Nodes.{CanGo, shape_of}
use Rattle.plan_tree.specs.Shapes.{IsFit, OnceOf, Shape, StaysInTimes, is_scalar, places_of, rule}
use Rattle.plan_tree.specs.Spending.{IsFresh}
use Rattle.plan_tree.specs.declared.node.Node.{Node}
use Rattle.ticks.specs.Listed.{IsListed}
use Rattle.ticks.specs.Walks.{IsInstant}
use Rattle.ticks.specs.declared.walk.Walk.{Walk}
use Rattle.std.specs.Prelude.{IsTrue}
use Rattle.plan_parts.specs.Gives.{Gives}
use Rattle.plan_work.specs.TreeBounds.{StaysWithin}
use Rattle.plan_parts.specs.Parts.{here, of_once}
use Rattle.plan_parts.specs.Requested.{HaveOwn}
use Rattle.plan_parts.proofs.Giving.{once_gives}
use Rattle.plan_parts.proofs.Grown.{named_below, onces_below, part_at}
use Rattle.plan_parts.specs.Adding.{one_listed}
use Rattle.plan_parts.proofs.parts.repeated.Goals as goal

pub returns-clause-part : goal.returns-clause-part
returns-clause-part c = λ asked walk below before now p inner begins w e i.
    let child = c.in_ok-child.child in
    let box = c.in_ok-new.field-0 in
    let same = c.in_ok-new.ensures.ok in
    let r = part_at asked below before now inner c.args.child child c.in_ok-child.was i in
    let begun : IsInstant below c.args.first.0 = subst (λ (z : Walk). IsInstant z c.args.first.0) (sym w) refl in
    let shape : shape_of box.value ≡ shape_of child.tree = ap (λ (n : Node). shape_of n) same in
    record {
      sound = record {
        fit = subst (IsFit asked.samples) (sym shape) r.sound.fit;
        can = λ gs ps. (subst (λ (n : Node). CanGo (world asked.samples gs) asked.kept ps None n) (sym same) (r.sound.can gs ps), tt);
        times = λ t h. subst (λ (s : Shape). StaysInTimes s c.args.first.0) (sym shape) (r.sound.times c.args.first.0 begun);
        fresh = subst IsFresh (sym same) r.sound.fresh;
      };
      added = r.added;
      owns = subst (λ (s : Shape). HaveOwn before now (places_of s)) (sym shape) r.owns;
      named = named_below inner p before now (of_once e) r.named;
      make = r.make;
      asks = λ times listed. subst (HaveRequests now (c.args.first ∷ [])) (sym same) (r.asks (c.args.first ∷ []) (subst (λ (z : Walk). IsListed z (c.args.first ∷ [])) (sym w) (one_listed c.args.first)));
      scalar = λ h. subst (λ (s : Shape). IsTrue (is_scalar s)) (sym shape) (r.scalar h);
      gives = λ gathers meant stay. subst (λ (s : Shape). Gives asked (IsInstant walk) p child.scalar child.own (λ t. rule (world asked.samples gathers) asked.kept s c.args.first.0)) (sym shape)
          (once_gives asked (IsInstant walk) (IsInstant below) p inner child.scalar child.own (rule (world asked.samples gathers) asked.kept (shape_of child.tree)) c.args.first.0 (r.gives gathers meant (onces_below asked inner p (of_once e) stay)) begun e (stay.same inner (here p e)));
      within = subst (λ (s : Shape). StaysWithin asked walk p (OnceOf c.args.first s)) (sym shape)
          (c.trees_stay_within.ensures.once asked walk inner p c.args.first (shape_of child.tree) e begins (subst (λ (z : Walk). StaysWithin asked z inner (shape_of child.tree)) w r.within));
    }
