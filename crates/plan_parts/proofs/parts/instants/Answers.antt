use Rattle.std.proofs.Common.{refl, subst, sym, ap}
use Rattle.plan_tree.specs.Shapes.{InstantsOf, Shape}
use Rattle.plan_work.specs.TreeBounds.{StaysWithin}
use Rattle.plan_parts.proofs.parts.instants.Goals as goal

pub returns-clause-made : goal.returns-clause-made
returns-clause-made c =
    let one = c.args.rule in
    let shape = ap InstantsOf c.in_ok-new.ensures.rule in
    record {
      made = record { shape_is = shape; scalar_is = refl; plain = refl };
      can = λ store kept gs ps. tt;
      asks = λ requests times. tt;
      fresh = tt;
      within = λ asked walk p. subst (λ (s : Shape). StaysWithin asked walk p s) (sym shape) (c.trees_stay_within.ensures.number asked walk p one);
    }
