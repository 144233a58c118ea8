use Rattle.std.proofs.Common.{◌∙◌, ◌++◌, ◌∷◌, [], List, arith, ap, sym, refl, take}
use Rattle.step_table.specs.Groups.{Names}
use Rattle.op_match.proofs.Lists.{both_true, took}
use Rattle.op_match.proofs.Naming.{front_stays}
use Rattle.op_match.proofs.sides.take_labels.Goals as goal

pub loop-i-init : goal.loop-i-init
loop-i-init c = record { within = omega arith; numbered = c.requires.numbered; kept = λ j x e. e; fed = refl; stayed = λ t j x e. e }

pub loop-i-preserved : goal.loop-i-preserved
loop-i-preserved c =
    let v = c.loop-i.invariant in
    let i = c.loop-i.i in
    record {
      within = omega (arith, c.in_ok-stayed.ensures.within);
      numbered = c.take_at.ensures.numbered;
      kept = λ j x e. c.take_at.ensures.kept j x (v.kept j x e);
      fed = c.in_ok-stayed.ensures.fed ∙ ap (λ (ns : List Names). ns ++ c.index-labels-i.result ∷ []) v.fed ∙ ap (λ (n : Names). take i c.args.labels.now ++ n ∷ []) c.index-labels-i.is ∙ sym (took c.args.labels.now i c.index-labels-i.result c.loop-i-test.true);
      stayed = λ t j x e. let both = both_true c.loop-i.stayed c.in_ok-stayed.field-0 t in c.in_ok-stayed.ensures.stayed both.1 j x (v.stayed both.0 j x e);
    }

pub returns-clause-fed : goal.returns-clause-fed
returns-clause-fed c = front_stays c.args.labels.now c.loop-i.side c.loop-i.i c.loop-i-test.false c.loop-i.invariant.fed
