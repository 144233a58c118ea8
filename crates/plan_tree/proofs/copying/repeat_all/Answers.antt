use Rattle.std.proofs.Common.{◌∙◌, ◌+◌, ◌++◌, ◌∷◌, [], ap, sym, map}
use Rattle.std.specs.Prelude.{List, pos}
use Rattle.step_batch.specs.Lent.{stage_of}
use Rattle.step_batch.specs.declared.steps.PlacedStep.{PlacedStep}
use Rattle.step_table.specs.Groups.{Names}
use Rattle.step_table.specs.Timed.{steps_over}
use Rattle.step_table.specs.declared.step.Step.{Step}
use Rattle.ticks.specs.declared.moment.Ms.{Ms}
use Rattle.plan_tree.proofs.Copies.{follow_next, one_of, put_at, put_more, repeats_are, take_all}
use Rattle.plan_tree.proofs.copying.repeat_all.Goals as goal

abbrev d : Ms
d = record { 0 = pos 0 }

pub loop-t-preserved : goal.loop-t-preserved
loop-t-preserved c =
    let i = c.loop-t.t-index in
    let at = c.args.at.now in
    let inv = c.loop-t.invariant in
    record {
      named = c.in_ok-repeat_one.ensures.named ∙ inv.named;
      follow = follow_next c.repeat_one.new.out at i d c.loop-t-test.true c.requires.rising c.in_ok-repeat_one.ensures.later;
      steps = λ s rest e.
          c.in_ok-repeat_one.ensures.steps s rest e
          ∙ ap (λ (ss : List PlacedStep). ss ++ record { at = Rattle.std.proofs.Common.get_or at i d; slots = s.slots; marks = s.marks } ∷ []) (inv.steps s rest e)
          ∙ sym (put_more s at i d c.loop-t-test.true);
    }

pub returns-clause-lent : goal.returns-clause-lent
returns-clause-lent c = λ one e.
    let labels = c.args.batch.now.labels in
    let o = one_of labels c.args.batch.now.steps one e in
    ap (λ (ls : List Names). map (stage_of ls) c.loop-t.out.steps) c.loop-t.invariant.named
    ∙ ap (map (stage_of labels)) (c.loop-t.invariant.steps o.step [] o.steps)
    ∙ ap (λ (ts : List Ms). map (stage_of labels) (put_at o.step ts)) (take_all c.loop-t.t-index c.args.at.now c.loop-t-test.false)
    ∙ repeats_are labels o.step c.args.at.now
    ∙ ap (λ (s : Step). steps_over (λ t. s) c.args.at.now) o.same
