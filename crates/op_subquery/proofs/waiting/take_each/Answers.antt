use Rattle.std.proofs.Common.{◌≡◌, ◌∙◌, ◌≤◌, ◌++◌, ◌∷◌, [], List, length, map, take, sym, ap, subst, append-nil, append_assoc, arith}
use Rattle.step_batch.specs.declared.steps.PlacedStep.{PlacedStep}
use Rattle.op_subquery.specs.Kept.{KeptStep, StepsWithin, kept_in, kept_of}
use Rattle.op_subquery.specs.declared.waiting.WaitingStep.{WaitingStep}
use Rattle.op_subquery.proofs.Placing.{kept_more, taken_all, taken_next, within_append}
use Rattle.op_subquery.proofs.waiting.take_each.Goals as goal

pub loop-i-init : goal.loop-i-init
loop-i-init c = record {
  within = λ high a b. a;
  kept = λ labels at. sym (append-nil (map (kept_of labels) c.args.steps.now.items));
}

pub loop-i-preserved : goal.loop-i-preserved
loop-i-preserved c =
    let rows = c.args.rows.now in
    let step : WaitingStep = c.in_ok-step.step in
    let items : c.push.new.steps.items ≡ c.loop-i.steps.items ++ step ∷ [] = c.in_ok-push.ensures.ok in
    record {
      within = λ high a b. subst (StepsWithin high) (sym items) (within_append high c.loop-i.steps.items step (c.loop-i.invariant.within high a b) (c.in_ok-step.ensures.within high b));
      kept = λ labels at.
          let before = map (kept_of labels) c.args.steps.now.items in
          let taken = map (kept_in rows.labels) (take c.loop-i.i rows.steps) in
          ap (map (kept_of labels)) items ∙ kept_more labels c.loop-i.steps.items step
          ∙ ap (λ (ks : List KeptStep). ks ++ kept_of labels step ∷ []) (c.loop-i.invariant.kept labels at)
          ∙ append_assoc before taken (kept_of labels step ∷ [])
          ∙ ap (λ (ks : List KeptStep). before ++ ks) (sym (taken_next rows.labels rows.steps c.loop-i.i (kept_of labels step) (c.in_ok-step.ensures.kept labels at)));
    }

pub returns-clause-kept : goal.returns-clause-kept
returns-clause-kept c = λ labels at.
    let rows = c.args.rows.now in
    let past : length rows.steps ≤ c.loop-i.i = omega (arith, c.len-i-end.ensures.len, c.loop-i-test.false) in
    c.loop-i.invariant.kept labels at ∙ ap (λ (steps : List PlacedStep). map (kept_of labels) c.args.steps.now.items ++ map (kept_in rows.labels) steps) (taken_all rows.steps c.loop-i.i past)

pub returns-in_err-push-clause-within : goal.returns-in_err-push-clause-within
returns-in_err-push-clause-within c = λ high a b. subst (StepsWithin high) (sym c.in_err-push.ensures.err) (c.loop-i.invariant.within high a b)
