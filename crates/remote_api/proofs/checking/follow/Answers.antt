use Rattle.std.proofs.Common.{rules, arith, ◌≡◌, ◌∙◌, ◌+◌, ℕ, sym, ap, subst, true, false, drop, slice_get, length, Some, None, ◌∷◌}
use Rattle.std.specs.Ordering.{int_eq}
use Rattle.std.specs.Prelude.{Option}
use Rattle.std.proofs.lemmas.Grind.{common_steps}
use Rattle.step_table.specs.declared.cells.StepCells.{StepCells}
use Rattle.ticks.specs.Walks.{IsInstant}
use Rattle.ticks.specs.declared.moment.Ms.{Ms}
use Rattle.remote_api.specs.Strays.{followed_as, out_of_step}
use Rattle.remote_api.specs.declared.frame.Stray.{Stray}
use Rattle.remote_api.specs.declared.frame.Stray.TheVariants.{OutOfStep}
use Rattle.remote_api.proofs.Following.{in_step, no_step, other_step, same_time, taken_more}
use Rattle.remote_api.proofs.checking.follow.Goals as goal

pub returns-in_default-clause-exact : goal.returns-in_default-clause-exact
returns-in_default-clause-exact c all k listed e =
    let inv = c.loop-step.invariant.exact all k listed e in
    let i = c.loop-step.step-index in
    let steps = c.args.steps.now in
    let step = c.step-item.result in
    let rest : drop i steps ≡ step ∷ drop (i + 1) steps = grind (arith, common_steps, c.step-item.is) in
    let stray : out_of_step (drop k all) steps ≡ Some (OutOfStep None (Some step.at)) =
    sym inv.1 ∙ ap (out_of_step (drop (k + i) all)) rest ∙ no_step all (k + i) step (drop (i + 1) steps) (sym inv.0 ∙ c.in_default.is) in
    sym (ap (λ (o : Option Stray). followed_as o (slice_get all (k + length steps))) stray)

pub returns-then-not-is_same_time-clause-exact : goal.returns-then-not-is_same_time-clause-exact
returns-then-not-is_same_time-clause-exact c all k listed e =
    let inv = c.loop-step.invariant.exact all k listed e in
    let i = c.loop-step.step-index in
    let steps = c.args.steps.now in
    let step = c.step-item.result in
    let rest : drop i steps ≡ step ∷ drop (i + 1) steps = grind (arith, common_steps, c.step-item.is) in
    let other : int_eq c.in-Some.t.0 step.at.0 ≡ false = sym c.is_same_time.ensures ∙ c.if-not-is_same_time.true in
    let stray : out_of_step (drop k all) steps ≡ Some (OutOfStep (Some c.in-Some.t) (Some step.at)) =
    sym inv.1 ∙ ap (out_of_step (drop (k + i) all)) rest ∙ other_step all (k + i) step (drop (i + 1) steps) c.in-Some.t (sym inv.0 ∙ c.in-Some.is) other in
    sym (ap (λ (o : Option Stray). followed_as o (slice_get all (k + length steps))) stray)

pub loop-step-preserved : goal.loop-step-preserved
loop-step-preserved c =
    let i = c.loop-step.step-index in
    let steps = c.args.steps.now in
    let step = c.step-item.result in
    let t = c.in-Some.t in
    let rest : drop i steps ≡ step ∷ drop (i + 1) steps = grind (arith, common_steps, c.step-item.is) in
    let same : int_eq t.0 step.at.0 ≡ true = sym c.is_same_time.ensures ∙ c.if-not-is_same_time.false in
    let instant : IsInstant c.args.walk.now t.0 = search rules in
    record {
      instant = c.after-to_come.ensures.instant;
      steps = taken_more (λ (s : StepCells). IsInstant c.args.walk.now s.at.0) steps i step (drop (i + 1) steps) rest (subst (λ (u : Ms). IsInstant c.args.walk.now u.0) (same_time t step.at same) instant) c.loop-step.invariant.steps;
      exact = λ all k listed e.
          let inv = c.loop-step.invariant.exact all k listed e in
          let here : slice_get all (k + i) ≡ Some t = sym inv.0 ∙ c.in-Some.is in
          let on : (k + i) + 1 ≡ k + (i + 1) = omega arith in
          let next : c.after-to_come.result ≡ slice_get all ((k + i) + 1) =
          c.walks_are_listed.ensures.next c.args.walk.now all (k + i) t c.after-to_come.result listed here
          (record { instant = c.after-to_come.ensures.instant; later = c.after-to_come.ensures.later; least = c.after-to_come.ensures.least; none = c.after-to_come.ensures.none }) in (
            next ∙ ap (slice_get all) on,
            ap (λ (n : ℕ). out_of_step (drop n all) (drop (i + 1) steps)) (sym on) ∙ sym (in_step all (k + i) step (drop (i + 1) steps) t here same) ∙ ap (out_of_step (drop (k + i) all)) (sym rest) ∙ inv.1,
          );
    }
