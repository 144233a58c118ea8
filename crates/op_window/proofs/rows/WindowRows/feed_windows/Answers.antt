use Rattle.std.proofs.Common.{◌≡◌, ◌∙◌, ◌++◌, ◌∷◌, [], map, sym, ap, subst}
use Rattle.std.specs.Prelude.{List}
use Rattle.step_batch.specs.Lent.{stage_of, stages}
use Rattle.step_batch.specs.declared.steps.PlacedStep.{PlacedStep}
use Rattle.ticks.specs.declared.moment.Ms.{Ms}
use Rattle.window_fn.specs.declared.frame.WindowFrame.{WindowFrame}
use Rattle.op_window.specs.Kernels.{Kernel}
use Rattle.op_window.specs.Rules.{HasScalars, by_scalar, fed_by, windowed_at, windows_of_lent}
use Rattle.op_window.proofs.Scalars.{marked_by}
use Rattle.op_window.proofs.Stages.{lent_one}
use Rattle.op_window.proofs.rows.WindowRows.feed_windows.Goals as goal

pub returns-clause-lent : goal.returns-clause-lent
returns-clause-lent c =
    let k = c.self.inside in
    let seen = c.self.view_is in
    let w = c.args.windows.now in
    let t = c.at-t.result in
    let given = c.args.arg.now in
    let scalar = c.in_ok-scalar.scalar in
    let begun = c.begin_feed.new.self.lent in
    let now = c.put_lent.new.rows.lent in
    let scalars : HasScalars k.f (w.at ∷ []) given = subst (λ (z : Kernel). HasScalars z.f (w.at ∷ []) given) (sym seen) c.requires.scalars in
    subst (λ (z : Kernel). stages now ≡ map (windowed_at z.f (windows_of_lent w z.moment z.range)) (fed_by z.f (w.at ∷ []) (stages given))) seen
    (subst (λ (u : Ms). stages now ≡ map (windowed_at k.f (windows_of_lent w k.moment k.range)) (fed_by k.f (u ∷ []) (stages given))) c.at-t.ensures
    (lent_one k.f w k.moment k.range t given scalar (stages begun) (stages now)
    (subst (λ (u : Ms). HasScalars k.f (u ∷ []) given) (sym c.at-t.ensures) scalars) c.in_ok-scalar.ensures
    (ap (λ (ss : List PlacedStep). map (stage_of begun.labels) ss) c.begin_feed.ensures.steps)
    (c.in_ok-put_lent.ensures.lent ∙ ap (λ (f : WindowFrame). stages begun ++ record { at = f.eval; step = by_scalar k.f f (marked_by w.marks scalar) w.rows } ∷ []) c.frame_of-frame.ensures)))
