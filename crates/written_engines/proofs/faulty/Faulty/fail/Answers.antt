use Rattle.std.proofs.Common.{rules, ◌≤◌, ◌-◌, ◌^◌, List, Err, subst, sym}
use Rattle.remote_api.specs.Seen.{HasPulled}
use Rattle.remote_api.specs.declared.engine.EngineFail.TheVariants as fail
use Rattle.step_table.specs.declared.cells.StepCells.{StepCells}
use Rattle.written_engines.specs.Untold.{seen_untold}
use Rattle.written_engines.proofs.Untold.{failed}
use Rattle.written_engines.proofs.faulty.Faulty.fail.Goals as goal

pub returns : goal.returns
returns c = λ place most steps none.
    let f = c.args.self.now in
    let few : f.faults ≤ 2 ^ 64 - 1 = search rules in
    subst (λ (s : List StepCells). HasPulled place most s (Err fail.Failed) (seen_untold f.inner f.faults f.strays f.stray) (seen_untold f.inner c.saturating_add-self.result f.strays f.stray)) (sym none)
    (failed f.inner f.faults f.strays f.stray place most c.saturating_add-self.result c.saturating_add-self.ensures few)
