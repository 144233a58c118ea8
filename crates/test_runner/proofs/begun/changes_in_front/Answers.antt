use Rattle.std.proofs.Common.{◌≡◌, List, [], Ok, subst}
use Rattle.script_read.specs.declared.script.Command.{Command}
use Rattle.test_runner.specs.Loads.{left_by_all}
use Rattle.test_runner.proofs.Beginning.{settled_rest}
use Rattle.test_runner.proofs.begun.changes_in_front.Goals as goal

pub returns-then-are_evaluations : goal.returns-then-are_evaluations
returns-then-are_evaluations c = record {
  within = c.count_in_front-front.ensures.within;
  quiet = c.count_in_front-front.ensures.front;
  settled = λ series. subst (λ (rest : List Command). left_by_all [] rest series ≡ Ok series) c.split_at.ensures.back
      (settled_rest c.split_at.result.1.now c.are_evaluations.result c.are_evaluations.ensures c.if-are_evaluations.true series);
}
