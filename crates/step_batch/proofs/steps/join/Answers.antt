use Rattle.std.proofs.Common.{◌≡◌, rules}
use Rattle.step_batch.specs.Lent.{no_marks}
use Rattle.step_batch.proofs.Lasts.{united_none}
use Rattle.step_batch.proofs.steps.join.Goals as goal

pub returns-then-has_none-clause-ok : goal.returns-then-has_none-clause-ok
returns-then-has_none-clause-ok c = let none : c.args.more.now ≡ no_marks = search rules in united_none c.args.marks.now c.args.more.now none
