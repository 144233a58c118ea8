use Rattle.std.proofs.Common.{◌∙◌, map, true}
use Rattle.step_batch.specs.Lent.{stages}
use Rattle.op_small.specs.Rules.{each_at}
use Rattle.op_small.proofs.Lents.{copies_are}
use Rattle.op_small.proofs.rows.put_copies.Goals as goal

pub returns-clause-lent : goal.returns-clause-lent
returns-clause-lent c =
    c.in_ok-put_rows.ensures.lent ∙ (λ j. map (each_at (c.requires j) true) (stages c.args.rows.now)) ∙ copies_are c.lent_steps_are_tables.ensures.table c.args.rows.now.labels c.args.rows.now.steps
