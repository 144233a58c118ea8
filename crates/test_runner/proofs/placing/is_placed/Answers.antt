use Rattle.std.proofs.Common.{◌≡◌, ◌∙◌, ap, arith}
use Rattle.std.specs.Prelude.{is_some}
use Rattle.test_runner.proofs.Places.{placed_empty, placed_first}
use Rattle.test_runner.proofs.placing.is_placed.Goals as goal

pub returns-in-empty : goal.returns-in-empty
returns-in-empty c = placed_empty c.args.declared.now c.args.labels.now (omega (arith, c.in-empty.len_below))

pub returns-in-len1-up : goal.returns-in-len1-up
returns-in-len1-up c = c.is_some.ensures ∙ ap is_some c.engine_of.ensures ∙ placed_first c.args.declared.now c.args.labels.now (omega (arith, c.in-len1-up.len_at_least))
