use Rattle.promql_tool.specs.Texts.{refusal_text}
use Rattle.edge_io.specs.Fronts.{front_none}
use Rattle.holders.specs.Answers.{on_err}
use Rattle.promql_tool.proofs.print.print_refusal.Goals as goal

pub returns-in_err-text-clause-err : goal.returns-in_err-text-clause-err
returns-in_err-text-clause-err g c = on_err c.from_residual.result _ (front_none (g.S.Sink.written c.args.out.now) (refusal_text c.args.path.now c.args.refusal.now))
