use Rattle.std.proofs.Common.{◌≡◌, Option, IfOk, subst}
use Rattle.script_check.specs.declared.verdict.Reason.{Reason}
use Rattle.script_check.proofs.Agreements.{placed_alone}
use Rattle.script_check.proofs.series.judge_series.Goals as goal

pub returns-then-agree : goal.returns-then-agree
returns-then-agree c =
    let same = placed_alone c.args.wanted.now c.args.got.now c.args.ordered (c.agree.ensures c.if-agree.true) in
    subst (λ (said : Option Reason). IfOk c.placed_reason.result (λ reason. reason ≡ said)) same c.placed_reason.ensures
