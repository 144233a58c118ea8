use Rattle.std.proofs.Common.{◌∙◌, map, sym, ap}
use Rattle.std.proofs.lemmas.Result.{on_ok_weaker}
use Rattle.step_batch.specs.Lent.{stages}
use Rattle.step_kernels.specs.Unaries.{unary_at, unary_rule}
use Rattle.step_kernels.specs.declared.unary.Unary.{Unary}
use Rattle.step_kernels.proofs.Sides.{elements_alone}
use Rattle.step_kernels.proofs.unary.Unary.feed.Goals as goal

pub returns-in-Elements-clause-lent : goal.returns-in-Elements-clause-lent
returns-in-Elements-clause-lent c =
    let kept = c.args.patterns.now in
    let rows = stages c.args.rows.now in
    on_ok_weaker c.feed-in-Elements.result (λ e. e ∙ elements_alone kept c.in-Elements.kernel.rule rows ∙ ap (λ (u : Unary). map (unary_at kept (unary_rule u)) rows) (sym c.in-Elements.is)) c.feed-in-Elements.ensures.lent
