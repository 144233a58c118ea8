use Rattle.std.proofs.Common.{◌∙◌, sym, ap}
use Rattle.std.proofs.lemmas.Result.{on_ok_weaker}
use Rattle.step_batch.specs.Lent.{stages}
use Rattle.step_kernels.specs.Binaries.{binaries, binary_rule}
use Rattle.step_kernels.specs.declared.binary.Binary.{Binary}
use Rattle.step_kernels.proofs.Sides.{combined_are, elements_are, joined_are, quantiles_are, ranked_are, ratios_are}
use Rattle.step_kernels.proofs.binary.Binary.feed.Goals as goal

pub returns-in-Elements-clause-lent : goal.returns-in-Elements-clause-lent
returns-in-Elements-clause-lent c =
    let rows = stages c.args.rows.now in
    let beside = stages c.args.beside.now in
    on_ok_weaker c.feed.result (λ e. e ∙ elements_are c.in-Elements.kernel.rule rows beside ∙ ap (λ (k : Binary). binaries (binary_rule k) rows beside) (sym c.in-Elements.is)) c.feed.ensures.lent

pub returns-in-Joins-clause-lent : goal.returns-in-Joins-clause-lent
returns-in-Joins-clause-lent c =
    let rows = stages c.args.rows.now in
    let beside = stages c.args.beside.now in
    on_ok_weaker c.feed-in-Joins.result (λ e. e ∙ joined_are c.in-Joins.kernel.op c.in-Joins.kernel.pairing rows beside ∙ ap (λ (k : Binary). binaries (binary_rule k) rows beside) (sym c.in-Joins.is)) c.feed-in-Joins.ensures.lent

pub returns-in-Sets-clause-lent : goal.returns-in-Sets-clause-lent
returns-in-Sets-clause-lent c =
    let rows = stages c.args.rows.now in
    let beside = stages c.args.beside.now in
    on_ok_weaker c.feed-in-Sets.result (λ e. e ∙ combined_are c.in-Sets.kernel.op c.in-Sets.kernel.pairing rows beside ∙ ap (λ (k : Binary). binaries (binary_rule k) rows beside) (sym c.in-Sets.is)) c.feed-in-Sets.ensures.lent

pub returns-in-Quantiles-clause-lent : goal.returns-in-Quantiles-clause-lent
returns-in-Quantiles-clause-lent c =
    let rows = stages c.args.rows.now in
    let beside = stages c.args.beside.now in
    on_ok_weaker c.feed-in-Quantiles.result (λ e. e ∙ quantiles_are rows beside ∙ ap (λ (k : Binary). binaries (binary_rule k) rows beside) (sym c.in-Quantiles.is)) c.feed-in-Quantiles.ensures

pub returns-in-Ranks-clause-lent : goal.returns-in-Ranks-clause-lent
returns-in-Ranks-clause-lent c =
    let rows = stages c.args.rows.now in
    let beside = stages c.args.beside.now in
    on_ok_weaker c.feed-in-Ranks.result (λ e. e ∙ ranked_are c.in-Ranks.kernel.rule rows beside ∙ ap (λ (k : Binary). binaries (binary_rule k) rows beside) (sym c.in-Ranks.is)) c.feed-in-Ranks.ensures.lent

pub returns-in-Ratios-clause-lent : goal.returns-in-Ratios-clause-lent
returns-in-Ratios-clause-lent c =
    let rows = stages c.args.rows.now in
    let beside = stages c.args.beside.now in
    on_ok_weaker c.feed-in-Ratios.result (λ e. e ∙ ratios_are rows beside ∙ ap (λ (k : Binary). binaries (binary_rule k) rows beside) (sym c.in-Ratios.is)) c.feed-in-Ratios.ensures
