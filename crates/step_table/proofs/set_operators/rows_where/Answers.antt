use Rattle.std.proofs.Common.{◌≡◌, ◌∙◌, ap}
use Rattle.std.specs.Prelude.{filter}
use Rattle.std.proofs.lemmas.Result.{IfOk-weaker}
use Rattle.step_table.specs.Sets.{is_wanted}
use Rattle.step_table.proofs.Members.{wanted_are}
use Rattle.step_table.proofs.set_operators.rows_where.Goals as goal

pub returns : goal.returns
returns c =
    IfOk-weaker c.wanted_rows.result (λ out. out ≡ filter (is_wanted c.args.p.now c.in_ok-signatures.signatures.keys c.args.on) c.args.rows.now) _
    (λ out e. e ∙ ap (λ keys. filter (is_wanted c.args.p.now keys c.args.on) c.args.rows.now) c.in_ok-signatures.ensures ∙ wanted_are c.args.p.now c.args.side.now c.args.on c.args.rows.now) c.wanted_rows.ensures
