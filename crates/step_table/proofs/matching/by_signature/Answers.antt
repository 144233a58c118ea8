use Rattle.std.proofs.Common.{◌≡◌, ◌∙◌, ap}
use Rattle.std.proofs.lemmas.Result.{IfOk-weaker}
use Rattle.step_table.specs.Groups.{gathered}
use Rattle.step_table.specs.OneSides.{read}
use Rattle.step_table.proofs.Partners.{read_gathered}
use Rattle.step_table.proofs.matching.by_signature.Goals as goal

pub returns : goal.returns
returns c =
    IfOk-weaker c.gather.result (λ groups. groups.entries ≡ gathered c.in_ok-with_signatures.field-0) _
    (λ groups e. ap read e ∙ read_gathered c.args.p.now c.args.rows.now c.in_ok-with_signatures.field-0 c.in_ok-with_signatures.ensures) c.gather.ensures
