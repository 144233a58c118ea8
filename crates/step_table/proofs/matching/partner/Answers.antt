use Rattle.std.proofs.Common.{◌∙◌, ap, map, None, Some}
use Rattle.step_table.specs.Groups.{alone}
use Rattle.step_table.proofs.Partners.{partner_read}
use Rattle.step_table.proofs.matching.partner.Goals as goal

pub returns-in-Some : goal.returns-in-Some
returns-in-Some c = c.only.ensures ∙ ap (λ rows. alone (map (λ row. row.now) rows)) c.as_slice.ensures ∙ partner_read c.args.one_side.now.entries c.args.signature.now (Some c.in-Some.rows.now) c.in-Some.ensures.value

pub returns-in-None : goal.returns-in-None
returns-in-None c = partner_read c.args.one_side.now.entries c.args.signature.now None c.in-None.ensures.value
