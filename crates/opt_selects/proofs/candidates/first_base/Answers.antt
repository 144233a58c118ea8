use Rattle.std.proofs.Common.{◌∙◌, ap, Some, None}
use Rattle.opt_selects.proofs.FirstBases.{base_is_lent}
use Rattle.opt_selects.proofs.candidates.first_base.Goals as goal

pub returns-in-None : goal.returns-in-None
returns-in-None c =
    base_is_lent c.args.sought.now.rules.now c.args.sought.now.moment.now c.args.sought.now.range c.args.found.now c.args.rows.now c.requires.rows c.args.sought.now.keys.now c.least_under.result None c.requires.keys
    c.least_under.ensures c.in-None.ensures.lookup

pub returns-in-Some : goal.returns-in-Some
returns-in-Some c =
    ap Some c.rules.ensures
    ∙ base_is_lent c.args.sought.now.rules.now c.args.sought.now.moment.now c.args.sought.now.range c.args.found.now c.args.rows.now c.requires.rows c.args.sought.now.keys.now c.least_under.result (Some c.in-Some.a)
    c.requires.keys c.least_under.ensures c.in-Some.ensures.lookup
