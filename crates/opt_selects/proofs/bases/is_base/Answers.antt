use Rattle.std.proofs.Common.{◌∙◌, sym}
use Rattle.opt_selects.proofs.Numbers.{no_base}
use Rattle.opt_selects.proofs.bases.is_base.Goals as goal

pub returns-then-not-has_keys_in : goal.returns-then-not-has_keys_in
returns-then-not-has_keys_in c =
    sym (no_base c.args.sought.now.keys.now c.args.sought.now.rules.now c.args.sought.now.moment.now c.args.sought.now.range c.args.a.now c.requires (sym c.has_keys_in.ensures ∙ c.if-not-has_keys_in.true))
