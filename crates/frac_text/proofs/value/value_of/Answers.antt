use Rattle.std.proofs.Common.{◌-◌, arith, ◌∙◌}
use Rattle.frac_text.specs.Digits.{digits_in, number}
use Rattle.frac_text.proofs.Values.{value_up, value_down}
use Rattle.frac_text.proofs.value.value_of.Goals as goal

pub returns-then-up-down : goal.returns-then-up-down
returns-then-up-down c = c.raised_value.ensures ∙ value_up (number (digits_in c.args.text.now)) c.args.up c.args.down (c.args.up - c.args.down) (omega arith)

pub returns-else-up-down : goal.returns-else-up-down
returns-else-up-down c = c.lowered_value.ensures ∙ value_down (number (digits_in c.args.text.now)) c.args.up c.args.down (c.args.down - c.args.up) (omega arith)
