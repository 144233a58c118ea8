use Rattle.std.proofs.Common.{◌-◌, ap, ◌∙◌, length, take}
use Rattle.frac_text.specs.Digits.{digits_in}
use Rattle.frac_text.proofs.Splits.{significand_digits}
use Rattle.frac_text.proofs.decimal.significand.Goals as goal

pub returns : goal.returns
returns c =
    ap digits_in (c.split_at.ensures.front ∙ ap (λ k. take k c.args.text.now) (c.saturating_sub.ensures ∙ ap (λ e. length c.args.text.now - length e) c.requires)) ∙ significand_digits c.args.grouped c.args.text.now
