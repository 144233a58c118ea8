use Rattle.std.proofs.Common.{ap, arith, None, ◌∙◌}
use Rattle.std.specs.Result.{result_ok}
use Rattle.std.proofs.lemmas.Str.Pattern.{strip_prefix_char}
use Rattle.step_rules.proofs.Bounds.{unsigned}
use Rattle.step_rules.proofs.buckets.bound_of.Goals as goal

pub returns-in-None-strip_prefix : goal.returns-in-None-strip_prefix
returns-in-None-strip_prefix c =
    c.ok-in-None-strip_prefix.ensures.value ∙ ap result_ok c.read_number-in-None-strip_prefix.ensures
    ∙ unsigned c.args.text.now (strip_prefix_char 45 c.args.text.now None c.in-None.ensures.cases (omega arith)) (strip_prefix_char 43 c.args.text.now None c.in-None-strip_prefix.ensures.cases (omega arith))
