use Rattle.std.proofs.Common.{◌∙◌, sym}
use Rattle.match_rule.proofs.Finders.{is_finder}
use Rattle.match_rule.proofs.built.build_text.Goals as goal

pub invariant_of-result : goal.invariant_of-result
invariant_of-result c =
    record { is_finder = is_finder c.in-Ok.regex c.in_ok-source-in-Ok.source (c.in-Ok.ensures.source ∙ sym c.in_ok-source-in-Ok.ensures) c.in-Ok.ensures.config c.in-Ok.ensures.read }
