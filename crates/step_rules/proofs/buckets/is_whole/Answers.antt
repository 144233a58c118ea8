use Rattle.std.proofs.Common.{ap, sym, ◌∙◌}
use Rattle.xfrac.specs.Kinds.{is_positive_infinity}
use Rattle.step_rules.proofs.Bounds.{not_infinite, whole_last}
use Rattle.step_rules.proofs.buckets.is_whole.Goals as goal

pub returns-in-PosInf : goal.returns-in-PosInf
returns-in-PosInf c = sym (whole_last c.args.buckets.now c.last-item.result c.in-len2-up.len_at_least c.last-item.is ∙ ap is_positive_infinity c.in-PosInf.is)

pub returns-in_default-matches : goal.returns-in_default-matches
returns-in_default-matches c = sym (whole_last c.args.buckets.now c.last-item.result c.in-len2-up.len_at_least c.last-item.is ∙ not_infinite c.last-item.result.bound c.in_default-matches.not-PosInf)
