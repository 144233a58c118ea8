use Rattle.std.proofs.Common.{sym}
use Rattle.step_rules.proofs.Bounds.{last_count_is}
use Rattle.step_rules.proofs.buckets.last_count.Goals as goal

pub returns-in-len1-up : goal.returns-in-len1-up
returns-in-len1-up c = sym (last_count_is c.args.buckets.now c.last-item.result c.in-len1-up.len_at_least c.last-item.is)
