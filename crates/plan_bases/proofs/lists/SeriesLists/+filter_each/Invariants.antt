use Rattle.std.proofs.Common.{length}
use Rattle.plan_bases.proofs.lists.SeriesLists.+filter_each.Given as goal

abbrev pub decreases-filter_each : goal.decreases-filter_each
decreases-filter_each g l = length l.filters.now
