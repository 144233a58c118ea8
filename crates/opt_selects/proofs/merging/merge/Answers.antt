use Rattle.std.proofs.Common.{◌∙◌, ap}
use Rattle.plan_rewrite.specs.Rebuilding.{Change, rebuilt}
use Rattle.opt_selects.specs.Selectors.{ordered, selectors}
use Rattle.opt_selects.proofs.Alike.{same_change}
use Rattle.opt_selects.proofs.Merges.{merge_kept}
use Rattle.opt_selects.proofs.merging.merge.Goals as goal

pub returns-clause-plan : goal.returns-clause-plan
returns-clause-plan c =
    c.in_ok-q.ensures.plan
    ∙ ap (λ (change : Change). rebuilt change c.args.p) (same_change c.in_ok-found.found (ordered (selectors c.args.p)) c.in_ok-found.ensures)

pub returns-clause-means : goal.returns-clause-means
returns-clause-means c asked t = c.in_ok-q.ensures.means asked t (merge_kept c.more_rules_filter.ensures.rows c.more_rules_filter.ensures.windows asked c.in_ok-found.found)
