use Rattle.std.proofs.Common.{◌∙◌, ℕ, List, ap, subst, sym}
use Rattle.plan_rewrite.specs.Rebuilding.{KeepsMeaning, rebuilt}
use Rattle.opt_remote.specs.Gathering.{gather_selector}
use Rattle.opt_remote.proofs.gathering.gather_selectors.Goals as goal

pub returns-clause-plan : goal.returns-clause-plan
returns-clause-plan c =
    c.in_ok-q.ensures.plan ∙ ap (λ (numbers : List ℕ). rebuilt (gather_selector numbers c.args.patterns.now) c.args.p) c.in_ok-all.ensures

pub returns-clause-means : goal.returns-clause-means
returns-clause-means c asked t parting =
    let keeps : KeepsMeaning asked (gather_selector c.in_ok-all.all c.args.patterns.now) =
    subst (λ (numbers : List ℕ). KeepsMeaning asked (gather_selector numbers c.args.patterns.now)) (sym c.in_ok-all.ensures)
    (c.gathered_selectors_keep_meaning.ensures asked c.args.engines parting c.args.patterns.now) in
    c.in_ok-q.ensures.means asked t keeps
