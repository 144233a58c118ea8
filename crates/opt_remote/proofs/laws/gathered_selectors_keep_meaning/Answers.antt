use Rattle.opt_remote.proofs.Meanings.{selectors_kept}
use Rattle.opt_remote.proofs.laws.gathered_selectors_keep_meaning.Goals as goal

pub returns : goal.returns
returns c =
    selectors_kept c.engines_give_the_whole.ensures.all c.selectors_join.ensures.windows c.leaves_are_parted.ensures.selectors c.sorts_and_times_are_parted.ensures.times
    c.plans_mean_their_trees.ensures
