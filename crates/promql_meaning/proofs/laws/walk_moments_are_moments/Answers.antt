use Rattle.promql_meaning.proofs.WalkMoments.{walk_moment_is}
use Rattle.promql_meaning.proofs.laws.walk_moments_are_moments.Goals as goal

pub returns : goal.returns
returns c = walk_moment_is
