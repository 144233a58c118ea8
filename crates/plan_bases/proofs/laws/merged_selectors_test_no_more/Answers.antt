use Rattle.plan_bases.proofs.Counting.{merged_no_more}
use Rattle.plan_bases.proofs.laws.merged_selectors_test_no_more.Goals as goal

pub returns : goal.returns
returns c = merged_no_more
