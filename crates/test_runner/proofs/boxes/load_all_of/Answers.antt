use Rattle.std.proofs.Common.{rules}
use Rattle.test_runner.proofs.Parts.{ends_gone, ends_put}
use Rattle.test_runner.proofs.boxes.load_all_of.Goals as goal

-- the boxes keep their reference, so that it ends as what they leave
pub returns-clause-put : goal.returns-clause-put
returns-clause-put g c = ends_put _ c.change_all.result c.args.declared.now _ _ _ (search rules) _ c.change_all.ensures.put

pub returns-clause-gone : goal.returns-clause-gone
returns-clause-gone g c = ends_gone _ c.change_all.result c.args.declared.now _ _ _ (search rules) c.change_all.ensures.gone
