use Rattle.test_runner.specs.Loads.{sample_put}
use Rattle.test_runner.proofs.Gone.{store_gone}
use Rattle.test_runner.proofs.Putting.{store_has}
use Rattle.test_runner.proofs.storing.append.Goals as goal

pub returns-clause-put : goal.returns-clause-put
returns-clause-put c = store_has c.args.store.now c.append_judged.new.store (sample_put c.args.target.line c.args.target.labels.now c.args.at c.args.held.now) _ _ c.append_judged.ensures.put

pub returns-clause-gone : goal.returns-clause-gone
returns-clause-gone c = store_gone _ _ c.append_judged.new.store c.args.store.now c.args.target.line c.args.target.labels.now c.args.at c.args.held.now c.append_judged.ensures.put
