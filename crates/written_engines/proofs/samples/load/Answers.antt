use Rattle.written_engines.proofs.Loading.{loaded, may_load}
use Rattle.written_engines.proofs.samples.load.Goals as goal

pub load-requires : goal.load-requires
load-requires c = may_load c.args.labels.now c.args.at c.args.held c.args.store.now c.args.engine.now c.requires c.in_ok-put.ensures.taken

pub returns : goal.returns
returns c = loaded c.args.labels.now c.args.at c.args.held c.args.store.now c.put.new.store c.args.engine.now c.load.new.self c.requires c.in_ok-load.ensures c.in_ok-put.ensures.put
