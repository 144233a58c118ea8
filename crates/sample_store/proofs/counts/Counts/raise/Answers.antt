use Rattle.sample_store.proofs.Turns.{raise_is}
use Rattle.sample_store.proofs.counts.Counts.raise.Goals as goal

pub returns : goal.returns
returns c = raise_is c.self.inside.edge c.self.inside.total c.self.inside.kept.items c.args.self.now c.self.view_is c.args.k c.turn.new.kept.items c.turn.ensures.same c.turn.ensures.few c.args.more
