use Rattle.std.proofs.Common.{subst}
use Rattle.sample_store.specs.Samples.{samples_at}
use Rattle.series_marks.specs.Counted.{begun_counts, gone_counts}
use Rattle.series_marks.specs.Reads.{IsNoEarlier, Reached}
use Rattle.series_marks.proofs.renew.renewed.Goals as goal

pub returns-in-None-clause-counted : goal.returns-in-None-clause-counted
returns-in-None-clause-counted g c =
    begun_counts c.args.reached c.args.edge c.args.m (samples_at c.args.store.now c.args.s) c.begin.new.work.fetched c.args.work.now.fetched c.in-None.is c.begin.ensures.counted

pub returns-in-Some-clause-counted : goal.returns-in-Some-clause-counted
returns-in-Some-clause-counted g c =
    gone_counts c.args.reached c.in-Some.reached c.args.edge c.args.m (samples_at c.args.store.now c.args.s) c.go_on.new.work.fetched c.args.work.now.fetched c.in-Some.is
    (subst (λ (z : Reached). IsNoEarlier z c.args.m) c.in-Some.is c.requires.later) c.go_on.ensures.read
