use Rattle.std.proofs.Common.{◌+◌, take, sym, subst, refl, List}
use Rattle.promql_type.specs.declared.replace.Placed.{Placed}
use Rattle.promql_type.proofs.Builds.{AreSofar, first_fault, next_kept}
use Rattle.promql_type.proofs.replace.build.Goals as goal

pub returns-in-Err-clause-refused : goal.returns-in-Err-clause-refused
returns-in-Err-clause-refused c =
    first_fault c.args.kept.now c.loop-r.kept c.keep.new.kept c.args.wanted.now c.loop-r.placed c.loop-r.r-index c.r-item.result c.in-Err.fault
    c.loop-r-test.true c.r-item.is c.loop-r.invariant c.in-Err.ensures.err c.in-Err.ensures.refused

pub loop-r-preserved : goal.loop-r-preserved
loop-r-preserved c =
    subst (λ (ps : List Placed). AreSofar c.args.kept.now c.keep.new.kept (take (c.loop-r.r-index + 1) c.args.wanted.now) ps) (sym c.in_ok-push.ensures.ok)
    (next_kept c.args.kept.now c.loop-r.kept c.keep.new.kept c.args.wanted.now c.loop-r.placed c.loop-r.r-index c.r-item.result _
    c.loop-r-test.true c.r-item.is c.loop-r.invariant c.in-Ok.ensures.ok c.in-Ok.ensures.readable c.in-Ok.ensures.most c.in-Ok.ensures.gains (refl, c.in-Ok.ensures.there))
