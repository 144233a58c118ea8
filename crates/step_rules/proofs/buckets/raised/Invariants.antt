use Rattle.std.proofs.Common.{◌≡◌, ◌++◌}
use Rattle.std.specs.Prelude.{◌||◌}
use Rattle.std.specs.Vec.Iter.{into_iter_items}
use Rattle.xfrac.specs.declared.value.XFrac.TheVariants.{NegInf}
use Rattle.step_rules.proofs.Raising.{rise, sinks}
use Rattle.step_rules.proofs.buckets.raised.Given as goal

abbrev pub invariant-loop-bucket : goal.invariant-loop-bucket
invariant-loop-bucket l = record {
  buckets : l.raised ++ rise l.most (into_iter_items l.bucket-iterator) ≡ rise NegInf (into_iter_items l.initial.bucket-iterator);
  fixed : (l.fixed || sinks l.most (into_iter_items l.bucket-iterator)) ≡ sinks NegInf (into_iter_items l.initial.bucket-iterator);
}
