use Rattle.std.proofs.Common.{◌≡◌, None, take}
use Rattle.std.specs.Prelude.{Bool, ℤ}
use Rattle.sample_store.specs.Samples.{AllSeries}
use Rattle.op_window.specs.Sliding.{all_walked}
use Rattle.op_window.proofs.walked.blank_windows.Given as goal

abbrev pub invariant-loop-s : goal.invariant-loop-s
invariant-loop-s l = (closed : Bool) (range : ℤ) (store : AllSeries) → l.walked.items ≡ all_walked closed range None store (take l._s-index l.series)
