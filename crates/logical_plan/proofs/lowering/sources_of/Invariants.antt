use Rattle.std.proofs.Common.{◌≡◌, ◌++◌, map, drop}
use Rattle.logical_plan.specs.Lowering.{all_words, low}
use Rattle.logical_plan.proofs.lowering.sources_of.Given as goal

abbrev pub invariant-loop-i : goal.invariant-loop-i
invariant-loop-i l = l.sources ++ all_words (map low (drop l.i l.all)) ≡ all_words (drop 3 (map low l.all))
