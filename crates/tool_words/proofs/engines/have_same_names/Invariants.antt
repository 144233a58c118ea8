use Rattle.std.proofs.Common.{◌≡◌, drop}
use Rattle.tool_words.specs.Engines.{have_same_names}
use Rattle.tool_words.proofs.engines.have_same_names.Given as goal

abbrev pub invariant-loop-i : goal.invariant-loop-i
invariant-loop-i l = have_same_names l.labels l.others ≡ have_same_names (drop l.i l.labels) (drop l.i l.others)
