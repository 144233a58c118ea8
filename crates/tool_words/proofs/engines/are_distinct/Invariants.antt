use Rattle.std.proofs.Common.{◌≡◌, drop}
use Rattle.tool_words.specs.Engines.{are_distinct}
use Rattle.tool_words.proofs.engines.are_distinct.Given as goal

abbrev pub invariant-loop-i : goal.invariant-loop-i
invariant-loop-i l = are_distinct l.all ≡ are_distinct (drop l.i l.all)
