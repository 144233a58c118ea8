use Rattle.std.proofs.Common.{◌≡◌, ◌++◌, string_bytes, drop}
use Rattle.ticks.specs.Spellings.{parts}
use Rattle.ticks.proofs.write.add_parts.Given as goal

abbrev pub invariant-loop-unit : goal.invariant-loop-unit
invariant-loop-unit l = string_bytes l.text ++ parts (drop l.unit-index l.units) l.left ≡ string_bytes l.fn.text ++ parts l.units l.milliseconds
