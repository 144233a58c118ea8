use Rattle.std.proofs.Common.{◌≡◌, drop, false}
use Rattle.promql_lex.specs.Numbers.{has_unit}
use Rattle.promql_lex.proofs.number.has_unit.Given as goal

abbrev pub invariant-loop-byte : goal.invariant-loop-byte
invariant-loop-byte l = has_unit l.hexadecimal l.behind (drop l.byte-index l.run) ≡ has_unit l.hexadecimal false l.run
