use Rattle.std.proofs.Common.{◌≡◌, ◌+◌, drop}
use Rattle.std.specs.Prelude.{option_map}
use Rattle.promql_lex.specs.Quoted.{raw_len}
use Rattle.promql_lex.proofs.string.raw_len.Given as goal

abbrev pub invariant-loop-i : goal.invariant-loop-i
invariant-loop-i l = option_map (λ n. n + l.i) (raw_len (drop l.i l.text)) ≡ raw_len l.text
