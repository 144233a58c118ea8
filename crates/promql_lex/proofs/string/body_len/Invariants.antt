use Rattle.std.proofs.Common.{◌≡◌, ◌+◌, drop, false}
use Rattle.std.specs.Prelude.{option_map}
use Rattle.promql_lex.specs.Quoted.{body_len}
use Rattle.promql_lex.proofs.string.body_len.Given as goal

abbrev pub invariant-loop-i : goal.invariant-loop-i
invariant-loop-i l = option_map (λ n. n + l.i) (body_len l.escaped l.quote (drop l.i l.text)) ≡ body_len false l.quote l.text
