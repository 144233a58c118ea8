use Rattle.std.proofs.Common.{◌≡◌, ◌+◌, length}
use Rattle.promql_lex.specs.Quoted.{decoded, behind}
use Rattle.promql_lex.proofs.string.decoded.Given as goal

abbrev pub invariant-loop-rest : goal.invariant-loop-rest
invariant-loop-rest l = record {
  read : behind l.out (decoded 0 l.quote l.place l.rest) ≡ decoded 0 l.quote l.at l.body;
  place : l.place + length l.rest ≡ l.at + length l.body;
}

abbrev pub decreases-loop-rest : goal.decreases-loop-rest
decreases-loop-rest l = length l.rest
