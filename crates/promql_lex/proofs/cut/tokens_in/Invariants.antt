use Rattle.std.proofs.Common.{◌≡◌, ◌+◌, ◌++◌, length}
use Rattle.promql_lex.specs.Tokens.{tokens_from, tokens_of}
use Rattle.promql_lex.proofs.cut.tokens_in.Given as goal

abbrev pub invariant-loop-rest : goal.invariant-loop-rest
invariant-loop-rest l = record {
  read : l.out ++ tokens_from 0 l.inside l.at l.rest ≡ tokens_of l.text;
  place : l.at + length l.rest ≡ length l.text;
}

abbrev pub decreases-loop-rest : goal.decreases-loop-rest
decreases-loop-rest l = length l.rest
