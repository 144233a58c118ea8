use Rattle.std.proofs.Common.{◌∙◌, ◌+◌, ◌++◌, ap, arith}
use Rattle.promql_lex.specs.Tokens.{tokens_from}
use Rattle.promql_lex.proofs.Waits.{piece_put}
use Rattle.promql_lex.proofs.cut.tokens_in.Goals as goal

pub loop-rest-preserved : goal.loop-rest-preserved
loop-rest-preserved c = record {
  read =
      ap (λ b. c.put.new.out ++ tokens_from 0 b (c.loop-rest.at + c.in_ok-size.field-0.size) c.split_at.result.1.now) c.inside_behind-inside.ensures
      ∙ piece_put c.loop-rest.out c.put.new.out c.loop-rest.inside c.loop-rest.at c.in_ok-size.field-0 c.loop-rest.rest.now c.split_at.result.1.now (omega (arith, c.in-len1-up.len_at_least)) c.in_ok-size.ensures.is
      c.in_ok-size.ensures.within.0 c.split_at.ensures.back (rw c.if-not-more.false at c.in_ok-more.ensures)
      ∙ c.loop-rest.invariant.read;
  place = omega (arith, c.loop-rest.invariant.place, c.split_at.ensures.back_len);
}
