use Rattle.std.proofs.Common.{◌∙◌, arith, ne_eqb, eq-eqb}
use Rattle.promql_lex.proofs.Bodies.{step_plain, step_good}
use Rattle.promql_lex.proofs.string.decoded.Goals as goal

pub loop-rest-preserved-in-Some : goal.loop-rest-preserved-in-Some
loop-rest-preserved-in-Some c = record {
  read =
      step_good c.args.quote c.loop-rest.place c.loop-rest.out c.loop-rest.rest.now c.in-Some.e c.push_character.new.out c.split_at.result.1.now c.split_at-in-Some.result.1.now (omega (arith, c.in-len1-up.len_at_least))
      (eq-eqb _ _ c.if-byte-eq92.true) c.in-Some.ensures.is c.in_ok-push_character-in-Some.ensures c.split_at.ensures.back c.split_at-in-Some.ensures.back
      ∙ c.loop-rest.invariant.read;
  place = omega (arith, c.loop-rest.invariant.place, c.split_at.ensures.back_len, c.split_at-in-Some.ensures.back_len);
}

pub loop-rest-preserved : goal.loop-rest-preserved
loop-rest-preserved c = record {
  read =
      step_plain c.args.quote c.loop-rest.place c.loop-rest.out c.loop-rest.rest.now c.push.new.self c.split_at.result.1.now (omega (arith, c.in-len1-up.len_at_least)) (ne_eqb _ _ c.if-byte-eq92.false)
      c.in_ok-push.ensures.ok c.split_at.ensures.back
      ∙ c.loop-rest.invariant.read;
  place = omega (arith, c.loop-rest.invariant.place, c.split_at.ensures.back_len);
}
