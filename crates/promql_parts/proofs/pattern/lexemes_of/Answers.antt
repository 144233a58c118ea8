use Rattle.std.proofs.Common.{ap, map, sym, arith}
use Rattle.std.proofs.lemmas.List.{drop_all}
use Rattle.match_rule.specs.Gains.{gains_all}
use Rattle.promql_parts.specs.Lexemes.{lexeme_of}
use Rattle.promql_parts.proofs.Patterning.{ends, from_item, goes_on, grown_have, stops}
use Rattle.promql_parts.proofs.pattern.lexemes_of.Goals as goal

pub returns-then-bad-clause-lexemes : goal.returns-then-bad-clause-lexemes
returns-then-bad-clause-lexemes c =
    stops _ _ _ _ _ _ _ _ _ c.in_ok-lexeme.lexeme c.in_ok-lexeme-2.lexeme c.loop-token.invariant.0
    (from_item (lexeme_of c.args.text.now) c.args.tokens.now c.loop-token.token-index _ c.token-item.result c.in_ok-lexeme.lexeme (omega (arith, c.loop-token-test.true)) c.token-item.is c.in_ok-lexeme.ensures)
    c.in_ok-lexeme-2.ensures.becomes c.in_ok-push.ensures.ok (sym c.if-bad.ensures)

pub loop-token-preserved : goal.loop-token-preserved
loop-token-preserved c = (
  rw c.takes_pattern-next.ensures
      (goes_on _ _ _ _ _ _ _ _ _ c.in_ok-lexeme.lexeme c.in_ok-lexeme-2.lexeme c.loop-token.invariant.0
      (from_item (lexeme_of c.args.text.now) c.args.tokens.now c.loop-token.token-index _ c.token-item.result c.in_ok-lexeme.lexeme (omega (arith, c.loop-token-test.true)) c.token-item.is c.in_ok-lexeme.ensures)
      c.in_ok-lexeme-2.ensures.becomes c.in_ok-push.ensures.ok (sym c.if-bad.ensures)),
  gains_all _ _ _ c.loop-token.invariant.1 c.in_ok-lexeme-2.ensures.gains,
  grown_have _ _ c.args.text.now c.token-item.result _ _ c.in_ok-lexeme.lexeme c.in_ok-lexeme-2.lexeme c.in_ok-lexeme.ensures c.in_ok-lexeme-2.ensures.kept c.in_ok-lexeme-2.ensures.gains c.loop-token.invariant.2 c.in_ok-push.ensures.ok,
)

pub returns-clause-lexemes : goal.returns-clause-lexemes
returns-clause-lexemes c = ends _ _ _ _ _ _ c.loop-token.invariant.0 (ap (map (lexeme_of c.args.text.now)) (drop_all _ _ c.loop-token-test.false))

pub returns-then-bad-clause-gains : goal.returns-then-bad-clause-gains
returns-then-bad-clause-gains c = gains_all _ _ _ c.loop-token.invariant.1 c.in_ok-lexeme-2.ensures.gains

pub returns-then-bad-clause-kept : goal.returns-then-bad-clause-kept
returns-then-bad-clause-kept c =
    grown_have _ _ c.args.text.now c.token-item.result _ _ c.in_ok-lexeme.lexeme c.in_ok-lexeme-2.lexeme c.in_ok-lexeme.ensures c.in_ok-lexeme-2.ensures.kept c.in_ok-lexeme-2.ensures.gains c.loop-token.invariant.2 c.in_ok-push.ensures.ok
