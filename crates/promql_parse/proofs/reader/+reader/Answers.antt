use Rattle.std.proofs.Common.{◌-◌, arith}
use Rattle.std.proofs.lemmas.Result.{err_from_is_err_and}
use Rattle.promql_parse.specs.Reading.{arguments_turn, chain_turn, level_at, within}
use Rattle.promql_parse.proofs.Levels.{level_zero, fails_up, chain_begun}
use Rattle.promql_parts.specs.Turns.{goes_on, ends, stops}
use Rattle.promql_parse.proofs.reader.+reader.Goals as goal

pub listed_arguments-returns-in_err-more-clause-is : goal.listed_arguments-returns-in_err-more-clause-is
listed_arguments-returns-in_err-more-clause-is t c =
    let p = err_from_is_err_and c.from_residual.result c.from_residual.ensures.1 in
    rw (p.1, p.2) (stops (arguments_turn c.args.source.end (level_at c.args.source.end (within c.args.source.end c.args.budget) 5)) _ _ _ c.loop-more.invariant.going c.in_err-more.field-0.0 c.in_err-more.ensures.is)

pub listed_arguments-returns-then-not-more-clause-is : goal.listed_arguments-returns-then-not-more-clause-is
listed_arguments-returns-then-not-more-clause-is t c =
    ends (arguments_turn c.args.source.end (level_at c.args.source.end (within c.args.source.end c.args.budget) 5)) _ _ _ c.loop-more.invariant.going c.in_ok-more.more c.in_ok-more.next c.in_ok-more.behind.now c.in_ok-more.ensures.is c.if-not-more.true

pub listed_arguments-loop-more-preserved : goal.listed_arguments-loop-more-preserved
listed_arguments-loop-more-preserved t c = record {
  going =
      goes_on (arguments_turn c.args.source.end (level_at c.args.source.end (within c.args.source.end c.args.budget) 5)) _ _ _ c.loop-more.invariant.going c.in_ok-more.more c.in_ok-more.next c.in_ok-more.behind.now c.in_ok-more.ensures.is c.if-not-more.false
      (c.in_ok-more.ensures.shorter.1 c.if-not-more.false);
  within = omega (arith, c.loop-more.invariant.within, c.in_ok-more.ensures.shorter.0);
}

pub level_at-returns-then-level-eq0-clause-is : goal.level_at-returns-then-level-eq0-clause-is
level_at-returns-then-level-eq0-clause-is t c =
    rw (level_zero c.args.source.end (within c.args.source.end c.args.budget) c.args.level c.args.lexemes.now c.if-level-eq0.true) c.unary_at.ensures.is

pub level_at-returns-in_err-left-clause-is : goal.level_at-returns-in_err-left-clause-is
level_at-returns-in_err-left-clause-is t c =
    let p = err_from_is_err_and c.from_residual.result c.from_residual.ensures.1 in
    rw (p.1, p.2) (fails_up c.args.source.end (within c.args.source.end c.args.budget) c.args.level c.args.lexemes.now c.in_err-left.field-0.0 (omega arith) c.in_err-left.ensures.is)

pub level_at-loop-more-init : goal.level_at-loop-more-init
level_at-loop-more-init t c = record {
  going = chain_begun c.args.source.end (within c.args.source.end c.args.budget) c.args.level c.args.lexemes.now _ _ (omega arith) c.in_ok-left.ensures.is;
  within = c.in_ok-left.ensures.shorter;
}

pub level_at-returns-in_err-more-clause-is : goal.level_at-returns-in_err-more-clause-is
level_at-returns-in_err-more-clause-is t c =
    let p = err_from_is_err_and c.from_residual-in_err-more.result c.from_residual-in_err-more.ensures.1 in
    rw (p.1, p.2) (stops (chain_turn c.args.source.end c.args.level (level_at c.args.source.end (within c.args.source.end c.args.budget) (c.args.level - 1))) _ _ _ c.loop-more.invariant.going c.in_err-more.field-0.0 c.in_err-more.ensures.is)

pub level_at-returns-then-not-more-clause-is : goal.level_at-returns-then-not-more-clause-is
level_at-returns-then-not-more-clause-is t c =
    ends (chain_turn c.args.source.end c.args.level (level_at c.args.source.end (within c.args.source.end c.args.budget) (c.args.level - 1))) _ _ _ c.loop-more.invariant.going c.in_ok-more.more c.in_ok-more.next c.in_ok-more.behind.now c.in_ok-more.ensures.is c.if-not-more.true

pub level_at-loop-more-preserved : goal.level_at-loop-more-preserved
level_at-loop-more-preserved t c = record {
  going =
      goes_on (chain_turn c.args.source.end c.args.level (level_at c.args.source.end (within c.args.source.end c.args.budget) (c.args.level - 1))) _ _ _ c.loop-more.invariant.going c.in_ok-more.more c.in_ok-more.next c.in_ok-more.behind.now c.in_ok-more.ensures.is c.if-not-more.false
      (c.in_ok-more.ensures.shorter.1 c.if-not-more.false);
  within = omega (arith, c.loop-more.invariant.within, c.in_ok-more.ensures.shorter.0);
}
