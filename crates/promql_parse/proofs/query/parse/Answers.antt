use Rattle.std.proofs.Common.{arith}
use Rattle.promql_parse.specs.Parsing.Parses.{too_long}
use Rattle.promql_parse.proofs.Wholes.{refusal, shallow, tree, within_limits}
use Rattle.promql_parse.proofs.query.parse.Goals as goal

pub returns-then-text-gt-MOST_BYTES-clause-refusal : goal.returns-then-text-gt-MOST_BYTES-clause-refusal
returns-then-text-gt-MOST_BYTES-clause-refusal c = too_long (omega (arith, c.if-text-gt-MOST_BYTES.true))

pub returns-clause-tree : goal.returns-clause-tree
returns-clause-tree c =
    tree c.args.text.now c.as_bytes.result.now c.in_ok-tokens.tokens c.as_slice.result.now _ _ c.in_ok-lexemes.lexemes c.as_slice-2.result.now c.as_bytes.ensures.value c.in_ok-tokens.ensures c.as_slice.ensures
    c.in_ok-lexemes.ensures.lexemes c.as_slice-2.ensures (omega (arith, c.if-text-gt-MOST_BYTES.false)) c.read.result c.read.ensures

pub returns-clause-refusal : goal.returns-clause-refusal
returns-clause-refusal c =
    refusal c.args.text.now c.as_bytes.result.now c.in_ok-tokens.tokens c.as_slice.result.now _ _ c.in_ok-lexemes.lexemes c.as_slice-2.result.now c.as_bytes.ensures.value c.in_ok-tokens.ensures c.as_slice.ensures
    c.in_ok-lexemes.ensures.lexemes c.as_slice-2.ensures (omega (arith, c.if-text-gt-MOST_BYTES.false)) c.read.result c.read.ensures

pub returns-clause-within : goal.returns-clause-within
returns-clause-within c =
    within_limits c.what_is_read_is_a_query.ensures _ c.in_ok-lexemes.lexemes c.as_slice-2.result.now c.as_slice-2.ensures c.queries_lie_within_limits.ensures.within _ c.in_ok-lexemes.ensures.kept c.read.result c.read.ensures

pub returns-clause-shallow : goal.returns-clause-shallow
returns-clause-shallow c =
    shallow c.what_is_read_is_a_query.ensures _ c.in_ok-lexemes.lexemes c.as_slice-2.result.now c.as_slice-2.ensures c.queries_lie_within_limits.ensures.depths c.read.result c.read.ensures
