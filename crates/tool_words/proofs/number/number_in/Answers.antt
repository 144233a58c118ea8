use Rattle.std.proofs.Common.{arith, get_or, sym}
use Rattle.tool_words.proofs.Counts.{count_more, count_past, digit_range}
use Rattle.tool_words.proofs.number.number_in.Goals as goal

pub returns-then-number-from : goal.returns-then-number-from
returns-then-number-from c =
    let digit = sym c.is_ascii_digit.ensures.value in
    let yes = rw c.if-not-is_ascii_digit.false at digit in
    let place = digit_range (get_or c.args.text.now c.loop-digit.digit-index 0) yes in
    count_past c.args.most c.args.text.now c.loop-digit.digit-index c.loop-digit.number c.loop-digit-test.true yes c.loop-digit.invariant (omega (arith, place.0))

pub loop-digit-preserved : goal.loop-digit-preserved
loop-digit-preserved c =
    let digit = sym c.is_ascii_digit.ensures.value in
    let yes = rw c.if-not-is_ascii_digit.false at digit in
    let place = digit_range (get_or c.args.text.now c.loop-digit.digit-index 0) yes in
    count_more c.args.most c.args.text.now c.loop-digit.digit-index c.loop-digit.number c.loop-digit-test.true yes c.loop-digit.invariant _ (omega (arith, place.0)) (omega arith)
