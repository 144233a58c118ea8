use Rattle.std.proofs.Common.{arith, get_or, sym}
use Rattle.script_read.proofs.Counts.{digit_range, count_more, count_past}
use Rattle.script_read.proofs.item.read_count.Goals as goal

pub returns-then-count-ge-COUNT_LIMIT : goal.returns-then-count-ge-COUNT_LIMIT
returns-then-count-ge-COUNT_LIMIT c =
    let digit = sym c.is_ascii_digit.ensures.value in
    let yes = rw c.if-not-is_ascii_digit.false at digit in
    let place = digit_range (get_or c.args.text.now c.loop-digit.digit-index 0) yes in
    count_past c.args.text.now c.loop-digit.digit-index c.loop-digit.count c.loop-digit-test.true yes c.loop-digit.invariant (omega (arith, place.0))

pub loop-digit-preserved : goal.loop-digit-preserved
loop-digit-preserved c =
    let digit = sym c.is_ascii_digit.ensures.value in
    let yes = rw c.if-not-is_ascii_digit.false at digit in
    let place = digit_range (get_or c.args.text.now c.loop-digit.digit-index 0) yes in
    count_more c.args.text.now c.loop-digit.digit-index c.loop-digit.count c.loop-digit-test.true yes c.loop-digit.invariant _ (omega (arith, place.0)) (omega arith)
