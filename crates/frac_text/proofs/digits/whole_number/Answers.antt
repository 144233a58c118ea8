use Rattle.std.proofs.Common.{◌≡◌, ◌+◌, arith, ◌∙◌, get_or, false}
use Rattle.frac_text.specs.Digits.{is_digit}
use Rattle.frac_text.proofs.Bases.{digit_more, digit_none, digits_front, not_true}
use Rattle.frac_text.proofs.digits.whole_number.Goals as goal
use Rattle.frac_text.proofs.digits.whole_number.Goals.{in-Some+else-n-gt-LIMIT, in_default}

pub returns-then-n-gt-LIMIT : goal.returns-then-n-gt-LIMIT
returns-then-n-gt-LIMIT c = λ within.
    let is = digit_more c.args.base c.args.text.now c.loop-byte.byte-index c.loop-byte.n c.in-Some.digit c.push-n.result c.loop-byte-test.true c.in-Some.ensures.value.0 c.in-Some.ensures.value.1 c.push-n.ensures c.loop-byte.invariant.is in
    let front = digits_front c.args.base c.args.text.now (c.loop-byte.byte-index + 1) in
    omega (arith, is, front, within, c.if-n-gt-LIMIT.true)

pub loop-byte-preserved : goal.loop-byte-preserved
loop-byte-preserved c =
    elim c.match-digit.branch [
      | in-Some+else-n-gt-LIMIT w ↦
          record {
            is = digit_more c.args.base c.args.text.now c.loop-byte.byte-index c.loop-byte.n w.in-Some.digit c.match-digit.n c.loop-byte-test.true w.in-Some.ensures.value.0 w.in-Some.ensures.value.1 (w.n-is ∙ w.push-n.ensures) c.loop-byte.invariant.is;
            within = omega arith;
          }
      | in_default w ↦
          let other : is_digit c.args.base (get_or c.args.text.now c.loop-byte.byte-index 0) ≡ false = not_true _ (rw w.in_default.is at c.digit.ensures.value) in
          record { is = w.n-is ∙ digit_none c.args.base c.args.text.now c.loop-byte.byte-index c.loop-byte.n c.loop-byte-test.true other c.loop-byte.invariant.is; within = omega arith }
    ]
