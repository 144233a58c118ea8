use Rattle.std.proofs.Common.{◌≡◌, rules, ap, sym, ◌∙◌, to_z, of_z, w64, unsigned_abs, Ok}
use Rattle.frac_text.proofs.Timed.{amount-taken, amount-none, amount-long}
use Rattle.frac_text.proofs.time.read_amount.Goals as goal

pub returns-in-Ok-clause-answer : goal.returns-in-Ok-clause-answer
returns-in-Ok-clause-answer c =
    let same : to_z w64 (of_z w64 c.in-Ok.duration.0) ≡ c.in-Ok.duration.0 = search rules in
    ap (λ n. Ok n) (c.unsigned_abs.ensures.value ∙ ap unsigned_abs same) ∙ sym (amount-taken c.args.text.now c.in-Ok.duration (sym c.in-Ok.ensures.answer))

pub returns-in-Err-BadDuration-clause-answer : goal.returns-in-Err-BadDuration-clause-answer
returns-in-Err-BadDuration-clause-answer c =
    let answer = rw c.in-Err-BadDuration.field-0-is at c.in-Err-BadDuration.ensures.answer in
    c.read_seconds.ensures.answer ∙ sym (amount-none c.args.text.now (sym answer))

pub returns-in-Err-OutOfRange-clause-answer : goal.returns-in-Err-OutOfRange-clause-answer
returns-in-Err-OutOfRange-clause-answer c =
    let answer = rw c.in-Err-OutOfRange.field-0-is at c.in-Err-OutOfRange.ensures.answer in
    sym (amount-long c.args.text.now (sym answer))
