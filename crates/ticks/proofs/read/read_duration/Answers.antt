use Rattle.std.proofs.Common.{rules, ◌≡◌, ◌+◌, ◌≤◌, ℕ, arith, ap, sym}
use Rattle.std.proofs.lemmas.Int.{ints}
use Rattle.ticks.specs.Durations.{hundred_years, IsCapped}
use Rattle.ticks.specs.Pairs.{Spells-moved}
use Rattle.ticks.specs.Summed.{answer-bad, answer-long, answer-taken, capped-long, capped-small}
use Rattle.ticks.proofs.read.read_duration.Goals as goal

pub returns-in-None-clause-read : goal.returns-in-None-clause-read
returns-in-None-clause-read c = λ n duration small.
    c.in-None.ensures.complete n (Spells-moved _ _ n _ _ (ap (λ (l : ℕ). l + 1) c.milliseconds.ensures) c.as_bytes.ensures.value duration.spells)

pub returns-in-None-clause-bad : goal.returns-in-None-clause-bad
returns-in-None-clause-bad c = λ bad n duration.
    c.in-None.ensures.complete n (Spells-moved _ _ n _ _ (ap (λ (l : ℕ). l + 1) c.milliseconds.ensures) c.as_bytes.ensures.value duration.spells)

pub returns-in-Some-clause-read : goal.returns-in-Some-clause-read
returns-in-Some-clause-read c = λ n duration small.
    let capped : IsCapped n c.in-Some.n =
    c.in-Some.ensures.complete n (Spells-moved _ _ n _ _ (ap (λ (l : ℕ). l + 1) c.milliseconds.ensures) c.as_bytes.ensures.value duration.spells) in
    let exact : c.in-Some.n ≡ n = capped.within small in
    omega arith

pub returns-in-Some-2-clause-read : goal.returns-in-Some-2-clause-read
returns-in-Some-2-clause-read c = λ n duration small.
    let capped : IsCapped n c.in-Some.n =
    c.in-Some.ensures.complete n (Spells-moved _ _ n _ _ (ap (λ (l : ℕ). l + 1) c.milliseconds.ensures) c.as_bytes.ensures.value duration.spells) in
    let exact : c.in-Some.n ≡ n = capped.within small in
    omega (arith, ints)

pub returns-then-is_empty-clause-answer : goal.returns-then-is_empty-clause-answer
returns-then-is_empty-clause-answer c = answer-bad c.args.text.now (λ n is. let some = is.some in search rules)

pub returns-in-None-clause-answer : goal.returns-in-None-clause-answer
returns-in-None-clause-answer c =
    answer-bad c.args.text.now (λ n is.
    c.in-None.ensures.complete n (Spells-moved _ _ n _ _ (ap (λ (l : ℕ). l + 1) c.milliseconds.ensures) c.as_bytes.ensures.value is.spells))

pub returns-in-Some-clause-answer : goal.returns-in-Some-clause-answer
returns-in-Some-clause-answer c =
    let sound = c.in-Some.ensures.sound in
    let capped : IsCapped sound.0 c.in-Some.n = sound.2 in
    answer-long c.args.text.now sound.0
    (record { some = search rules; spells = Spells-moved _ _ sound.0 _ _ (sym (ap (λ (l : ℕ). l + 1) c.milliseconds.ensures)) (sym c.as_bytes.ensures.value) sound.1 })
    (capped-long sound.0 c.in-Some.n capped (omega arith))

pub returns-in-Some-2-clause-answer : goal.returns-in-Some-2-clause-answer
returns-in-Some-2-clause-answer c =
    let sound = c.in-Some.ensures.sound in
    let capped : IsCapped sound.0 c.in-Some.n = sound.2 in
    let small : sound.0 ≤ hundred_years = capped-small sound.0 c.in-Some.n capped (omega arith) in
    let exact : c.in-Some.n ≡ sound.0 = capped.within small in
    answer-taken c.args.text.now sound.0 _
    (record { some = search rules; spells = Spells-moved _ _ sound.0 _ _ (sym (ap (λ (l : ℕ). l + 1) c.milliseconds.ensures)) (sym c.as_bytes.ensures.value) sound.1 })
    small (omega (arith, ints))
