use Rattle.std.proofs.Common.{◌<◌, ◌∙◌, ℕ, arith, get_or, length, sym, ap, subst}
use Rattle.step_batch.specs.declared.steps.Slot.{Slot}
use Rattle.op_ratio.specs.Counts.{number_of as number_at}
use Rattle.op_ratio.proofs.Counting.{count_there, none_noted, slot_within}
use Rattle.op_ratio.proofs.dividing.count_under.Goals as goal

pub number_of-requires : goal.number_of-requires
number_of-requires c =
    let numbers = c.args.numbers.now in
    let counts = c.args.counts.now in
    let i : ℕ = get_or c.args.at.now c.args.number 0 in
    let within : i < length counts = omega (arith, c.if-i-counts.false) in
    subst (λ (s : Slot). s.place < length numbers) (sym c.index-counts-i.is) (slot_within 0 (length numbers) counts i c.index-counts-i.result within c.requires.within)

pub returns-then-number_of-number : goal.returns-then-number_of-number
returns-then-number_of-number c =
    let numbers = c.args.numbers.now in
    none_noted c.args.at.now numbers c.args.counts.now c.args.number c.requires.noted
    (λ noted. c.if-number_of-number.true (c.number_of.ensures ∙ ap (number_at numbers) c.index-counts-i.is ∙ noted.1 c.index-counts-i.result))

pub returns : goal.returns
returns c =
    let numbers = c.args.numbers.now in
    let counts = c.args.counts.now in
    let i : ℕ = get_or c.args.at.now c.args.number 0 in
    let within : i < length counts = omega (arith, c.if-i-counts.false) in
    count_there numbers counts i c.args.number c.index-counts-i.result.value c.index-counts-i.result within
    (ap (number_at numbers) (sym c.index-counts-i.is) ∙ sym c.number_of.ensures ∙ c.if-number_of-number.false) (ap (λ (s : Slot). s.value) (sym c.index-counts-i.is))
