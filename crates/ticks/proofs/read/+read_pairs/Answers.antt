use Rattle.std.proofs.Common.{rules, ◌≡◌, ◌*◌, ◌+◌, ℕ, length, arith, sym, subst, ◌∙◌}
use Rattle.ticks.specs.Durations.{AreDigits, IsCapped, Spells, number}
use Rattle.ticks.specs.Units.{milliseconds_in}
use Rattle.ticks.specs.Pairs.{AreDigits-digits_of, no_digits, no_unit, not_shorter, Spells-split, Spells-joined, Spells-nil, IsCapped-counted, IsCapped-text}
use Rattle.ticks.proofs.read.+read_pairs.Goals as goal

pub number_of-requires : goal.number_of-requires
number_of-requires t c = subst AreDigits (sym c.split_pair.ensures.digits) (AreDigits-digits_of c.args.text.now)

pub returns-then-is_empty-clause-complete : goal.returns-then-is_empty-clause-complete
returns-then-is_empty-clause-complete t c = λ n spells.
    let none : length c.args.text.now ≡ 0 = search rules in
    let zero : n ≡ 0 = Spells-nil c.args.longest n c.args.text.now none spells in
    subst (λ (m : ℕ). IsCapped m 0) (sym zero) (record { within = λ h. search rules; beyond = λ h. absurd (omega arith) })

pub returns-then-is_empty-2-clause-complete : goal.returns-then-is_empty-2-clause-complete
returns-then-is_empty-2-clause-complete t c = λ n spells.
    let e = c.split_pair.ensures in
    no_digits c.args.longest c.args.text.now _ _ _ e.digits e.name e.later n (search rules) (search rules) spells

pub returns-in_default-clause-complete : goal.returns-in_default-clause-complete
returns-in_default-clause-complete t c = λ n spells.
    let e = c.split_pair.ensures in
    no_unit c.args.longest c.args.text.now _ _ _ e.digits e.name e.later n (search rules) (sym c.unit_named.ensures ∙ c.in_default.is) spells

pub returns-then-length-longest-clause-complete : goal.returns-then-length-longest-clause-complete
returns-then-length-longest-clause-complete t c = λ n spells.
    let e = c.split_pair.ensures in
    not_shorter c.args.longest c.args.text.now _ _ _ e.digits e.name e.later c.in-Some.unit n (search rules) (sym c.unit_named.ensures ∙ c.in-Some.is) (omega arith) spells

pub returns-in-None-clause-complete : goal.returns-in-None-clause-complete
returns-in-None-clause-complete t c = λ n spells.
    let e = c.split_pair.ensures in
    let split = Spells-split c.args.longest c.args.text.now _ _ _ e.digits e.name e.later c.in-Some.unit n (search rules) (sym c.unit_named.ensures ∙ c.in-Some.is) spells in
    c.in-None.ensures.complete split.0 (subst (λ (l : ℕ). Spells l c.split_pair.result.2.now split.0) (sym c.milliseconds-length.ensures) split.1)

pub returns-in-Some-read_pairs-clause-sound : goal.returns-in-Some-read_pairs-clause-sound
returns-in-Some-read_pairs-clause-sound t c =
    let e = c.split_pair.ensures in
    let unit = c.in-Some.unit in
    let inner = c.in-Some-read_pairs.ensures.sound in
    let rest = subst (λ (l : ℕ). Spells l c.split_pair.result.2.now inner.0) c.milliseconds-length.ensures inner.1 in (
      number c.split_pair.result.0.now * milliseconds_in unit + inner.0,
      Spells-joined c.args.longest c.args.text.now _ _ _ e.digits e.name e.later unit inner.0 (search rules) (sym c.unit_named.ensures ∙ c.in-Some.is) (omega arith) rest,
      IsCapped-counted unit _ c.number_of.result inner.0 c.in-Some-read_pairs.counted _ _ _ c.milliseconds-length.ensures c.saturating_mul.ensures c.saturating_add.ensures
          c.number_of.ensures inner.2,
    )

pub returns-in-Some-read_pairs-clause-complete : goal.returns-in-Some-read_pairs-clause-complete
returns-in-Some-read_pairs-clause-complete t c = λ n spells.
    let e = c.split_pair.ensures in
    IsCapped-text c.args.longest c.args.text.now _ _ _ e.digits e.name e.later c.in-Some.unit n c.number_of.result c.in-Some-read_pairs.counted _ _ _ (search rules)
    (sym c.unit_named.ensures ∙ c.in-Some.is) c.milliseconds-length.ensures c.saturating_mul.ensures c.saturating_add.ensures c.number_of.ensures
    c.in-Some-read_pairs.ensures.complete spells
