use Rattle.std.proofs.Common.{◌≡◌, ◌≤◌, ◌+◌, true, length, sym, subst, rules, arith}
use Rattle.std.specs.Prelude.{bytes_eq}
use Rattle.std.specs.Option.{option_map}
use Rattle.step_rules.proofs.Absent.{counts_within, only_one}
use Rattle.step_rules.proofs.absences.absent_value.Goals as goal

pub overflow_add-equalities : goal.overflow_add-equalities
overflow_add-equalities c =
    let same : bytes_eq c.rule-item.result.label c.args.label.now ≡ true = search rules in
    let room = counts_within c.args.rules.now c.args.label.now c.loop-rule.rule-index c.rule-item.result c.loop-rule.equalities (option_map (λ text. text.now) c.loop-rule.last) c.loop-rule-test.true c.rule-item.is same c.loop-rule.invariant in
    let within : c.loop-rule.equalities + c.equality_count-equalities.result ≤ length c.args.rules.now = subst (λ n. c.loop-rule.equalities + n ≤ length c.args.rules.now) (sym c.equality_count-equalities.ensures) room in
    omega arith

pub returns-then-equalities-eq1 : goal.returns-then-equalities-eq1
returns-then-equalities-eq1 c =
    only_one c.args.rules.now c.args.label.now c.loop-rule.rule-index c.loop-rule.equalities (option_map (λ text. text.now) c.loop-rule.last) c.loop-rule-test.false c.loop-rule.invariant c.if-equalities-eq1.true
