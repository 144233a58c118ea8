use Rattle.std.proofs.Common.{ℕ, Bool, List, subst, sym}
use Rattle.match_rule.specs.Patterns.{HasItsPattern, HaveTheirPatterns}
use Rattle.match_rule.proofs.Passing.{dropped}
use Rattle.match_rule.proofs.rules.labels_pass.Goals as goal

pub passes-requires : goal.passes-requires
passes-requires c =
    let next = dropped c.args.rules.now c.loop-rule.rule-index c.rule-item.result c.loop-rule-test.true c.rule-item.is in
    subst (λ (z : List (Bool × List ℕ)). HasItsPattern z c.rule-item.result.kind) (sym c.loop-rule.invariant.same) (subst (HaveTheirPatterns c.args.patterns.now) next c.loop-rule.invariant.have).0
