use Rattle.std.proofs.Common.{◌≡◌, ◌++◌, map}
use Rattle.promql_parts.proofs.selector.push_rules.Given as goal

abbrev pub invariant-loop-matcher : goal.invariant-loop-matcher
invariant-loop-matcher l = l.rules ≡ l.initial.rules ++ map (λ m. m.rule) l.yielded
