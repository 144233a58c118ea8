use Rattle.std.proofs.Common.{◌≡◌, ◌++◌, map}
use Rattle.std.specs.List.{All}
use Rattle.std.specs.Vec.Iter.{into_iter_items}
use Rattle.opt_matchers.specs.Keys.{IsKeyed}
use Rattle.opt_matchers.specs.declared.keys.Keyed.{Keyed}
use Rattle.opt_matchers.proofs.keys.with_patterns.Given as goal

abbrev pub invariant-loop-rule : goal.invariant-loop-rule
invariant-loop-rule l = record {
  rules : map (λ (k : Keyed). k.rule) l.all.items ++ into_iter_items l.rule-iterator ≡ into_iter_items l.initial.rule-iterator;
  keyed : All (IsKeyed l.patterns) l.all.items;
}
