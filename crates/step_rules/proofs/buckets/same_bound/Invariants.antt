use Rattle.std.proofs.Common.{◌≡◌, ◌+◌, drop}
use Rattle.std.specs.BTreeMap.{is_at}
use Rattle.std.specs.List.{prefix_len}
use Rattle.xfrac.specs.Order.{total_order}
use Rattle.step_rules.proofs.buckets.same_bound.Given as goal

abbrev pub invariant-loop-i : goal.invariant-loop-i
invariant-loop-i l = l.i + prefix_len (λ b. is_at (total_order l.bound) b.bound) (drop l.i l.buckets) ≡ prefix_len (λ b. is_at (total_order l.bound) b.bound) l.buckets
