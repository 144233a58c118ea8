use Rattle.std.proofs.Common.{◌≡◌, ℕ, List, take}
use Rattle.std.specs.BTreeSet.{contains}
use Rattle.std.specs.Cmp.Lexicographic.{slice_cmp}
use Rattle.std.specs.Ordering.{nat_cmp}
use Rattle.promql_parts.specs.Labels.{is_among}
use Rattle.promql_parts.proofs.taken.sorted.Given as goal

abbrev pub invariant-loop-label : goal.invariant-loop-label
invariant-loop-label l = (q : List ℕ) → contains (slice_cmp nat_cmp) l.sorted q ≡ is_among (take l.label-index l.labels) q
