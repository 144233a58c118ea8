use Rattle.std.proofs.Common.{◌≡◌, bytes_eq, drop}
use Rattle.std.specs.Map.{lookup}
use Rattle.promql_parts.proofs.cut.sign_in.Given as goal

abbrev pub invariant-loop-other : goal.invariant-loop-other
invariant-loop-other l =
    lookup (λ other. bytes_eq other.now l.spelling) (drop l.other-index l.table) ≡ lookup (λ other. bytes_eq other.now l.spelling) l.table
