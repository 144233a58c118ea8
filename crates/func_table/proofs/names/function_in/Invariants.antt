use Rattle.std.proofs.Common.{◌≡◌, bytes_eq, drop}
use Rattle.std.specs.Map.{lookup}
use Rattle.func_table.proofs.names.function_in.Given as goal

abbrev pub invariant-loop-other : goal.invariant-loop-other
invariant-loop-other l =
    lookup (λ other. bytes_eq other.now l.name) (drop l.other-index l.table) ≡ lookup (λ other. bytes_eq other.now l.name) l.table
