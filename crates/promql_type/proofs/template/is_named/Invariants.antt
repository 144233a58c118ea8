use Rattle.std.proofs.Common.{◌≡◌, length}
use Rattle.promql_type.specs.Templates.{is_named, named_from}
use Rattle.promql_type.proofs.template.is_named.Given as goal

abbrev pub invariant-loop-rest : goal.invariant-loop-rest
invariant-loop-rest l = named_from l.refers l.rest ≡ is_named l.text

abbrev pub decreases-loop-rest : goal.decreases-loop-rest
decreases-loop-rest l = length l.rest
