use Rattle.std.proofs.Common.{rules}
use Rattle.engine_tests.proofs.Moving.{going_at}
use Rattle.engine_tests.proofs.runs.told.Goals as goal

pub loop-lent-init : goal.loop-lent-init
loop-lent-init g c = c.requires c.first_of-next.result c.first_of-next.ensures

pub go_on-requires : goal.go_on-requires
go_on-requires g c = going_at _ _ _ _ _ c.loop-lent.next _ (search rules) c.loop-lent.invariant
