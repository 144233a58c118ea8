use Rattle.std.proofs.Common.{refl}
use Rattle.written_engines.proofs.Untold.{late_is}
use Rattle.written_engines.proofs.faulty.Faulty.go_astray.Goals as goal

pub returns-clause-late : goal.returns-clause-late
returns-clause-late c = late_is _ _ _ _ c.first_at-expected.result c.other-got.result _ _ _ c.replace.ensures.was c.replace.ensures.now (c.first_at-expected.ensures c.replace.result c.replace.ensures.was) refl c.other-got.ensures c.saturating_add-self.ensures refl
