use Rattle.std.proofs.Common.{refl, ap}
use Rattle.step_batch.specs.LentWindows.{WindowsAt}
use Rattle.op_subquery.proofs.Fed.{fed_nothing}
use Rattle.op_subquery.proofs.points.Points.new.Goals as goal

pub returns-clause-fed : goal.returns-clause-fed
returns-clause-fed c = fed_nothing _ refl c.new.ensures (ap (λ (w : WindowsAt). w.rows) c.new-2.ensures) c.new-3.ensures
