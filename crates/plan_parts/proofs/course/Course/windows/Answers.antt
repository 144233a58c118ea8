use Rattle.std.proofs.lemmas.Option.{IfSome_then}
use Rattle.plan_parts.proofs.Windows.{windows_spread}
use Rattle.plan_parts.proofs.course.Course.windows.Goals as goal

pub returns-clause-windows : goal.returns-clause-windows
returns-clause-windows c = IfSome_then c.spread.result c.spread.ensures.spread (λ w s. windows_spread c.args.self.now.walk c.args.moment.now c.bases.result.0.0 c.bases.result.1.0 c.args.range.0 w.0.0 w.1.0 c.bases.ensures.between s)
