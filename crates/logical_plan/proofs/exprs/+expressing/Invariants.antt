use Rattle.std.proofs.Common.{◌≡◌, ◌++◌, map, drop}
use Rattle.logical_plan.specs.PartExprs.{expression_of}
use Rattle.logical_plan.proofs.exprs.+expressing.Given as goal

abbrev pub invariant-all-loop-p : goal.invariant-all-loop-p
invariant-all-loop-p l = l.es ++ map (expression_of l.patterns) (drop l.p-index l.plans) ≡ map (expression_of l.patterns) l.plans
