use Rattle.std.proofs.Common.{◌≡◌, ◌∷◌, ◌++◌, map, drop}
use Rattle.logical_plan.specs.PartExprs.{worded}
use Rattle.logical_plan.proofs.exprs.joined.Given as goal

abbrev pub invariant-loop-source : goal.invariant-loop-source
invariant-loop-source l =
    l.arguments ++ map (worded l.at) (drop l.source-index l.sources) ≡ l.fn.first ∷ worded l.at l.target ∷ worded l.at l.separator ∷ map (worded l.at) l.sources
