use Rattle.std.proofs.Common.{◌≡◌, ◌++◌, drop}
use Rattle.plan_text.specs.PlanLines.{more_engines}
use Rattle.plan_text.proofs.words.append_more_engines.Given as goal

abbrev pub invariant-loop-engine : goal.invariant-loop-engine
invariant-loop-engine l =
    l.into.items ++ more_engines (drop l.engine-index l.engines) ≡ l.initial.into.items ++ more_engines l.engines
