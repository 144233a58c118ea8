use Rattle.std.proofs.Common.{◌≡◌, ◌++◌, Bool, false, map}
use Rattle.logical_plan.specs.declared.nodes.Plan.{Plan}
use Rattle.opt_selects.specs.Trimming.{trimmed}
use Rattle.opt_selects.proofs.trimming.+trimming.Given as goal

abbrev pub invariant-trimmed_all-loop-p : goal.invariant-trimmed_all-loop-p
invariant-trimmed_all-loop-p l =
    l.all ++ map (λ (of : Bool → Plan). of false) (map trimmed l.p-iterator.rest.items) ≡ map (λ (of : Bool → Plan). of false) (map trimmed l.fn.plans)
