use Rattle.std.proofs.Common.{◌≡◌, ◌++◌, map}
use Rattle.plan_rewrite.specs.Rebuilding.{rebuilt}
use Rattle.plan_rewrite.proofs.rewriting.+rebuilding.Given as goal

abbrev pub invariant-rebuild_all-loop-p : goal.invariant-rebuild_all-loop-p
invariant-rebuild_all-loop-p g l =
    l.all ++ map (rebuilt (g.R.Rewrite.rule l.rewrite)) l.p-iterator.rest.items ≡ map (rebuilt (g.R.Rewrite.rule l.rewrite)) l.fn.plans
