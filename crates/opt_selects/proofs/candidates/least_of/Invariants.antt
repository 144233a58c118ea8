use Rattle.std.proofs.Common.{◌≡◌, drop}
use Rattle.opt_selects.specs.Bases.{is_base}
use Rattle.opt_selects.specs.Candidates.{least_of, passes_at}
use Rattle.opt_selects.proofs.candidates.least_of.Given as goal

abbrev pub invariant-loop-one : goal.invariant-loop-one
invariant-loop-one l =
    least_of (passes_at (is_base l.sought.rules.now l.sought.moment.now l.sought.range) l.found) l.key (drop l.one-index l.row) l.least
    ≡ least_of (passes_at (is_base l.sought.rules.now l.sought.moment.now l.sought.range) l.found) l.key l.row l.bound
