use Rattle.std.proofs.Common.{◌≡◌, drop, length}
use Rattle.opt_selects.specs.Bases.{is_base}
use Rattle.opt_selects.specs.Candidates.{least_under, passes_at}
use Rattle.opt_selects.proofs.candidates.least_under.Given as goal

abbrev pub invariant-loop-key : goal.invariant-loop-key
invariant-loop-key l =
    least_under (passes_at (is_base l.sought.rules.now l.sought.moment.now l.sought.range) l.found) l.rows (drop l.key-index l.sought.keys.now) l.least
    ≡ least_under (passes_at (is_base l.sought.rules.now l.sought.moment.now l.sought.range) l.found) l.rows l.sought.keys.now (length l.found)
