use Rattle.std.proofs.Common.{◌≡◌, length}
use Rattle.opt_selects.specs.Candidates.{AreUnder}
use Rattle.opt_selects.proofs.candidates.rows_for.Given as goal

abbrev pub invariant-loop-place : goal.invariant-loop-place
invariant-loop-place l = record {
  many : length l.rows.items ≡ length l.found;
  stand : AreUnder l.found l.rows.items l.place;
}
