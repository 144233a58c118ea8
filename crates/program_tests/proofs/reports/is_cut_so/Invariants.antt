use Rattle.std.proofs.Common.{◌≤◌, length}
use Rattle.program_tests.proofs.reports.is_cut_so.Given as goal

abbrev pub invariant-loop-place : goal.invariant-loop-place
invariant-loop-place l = l.begin ≤ length l.printed
