use Rattle.std.proofs.Common.{◌≡◌, take}
use Rattle.logical_plan.proofs.+copies.Given as goal

abbrev pub invariant-copying::all_copied-loop-p : goal.invariant-copying::all_copied-loop-p
invariant-copying::all_copied-loop-p l = l.copies ≡ take l.p-index l.p-items
