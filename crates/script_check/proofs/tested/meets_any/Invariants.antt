use Rattle.std.proofs.Common.{◌≡◌, drop, not}
use Rattle.std.specs.List.{list_any}
use Rattle.script_check.specs.Searched.{HoldsWhereMarked}
use Rattle.script_check.specs.Verdicts.{AreKept, meets}
use Rattle.script_check.proofs.tested.meets_any.Given as goal

abbrev pub invariant-loop-line : goal.invariant-loop-line
invariant-loop-line l = record {
  same : l.searches ≡ l.initial.searches;
  kept : AreKept l.initial.searches (drop l.line-index l.lines);
  so_far : list_any (meets l.initial.searches l.text) (drop l.line-index l.lines) ≡ list_any (meets l.initial.searches l.text) l.lines;
  failed : HoldsWhereMarked (λ line. not (meets l.initial.searches l.text line)) l.marks;
}
