use Rattle.std.proofs.Common.{◌≡◌, drop}
use Rattle.std.specs.List.{list_any}
use Rattle.script_check.specs.Searched.{HoldsWhereMarked}
use Rattle.script_check.specs.Verdicts.{AreKept, meets, noted_holds}
use Rattle.script_check.proofs.tested.are_met.Given as goal

abbrev pub invariant-loop-line : goal.invariant-loop-line
invariant-loop-line l = record {
  same : l.searches ≡ l.initial.searches;
  kept : AreKept l.initial.searches (drop l.line-index l.lines);
  so_far : noted_holds l.initial.searches (drop l.line-index l.lines) l.texts ≡ noted_holds l.initial.searches l.lines l.texts;
  met : HoldsWhereMarked (λ line. list_any (λ text. meets l.initial.searches text line) l.texts) l.marks;
}
