use Rattle.std.proofs.Common.{◌≡◌, drop}
use Rattle.std.specs.List.{list_all, list_any}
use Rattle.script_check.specs.Verdicts.{meets}
use Rattle.script_check.proofs.tested.all_meet.Given as goal

abbrev pub invariant-loop-text : goal.invariant-loop-text
invariant-loop-text l = record {
  same : l.searches ≡ l.initial.searches;
  so_far : list_all (λ text. list_any (meets l.initial.searches text) l.lines) (drop l.text-index l.texts) ≡ list_all (λ text. list_any (meets l.initial.searches text) l.lines) l.texts;
}
