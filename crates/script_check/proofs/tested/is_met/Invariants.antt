use Rattle.std.proofs.Common.{◌≡◌, drop}
use Rattle.std.specs.List.{list_any}
use Rattle.script_check.specs.Verdicts.{meets}
use Rattle.script_check.proofs.tested.is_met.Given as goal

abbrev pub invariant-loop-text : goal.invariant-loop-text
invariant-loop-text l = record {
  same : l.searches ≡ l.initial.searches;
  so_far : list_any (λ text. meets l.initial.searches text l.line) (drop l.text-index l.texts) ≡ list_any (λ text. meets l.initial.searches text l.line) l.texts;
}
