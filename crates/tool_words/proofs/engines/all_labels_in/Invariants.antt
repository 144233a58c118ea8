use Rattle.std.proofs.Common.{◌≡◌, ◌++◌, drop, map}
use Rattle.std.specs.Prelude.{option_map}
use Rattle.tool_words.specs.Engines.{all_labels_in}
use Rattle.tool_words.proofs.engines.all_labels_in.Given as goal

abbrev pub invariant-loop-set : goal.invariant-loop-set
invariant-loop-set l = option_map (λ more. l.all ++ more) (all_labels_in (map (λ s. s.now) (drop l.set-index l.sets))) ≡ all_labels_in (map (λ s. s.now) l.sets)
