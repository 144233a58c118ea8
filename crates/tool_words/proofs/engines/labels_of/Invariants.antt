use Rattle.std.proofs.Common.{◌≡◌, [], drop, map}
use Rattle.tool_words.specs.Engines.{with_pairs_in}
use Rattle.tool_words.proofs.engines.labels_of.Given as goal

abbrev pub invariant-loop-pair : goal.invariant-loop-pair
invariant-loop-pair l = with_pairs_in l.labels (map (λ p. p.now) (drop l.pair-index l.pairs)) ≡ with_pairs_in [] (map (λ p. p.now) l.pairs)
