use Rattle.std.proofs.Common.{◌≡◌, ◌++◌}
use Rattle.std.specs.Vec.Iter.{into_iter_items}
use Rattle.std.specs.Prelude.{map}
use Rattle.promql_meaning.specs.Givens.{words_of}
use Rattle.plain_eval.proofs.calls.all_words.Given as goal

abbrev pub invariant-loop-given : goal.invariant-loop-given
invariant-loop-given l = l.texts ++ map words_of (into_iter_items l.given-iterator) ≡ map words_of (into_iter_items l.initial.given-iterator)
