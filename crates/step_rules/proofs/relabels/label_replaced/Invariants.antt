use Rattle.std.proofs.Common.{◌≡◌, ◌++◌, List, ℕ, true, Some}
use Rattle.std.specs.Vec.Iter.{into_iter_items}
use Rattle.std.specs.Prelude.{map, slice_get}
use Rattle.step_rules.specs.Joined.{replaced_row}
use Rattle.step_rules.proofs.relabels.label_replaced.Given as goal

abbrev pub invariant-loop-row : goal.invariant-loop-row
invariant-loop-row l = record {
  same : l.patterns ≡ l.fn.patterns;
  outcomes : (text : List ℕ) → slice_get l.fn.patterns l.replacing.pattern.0 ≡ Some (true, text)
      → l.outcomes ++ map (replaced_row l.replacing.target l.replacing.template l.replacing.source text) (into_iter_items l.row-iterator) ≡ map (replaced_row l.replacing.target l.replacing.template l.replacing.source text) (into_iter_items l.initial.row-iterator);
}
