use Rattle.std.proofs.Common.{◌≡◌, ◌≤◌, ◌+◌, drop, map}
use Rattle.script_read.specs.Outcomes.{in_front}
use Rattle.script_read.specs.Results.{cells_from, cells_spelled, total_places}
use Rattle.script_read.proofs.rows.read_cells.Given as goal

abbrev pub invariant-loop-word : goal.invariant-loop-word
invariant-loop-word l = record {
  said : in_front l.cells (cells_from l.room (map (λ word. word.now) (drop l.word-index l.words))) ≡ cells_spelled l.steps (map (λ word. word.now) l.words);
  within : total_places l.cells + l.room ≤ l.steps;
}
