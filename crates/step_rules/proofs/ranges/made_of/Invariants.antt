use Rattle.std.proofs.Common.{◌≡◌, ◌++◌, map, drop}
use Rattle.std.specs.List.{filter_map}
use Rattle.promql_meaning.specs.Ranges.{counter_note, window_outcome}
use Rattle.step_rules.proofs.ranges.made_of.Given as goal

abbrev pub invariant-loop-row : goal.invariant-loop-row
invariant-loop-row l = record {
  outcomes : l.made.outcomes ++ map (window_outcome l.f l.fn.t.0 l.arg l.windows) (drop l.row-index l.row-items) ≡ map (window_outcome l.f l.fn.t.0 l.arg l.windows) l.row-items;
  notes : l.made.notes ++ filter_map (counter_note l.f l.fn.t.0 l.arg l.windows) (drop l.row-index l.row-items) ≡ filter_map (counter_note l.f l.fn.t.0 l.arg l.windows) l.row-items;
}
