use denote.Shadow.{shadow}
use denote.Text.{Utf8}
use Rattle.std.proofs.Common.{◌≡◌, take}
use Rattle.std.specs.Prelude.{map}
use Rattle.std.specs.List.{filter_map}
use Rattle.step_put.specs.Placed.{PlacesRise}
use Rattle.op_window.specs.NoteSets.{AreOneSet, IsTold}
use Rattle.op_window.specs.Rules.{names_of, note_in, outcome_in, outcomes_given}
use Rattle.op_window.proofs.WindowRowsMade.{row_at}
use Rattle.op_window.proofs.made.made_of_series.Given as goal

abbrev pub invariant-loop-i : goal.invariant-loop-i
invariant-loop-i l = record {
  rising : PlacesRise 0 l.i l.placed.items;
  outcomes : outcomes_given l.f (names_of l.store l.series) l.placed.items ≡ map (outcome_in l.f l.frame l.arg) (filter_map (row_at l.closed l.frame l.store) (take l.i l.series));
  text : shadow (Utf8 l.told);
  told : IsTold l.told l.notes;
  notes : AreOneSet l.notes (filter_map (note_in l.f l.frame l.arg) (filter_map (row_at l.closed l.frame l.store) (take l.i l.series)));
}
