use denote.Shadow.{shadow}
use denote.Text.{Utf8}
use Rattle.std.proofs.Common.{◌≡◌, take}
use Rattle.std.specs.Prelude.{map}
use Rattle.std.specs.List.{filter_map}
use Rattle.step_put.specs.Placed.{PlacesRise}
use Rattle.op_window.specs.NoteSets.{AreOneSet, IsTold}
use Rattle.op_window.specs.Rules.{names_in, note_in, outcome_in, outcomes_given}
use Rattle.op_window.proofs.made.made_of_lent.Given as goal

abbrev pub invariant-loop-i : goal.invariant-loop-i
invariant-loop-i l = record {
  rising : PlacesRise 0 l.i l.placed.items;
  outcomes : outcomes_given l.f (names_in l.windows.rows) l.placed.items ≡ map (outcome_in l.f l.frame l.arg) (take l.i l.windows.rows);
  text : shadow (Utf8 l.told);
  told : IsTold l.told l.notes;
  notes : AreOneSet l.notes (filter_map (note_in l.f l.frame l.arg) (take l.i l.windows.rows));
}
