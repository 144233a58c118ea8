use Rattle.std.proofs.Common.{◌≡◌, ◌++◌, List, ℕ, drop}
use Rattle.label_set.specs.LabelText.{comma_list}
use Rattle.script_check.proofs.LabelTexts.{parts}
use Rattle.script_check.proofs.label_pieces.behind_labels.Given as goal

abbrev pub invariant-loop-place : goal.invariant-loop-place
invariant-loop-place l =
    (tail : List ℕ) → comma_list l.started (parts (drop l.place l.labels)) ++ tail ≡ l.rest
    → comma_list l.initial.started (parts l.labels) ++ tail ≡ l.text
