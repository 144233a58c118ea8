use Rattle.std.proofs.Common.{◌≡◌, ◌∷◌, ◌++◌, List, ℕ, drop}
use Rattle.std.specs.List.{flat_map}
use Rattle.label_set.specs.LabelText.{escaped_byte, quoted}
use Rattle.script_check.proofs.pieces.behind_quoted.Given as goal

abbrev pub invariant-loop-byte : goal.invariant-loop-byte
invariant-loop-byte l = (tail : List ℕ) → flat_map escaped_byte (drop l.byte-index l.plain) ++ 34 ∷ tail ≡ l.rest → quoted l.plain ++ tail ≡ l.text
