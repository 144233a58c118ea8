use Rattle.std.proofs.Common.{◌≡◌, ◌+◌, drop}
use Rattle.std.specs.Prelude.{option_map}
use Rattle.script_read.specs.Items.{step_behind}
use Rattle.script_read.proofs.item.step_behind.Given as goal

abbrev pub invariant-loop-place : goal.invariant-loop-place
invariant-loop-place l = option_map (λ k. k + l.place) (step_behind l.before (drop l.place l.text)) ≡ step_behind l.first l.text
