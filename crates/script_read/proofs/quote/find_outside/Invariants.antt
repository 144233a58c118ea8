use Rattle.std.proofs.Common.{◌≡◌, ◌+◌, drop}
use Rattle.std.specs.Prelude.{option_map}
use Rattle.script_read.specs.Quotes.{place_from, place_outside}
use Rattle.script_read.proofs.quote.find_outside.Given as goal

abbrev pub invariant-loop-place : goal.invariant-loop-place
invariant-loop-place l = option_map (λ k. k + l.place) (place_from l.wanted l.quoting (drop l.place l.text)) ≡ place_outside l.wanted l.text
