use Rattle.std.proofs.Common.{◌≡◌, drop}
use Rattle.script_read.specs.Quotes.{has_histogram, histogram_from}
use Rattle.script_read.proofs.quote.has_histogram.Given as goal

abbrev pub invariant-loop-byte : goal.invariant-loop-byte
invariant-loop-byte l = histogram_from l.brace l.quoting (drop l.byte-index l.text) ≡ has_histogram l.text
