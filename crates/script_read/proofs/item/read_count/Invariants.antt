use Rattle.script_read.proofs.Counts.{HasCounted}
use Rattle.script_read.proofs.item.read_count.Given as goal

abbrev pub invariant-loop-digit : goal.invariant-loop-digit
invariant-loop-digit l = HasCounted l.text l.digit-index l.count
