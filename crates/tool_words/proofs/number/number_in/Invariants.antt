use Rattle.tool_words.proofs.Counts.{HasCounted}
use Rattle.tool_words.proofs.number.number_in.Given as goal

abbrev pub invariant-loop-digit : goal.invariant-loop-digit
invariant-loop-digit l = HasCounted l.most l.text l.digit-index l.number
