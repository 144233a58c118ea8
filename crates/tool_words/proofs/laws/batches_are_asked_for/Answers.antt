use Rattle.tool_words.proofs.Asking.{batches_asked}
use Rattle.tool_words.proofs.laws.batches_are_asked_for.Goals as goal

pub returns : goal.returns
returns c = batches_asked
