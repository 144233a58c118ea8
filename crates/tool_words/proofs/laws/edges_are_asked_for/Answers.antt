use Rattle.tool_words.proofs.Asking.{edges_asked}
use Rattle.tool_words.proofs.laws.edges_are_asked_for.Goals as goal

pub returns : goal.returns
returns c = edges_asked
