use Rattle.tool_words.proofs.Built.{simple_app}
use Rattle.tool_words.proofs.laws.commands_are_simple.Goals as goal

pub returns : goal.returns
returns c = simple_app
