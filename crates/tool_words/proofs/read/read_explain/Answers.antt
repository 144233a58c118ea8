use Rattle.tool_words.specs.Asked.{explain_of}
use Rattle.tool_words.proofs.Asking.{answered}
use Rattle.tool_words.proofs.read.read_explain.Goals as goal

pub returns-in-Some : goal.returns-in-Some
returns-in-Some c = answered c.in-Some.matches _ c.judge_explain.result (explain_of c.args.boxes) (rw c.in-Some.is at c.in_ok-matches.ensures) c.judge_explain.ensures
