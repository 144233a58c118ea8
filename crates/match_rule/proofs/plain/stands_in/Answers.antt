use Rattle.match_rule.proofs.Words.{contained}
use Rattle.match_rule.proofs.plain.stands_in.Goals as goal

pub returns : goal.returns
returns c = contained c.contains.result c.args.word.now c.args.text.now c.contains.ensures.cases
