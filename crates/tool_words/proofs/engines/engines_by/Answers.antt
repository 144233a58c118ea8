use Rattle.tool_words.proofs.Declaring.{all_declarable, all_few}
use Rattle.tool_words.proofs.engines.engines_by.Goals as goal

pub returns-clause-declarable : goal.returns-clause-declarable
returns-clause-declarable c = all_declarable c.args.boxes c.args.list.now c.engines_named.result c.engines_named.ensures

pub returns-clause-few : goal.returns-clause-few
returns-clause-few c = all_few c.args.boxes c.args.list.now c.engines_named.result c.engines_named.ensures
