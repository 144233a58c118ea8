use Rattle.program_tests.proofs.runs.script_of.Goals as goal

pub returns-clause-kept : goal.returns-clause-kept
returns-clause-kept c = c.scripts_keep_their_patterns.ensures c.read-script.result c.read-script.new.searches c.deref.result.now c.read-script.ensures.said
