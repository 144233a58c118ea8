use Rattle.std.proofs.Common.{◌∙◌, ap, refl, [], None}
use Rattle.tool_words.specs.Said.{if_once, said_from}
use Rattle.tool_words.proofs.Names.{explain_names, no_names, query_names, test_names}
use Rattle.tool_words.proofs.Once.{behind_once, once_behind, said_parts}
use Rattle.tool_words.proofs.Spelled.{said_by, spelled}
use Rattle.tool_words.proofs.laws.words_say_what_they_spell.Goals as goal

pub returns-clause-spelled : goal.returns-clause-spelled
returns-clause-spelled c = λ names words items e. spelled names words items (said_parts (said_from names None words) items e).0

pub returns-clause-once : goal.returns-clause-once
returns-clause-once c = λ names words items e. once_behind items [] (said_parts (said_from names None words) items e).1

pub returns-clause-said : goal.returns-clause-said
returns-clause-said c = λ names words items ok says once.
    ap if_once (said_by names ok words items says) ∙ rw (behind_once items [] once) refl

pub returns-clause-test : goal.returns-clause-test
returns-clause-test c = test_names

pub returns-clause-query : goal.returns-clause-query
returns-clause-query c = query_names

pub returns-clause-format : goal.returns-clause-format
returns-clause-format c = no_names

pub returns-clause-explain : goal.returns-clause-explain
returns-clause-explain c = explain_names
