use Rattle.std.proofs.Common.{subst, false}
use Rattle.promql_lex.proofs.Last.{AreEnded, ended, last_of}
use Rattle.promql_lex.proofs.laws.refused_spellings_are_last.Goals as goal

pub returns : goal.returns
returns c = λ text front t back is bad. last_of front t back (subst AreEnded is (ended 0 false 0 text)) bad
