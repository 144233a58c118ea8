use Rattle.std.proofs.Common.{false, refl, subst}
use Rattle.promql_lex.proofs.Spelled.{AreSpelled, spelled, spelled_at}
use Rattle.promql_lex.proofs.laws.kinds_are_of_spellings.Goals as goal

pub returns : goal.returns
returns c = λ text front t back is. spelled_at text front t back (subst (AreSpelled text) is (spelled text 0 false 0 text refl))
