use Rattle.promql_parts.proofs.LexemesGood.{lexeme_good}
use Rattle.promql_parts.proofs.laws.lexemes_are_refused_as_their_tokens.Goals as goal

pub returns : goal.returns
returns c = λ text front t back is. lexeme_good text t (c.kinds_are_of_spellings.ensures text front t back is)
