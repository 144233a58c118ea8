use Rattle.expressed_laws.proofs.Unrefused.{expressions_are_unrefused as unrefused, vectors_are_parts}
use Rattle.expressed_laws.proofs.laws.expressions_are_unrefused.Goals as goal

pub returns : goal.returns
returns c = record { unrefused = unrefused; vectors = vectors_are_parts }
