use Rattle.promql_type.proofs.Edges.{judged_alike, refused_alike, stay_typed}
use Rattle.promql_type.proofs.laws.edges_are_typed_alike.Goals as goal

pub returns : goal.returns
returns c = record { judged = judged_alike; refused = refused_alike; typed = stay_typed }
