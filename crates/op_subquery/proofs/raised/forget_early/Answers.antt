use Rattle.std.proofs.Common.{rules}
use Rattle.std.specs.Prelude.{int_lt}
use Rattle.std.proofs.lemmas.Map.Made.{filter_same_pairs}
use Rattle.op_subquery.proofs.raised.forget_early.Goals as goal

pub returns : goal.returns
returns g c = filter_same_pairs _ (λ p. int_lt c.args.edge.0 p.1.0) _ (λ k v b w f' t. search rules) _ _ c.retain.ensures.filtered
