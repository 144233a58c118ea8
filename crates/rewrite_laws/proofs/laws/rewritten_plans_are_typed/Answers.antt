use Rattle.rewrite_laws.proofs.Types.{handed_typed, merged_typed, ordered_typed, split_typed, trimmed_typed}
use Rattle.rewrite_laws.proofs.laws.rewritten_plans_are_typed.Goals as goal

pub returns : goal.returns
returns c = record { ordered = ordered_typed; handed = handed_typed; merged = merged_typed; trimmed = trimmed_typed; split = split_typed }
