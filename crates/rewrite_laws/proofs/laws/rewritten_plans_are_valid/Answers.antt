use Rattle.rewrite_laws.proofs.Measures.{handed_valid, merged_valid, ordered_valid, split_valid, trimmed_valid}
use Rattle.rewrite_laws.proofs.laws.rewritten_plans_are_valid.Goals as goal

pub returns : goal.returns
returns c = record { ordered = ordered_valid; handed = handed_valid; merged = merged_valid; trimmed = trimmed_valid; split = split_valid }
