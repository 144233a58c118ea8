use Rattle.rewrite_laws.proofs.Onces.{handed_onces, merged_onces, ordered_onces, pushed_onces, split_onces, trimmed_onces}
use Rattle.rewrite_laws.proofs.laws.rewritten_onces_are_steady.Goals as goal

pub returns : goal.returns
returns c = record { ordered = ordered_onces; handed = handed_onces; merged = merged_onces; trimmed = trimmed_onces; split = split_onces; pushed = pushed_onces }
