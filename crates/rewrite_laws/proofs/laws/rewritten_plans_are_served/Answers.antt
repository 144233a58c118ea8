use Rattle.rewrite_laws.proofs.Serving.{handed_served, merged_served, ordered_served, pushed_served, split_served, trimmed_served}
use Rattle.rewrite_laws.proofs.laws.rewritten_plans_are_served.Goals as goal

pub returns : goal.returns
returns c = record { ordered = ordered_served; handed = handed_served; merged = merged_served; trimmed = trimmed_served; split = split_served; pushed = pushed_served }
