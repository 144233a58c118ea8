use Rattle.std.proofs.Common.{not, refl}
use Rattle.script_check.specs.Verdicts.{meets}
use Rattle.script_check.proofs.Searches.{none_searched}
use Rattle.script_check.proofs.tested.meets_any.Goals as goal

pub loop-line-init : goal.loop-line-init
loop-line-init c = record {
  same = refl;
  kept = c.requires;
  so_far = refl;
  failed = none_searched (λ line. not (meets c.args.searches.now c.args.text.now line));
}
