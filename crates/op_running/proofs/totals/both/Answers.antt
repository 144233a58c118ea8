use Rattle.std.proofs.Common.{subst}
use Rattle.std.specs.Prelude.{Option}
use Rattle.xfrac.specs.Sums.{Totals}
use Rattle.window_fn.specs.Totals.{IsSumOf}
use Rattle.op_running.proofs.Sums.{none_behind, none_in_front}
use Rattle.op_running.proofs.totals.both.Goals as goal

pub returns-in-None : goal.returns-in-None
returns-in-None c = λ xs ys p q. none_in_front c.part_overflows_whole.ensures.overflow xs ys c.args.behind.now (subst (λ (s : Option Totals). IsSumOf s xs) c.in-None.is p) q

pub returns-in-None-behind : goal.returns-in-None-behind
returns-in-None-behind c = λ xs ys p q. none_behind c.part_overflows_whole.ensures.overflow c.sum_ignores_order.ensures xs ys c.args.sum.now p (subst (λ (s : Option Totals). IsSumOf s ys) c.in-None-behind.is q)
