use Rattle.std.proofs.Common.{◌∙◌, ap, subst}
use Rattle.step_batch.specs.LentWindows.{AreWindows, WindowsAt}
use Rattle.op_subquery.specs.Kept.{samples_under}
use Rattle.op_subquery.proofs.Under.{ends_before, under_more}
use Rattle.op_subquery.proofs.hand.add_one.Goals as goal

pub add-requires : goal.add-requires
add-requires c =
    let are : AreWindows c.args.windows.now.rows = subst (λ (w : WindowsAt). AreWindows w.rows) c.lend.ensures c.len.ensures.lent in
    ends_before c.args.labels.now c.args.at c.args.windows.now.rows are.distinct c.requires

pub returns : goal.returns
returns c = λ q. ap (λ (w : WindowsAt). samples_under q w.rows) c.in_ok-add.ensures.ok ∙ under_more q c.args.labels.now c.args.at c.args.value c.args.windows.now.rows
