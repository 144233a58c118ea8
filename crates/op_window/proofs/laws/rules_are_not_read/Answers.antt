use Rattle.std.proofs.Common.{refl}
use Rattle.func_table.specs.declared.table.Window.TheVariants as window
use Rattle.op_window.specs.Rules.{RulesAreNotRead}
use Rattle.op_window.proofs.laws.rules_are_not_read.Goals as goal

unread : RulesAreNotRead
unread window.Rate t scalar windows = refl
unread window.Increase t scalar windows = refl
unread window.Delta t scalar windows = refl
unread window.Irate t scalar windows = refl
unread window.Idelta t scalar windows = refl
unread window.Deriv t scalar windows = refl
unread window.PredictLinear t scalar windows = refl
unread window.Changes t scalar windows = refl
unread window.Resets t scalar windows = refl
unread window.AvgOver t scalar windows = refl
unread window.MinOver t scalar windows = refl
unread window.MaxOver t scalar windows = refl
unread window.SumOver t scalar windows = refl
unread window.CountOver t scalar windows = refl
unread window.StdvarOver t scalar windows = refl
unread window.QuantileOver t scalar windows = refl
unread window.LastOver t scalar windows = refl
unread window.PresentOver t scalar windows = refl

pub returns : goal.returns
returns c = unread
