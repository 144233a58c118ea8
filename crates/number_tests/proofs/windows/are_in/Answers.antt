use Rattle.std.proofs.Common.{rules, subst}
use Rattle.std.specs.List.{All}
use Rattle.std.specs.Prelude.{pos}
use Rattle.std.proofs.lemmas.List.{take_all}
use Rattle.std.proofs.lemmas.List.Elements.{All-more}
use Rattle.window_fn.specs.Windows.{IsInFrame}
use Rattle.number_tests.proofs.windows.are_in.Goals as goal

pub loop-t-preserved : goal.loop-t-preserved
loop-t-preserved c =
    All-more (IsInFrame c.args.frame.now) c.args.times.now c.loop-t.t-index (record { 0 = pos 0 }) c.loop-t-test.true c.loop-t.invariant (search (rules, c.is_in.ensures))

pub returns : goal.returns
returns c = λ h. subst (All (IsInFrame c.args.frame.now)) (take_all c.loop-t.t-index c.args.times.now c.loop-t-test.false) c.loop-t.invariant
