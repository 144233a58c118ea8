use Rattle.std.proofs.Common.{◌≡◌, ◌∙◌, sym, length, true, false, arith}
use Rattle.std.specs.Prelude.{◌==◌}
use Rattle.remote_api.specs.Strays.{do_rise}
use Rattle.remote_api.proofs.Tested.{window_is}
use Rattle.remote_api.proofs.checking.is_window.Goals as goal

pub returns : goal.returns
returns c =
    let same : (length c.args.times.now == length c.args.values.now) ≡ true = grind (arith, c.if-times-values.false) in
    let some : (length c.args.times.now == 0) ≡ false = sym c.is_empty.ensures ∙ c.if-is_empty.false in
    let rising : do_rise c.args.times.now ≡ true = sym c.do_rise.ensures ∙ c.if-not-do_rise.false in
    window_is c.args.moment.now c.args.range c.args.at c.args.times.now c.args.values.now c.lie_in_window.result same some rising c.lie_in_window.ensures
