use Rattle.std.proofs.Common.{◌∙◌, ◌-◌, arith, sym, ap}
use Rattle.op_rank.specs.Contenders.{before}
use Rattle.op_rank.proofs.BestKept.{not_true, same_there}
use Rattle.op_rank.proofs.best.is_behind.Goals as goal

pub returns-clause-behind : goal.returns-clause-behind
returns-clause-behind c = λ last t e.
    let kept = c.args.kept.now in
    let w = c.args.wanted in
    let here = same_there kept (w.count - 1) last c.index-kept-place.result (omega (arith, c.requires, c.if-kept-wanted.false)) e c.index-kept-place.is in
    ap (before w.down c.args.one.now) (sym here) ∙ sym c.comes_before.ensures ∙ not_true c.comes_before.result t
