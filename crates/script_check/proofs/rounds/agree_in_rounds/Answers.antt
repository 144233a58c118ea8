use Rattle.std.proofs.Common.{◌∙◌, length, sym}
use Rattle.std.proofs.lemmas.Bool.{eqb-true}
use Rattle.script_check.proofs.Matches.{all_matched, none_matched}
use Rattle.script_check.proofs.rounds.agree_in_rounds.Goals as goal

pub loop-done-init : goal.loop-done-init
loop-done-init c = none_matched c.args.wanted.now c.args.got.now

pub returns : goal.returns
returns c = λ h.
    let whole = eqb-true c.loop-done.done (length c.args.wanted.now) h in
    all_matched c.args.wanted.now c.args.got.now _ c.loop-done.done c.loop-done.invariant (sym whole) (sym c.if-wanted-got.false ∙ sym whole)
