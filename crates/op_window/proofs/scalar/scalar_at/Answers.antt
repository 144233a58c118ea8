use Rattle.std.proofs.Common.{◌≡◌, ◌∙◌, Some, true, sym, ap, arith}
use Rattle.std.specs.Prelude.{Option}
use Rattle.op_window.specs.Rules.{takes_scalar}
use Rattle.op_window.proofs.Scalars.{scalar_is, scalars_length}
use Rattle.op_window.proofs.scalar.scalar_at.Goals as goal
use Rattle.xfrac.specs.declared.value.XFrac.{XFrac}

pub marks-requires : goal.marks-requires
marks-requires c =
    let t : takes_scalar c.args.f ≡ true = sym c.takes_scalar.ensures ∙ c.if-takes_scalar.true in
    let e = scalars_length c.args.at.now c.args.arg.now.steps (c.requires.scalars t) in
    let h = c.requires.there in
    omega arith

pub slots-requires : goal.slots-requires
slots-requires c =
    let t : takes_scalar c.args.f ≡ true = sym c.takes_scalar.ensures ∙ c.if-takes_scalar.true in
    let e = scalars_length c.args.at.now c.args.arg.now.steps (c.requires.scalars t) in
    let h = c.requires.there in
    omega arith

pub returns-in_ok-marks : goal.returns-in_ok-marks
returns-in_ok-marks c = λ s e.
    let t : takes_scalar c.args.f ≡ true = sym c.takes_scalar.ensures ∙ c.if-takes_scalar.true in
    let scalars = c.requires.scalars t in
    let marks = c.in_ok-marks.marks in
    ap (λ (v : Option XFrac). record { value = v; marks = marks }) c.value_of.ensures
    ∙ scalar_is c.args.f c.args.at.now c.args.arg.now c.args.i marks c.slots.result.now s t scalars (c.marks.ensures ∙ ap Some (sym c.in_ok-marks.ensures)) c.slots.ensures.slots c.slots.ensures.rising e
