use Rattle.std.proofs.Common.{◌-ℤ◌, ◌≡◌, arith}
use Rattle.std.proofs.lemmas.Int.{ints, to_z-of_z}
use Rattle.std.specs.Int.{int_rem_euclid}
use Rattle.ticks.proofs.Steps.{need_after}
use Rattle.ticks.proofs.step.need_after.Goals as goal

pub returns : goal.returns
returns c =
    let e : c.rem_euclid.result ≡ int_rem_euclid (c.args.low -ℤ c.args.base) c.args.step = grind (arith, to_z-of_z) in
    need_after c.args.base c.args.low c.args.step c.rem_euclid.result _ c.requires.step e (omega (arith, ints)) (omega (arith, ints)) (omega (arith, ints))
