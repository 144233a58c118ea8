use Rattle.std.proofs.Common.{◌≡◌, pos, ◌*ℤ◌, arith, rules, ap, to_z, of_z, w64, FitsSigned}
use Rattle.std.proofs.lemmas.Int.{ints, to_z-of_z}
use Rattle.ticks.specs.Grids.{IsInRange}
use Rattle.script_read.proofs.Instants.{as_time, span_is, steps_within}
use Rattle.script_read.proofs.rows.instant_at.Goals as goal

pub overflow_mul-result : goal.overflow_mul-result
overflow_mul-result c =
    let g = c.args.grid.now in
    let range : IsInRange g.start.0 g.end.0 g.step.0 = search rules in
    let w = steps_within g.start.0 g.end.0 g.step.0 c.args.place range.forward c.requires in
    let z = span_is g.start.0 g.end.0 range.ordered in
    let by : FitsSigned w64 g.step.0 = search rules in
    let times : FitsSigned w64 c.from.result = search rules in
    let product : to_z w64 (of_z w64 c.from.result) *ℤ to_z w64 (of_z w64 g.step.0) ≡ pos w.0 = simp to_z-of_z (rw c.from.ensures w.1) in
    omega (arith, ints, product, w.2, z, range.first, range.last)

pub overflow_add-result : goal.overflow_add-result
overflow_add-result c =
    let g = c.args.grid.now in
    let range : IsInRange g.start.0 g.end.0 g.step.0 = search rules in
    let w = steps_within g.start.0 g.end.0 g.step.0 c.args.place range.forward c.requires in
    let z = span_is g.start.0 g.end.0 range.ordered in
    let by : FitsSigned w64 g.step.0 = search rules in
    let times : FitsSigned w64 c.from.result = search rules in
    let product : to_z w64 (of_z w64 c.from.result) *ℤ to_z w64 (of_z w64 g.step.0) ≡ pos w.0 = simp to_z-of_z (rw c.from.ensures w.1) in
    omega (arith, ints, product, w.2, z, range.first, range.last)

pub returns : goal.returns
returns c =
    let g = c.args.grid.now in
    let range : IsInRange g.start.0 g.end.0 g.step.0 = search rules in
    let w = steps_within g.start.0 g.end.0 g.step.0 c.args.place range.forward c.requires in
    let z = span_is g.start.0 g.end.0 range.ordered in
    let by : FitsSigned w64 g.step.0 = search rules in
    let times : FitsSigned w64 c.from.result = search rules in
    let product : to_z w64 (of_z w64 c.from.result) *ℤ to_z w64 (of_z w64 g.step.0) ≡ pos w.0 = simp to_z-of_z (rw c.from.ensures w.1) in
    ap as_time (omega (arith, ints, product, w.1, w.2, z, range.first, range.last))
