use Rattle.std.proofs.Common.{◌∙◌, ◌<◌, get_or, length, arith, rules}
use Rattle.std.specs.Prelude.{◌<ℤ◌, ◌≤ℤ◌, pos}
use Rattle.step_batch.proofs.Slides.{ends, goes_on, stops_at}
use Rattle.step_batch.proofs.slices.first_behind.Goals as goal

pub returns-then-times-i-clause-left : goal.returns-then-times-i-clause-left
returns-then-times-i-clause-left c =
    let late : c.args.edge.0 <ℤ (get_or c.args.times.now c.loop-i.i (record { 0 = pos 0 })).0 = search rules in
    λ values. stops_at c.loop-i.i c.args.times.now values c.args.edge.0 (record { 0 = pos 0 }) c.loop-i-test.true late ∙ c.loop-i.invariant.left values

pub loop-i-preserved : goal.loop-i-preserved
loop-i-preserved c =
    let soon : (get_or c.args.times.now c.loop-i.i (record { 0 = pos 0 })).0 ≤ℤ c.args.edge.0 = search rules in
    record {
      within = let h : c.loop-i.i < length c.args.times.now = c.loop-i-test.true in omega arith;
      left = λ values. goes_on c.loop-i.i c.args.times.now values c.args.edge.0 (record { 0 = pos 0 }) c.loop-i-test.true soon ∙ c.loop-i.invariant.left values;
    }

pub returns-clause-left : goal.returns-clause-left
returns-clause-left c = λ values. ends c.loop-i.i c.args.times.now values c.args.edge.0 c.loop-i-test.false ∙ c.loop-i.invariant.left values
