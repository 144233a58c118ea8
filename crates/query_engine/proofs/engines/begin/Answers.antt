use Rattle.std.proofs.Common.{◌∙◌, ◌≤◌, length, refl, arith}
use Rattle.query_engine.proofs.Boxes.{all_begun, map_size, none_begun, one_more}
use Rattle.query_engine.proofs.engines.begin.Goals as goal

pub loop-i-init : goal.loop-i-init
loop-i-init g c = record { begun = none_begun _; len = refl }

pub loop-i-preserved : goal.loop-i-preserved
loop-i-preserved g c = record { begun = one_more c.loop-i.i _ _ _ c.loop-i.invariant.begun c.begin_at.ensures.begun; len = c.begin_at.ensures.len ∙ c.loop-i.invariant.len }

pub returns-clause-begun : goal.returns-clause-begun
returns-clause-begun g c =
    let done : length c.args.engines.now ≤ c.loop-i.i = omega (arith, c.loop-i-test.false, c.loop-i.invariant.len) in
    let size = map_size (λ b. (goal.Engine-dyn g (b.vtable, b.value)).seen b.value) c.args.engines.now in
    all_begun c.loop-i.i _ _ (omega (arith, done, size)) c.loop-i.invariant.begun
