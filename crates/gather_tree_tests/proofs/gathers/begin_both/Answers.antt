use Rattle.std.proofs.Common.{◌≡◌, ◌∙◌, ◌≤◌, length, arith, rules}
use Rattle.gather_tree_tests.proofs.Beginning.{all_begun, begun_more, set_long}
use Rattle.gather_tree_tests.proofs.gathers.begin_both.Goals as goal

pub loop-i-preserved : goal.loop-i-preserved
loop-i-preserved g c = record {
  begun = begun_more (λ b. (goal.Engine-dyn g (b.vtable, b.value)).seen b.value) c.loop-i.engines c.loop-i.i c.begin.new.engine c.begin.ensures.asks c.begin.ensures.going c.loop-i.invariant.begun;
  len = set_long c.loop-i.engines c.loop-i.i c.begin.new.engine ∙ c.loop-i.invariant.len;
}

pub returns : goal.returns
returns g c =
    let whole : length c.loop-i.engines ≤ c.loop-i.i = omega (arith, c.loop-i-test.false, c.loop-i.invariant.len) in
    let two : length c.args.engines.now ≡ 2 = search rules in
    all_begun (λ b. (goal.Engine-dyn g (b.vtable, b.value)).seen b.value) c.loop-i.engines c.loop-i.i whole (c.loop-i.invariant.len ∙ two) c.loop-i.invariant.begun
