use Rattle.std.proofs.Common.{◌≡◌, ◌∙◌, ◌+◌, ◌<◌, length, false, sym, ap, arith}
use Rattle.std.specs.Prelude.{IsTrue}
use Rattle.step_kernels.specs.Binaries.{takes_scalar}
use Rattle.step_kernels.specs.declared.binary.BinaryRule.{BinaryRule}
use Rattle.ticks.specs.declared.walk.Walk.{Grid}
use Rattle.gather_tree_tests.proofs.Grown.{grid_nearby, leaf_asked, leaf_fits, leaf_goes, leaf_stays, two_apart}
use Rattle.gather_tree_tests.proofs.Requests.{none_fitting}
use Rattle.gather_tree_tests.proofs.trees.pair.Goals as goal

takes_none : (r s : BinaryRule) → s ≡ r → takes_scalar r ≡ false → IsTrue (takes_scalar s) → ⊥
takes_none r s same none some = let e = ap takes_scalar same in absurd (cc)

pub gather-requires : goal.gather-requires
gather-requires c = record { nearby = grid_nearby c.walks_keep_to_times.ensures.grids c.args.grid.now; fitting = none_fitting _ _ c.requires }

pub gather-requires-2-clause-nearby : goal.gather-requires-2-clause-nearby
gather-requires-2-clause-nearby c = grid_nearby c.walks_keep_to_times.ensures.grids c.args.grid.now

pub returns : goal.returns
returns c =
    let g = c.args.grid.now in
    let old = c.args.exchange in
    let one = c.gather.new.exchange in
    let two = c.gather-2.new.exchange in
    let first = c.in_ok-rows.ensures in
    let second = c.in_ok-beside.ensures in
    let rows = c.in_ok-new.ensures.ok ∙ first.leaf in
    let beside = c.in_ok-new-2.ensures.ok ∙ second.leaf in
    let many : length one.requests ≡ length old.requests + 1 = first.more in
    let more : length two.requests ≡ length one.requests + 1 = second.more in
    let low : length old.requests < length two.requests = omega (arith, many, more) in
    let high : length one.requests < length two.requests = omega (arith, more) in
    let rising : length old.requests < length one.requests = omega (arith, many) in
    record {
      walk = Grid g;
      nearby = grid_nearby c.walks_keep_to_times.ensures.grids g;
      fitting = second.fitting;
      requests = λ times listed. (leaf_asked (Grid g) two times _ _ rows low second.fitting listed, leaf_asked (Grid g) two times _ _ beside high second.fitting listed);
      can = λ store kept gathers places. (leaf_goes _ _ _ _ _ _ rows, leaf_goes _ _ _ _ _ _ beside);
      fit = λ store. (λ h. absurd (takes_none _ _ c.in_ok-kernel.ensures c.in_ok-rule.ensures.vector h), leaf_fits store _ _ rows, leaf_fits store _ _ beside);
      stays = λ t on. (leaf_stays t _ _ rows, leaf_stays t _ _ beside);
      apart = two_apart _ _ _ _ rows beside rising;
    }
