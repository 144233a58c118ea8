use Rattle.std.proofs.Common.{◌≡◌, ◌∙◌, ◌+◌, ◌<◌, ◌≤◌, List, ℕ, Bool, arith, get_or, length, refl, subst, sym}
use Rattle.plan_bases.specs.Bases.{AreRight, Holds, HoldsLeaf, Kept}
use Rattle.plan_bases.specs.Looks.{LooksAt, leaf_tests, leaves_look_behind}
use Rattle.plan_bases.specs.declared.leaves.Leaf.{Leaf}
use Rattle.sample_store.specs.Samples.{looked_at}
use Rattle.plan_bases.proofs.Counting.{all_held, all_turn}
use Rattle.plan_bases.proofs.lists.SeriesLists.add_all.Goals as goal

pub add-requires : goal.add-requires
add-requires g c = subst (λ (kept : Kept). AreRight kept c.args.store.now c.loop-leaf.self) (sym c.loop-leaf.invariant.same) c.loop-leaf.invariant.right

pub loop-leaf-preserved : goal.loop-leaf-preserved
loop-leaf-preserved g c =
    let kept = c.args.patterns.now in
    let store = c.args.store.now in
    let leaves = c.args.leaves.now in
    let i = c.loop-leaf.leaf-index in
    let leaf = c.leaf-item.result in
    let same = c.loop-leaf.invariant.same in
    let now = c.loop-leaf.work in
    let after = c.add.new.work in
    let known : Holds kept c.loop-leaf.self leaf.base → LooksAt now after (leaf_tests kept store leaf) =
    subst (λ (k : Kept). Holds k c.loop-leaf.self leaf.base → LooksAt now after (leaf_tests k store leaf)) same c.add.ensures.known in
    let looks : LooksAt now after (looked_at leaf.base store + leaf_tests kept store leaf) =
    subst (λ (k : Kept). LooksAt now after (looked_at leaf.base store + leaf_tests k store leaf)) same c.add.ensures.tested in
    record {
      right = subst (λ (k : Kept). AreRight k store c.add.new.self) same c.in_ok-add.ensures.right;
      same = c.add.ensures.same ∙ same;
      holds = all_held kept store leaves i leaf c.loop-leaf-test.true c.leaf-item.is c.loop-leaf.self c.add.new.self c.in_ok-add.ensures.stays c.loop-leaf.invariant.holds
          (subst (λ (k : Kept). HoldsLeaf k c.add.new.self leaf) same c.in_ok-add.ensures.holds);
      tested = all_turn kept store leaves i leaf c.loop-leaf-test.true c.leaf-item.is c.loop-leaf.self c.args.work.now now after _ c.loop-leaf.invariant.holds known looks c.loop-leaf.invariant.tested;
      fetched = c.add.ensures.tested.fetched ∙ c.loop-leaf.invariant.fetched;
      probed = c.add.ensures.tested.probed ∙ c.loop-leaf.invariant.probed;
    }

pub returns-in_err-add-clause-tested : goal.returns-in_err-add-clause-tested
returns-in_err-add-clause-tested g c =
    let kept = c.args.patterns.now in
    let store = c.args.store.now in
    let leaves = c.args.leaves.now in
    let i = c.loop-leaf.leaf-index in
    let leaf = c.leaf-item.result in
    let same = c.loop-leaf.invariant.same in
    let now = c.loop-leaf.work in
    let after = c.add.new.work in
    let known : Holds kept c.loop-leaf.self leaf.base → LooksAt now after (leaf_tests kept store leaf) =
    subst (λ (k : Kept). Holds k c.loop-leaf.self leaf.base → LooksAt now after (leaf_tests k store leaf)) same c.add.ensures.known in
    let looks : LooksAt now after (looked_at leaf.base store + leaf_tests kept store leaf) =
    subst (λ (k : Kept). LooksAt now after (looked_at leaf.base store + leaf_tests k store leaf)) same c.add.ensures.tested in
    let t = all_turn kept store leaves i leaf c.loop-leaf-test.true c.leaf-item.is c.loop-leaf.self c.args.work.now now after _ c.loop-leaf.invariant.holds known looks c.loop-leaf.invariant.tested in
    record {
      tested = omega (arith, t);
      fetched = c.add.ensures.tested.fetched ∙ c.loop-leaf.invariant.fetched;
      probed = c.add.ensures.tested.probed ∙ c.loop-leaf.invariant.probed;
    }
