use Rattle.std.proofs.Common.{rules, ◌≡◌, ◌≤◌, Some, length, refl, slice_get}
use Rattle.std.proofs.lemmas.Option.{slice_get_read}
use Rattle.sample_store.specs.Samples.{looked_at}
use Rattle.sample_store.proofs.Rarest.{now_fewer, pair_found, rule_listed, turned}
use Rattle.sample_store.proofs.shortest.shortest.Goals as goal

pub loop-place-preserved : goal.loop-place-preserved
loop-place-preserved c =
    let all = c.args.series.now.entries in
    let lists = c.args.lists.now.entries in
    let i = c.loop-place.place in
    let most = c.loop-place.most in
    let rule = c.index-rules-place.result in
    let numbers = c.in-Some.numbers in
    let there : slice_get c.args.rules.now i ≡ Some rule = slice_get_read c.args.rules.now _ i rule refl c.loop-place-test.true c.index-rules-place.is in
    let is : c.in_ok-numbers.field-0 ≡ Some numbers = search rules in
    let found = pair_found lists rule c.in_ok-numbers.field-0 numbers is c.in_ok-numbers.ensures in
    let fewer : length numbers.now ≤ most = search rules in
    record {
      left = turned all c.args.rules.now i most (length numbers.now) (looked_at c.args.rules.now all) rule there (now_fewer all lists rule found.0 numbers.now most c.requires found.1 found.2 fewer) c.loop-place.invariant.left;
      best = (rule_listed all lists c.args.rules.now i rule found.0 numbers.now c.requires there found.1 found.2, refl);
    }
