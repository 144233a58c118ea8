use Rattle.std.proofs.Common.{◌≡◌, ◌∙◌, ◌+◌, ◌<◌, [], ◌∷◌, length, arith}
use Rattle.ticks.specs.declared.walk.Walk.{Fixed}
use Rattle.gather_tree_tests.proofs.Grown.{fixed_listed, fixed_nearby, leaf_asked, leaf_fits, leaf_goes, leaf_stays, one_apart}
use Rattle.gather_tree_tests.proofs.Requests.{none_fitting}
use Rattle.gather_tree_tests.proofs.trees.once.Goals as goal

pub gather-requires : goal.gather-requires
gather-requires c = record { nearby = fixed_nearby; fitting = none_fitting _ _ c.requires }

pub returns : goal.returns
returns c =
    let asked = c.in_ok-child.ensures in
    let x = c.gather.new.exchange in
    let more : length x.requests ≡ length c.args.exchange.requests + 1 = asked.more in
    let low : length c.args.exchange.requests < length x.requests = omega (arith, more) in
    let child = c.in_ok-new.ensures.ok ∙ asked.leaf in
    record {
      walk = Fixed _;
      nearby = fixed_nearby;
      fitting = asked.fitting;
      requests = λ times listed. leaf_asked (Fixed _) x (_ ∷ []) _ _ child low asked.fitting (fixed_listed _);
      can = λ store kept gathers places. (leaf_goes _ _ _ _ _ _ child, tt);
      fit = λ store. leaf_fits store _ _ child;
      stays = λ t on. leaf_stays _ _ _ child;
      apart = one_apart _ _ child;
    }
