use Rattle.std.proofs.Common.{◌≡◌, take}
use Rattle.std.specs.List.{flat_map, fold}
use Rattle.plan_bases.specs.RuleEquality.{rule_hash}
use Rattle.plan_bases.proofs.rule_list.feed.Given as goal

abbrev pub invariant-loop-rule : goal.invariant-loop-rule
invariant-loop-rule g l = l.state ≡ fold g.H.Hasher.write l.initial.state (flat_map rule_hash (take l.rule-index l.rules))
