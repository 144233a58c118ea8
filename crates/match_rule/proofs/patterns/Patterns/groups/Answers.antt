use Rattle.std.proofs.Common.{◌≡◌, [], IfSome, rules, subst}
use Rattle.match_rule.specs.Patterns.{AreCutFrom}
use Rattle.match_rule.proofs.Cuts.{none_cut, on_ok_cut}
use Rattle.match_rule.proofs.patterns.Patterns.groups.Goals.{in-Some, in-None}
use Rattle.match_rule.proofs.patterns.Patterns.groups.Goals as goal

pub returns-clause-cut : goal.returns-clause-cut
returns-clause-cut c = elim c.match-branch-2.branch [
  | in-Some w ↦
      let into : c.match-branch-2.into ≡ w.in-Some.spans.items = search rules in
      on_ok_cut _ c.args.value.now _ w.in-Some.spans.items into (subst (λ o. IfSome o (λ v. AreCutFrom c.args.value.now v.items)) w.in-Some.is c.in_ok-spans.ensures.cut)
  | in-None w ↦
      let into : c.match-branch-2.into ≡ [] = search rules in
      on_ok_cut _ c.args.value.now _ [] into (none_cut c.args.value.now)
]
