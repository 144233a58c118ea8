use Rattle.std.proofs.Common.{◌≡◌, ◌∙◌, ap, map, subst}
use Rattle.std.specs.Prelude.{IfOk}
use Rattle.opt_matchers.specs.declared.keys.Keyed.{Keyed}
use Rattle.opt_matchers.proofs.Ordered.{rules_in_order}
use Rattle.opt_matchers.proofs.keys.ordered.Goals as goal

pub returns : goal.returns
returns c =
    let same = ap (map (λ (k : Keyed). k.rule)) c.in_ok-sorted.ensures ∙ rules_in_order c.args.patterns.now c.in_ok-keyed.keyed.items c.args.rules c.in_ok-keyed.ensures.rules c.in_ok-keyed.ensures.keyed in
    subst (λ x. IfOk c.rules_of.result (λ s. s ≡ x)) same c.rules_of.ensures
