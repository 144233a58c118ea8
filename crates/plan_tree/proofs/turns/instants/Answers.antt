use Rattle.std.proofs.Common.{◌≡◌, ◌∙◌, ◌++◌, ◌∷◌, List, [], length, Option, Some, sym, ap, subst, arith}
use Rattle.ticks.specs.declared.moment.Ms.{Ms}
use Rattle.plan_tree.specs.declared.turns.Fed.{Fed}
use Rattle.plan_tree.specs.Chains.{Chain, IsComing}
use Rattle.plan_tree.specs.Feeds.{fed_next, fed_on}
use Rattle.plan_tree.proofs.Chained.{chain_more, end_more, few_more}
use Rattle.plan_tree.proofs.turns.instants.Goals as goal

pub loop-end-preserved : goal.loop-end-preserved
loop-end-preserved c =
    let walk = c.args.walk.now in
    let fed = c.args.fed in
    let was = c.loop-end.at in
    let t = c.in-Some.t in
    let inv = c.loop-end.invariant in
    let pushed : c.push.new.self ≡ was ++ t ∷ [] = c.in_ok-push-in-Some.ensures.ok in
    let next : IsComing walk c.loop-end.end (Some t) = subst (λ (o : Option Ms). IsComing walk c.loop-end.end o) c.in-Some.is c.next_of.ensures in
    record {
      chain = subst (λ (at : List Ms). Chain walk fed at) (sym pushed) (chain_more walk fed was t inv.chain (subst (λ (o : Option Fed). IsComing walk o (Some t)) inv.end next));
      end = c.fed_with-end.ensures ∙ ap (λ (o : Option Fed). fed_next o t) inv.end ∙ sym (ap (fed_on fed) pushed ∙ end_more fed was t);
      few = let h = c.loop-end-test.true in let k = ap (λ (at : List Ms). length at) c.as_slice.ensures in few_more c.args.most was c.push.new.self t pushed (omega arith);
    }
