use Rattle.std.proofs.Common.{◌≡◌, ◌∙◌, ◌+◌, ◌≤◌, ◌++◌, ◌∷◌, List, length, take, drop, sym, ap, subst}
use Rattle.step_table.specs.Groups.{Names}
use Rattle.op_labels.specs.Rules.{AreMade, HasPatterns, Kept, relabel_of}
use Rattle.op_labels.proofs.Keeping.{mixed_next, mixed_reaches}
use Rattle.op_labels.proofs.kept_labels.renewed.Goals as goal

pub renewed_at-requires : goal.renewed_at-requires
renewed_at-requires c =
    let was = c.loop-i.invariant in
    let rule = relabel_of c.args.change.now in
    let kept = c.loop-i.kept in
    record {
      patterns = subst (λ (z : Kept). HasPatterns z rule) (sym was.same) c.requires.patterns;
      made = subst (λ (z : Kept). AreMade z rule kept.fed.items kept.made.items kept.fates.items) (sym was.same) was.made;
      next = subst (λ (z : List Names). c.loop-i.i ≤ length z) (sym was.fed) (mixed_reaches c.args.labels.now c.args.before.fed.items c.loop-i.i c.loop-i-test.true);
    }

pub loop-i-preserved : goal.loop-i-preserved
loop-i-preserved c =
    let i = c.loop-i.i in
    let was = c.loop-i.invariant in
    let one = c.index-labels-i.result in
    let rule = relabel_of c.args.change.now in
    let now = c.in_ok-kept.kept in
    record {
      fed = mixed_next c.args.labels.now c.args.before.fed.items now.fed.items i one c.loop-i-test.true c.index-labels-i.is (c.in_ok-kept.ensures.fed ∙ ap (λ (z : List Names). take i z ++ one ∷ drop (i + 1) z) was.fed);
      made = subst (λ (z : Kept). AreMade z rule now.fed.items now.made.items now.fates.items) was.same c.in_ok-kept.ensures.made;
      same = c.renewed_at.ensures.same ∙ was.same;
    }
