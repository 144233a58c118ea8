use Rattle.std.proofs.Common.{◌≡◌, ◌∙◌, ◌+◌, ◌++◌, ◌∷◌, take, drop, ap}
use Rattle.step_table.specs.Groups.{Names}
use Rattle.op_labels.specs.Rules.{made_of, relabel_of}
use Rattle.op_labels.specs.declared.change.Fate.{Fate}
use Rattle.op_labels.proofs.Keeping.{made_counts, made_set, split_here}
use Rattle.op_labels.proofs.kept_labels.renewed_at.Goals as goal

pub returns-then-has-clause-fed : goal.returns-then-has-clause-fed
returns-then-has-clause-fed c = split_here c.args.kept.fed.items c.args.i c.args.labels.now (c.has.ensures c.if-has.true)

pub kept_at-requires : goal.kept_at-requires
kept_at-requires c =
    let kept = c.args.kept in
    let counts = made_counts c.args.patterns.now (relabel_of c.args.change.now) kept.fed.items kept.made.items kept.fates.items c.requires.made in
    record {
      made = counts.0;
      fates = counts.1;
      next = c.requires.next;
    }

pub returns-clause-made : goal.returns-clause-made
returns-clause-made c =
    let i = c.args.i in
    let kept = c.args.kept in
    let next = c.in_ok-next.next in
    let rule = relabel_of c.args.change.now in
    let patterns = c.args.patterns.now in
    let one = c.args.labels.now in
    let fed : next.fed.items ≡ take i kept.fed.items ++ one ∷ drop (i + 1) kept.fed.items =
    c.in_ok-next.ensures.fed ∙ ap (λ (z : Names). take i kept.fed.items ++ z ∷ drop (i + 1) kept.fed.items) c.in_ok-copy.ensures in
    let made : c.in_ok-made.made ≡ made_of patterns rule one = c.in_ok-made.ensures.made in
    made_set patterns rule kept.fed.items next.fed.items kept.made.items next.made.items kept.fates.items next.fates.items i one c.in_ok-made.made.0 c.in_ok-made.made.1
    fed c.in_ok-next.ensures.made c.in_ok-next.ensures.fates (ap (λ (z : Names × Fate). z.0) made) (ap (λ (z : Names × Fate). z.1) made) c.requires.made
