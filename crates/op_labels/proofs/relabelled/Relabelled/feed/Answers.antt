use Rattle.std.proofs.Common.{◌∙◌, length, ap}
use Rattle.std.proofs.lemmas.Result.{on_ok_weaker}
use Rattle.step_batch.specs.Lent.{stages}
use Rattle.op_labels.specs.Rules.{Relabelling, relabel_of, relabellings}
use Rattle.op_labels.proofs.Keeping.{made_counts, made_same}
use Rattle.op_labels.proofs.relabelled.Relabelled.feed.Goals as goal

pub put_all-requires-clause-fates : goal.put_all-requires-clause-fates
put_all-requires-clause-fates c =
    let kept = c.renew.new.self in
    ap length c.as_slice-2.ensures.value ∙ (made_counts c.args.patterns.now (relabel_of c.self.inside.change) kept.fed.items kept.made.items kept.fates.items c.renew.ensures.made).1 ∙ ap length (c.in_ok-renew.ensures.fed ∙ c.labels.ensures.labels)

pub put_all-requires-clause-fed : goal.put_all-requires-clause-fed
put_all-requires-clause-fed c =
    let kept = c.renew.new.self in
    ap length (c.in_ok-begin_feed.ensures.fed ∙ c.as_slice.ensures.value) ∙ (made_counts c.args.patterns.now (relabel_of c.self.inside.change) kept.fed.items kept.made.items kept.fates.items c.renew.ensures.made).0
    ∙ ap length (c.in_ok-renew.ensures.fed ∙ c.labels.ensures.labels)

pub returns-clause-lent : goal.returns-clause-lent
returns-clause-lent c =
    let kept = c.renew.new.self in
    let rows = c.args.rows.now in
    let patterns = c.args.patterns.now in
    let rule = relabel_of c.self.inside.change in
    let made = made_same patterns rule kept.fed.items rows.labels kept.made.items c.begin_feed.new.self.fed kept.fates.items c.as_slice-2.result.now (c.in_ok-renew.ensures.fed ∙ c.labels.ensures.labels) (c.in_ok-begin_feed.ensures.fed ∙ c.as_slice.ensures.value) c.as_slice-2.ensures.value c.renew.ensures.made in
    on_ok_weaker c.put_all.result (λ lent. lent patterns rule made ∙ ap (λ (k : Relabelling). relabellings patterns k.rule (stages rows)) c.self.view_is) c.put_all.ensures.lent
