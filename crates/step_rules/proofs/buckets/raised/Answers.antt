use Rattle.std.proofs.Common.{◌≡◌, ◌∙◌, [], sym}
use Rattle.std.specs.Vec.Iter.{into_iter_items}
use Rattle.std.proofs.lemmas.List.{nil_from_length}
use Rattle.step_rules.proofs.Raising.{all_risen, all_sunk}
use Rattle.step_rules.proofs.buckets.raised.Goals as goal

pub returns-clause-buckets : goal.returns-clause-buckets
returns-clause-buckets c =
    let order = c.order_is_total.ensures in
    let none : into_iter_items c.loop-bucket.bucket-iterator ≡ [] = nil_from_length _ (sym c.loop-bucket.bucket-iterator.rest.ok.0 ∙ c.in-None.ensures.steps.0) in
    let items : into_iter_items c.into_iter-bucket-iterator.result ≡ c.args.buckets = c.into_iter-bucket-iterator.ensures.into_iter_gives.0 ∙ c.into_vec-bucket-items.ensures in
    all_risen order.equal order.reversed order.transitive c.args.buckets (into_iter_items c.into_iter-bucket-iterator.result) (into_iter_items c.loop-bucket.bucket-iterator) c.loop-bucket.raised c.loop-bucket.most c.requires items none c.loop-bucket.invariant.buckets

pub returns-clause-fixed : goal.returns-clause-fixed
returns-clause-fixed c =
    let order = c.order_is_total.ensures in
    let none : into_iter_items c.loop-bucket.bucket-iterator ≡ [] = nil_from_length _ (sym c.loop-bucket.bucket-iterator.rest.ok.0 ∙ c.in-None.ensures.steps.0) in
    let items : into_iter_items c.into_iter-bucket-iterator.result ≡ c.args.buckets = c.into_iter-bucket-iterator.ensures.into_iter_gives.0 ∙ c.into_vec-bucket-items.ensures in
    all_sunk order.equal order.reversed order.transitive c.args.buckets (into_iter_items c.into_iter-bucket-iterator.result) (into_iter_items c.loop-bucket.bucket-iterator) c.loop-bucket.fixed c.loop-bucket.most c.requires items none c.loop-bucket.invariant.fixed
