use Rattle.std.proofs.Common.{◌≡◌, ◌∙◌, ◌<◌, rules, arith, length, sym}
use Rattle.op_buckets.proofs.Keeping.{push_here, set_here}
use Rattle.op_buckets.proofs.kept_labels.kept_at.Goals as goal

pub returns-then-i-len-clause-fed : goal.returns-then-i-len-clause-fed
returns-then-i-len-clause-fed c = let l : c.args.i < length c.args.kept.fed.items = search rules in set_here c.args.kept.fed.items c.args.i c.args.labels l

pub returns-then-i-len-clause-histograms : goal.returns-then-i-len-clause-histograms
returns-then-i-len-clause-histograms c =
    let l : c.args.i < length c.args.kept.fed.items = search rules in
    let m : c.args.i < length c.args.kept.histograms.items = let e = c.requires.histograms in omega arith in
    set_here c.args.kept.histograms.items c.args.i c.args.histogram m

pub returns-then-i-len-clause-bounds : goal.returns-then-i-len-clause-bounds
returns-then-i-len-clause-bounds c =
    let l : c.args.i < length c.args.kept.fed.items = search rules in
    let m : c.args.i < length c.args.kept.bounds.items = let e = c.requires.bounds in omega arith in
    set_here c.args.kept.bounds.items c.args.i c.args.bound m

pub returns-clause-fed : goal.returns-clause-fed
returns-clause-fed c =
    let e : c.args.i ≡ length c.args.kept.fed.items = search rules in
    c.in_ok-push.ensures.items ∙ push_here c.args.kept.fed.items c.args.i c.args.labels e

pub returns-clause-histograms : goal.returns-clause-histograms
returns-clause-histograms c =
    let e : c.args.i ≡ length c.args.kept.fed.items = search rules in
    c.in_ok-push-2.ensures.items ∙ push_here c.args.kept.histograms.items c.args.i c.args.histogram (e ∙ sym c.requires.histograms)

pub returns-clause-bounds : goal.returns-clause-bounds
returns-clause-bounds c =
    let e : c.args.i ≡ length c.args.kept.fed.items = search rules in
    c.in_ok-push-3.ensures.items ∙ push_here c.args.kept.bounds.items c.args.i c.args.bound (e ∙ sym c.requires.bounds)
