use Rattle.std.proofs.Common.{◌≡◌, ◌∙◌, ◌<◌, rules, arith, length, sym}
use Rattle.op_labels.proofs.Keeping.{push_here, set_here}
use Rattle.op_labels.proofs.kept_labels.kept_at.Goals as goal

pub returns-then-i-len-clause-fed : goal.returns-then-i-len-clause-fed
returns-then-i-len-clause-fed c = let l : c.args.i < length c.args.kept.fed.items = search rules in set_here c.args.kept.fed.items c.args.i c.args.labels l

pub returns-then-i-len-clause-made : goal.returns-then-i-len-clause-made
returns-then-i-len-clause-made c =
    let l : c.args.i < length c.args.kept.fed.items = search rules in
    let m : c.args.i < length c.args.kept.made.items = let e = c.requires.made in omega arith in
    set_here c.args.kept.made.items c.args.i c.args.new.0 m

pub returns-then-i-len-clause-fates : goal.returns-then-i-len-clause-fates
returns-then-i-len-clause-fates c =
    let l : c.args.i < length c.args.kept.fed.items = search rules in
    let m : c.args.i < length c.args.kept.fates.items = let e = c.requires.fates in omega arith in
    set_here c.args.kept.fates.items c.args.i c.args.new.1 m

pub returns-clause-fed : goal.returns-clause-fed
returns-clause-fed c =
    let e : c.args.i ≡ length c.args.kept.fed.items = search rules in
    c.in_ok-push.ensures.items ∙ push_here c.args.kept.fed.items c.args.i c.args.labels e

pub returns-clause-made : goal.returns-clause-made
returns-clause-made c =
    let e : c.args.i ≡ length c.args.kept.fed.items = search rules in
    c.in_ok-push-2.ensures.items ∙ push_here c.args.kept.made.items c.args.i c.args.new.0 (e ∙ sym c.requires.made)

pub returns-clause-fates : goal.returns-clause-fates
returns-clause-fates c =
    let e : c.args.i ≡ length c.args.kept.fed.items = search rules in
    c.in_ok-push-3.ensures.items ∙ push_here c.args.kept.fates.items c.args.i c.args.new.1 (e ∙ sym c.requires.fates)
