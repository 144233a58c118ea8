use Rattle.std.proofs.Common.{◌≡◌, ◌∙◌, ◌<◌, rules, arith, length, sym}
use Rattle.step_put.proofs.Keeping.{push_here, set_here}
use Rattle.step_put.proofs.own_places.kept_at.Goals as goal

pub returns-then-i-len-clause-fed : goal.returns-then-i-len-clause-fed
returns-then-i-len-clause-fed c = let l : c.args.i < length c.args.kept.fed.items = search rules in set_here c.args.kept.fed.items c.args.i c.args.labels l

pub returns-then-i-len-clause-places : goal.returns-then-i-len-clause-places
returns-then-i-len-clause-places c =
    let l : c.args.i < length c.args.kept.fed.items = search rules in
    let m : c.args.i < length c.args.kept.places.items = let e = c.requires.same in omega arith in
    set_here c.args.kept.places.items c.args.i c.args.place m

pub returns-clause-fed : goal.returns-clause-fed
returns-clause-fed c =
    let e : c.args.i ≡ length c.args.kept.fed.items = search rules in
    c.in_ok-push.ensures.items ∙ push_here c.args.kept.fed.items c.args.i c.args.labels e

pub returns-clause-places : goal.returns-clause-places
returns-clause-places c =
    let e : c.args.i ≡ length c.args.kept.fed.items = search rules in
    c.in_ok-push-2.ensures.items ∙ push_here c.args.kept.places.items c.args.i c.args.place (e ∙ sym c.requires.same)
