use Rattle.std.proofs.Common.{List, sym, subst}
use Rattle.label_set.specs.declared.rules.Pairing.{Pairing}
use Rattle.step_table.specs.Groups.{Names}
use Rattle.op_match.specs.Places.{IsReady, many_of, one_of}
use Rattle.op_match.proofs.joined.Joined.feed.Goals as goal

pub join_all-requires-clause-ready : goal.join_all-requires-clause-ready
join_all-requires-clause-ready c =
    let new = c.renew.new.matching in
    let old = c.self.inside.matching.pairing in
    subst (λ (p : Pairing). IsReady new (many_of p.card c.args.left.now.labels c.args.right.now.labels) (one_of p.card c.args.left.now.labels c.args.right.now.labels)) (sym c.in_ok-renew.ensures.pairing)
    (subst (λ (ls : List Names). IsReady new (many_of old.card ls c.args.right.now.labels) (one_of old.card ls c.args.right.now.labels)) c.labels.ensures.labels
    (subst (λ (rs : List Names). IsReady new (many_of old.card c.labels.result.now rs) (one_of old.card c.labels.result.now rs)) c.labels-2.ensures.labels c.in_ok-renew.ensures.ready))
