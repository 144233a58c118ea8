use Rattle.std.proofs.Common.{rules, ◌≡◌, ◌≤◌, length, subst, sym, arith}
use Rattle.sample_store.specs.Counts.{AreKept}
use Rattle.sample_store.proofs.Turns.{insert_is, kept_within}
use Rattle.sample_store.proofs.counts.Counts.insert.Goals as goal

pub returns-clause-ok : goal.returns-clause-ok
returns-clause-ok c =
    let t = c.turn.ensures in
    let within : c.args.k ≤ length c.self.inside.kept.items = kept_within c.self.inside.edge c.self.inside.total c.self.inside.kept.items c.args.self.now c.self.view_is c.args.k c.requires.there in
    let many = t.many in
    insert_is c.self.inside.edge c.self.inside.total c.self.inside.kept.items c.args.self.now c.self.view_is c.args.k c.turn.new.kept.items t.same t.few c.args.before c.insert.new.self.items (omega (arith, within, many)) c.requires.within (search rules)

pub invariant_of-self : goal.invariant_of-self
invariant_of-self c =
    let t = c.turn.ensures in
    let within : c.args.k ≤ length c.self.inside.kept.items = kept_within c.self.inside.edge c.self.inside.total c.self.inside.kept.items c.args.self.now c.self.view_is c.args.k c.requires.there in
    let many = t.many in
    let e : c.insert.new.self.items ≡ c.turn.new.kept.items = search rules in
    subst (λ ns. AreKept c.args.k c.self.inside.total ns) (sym e) (record { within = omega (arith, within, many); few = t.few })
