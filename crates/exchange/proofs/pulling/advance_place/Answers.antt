use Rattle.std.proofs.Common.{refl}
use Rattle.exchange.proofs.Lists.{map_length}
use Rattle.exchange.proofs.Filling.{all_tell, gives, gives_before, inside_after, lends, lends_told, place_taken, still_tell, told_steps}
use Rattle.exchange.proofs.pulling.advance_place.Goals as goal

pub returns-in-Ok-take-clause-stands : goal.returns-in-Ok-take-clause-stands
returns-in-Ok-take-clause-stands g c = λ p s.
    let t = c.in-Ok.ensures.stands p s in
    place_taken _ c.fill.new.place _ _ p t refl c.take.ensures.ask c.in-Ok-take.ensures.going (c.in-Ok-take.ensures.stands p.all t.dones p.taken t.stands)

pub returns-in-Ok-take-clause-lent : goal.returns-in-Ok-take-clause-lent
returns-in-Ok-take-clause-lent g c = λ p t s at.
    let n = c.in-Ok.ensures.stands p s in
    let after = c.in-Ok-take.ensures.stands p.all n.dones p.taken n.stands in (
      _,
      gives_before c.args.place.now.asks c.fill.new.place.asks _ _ p _ c.fill.ensures.asks c.fill.ensures.grown (gives _ _ c.fill.new.place p n c.take.new.self after),
      lends c.fill.new.place.gather.ask.kind p.kind t _ _ _ n.kind (c.in-Ok-take.ensures.joined p.all n.dones p.taken t n.stands at),
    )

pub returns-in-Ok-take-clause-told : goal.returns-in-Ok-take-clause-told
returns-in-Ok-take-clause-told g c = λ p t s at tell.
    let n = c.in-Ok.ensures.stands p s in
    let after = c.in-Ok-take.ensures.stands p.all n.dones p.taken n.stands in
    let tell_new = still_tell c.args.place.now.asks _ _ (map_length (λ b. (goal.Engine-dyn g (b.vtable, b.value)).seen b.value) c.fill.new.engines c.args.engines.now c.fill.ensures.len) c.fill.ensures.grown tell in
    lends_told c.fill.new.place.gather.ask.kind p.kind t _ _ _ _ n.kind (told_steps _ _ c.fill.new.place p n c.take.new.self after (all_tell c.args.place.now.asks c.fill.new.place.asks _ c.fill.ensures.asks tell_new)) (c.in-Ok-take.ensures.joined p.all n.dones p.taken t n.stands at)

pub take-requires-clause-going : goal.take-requires-clause-going
take-requires-clause-going g c = (c.in-Ok.ensures.stands c.requires.stands.0 c.requires.stands.1).going

pub returns-in-Ok-take-clause-inside : goal.returns-in-Ok-take-clause-inside
returns-in-Ok-take-clause-inside g c = λ kind.
    let p = c.requires.stands.0 in
    let n = c.in-Ok.ensures.stands p c.requires.stands.1 in
    inside_after _ _ c.take.new.self.windows c.take.ensures.ask (c.in-Ok-take.ensures.inside p.all n.dones p.taken n.stands) kind
