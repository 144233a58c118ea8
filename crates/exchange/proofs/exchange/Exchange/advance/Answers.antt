use Rattle.std.proofs.Common.{rules, ◌≡◌, ◌∙◌, ◌<◌, Some, sym, ap, subst, refl, slice_get, length}
use Rattle.std.proofs.lemmas.Option.{slice_get_read}
use Rattle.op_gather.specs.Histories.{is_ready}
use Rattle.exchange.specs.Exchanging.{Exchanging}
use Rattle.exchange.specs.Faults.{Blames, IsAskedAt}
use Rattle.exchange.specs.Standing.{IsApartFrom}
use Rattle.exchange.specs.declared.place.Place.{Place}
use Rattle.exchange.proofs.Lists.{get_set_other}
use Rattle.exchange.proofs.Places.{all_own, asks_own, gone_on_own, inside_own, lends_own, lends_told_own, place_same, place_stands_own, place_within_own, same_ask_own}
use Rattle.exchange.proofs.exchange.Exchange.advance.Goals as goal

pub index_mut-place-requires : goal.index_mut-place-requires
index_mut-place-requires g c =
    let own = c.self.inside.places.items in
    let e : own ≡ c.args.self.now.places = ap (λ (x : Exchanging). x.places) c.self.view_is in
    let within : c.args.gather < length own = place_within_own c.args.gather _ _ own c.args.self.now.places e c.requires in
    search rules

pub advance_place-requires-clause-stands : goal.advance_place-requires-clause-stands
advance_place-requires-clause-stands g c =
    let own = c.self.inside.places.items in
    let e : own ≡ c.args.self.now.places = ap (λ (x : Exchanging). x.places) c.self.view_is in
    let within : c.args.gather < length own = place_within_own c.args.gather _ _ own c.args.self.now.places e c.requires in
    let old = c.index_mut-place.result.now in
    let at : slice_get own c.args.gather ≡ Some old = slice_get_read own (length own) c.args.gather old refl within c.index_mut-place.ensures.value in
    place_stands_own c.args.gather _ _ own c.args.self.now.places old e c.requires at

pub returns-clause-stand : goal.returns-clause-stand
returns-clause-stand g c =
    let own = c.self.inside.places.items in
    let e : own ≡ c.args.self.now.places = ap (λ (x : Exchanging). x.places) c.self.view_is in
    let within : c.args.gather < length own = place_within_own c.args.gather _ _ own c.args.self.now.places e c.requires in
    let old = c.index_mut-place.result.now in
    let at : slice_get own c.args.gather ≡ Some old = slice_get_read own (length own) c.args.gather old refl within c.index_mut-place.ensures.value in
    let new = c.advance_place.new.place in
    λ ps p all p_at.
    let mine = all_own _ _ own c.args.self.now.places ps e all in
    gone_on_own _ own _ _ ps c.args.gather old new p c.advance_place.result mine at p_at c.advance_place.ensures.asks (λ b h. c.advance_place.ensures.alone b h) (c.advance_place.ensures.stands p (mine.stand c.args.gather old p at p_at))

pub returns-clause-lent : goal.returns-clause-lent
returns-clause-lent g c =
    let own = c.self.inside.places.items in
    let e : own ≡ c.args.self.now.places = ap (λ (x : Exchanging). x.places) c.self.view_is in
    let within : c.args.gather < length own = place_within_own c.args.gather _ _ own c.args.self.now.places e c.requires in
    let old = c.index_mut-place.result.now in
    let at : slice_get own c.args.gather ≡ Some old = slice_get_read own (length own) c.args.gather old refl within c.index_mut-place.ensures.value in
    let new = c.advance_place.new.place in
    λ ps p place t all p_at place_at t_at.
    let mine = all_own _ _ own c.args.self.now.places ps e all in
    lends_own own c.args.self.now.places c.args.gather place old new _ p t c.advance_place.result e at place_at (c.advance_place.ensures.lent p t (mine.stand c.args.gather old p at p_at) t_at)

pub returns-clause-told : goal.returns-clause-told
returns-clause-told g c =
    let own = c.self.inside.places.items in
    let e : own ≡ c.args.self.now.places = ap (λ (x : Exchanging). x.places) c.self.view_is in
    let within : c.args.gather < length own = place_within_own c.args.gather _ _ own c.args.self.now.places e c.requires in
    let old = c.index_mut-place.result.now in
    let at : slice_get own c.args.gather ≡ Some old = slice_get_read own (length own) c.args.gather old refl within c.index_mut-place.ensures.value in
    let new = c.advance_place.new.place in
    λ ps p place t all p_at place_at t_at tell.
    let mine = all_own _ _ own c.args.self.now.places ps e all in
    lends_told_own own c.args.self.now.places c.args.gather place old new _ p t c.advance_place.result e at place_at tell (c.advance_place.ensures.told p t (mine.stand c.args.gather old p at p_at) t_at)

pub returns-clause-others : goal.returns-clause-others
returns-clause-others g c =
    let own = c.self.inside.places.items in
    let e : own ≡ c.args.self.now.places = ap (λ (x : Exchanging). x.places) c.self.view_is in
    let within : c.args.gather < length own = place_within_own c.args.gather _ _ own c.args.self.now.places e c.requires in
    let old = c.index_mut-place.result.now in
    let at : slice_get own c.args.gather ≡ Some old = slice_get_read own (length own) c.args.gather old refl within c.index_mut-place.ensures.value in
    let new = c.advance_place.new.place in
    λ k n. get_set_other own c.args.gather k new n ∙ ap (λ l. slice_get l k) e

pub returns-clause-idle : goal.returns-clause-idle
returns-clause-idle g c =
    let own = c.self.inside.places.items in
    let e : own ≡ c.args.self.now.places = ap (λ (x : Exchanging). x.places) c.self.view_is in
    let within : c.args.gather < length own = place_within_own c.args.gather _ _ own c.args.self.now.places e c.requires in
    let old = c.index_mut-place.result.now in
    let at : slice_get own c.args.gather ≡ Some old = slice_get_read own (length own) c.args.gather old refl within c.index_mut-place.ensures.value in
    λ place place_at ready. c.advance_place.ensures.idle (ap is_ready (ap (λ (x : Place). x.gather) (sym (place_same own c.args.self.now.places c.args.gather place old e at place_at))) ∙ ready)

pub returns-clause-unasked : goal.returns-clause-unasked
returns-clause-unasked g c =
    let own = c.self.inside.places.items in
    let e : own ≡ c.args.self.now.places = ap (λ (x : Exchanging). x.places) c.self.view_is in
    let within : c.args.gather < length own = place_within_own c.args.gather _ _ own c.args.self.now.places e c.requires in
    let old = c.index_mut-place.result.now in
    let at : slice_get own c.args.gather ≡ Some old = slice_get_read own (length own) c.args.gather old refl within c.index_mut-place.ensures.value in
    λ place place_at ready. c.advance_place.ensures.unasked (ap is_ready (ap (λ (x : Place). x.gather) (sym (place_same own c.args.self.now.places c.args.gather place old e at place_at))) ∙ ready)

pub returns-clause-alone : goal.returns-clause-alone
returns-clause-alone g c =
    let own = c.self.inside.places.items in
    let e : own ≡ c.args.self.now.places = ap (λ (x : Exchanging). x.places) c.self.view_is in
    let within : c.args.gather < length own = place_within_own c.args.gather _ _ own c.args.self.now.places e c.requires in
    let old = c.index_mut-place.result.now in
    let at : slice_get own c.args.gather ≡ Some old = slice_get_read own (length own) c.args.gather old refl within c.index_mut-place.ensures.value in
    λ place b place_at apart. c.advance_place.ensures.alone b (subst (λ (x : Place). IsApartFrom x.asks b) (place_same own c.args.self.now.places c.args.gather place old e at place_at) apart)

pub returns-clause-blame : goal.returns-clause-blame
returns-clause-blame g c =
    let own = c.self.inside.places.items in
    let e : own ≡ c.args.self.now.places = ap (λ (x : Exchanging). x.places) c.self.view_is in
    let within : c.args.gather < length own = place_within_own c.args.gather _ _ own c.args.self.now.places e c.requires in
    let old = c.index_mut-place.result.now in
    let at : slice_get own c.args.gather ≡ Some old = slice_get_read own (length own) c.args.gather old refl within c.index_mut-place.ensures.value in
    λ place place_at. subst (λ (x : Place). Blames (IsAskedAt x.asks) c.advance_place.result) (sym (place_same own c.args.self.now.places c.args.gather place old e at place_at)) c.advance_place.ensures.blame

pub returns-clause-asks : goal.returns-clause-asks
returns-clause-asks g c =
    let own = c.self.inside.places.items in
    let e : own ≡ c.args.self.now.places = ap (λ (x : Exchanging). x.places) c.self.view_is in
    let within : c.args.gather < length own = place_within_own c.args.gather _ _ own c.args.self.now.places e c.requires in
    let old = c.index_mut-place.result.now in
    let at : slice_get own c.args.gather ≡ Some old = slice_get_read own (length own) c.args.gather old refl within c.index_mut-place.ensures.value in
    let new = c.advance_place.new.place in
    λ place one place_at one_at. asks_own own c.args.self.now.places c.args.gather place old new one e at place_at one_at c.advance_place.ensures.asks

pub returns-clause-same_ask : goal.returns-clause-same_ask
returns-clause-same_ask g c =
    let own = c.self.inside.places.items in
    let e : own ≡ c.args.self.now.places = ap (λ (x : Exchanging). x.places) c.self.view_is in
    let within : c.args.gather < length own = place_within_own c.args.gather _ _ own c.args.self.now.places e c.requires in
    let old = c.index_mut-place.result.now in
    let at : slice_get own c.args.gather ≡ Some old = slice_get_read own (length own) c.args.gather old refl within c.index_mut-place.ensures.value in
    let new = c.advance_place.new.place in
    λ k place one place_at one_at. same_ask_own own c.args.self.now.places c.args.gather k place old new one e at place_at one_at c.advance_place.ensures.same_ask

pub returns-clause-inside : goal.returns-clause-inside
returns-clause-inside g c =
    let own = c.self.inside.places.items in
    let e : own ≡ c.args.self.now.places = ap (λ (x : Exchanging). x.places) c.self.view_is in
    let within : c.args.gather < length own = place_within_own c.args.gather _ _ own c.args.self.now.places e c.requires in
    let old = c.index_mut-place.result.now in
    let at : slice_get own c.args.gather ≡ Some old = slice_get_read own (length own) c.args.gather old refl within c.index_mut-place.ensures.value in
    let new = c.advance_place.new.place in
    λ one one_at kind. inside_own own c.args.gather old new one c.advance_place.result at one_at c.advance_place.ensures.inside kind
