use Rattle.std.proofs.Common.{◌≡◌, ◌∙◌, List, length, subst, sym}
use Rattle.std.specs.Prelude.{⊤}
use Rattle.exchange.specs.Faults.{IsAskedFor}
use Rattle.exchange.specs.InOrder.{IsAskOrder}
use Rattle.exchange.specs.declared.place.Place.{Place}
use Rattle.exchange.proofs.Keeping.{blames_other, calm_refl, faulted_as, grown_refl, no_stray_as}
use Rattle.exchange.proofs.Slots.{as_many_slots, places_apart, places_opened, places_size}
use Rattle.exchange.proofs.asking.open_places.Goals as goal

pub returns-in-Err-clause-calm : goal.returns-in-Err-clause-calm
returns-in-Err-clause-calm g c = calm_refl _

pub returns-in-Err-clause-grown : goal.returns-in-Err-clause-grown
returns-in-Err-clause-grown g c = grown_refl _

pub returns-in-Err-empty_slots-clause-calm : goal.returns-in-Err-empty_slots-clause-calm
returns-in-Err-empty_slots-clause-calm g c = calm_refl _

pub returns-in-Err-empty_slots-clause-grown : goal.returns-in-Err-empty_slots-clause-grown
returns-in-Err-empty_slots-clause-grown g c = grown_refl _

pub ask_in_order-requires-clause-order : goal.ask_in_order-requires-clause-order
ask_in_order-requires-clause-order g c = subst (IsAskOrder c.args.requests.now) (sym c.as_slice.ensures) c.in-Ok.ensures

pub ask_in_order-requires-clause-slots : goal.ask_in_order-requires-clause-slots
ask_in_order-requires-clause-slots g c = as_many_slots _ _ c.in-Ok-empty_slots.ensures

pub returns-in-Err-ask_in_order-clause-fault : goal.returns-in-Err-ask_in_order-clause-fault
returns-in-Err-ask_in_order-clause-fault g c = faulted_as ⊤ (List Place) c.in-Err-ask_in_order.fault _ _ c.in-Err-ask_in_order.ensures.fault

pub returns-in-Err-ask_in_order-clause-blame : goal.returns-in-Err-ask_in_order-clause-blame
returns-in-Err-ask_in_order-clause-blame g c = blames_other ⊤ (List Place) (IsAskedFor c.args.requests.now) (IsAskedFor c.args.requests.now) c.in-Err-ask_in_order.fault (λ n is. is) c.in-Err-ask_in_order.ensures.blame

pub returns-in-Err-ask_in_order-clause-no_stray : goal.returns-in-Err-ask_in_order-clause-no_stray
returns-in-Err-ask_in_order-clause-no_stray g c = no_stray_as ⊤ (List Place) c.in-Err-ask_in_order.fault c.in-Err-ask_in_order.ensures.no_stray

pub returns-in-Ok-standing_in-clause-size : goal.returns-in-Ok-standing_in-clause-size
returns-in-Ok-standing_in-clause-size g c =
    let o = c.in-Ok-ask_in_order.ensures.opened in
    let is : IsAskOrder c.args.requests.now c.as_slice.result.now = subst (IsAskOrder c.args.requests.now) (sym c.as_slice.ensures) c.in-Ok.ensures in
    let size : length c.ask_in_order.new.slots ≡ length c.args.requests.now = c.ask_in_order.ensures.size ∙ as_many_slots _ _ c.in-Ok-empty_slots.ensures in
    places_size c.args.requests.now c.as_slice.result.now o.0 c.in-Ok-standing_in.places c.ask_in_order.new.slots is size o.3 c.in-Ok-standing_in.ensures

pub returns-in-Ok-standing_in-clause-opened : goal.returns-in-Ok-standing_in-clause-opened
returns-in-Ok-standing_in-clause-opened g c =
    let o = c.in-Ok-ask_in_order.ensures.opened in
    let is : IsAskOrder c.args.requests.now c.as_slice.result.now = subst (IsAskOrder c.args.requests.now) (sym c.as_slice.ensures) c.in-Ok.ensures in
    let size : length c.ask_in_order.new.slots ≡ length c.args.requests.now = c.ask_in_order.ensures.size ∙ as_many_slots _ _ c.in-Ok-empty_slots.ensures in
    places_opened c.args.requests.now c.as_slice.result.now o.0 c.in-Ok-standing_in.places c.ask_in_order.new.slots is size o.3 c.in-Ok-standing_in.ensures c.args.span.now c.args.patterns.now _ _ o.1

pub returns-in-Ok-standing_in-clause-apart : goal.returns-in-Ok-standing_in-clause-apart
returns-in-Ok-standing_in-clause-apart g c =
    let o = c.in-Ok-ask_in_order.ensures.opened in
    let is : IsAskOrder c.args.requests.now c.as_slice.result.now = subst (IsAskOrder c.args.requests.now) (sym c.as_slice.ensures) c.in-Ok.ensures in
    let size : length c.ask_in_order.new.slots ≡ length c.args.requests.now = c.ask_in_order.ensures.size ∙ as_many_slots _ _ c.in-Ok-empty_slots.ensures in
    places_apart c.args.requests.now c.as_slice.result.now o.0 c.in-Ok-standing_in.places c.ask_in_order.new.slots is size o.3 c.in-Ok-standing_in.ensures o.2
