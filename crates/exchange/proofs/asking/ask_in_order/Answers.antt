use Rattle.std.proofs.Common.{rules, arith, ◌≡◌, ◌∙◌, ◌+◌, ◌<◌, ℕ, [], ◌∷◌, ◌++◌, List, Some, sym, ap, subst, refl, slice_get, length, map, take}
use Rattle.std.proofs.lemmas.List.{length-set}
use Rattle.std.specs.Prelude.{Err, ⊤}
use Rattle.exchange.specs.Faults.{IsAskedFor, IsIn}
use Rattle.exchange.specs.InOrder.{AreInSlots, in_order_of_asks}
use Rattle.exchange.specs.Requests.{IsRequest}
use Rattle.exchange.specs.declared.place.Place.{Place}
use Rattle.exchange.proofs.Keeping.{blames_other, calm_refl, calm_trans, faulted_as, faulted_from, grown_refl, grown_trans, no_stray_as}
use Rattle.exchange.proofs.Lists.{each_at, get_within, map_length, take_whole}
use Rattle.exchange.proofs.Making.{still_going}
use Rattle.exchange.proofs.Opening.{apart_more, asked_all, asked_more, asked_next, asked_none, may_request_now, none_apart, none_opened, once_now, opened_more, place_opened_now}
use Rattle.exchange.proofs.Slots.{none_in_slots, slots_more, take_size, turn_is, turn_within}
use Rattle.exchange.proofs.asking.ask_in_order.Goals as goal

pub request_at-request-requires : goal.request_at-request-requires
request_at-request-requires g c = turn_within c.args.requests.now c.args.order.now c.loop-j.j c.place_in-k.result c.requires.order c.place_in-k.ensures

pub open_place-requires-clause-request : goal.open_place-requires-clause-request
open_place-requires-clause-request g c = each_at IsRequest c.args.requests.now c.place_in-k.result c.request_at-request.result.now c.requires.requests c.request_at-request.ensures

pub open_place-requires-clause-may : goal.open_place-requires-clause-may
open_place-requires-clause-may g c = may_request_now _ _ c.args.span.now c.request_at-request.result.now c.loop-j.invariant.same (c.requires.may c.place_in-k.result c.request_at-request.result.now c.request_at-request.ensures)

pub open_place-requires-clause-inside : goal.open_place-requires-clause-inside
open_place-requires-clause-inside g c = λ m n n_at. subst (λ l. n < l) (sym c.loop-j.invariant.len) (c.requires.inside c.place_in-k.result m n c.request_at-request.result.now c.request_at-request.ensures n_at)

pub open_place-requires-clause-going : goal.open_place-requires-clause-going
open_place-requires-clause-going g c = c.loop-j.invariant.free

pub replace-requires : goal.replace-requires
replace-requires g c = subst (λ n. c.place_in-k.result < n) (sym (c.loop-j.invariant.size ∙ c.requires.slots)) (get_within c.args.requests.now c.place_in-k.result c.request_at-request.result.now c.request_at-request.ensures)

pub returns-in-Err-clause-grown : goal.returns-in-Err-clause-grown
returns-in-Err-clause-grown g c = grown_trans _ _ _ c.loop-j.invariant.grown c.open_place.ensures.grown

pub returns-in-Err-clause-calm : goal.returns-in-Err-clause-calm
returns-in-Err-clause-calm g c = calm_trans _ _ _ c.loop-j.invariant.calm c.open_place.ensures.calm

pub returns-in-Err-clause-fault : goal.returns-in-Err-clause-fault
returns-in-Err-clause-fault g c = faulted_as Place ⊤ c.in-Err.fault _ _ (faulted_from {T = Place} (λ b. (goal.Engine-dyn g (b.vtable, b.value)).seen b.value) c.args.engines.now c.loop-j.engines c.open_place.new.engines (Err c.in-Err.fault) c.loop-j.invariant.len c.loop-j.invariant.grown c.loop-j.invariant.calm c.in-Err.ensures.fault)

pub returns-in-Err-clause-blame : goal.returns-in-Err-clause-blame
returns-in-Err-clause-blame g c = blames_other Place ⊤ (IsIn c.request_at-request.result.now.engines) (IsAskedFor c.args.requests.now) c.in-Err.fault (λ n is. (c.place_in-k.result, c.request_at-request.result.now, c.request_at-request.ensures, is)) c.in-Err.ensures.blame

pub returns-in-Err-clause-no_stray : goal.returns-in-Err-clause-no_stray
returns-in-Err-clause-no_stray g c = no_stray_as Place ⊤ c.in-Err.fault c.in-Err.ensures.no_stray

pub loop-j-init : goal.loop-j-init
loop-j-init g c =
    let es = map (λ b. (goal.Engine-dyn g (b.vtable, b.value)).seen b.value) c.args.engines.now in
    record {
      size = refl;
      opened = ([], none_opened c.args.span.now c.args.patterns.now es es (in_order_of_asks c.args.requests.now), none_apart, none_in_slots c.args.slots.now);
      asked = asked_none c.args.span.now c.args.patterns.now es c.requires.unasked;
      free = λ i f at. (c.requires.unasked i f at).1;
      calm = calm_refl es;
      grown = grown_refl es;
      same = refl;
      len = refl;
    }

pub loop-j-preserved : goal.loop-j-preserved
loop-j-preserved g c =
    let inv = c.loop-j.invariant in
    let j = c.loop-j.j in
    let k = c.place_in-k.result in
    let r = c.request_at-request.result.now in
    let k_at : slice_get c.args.order.now j ≡ Some k = c.place_in-k.ensures in
    let at : slice_get c.args.requests.now k ≡ Some r = c.request_at-request.ensures in
    let sorted = in_order_of_asks c.args.requests.now in
    let turn : slice_get sorted j ≡ Some r = turn_is c.args.requests.now c.args.order.now j k r c.requires.order k_at at in
    let es = map (λ b. (goal.Engine-dyn g (b.vtable, b.value)).seen b.value) c.args.engines.now in
    let fs = map (λ b. (goal.Engine-dyn g (b.vtable, b.value)).seen b.value) c.loop-j.engines in
    let gs = map (λ b. (goal.Engine-dyn g (b.vtable, b.value)).seen b.value) c.open_place.new.engines in
    let long : length fs ≡ length es = map_length (λ b. (goal.Engine-dyn g (b.vtable, b.value)).seen b.value) c.loop-j.engines c.args.engines.now inv.len in
    let once = once_now _ _ c.args.span.now r r.engines fs gs inv.same c.in-Ok.ensures.asked in
    let new = place_opened_now _ _ c.args.span.now fs gs r c.in-Ok.place inv.same c.in-Ok.ensures.opened in
    let made : List Place = inv.opened.0 in
    let within : j < length c.args.order.now = get_within c.args.order.now j k k_at in
    let many : length made ≡ j = inv.opened.3.as_many ∙ take_size c.args.order.now j (omega (arith, within)) in
    let room : k < length c.loop-j.slots = subst (λ (n : ℕ). k < n) (sym (inv.size ∙ c.requires.slots)) (get_within c.args.requests.now k r at) in
    record {
      size = ap length c.replace.ensures.now ∙ length-set c.loop-j.slots k (Some c.in-Ok.place) ∙ inv.size;
      opened = (
        made ++ c.in-Ok.place ∷ [],
        opened_more c.args.span.now _ es fs gs sorted made j r c.in-Ok.place long inv.grown many turn inv.opened.1 new once,
        apart_more c.args.span.now _ es fs gs sorted made j r c.in-Ok.place long inv.grown many turn inv.opened.1 new once c.in-Ok.ensures.behind inv.opened.2,
        subst (AreInSlots (take (j + 1) c.args.order.now) (made ++ c.in-Ok.place ∷ [])) (sym c.replace.ensures.now) (slots_more c.args.order.now j k made c.loop-j.slots c.in-Ok.place k_at room inv.opened.3),
      );
      asked = asked_next c.args.span.now _ es gs sorted j r turn (asked_more c.args.span.now _ es fs gs (take j sorted) r inv.grown inv.asked once);
      free = still_going c.args.span.now _ r r.engines fs gs (map_length (λ b. (goal.Engine-dyn g (b.vtable, b.value)).seen b.value) c.open_place.new.engines c.loop-j.engines c.open_place.ensures.len) inv.free once;
      calm = calm_trans es fs gs inv.calm c.open_place.ensures.calm;
      grown = grown_trans es fs gs inv.grown c.open_place.ensures.grown;
      same = c.open_place.ensures.same ∙ inv.same;
      len = c.open_place.ensures.len ∙ inv.len;
    }

pub returns-clause-opened : goal.returns-clause-opened
returns-clause-opened g c =
    let done : c.loop-j.j ≡ length c.args.order.now = search rules in
    let o = c.loop-j.invariant.opened in
    (o.0, o.1, o.2, subst (λ (ks : List ℕ). AreInSlots ks o.0 c.loop-j.slots) (take_whole c.args.order.now c.loop-j.j done) o.3)

pub returns-clause-asked : goal.returns-clause-asked
returns-clause-asked g c =
    let done : c.loop-j.j ≡ length c.args.order.now = search rules in
    asked_all c.args.span.now _ _ _ _ _ (take_whole (in_order_of_asks c.args.requests.now) c.loop-j.j (done ∙ c.requires.order.as_many)) c.loop-j.invariant.asked
