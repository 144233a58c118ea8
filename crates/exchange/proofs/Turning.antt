-- What one event makes of a gather and its engines.
use Rattle.std.proofs.Common.{◌≡◌, ◌∙◌, ℕ, zero, suc, ◌+◌, ◌-◌, ◌<◌, ◌⊎◌, ◌^◌, Bool, true, false, List, [], ◌∷◌, ◌++◌, length, map, take, drop, slice_get, slice_set, refl, sym, ap, subst, arith, Some, None, inl, inr, ⊎_elim, append_assoc, length-append}
use Rattle.std.specs.Prelude.{Option, Ok, Err, Result, IfOk, ⊤, is_some, not, ◌&&◌, nat_lt}
use Rattle.std.proofs.lemmas.Bool.{cases_eq, false≢true, ltb-true}
use Rattle.std.proofs.lemmas.List.{take-append-drop, length-set, map-set}
use Rattle.op_gather.specs.Histories.{QueueStands, Refuses, Stands}
use Rattle.op_gather.specs.Queues.{ended, fed, has_room}
use Rattle.op_gather.specs.declared.gather.GatherRefusal.{GatherRefusal}
use Rattle.op_gather.specs.declared.gather.GatherRefusal.TheVariants as refusal
use Rattle.op_gather.specs.declared.queue.Queue.{Queue}
use Rattle.promql_type.specs.Replacements.{Kept}
use Rattle.remote_api.specs.Seen.{AskSeen, CountsStray, EngineSeen, HasGiven, HasPulled, KeepsStrays, MayPull, after_pull, after_steps, stray_pulled}
use Rattle.remote_api.specs.Strays.{early_end, stray_of}
use Rattle.remote_api.specs.declared.asks.Ask.{Ask}
use Rattle.remote_api.specs.declared.engine.EngineFail.{EngineFail}
use Rattle.remote_api.specs.declared.engine.EngineFail.TheVariants as fail
use Rattle.remote_api.specs.declared.engine.Pulled.{Pulled}
use Rattle.remote_api.specs.declared.engine.Pulled.TheVariants as pulled
use Rattle.remote_api.specs.declared.frame.Stray.{Stray}
use Rattle.remote_api.specs.declared.frame.Stray.TheVariants as stray
use Rattle.step_table.specs.declared.cells.StepCells.{StepCells}
use Rattle.ticks.specs.Listed.{IsListed}
use Rattle.ticks.specs.declared.moment.Ms.{Ms}
use Rattle.exchange.specs.declared.fault.RunFault.{RunFault}
use Rattle.exchange.specs.declared.place.Asking.{Asking}
use Rattle.exchange.specs.declared.place.Place.{Place}
use Rattle.exchange.specs.Calls.{AskStays, Each, Grows, HasSameAsks, IsCalled, StaysAt, what_asked}
use Rattle.exchange.specs.Faults.{Blames, Faulted, HasFailed, HasStrayed, IsAskedAt, fault_of}
use Rattle.exchange.specs.Standing.{Apart, AskAt, AskStands, JudgeAlike, PlaceStands, Progress, Tells, room_in, rooms}
use Rattle.exchange.proofs.Keeping.{called_each, grows_by, grows_refl, if_tells, stays_refl, strays_refl}
use Rattle.exchange.proofs.Lists.{get_map, get_set_other, get_set_same, get_within, map_get, same_at, set_same, some_same, within_get, zip_length}

-- ---- how long pulls can go on

rooms_more : (x : Queue) (xs : List Queue) → rooms (x ∷ xs) ≡ room_in x + rooms xs
rooms_more x xs = refl

sum_set : (xs : List Queue) (k : ℕ) (x y : Queue) → slice_get xs k ≡ Some x → room_in y < room_in x → rooms (slice_set xs k y) < rooms xs
sum_set [] k x y e l = absurd (cc)
sum_set (z ∷ xs) zero x y e l = let m : room_in y < room_in z = subst (λ (q : Queue). room_in y < room_in q) (sym (some_same z x e)) l in
    let a = rooms_more y xs in
    let b = rooms_more z xs in
    let c : rooms (y ∷ xs) < rooms (z ∷ xs) = omega arith in
    c
sum_set (z ∷ xs) (suc k) x y e l = let m : rooms (slice_set xs k y) < rooms xs = sum_set xs k x y e l in
    let a = rooms_more z (slice_set xs k y) in
    let b = rooms_more z xs in
    let c : rooms (z ∷ slice_set xs k y) < rooms (z ∷ xs) = omega arith in
    c

both_true : (a b : Bool) → (a && b) ≡ true → (a ≡ true) × (b ≡ true)
both_true true b e = (refl, e)
both_true false b e = absurd (false≢true e)

room_left : (q : Queue) → has_room q ≡ true → (q.ended ≡ false) × (length q.frames < 4)
room_left q e =
    let both : (not q.ended ≡ true) × (nat_lt (length q.frames) 4 ≡ true) = both_true (not q.ended) (nat_lt (length q.frames) 4) e in
    (negated q.ended both.0, ltb-true (length q.frames) 4 both.1)
  where
    negated : (b : Bool) → not b ≡ true → b ≡ false
    negated true e = absurd (false≢true e)
    negated false e = refl

room_of_open : (q : Queue) → q.ended ≡ false → room_in q ≡ 5 - length q.frames
room_of_open q e = rw e refl

pub less_ended : (qs rs : List Queue) (k : ℕ) (q : Queue) → slice_get qs k ≡ Some q → has_room q ≡ true → rs ≡ slice_set qs k (ended q) → rooms rs < rooms qs
less_ended qs rs k q at room e =
    let r = room_left q room in
    let o : room_in q ≡ 5 - length q.frames = room_of_open q r.0 in
    let f : length q.frames < 4 = r.1 in
    subst (λ l. rooms l < rooms qs) (sym e) (sum_set qs k q (ended q) at (let z : room_in (ended q) ≡ 0 = refl in omega arith))

pub less_fed : (qs rs : List Queue) (k : ℕ) (q : Queue) (steps : List StepCells) (n : Option Ms) → slice_get qs k ≡ Some q → has_room q ≡ true → rs ≡ slice_set qs k (fed q steps n) → rooms rs < rooms qs
less_fed qs rs k q steps n at room e =
    let r = room_left q room in
    let o : room_in q ≡ 5 - length q.frames = room_of_open q r.0 in
    let f : length q.frames < 4 = r.1 in
    let m : length (q.frames ++ steps ∷ []) ≡ length q.frames + 1 = length-append q.frames (steps ∷ []) in
    let z : room_in (fed q steps n) ≡ 5 - length (q.frames ++ steps ∷ []) = room_of_open (fed q steps n) r.0 in
    subst (λ l. rooms l < rooms qs) (sym e) (sum_set qs k q (fed q steps n) at (omega arith))

-- ---- the ask that is pulled

pub record IsTurn (kept : Kept) (es : List EngineSeen) (place : Place) (p : Progress) (dones : List (List StepCells)) (k : ℕ) (a : Asking) : Type 0 where
  pub done : List StepCells
  pub owes : List StepCells
  pub q : Queue
  pub e : EngineSeen
  pub done_at : slice_get dones k ≡ Some done
  pub owes_at : slice_get p.owed k ≡ Some owes
  pub q_at : slice_get place.gather.queues k ≡ Some q
  pub room : has_room q ≡ true
  pub e_at : slice_get es a.engine ≡ Some e
  pub asked : AskStands kept place.gather.ask e a.place done owes
  pub a_at : slice_get place.asks k ≡ Some a

pub as_many : (kept : Kept) (es : List EngineSeen) (place : Place) (p : Progress) → PlaceStands kept es place p → length place.asks ≡ length place.gather.queues
as_many kept es place p s = sym s.delivered ∙ zip_length (QueueStands p.all p.taken) s.dones place.gather.queues s.stands.queues

pub room_within : (kept : Kept) (es : List EngineSeen) (place : Place) (p : Progress) (k : ℕ) → PlaceStands kept es place p → slice_get (map has_room place.gather.queues) k ≡ Some true → k < length place.asks
room_within kept es place p k s room =
    let m = map_get has_room place.gather.queues k true room in
    subst (λ n. k < n) (sym (as_many kept es place p s)) (get_within place.gather.queues k m.0 m.1)

pub is_turn : (kept : Kept) (es : List EngineSeen) (place : Place) (p : Progress) (k : ℕ) (a : Asking) (s : PlaceStands kept es place p) → slice_get place.asks k ≡ Some a → slice_get (map has_room place.gather.queues) k ≡ Some true → IsTurn kept es place p s.dones k a
is_turn kept es place p k a s at room =
    let m = map_get has_room place.gather.queues k true room in
    let l : k < length place.asks = get_within place.asks k a at in
    let d = within_get s.dones k (subst (λ n. k < n) (sym s.delivered) l) in
    let o = within_get p.owed k (subst (λ n. k < n) (sym s.owing) l) in
    let x = s.asks k a d.0 o.0 at d.1 o.1 in
    record { done = d.0; owes = o.0; q = m.0; e = x.0; done_at = d.1; owes_at = o.1; q_at = m.1; room = m.2; e_at = x.1; asked = x.2; a_at = at }

pub may_pull : (kept : Kept) (es : List EngineSeen) (place : Place) (p : Progress) (dones : List (List StepCells)) (k : ℕ) (a : Asking) (e : EngineSeen) → IsTurn kept es place p dones k a → slice_get es a.engine ≡ Some e → MayPull a.place kept e
may_pull kept es place p dones k a e i at = subst (λ (f : EngineSeen). MayPull a.place kept f) (same_at es a.engine i.e e i.e_at at) (i.asked.going, i.asked.one, i.asked.here, i.asked.kept_are)

pub is_asked_at : (asks : List Asking) (k : ℕ) (a : Asking) → slice_get asks k ≡ Some a → IsAskedAt asks a.engine
is_asked_at asks k a at = (k, a, at, refl)

-- ---- what is refused, and what is told of it

pub none_refused : (o : Option Stray) (x : ⊤) → Refuses o (Ok x) → o ≡ None
none_refused None x r = refl
none_refused (Some s) x r = absurd r

told_out : (o : Option Stray) (expected got : Option Ms) → Refuses o (Err (refusal.OutOfStep expected got)) → o ≡ Some (stray.OutOfStep expected got)
told_out None expected got r = absurd r
told_out (Some (stray.OutOfStep e g)) expected got r = cc
told_out (Some (stray.WrongCell at)) expected got r = absurd (cc)

told_wrong : (o : Option Stray) (at : Ms) → Refuses o (Err (refusal.WrongCell at)) → o ≡ Some (stray.WrongCell at)
told_wrong None at r = absurd r
told_wrong (Some (stray.OutOfStep e g)) at r = absurd (cc)
told_wrong (Some (stray.WrongCell t)) at r = cc

told_as : (o : Option Stray) (x : GatherRefusal) (i : ℕ) (es fs : List EngineSeen) → Refuses o (Err x) → ((one : Stray) → o ≡ Some one → HasStrayed i one es fs) → Faulted {T = ⊤} (Err (fault_of i x)) es fs
told_as o refusal.Memory i es fs r h = tt
told_as o (refusal.OutOfStep expected got) i es fs r h = h (stray.OutOfStep expected got) (told_out o expected got r)
told_as o (refusal.WrongCell at) i es fs r h = h (stray.WrongCell at) (told_wrong o at r)

pub told_of : (o : Option Stray) (x : GatherRefusal) (i : ℕ) (es fs : List EngineSeen) (fault : RunFault) → fault ≡ fault_of i x → Refuses o (Err x) → ((one : Stray) → o ≡ Some one → HasStrayed i one es fs) → Faulted {T = ⊤} (Err fault) es fs
told_of o x i es fs fault is r h = subst (λ z. Faulted {T = ⊤} (Err z) es fs) (sym is) (told_as o x i es fs r h)

blames_as : (IsOne : ℕ → Type 0) (x : GatherRefusal) (i : ℕ) → IsOne i → Blames {T = ⊤} IsOne (Err (fault_of i x))
blames_as IsOne refusal.Memory i h = tt
blames_as IsOne (refusal.OutOfStep expected got) i h = h
blames_as IsOne (refusal.WrongCell at) i h = h

pub blames_of : (asks : List Asking) (k : ℕ) (a : Asking) (x : GatherRefusal) (fault : RunFault) → slice_get asks k ≡ Some a → fault ≡ fault_of a.engine x → Blames {T = ⊤} (IsAskedAt asks) (Err fault)
blames_of asks k a x fault at is = subst (λ z. Blames {T = ⊤} (IsAskedAt asks) (Err z)) (sym is) (blames_as (IsAskedAt asks) x a.engine (is_asked_at asks k a at))

-- ---- what a pull leaves as it was

pulled_same : (pull : Pulled) (one : Ask) (ask : Ask) (given : ℕ) (done : List StepCells) (all : List Ms) (steps : List StepCells) → JudgeAlike one ask → given ≡ length done
    → stray_pulled pull one (drop given all) steps ≡ stray_pulled pull ask (drop (length done) all) steps
pulled_same pulled.Frame one ask given done all steps alike e = ap (λ n. stray_of one (drop n all) steps) e ∙ alike (drop (length done) all) steps
pulled_same pulled.End one ask given done all steps alike e = ap (λ n. early_end (drop n all)) e

pub given_of : (place most : ℕ) (steps : List StepCells) (r : Result Pulled EngineFail) (e f : EngineSeen) (pull : Pulled) (one : AskSeen) → HasPulled place most steps r e f → r ≡ Ok pull → slice_get e.asks place ≡ Some one → HasGiven place most pull steps e f one
given_of place most steps r e f pull one h is at = (subst (λ z. IfOk z (λ p. (one : AskSeen) → slice_get e.asks place ≡ Some one → HasGiven place most p steps e f one)) is h.given) one at

module _ (a : Asking) (most : ℕ) (steps : List StepCells) (r : Result Pulled EngineFail) (es fs : List EngineSeen) (h : IsCalled a.engine (HasPulled a.place most steps r) es fs) where
  pub pulled_grown : Each Grows es fs
  pulled_grown = called_each a.engine (HasPulled a.place most steps r) Grows es fs (λ e f p. grows_by _ e f p.holding p.faults) grows_refl h

  pub pulled_fault : (e : EngineSeen) → slice_get es a.engine ≡ Some e → r ≡ Err fail.Failed → HasFailed a.engine es fs
  pulled_fault e at q =
      let o = h.one e at in
      record { e = e; f = o.0; e_at = at; f_at = o.1; rose = o.2.faults.cause.rose q; unsound = λ s. o.2.faults.never s q }

module _ (kept : Kept) (es fs : List EngineSeen) (place : Place) (p : Progress) (dones : List (List StepCells)) (k : ℕ) (a : Asking) (most : ℕ) (steps : List StepCells) (r : Result Pulled EngineFail) (pull : Pulled)
    (i : IsTurn kept es place p dones k a) (h : IsCalled a.engine (HasPulled a.place most steps r) es fs) (is : r ≡ Ok pull) where
  pub f_now : EngineSeen
  f_now = (h.one i.e i.e_at).0

  pub f_at : slice_get fs a.engine ≡ Some f_now
  unfolding f_now
  f_at = (h.one i.e i.e_at).1

  pub given : HasGiven a.place most pull steps i.e f_now i.asked.one
  unfolding f_now
  given = given_of a.place most steps r i.e (h.one i.e i.e_at).0 pull i.asked.one (h.one i.e i.e_at).2 is i.asked.here

  pub holding : f_now.holding ≡ i.e.holding
  unfolding f_now
  holding = (h.one i.e i.e_at).2.holding

  pub counts : IsListed place.gather.ask.walk p.all → CountsStray (stray_pulled pull place.gather.ask (drop (length i.done) p.all) steps) i.e f_now
  counts listed =
      subst (λ o. CountsStray o i.e f_now) (pulled_same pull i.asked.one.ask place.gather.ask i.asked.one.given i.done p.all steps i.asked.alike i.asked.given)
      (given.stray p.all (subst (λ w. IsListed w p.all) (sym i.asked.walk) listed))

  -- one that tells gives none
  no_stray_of_one : IsListed place.gather.ask.walk p.all → (one : Stray) → stray_pulled pull place.gather.ask (drop (length i.done) p.all) steps ≡ Some one → Tells i.e → ⊥
  no_stray_of_one listed one e told =
      let none = if_tells i.e.holding _ given.true_to_form told p.all (subst (λ w. IsListed w p.all) (sym i.asked.walk) listed) in
      let clash : Some one ≡ None = sym e ∙ sym (pulled_same pull i.asked.one.ask place.gather.ask i.asked.one.given i.done p.all steps i.asked.alike i.asked.given) ∙ none in
      absurd (cc)

  pub strayed : IsListed place.gather.ask.walk p.all → (one : Stray) → stray_pulled pull place.gather.ask (drop (length i.done) p.all) steps ≡ Some one → HasStrayed a.engine one es fs
  strayed listed one e =
      let c = subst (λ o. CountsStray o i.e f_now) e (counts listed) in
      record { e = i.e; f = f_now; e_at = i.e_at; f_at = f_at; rose = c.0; last = c.1; untold = λ told. no_stray_of_one listed one e told }

  pub calm : IsListed place.gather.ask.walk p.all → stray_pulled pull place.gather.ask (drop (length i.done) p.all) steps ≡ None → Each KeepsStrays es fs
  calm listed e j d at = ⊎_elim
      (λ s.
      let same : i.e ≡ d = same_at es a.engine i.e d i.e_at (ap (slice_get es) (sym s) ∙ at) in
      (f_now, ap (slice_get fs) s ∙ f_at, subst (λ z. KeepsStrays z f_now) same (subst (λ o. CountsStray o i.e f_now) e (counts listed))))
      (λ n. (d, h.others j n ∙ at, strays_refl d))
      (cases_eq j a.engine)

  pub stays_at : (place_b : ℕ) → slice_get f_now.asks place_b ≡ slice_get i.e.asks place_b → (e : EngineSeen) → slice_get es a.engine ≡ Some e → StaysAt place_b e f_now
  stays_at place_b same e at = subst (λ z. StaysAt place_b z f_now) (same_at es a.engine i.e e i.e_at at) (record { ask = same; holding = holding; spent = given.going })

  pub others_stay : (b : Asking) → Apart a b → AskStays b es fs
  others_stay b apart e at = ⊎_elim
      (λ s.
      let here : slice_get es a.engine ≡ Some e = ap (slice_get es) (sym s) ∙ at in
      let same : slice_get f_now.asks b.place ≡ slice_get i.e.asks b.place = ap (λ l. slice_get l b.place) given.asks ∙ get_set_other i.e.asks a.place b.place (after_pull pull steps i.asked.one) (λ t. apart (sym s) (sym t)) in
      (f_now, ap (slice_get fs) s ∙ f_at, stays_at b.place same e here))
      (λ n. (e, h.others b.engine n ∙ at, stays_refl b.place e))
      (cases_eq b.engine a.engine)

  what_given : (pull : Pulled) (steps : List StepCells) (one : AskSeen) → what_asked (after_pull pull steps one) ≡ what_asked one
  what_given pulled.Frame steps one = refl
  what_given pulled.End steps one = refl

  pub same_asks : Each HasSameAsks es fs
  same_asks j d at = ⊎_elim
      (λ s.
      let same : i.e ≡ d = same_at es a.engine i.e d i.e_at (ap (slice_get es) (sym s) ∙ at) in
      let asks : map what_asked f_now.asks ≡ map what_asked i.e.asks =
      ap (map what_asked) given.asks ∙ map-set what_asked i.e.asks a.place (after_pull pull steps i.asked.one) ∙ ap (slice_set (map what_asked i.e.asks) a.place) (what_given pull steps i.asked.one)
      ∙ set_same (map what_asked i.e.asks) a.place (what_asked i.asked.one) (get_map what_asked i.e.asks a.place i.asked.one i.asked.here) in
      (f_now, ap (slice_get fs) s ∙ f_at, subst (λ (z : EngineSeen). map what_asked f_now.asks ≡ map what_asked z.asks) same asks))
      (λ n. (d, h.others j n ∙ at, refl))
      (cases_eq j a.engine)

-- after an end all asks are as they were
module _ (kept : Kept) (es fs : List EngineSeen) (place : Place) (p : Progress) (dones : List (List StepCells)) (k : ℕ) (a : Asking) (most : ℕ) (steps : List StepCells) (r : Result Pulled EngineFail)
    (i : IsTurn kept es place p dones k a) (h : IsCalled a.engine (HasPulled a.place most steps r) es fs) (is : r ≡ Ok pulled.End) where
  pub end_stays : (b : Asking) → AskStays b es fs
  end_stays b e at = ⊎_elim
      (λ s. by s (cases_eq b.place a.place))
      (λ n. (e, h.others b.engine n ∙ at, stays_refl b.place e))
      (cases_eq b.engine a.engine)
    where
      f : EngineSeen
      f = f_now kept es fs place p dones k a most steps r pulled.End i h is

      g : HasGiven a.place most pulled.End steps i.e f i.asked.one
      g = given kept es fs place p dones k a most steps r pulled.End i h is

      by : b.engine ≡ a.engine → (b.place ≡ a.place) ⊎ (b.place ≡ a.place → ⊥) → (x : EngineSeen) × (slice_get fs b.engine ≡ Some x) × StaysAt b.place e x
      by s (inl t) =
          let l : a.place < length i.e.asks = get_within i.e.asks a.place i.asked.one i.asked.here in
          let same : slice_get f.asks b.place ≡ slice_get i.e.asks b.place = ap (slice_get f.asks) t ∙ ap (λ l. slice_get l a.place) g.asks ∙ get_set_same i.e.asks a.place i.asked.one l ∙ sym i.asked.here ∙ ap (slice_get i.e.asks) (sym t) in
          (f, ap (slice_get fs) s ∙ f_at kept es fs place p dones k a most steps r pulled.End i h is, stays_at kept es fs place p dones k a most steps r pulled.End i h is b.place same e (ap (slice_get es) (sym s) ∙ at))
      by s (inr n) =
          let same : slice_get f.asks b.place ≡ slice_get i.e.asks b.place = ap (λ l. slice_get l b.place) g.asks ∙ get_set_other i.e.asks a.place b.place i.asked.one n in
          (f, ap (slice_get fs) s ∙ f_at kept es fs place p dones k a most steps r pulled.End i h is, stays_at kept es fs place p dones k a most steps r pulled.End i h is b.place same e (ap (slice_get es) (sym s) ∙ at))

-- ---- a place whose asks are as they were

pub still_stands : (kept : Kept) (ask bid : Ask) (e f : EngineSeen) (place : ℕ) (done owes : List StepCells) → bid ≡ ask → StaysAt place e f → AskStands kept ask e place done owes → AskStands kept bid f place done owes
still_stands kept ask bid e f place done owes same stays s = record {
  going = stays.spent ∙ s.going;
  one = s.one;
  here = stays.ask ∙ s.here;
  kept_are = s.kept_are;
  walk = s.walk ∙ ap (λ (x : Ask). x.walk) (sym same);
  alike = subst (JudgeAlike s.one.ask) (sym same) s.alike;
  given = s.given;
  told = λ t. s.told (ap is_some (sym stays.holding) ∙ t);
}

pub still_at : (kept : Kept) (ask bid : Ask) (es fs : List EngineSeen) (b : Asking) (done owes : List StepCells) → bid ≡ ask → AskStays b es fs → AskAt kept ask es b done owes → AskAt kept bid fs b done owes
still_at kept ask bid es fs b done owes same stays (e, at, s) =
    let k = stays e at in
    (k.0, k.1, still_stands kept ask bid e k.0 b.place done owes same k.2 s)

pub place_kept : (kept : Kept) (old new : Place) (es fs : List EngineSeen) (p q : Progress) (s : PlaceStands kept es old p) → new.asks ≡ old.asks → new.gather.ask ≡ old.gather.ask → new.gather.spent ≡ false → q.kind ≡ p.kind → q.owed ≡ p.owed
    → Stands new.gather q.all s.dones q.taken → ((k : ℕ) (b : Asking) → slice_get old.asks k ≡ Some b → AskStays b es fs) → PlaceStands kept fs new q
place_kept kept old new es fs p q s asks ask going kind owed stands stays = record {
  going = going;
  kind = ap (λ (x : Ask). x.kind) ask ∙ s.kind ∙ sym kind;
  few = subst (λ (l : List Asking). length l < 2 ^ 32) (sym asks) s.few;
  dones = s.dones;
  stands = stands;
  delivered = s.delivered ∙ ap length (sym asks);
  asks = λ k b done owes at d o. (let x : slice_get old.asks k ≡ Some b = ap (λ l. slice_get l k) (sym asks) ∙ at in still_at kept old.gather.ask new.gather.ask es fs b done owes ask (stays k b x) (s.asks k b done owes x d (ap (λ l. slice_get l k) (sym owed) ∙ o)));
  owing = ap length owed ∙ s.owing ∙ ap length (sym asks);
  apart = λ j k a b x y. s.apart j k a b (ap (λ l. slice_get l j) (sym asks) ∙ x) (ap (λ l. slice_get l k) (sym asks) ∙ y);
}

-- ---- a delivery

told_on : (done steps left owes : List StepCells) → steps ≡ take (length steps) left → done ++ left ≡ owes → (done ++ steps) ++ drop (length steps) left ≡ owes
told_on done steps left owes e f =
    append_assoc done steps (drop (length steps) left) ∙ ap (λ l. done ++ l) (ap (λ l. l ++ drop (length steps) left) e ∙ take-append-drop (length steps) left) ∙ f

module _ (kept : Kept) (old new : Place) (es fs : List EngineSeen) (p : Progress) (k : ℕ) (a : Asking) (most : ℕ) (steps : List StepCells) (r : Result Pulled EngineFail) (s : PlaceStands kept es old p) (i : IsTurn kept es old p s.dones k a)
    (h : IsCalled a.engine (HasPulled a.place most steps r) es fs) (is : r ≡ Ok pulled.Frame) (asks : new.asks ≡ old.asks) (ask : new.gather.ask ≡ old.gather.ask) (going : new.gather.spent ≡ false)
    (stands : Stands new.gather p.all (slice_set s.dones k (i.done ++ steps)) p.taken) where
  one_fed : AskAt kept new.gather.ask fs a (i.done ++ steps) i.owes
  one_fed =
      let f = f_now kept es fs old p s.dones k a most steps r pulled.Frame i h is in
      let g = given kept es fs old p s.dones k a most steps r pulled.Frame i h is in
      let l : a.place < length i.e.asks = get_within i.e.asks a.place i.asked.one i.asked.here in
      let same : f.holding ≡ i.e.holding = holding kept es fs old p s.dones k a most steps r pulled.Frame i h is in (
        f,
        f_at kept es fs old p s.dones k a most steps r pulled.Frame i h is,
        record {
          going = g.going ∙ i.asked.going;
          one = after_steps steps i.asked.one;
          here = ap (λ x. slice_get x a.place) g.asks ∙ get_set_same i.e.asks a.place (after_steps steps i.asked.one) l;
          kept_are = i.asked.kept_are;
          walk = i.asked.walk ∙ ap (λ (x : Ask). x.walk) (sym ask);
          alike = subst (JudgeAlike i.asked.one.ask) (sym ask) i.asked.alike;
          given = ap (λ n. n + length steps) i.asked.given ∙ sym (length-append i.done steps);
          told = λ t. (let before : Tells i.e = ap is_some (sym same) ∙ t in told_on i.done steps i.asked.one.left i.owes (if_tells i.e.holding _ g.gives before).0 (i.asked.told before));
        },
      )

  all_fed : (j : ℕ) (b : Asking) (done owes : List StepCells) → slice_get old.asks j ≡ Some b → slice_get (slice_set s.dones k (i.done ++ steps)) j ≡ Some done → slice_get p.owed j ≡ Some owes → AskAt kept new.gather.ask fs b done owes
  all_fed j b done owes b_at d o = ⊎_elim
      (λ e.
      let same : a ≡ b = same_at old.asks k a b i.a_at (ap (slice_get old.asks) (sym e) ∙ b_at) in
      let l : k < length s.dones = get_within s.dones k i.done i.done_at in
      let d2 : i.done ++ steps ≡ done = some_same (i.done ++ steps) done (sym (get_set_same s.dones k (i.done ++ steps) l) ∙ ap (slice_get (slice_set s.dones k (i.done ++ steps))) (sym e) ∙ d) in
      let o2 : i.owes ≡ owes = same_at p.owed k i.owes owes i.owes_at (ap (slice_get p.owed) (sym e) ∙ o) in
      subst (λ z. AskAt kept new.gather.ask fs z done owes) same (subst (λ z. AskAt kept new.gather.ask fs a z owes) d2 (subst (λ z. AskAt kept new.gather.ask fs a (i.done ++ steps) z) o2 one_fed)))
      (λ n. still_at kept old.gather.ask new.gather.ask es fs b done owes ask
      (others_stay kept es fs old p s.dones k a most steps r pulled.Frame i h is b (s.apart k j a b i.a_at b_at (λ e. n (sym e))))
      (s.asks j b done owes b_at (sym (get_set_other s.dones k j (i.done ++ steps) n) ∙ d) o))
      (cases_eq j k)

  pub place_fed : PlaceStands kept fs new p
  place_fed = record {
    going = going;
    kind = ap (λ (x : Ask). x.kind) ask ∙ s.kind;
    few = subst (λ (l : List Asking). length l < 2 ^ 32) (sym asks) s.few;
    dones = slice_set s.dones k (i.done ++ steps);
    stands = stands;
    delivered = length-set s.dones k (i.done ++ steps) ∙ s.delivered ∙ ap length (sym asks);
    asks = λ j b done owes x d o. all_fed j b done owes (ap (λ l. slice_get l j) (sym asks) ∙ x) d o;
    owing = s.owing ∙ ap length (sym asks);
    apart = λ j l b c x y. s.apart j l b c (ap (λ v. slice_get v j) (sym asks) ∙ x) (ap (λ v. slice_get v l) (sym asks) ∙ y);
  }
