-- What becomes of all places where one goes on.
use Rattle.std.proofs.Common.{◌≡◌, ◌∙◌, ℕ, ◌<◌, List, length, slice_get, slice_set, refl, sym, ap, subst, Some, ⊎_elim}
use Rattle.std.proofs.lemmas.Bool.{cases_eq}
use Rattle.std.proofs.lemmas.List.{length-set}
use Rattle.op_gather.specs.Histories.{steps_at}
use Rattle.op_gather.specs.Joined.{AreInside, LendsJoined}
use Rattle.promql_type.specs.Replacements.{Kept}
use Rattle.remote_api.specs.Seen.{EngineSeen}
use Rattle.std.specs.Prelude.{Ok, Err, OnOk, Result}
use Rattle.step_table.specs.declared.cells.PartKind.TheVariants.{Windows}
use Rattle.step_table.specs.declared.cells.StepCells.{StepCells}
use Rattle.ticks.specs.declared.moment.Ms.{Ms}
use Rattle.exchange.specs.declared.place.Asking.{Asking}
use Rattle.exchange.specs.declared.place.Place.{Place}
use Rattle.exchange.specs.Calls.{AskStays}
use Rattle.exchange.specs.Standing.{AllStand, AllTell, GivesSteps, Going, IsApartFrom, LendsAt, MayAdvance, PlaceStands, Progress, gone_on}
use Rattle.exchange.proofs.Lists.{get_set_other, get_set_same, get_within, same_at, some_same}
use Rattle.exchange.proofs.Turning.{place_kept}

module _ (kept : Kept) (places : List Place) (es fs : List EngineSeen) (ps : List Progress) (i : ℕ) (old new : Place) (p : Progress) (all : AllStand kept es places ps) (old_at : slice_get places i ≡ Some old) (p_at : slice_get ps i ≡ Some p) (asks : new.asks ≡ old.asks)
    (others : (b : Asking) → IsApartFrom old.asks b → AskStays b es fs) where
  -- the place that was there, with its asks
  was : (k : ℕ) (x : Place) → slice_get (slice_set places i new) k ≡ Some x → (y : Place) × (slice_get places k ≡ Some y) × (x.asks ≡ y.asks)
  was k x at = ⊎_elim
      (λ e. (old, ap (slice_get places) e ∙ old_at, ap (λ (z : Place). z.asks) (sym (some_same new x (sym (get_set_same places i new (get_within places i old old_at)) ∙ ap (slice_get (slice_set places i new)) (sym e) ∙ at))) ∙ asks))
      (λ n. (x, sym (get_set_other places i k new n) ∙ at, refl))
      (cases_eq k i)

  pub one_gone_on : PlaceStands kept fs new (gone_on p) → AllStand kept fs (slice_set places i new) (slice_set ps i (gone_on p))
  one_gone_on s = record {
    as_many = length-set ps i (gone_on p) ∙ all.as_many ∙ sym (length-set places i new);
    stand = λ k x q x_at q_at. ⊎_elim
        (λ e.
        let a : new ≡ x = some_same new x (sym (get_set_same places i new (get_within places i old old_at)) ∙ ap (slice_get (slice_set places i new)) (sym e) ∙ x_at) in
        let b : gone_on p ≡ q = some_same (gone_on p) q (sym (get_set_same ps i (gone_on p) (get_within ps i p p_at)) ∙ ap (slice_get (slice_set ps i (gone_on p))) (sym e) ∙ q_at) in
        subst (λ z. PlaceStands kept fs x z) b (subst (λ z. PlaceStands kept fs z (gone_on p)) a s))
        (λ n.
        let x_was : slice_get places k ≡ Some x = sym (get_set_other places i k new n) ∙ x_at in
        let t = all.stand k x q x_was (sym (get_set_other ps i k (gone_on p) n) ∙ q_at) in
        place_kept kept x x es fs q q t refl refl t.going refl refl t.stands (λ m b b_at. others b (λ j a a_at. all.apart i k j m old x a b old_at x_was (λ e. n (sym e)) a_at b_at)))
        (cases_eq k i);
    apart = λ j k m n x y a b x_at y_at ne a_at b_at.
        (let u = was j x x_at in
        let v = was k y y_at in
        all.apart j k m n u.0 v.0 a b u.1 v.1 ne (ap (λ w. slice_get w m) (sym u.2) ∙ a_at) (ap (λ w. slice_get w n) (sym v.2) ∙ b_at));
  }

-- what an exchange asks for is there
pub place_within : (k : ℕ) (kept : Kept) (es : List EngineSeen) (places : List Place) → MayAdvance k kept es places → k < length places
place_within k kept es places m = subst (λ n. k < n) m.all.as_many (get_within m.ps k m.p m.p_at)

pub place_stands : (k : ℕ) (kept : Kept) (es : List EngineSeen) (places : List Place) (place : Place) → MayAdvance k kept es places → slice_get places k ≡ Some place → (p : Progress) × PlaceStands kept es place p × Going p
place_stands k kept es places place m at = (m.p, m.all.stand k place m.p at m.p_at, m.going)

-- ---- places as they are kept, and as contracts see them

pub place_within_own : (k : ℕ) (kept : Kept) (es : List EngineSeen) (own seen : List Place) → own ≡ seen → MayAdvance k kept es seen → k < length own
place_within_own k kept es own seen e m = subst (λ l. k < length l) (sym e) (place_within k kept es seen m)

pub place_stands_own : (k : ℕ) (kept : Kept) (es : List EngineSeen) (own seen : List Place) (place : Place) → own ≡ seen → MayAdvance k kept es seen → slice_get own k ≡ Some place → (p : Progress) × PlaceStands kept es place p × Going p
place_stands_own k kept es own seen place e m at = place_stands k kept es seen place m (ap (λ l. slice_get l k) (sym e) ∙ at)

pub all_own : (kept : Kept) (es : List EngineSeen) (own seen : List Place) (ps : List Progress) → own ≡ seen → AllStand kept es seen ps → AllStand kept es own ps
all_own kept es own seen ps e all = subst (λ l. AllStand kept es l ps) (sym e) all

pub place_same : (own seen : List Place) (k : ℕ) (place old : Place) → own ≡ seen → slice_get own k ≡ Some old → slice_get seen k ≡ Some place → place ≡ old
place_same own seen k place old e at place_at = same_at own k place old (ap (λ l. slice_get l k) e ∙ place_at) at

pub asks_own : (own seen : List Place) (k : ℕ) (place old new one : Place) → own ≡ seen → slice_get own k ≡ Some old → slice_get seen k ≡ Some place → slice_get (slice_set own k new) k ≡ Some one → new.asks ≡ old.asks → one.asks ≡ place.asks
asks_own own seen k place old new one e at place_at one_at asks =
    let here : one ≡ new = same_at (slice_set own k new) k one new one_at (get_set_same own k new (get_within own k old at)) in
    ap (λ (x : Place). x.asks) here ∙ asks ∙ ap (λ (x : Place). x.asks) (sym (place_same own seen k place old e at place_at))

-- the gather at each place keeps its ask, where that at one place does
pub same_ask_own : (own seen : List Place) (i k : ℕ) (place old new one : Place) → own ≡ seen → slice_get own i ≡ Some old → slice_get seen k ≡ Some place → slice_get (slice_set own i new) k ≡ Some one → new.gather.ask ≡ old.gather.ask
    → one.gather.ask ≡ place.gather.ask
same_ask_own own seen i k place old new one e at place_at one_at same = ⊎_elim
    (λ here.
    let new_at : slice_get (slice_set own i new) i ≡ Some one = ap (slice_get (slice_set own i new)) (sym here) ∙ one_at in
    let is_new : one ≡ new = same_at (slice_set own i new) i one new new_at (get_set_same own i new (get_within own i old at)) in
    let is_old : place ≡ old = place_same own seen i place old e at (ap (slice_get seen) (sym here) ∙ place_at) in
    ap (λ (x : Place). x.gather.ask) is_new ∙ same ∙ ap (λ (x : Place). x.gather.ask) (sym is_old))
    (λ other. ap (λ (x : Place). x.gather.ask) (same_at own k one place (sym (get_set_other own i k new other) ∙ one_at) (ap (λ l. slice_get l k) e ∙ place_at)))
    (cases_eq k i)

pub inside_own : {T E : Type 0} (own : List Place) (k : ℕ) (old new one : Place) (r : Result T E) → slice_get own k ≡ Some old → slice_get (slice_set own k new) k ≡ Some one
    → (new.gather.ask.kind ≡ Windows → OnOk r (AreInside new.gather.ask new.gather.windows)) → one.gather.ask.kind ≡ Windows → OnOk r (AreInside one.gather.ask one.gather.windows)
inside_own own k old new one r at one_at =
    subst (λ (z : Place). z.gather.ask.kind ≡ Windows → OnOk r (AreInside z.gather.ask z.gather.windows)) (same_at (slice_set own k new) k new one (get_set_same own k new (get_within own k old at)) one_at)

on_ok : {T E : Type 0} (r : Result T E) (P Q : Type 0) → (P → Q) → OnOk r P → OnOk r Q
on_ok (Ok x) P Q f h = f h
on_ok (Err x) P Q f h = tt

pub gone_on_own : {T E : Type 0} (kept : Kept) (own : List Place) (es fs : List EngineSeen) (ps : List Progress) (i : ℕ) (old new : Place) (p : Progress) (r : Result T E) → AllStand kept es own ps → slice_get own i ≡ Some old → slice_get ps i ≡ Some p → new.asks ≡ old.asks
    → ((b : Asking) → IsApartFrom old.asks b → OnOk r (AskStays b es fs)) → OnOk r (PlaceStands kept fs new (gone_on p)) → OnOk r (AllStand kept fs (slice_set own i new) (slice_set ps i (gone_on p)))
gone_on_own kept own es fs ps i old new p (Ok x) all at p_at asks alone s = one_gone_on kept own es fs ps i old new p all at p_at asks alone s
gone_on_own kept own es fs ps i old new p (Err x) all at p_at asks alone s = tt

pub lends_own : {T E : Type 0} (own seen : List Place) (k : ℕ) (place old new : Place) (es : List EngineSeen) (p : Progress) (t : Ms) (r : Result T E) → own ≡ seen → slice_get own k ≡ Some old → slice_get seen k ≡ Some place
    → OnOk r ((steps : List StepCells) × GivesSteps es old.asks p steps × LendsJoined p.kind t steps new.gather.lent new.gather.windows) → OnOk r ((steps : List StepCells) × GivesSteps es place.asks p steps × LendsAt (slice_set own k new) k p.kind t steps)
lends_own own seen k place old new es p t r e at place_at = on_ok r _ _
    (λ x. (x.0, subst (λ (z : Place). GivesSteps es z.asks p x.0) (sym (place_same own seen k place old e at place_at)) x.1, record { place = new; place_at = get_set_same own k new (get_within own k old at); joined = x.2 }))

pub lends_told_own : {T E : Type 0} (own seen : List Place) (k : ℕ) (place old new : Place) (es : List EngineSeen) (p : Progress) (t : Ms) (r : Result T E) → own ≡ seen → slice_get own k ≡ Some old → slice_get seen k ≡ Some place → AllTell place.asks es
    → (AllTell old.asks es → OnOk r (LendsJoined p.kind t (steps_at p.taken p.owed) new.gather.lent new.gather.windows)) → OnOk r (LendsAt (slice_set own k new) k p.kind t (steps_at p.taken p.owed))
lends_told_own own seen k place old new es p t r e at place_at tell h = on_ok r _ _
    (λ x. record { place = new; place_at = get_set_same own k new (get_within own k old at); joined = x }) (h (subst (λ (z : Place). AllTell z.asks es) (place_same own seen k place old e at place_at) tell))
