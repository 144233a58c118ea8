-- What the asks of one request make of engines.
use Rattle.std.proofs.Common.{◌≡◌, ◌∙◌, ℕ, zero, suc, ◌+◌, ◌<◌, Bool, true, false, List, [], ◌∷◌, ◌++◌, length, take, slice_get, refl, sym, ap, subst, arith, Some, ⊎_elim}
use Rattle.std.specs.Prelude.{Ok, Err, Result, IfOk, OnOk, ◌==◌, ◌||◌}
use Rattle.std.proofs.lemmas.Bool.{cases_eq, eq-eqb, ne_eqb, or_left, or_right}
use Rattle.std.proofs.lemmas.List.{map-append}
use Rattle.std.proofs.lemmas.List.Folds.{list_any-append}
use Rattle.promql_type.specs.Replacements.{Kept}
use Rattle.remote_api.specs.Seen.{AskSeen, EngineSeen, HasAsked, KeepsStrays, MayAsk}
use Rattle.remote_api.specs.declared.engine.EngineFail.{EngineFail}
use Rattle.remote_api.specs.declared.engine.EngineFail.TheVariants as fail
use Rattle.ticks.specs.declared.grid.Grid.{Grid}
use Rattle.exchange.specs.declared.place.Asking.{Asking}
use Rattle.exchange.specs.declared.request.Request.{Request}
use Rattle.exchange.specs.Asked.{IsAskFor, MayRequest, is_among}
use Rattle.exchange.specs.Calls.{Each, Grows, IsCalled, StaysAt}
use Rattle.exchange.specs.Faults.{HasFailed}
use Rattle.exchange.specs.Opened.{AreBehind, AskedOnce, GainsAsk, IsAskedOnce, engines_of}
use Rattle.exchange.specs.Requests.{AreRising}
use Rattle.exchange.proofs.Keeping.{called_each, grows_by, grows_refl, strays_refl}
use Rattle.exchange.proofs.Lists.{each_more, front_get, get_within, same_at, take_get, take_one_more, within_get}

-- ---- which numbers are among others

pub among_at : (numbers : List ℕ) (k i : ℕ) → slice_get numbers k ≡ Some i → is_among numbers i ≡ true
among_at [] k i e = absurd (cc)
among_at (n ∷ numbers) zero i e = or_left (n == i) (is_among numbers i) (eq-eqb n i (cc))
among_at (n ∷ numbers) (suc k) i e = or_right (n == i) (is_among numbers i) (among_at numbers k i e)

pub not_among : (numbers : List ℕ) (i : ℕ) → ((k n : ℕ) → slice_get numbers k ≡ Some n → n ≡ i → ⊥) → is_among numbers i ≡ false
not_among [] i h = refl
not_among (n ∷ numbers) i h = (λ j. ne_eqb n i (h 0 n refl) j || not_among numbers i (λ k m e. h (suc k) m e) j)

pub not_yet : (numbers : List ℕ) (k i : ℕ) → AreRising numbers → slice_get numbers k ≡ Some i → is_among (take k numbers) i ≡ false
not_yet numbers k i rising at = not_among (take k numbers) i
    (λ j n e s.
    let t = take_get numbers k j n e in
    let l : n < i = rising j k n i t.0 at t.1 in
    absurd (omega arith))

among_new : (numbers : List ℕ) (n i : ℕ) → i ≡ n → is_among (numbers ++ n ∷ []) i ≡ true
among_new numbers n i e = list_any-append (λ (m : ℕ). m == i) numbers (n ∷ []) ∙ or_right (is_among numbers i) ((n == i) || false) (or_left (n == i) false (eq-eqb n i (sym e)))

or_none : (b : Bool) → (b || false) ≡ b
or_none true = refl
or_none false = refl

among_old : (numbers : List ℕ) (n i : ℕ) → (i ≡ n → ⊥) → is_among (numbers ++ n ∷ []) i ≡ is_among numbers i
among_old numbers n i h =
    list_any-append (λ (m : ℕ). m == i) numbers (n ∷ []) ∙ ap (λ b. is_among numbers i || (b || false)) (ne_eqb n i (λ e. h (sym e))) ∙ or_none (is_among numbers i)

-- ---- one ask

module _ (span : Grid) (kept : Kept) (r : Request) (place : ℕ) (result : Result ℕ EngineFail) (e f : EngineSeen) (h : HasAsked r.part r.walk span kept result e f) (is : result ≡ Ok place) where
  asked_of : (place ≡ length e.asks) × (one : AskSeen) × (f.asks ≡ e.asks ++ one ∷ []) × IsAskFor span kept e.holding r one
  asked_of = subst (λ z. IfOk z (λ p. (p ≡ length e.asks) × (one : AskSeen) × (f.asks ≡ e.asks ++ one ∷ []) × IsAskFor span kept e.holding r one)) is h.asked

  going_of : f.spent ≡ e.spent
  going_of = subst (λ z. OnOk z (f.spent ≡ e.spent)) is h.going

module _ (span : Grid) (kept : Kept) (r : Request) (n : ℕ) (result : Result ℕ EngineFail) (fs gs : List EngineSeen) (called : IsCalled n (HasAsked r.part r.walk span kept result) fs gs) where
  pub asked_grown : Each Grows fs gs
  asked_grown = called_each n (HasAsked r.part r.walk span kept result) Grows fs gs (λ e f h. grows_by _ e f h.holding h.faults) grows_refl called

  pub asked_calm : Each KeepsStrays fs gs
  asked_calm = called_each n (HasAsked r.part r.walk span kept result) KeepsStrays fs gs (λ e f h. h.strays) strays_refl called

  pub asked_failed : (e : EngineSeen) → slice_get fs n ≡ Some e → result ≡ Err fail.Failed → HasFailed n fs gs
  asked_failed e at q =
      let o = called.one e at in
      record { e = e; f = o.0; e_at = at; f_at = o.1; rose = o.2.faults.cause.rose q; unsound = λ s. o.2.faults.never s q }

-- ---- the asks of a request so far, and one more

module _ (span : Grid) (kept : Kept) (r : Request) (n place : ℕ) (result : Result ℕ EngineFail) (es fs gs : List EngineSeen) (numbers : List ℕ) (once : AskedOnce span kept r numbers es fs) (fresh : is_among numbers n ≡ false)
    (called : IsCalled n (HasAsked r.part r.walk span kept result) fs gs) (is : result ≡ Ok place) where
  same_asks : (i : ℕ) (e f : EngineSeen) → i ≡ n → IsAskedOnce span kept r (is_among numbers i) e f → f.asks ≡ e.asks
  same_asks i e f s x = subst (λ b. GainsAsk span kept r b e f) (ap (is_among numbers) s ∙ fresh) x.gains

  pub once_more : AskedOnce span kept r (numbers ++ n ∷ []) es gs
  once_more i e at =
      let x = once i e at in
      ⊎_elim
      (λ s.
      let o = called.one x.0 (ap (slice_get fs) (sym s) ∙ x.1) in
      let a = asked_of span kept r place result x.0 o.0 o.2 is in
      let gains : GainsAsk span kept r true e o.0 = (a.1, a.2 ∙ ap (λ l. l ++ a.1 ∷ []) (same_asks i e x.0 s x.2), subst (λ (h : _). IsAskFor span kept h r a.1) x.2.holding a.3) in (
        o.0,
        ap (slice_get gs) s ∙ o.1,
        record {
          gains = subst (λ b. GainsAsk span kept r b e o.0) (sym (among_new numbers n i s)) gains;
          holding = o.2.holding ∙ x.2.holding;
          spent = going_of span kept r place result x.0 o.0 o.2 is ∙ x.2.spent;
        },
      ))
      (λ ne. (x.0, called.others i ne ∙ x.1, subst (λ b. IsAskedOnce span kept r b e x.0) (sym (among_old numbers n i ne)) x.2))
      (cases_eq i n)

  pub behind_now : (e : EngineSeen) → slice_get es n ≡ Some e → place ≡ length e.asks
  behind_now e at =
      let x = once n e at in
      let o = called.one x.0 x.1 in
      (asked_of span kept r place result x.0 o.0 o.2 is).0 ∙ ap length (same_asks n e x.0 refl x.2)

-- engines that may still be called
pub still_going : (span : Grid) (kept : Kept) (r : Request) (numbers : List ℕ) (es fs : List EngineSeen) → length fs ≡ length es → ((i : ℕ) (e : EngineSeen) → slice_get es i ≡ Some e → e.spent ≡ false) → AskedOnce span kept r numbers es fs
    → (i : ℕ) (f : EngineSeen) → slice_get fs i ≡ Some f → f.spent ≡ false
still_going span kept r numbers es fs l going once i f at =
    let e = within_get es i (subst (λ n. i < n) l (get_within fs i f at)) in
    let x = once i e.0 e.1 in
    ap (λ (z : EngineSeen). z.spent) (sym (same_at fs i x.0 f x.1 at)) ∙ x.2.spent ∙ going i e.0 e.1

-- ---- asks that were there

gains_front : (span : Grid) (kept : Kept) (r : Request) (b : Bool) (e f : EngineSeen) (place : ℕ) → GainsAsk span kept r b e f → place < length e.asks → slice_get f.asks place ≡ slice_get e.asks place
gains_front span kept r true e f place g l = ap (λ z. slice_get z place) g.1 ∙ front_get e.asks (g.0 ∷ []) place l
gains_front span kept r false e f place g l = ap (λ z. slice_get z place) g

pub once_stays : (span : Grid) (kept : Kept) (r : Request) (numbers : List ℕ) (fs gs : List EngineSeen) (b : Asking) (f : EngineSeen) → AskedOnce span kept r numbers fs gs → slice_get fs b.engine ≡ Some f → b.place < length f.asks
    → (g : EngineSeen) × (slice_get gs b.engine ≡ Some g) × StaysAt b.place f g
once_stays span kept r numbers fs gs b f once at l =
    let x = once b.engine f at in
    (x.0, x.1, record { ask = gains_front span kept r (is_among numbers b.engine) f x.0 b.place x.2.gains l; holding = x.2.holding; spent = x.2.spent })

-- ---- under the patterns of the first call

pub asked_kept : (k l : Kept) (span : Grid) (r : Request) (n : ℕ) (result : Result ℕ EngineFail) (fs gs : List EngineSeen) → l ≡ k → IsCalled n (HasAsked r.part r.walk span l result) fs gs → IsCalled n (HasAsked r.part r.walk span k result) fs gs
asked_kept k l span r n result fs gs e h = subst (λ z. IsCalled n (HasAsked r.part r.walk span z result) fs gs) e h

pub may_now : (k l : Kept) (span : Grid) (r : Request) (e : EngineSeen) → l ≡ k → MayRequest span k r → e.spent ≡ false → MayAsk r.part r.walk span l e
may_now k l span r e same h going = subst (λ z. MayAsk r.part r.walk span z e) (sym same) (h.may e going)

pub number_more : (asks new : List Asking) (x : Asking) (numbers : List ℕ) (k : ℕ) → engines_of asks ≡ take k numbers → slice_get numbers k ≡ Some x.engine → new ≡ asks ++ x ∷ [] → engines_of new ≡ take (k + 1) numbers
number_more asks new x numbers k e at n = ap engines_of n ∙ map-append (λ (a : Asking). a.engine) asks (x ∷ []) ∙ ap (λ l. l ++ x.engine ∷ []) e ∙ take_one_more numbers k x.engine at

pub behind_more : (es : List EngineSeen) (asks new : List Asking) (x : Asking) → AreBehind es asks → ((e : EngineSeen) → slice_get es x.engine ≡ Some e → x.place ≡ length e.asks) → new ≡ asks ++ x ∷ [] → AreBehind es new
behind_more es asks new x h now n k a e at e_at = each_more (λ _ (b : Asking). (d : EngineSeen) → slice_get es b.engine ≡ Some d → b.place ≡ length d.asks) asks x (λ j b b_at d d_at. h j b d b_at d_at) now k a (ap (λ l. slice_get l k) (sym n) ∙ at) e e_at

pub once_next : (span : Grid) (kept : Kept) (r : Request) (numbers : List ℕ) (k n : ℕ) (es gs : List EngineSeen) → slice_get numbers k ≡ Some n → AskedOnce span kept r (take k numbers ++ n ∷ []) es gs → AskedOnce span kept r (take (k + 1) numbers) es gs
once_next span kept r numbers k n es gs at h = subst (λ l. AskedOnce span kept r l es gs) (take_one_more numbers k n at) h
