-- Places whose asks were just made.
use Rattle.std.proofs.Common.{◌≡◌, ◌∙◌, ℕ, zero, suc, ◌+◌, ◌<◌, ◌⊎◌, ◌^◌, Bool, true, false, List, [], ◌∷◌, ◌++◌, length, take, slice_get, refl, sym, ap, subst, arith, Some, None, inl, inr, ⊎_elim, replicate, append-nil}
use Rattle.std.specs.Prelude.{Option, IfSome, cond, is_some}
use Rattle.std.specs.List.{AllByRecursion, AllZip}
use Rattle.std.proofs.lemmas.Bool.{false≢true}
use Rattle.std.proofs.lemmas.List.Elements.{filter-append}
use Rattle.op_gather.specs.Histories.{Stands}
use Rattle.promql_meaning.specs.Selecting.{asked_over}
use Rattle.promql_type.specs.Replacements.{Kept}
use Rattle.remote_api.specs.Seen.{EngineSeen, Holding, IsWindowOf, owed}
use Rattle.remote_api.specs.declared.asks.Ask.{Ask}
use Rattle.remote_api.specs.declared.asks.Part.{Part}
use Rattle.step_table.specs.declared.cells.PartKind.TheVariants as part_kind
use Rattle.step_table.specs.declared.cells.StepCells.{StepCells}
use Rattle.ticks.specs.Listed.{IsListed}
use Rattle.ticks.specs.declared.grid.Grid.{Grid}
use Rattle.ticks.specs.declared.moment.Ms.{Ms}
use Rattle.ticks.specs.declared.walk.Walk.{Walk}
use Rattle.exchange.specs.declared.place.Asking.{Asking}
use Rattle.exchange.specs.declared.place.Place.{Place}
use Rattle.exchange.specs.declared.request.Request.{Request}
use Rattle.exchange.specs.Asked.{AreAsked, AreOwed, IsAskFor, IsOwed, MayRequest, is_among, owed_by, owed_over, requests_of}
use Rattle.exchange.specs.Calls.{Each, Grows}
use Rattle.exchange.specs.InOrder.{in_order_of_asks}
use Rattle.exchange.specs.Opened.{AreBehind, AreOpened, AskTheirEngines, AskTheirRequests, AskedOnce, GainsAsk, IsAskedOnce, IsMade, IsOpened, engines_of}
use Rattle.exchange.specs.Requests.{IsRequest, ask_of}
use Rattle.exchange.specs.Standing.{AllStand, Apart, AreApart, AskAt, JudgeAlike, PlaceStands, Progress}
use Rattle.exchange.proofs.Alike.{asks_alike}
use Rattle.exchange.proofs.Keeping.{before_each}
use Rattle.exchange.proofs.Lists.{back_get, each_at, get_map, get_within, many, map_size, replicated, same_at, split_get, take_one_more, within_get, zip_more}
use Rattle.exchange.proofs.Making.{among_at, once_stays}

-- ---- one place

number_of : (asks : List Asking) (numbers : List ℕ) (k : ℕ) (a : Asking) → engines_of asks ≡ numbers → slice_get asks k ≡ Some a → slice_get numbers k ≡ Some a.engine
number_of asks numbers k a e at = ap (λ l. slice_get l k) (sym e) ∙ get_map (λ (a : Asking). a.engine) asks k a at

size_of : (asks : List Asking) (numbers : List ℕ) → engines_of asks ≡ numbers → length asks ≡ length numbers
size_of asks numbers e = sym (map_size (λ (a : Asking). a.engine) asks) ∙ ap length e

made_by : (span : Grid) (kept : Kept) (es fs : List EngineSeen) (r : Request) (a : Asking) (e f : EngineSeen) → slice_get es a.engine ≡ Some e → slice_get fs a.engine ≡ Some f → a.place ≡ length e.asks → IsAskedOnce span kept r true e f → e.spent ≡ false → IsMade span kept es fs r a
made_by span kept es fs r a e f e_at f_at behind once going = record {
  e = e;
  f = f;
  e_at = e_at;
  f_at = f_at;
  one = once.gains.0;
  here = ap (λ l. slice_get l a.place) once.gains.1 ∙ ap (slice_get (e.asks ++ once.gains.0 ∷ [])) behind ∙ back_get e.asks once.gains.0;
  asked = once.gains.2;
  holding = once.holding;
  going = once.spent ∙ going;
}

-- the asks of a request make a place of its gather
pub opened_now : (span : Grid) (kept : Kept) (es fs : List EngineSeen) (r : Request) (place : Place) → place.gather.ask ≡ ask_of r → place.gather.spent ≡ false → length r.engines < 2 ^ 32
    → ((all : List Ms) → IsListed r.walk all → Stands place.gather all (replicate (length r.engines) []) 0) → engines_of place.asks ≡ r.engines → AreBehind es place.asks → AskedOnce span kept r r.engines es fs
    → ((k i : ℕ) → slice_get r.engines k ≡ Some i → i < length es) → ((i : ℕ) (e : EngineSeen) → slice_get es i ≡ Some e → e.spent ≡ false) → IsOpened span kept es fs r place
opened_now span kept es fs r place ask going few fresh numbers behind once inside free = record {
  ask = ask;
  going = going;
  few = let n : length place.asks ≡ length r.engines = size_of place.asks r.engines numbers in subst (λ m. m < 2 ^ 32) (sym n) few;
  fresh = fresh;
  numbers = numbers;
  made = λ k a at.
      (let n : slice_get r.engines k ≡ Some a.engine = number_of place.asks r.engines k a numbers at in
      let e = within_get es a.engine (inside k a.engine n) in
      let x = once a.engine e.0 e.1 in
      made_by span kept es fs r a e.0 x.0 e.1 x.1 (behind k a e.0 at e.1) (subst (λ b. IsAskedOnce span kept r b e.0 x.0) (among_at r.engines k a.engine n) x.2) (free a.engine e.0 e.1));
}

-- ---- the places so far, and one more

made_kept : (span : Grid) (kept : Kept) (es fs gs : List EngineSeen) (r one : Request) (numbers : List ℕ) (a : Asking) → AskedOnce span kept one numbers fs gs → IsMade span kept es fs r a → IsMade span kept es gs r a
made_kept span kept es fs gs r one numbers a once m =
    let x = once_stays span kept one numbers fs gs a m.f once m.f_at (get_within m.f.asks a.place m.one m.here) in
    record { e = m.e; f = x.0; e_at = m.e_at; f_at = x.1; one = m.one; here = x.2.ask ∙ m.here; asked = m.asked; holding = x.2.holding ∙ m.holding; going = x.2.spent ∙ m.going }

made_since : (span : Grid) (kept : Kept) (es fs gs : List EngineSeen) (r : Request) (a : Asking) → length fs ≡ length es → Each Grows es fs → IsMade span kept fs gs r a → IsMade span kept es gs r a
made_since span kept es fs gs r a l grown m =
    let y = before_each Grows es fs a.engine m.e l grown m.e_at in
    record { e = y.0; f = m.f; e_at = y.1; f_at = m.f_at; one = m.one; here = m.here; asked = subst (λ (h : _). IsAskFor span kept h r m.one) y.2.holding m.asked; holding = m.holding ∙ y.2.holding; going = m.going }

opened_kept : (span : Grid) (kept : Kept) (es fs gs : List EngineSeen) (r one : Request) (numbers : List ℕ) (place : Place) → AskedOnce span kept one numbers fs gs → IsOpened span kept es fs r place → IsOpened span kept es gs r place
opened_kept span kept es fs gs r one numbers place once o = record { ask = o.ask; going = o.going; few = o.few; fresh = o.fresh; numbers = o.numbers; made = λ k a at. made_kept span kept es fs gs r one numbers a once (o.made k a at) }

opened_since : (span : Grid) (kept : Kept) (es fs gs : List EngineSeen) (r : Request) (place : Place) → length fs ≡ length es → Each Grows es fs → IsOpened span kept fs gs r place → IsOpened span kept es gs r place
opened_since span kept es fs gs r place l grown o = record { ask = o.ask; going = o.going; few = o.few; fresh = o.fresh; numbers = o.numbers; made = λ k a at. made_since span kept es fs gs r a l grown (o.made k a at) }

module _ (span : Grid) (kept : Kept) (es fs gs : List EngineSeen) (requests : List Request) (places : List Place) (i : ℕ) (r : Request) (place : Place) (l : length fs ≡ length es) (grown : Each Grows es fs) (size : length places ≡ i) (r_at : slice_get requests i ≡ Some r)
    (opened : AreOpened span kept es fs requests places) (new : IsOpened span kept fs gs r place) (once : AskedOnce span kept r r.engines fs gs) where
  pub opened_more : AreOpened span kept es gs requests (places ++ place ∷ [])
  opened_more k q x q_at x_at = ⊎_elim
      (λ old. opened_kept span kept es fs gs q r r.engines x once (opened k q x q_at old))
      (λ now.
      let same_r : r ≡ q = same_at requests i r q r_at (ap (slice_get requests) (sym size ∙ sym now.0) ∙ q_at) in
      subst (λ z. IsOpened span kept es gs q z) (sym now.1) (subst (λ z. IsOpened span kept es gs z place) same_r (opened_since span kept es fs gs r place l grown new)))
      (split_get places place k x x_at)

  -- an ask of a place so far is inside its engine's list
  inside : (k m : ℕ) (x : Place) (a : Asking) → slice_get places k ≡ Some x → slice_get x.asks m ≡ Some a → (f : EngineSeen) × (slice_get fs a.engine ≡ Some f) × (a.place < length f.asks)
  inside k m x a x_at a_at =
      let i_in : i < length requests = get_within requests i r r_at in
      let k_in : k < length places = get_within places k x x_at in
      let q = within_get requests k (omega (arith, i_in, k_in, size)) in
      let d = (opened k q.0 x q.1 x_at).made m a a_at in
      (d.f, d.f_at, get_within d.f.asks a.place d.one d.here)

  old_new : (k m n : ℕ) (x : Place) (a b : Asking) → AreBehind fs place.asks → slice_get places k ≡ Some x → slice_get x.asks m ≡ Some a → slice_get place.asks n ≡ Some b → Apart a b
  old_new k m n x a b behind x_at a_at b_at same_e same_p =
      let f = inside k m x a x_at a_at in
      let p : b.place ≡ length f.0.asks = behind n b f.0 b_at (ap (slice_get fs) (sym same_e) ∙ f.1) in
      let w : a.place < length f.0.asks = f.2 in
      absurd (omega arith)

  pub apart_more : AreBehind fs place.asks → AreApart places → AreApart (places ++ place ∷ [])
  apart_more behind apart j k m n x y a b x_at y_at ne a_at b_at = ⊎_elim
      (λ j_old. ⊎_elim
      (λ k_old. apart j k m n x y a b j_old k_old ne a_at b_at)
      (λ k_new. old_new j m n x a b behind j_old a_at (ap (λ (z : Place). slice_get z.asks n) (sym k_new.1) ∙ b_at))
      (split_get places place k y y_at))
      (λ j_new. ⊎_elim
      (λ k_old. λ same_e same_p. old_new k n m y b a behind k_old b_at (ap (λ (z : Place). slice_get z.asks m) (sym j_new.1) ∙ a_at) (sym same_e) (sym same_p))
      (λ k_new. absurd (ne (j_new.0 ∙ sym k_new.0)))
      (split_get places place k y y_at))
      (split_get places place j x x_at)

-- ---- the lists of asks

gains_zip : (span : Grid) (kept : Kept) (r : Request) (b : Bool) (e f : EngineSeen) (h : Option Holding) (rs : List Request) → e.holding ≡ h → GainsAsk span kept r b e f → AllZip (IsAskFor span kept h) rs e.asks → AllZip (IsAskFor span kept h) (rs ++ cond b (r ∷ []) []) f.asks
gains_zip span kept r true e f h rs same g z = subst (AllZip (IsAskFor span kept h) (rs ++ r ∷ [])) (sym g.1) (zip_more (IsAskFor span kept h) rs e.asks r g.0 z (subst (λ o. IsAskFor span kept o r g.0) same g.2))
gains_zip span kept r false e f h rs same g z = subst (λ l. AllZip (IsAskFor span kept h) l f.asks) (sym (append-nil rs)) (subst (AllZip (IsAskFor span kept h) rs) (sym g) z)

pub asked_more : (span : Grid) (kept : Kept) (es fs gs : List EngineSeen) (front : List Request) (r : Request) → Each Grows es fs → AreAsked span kept front es fs → AskedOnce span kept r r.engines fs gs → AreAsked span kept (front ++ r ∷ []) es gs
asked_more span kept es fs gs front r grown asked once i e g e_at g_at =
    let f = grown i e e_at in
    let x = once i f.0 f.1 in
    let z : AllZip (IsAskFor span kept e.holding) (requests_of i front) f.0.asks = asked i e f.0 e_at f.1 in
    let w : AllZip (IsAskFor span kept e.holding) (requests_of i front ++ cond (is_among r.engines i) (r ∷ []) []) x.0.asks = gains_zip span kept r (is_among r.engines i) f.0 x.0 e.holding (requests_of i front) f.2.holding x.2.gains z in
    subst (λ l. AllZip (IsAskFor span kept e.holding) l g.asks) (sym (filter-append (λ (q : Request). is_among q.engines i) front (r ∷ [])))
    (subst (λ (y : EngineSeen). AllZip (IsAskFor span kept e.holding) (requests_of i front ++ cond (is_among r.engines i) (r ∷ []) []) y.asks) (same_at gs i x.0 g x.1 g_at) w)

pub asked_none : (span : Grid) (kept : Kept) (es : List EngineSeen) → ((i : ℕ) (e : EngineSeen) → slice_get es i ≡ Some e → (e.asks ≡ []) × (e.spent ≡ false)) → AreAsked span kept [] es es
asked_none span kept es free i e f e_at f_at = subst (AllZip (IsAskFor span kept e.holding) []) (sym (free i f f_at).0) tt

-- ---- where places stand

left_is : (span : Grid) (kept : Kept) (part : Part) (walk : Walk) (left : List StepCells) (all : List Ms) (o : Option Holding) → IfSome o (λ (h : Holding). (times : List Ms) → IsListed walk times → left ≡ owed (asked_over h.samples kept span) part times) → IsListed walk all → is_some o ≡ true → left ≡ owed_over span kept part all o
left_is span kept part walk left all None h listed e = absurd (false≢true e)
left_is span kept part walk left all (Some x) h listed e = h all listed

module _ (span : Grid) (kept : Kept) (es fs : List EngineSeen) (r : Request) (place : Place) (p : Progress) (o : IsOpened span kept es fs r place) (is : IsRequest r) (window : r.part.kind ≡ part_kind.Windows → IsWindowOf span r.part.expr (ask_of r)) (ow : IsOwed span kept es r p) where
  owes_is : (k : ℕ) (a : Asking) (e : EngineSeen) (owes : List StepCells) → slice_get place.asks k ≡ Some a → slice_get es a.engine ≡ Some e → slice_get p.owed k ≡ Some owes → owes ≡ owed_over span kept r.part p.all e.holding
  owes_is k a e owes at e_at o_at =
      let n : slice_get r.engines k ≡ Some a.engine = number_of place.asks r.engines k a o.numbers at in
      let m : slice_get p.owed k ≡ Some (owed_by span kept r.part p.all (slice_get es a.engine)) = ap (λ l. slice_get l k) ow.owed ∙ get_map (λ (i : ℕ). owed_by span kept r.part p.all (slice_get es i)) r.engines k a.engine n in
      same_at p.owed k owes (owed_by span kept r.part p.all (slice_get es a.engine)) o_at m ∙ ap (owed_by span kept r.part p.all) e_at

  ask_stands : (k : ℕ) (a : Asking) (done owes : List StepCells) → slice_get place.asks k ≡ Some a → slice_get (replicate (length r.engines) []) k ≡ Some done → slice_get p.owed k ≡ Some owes → AskAt kept place.gather.ask fs a done owes
  ask_stands k a done owes at d o_at =
      let m = o.made k a at in
      let none : done ≡ [] = replicated (length r.engines) k [] done d in (
        m.f,
        m.f_at,
        record {
          going = m.going;
          one = m.one;
          here = m.here;
          kept_are = m.asked.kept_are;
          walk = m.asked.ask.walk_is ∙ ap (λ (x : Ask). x.walk) (sym o.ask);
          alike = subst (JudgeAlike m.one.ask) (sym o.ask) (asks_alike span r m.one.ask m.asked.ask window);
          given = m.asked.given ∙ sym (ap length none);
          told = λ t. (let tells : is_some m.e.holding ≡ true = ap is_some (sym m.holding) ∙ t in ap (λ l. l ++ m.one.left) none ∙ left_is span kept r.part r.walk m.one.left p.all m.e.holding m.asked.left ow.listed tells ∙ sym (owes_is k a m.e owes at m.e_at o_at));
        },
      )

  apart_within : (j k : ℕ) (a b : Asking) → slice_get place.asks j ≡ Some a → slice_get place.asks k ≡ Some b → (j ≡ k → ⊥) → Apart a b
  apart_within j k a b x y ne same_e same_p =
      let m : slice_get r.engines j ≡ Some a.engine = number_of place.asks r.engines j a o.numbers x in
      let n : slice_get r.engines k ≡ Some b.engine = number_of place.asks r.engines k b o.numbers y in
      by (j < k) (k < j) (λ l. is.rising j k a.engine b.engine m n l) (λ l. is.rising k j b.engine a.engine n m l) (order j k ne)
    where
      order : (j k : ℕ) → (j ≡ k → ⊥) → (j < k) ⊎ (k < j)
      order zero zero h = absurd (h refl)
      order zero (suc k) h = inl (omega arith)
      order (suc j) zero h = inr (omega arith)
      order (suc j) (suc k) h = ⊎_elim (λ l. inl (omega arith)) (λ l. inr (omega arith)) (order j k (λ e. h (ap suc e)))

      by : (L R : Type 0) → (L → a.engine < b.engine) → (R → b.engine < a.engine) → L ⊎ R → ⊥
      by L R f g (inl l) = let w : a.engine < b.engine = f l in absurd (omega arith)
      by L R f g (inr q) = let w : b.engine < a.engine = g q in absurd (omega arith)

  place_opened : PlaceStands kept fs place p
  place_opened = record {
    going = o.going;
    kind = ap (λ (x : Ask). x.kind) o.ask ∙ sym ow.kind;
    few = o.few;
    dones = replicate (length r.engines) [];
    stands = subst (λ n. Stands place.gather p.all (replicate (length r.engines) []) n) (sym ow.taken) (o.fresh p.all ow.listed);
    delivered = many (length r.engines) [] ∙ sym (size_of place.asks r.engines o.numbers);
    owing = ap length ow.owed ∙ map_size (λ (i : ℕ). owed_by span kept r.part p.all (slice_get es i)) r.engines ∙ sym (size_of place.asks r.engines o.numbers);
    asks = ask_stands;
    apart = apart_within;
  }

pub all_opened : (span : Grid) (kept : Kept) (es fs : List EngineSeen) (requests : List Request) (places : List Place) (ps : List Progress) → length places ≡ length requests → AreOpened span kept es fs requests places → AreApart places
    → ((k : ℕ) (r : Request) → slice_get requests k ≡ Some r → IsRequest r) → ((k : ℕ) (r : Request) → slice_get requests k ≡ Some r → MayRequest span kept r) → AreOwed span kept es requests ps → AllStand kept fs places ps
all_opened span kept es fs requests places ps size opened apart is may ow = record {
  as_many = ow.as_many ∙ sym size;
  stand = λ k place p place_at p_at.
      (let r = within_get requests k (subst (λ n. k < n) size (get_within places k place place_at)) in
      place_opened span kept es fs r.0 place p (opened k r.0 place r.1 place_at) (is k r.0 r.1) (may k r.0 r.1).window (ow.each k r.0 p r.1 p_at));
  apart = apart;
}

-- ---- one turn of the requests

pub place_opened_now : (k l : Kept) (span : Grid) (es fs : List EngineSeen) (r : Request) (place : Place) → l ≡ k → IsOpened span l es fs r place → IsOpened span k es fs r place
place_opened_now k l span es fs r place e h = subst (λ z. IsOpened span z es fs r place) e h

pub once_now : (k l : Kept) (span : Grid) (r : Request) (numbers : List ℕ) (fs gs : List EngineSeen) → l ≡ k → AskedOnce span l r numbers fs gs → AskedOnce span k r numbers fs gs
once_now k l span r numbers fs gs e h = subst (λ z. AskedOnce span z r numbers fs gs) e h

pub may_request_now : (k l : Kept) (span : Grid) (r : Request) → l ≡ k → MayRequest span k r → MayRequest span l r
may_request_now k l span r e h = subst (λ z. MayRequest span z r) (sym e) h

pub asked_next : (span : Grid) (kept : Kept) (es gs : List EngineSeen) (requests : List Request) (i : ℕ) (r : Request) → slice_get requests i ≡ Some r → AreAsked span kept (take i requests ++ r ∷ []) es gs → AreAsked span kept (take (i + 1) requests) es gs
asked_next span kept es gs requests i r at h = subst (λ l. AreAsked span kept l es gs) (take_one_more requests i r at) h

pub none_opened : (span : Grid) (kept : Kept) (es fs : List EngineSeen) (requests : List Request) → AreOpened span kept es fs requests []
none_opened span kept es fs requests k r place r_at place_at = absurd (cc)

pub none_apart : AreApart []
none_apart j k m n x y a b x_at y_at ne a_at b_at = absurd (cc)

pub asked_all : (span : Grid) (kept : Kept) (es fs : List EngineSeen) (front requests : List Request) → front ≡ requests → AreAsked span kept front es fs → AreAsked span kept requests es fs
asked_all span kept es fs front requests e h = subst (λ l. AreAsked span kept l es fs) e h

-- the requests as they are lent, as they are kept, and as contracts see them
pub all_opened_by : (span : Grid) (kept : Kept) (es fs : List EngineSeen) (lent own seen : List Request) (places new : List Place) (ps : List Progress) → lent ≡ own → own ≡ seen → new ≡ places → length places ≡ length lent → AreOpened span kept es fs lent places → AreApart places
    → AllByRecursion IsRequest own → ((k : ℕ) (r : Request) → slice_get seen k ≡ Some r → MayRequest span kept r) → AreOwed span kept es seen ps → AllStand kept fs new ps
all_opened_by span kept es fs lent own seen places new ps a b n size opened apart is may ow =
    let own_may : (k : ℕ) (r : Request) → slice_get own k ≡ Some r → MayRequest span kept r = λ k r at. may k r (ap (λ l. slice_get l k) (sym b) ∙ at) in
    subst (λ z. AllStand kept fs z ps) (sym n)
    (all_opened span kept es fs own places ps (size ∙ ap length a) (subst (λ z. AreOpened span kept es fs z places) a opened) apart (λ k r at. each_at IsRequest own k r is at) own_may (subst (λ z. AreOwed span kept es z ps) (sym b) ow))

pub asks_theirs_by : (span : Grid) (kept : Kept) (es fs : List EngineSeen) (lent own seen : List Request) (places new : List Place) → lent ≡ own → own ≡ seen → new ≡ places → AreOpened span kept es fs lent places → AskTheirEngines seen new
asks_theirs_by span kept es fs lent own seen places new a b n opened k r place r_at place_at =
    (opened k r place (ap (λ l. slice_get l k) (a ∙ b) ∙ r_at) (ap (λ l. slice_get l k) (sym n) ∙ place_at)).numbers

pub requests_theirs_by : (span : Grid) (kept : Kept) (es fs : List EngineSeen) (lent own seen : List Request) (places new : List Place) → lent ≡ own → own ≡ seen → new ≡ places → AreOpened span kept es fs lent places → AskTheirRequests seen new
requests_theirs_by span kept es fs lent own seen places new a b n opened k r place r_at place_at =
    (opened k r place (ap (λ l. slice_get l k) (a ∙ b) ∙ r_at) (ap (λ l. slice_get l k) (sym n) ∙ place_at)).ask

pub in_order_by : (span : Grid) (kept : Kept) (es fs : List EngineSeen) (lent own seen : List Request) → lent ≡ own → own ≡ seen → AreAsked span kept (in_order_of_asks lent) es fs → AreAsked span kept (in_order_of_asks seen) es fs
in_order_by span kept es fs lent own seen a b h = subst (λ z. AreAsked span kept (in_order_of_asks z) es fs) (a ∙ b) h
