-- Gathers of an exchange over the instants of one grid: how they are opened, and how one goes on.
use Rattle.std.proofs.Common.{◌≡◌, ◌∙◌, ℕ, zero, suc, ◌+◌, ◌<◌, ◌≤◌, List, [], ◌∷◌, ◌++◌, length, map, slice_get, slice_set, refl, sym, ap, subst, Some, None, Ok, arith, inl, inr, eq-or-lt_of_le}
use Rattle.std.specs.Prelude.{Option}
use Rattle.std.specs.List.{AllByRecursion}
use Rattle.exchange.specs.Asked.{AreOwed, MayOpen, MayRequest}
use Rattle.exchange.specs.Exchanging.{Exchanging}
use Rattle.exchange.specs.Requests.{AreRising, ask_of}
use Rattle.exchange.specs.Standing.{AllStand, MayAdvance, Progress, gone_on}
use Rattle.exchange.specs.declared.place.Place.{Place}
use Rattle.exchange.specs.declared.request.Request.{Request}
use Rattle.promql_type.specs.Replacements.{Kept}
use Rattle.remote_api.specs.Seen.{EngineSeen, IsWindowOf, MayAsk}
use Rattle.remote_api.specs.declared.asks.Ask.{Ask}
use Rattle.remote_api.specs.declared.asks.Part.{Part}
use Rattle.step_table.specs.declared.cells.PartKind.TheVariants as part_kind
use Rattle.ticks.specs.Listed.{FirstIsHead, IsFirst, IsListed, IsNext, NextIsBehind}
use Rattle.ticks.specs.Near.{GridsAreNear}
use Rattle.ticks.specs.declared.grid.Grid.{Grid as Instants}
use Rattle.ticks.specs.declared.moment.Ms.{Ms}
use Rattle.ticks.specs.declared.walk.Walk.{Walk, Grid}
use Rattle.engine_tests.specs.Askable.{IsAskable, at_once, reach}
use Rattle.engine_tests.specs.Going.{AreFitting, AreGoing, AreUnasked, ComesTo, IsFitting}
use Rattle.engine_tests.proofs.Askables.{ask_over, may_ask, window_asked}

-- ---- lists

inside : {X : Type 0} (xs : List X) (i : ℕ) (x : X) → slice_get xs i ≡ Some x → i < length xs
inside [] i x e = absurd (cc)
inside (y ∷ xs) zero x e = omega arith
inside (y ∷ xs) (suc i) x e = let h = inside xs i x e in omega (arith, h)

there : {X : Type 0} (xs : List X) (i : ℕ) → i < length xs → (x : X) × (slice_get xs i ≡ Some x)
there [] i w = absurd (omega (arith, w))
there (x ∷ xs) zero w = (x, refl)
there (x ∷ xs) (suc i) w = there xs i (omega (arith, w))

set_there : {X : Type 0} (xs : List X) (i : ℕ) (x y : X) → slice_get xs i ≡ Some x → slice_get (slice_set xs i y) i ≡ Some y
set_there [] i x y e = absurd (cc)
set_there (z ∷ xs) zero x y e = refl
set_there (z ∷ xs) (suc i) x y e = set_there xs i x y e

set_others : {X : Type 0} (xs : List X) (i k : ℕ) (y : X) → (k ≡ i → ⊥) → slice_get (slice_set xs i y) k ≡ slice_get xs k
set_others [] zero k y ne = refl
set_others [] (suc i) k y ne = refl
set_others (z ∷ xs) zero zero y ne = absurd (ne refl)
set_others (z ∷ xs) zero (suc k) y ne = refl
set_others (z ∷ xs) (suc i) zero y ne = refl
set_others (z ∷ xs) (suc i) (suc k) y ne = set_others xs i k y (λ e. ne (ap suc e))

set_length : {X : Type 0} (xs : List X) (i : ℕ) (y : X) → length (slice_set xs i y) ≡ length xs
set_length [] zero y = refl
set_length [] (suc i) y = refl
set_length (z ∷ xs) zero y = refl
set_length (z ∷ xs) (suc i) y = ap suc (set_length xs i y)

all_at : {X : Type 0} (P : X → Type 0) (xs : List X) (i : ℕ) (x : X) → slice_get xs i ≡ Some x → AllByRecursion P xs → P x
all_at P [] i x e a = absurd (cc)
all_at P (y ∷ xs) zero x e a = let same : y ≡ x = cc in subst P same a.0
all_at P (y ∷ xs) (suc i) x e a = all_at P xs i x e a.1

all_more : {X : Type 0} (P : X → Type 0) (xs : List X) (x : X) → P x → AllByRecursion P xs → AllByRecursion P (xs ++ x ∷ [])
all_more P [] x p a = (p, tt)
all_more P (y ∷ xs) x p a = (a.0, all_more P xs x p a.1)

length_more : {X : Type 0} (xs : List X) (x : X) → length (xs ++ x ∷ []) ≡ length xs + 1
length_more [] x = refl
length_more (y ∷ xs) x = let h = length_more xs x in omega (arith, h)

map_long : {X Y : Type 0} (f : X → Y) (xs : List X) → length (map f xs) ≡ length xs
map_long f [] = refl
map_long f (x ∷ xs) = ap suc (map_long f xs)

-- ---- requests

-- one request more
pub fitting_more : (g : Instants) (count : ℕ) (x : Exchanging) (r : Request) (y : Exchanging) → y ≡ record { most = x.most; requests = x.requests ++ r ∷ []; places = x.places } → AreFitting g count x
    → IsFitting g r → AreFitting g (count + 1) y
fitting_more g count x r y is f one = subst (AreFitting g (count + 1)) (sym is) (record {
  unopened = f.unopened;
  count_is = length_more x.requests r ∙ ap (λ (n : ℕ). n + 1) f.count_is;
  each = all_more (IsFitting g) x.requests r one f.each;
})

asked_alike : (g : Instants) (r : Request) → IsFitting g r → ask_of r ≡ ask_over g r.part.kind
asked_alike g r f i = record { walk = f.walk_is i; kind = r.part.kind; moment = f.moment_is i; range = f.range_is i }

may_request : GridsAreNear → (g : Instants) (kept : Kept) (r : Request) → IsFitting g r → MayRequest g kept r
may_request grids g kept r f = record {
  may = λ e going. subst (λ (w : Walk). MayAsk r.part w g kept e) (sym f.walk_is) (may_ask grids r.part g kept e f.askable going);
  window = λ windows. subst (IsWindowOf g r.part.expr) (sym (asked_alike g r f)) (window_asked g r.part.kind r.part.expr f.askable windows);
}

pub may_open : GridsAreNear → (g : Instants) (kept : Kept) (count : ℕ) (es : List EngineSeen) (x : Exchanging) → AreFitting g count x → AreUnasked es → length es ≡ 2 → MayOpen g kept es x
may_open grids g kept count es x f unasked two = record {
  unopened = f.unopened;
  unasked = unasked;
  inside = λ k j i r at asked.
      let one = all_at (IsFitting g) x.requests k r at f.each in
      let few = below j i (sym (ap (λ (ns : List ℕ). slice_get ns j) one.engines_are) ∙ asked) in
      omega (arith, few, two);
  may = λ k r at. may_request grids g kept r (all_at (IsFitting g) x.requests k r at f.each);
}
  where
    below : (j i : ℕ) → slice_get (0 ∷ 1 ∷ []) j ≡ Some i → i < 2
    below zero i e = let same : 0 ≡ i = cc in omega (arith, same)
    below (suc zero) i e = let same : 1 ≡ i = cc in omega (arith, same)
    below (suc (suc j)) i e = absurd (cc)

-- ---- the gathers

pub opened : FirstIsHead → (g : Instants) (kept : Kept) (count : ℕ) (es fs : List EngineSeen) (x : Exchanging) (places : List Place) → AreFitting g count x
    → (ps : List Progress) → AreOwed g kept es x.requests ps → AllStand kept fs places ps
    → (first : Option Ms) → IsFirst (Grid g) first → AreGoing kept fs places (Grid g) count 0 first first
opened heads g kept count es fs x places f ps owed stand first is = record {
  ps = ps;
  stand = stand;
  count_is = owed.as_many ∙ f.count_is;
  ahead = λ k p at w. absurd (omega (arith, w));
  waiting = λ k p at w.
      let few : k < length x.requests = let h = inside ps k p at in let n = owed.as_many in omega (arith, h, n) in
      let r = there x.requests k few in
      let fits = all_at (IsFitting g) x.requests k r.0 r.1 f.each in
      let o = owed.each k r.0 p r.1 at in
      let listed = subst (λ (w : Walk). IsListed w p.all) fits.walk_is o.listed in
      record { listed = listed; next_is = heads (Grid g) p.all first listed is ∙ ap (slice_get p.all) (sym o.taken) };
}

going_there : (k : ℕ) (walk : Walk) (at : Ms) (p : Progress) → ComesTo walk (Some at) p → p.taken < length p.all
going_there k walk at p c = inside p.all p.taken at (sym c.next_is)

pub may_advance : (kept : Kept) (es : List EngineSeen) (places : List Place) (walk : Walk) (count k : ℕ) (next : Option Ms) (at : Ms) → k < count
    → AreGoing kept es places walk count k next (Some at) → MayAdvance k kept es places
may_advance kept es places walk count k next at w g =
    let n = g.count_is in
    let p = there g.ps k (omega (arith, w, n)) in
    record { ps = g.ps; all = g.stand; p = p.0; p_at = p.1; going = going_there k walk at p.0 (g.waiting k p.0 p.1 (omega arith)) }

-- the gather at a place has gone on
pub moved : NextIsBehind → (kept : Kept) (es fs : List EngineSeen) (places others : List Place) (walk : Walk) (count k : ℕ) (next : Option Ms) (at : Ms) → k < count → IsNext walk at.0 next
    → (going : AreGoing kept es places walk count k next (Some at))
    → ((ps : List Progress) (p : Progress) → AllStand kept es places ps → slice_get ps k ≡ Some p → AllStand kept fs others (slice_set ps k (gone_on p)))
    → AreGoing kept fs others walk count (k + 1) next (Some at)
moved behind kept es fs places others walk count k next at w is g stands =
    let n = g.count_is in
    let p = there g.ps k (omega (arith, w, n)) in
    let c = g.waiting k p.0 p.1 (omega arith) in
    let q : Progress = gone_on p.0 in
    let here : ComesTo walk next q = record { listed = c.listed; next_is = behind walk p.0.all p.0.taken at next c.listed (sym c.next_is) is } in
    record {
      ps = slice_set g.ps k q;
      stand = stands g.ps p.0 g.stand p.1;
      count_is = set_length g.ps k q ∙ g.count_is;
      ahead = λ j r got few.
          let w : j ≤ k = omega (arith, few) in
          elim (eq-or-lt_of_le w) [
            | inl same ↦
                let found : Some q ≡ Some r = sym (set_there g.ps k p.0 q p.1) ∙ ap (slice_get (slice_set g.ps k q)) (sym same) ∙ got in
                let same_one : q ≡ r = cc in
                subst (ComesTo walk next) same_one here
            | inr less ↦ g.ahead j r (sym (set_others g.ps k j q (λ e. omega (arith, less, e))) ∙ got) less
          ];
      waiting = λ j r got many. g.waiting j r (sym (set_others g.ps k j q (λ e. omega (arith, many, e))) ∙ got) (omega (arith, many));
    }

-- before any has gone on, whatever comes next may be named
pub none_moved : (kept : Kept) (es : List EngineSeen) (places : List Place) (walk : Walk) (count : ℕ) (next other now : Option Ms) → AreGoing kept es places walk count 0 other now → AreGoing kept es places walk count 0 next now
none_moved kept es places walk count next other now g = record {
  ps = g.ps;
  stand = g.stand;
  count_is = g.count_is;
  ahead = λ k p at w. absurd (omega (arith, w));
  waiting = g.waiting;
}

-- all have gone on
pub all_moved : (kept : Kept) (es : List EngineSeen) (places : List Place) (walk : Walk) (count gone : ℕ) (next now : Option Ms) → count ≤ gone → AreGoing kept es places walk count gone next now
    → AreGoing kept es places walk count 0 next next
all_moved kept es places walk count gone next now whole g = record {
  ps = g.ps;
  stand = g.stand;
  count_is = g.count_is;
  ahead = λ k p at w. absurd (omega (arith, w));
  waiting = λ k p at w. g.ahead k p at (let h = inside g.ps k p at in let n = g.count_is in omega (arith, h, n, whole));
}

-- a gather for each place
pub places_are : (kept : Kept) (es : List EngineSeen) (places : List Place) (walk : Walk) (count gone : ℕ) (next now : Option Ms) → AreGoing kept es places walk count gone next now → count ≤ length places
places_are kept es places walk count gone next now g = let n = g.count_is in let m = g.stand.as_many in omega (arith, n, m)

-- under the same patterns
pub still_going : (kept others : Kept) (es : List EngineSeen) (places : List Place) (walk : Walk) (count gone : ℕ) (next now : Option Ms) → others ≡ kept → AreGoing kept es places walk count gone next now
    → AreGoing others es places walk count gone next now
still_going kept others es places walk count gone next now same g = subst (λ (k : Kept). AreGoing k es places walk count gone next now) (sym same) g

-- ---- before they are opened

pub none_fitting : (g : Instants) (most : ℕ) (x : Exchanging) → x ≡ record { most = most; requests = []; places = [] } → AreFitting g 0 x
none_fitting g most x is = subst (AreFitting g 0) (sym is) (record { unopened = refl; count_is = refl; each = tt })

pub both_rise : (numbers : List ℕ) → numbers ≡ 0 ∷ 1 ∷ [] → AreRising numbers
both_rise numbers is = subst AreRising (sym is) (λ j k m n at of w. rise j k m n at of w)
  where
    below : (k n : ℕ) → slice_get (0 ∷ 1 ∷ []) (suc k) ≡ Some n → n ≡ 1
    below zero n e = cc
    below (suc k) n e = absurd (cc)

    rise : (j k m n : ℕ) → slice_get (0 ∷ 1 ∷ []) j ≡ Some m → slice_get (0 ∷ 1 ∷ []) k ≡ Some n → j < k → m < n
    rise j zero m n at of w = absurd (omega (arith, w))
    rise zero (suc k) m n at of w = let a : 0 ≡ m = cc in let b = below k n of in omega (arith, a, b)
    rise (suc zero) (suc zero) m n at of w = absurd (omega (arith, w))
    rise (suc zero) (suc (suc k)) m n at of w = absurd (cc)
    rise (suc (suc j)) k m n at of w = absurd (cc)

-- ---- an instant that there is

pub going_at : (kept : Kept) (es : List EngineSeen) (places : List Place) (walk : Walk) (count : ℕ) (next : Option Ms) (at : Ms) → next ≡ Some at → AreGoing kept es places walk count 0 next next
    → AreGoing kept es places walk count 0 (Some at) (Some at)
going_at kept es places walk count next at is g = subst (λ (o : Option Ms). AreGoing kept es places walk count 0 o o) is g

pub two_seen : {B : Type 0} (f : B → EngineSeen) (bs : List B) → length bs ≡ 2 → length (map f bs) ≡ 2
two_seen f bs is = map_long f bs ∙ is
