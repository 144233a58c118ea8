-- Requests that are added for one part behind those of another, for proofs. (This project's own.)
use Rattle.std.proofs.Common.{◌≡◌, ◌∙◌, ◌++◌, ◌<◌, ◌≤◌, ◌⊎◌, inl, inr, ⊎_elim, ℕ, zero, suc, List, [], ◌∷◌, length, slice_get, Some, append_assoc, arith, length-append, refl, sym, ap, subst}
use Rattle.std.proofs.lemmas.List.{append-nil}
use Rattle.std.proofs.lemmas.List.Elements.{Contains-append_cases, Contains-append_left, Contains-append_right}
use Rattle.std.specs.Prelude.{Contains}
use Rattle.exchange.specs.declared.request.Request.{Request}
use Rattle.plan_tree.specs.Asking.{HaveRequests}
use Rattle.plan_tree.specs.Shapes.{AreDistinct}
use Rattle.plan_tree.specs.Worlds.{Gathers}
use Rattle.plan_tree.specs.declared.node.Node.{Node}
use Rattle.plan_tree.specs.declared.node.Node.TheVariants as node
use Rattle.promql_meaning.specs.Selecting.{Asked}
use Rattle.ticks.specs.Listed.{IsListed}
use Rattle.ticks.specs.declared.moment.Ms.{Ms}
use Rattle.ticks.specs.declared.walk.Walk.TheVariants.{Fixed}
use Rattle.plan_parts.specs.Requested.{AreAdded, AreMeant, EachAdded, HaveOwn}

-- ---- added

pub none_added : (requests : List Request) → AreAdded requests requests
none_added requests = record { more = []; is = sym (append-nil requests) }

pub one_added : (requests : List Request) (r : Request) → AreAdded requests (requests ++ r ∷ [])
one_added requests r = record { more = r ∷ []; is = refl }

pub added_then : (before between now : List Request) → AreAdded before between → AreAdded between now → AreAdded before now
added_then before between now a b = record { more = a.more ++ b.more; is = b.is ∙ ap (λ (rs : List Request). rs ++ b.more) a.is ∙ append_assoc before a.more b.more }

no_fewer : (before now : List Request) → AreAdded before now → length before ≤ length now
no_fewer before now a = omega (arith, ap length a.is, length-append before a.more)

get_front : {X : Type 0} (xs ys : List X) (k : ℕ) (x : X) → slice_get xs k ≡ Some x → slice_get (xs ++ ys) k ≡ Some x
get_front [] ys k x e = absurd (cc)
get_front (z ∷ xs) ys zero x e = e
get_front (z ∷ xs) ys (suc k) x e = get_front xs ys k x e

pub get_added : (before now : List Request) (k : ℕ) (r : Request) → AreAdded before now → slice_get before k ≡ Some r → slice_get now k ≡ Some r
get_added before now k r a e = subst (λ (rs : List Request). slice_get rs k ≡ Some r) (sym a.is) (get_front before a.more k r e)

-- gathers that give what is meant for more requests do so for the first ones
pub meant_before : (asked : Asked) (before now : List Request) (gathers : Gathers) → AreAdded before now → AreMeant asked now gathers → AreMeant asked before gathers
meant_before asked before now gathers a meant = λ k r t e served. meant k r t (get_added before now k r a e) served

-- a tree keeps its requests where others are added
pub requests_stay : (before now : List Request) → AreAdded before now → (times : List Ms) (tree : Node) → HaveRequests before times tree → HaveRequests now times tree
requests_stay before now a times (node.Instants kernel none) h = tt
requests_stay before now a times (node.Select kernel) h = tt
requests_stay before now a times (node.Series' kernel p scalar) h = requests_stay before now a times scalar h
requests_stay before now a times (node.Unary' kernel p rows) h = requests_stay before now a times rows h
requests_stay before now a times (node.Binary' kernel p rows q beside) h = (requests_stay before now a times rows h.0, requests_stay before now a times beside h.1)
requests_stay before now a times (node.Clamp' kernel p rows q low r high) h = (requests_stay before now a times rows h.0, requests_stay before now a times low h.1, requests_stay before now a times high h.2)
requests_stay before now a times (node.Points' kernel inner_fed p inner q scalar) h = (requests_stay before now a times scalar h.0, h.1, h.2, h.3, requests_stay before now a h.2 inner h.4)
requests_stay before now a times (node.Once' first steps p child) h = requests_stay before now a (first ∷ []) child h
requests_stay before now a times (node.Gather place) h = record { r = h.r; r_at = get_added before now place h.r a h.r_at; asks = h.asks; listed = h.listed }
requests_stay before now a times (node.Windows' kernel place passed p scalar) h = (
  record { r = h.0.r; r_at = get_added before now place h.0.r a h.0.r_at; asks = h.0.asks; listed = h.0.listed },
  requests_stay before now a times scalar h.1,
)

-- ---- each that was added

get_front_back : {X : Type 0} (xs ys : List X) (k : ℕ) (x : X) → k < length xs → slice_get (xs ++ ys) k ≡ Some x → slice_get xs k ≡ Some x
get_front_back [] ys k x low e = absurd (omega arith)
get_front_back (z ∷ xs) ys zero x low e = e
get_front_back (z ∷ xs) ys (suc k) x low e = get_front_back xs ys k x (omega arith) e

none_behind : {X : Type 0} (xs : List X) (k : ℕ) (x : X) → slice_get xs k ≡ Some x → length xs ≤ k → ⊥
none_behind [] k x e low = absurd (cc)
none_behind (z ∷ xs) zero x e low = absurd (omega arith)
none_behind (z ∷ xs) (suc k) x e low = none_behind xs k x e (omega arith)

pub each_none : (Is : Request → Type 0) (requests : List Request) → EachAdded Is requests requests
each_none Is requests = λ k r e low. absurd (none_behind requests k r e low)

below_or_not : (k n : ℕ) → (k < n) ⊎ (n ≤ k)
below_or_not k zero = inr (omega arith)
below_or_not zero (suc n) = inl (omega arith)
below_or_not (suc k) (suc n) = ⊎_elim (λ (h : k < n). inl (omega arith)) (λ (h : n ≤ k). inr (omega arith)) (below_or_not k n)

pub each_as : (Is Other : Request → Type 0) (before now : List Request) → ((r : Request) → Is r → Other r) → EachAdded Is before now → EachAdded Other before now
each_as Is Other before now f each = λ k r e low. f r (each k r e low)

-- ---- places

among_none : (k : ℕ) → Contains [] k → ⊥
among_none k h = absurd (omega (arith, h.1))

pub own_none : (before now : List Request) → HaveOwn before now []
own_none before now = record { behind = λ k h. absurd (among_none k h); within = λ k h. absurd (among_none k h); apart = tt }

distinct_both : (xs ys : List ℕ) → AreDistinct xs → AreDistinct ys → ((k : ℕ) → Contains xs k → Contains ys k → ⊥) → AreDistinct (xs ++ ys)
distinct_both [] ys d e apart = e
distinct_both (x ∷ xs) ys d e apart = (
  λ h. ⊎_elim d.0 (λ there. apart x (Contains-append_left (x ∷ []) xs x (0, omega arith, refl)) there) (Contains-append_cases xs ys x h),
  distinct_both xs ys d.1 e (λ k a b. apart k (Contains-append_right (x ∷ []) xs k a) b),
)

-- a request is one of two rows of added ones
abbrev Either : (from until start end : List Request) (k : ℕ) (r : Request) → Type 0
Either from until start end k r = ((slice_get until k ≡ Some r) × (length from ≤ k)) ⊎ ((slice_get end k ≡ Some r) × (length start ≤ k))

-- the requests of two parts are added one behind the other, whichever comes first
pub record AreBothAdded (before now from until start end : List Request) : Type 0 where
  pub first : AreAdded before from
  pub first_now : AreAdded until now
  pub second : AreAdded before start
  pub second_now : AreAdded end now
  pub all : AreAdded before now
  pub apart : (length until ≤ length start) ⊎ (length end ≤ length from)
  pub either : (k : ℕ) (r : Request) → slice_get now k ≡ Some r → length before ≤ k → Either from until start end k r

in_front : (before between now : List Request) → AreAdded between now → (k : ℕ) (r : Request) → slice_get now k ≡ Some r → length before ≤ k → Either before between between now k r
in_front before between now b k r e low = by (below_or_not k (length between))
  where
    by : (k < length between) ⊎ (length between ≤ k) → Either before between between now k r
    by (inl h) = inl (get_front_back between b.more k r h (subst (λ (rs : List Request). slice_get rs k ≡ Some r) b.is e), low)
    by (inr h) = inr (e, h)

turn : (from until start end : List Request) (k : ℕ) (r : Request) → Either from until start end k r → Either start end from until k r
turn from until start end k r (inl h) = inr h
turn from until start end k r (inr h) = inl h

pub in_order : (before between now : List Request) → AreAdded before between → AreAdded between now → AreBothAdded before now before between between now
in_order before between now a b =
    record { first = none_added before; first_now = b; second = a; second_now = none_added now; all = added_then before between now a b; apart = inl (omega arith); either = in_front before between now b }

pub turned : (before between now : List Request) → AreAdded before between → AreAdded between now → AreBothAdded before now between now before between
turned before between now a b = record {
  first = a;
  first_now = none_added now;
  second = none_added before;
  second_now = b;
  all = added_then before between now a b;
  apart = inr (omega arith);
  either = λ k r e low. turn before between between now k r (in_front before between now b k r e low);
}

pub each_both : (Is : Request → Type 0) (before now from until start end : List Request) → AreBothAdded before now from until start end → EachAdded Is from until → EachAdded Is start end → EachAdded Is before now
each_both Is before now from until start end b f g = λ k r e low. by k r (b.either k r e low)
  where
    by : (k : ℕ) (r : Request) → Either from until start end k r → Is r
    by k r (inl h) = f k r h.0 h.1
    by k r (inr h) = g k r h.0 h.1

pub own_more : (before now from until : List Request) (places : List ℕ) → AreAdded before from → AreAdded until now → HaveOwn from until places → HaveOwn before now places
own_more before now from until places a b h = record {
  behind = λ k c. (let low = no_fewer before from a in let own = h.behind k c in omega arith);
  within = λ k c. (let high = no_fewer until now b in let own = h.within k c in omega arith);
  apart = h.apart;
}

pub own_both : (before now from until start end : List Request) (xs ys : List ℕ) → AreBothAdded before now from until start end → HaveOwn from until xs → HaveOwn start end ys → HaveOwn before now (xs ++ ys)
own_both before now from until start end xs ys b h k =
    let x = own_more before now from until xs b.first b.first_now h in
    let y = own_more before now start end ys b.second b.second_now k in
    record {
      behind = λ n c. ⊎_elim (x.behind n) (y.behind n) (Contains-append_cases xs ys n c);
      within = λ n c. ⊎_elim (x.within n) (y.within n) (Contains-append_cases xs ys n c);
      apart = distinct_both xs ys h.apart k.apart (λ n c d. apart n (h.behind n c) (h.within n c) (k.behind n d) (k.within n d) b.apart);
    }
  where
    apart : (n : ℕ) → length from ≤ n → n < length until → length start ≤ n → n < length end → (length until ≤ length start) ⊎ (length end ≤ length from) → ⊥
    apart n low high least most (inl e) = omega arith
    apart n low high least most (inr e) = omega arith

-- ---- one request more

only_place : (n k : ℕ) → Contains (n ∷ []) k → k ≡ n
only_place n k (zero, l, e) = sym e
only_place n k (suc i, l, e) = absurd (omega arith)

pub own_one : (before : List Request) (r : Request) → HaveOwn before (before ++ r ∷ []) (length before ∷ [])
own_one before r = record {
  behind = λ k c. (let e = only_place (length before) k c in omega arith);
  within = λ k c. (let e = only_place (length before) k c in omega (arith, length-append before (r ∷ [])));
  apart = (λ h. among_none (length before) h, tt);
}

pub get_last : {X : Type 0} (xs : List X) (x : X) → slice_get (xs ++ x ∷ []) (length xs) ≡ Some x
get_last [] x = refl
get_last (y ∷ xs) x = get_last xs x

last_is : {X : Type 0} (xs : List X) (x y : X) (k : ℕ) → slice_get (xs ++ x ∷ []) k ≡ Some y → length xs ≤ k → y ≡ x
last_is [] x y zero e low = cc
last_is [] x y (suc k) e low = absurd (cc)
last_is (z ∷ xs) x y zero e low = absurd (omega arith)
last_is (z ∷ xs) x y (suc k) e low = last_is xs x y k e (omega arith)

pub each_one : (Is : Request → Type 0) (before : List Request) (r : Request) → Is r → EachAdded Is before (before ++ r ∷ [])
each_one Is before r is = λ k other e low. subst Is (sym (last_is before r other k e low)) is

-- ---- one instant

only_one : (first t : Ms) → Contains (first ∷ []) t → t ≡ first
only_one first t (zero, l, e) = sym e
only_one first t (suc k, l, e) = absurd (omega arith)

pub one_listed : (first : Ms) → IsListed (Fixed first) (first ∷ [])
one_listed first = record { rising = (tt, tt); instants = λ t. (λ h. ap (λ (u : Ms). u.0) (only_one first t h), λ e. (0, omega arith, λ j. record { 0 = sym e j })) }
