-- Each walk has exactly one rising list of its instants.
use Rattle.std.proofs.Common.{◌≡◌, ℕ, zero, suc, ◌+◌, ◌*◌, ◌<◌, ◌≤◌, ◌^◌, Bool, true, false, refl, sym, subst, ap, ◌∙◌, arith, List, [], ◌∷◌, Option, Some, None, ◌⊎◌, inl, inr}
use Rattle.std.specs.Prelude.{◌/◌, ◌%◌, ℤ, pos, negsuc, neg_ℤ, ◌+ℤ◌, ◌-ℤ◌, ◌<ℤ◌, ◌≤ℤ◌, slice_get, unsigned_abs, if◌then◌else◌}
use Rattle.std.specs.List.{AllByRecursion, Contains}
use Rattle.std.proofs.lemmas.Int.{ints, by_lt_z, unsigned_abs-mul}
use Rattle.std.proofs.lemmas.Nat.{div-add-mod'}
use Rattle.std.proofs.Math.Nat.{mul-mod_left}
use Rattle.ticks.specs.Edges.{IsFrom}
use Rattle.ticks.specs.Grids.{IsOnGrid}
use Rattle.ticks.specs.Listed.{AreRising, EachWalkIsListed, FirstIsHead, IsListed, IsNext, ListsAreOne, NextIsBehind}
use Rattle.ticks.specs.Steps.{IsMultiple}
use Rattle.ticks.specs.Walks.{IsInWindow, IsInstant, IsTime, LeadsToTimes, moment_at}
use Rattle.ticks.specs.declared.moment.Ms.{Ms}
use Rattle.ticks.specs.declared.walk.Walk.{Walk, Grid, Fixed, Multiples', end_of-Walk, more_of-Walk}
use Rattle.ticks.proofs.Walks.{instant-is_time}

-- ---- members of lists

head_is_in : (t : Ms) (ts : List Ms) → Contains (t ∷ ts) t
head_is_in t ts = (0, omega arith, refl)

behind_is_in : (u t : Ms) (ts : List Ms) → Contains ts t → Contains (u ∷ ts) t
behind_is_in u t ts (k, h, e) = (suc k, omega arith, e)

member_cases : (u t : Ms) (ts : List Ms) → Contains (u ∷ ts) t → (u ≡ t) ⊎ Contains ts t
member_cases u t ts (zero, h, e) = inl e
member_cases u t ts (suc k, h, e) = inr (k, omega arith, e)

none_is_in : (t : Ms) → Contains [] t → ⊥
none_is_in t (k, h, e) = omega arith

all_of : (P : Ms → Type 0) (ts : List Ms) → AllByRecursion P ts → (t : Ms) → Contains ts t → P t
all_of P [] all t is = absurd (none_is_in t is)
all_of P (u ∷ ts) all t is =
    elim (member_cases u t ts is) [
      | inl e ↦ subst P e all.0
      | inr more ↦ all_of P ts all.1 t more
    ]

-- ---- one list at most

abbrev Members : List Ms → List Ms → Type 0
Members xs ys = (t : Ms) → Contains xs t → Contains ys t

-- the head of a rising list isn't later than a member
head_first : (x : Ms) (xs : List Ms) → AreRising (x ∷ xs) → (t : Ms) → Contains (x ∷ xs) t → x.0 ≤ℤ t.0
head_first x xs up t is =
    elim (member_cases x t xs is) [
      | inl e ↦ let same : x.0 ≡ t.0 = ap (λ (u : Ms). u.0) e in omega (arith, ints, same)
      | inr more ↦ let later : x.0 <ℤ t.0 = all_of (λ (u : Ms). x.0 <ℤ u.0) xs up.0 t more in omega (arith, ints, later)
    ]

same_time : (s t : Ms) → s.0 ≡ t.0 → s ≡ t
same_time s t e = λ i. record { 0 = e i }

heads_same : (x y : Ms) (xs ys : List Ms) → AreRising (x ∷ xs) → AreRising (y ∷ ys) → Members (x ∷ xs) (y ∷ ys) → Members (y ∷ ys) (x ∷ xs) → x ≡ y
heads_same x y xs ys up also to from =
    let a : y.0 ≤ℤ x.0 = head_first y ys also x (to x (head_is_in x xs)) in
    let b : x.0 ≤ℤ y.0 = head_first x xs up y (from y (head_is_in y ys)) in
    same_time x y (omega (arith, ints, a, b))

tail_members : (x y : Ms) (xs ys : List Ms) → AllByRecursion (λ (u : Ms). x.0 <ℤ u.0) xs → x ≡ y → Members (x ∷ xs) (y ∷ ys) → Members xs ys
tail_members x y xs ys up same to t is =
    elim (member_cases y t ys (to t (behind_is_in x t xs is))) [
      | inl e ↦
          let later : x.0 <ℤ t.0 = all_of (λ (u : Ms). x.0 <ℤ u.0) xs up t is in
          let here : x.0 ≡ t.0 = ap (λ (u : Ms). u.0) (same ∙ e) in
          absurd (omega (arith, ints, later, here))
      | inr more ↦ more
    ]

same_lists : (xs ys : List Ms) → AreRising xs → AreRising ys → Members xs ys → Members ys xs → xs ≡ ys
same_lists [] [] up also to from = refl
same_lists [] (y ∷ ys) up also to from = absurd (none_is_in y (from y (head_is_in y ys)))
same_lists (x ∷ xs) [] up also to from = absurd (none_is_in x (to x (head_is_in x xs)))
same_lists (x ∷ xs) (y ∷ ys) up also to from =
    let same : x ≡ y = heads_same x y xs ys up also to from in
    let rest : xs ≡ ys = same_lists xs ys up.1 also.1 (tail_members x y xs ys up.0 same to) (tail_members y x ys xs also.0 (sym same) from) in
    cc

pub lists_are_one : ListsAreOne
lists_are_one walk xs ys a b =
    same_lists xs ys a.rising b.rising (λ t is. (b.instants t).1 ((a.instants t).0 is)) (λ t is. (a.instants t).1 ((b.instants t).0 is))

-- ---- what can be told

abbrev Told : Type 0 → Type 0
Told P = P ⊎ (P → ⊥)

abbrev tells : {P : Type 0} → Told P → Bool
tells (inl h) = true
tells (inr h) = false

both_told : (P Q : Type 0) → Told P → Told Q → Told (P × Q)
both_told P Q (inl h) (inl k) = inl (h, k)
both_told P Q (inl h) (inr k) = inr (λ b. k b.1)
both_told P Q (inr h) k = inr (λ b. h b.0)

told_by : (P Q : Type 0) → (P → Q) → (Q → P) → Told P → Told Q
told_by P Q to from (inl h) = inl (to h)
told_by P Q to from (inr h) = inr (λ q. h (from q))

at_most : (s t : ℤ) → Told (s ≤ℤ t)
at_most s t = by_lt_z t s (λ h. inr (λ k. omega (arith, ints, h, k))) (λ h. inl h)

equal_told : (s t : ℤ) → Told (s ≡ t)
equal_told s t =
    told_by ((s ≤ℤ t) × (t ≤ℤ s)) (s ≡ t) (λ h. omega (arith, ints, h.0, h.1)) (λ e. (omega (arith, ints, e), omega (arith, ints, e))) (both_told (s ≤ℤ t) (t ≤ℤ s) (at_most s t) (at_most t s))

from_told : (closed : Bool) (edge t : ℤ) → Told (IsFrom closed edge t)
from_told false edge t = by_lt_z edge t (λ h. inl h) (λ h. inr (λ k. omega (arith, ints, h, k)))
from_told true edge t = at_most edge t

negative_multiple : (q n a : ℕ) → suc a ≡ q * n → IsMultiple (pos n) (negsuc a)
negative_multiple zero n a e = absurd (omega arith)
negative_multiple (suc q) n a e = (negsuc q, omega (arith, ints))

no_rest : (n : ℕ) → 0 < n → (z : ℤ) → unsigned_abs z % n ≡ 0 → IsMultiple (pos n) z
no_rest n some (pos a) e = let f : a / n * n + a % n ≡ a = div-add-mod' a n in (pos (a / n), omega (arith, ints, e, f))
no_rest n some (negsuc a) e = let f : suc a / n * n + suc a % n ≡ suc a = div-add-mod' (suc a) n in negative_multiple (suc a / n) n a (omega (arith, e, f))

rest_of : (n : ℕ) (z : ℤ) → IsMultiple (pos n) z → unsigned_abs z % n ≡ 0
rest_of n z (k, e) = ap (λ m. unsigned_abs m % n) e ∙ ap (λ m. m % n) (unsigned_abs-mul k (pos n)) ∙ mul-mod_left (unsigned_abs k) n

multiple_by : (n : ℕ) → 0 < n → (z : ℤ) (r : ℕ) → unsigned_abs z % n ≡ r → Told (IsMultiple (pos n) z)
multiple_by n some z zero e = inl (no_rest n some z e)
multiple_by n some z (suc r) e = inr (λ is. let none : unsigned_abs z % n ≡ 0 = rest_of n z is in omega arith)

multiple_told : (step z : ℤ) → pos 0 <ℤ step → Told (IsMultiple step z)
multiple_told (pos n) z some = multiple_by n (omega (arith, ints, some)) z (unsigned_abs z % n) refl
multiple_told (negsuc n) z some = absurd (omega (arith, ints, some))

-- ---- the times that a test passes

-- of so many times from one on, those that pass
passing : (ℤ → Bool) → ℤ → ℕ → List Ms
passing p low zero = []
passing p low (suc n) = if p low then record { 0 = low } ∷ passing p (low +ℤ pos 1) n else passing p (low +ℤ pos 1) n

abbrev ms : ℤ → Ms
ms t = record { 0 = t }

module _ (p : ℤ → Bool) where
  none_before : (low high : ℤ) (n : ℕ) → low <ℤ high → AllByRecursion (λ (u : Ms). low <ℤ u.0) (passing p high n)
  unfolding passing
  none_before low high zero h = tt
  none_before low high (suc n) h =
      let rest : AllByRecursion (λ (u : Ms). low <ℤ u.0) (passing p (high +ℤ pos 1) n) = none_before low (high +ℤ pos 1) n (omega (arith, ints, h)) in
      elim (p high) as (λ b. AllByRecursion (λ (u : Ms). low <ℤ u.0) (if b then ms high ∷ passing p (high +ℤ pos 1) n else passing p (high +ℤ pos 1) n)) [
        | true ↦ (h, rest)
        | false ↦ rest
      ]

  passing_rise : (low : ℤ) (n : ℕ) → AreRising (passing p low n)
  unfolding passing
  passing_rise low zero = tt
  passing_rise low (suc n) =
      elim (p low) as (λ b. AreRising (if b then ms low ∷ passing p (low +ℤ pos 1) n else passing p (low +ℤ pos 1) n)) [
        | true ↦ (none_before low (low +ℤ pos 1) n (omega (arith, ints)), passing_rise (low +ℤ pos 1) n)
        | false ↦ passing_rise (low +ℤ pos 1) n
      ]

  passes : (low : ℤ) (n : ℕ) (t : Ms) → Contains (passing p low n) t → p t.0 ≡ true
  unfolding passing
  passes low zero t is = absurd (none_is_in t is)
  passes low (suc n) t is = by_test (p low) refl is (passes (low +ℤ pos 1) n t)
    where
      by_test : (b : Bool) → p low ≡ b → Contains (if b then ms low ∷ passing p (low +ℤ pos 1) n else passing p (low +ℤ pos 1) n) t → (Contains (passing p (low +ℤ pos 1) n) t → p t.0 ≡ true) → p t.0 ≡ true
      by_test true e is rest =
          elim (member_cases (ms low) t (passing p (low +ℤ pos 1) n) is) [
            | inl same ↦ ap (λ (u : Ms). p u.0) (sym same) ∙ e
            | inr more ↦ rest more
          ]
      by_test false e is rest = rest is

  is_among : (low : ℤ) (n : ℕ) (t : Ms) → low ≤ℤ t.0 → t.0 <ℤ (low +ℤ pos n) → p t.0 ≡ true → Contains (passing p low n) t
  unfolding passing
  is_among low zero t from to e = absurd (omega (arith, ints, from, to))
  is_among low (suc n) t from to e =
      by_lt_z low t.0
      (λ later. skipped (is_among (low +ℤ pos 1) n t (omega (arith, ints, later)) (omega (arith, ints, to)) e))
      (λ no_later. here (let same : t.0 ≡ low = omega (arith, ints, from, no_later) in same))
    where
      skipped : Contains (passing p (low +ℤ pos 1) n) t → Contains (if p low then ms low ∷ passing p (low +ℤ pos 1) n else passing p (low +ℤ pos 1) n) t
      skipped more =
          elim (p low) as (λ b. Contains (if b then ms low ∷ passing p (low +ℤ pos 1) n else passing p (low +ℤ pos 1) n) t) [
            | true ↦ behind_is_in (ms low) t (passing p (low +ℤ pos 1) n) more
            | false ↦ more
          ]

      here : t.0 ≡ low → Contains (if p low then ms low ∷ passing p (low +ℤ pos 1) n else passing p (low +ℤ pos 1) n) t
      here same =
          let passed : p low ≡ true = ap p (sym same) ∙ e in
          let first : Contains (ms low ∷ passing p (low +ℤ pos 1) n) t = subst (λ (u : Ms). Contains (ms low ∷ passing p (low +ℤ pos 1) n) u) (same_time (ms low) t (sym same)) (head_is_in (ms low) (passing p (low +ℤ pos 1) n)) in
          subst (λ b. Contains (if b then ms low ∷ passing p (low +ℤ pos 1) n else passing p (low +ℤ pos 1) n) t) (sym passed) first

-- ---- each walk

-- a set of times that can be told has a list
listed_by : (walk : Walk) → ((t : ℤ) → IsInstant walk t → IsTime t) → ((t : ℤ) → Told (IsInstant walk t)) → (times : List Ms) × IsListed walk times
listed_by walk times told =
    let p : ℤ → Bool = λ t. tells (told t) in (
      passing p (neg_ℤ (pos (2 ^ 60))) (2 ^ 61 + 1),
      record {
        rising = passing_rise p (neg_ℤ (pos (2 ^ 60))) (2 ^ 61 + 1);
        instants = λ t. (
          λ is. by_true (told t.0) (passes p (neg_ℤ (pos (2 ^ 60))) (2 ^ 61 + 1) t is),
          λ i.
              let at = times t.0 i in
              is_among p (neg_ℤ (pos (2 ^ 60))) (2 ^ 61 + 1) t at.low (omega (arith, ints, at.high)) (to_true (told t.0) i),
        );
      },
    )
  where
    by_true : {P : Type 0} (h : Told P) → tells h ≡ true → P
    by_true (inl h) e = h
    by_true (inr h) e = absurd (cc e)

    to_true : {P : Type 0} (h : Told P) → P → tells h ≡ true
    to_true (inl h) i = refl
    to_true (inr h) i = absurd (h i)

module _ (P : ℤ → Type 0) (told : (t : ℤ) → Told (P t)) where
  -- whether one of some times is such
  sought : (ts : List Ms) → Told ((t : Ms) × Contains ts t × P t.0)
  sought [] = inr (λ found. none_is_in found.0 found.1)
  sought (t ∷ ts) = by_head (told t.0) (sought ts)
    where
      by_head : Told (P t.0) → Told ((u : Ms) × Contains ts u × P u.0) → Told ((u : Ms) × Contains (t ∷ ts) u × P u.0)
      by_head (inl h) rest = inl (t, head_is_in t ts, h)
      by_head (inr h) (inl found) = inl (found.0, behind_is_in t found.0 ts found.1, found.2)
      by_head (inr h) (inr none) =
          inr
          (λ found. elim (member_cases t found.0 ts found.1) [
            | inl e ↦ h (subst (λ (u : Ms). P u.0) (sym e) found.2)
            | inr more ↦ none (found.0, more, found.2)
          ])

window_told : (closed : Bool) (moment range step t : ℤ) → pos 0 <ℤ step → Told (IsInWindow closed moment range step t)
window_told closed moment range step t some =
    let edge = moment -ℤ range in
    told_by (IsFrom closed edge t × ((t ≤ℤ moment) × IsMultiple step t)) (IsInWindow closed moment range step t)
    (λ h. record { from_edge = h.0; to_moment = h.1.0; on_step = h.1.1 })
    (λ w. (w.from_edge, (w.to_moment, w.on_step)))
    (both_told (IsFrom closed edge t) ((t ≤ℤ moment) × IsMultiple step t) (from_told closed edge t) (both_told (t ≤ℤ moment) (IsMultiple step t) (at_most t moment) (multiple_told step t some)))

grid_told : (start end step t : ℤ) → pos 0 <ℤ step → Told (IsOnGrid start end step t)
grid_told start end step t some =
    told_by ((start ≤ℤ t) × ((t ≤ℤ end) × IsMultiple step (t -ℤ start))) (IsOnGrid start end step t)
    (λ h. record { from_start = h.0; to_end = h.1.0; on_step = h.1.1 })
    (λ on. (on.from_start, (on.to_end, on.on_step)))
    (both_told (start ≤ℤ t) ((t ≤ℤ end) × IsMultiple step (t -ℤ start)) (at_most start t) (both_told (t ≤ℤ end) (IsMultiple step (t -ℤ start)) (at_most t end) (multiple_told step (t -ℤ start) some)))

instant_told : (walk : Walk) → LeadsToTimes walk → (t : ℤ) → Told (IsInstant walk t)
instant_told (Grid g) h t = let r = g.in_range in grid_told g.start.0 g.end.0 g.step.0 t (omega (arith, ints, r.forward))
instant_told (Fixed at) h t = equal_told t at.0
instant_told (Multiples' p (more_of-Walk outer end_of-Walk) moment range step) h t =
    let outers = listed_by outer (instant-is_time outer h.0) (instant_told outer h.0) in
    let W : ℤ → Type 0 = λ o. IsInWindow moment.closed (moment_at moment o) range.0 step.0 t in
    told_by ((o : Ms) × Contains outers.0 o × W o.0) ((o : ℤ) × IsInstant outer o × W o)
    (λ found. (found.0.0, (outers.1.instants found.0).0 found.1, found.2))
    (λ is. (ms is.0, (outers.1.instants (ms is.0)).1 is.1, is.2))
    (sought W (λ o. window_told moment.closed (moment_at moment o) range.0 step.0 t h.2) outers.0)

pub each_walk_listed : EachWalkIsListed
each_walk_listed walk h = listed_by walk (instant-is_time walk h) (instant_told walk h)

-- ---- in step with the list

-- the time at a place, and what stands before and behind it
place_in : (times : List Ms) (k : ℕ) (t : Ms) → slice_get times k ≡ Some t → Contains times t
place_in [] k t e = absurd (cc e)
place_in (u ∷ times) zero t e = let same : u ≡ t = cc e in subst (λ (v : Ms). Contains (u ∷ times) v) same (head_is_in u times)
place_in (u ∷ times) (suc k) t e = behind_is_in u t times (place_in times k t e)

abbrev IsLeastBehind : List Ms → ℤ → Option Ms → Type 0
IsLeastBehind times t None = (u : Ms) → Contains times u → t <ℤ u.0 → ⊥
IsLeastBehind times t (Some at) = Contains times at × ((t <ℤ at.0) × ((u : Ms) → Contains times u → t <ℤ u.0 → at.0 ≤ℤ u.0))

least_from_head : (x : Ms) (xs : List Ms) (t : ℤ) (next : Option Ms) → AreRising (x ∷ xs) → x.0 ≤ℤ t → IsLeastBehind (x ∷ xs) t next → IsLeastBehind xs t next
least_from_head x xs t None up early none = λ u is later. none u (behind_is_in x u xs is) later
least_from_head x xs t (Some at) up early least = (
  elim (member_cases x at xs least.0) [
    | inl e ↦ let same : x.0 ≡ at.0 = ap (λ (v : Ms). v.0) e in absurd (omega (arith, ints, same, early, least.1.0))
    | inr more ↦ more
  ],
  (least.1.0, λ u is later. least.1.1 u (behind_is_in x u xs is) later),
)

-- where all times of a list are later, the least of them is its head
head_is_least : (xs : List Ms) (t : ℤ) (next : Option Ms) → AreRising xs → AllByRecursion (λ (u : Ms). t <ℤ u.0) xs → IsLeastBehind xs t next → next ≡ slice_get xs 0
head_is_least [] t None up all least = refl
head_is_least [] t (Some at) up all least = absurd (none_is_in at least.0)
head_is_least (x ∷ xs) t None up all none = absurd (none x (head_is_in x xs) all.0)
head_is_least (x ∷ xs) t (Some at) up all least =
    let a : at.0 ≤ℤ x.0 = least.1.1 x (head_is_in x xs) all.0 in
    let b : x.0 ≤ℤ at.0 = head_first x xs up at least.0 in
    ap (λ (v : Ms). Some v) (same_time at x (omega (arith, ints, a, b)))

behind_place : (xs : List Ms) (k : ℕ) (t : Ms) (next : Option Ms) → AreRising xs → slice_get xs k ≡ Some t → IsLeastBehind xs t.0 next → next ≡ slice_get xs (suc k)
behind_place [] k t next up e least = absurd (cc e)
behind_place (x ∷ xs) zero t next up e least =
    let same : x ≡ t = cc e in
    let all : AllByRecursion (λ (u : Ms). t.0 <ℤ u.0) xs = subst (λ (v : Ms). AllByRecursion (λ (u : Ms). v.0 <ℤ u.0) xs) same up.0 in
    let early : x.0 ≡ t.0 = ap (λ (v : Ms). v.0) same in
    head_is_least xs t.0 next up.1 all (least_from_head x xs t.0 next up (omega (arith, ints, early)) least)
behind_place (x ∷ xs) (suc k) t next up e least =
    let later : x.0 <ℤ t.0 = all_of (λ (u : Ms). x.0 <ℤ u.0) xs up.0 t (place_in xs k t e) in
    behind_place xs k t next up.1 e (least_from_head x xs t.0 next up (omega (arith, ints, later)) least)

next_least : (walk : Walk) (times : List Ms) (t : ℤ) (next : Option Ms) → IsListed walk times → IsNext walk t next → IsLeastBehind times t next
next_least walk times t None on is = λ u m later. is.none u.0 ((on.instants u).0 m) later
next_least walk times t (Some at) on is = ((on.instants at).1 is.instant, (is.later, λ u m later. is.least u.0 ((on.instants u).0 m) later))

pub next_is_behind : NextIsBehind
next_is_behind walk times k t next on e is =
    let more : k + 1 ≡ suc k = omega arith in
    subst (λ n. next ≡ slice_get times n) (sym more) (behind_place times k t next on.rising e (next_least walk times t.0 next on is))

pub first_is_head : FirstIsHead
first_is_head walk [] None on is = refl
first_is_head walk [] (Some at) on is = absurd (none_is_in at ((on.instants at).1 is.instant))
first_is_head walk (x ∷ xs) None on is = absurd (is.none x.0 ((on.instants x).0 (head_is_in x xs)))
first_is_head walk (x ∷ xs) (Some at) on is =
    let a : at.0 ≤ℤ x.0 = is.least x.0 ((on.instants x).0 (head_is_in x xs)) in
    let b : x.0 ≤ℤ at.0 = head_first x xs on.rising at ((on.instants at).1 is.instant) in
    ap (λ (v : Ms). Some v) (same_time at x (omega (arith, ints, a, b)))
