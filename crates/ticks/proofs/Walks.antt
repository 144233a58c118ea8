-- The loop over the instants of an outer walk, in whose ranges the multiples of a step are sought.
use Rattle.std.proofs.Common.{◌≡◌, ℕ, ◌+◌, ◌<◌, ◌≤◌, ◌^◌, refl, sym, subst, ap, ◌∙◌, arith}
use Rattle.std.specs.Prelude.{⊤, Bool, ℤ, pos, ◌+ℤ◌, ◌-ℤ◌, ◌<ℤ◌, ◌≤ℤ◌, Option, None, Some, IfSome, IfNone, unsigned_abs, is_some, true, false}
use Rattle.std.proofs.lemmas.Int.{ints, by_lt_z}
use Rattle.ticks.specs.declared.grid.Grid as grid
use Rattle.ticks.specs.declared.moment.Ms.{Ms}
use Rattle.ticks.specs.declared.walk.Walk.{Walk, Grid, Fixed, Multiples', end_of-Walk, more_of-Walk}
use Rattle.ticks.specs.declared.walk.Walk.TheVariants.{Multiples}
use Rattle.ticks.specs.declared.walk.WalkMoment.{WalkMoment}
use Rattle.ticks.specs.Edges.{IsFrom, before, from-edge}
use Rattle.ticks.specs.Walks.{HasTimes, IsBarren, IsFirstInWindow, IsInWindow, IsInstant, IsTime, LeadsToTimes, moment_at, multiples-instants, multiples-times}

-- a window that begins earlier has it too
from-earlier : (closed : Bool) (edge later t : ℤ) → edge ≤ℤ later → IsFrom closed later t → IsFrom closed edge t
from-earlier false edge later t h is = omega (arith, ints, h, is)
from-earlier true edge later t h is = omega (arith, ints, h, is)

pub at-edge : (closed : Bool) (last edge same : ℤ) → last ≡ before closed edge → edge ≡ same → last ≡ before closed same
at-edge closed last edge same is e = is ∙ ap (before closed) e

pub instant-is_time : (walk : Walk) → LeadsToTimes walk → (t : ℤ) → IsInstant walk t → IsTime t
instant-is_time (Grid g) h t i =
    let r = g.in_range in
    record { low = omega (arith, ints, r.first, i.from_start); high = omega (arith, ints, r.last, i.to_end) }
instant-is_time (Fixed at) h t i = subst IsTime (sym i) h
instant-is_time (Multiples' p (more_of-Walk outer end_of-Walk) moment range step) h t i =
    let times = h.3 i.0 i.1 in
    let from = from-edge moment.closed _ t i.2.from_edge in
    record { low = omega (arith, ints, times.begins.low, from); high = omega (arith, ints, times.ends.high, i.2.to_moment) }

abbrev pub IsPast : Option Ms → ℤ → Type 0
IsPast None o = ⊤
IsPast (Some at) o = o <ℤ at.0

abbrev pub IsOuter : Walk → Option Ms → Type 0
IsOuter outer None = ⊤
IsOuter outer (Some at) = IsInstant outer at.0

-- the instant is the outer walk's, and the ranges of those before it have nothing later than the time
pub record HasLooked (outer : Walk) (moment : WalkMoment) (range step t : ℤ) (instant : Option Ms) : Type 0 where
  pub outer_instant : IsOuter outer instant
  pub barren : (o : ℤ) → IsInstant outer o → IsPast instant o → IsBarren moment.closed (moment_at moment o) range step t

-- how far the instants may still rise
abbrev pub left : Option Ms → ℕ
left None = 0
left (Some at) = unsigned_abs (pos (2 ^ 60 + 1) -ℤ at.0)

-- the moments of later instants aren't earlier
moment_by-rises : (fixed : Option Ms) (offset : Ms) (closed : Bool) (o p : ℤ) → o ≤ℤ p
    → moment_at (record { fixed = fixed; offset = offset; closed = closed }) o ≤ℤ moment_at (record { fixed = fixed; offset = offset; closed = closed }) p
moment_by-rises None offset closed o p h = omega (arith, ints, h)
moment_by-rises (Some at) offset closed o p h = omega (arith, ints)

moment_at-rises : (moment : WalkMoment) (o p : ℤ) → o ≤ℤ p → moment_at moment o ≤ℤ moment_at moment p
moment_at-rises moment o p h = moment_by-rises moment.fixed moment.offset moment.closed o p h

-- with a fixed time every instant has the same moment
moment_by-same : (fixed : Option Ms) (offset : Ms) (closed : Bool) (o p : ℤ) → is_some fixed ≡ true
    → moment_at (record { fixed = fixed; offset = offset; closed = closed }) o ≡ moment_at (record { fixed = fixed; offset = offset; closed = closed }) p
moment_by-same None offset closed o p h = absurd (cc)
moment_by-same (Some f) offset closed o p h = refl

-- the least multiple in the range of an instant is the least of all, where those before it have none
pub found-is_least : (outer : Walk) (moment : WalkMoment) (range step t : ℤ) (at : Ms) (found : ℤ) → HasLooked outer moment range step t (Some at)
    → IsFirstInWindow moment.closed (moment_at moment at.0) range step t found → (u : ℤ) → (o : ℤ) → IsInstant outer o → IsInWindow moment.closed (moment_at moment o) range step u → t <ℤ u
    → found ≤ℤ u
found-is_least outer moment range step t at found looked first u o i w later = by_lt_z o at.0
    (λ past. absurd ((looked.barren o i past).none u w later))
    (λ h. let rises = moment_at-rises moment at.0 o h in first.least u w.on_step later (from-earlier moment.closed _ _ u (omega (arith, ints, rises)) w.from_edge))

module _ (outer : Walk) (moment : WalkMoment) (range step t : ℤ) where
  pub started : (w : Walk) → w ≡ outer → (start : Ms) (instant : Option Ms) → LeadsToTimes outer
      → ((o : ℤ) → IsTime o → t <ℤ moment_at moment o → start.0 <ℤ o)
      → IfSome instant (λ at. IsInstant w at.0) → IfSome instant (λ at. (u : ℤ) → IsInstant w u → start.0 <ℤ u → at.0 ≤ℤ u)
      → IfNone instant ((u : ℤ) → IsInstant w u → start.0 <ℤ u → ⊥) → HasLooked outer moment range step t instant
  started w e start None times starts instant least none = record {
    outer_instant = tt;
    barren = λ o i past. record {
      none = λ u v later.
          none o (subst (λ z. IsInstant z o) (sym e) i) (starts o (instant-is_time outer times o i) (omega (arith, ints, later, v.to_moment)));
    };
  }
  started w e start (Some at) times starts instant least none = record {
    outer_instant = subst (λ z. IsInstant z at.0) e instant;
    barren = λ o i past. record {
      none = λ u v later.
          let l = least o (subst (λ z. IsInstant z o) (sym e) i) (starts o (instant-is_time outer times o i) (omega (arith, ints, later, v.to_moment))) in
          omega (arith, ints, l, past);
    };
  }

  barren-at : (at : Ms) → HasLooked outer moment range step t (Some at) → IsBarren moment.closed (moment_at moment at.0) range step t → (o : ℤ) → IsInstant outer o
      → (at.0 <ℤ o → ⊥) → IsBarren moment.closed (moment_at moment o) range step t
  barren-at at looked here o i not-later = by_lt_z o at.0 (λ past. looked.barren o i past) (λ h. by_lt_z at.0 o (λ l. absurd (not-later l))
      (λ g. let e : at.0 ≡ o = omega (arith, ints, h, g) in subst (λ z. IsBarren moment.closed (moment_at moment z) range step t) e here))

  pub moved : (w : Walk) → w ≡ outer → (at : Ms) (next : Option Ms) → HasLooked outer moment range step t (Some at)
      → IsBarren moment.closed (moment_at moment at.0) range step t
      → IfSome next (λ n. IsInstant w n.0) → IfSome next (λ n. (u : ℤ) → IsInstant w u → at.0 <ℤ u → n.0 ≤ℤ u)
      → IfNone next ((u : ℤ) → IsInstant w u → at.0 <ℤ u → ⊥) → HasLooked outer moment range step t next
  moved w e at None looked here instant least none = record {
    outer_instant = tt;
    barren = λ o i past. barren-at at looked here o i (λ l. none o (subst (λ z. IsInstant z o) (sym e) i) l);
  }
  moved w e at (Some n) looked here instant least none = record {
    outer_instant = subst (λ z. IsInstant z n.0) e instant;
    barren = λ o i past. barren-at at looked here o i (λ l. let g = least o (subst (λ z. IsInstant z o) (sym e) i) l in omega (arith, ints, g, past));
  }

  pub falls : (w : Walk) → w ≡ outer → LeadsToTimes outer → (at : Ms) (next : Option Ms) → HasLooked outer moment range step t (Some at)
      → IfSome next (λ n. IsInstant w n.0) → IfSome next (λ n. at.0 <ℤ n.0) → left next < left (Some at)
  falls w e times at None looked instant later = let h = instant-is_time outer times at.0 looked.outer_instant in omega (arith, ints, h.high)
  falls w e times at (Some n) looked instant later =
      let h = instant-is_time outer times n.0 (subst (λ z. IsInstant z n.0) e instant) in omega (arith, ints, h.high, later)

module _ (w outer : Walk) (moment : WalkMoment) (range step : Ms) (t : ℤ) (e : w ≡ Multiples outer moment range step) where
  opened : (u : ℤ) → IsInstant w u → (o : ℤ) × IsInstant outer o × IsInWindow moment.closed (moment_at moment o) range.0 step.0 u
  opened u i = coe 0 1 (k. multiples-instants outer moment range step u k) (subst (λ z. IsInstant z u) e i)

  closed : (u : ℤ) → (o : ℤ) × IsInstant outer o × IsInWindow moment.closed (moment_at moment o) range.0 step.0 u → IsInstant w u
  closed u i = subst (λ z. IsInstant z u) (sym e) (coe 1 0 (k. multiples-instants outer moment range step u k) i)

  pub times-of : LeadsToTimes w
      → LeadsToTimes outer × (pos 0 <ℤ range.0) × (pos 0 <ℤ step.0) × ((o : ℤ) → IsInstant outer o → HasTimes (moment_at moment o) range.0)
  times-of h = coe 0 1 (k. multiples-times outer moment range step k) (subst LeadsToTimes e h)

  pub found-instant : (at : Ms) (m : ℤ) → m ≡ moment_at moment at.0 → (found : Option Ms) → HasLooked outer moment range.0 step.0 t (Some at)
      → IfSome found (λ f. IsFirstInWindow moment.closed m range.0 step.0 t f.0) → IfSome found (λ f. IsInstant w f.0)
  found-instant at m d None looked first = tt
  found-instant at m d (Some f) looked first =
      closed f.0 (at.0, looked.outer_instant, subst (λ z. IsInWindow moment.closed z range.0 step.0 f.0) d first.in_window)

  pub found-least : (at : Ms) (m : ℤ) → m ≡ moment_at moment at.0 → (found : Option Ms) → HasLooked outer moment range.0 step.0 t (Some at)
      → IfSome found (λ f. IsFirstInWindow moment.closed m range.0 step.0 t f.0) → IfSome found (λ f. (u : ℤ) → IsInstant w u → t <ℤ u → f.0 ≤ℤ u)
  found-least at m d None looked first = tt
  found-least at m d (Some f) looked first = λ u i later.
      let j = opened u i in
      found-is_least outer moment range.0 step.0 t at f.0 looked (subst (λ z. IsFirstInWindow moment.closed z range.0 step.0 t f.0) d first) u j.0 j.1 j.2 later

  pub all-barren : (instant : Option Ms) → is_some instant ≡ false → HasLooked outer moment range.0 step.0 t instant → (u : ℤ) → IsInstant w u → t <ℤ u → ⊥
  all-barren None h looked u i later = let j = opened u i in (looked.barren j.0 j.1 tt).none u j.2 later
  all-barren (Some at) h looked u i later = absurd (cc)

  pub fixed-barren : (at : Ms) → is_some moment.fixed ≡ true → IsBarren moment.closed (moment_at moment at.0) range.0 step.0 t → (u : ℤ) → IsInstant w u → t <ℤ u → ⊥
  fixed-barren at h here u i later =
      let j = opened u i in
      here.none u (subst (λ z. IsInWindow moment.closed z range.0 step.0 u) (moment_by-same moment.fixed moment.offset moment.closed j.0 at.0 h) j.2) later

pub none-holds : (found : Option Ms) (P : Type 0) → is_some found ≡ false → IfNone found P → P
none-holds None P e h = h
none-holds (Some at) P e h = absurd (cc)

pub first-least : (w : Walk) → LeadsToTimes w → (found : Option Ms) (low : ℤ) → (low +ℤ pos (2 ^ 60)) <ℤ pos 0
    → IfSome found (λ at. (u : ℤ) → IsInstant w u → low <ℤ u → at.0 ≤ℤ u) → IfSome found (λ at. (u : ℤ) → IsInstant w u → at.0 ≤ℤ u)
first-least w times None low h least = tt
first-least w times (Some at) low h least = λ u i. least u i (let b = instant-is_time w times u i in omega (arith, ints, h, b.low))

pub first-none : (w : Walk) → LeadsToTimes w → (found : Option Ms) (low : ℤ) → (low +ℤ pos (2 ^ 60)) <ℤ pos 0
    → IfNone found ((u : ℤ) → IsInstant w u → low <ℤ u → ⊥) → IfNone found ((u : ℤ) → IsInstant w u → ⊥)
first-none w times None low h none = λ u i. none u i (let b = instant-is_time w times u i in omega (arith, ints, h, b.low))
first-none w times (Some at) low h none = tt
