-- How many samples were given, to the last one, where a kernel goes on from moment to moment, for proofs.
use Rattle.std.proofs.Common.{◌≡◌, ◌∙◌, ℕ, zero, suc, ◌+◌, ◌<◌, true, false, List, [], ◌∷◌, length, take, drop, get_or, None, Some, refl, sym, subst, arith}
use Rattle.std.specs.Prelude.{ℤ, ◌≤ℤ◌, int_lt, if◌then◌else◌, sum_by}
use Rattle.std.specs.Option.{option_to_list}
use Rattle.std.proofs.lemmas.Int.{ints}
use Rattle.std.proofs.lemmas.List.Sums.{sum_by-cons, sum_by_more}
use Rattle.sample_store.specs.Samples.{AllSeries, Samples, samples_at}
use Rattle.series_marks.specs.Picks.{BeginsAt, BeginsWith, picked_at, picked_of, picks_of}
use Rattle.series_marks.specs.Reaches.{Follow, IsSoon, moment_of, reach, reads_of}
use Rattle.series_marks.specs.Reads.{Reached, after, ahead_of, edge_of, last_of, read_at, read_of, until}
use Rattle.ticks.specs.declared.moment.Ms.{Ms}
use Rattle.ticks.specs.declared.walk.WalkMoment.{WalkMoment}

-- ---- a series

-- the samples up to a moment are those up to an earlier one and those behind it
until_past : (a m : ℤ) (xs : Samples) → a ≤ℤ m → length (until m xs) ≡ length (until a xs) + length (until m (after a xs))
until_past a m [] h = refl
until_past a m (x ∷ xs) h =
    elim (int_lt a x.0.0) as (λ c. int_lt a x.0.0 ≡ c → length (until m (x ∷ xs)) ≡ length (if c then [] else x ∷ until a xs) + length (until m (if c then x ∷ xs else after a xs))) [
      | true ↦ λ e. omega arith
      | false ↦ λ e. let d : int_lt m x.0.0 ≡ false = grind (arith, ints, h, e) in let k = until_past a m xs h in rw d (omega arith)
    ] refl

none_past : (m : ℤ) (xs : Samples) → length (until m (after m xs)) ≡ 0
none_past m [] = refl
none_past m (x ∷ xs) =
    elim (int_lt m x.0.0) as (λ c. int_lt m x.0.0 ≡ c → length (until m (if c then x ∷ xs else after m xs)) ≡ 0) [
      | true ↦ λ e. rw e refl
      | false ↦ λ e. none_past m xs
    ] refl

picked_is : (e a m : ℤ) (S : Samples) → a ≤ℤ m → picked_at e a m S + length (until a (after e S)) ≡ read_at e m S + length (option_to_list (last_of a (after e S) None))
picked_is e a m S h = let k = until_past a m (after e S) h in omega (arith, k)

-- what is given at the first moment
pub picked_first : (e m : ℤ) (S : Samples) (now mid was last ahead : ℕ) → mid ≡ was + last → now ≡ mid + ahead → last ≡ length (option_to_list (last_of m (after e S) None))
    → ahead ≡ length (option_to_list (ahead_of m (last_of m (after e S) None) (after m (after e S)))) → now ≡ was + picked_at e m m S
picked_first e m S now mid was last ahead f g h k = let n = none_past m (after e S) in omega (arith, n, f, g, h, k)

pub begun_counts : (reached : Reached) (edge m : Ms) (S : Samples) (now was : ℕ) → reached ≡ None → now ≡ was + picked_at edge.0 m.0 m.0 S
    → (first : ℤ) → BeginsAt first reached m → now + picked_of first reached S ≡ was + picked_at (edge_of reached edge).0 first m.0 S
begun_counts reached edge m S now was is h =
    subst (λ (r : Reached). (first : ℤ) → BeginsAt first r m → now + picked_of first r S ≡ was + picked_at (edge_of r edge).0 first m.0 S) (sym is)
    (λ first b. subst (λ (a : ℤ). now + 0 ≡ was + picked_at edge.0 a m.0 S) (sym b) (omega (arith, h)))

pub gone_counts : (reached : Reached) (r : Ms × Ms) (edge m : Ms) (S : Samples) (now was : ℕ) → reached ≡ Some r → r.1.0 ≤ℤ m.0 → now + read_at r.0.0 r.1.0 S ≡ was + read_at r.0.0 m.0 S
    → (first : ℤ) → BeginsAt first reached m → now + picked_of first reached S ≡ was + picked_at (edge_of reached edge).0 first m.0 S
gone_counts reached r edge m S now was is later h =
    subst (λ (o : Reached). (first : ℤ) → BeginsAt first o m → now + picked_of first o S ≡ was + picked_at (edge_of o edge).0 first m.0 S) (sym is) (λ first b. gone first b)
  where
    gone : (first : ℤ) → first ≤ℤ r.1.0 → now + picked_at r.0.0 first r.1.0 S ≡ was + picked_at r.0.0 first m.0 S
    gone first b =
        let p = picked_is r.0.0 first r.1.0 S b in
        let c : first ≤ℤ m.0 = omega (arith, ints, b, later) in
        let q = picked_is r.0.0 first m.0 S c in
        omega (arith, p, q, h)

-- ---- all series

-- one series more
pub sums_more : (f g : ℕ → ℕ) (series : List ℕ) (i now mid begin : ℕ) → i < length series → mid + sum_by f (take i series) ≡ begin + sum_by g (take i series)
    → now + f (get_or series i 0) ≡ mid + g (get_or series i 0) → now + sum_by f (take (i + 1) series) ≡ begin + sum_by g (take (i + 1) series)
sums_more f g series i now mid begin l a b =
    let c : sum_by f (take (i + 1) series) ≡ sum_by f (take i series) + f (get_or series i 0) = sum_by_more f series i 0 l in
    let d : sum_by g (take (i + 1) series) ≡ sum_by g (take i series) + g (get_or series i 0) = sum_by_more g series i 0 l in
    omega (arith, a, b, c, d)

none_more : (a b c : ℕ) → a ≡ b + c → b ≡ 0 → c ≡ 0 → a ≡ 0
none_more a b c h k l = omega (arith, h, k, l)

-- before the first instant
pub none_read : (store : AllSeries) (series : List ℕ) → reads_of None store series ≡ 0
none_read store [] = refl
none_read store (s ∷ series) = none_more _ _ _ (sum_by-cons (λ (u : ℕ). read_of None (samples_at store u)) s series) refl (none_read store series)

pub no_picks : (first : ℤ) (store : AllSeries) (series : List ℕ) → picks_of first None store series ≡ 0
no_picks first store [] = refl
no_picks first store (s ∷ series) =
    none_more _ _ _ (sum_by-cons (λ (u : ℕ). picked_of first None (samples_at store u)) s series) refl (no_picks first store series)

-- ---- instants

-- a kernel that has gone on to an instant began where it began
begins_on : (back first : ℤ) (reached : Reached) (moment : WalkMoment) (t : Ms) (ts : List Ms) → IsSoon back reached moment t → BeginsWith first reached moment (t ∷ ts)
    → BeginsWith first (reach back reached moment t) moment ts
begins_on back first reached moment t [] s b = tt
begins_on back first None moment t (u ∷ ts) s b = subst (λ (z : ℤ). first ≤ℤ z) b (omega (arith, ints))
begins_on back first (Some r) moment t (u ∷ ts) s b =
    let h : first ≤ℤ r.1.0 = b in
    let k : r.1.0 ≤ℤ (moment_of moment t).0 = s.0 in
    omega (arith, ints, h, k)

pub begins_at : (first : ℤ) (reached : Reached) (moment : WalkMoment) (at : List Ms) (i : ℕ) (d : Ms) → i < length at → BeginsWith first reached moment (drop i at)
    → BeginsWith first reached moment (get_or at i d ∷ [])
begins_at first reached moment [] i d l b = absurd (omega arith)
begins_at first reached moment (t ∷ ts) zero d l b = b
begins_at first reached moment (t ∷ ts) (suc i) d l b = begins_at first reached moment ts i d (omega arith) b

pub begins_next : (back first : ℤ) (reached : Reached) (moment : WalkMoment) (at : List Ms) (i : ℕ) (d : Ms) → i < length at → Follow back reached moment (drop i at) → BeginsWith first reached moment (drop i at)
    → BeginsWith first (reach back reached moment (get_or at i d)) moment (drop (i + 1) at)
begins_next back first reached moment [] i d l f b = absurd (omega arith)
begins_next back first reached moment (t ∷ ts) zero d l f b = begins_on back first reached moment t ts f.0 b
begins_next back first reached moment (t ∷ ts) (suc i) d l f b = let e : suc i + 1 ≡ suc (i + 1) = omega arith in rw e (begins_next back first reached moment ts i d (omega arith) f b)
