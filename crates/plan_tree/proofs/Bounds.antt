-- What a tree may have read is within its bound.
use Rattle.std.proofs.Common.{◌≡◌, ◌∙◌, ℕ, zero, suc, ◌+◌, ◌≤◌, List, [], ◌∷◌, length, take, Option, None, Some, refl, sym, ap, subst, arith}
use Rattle.std.specs.Prelude.{ℤ, pos, ◌<ℤ◌, ◌≤ℤ◌, sum_by, ⊤}
use Rattle.std.proofs.lemmas.Int.{ints}
use Rattle.std.proofs.lemmas.List.Sums.{sum_by-cons, sum_by-le-sum_by}
use Rattle.promql_meaning.specs.Selecting.{lookback}
use Rattle.sample_store.specs.Samples.{AllSeries, samples_at}
use Rattle.series_marks.specs.Reaches.{edge_at, last_instant, moment_of, reads_of}
use Rattle.series_marks.specs.Reads.{AreRising, read_at, read_of, span_bound}
use Rattle.series_marks.specs.Spent.{edge_before}
use Rattle.series_marks.specs.Walked.{reads_later, reads_within}
use Rattle.ticks.specs.Listed.{AreRising as TimesRise, IsListed}
use Rattle.ticks.specs.Walks.{moment_at}
use Rattle.ticks.specs.Works.{Counts}
use Rattle.ticks.specs.declared.moment.Ms.{Ms}
use Rattle.ticks.specs.declared.walk.Walk.{Walk}
use Rattle.ticks.specs.declared.walk.WalkMoment.{WalkMoment}
use Rattle.plan_tree.specs.declared.node.Node.{Node}
use Rattle.plan_tree.specs.declared.node.Node.TheVariants as node
use Rattle.plan_tree.specs.declared.turns.Fed.{Fed}
use Rattle.plan_tree.specs.Feeds.{fed_on, once}
use Rattle.plan_tree.specs.Laws.{FreshTreesBegin, SpendingIsBounded, TurnsAreTheWalk}
use Rattle.plan_tree.specs.Shapes.{BinaryOf, ClampOf, GatherOf, InstantsOf, IsFit, OnceOf, PointsOf, SelectOf, SeriesOf, Shape, UnaryOf, WindowsOf}
use Rattle.plan_tree.specs.Spending.{Cost, HasRead, IsAlong, IsAtMost, IsBound, IsFresh, IsSum, IsUpTo, LeafMayRead, MayRead, RisesBy, RisesFrom, both, leaf_bound, leaf_read, nothing, once_at}
use Rattle.plan_tree.proofs.Going.{moments_rise}
use Rattle.plan_tree.proofs.Spent.{le_same}

le_then : (a b c : ℤ) → a ≤ℤ b → b ≤ℤ c → a ≤ℤ c
le_then a b c h k = omega (arith, ints, h, k)

le_behind : (a b c : ℤ) → a <ℤ b → b ≤ℤ c → a ≤ℤ c
le_behind a b c h k = omega (arith, ints, h, k)

lt_then : (a b c : ℤ) → a <ℤ b → b ≤ℤ c → a <ℤ c
lt_then a b c h k = omega (arith, ints, h, k)

few_then : (a b c : ℕ) → a ≤ b → b ≤ c → a ≤ c
few_then a b c h k = omega arith

none_least : (a b : ℕ) → a ≡ 0 → a ≤ b
none_least a b h = omega arith

none_both : (a b c : ℕ) → a ≡ b + c → b ≡ 0 → c ≡ 0 → a ≡ 0
none_both a b c h k l = omega arith

-- ---- what was fed are the first of some instants

-- the first one of them, and others up to the last one
abbrev IsAmong : List Ms → Option Fed → Type 0
IsAmong times None = ⊤
IsAmong [] (Some fed) = ⊥
IsAmong (t ∷ times) (Some fed) = (fed.first ≡ t) × (fed.last.0 ≤ℤ (last_instant t times).0)

last_later : (t : Ms) (times : List Ms) → TimesRise (t ∷ times) → t.0 ≤ℤ (last_instant t times).0
last_later t [] r = le_same t.0
last_later t (u ∷ times) r = le_behind t.0 u.0 (last_instant u times).0 r.0.0 (last_later u times r.1)

among_behind : (first p : Ms) (n : ℕ) (times : List Ms) → TimesRise (p ∷ times) → IsAmong (first ∷ p ∷ times) (fed_on (Some (record { first = first; last = p })) (take n times))
among_behind first p zero times r = (refl, last_later p times r)
among_behind first p (suc n) [] r = (refl, le_same p.0)
among_behind first p (suc n) (u ∷ times) r = among_next (fed_on (Some (record { first = first; last = u })) (take n times)) (among_behind first u n times r.1)
  where
    among_next : (fed : Option Fed) → IsAmong (first ∷ u ∷ times) fed → IsAmong (first ∷ p ∷ u ∷ times) fed
    among_next None h = tt
    among_next (Some fed) h = h

among_first : (t : Ms) (times : List Ms) (fed : Option Fed) → IsAmong (t ∷ t ∷ times) fed → IsAmong (t ∷ times) fed
among_first t times None h = tt
among_first t times (Some fed) h = h

among_front : (times : List Ms) (n : ℕ) → TimesRise times → IsAmong times (fed_on None (take n times))
among_front times zero r = tt
among_front [] (suc n) r = tt
among_front (t ∷ times) (suc n) r = among_first t times (fed_on (Some (record { first = t; last = t })) (take n times)) (among_behind t t n times r)

along_among : TurnsAreTheWalk → (walk : Walk) (times : List Ms) (fed : Option Fed) → IsListed walk times → IsAlong walk fed → IsAmong times fed
along_among turns walk times fed listed (at, chain, is) =
    let front : at ≡ take (length at) times = (turns walk times at listed chain).0 in
    subst (IsAmong times) (sym (is ∙ ap (λ (ts : List Ms). fed_on None ts) front)) (among_front times (length at) listed.rising)

among_up : (times : List Ms) (own fed : Option Fed) → IsUpTo own fed → IsAmong times fed → IsAmong times own
among_up times None fed up h = tt
among_up times (Some own) None up h = absurd up
among_up [] (Some own) (Some fed) up h = absurd h
among_up (t ∷ times) (Some own) (Some fed) up h = (up.0 ∙ h.0, le_then own.last.0 fed.last.0 (last_instant t times).0 up.1 h.1)

once_among : (first : Ms) (times : List Ms) (fed : Option Fed) → IsAmong times fed → IsAmong (once_at first times) (once first fed)
once_among first times None h = tt
once_among first [] (Some fed) h = absurd h
once_among first (t ∷ times) (Some fed) h = (refl, le_same first.0)

once_rises : (first : Ms) (times : List Ms) → TimesRise (once_at first times)
once_rises first [] = tt
once_rises first (t ∷ times) = (tt, tt)

-- ---- a leaf

no_reads : (store : AllSeries) (series : List ℕ) → reads_of None store series ≡ 0
no_reads store [] = refl
no_reads store (s ∷ series) = none_both _ _ _ (sum_by-cons (λ (u : ℕ). read_of None (samples_at store u)) s series) refl (no_reads store series)

module _ (back : ℤ) (store : AllSeries) (series : List ℕ) (moment : WalkMoment) (positive : pos 0 <ℤ back) (rising : AreRising store) where
  one_within : (t l m : Ms) → t.0 ≤ℤ m.0 → l.0 ≤ℤ m.0 → (s : ℕ) → read_at (edge_at back moment t).0 (moment_at moment l.0) (samples_at store s) ≤ span_bound (edge_at back moment t).0 (moment_at moment m.0) (samples_at store s)
  one_within t l m from to s =
      let e = (edge_at back moment t).0 in
      let early : e <ℤ moment_at moment t.0 = edge_before moment.closed back e (moment_at moment t.0) positive (le_same e) in
      let before : e <ℤ moment_at moment m.0 = lt_then e (moment_at moment t.0) (moment_at moment m.0) early (moments_rise moment t.0 m.0 from) in
      few_then (read_at e (moment_at moment l.0) (samples_at store s)) (read_at e (moment_at moment m.0) (samples_at store s)) (span_bound e (moment_at moment m.0) (samples_at store s))
      (reads_later e (moment_at moment l.0) (moment_at moment m.0) (samples_at store s) (moments_rise moment l.0 m.0 to))
      (reads_within e (moment_at moment m.0) (samples_at store s) (rising s) before)

  leaf_among : (times : List Ms) (own : Option Fed) → TimesRise times → IsAmong times own → IsAtMost (leaf_read back store series moment own) (leaf_bound back store series moment times)
  leaf_among times None r h = record { fetched = none_least (reads_of None store series) (leaf_bound back store series moment times).fetched (no_reads store series); probed = omega arith }
  leaf_among [] (Some own) r h = absurd h
  leaf_among (t ∷ times) (Some own) r h =
      let last = last_instant t times in
      let from = last_later t times r in
      record {
        fetched = subst (λ (first : Ms). reads_of (Some (edge_at back moment first, moment_of moment own.last)) store series ≤ sum_by (λ (s : ℕ). span_bound (edge_at back moment t).0 (moment_at moment last.0) (samples_at store s)) series) (sym h.0)
            (sum_by-le-sum_by (λ (s : ℕ). read_of (Some (edge_at back moment t, moment_of moment own.last)) (samples_at store s)) (λ (s : ℕ). span_bound (edge_at back moment t).0 (moment_at moment last.0) (samples_at store s)) series (one_within t own.last last from h.1));
        probed = omega arith;
      }

  pub leaf_within : (times : List Ms) (fed : Option Fed) (read most : Cost) → TimesRise times → IsAmong times fed → LeafMayRead back store series moment fed read → most ≡ leaf_bound back store series moment times → IsAtMost read most
  leaf_within times fed read most r h (own, up, is) bound =
      subst (λ (c : Cost). IsAtMost c most) (sym is) (subst (λ (c : Cost). IsAtMost (leaf_read back store series moment own) c) (sym bound) (leaf_among times own r (among_up times own fed up h)))

-- ---- a tree

sum_within : (P Q R S : Cost → Type 0) (read most : Cost) → ((a b : Cost) → P a → R b → IsAtMost a b) → ((a b : Cost) → Q a → S b → IsAtMost a b) → IsSum P Q read → IsSum R S most → IsAtMost read most
sum_within P Q R S read most f g (a, b, p, q, is) (c, d, r, s, bound) =
    let one = f a c p r in
    let two = g b d q s in
    let within : IsAtMost (both a b) (both c d) = record {
      fetched = (let x = one.fetched in let y = two.fetched in omega arith);
      probed = (let x = one.probed in let y = two.probed in omega arith);
    } in
    subst (λ (z : Cost). IsAtMost z most) (sym is) (subst (λ (z : Cost). IsAtMost (both a b) z) (sym bound) within)

at_most_same : (a b : Cost) → a ≡ nothing → b ≡ nothing → IsAtMost a b
at_most_same a b p q = subst (λ (z : Cost). IsAtMost z b) (sym p) (subst (λ (z : Cost). IsAtMost nothing z) (sym q) (record { fetched = omega arith; probed = omega arith }))

lookback_positive : pos 0 <ℤ lookback
lookback_positive = omega (arith, ints)

tree_within : TurnsAreTheWalk → (store : AllSeries) → AreRising store → (times : List Ms) (fed : Option Fed) (shape : Shape) (read most : Cost) → IsFit store shape → TimesRise times → IsAmong times fed → MayRead store fed shape read
    → IsBound store times shape most → IsAtMost read most
tree_within turns store rising times fed (InstantsOf one) read most fit r h may bound = at_most_same read most may bound
tree_within turns store rising times fed (SelectOf series moment stamped) read most fit r h may bound = leaf_within lookback store series moment lookback_positive rising times fed read most r h may bound
tree_within turns store rising times fed (SeriesOf series f moment range scalar) read most fit r h may bound =
    sum_within (MayRead store fed scalar) (LeafMayRead range.0 store series moment fed) (IsBound store times scalar) (λ n. n ≡ leaf_bound range.0 store series moment times) read most
    (λ a b. tree_within turns store rising times fed scalar a b fit.3 r h) (λ a b. leaf_within range.0 store series moment fit.1 rising times fed a b r h) may bound
tree_within turns store rising times fed (UnaryOf one rows) read most fit r h may bound = tree_within turns store rising times fed rows read most fit r h may bound
tree_within turns store rising times fed (BinaryOf one rows beside) read most fit r h may bound =
    sum_within (MayRead store fed rows) (MayRead store fed beside) (IsBound store times rows) (IsBound store times beside) read most
    (λ a b. tree_within turns store rising times fed rows a b fit.1 r h) (λ a b. tree_within turns store rising times fed beside a b fit.2 r h) may bound
tree_within turns store rising times fed (ClampOf one rows low high) read most fit r h may bound =
    sum_within (MayRead store fed rows) (IsSum (MayRead store fed low) (MayRead store fed high)) (IsBound store times rows) (IsSum (IsBound store times low) (IsBound store times high)) read most
    (λ a b. tree_within turns store rising times fed rows a b fit.2 r h)
    (λ a b. sum_within (MayRead store fed low) (MayRead store fed high) (IsBound store times low) (IsBound store times high) a b (λ c d. tree_within turns store rising times fed low c d fit.3 r h) (λ c d. tree_within turns store rising times fed high c d fit.4 r h))
    may bound
tree_within turns store rising times fed (PointsOf f walk moment range step inner scalar) read most fit r h (own, along, may) (inner_times, listed, bound) =
    sum_within (MayRead store fed scalar) (MayRead store own inner) (IsBound store times scalar) (IsBound store inner_times inner) read most
    (λ a b. tree_within turns store rising times fed scalar a b fit.3 r h)
    (λ a b. tree_within turns store rising inner_times own inner a b fit.2 listed.rising (along_among turns walk inner_times own listed along)) may bound
tree_within turns store rising times fed (OnceOf first child) read most fit r h may bound =
    tree_within turns store rising (once_at first times) (once first fed) child read most fit (once_rises first times) (once_among first times fed h) may bound
tree_within turns store rising times fed (GatherOf place) read most fit r h may bound = at_most_same read most may bound
tree_within turns store rising times fed (WindowsOf place f moment range rules scalar) read most fit r h may bound = tree_within turns store rising times fed scalar read most fit.1 r h may bound

pub spending_bounded : TurnsAreTheWalk → SpendingIsBounded
spending_bounded turns store walk fed shape read most times rising fit along may listed bound = tree_within turns store rising times fed shape read most fit listed.rising (along_among turns walk times fed listed along) may bound

-- ---- the counters of a tree

pub rises_within : (start now : Counts) (read most : Cost) → RisesBy start now read → IsAtMost read most → RisesBy start now most
rises_within start now read most r w = record {
  fetched = (let a = r.fetched in let b = w.fetched in omega arith);
  probed = (let a = r.probed in let b = w.probed in omega arith);
  tested = r.tested;
}

pub rises_on : (start was now : Counts) (read more : Cost) → RisesBy start was read → RisesFrom was now read more → RisesBy start now more
rises_on start was now read more r f = record {
  fetched = (let a = r.fetched in let b = f.fetched in omega arith);
  probed = (let a = r.probed in let b = f.probed in omega arith);
  tested = f.tested ∙ r.tested;
}

-- ---- a tree that was fed nothing

-- what was read by then, before the first instant
record Begun (store : AllSeries) (tree : Node) : Type 0 where
  pub read : Cost
  pub has : HasRead store None tree read

none_along : (walk : Walk) (fed : Option Fed) → fed ≡ None → IsAlong walk fed
none_along walk fed is = ([], tt, is)

begun : (store : AllSeries) (tree : Node) → IsFresh tree → Begun store tree
begun store (node.Instants kernel none) h = record { read = nothing; has = refl }
begun store (node.Select kernel) h = record { read = leaf_read lookback store kernel.series kernel.moment None; has = refl }
begun store (node.Series' kernel p scalar) h =
    let a = begun store scalar h in
    let b = leaf_read kernel.range.0 store kernel.series kernel.moment None in
    record { read = both a.read b; has = (a.read, b, a.has, refl, refl) }
begun store (node.Unary' kernel p rows) h = let a = begun store rows h in record { read = a.read; has = a.has }
begun store (node.Binary' kernel p rows q beside) h =
    let a = begun store rows h.0 in
    let b = begun store beside h.1 in
    record { read = both a.read b.read; has = (a.read, b.read, a.has, b.has, refl) }
begun store (node.Clamp' kernel p rows q low r high) h =
    let a = begun store rows h.0 in
    let b = begun store low h.1 in
    let c = begun store high h.2 in
    record { read = both a.read (both b.read c.read); has = (a.read, both b.read c.read, a.has, (b.read, c.read, b.has, c.has, refl), refl) }
begun store (node.Points' kernel inner_fed p inner q scalar) h =
    let a = begun store scalar h.2 in
    let b = begun store inner h.1 in
    record {
      read = both a.read b.read;
      has = (none_along kernel.walk inner_fed h.0, (a.read, b.read, a.has, subst (λ (f : Option Fed). HasRead store f inner b.read) (sym h.0) b.has, refl));
    }
begun store (node.Once' first steps p child) h = let a = begun store child h in record { read = a.read; has = a.has }
begun store (node.Gather place) h = record { read = nothing; has = refl }
begun store (node.Windows' kernel place passed p scalar) h = let a = begun store scalar h in record { read = a.read; has = a.has }

pub fresh_begin : FreshTreesBegin
fresh_begin store tree now is fresh =
    let b = begun store tree.node fresh in
    record {
      along = none_along tree.walk tree.fed is;
      read = b.read;
      has = subst (λ (f : Option Fed). HasRead store f tree.node b.read) (sym is) b.has;
      rises = record { fetched = omega arith; probed = omega arith; tested = refl };
    }
