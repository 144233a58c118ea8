-- What the leaves of a tree were given, feed by feed.
use Rattle.std.proofs.Common.{◌≡◌, ◌∙◌, ℕ, ◌+◌, ◌<◌, List, [], ◌∷◌, length, Option, None, Some, refl, sym, ap, subst, arith}
use Rattle.std.specs.Prelude.{ℤ, ◌≤ℤ◌, pos, Bool, true, false, Result, OnOk}
use Rattle.std.proofs.lemmas.Int.{ints}
use Rattle.promql_meaning.specs.Selecting.{lookback}
use Rattle.sample_store.specs.Samples.{AllSeries}
use Rattle.series_marks.specs.Counted.{no_picks, none_read}
use Rattle.series_marks.specs.Picks.{BeginsWith, picks_of}
use Rattle.series_marks.specs.Reaches.{IsReached, reach_all, reads_of, window_edge}
use Rattle.series_marks.specs.Reads.{Reached}
use Rattle.ticks.specs.Walks.{moment_at}
use Rattle.ticks.specs.declared.moment.Ms.{Ms}
use Rattle.ticks.specs.declared.walk.WalkMoment.{WalkMoment}
use Rattle.plan_tree.specs.declared.node.Node.{Node}
use Rattle.plan_tree.specs.declared.node.Node.TheVariants as node
use Rattle.plan_tree.specs.declared.turns.Fed.{Fed}
use Rattle.plan_tree.specs.Feeds.{fed_on, once, reached_of}
use Rattle.plan_tree.specs.Counting.{fetched_by, leaf_picked}
use Rattle.plan_tree.specs.Spending.{IsFresh}
use Rattle.plan_tree.proofs.Going.{once_end, reach_end}
use Rattle.plan_tree.proofs.Spent.{fed_once, on_any}

-- ---- parts together

pub two_counts : (w x y a b m n : ℕ) → x + a ≡ w + m → y + b ≡ x + n → y + (a + b) ≡ w + (m + n)
two_counts w x y a b m n h k = omega (arith, h, k)

pub part_counts : (store : AllSeries) (from : Option Fed) (given part : Node) (x w n : ℕ) → given ≡ part → x + fetched_by store from given ≡ w + n → x + fetched_by store from part ≡ w + n
part_counts store from given part x w n is h = subst (λ (z : Node). x + fetched_by store from z ≡ w + n) is h

-- a whole tree, which is what it was matched as
pub counted_self : (store : AllSeries) (from : Option Fed) (self old : Node) (x w n : ℕ) → self ≡ old → x + fetched_by store from old ≡ w + n → x + fetched_by store from self ≡ w + n
counted_self store from self old x w n is h = subst (λ (z : Node). x + fetched_by store from z ≡ w + n) (sym is) h

pub counted_as : {A E : Type 0} (store : AllSeries) (from : Option Fed) (r : Result A E) (self old : Node) (x w n : ℕ) → self ≡ old → x + fetched_by store from old ≡ w + n → OnOk r (x + fetched_by store from self ≡ w + n)
counted_as store from r self old x w n is h = on_any r (counted_self store from self old x w n is h)

-- ---- leaves

edge_back : (closed : Bool) (back a b : ℤ) → window_edge closed back a ≤ℤ window_edge closed back b → a ≤ℤ b
edge_back false back a b h = omega (arith, ints, h)
edge_back true back a b h = omega (arith, ints, h)

picked_on : (store : AllSeries) (series : List ℕ) (moment : WalkMoment) (fed : Fed) (at : List Ms)
    → leaf_picked store series moment (fed_on (Some fed) at) ≡ picks_of (moment_at moment fed.first.0) (reached_of lookback moment (fed_on (Some fed) at)) store series
picked_on store series moment fed [] = refl
picked_on store series moment fed (t ∷ at) = picked_on store series moment (record { first = fed.first; last = t }) at

-- the clause of a kernel of newest rows
abbrev pub PicksTo : AllSeries → List ℕ → Reached → WalkMoment → List Ms → (x w : ℕ) → Type 0
PicksTo store series reached moment at x w =
    (first : ℤ) → BeginsWith first reached moment at → x + picks_of first reached store series ≡ w + picks_of first (reach_all lookback reached moment at) store series

begins_fed : (moment : WalkMoment) (fed : Fed) (at : List Ms) → IsReached moment.closed lookback (reached_of lookback moment (Some fed)) → BeginsWith (moment_at moment fed.first.0) (reached_of lookback moment (Some fed)) moment at
begins_fed moment fed [] edge = tt
begins_fed moment fed (t ∷ ts) edge = edge_back moment.closed lookback (moment_at moment fed.first.0) (moment_at moment fed.last.0) edge

picked_from : (store : AllSeries) (series : List ℕ) (moment : WalkMoment) (fed : Option Fed) (at : List Ms) (x w : ℕ) → IsReached moment.closed lookback (reached_of lookback moment fed) → PicksTo store series (reached_of lookback moment fed) moment at x w
    → x + leaf_picked store series moment fed ≡ w + leaf_picked store series moment (fed_on fed at)
picked_from store series moment None [] x w edge h =
    let a : x + picks_of (pos 0) None store series ≡ w + picks_of (pos 0) None store series = h (pos 0) tt in
    omega (arith, a)
picked_from store series moment None (t ∷ at) x w edge h =
    let first : ℤ = moment_at moment t.0 in
    let to = fed_on (Some (record { first = t; last = t })) at in
    let a : x + picks_of first None store series ≡ w + picks_of first (reach_all lookback None moment (t ∷ at)) store series = h first refl in
    let none : picks_of first None store series ≡ 0 = no_picks first store series in
    let end : picks_of first (reach_all lookback None moment (t ∷ at)) store series ≡ picks_of first (reached_of lookback moment to) store series = ap (λ (r : Reached). picks_of first r store series) (reach_end lookback moment None (t ∷ at)) in
    let is : leaf_picked store series moment to ≡ picks_of first (reached_of lookback moment to) store series = picked_on store series moment (record { first = t; last = t }) at in
    begun x w (picks_of first None store series) (picks_of first (reach_all lookback None moment (t ∷ at)) store series) (picks_of first (reached_of lookback moment to) store series) (leaf_picked store series moment to) a none end is
  where
    begun : (x w a b c d : ℕ) → x + a ≡ w + b → a ≡ 0 → b ≡ c → d ≡ c → x + 0 ≡ w + d
    begun x w a b c d h i j k = omega (arith, h, i, j, k)
picked_from store series moment (Some fed) at x w edge h =
    let first : ℤ = moment_at moment fed.first.0 in
    let to = fed_on (Some fed) at in
    let a : x + picks_of first (reached_of lookback moment (Some fed)) store series ≡ w + picks_of first (reach_all lookback (reached_of lookback moment (Some fed)) moment at) store series = h first (begins_fed moment fed at edge) in
    let end : picks_of first (reach_all lookback (reached_of lookback moment (Some fed)) moment at) store series ≡ picks_of first (reached_of lookback moment to) store series = ap (λ (r : Reached). picks_of first r store series) (reach_end lookback moment (Some fed) at) in
    let is : leaf_picked store series moment to ≡ picks_of first (reached_of lookback moment to) store series = picked_on store series moment fed at in
    a ∙ ap (λ (n : ℕ). w + n) (end ∙ sym is)

-- its kernel has the same series and moment afterwards
pub select_counts : (store : AllSeries) (series series' : List ℕ) (moment moment' : WalkMoment) (fed : Option Fed) (at : List Ms) (reached : Reached) (x w : ℕ) → reached ≡ reached_of lookback moment fed → IsReached moment.closed lookback reached
    → series' ≡ series → moment' ≡ moment → PicksTo store series reached moment at x w → x + leaf_picked store series moment fed ≡ w + leaf_picked store series' moment' (fed_on fed at)
select_counts store series series' moment moment' fed at reached x w is edge s m h =
    let all = picked_from store series moment fed at x w (subst (IsReached moment.closed lookback) is edge) (subst (λ (r : Reached). PicksTo store series r moment at x w) is h) in
    let same : leaf_picked store series' moment' (fed_on fed at) ≡ leaf_picked store series moment (fed_on fed at) =
    ap (λ (xs : List ℕ). leaf_picked store xs moment' (fed_on fed at)) s ∙ ap (λ (z : WalkMoment). leaf_picked store series z (fed_on fed at)) m in
    all ∙ ap (λ (n : ℕ). w + n) (sym same)

pub series_counts : (back back' : ℤ) (store : AllSeries) (series series' : List ℕ) (moment moment' : WalkMoment) (fed : Option Fed) (at : List Ms) (reached : Reached) (y x : ℕ) → reached ≡ reached_of back moment fed → back' ≡ back → series' ≡ series → moment' ≡ moment
    → y + reads_of reached store series ≡ x + reads_of (reach_all back reached moment at) store series
    → y + reads_of (reached_of back moment fed) store series ≡ x + reads_of (reached_of back' moment' (fed_on fed at)) store series'
series_counts back back' store series series' moment moment' fed at reached y x is b s m h =
    let from : reads_of reached store series ≡ reads_of (reached_of back moment fed) store series = ap (λ (r : Reached). reads_of r store series) is in
    let to : reads_of (reach_all back reached moment at) store series ≡ reads_of (reached_of back moment (fed_on fed at)) store series =
    ap (λ (r : Reached). reads_of (reach_all back r moment at) store series) is ∙ ap (λ (r : Reached). reads_of r store series) (reach_end back moment fed at) in
    let same : reads_of (reached_of back' moment' (fed_on fed at)) store series' ≡ reads_of (reached_of back moment (fed_on fed at)) store series =
    ap (λ (xs : List ℕ). reads_of (reached_of back' moment' (fed_on fed at)) store xs) s ∙ ap (λ (z : WalkMoment). reads_of (reached_of back' z (fed_on fed at)) store series) m
    ∙ ap (λ (z : ℤ). reads_of (reached_of z moment (fed_on fed at)) store series) b in
    sym (ap (λ (n : ℕ). y + n) from) ∙ h ∙ ap (λ (n : ℕ). x + n) (to ∙ sym same)

-- ---- a tree that is fed one instant alone

pub once_counts : (store : AllSeries) (first : Ms) (fed : Option Fed) (at : List Ms) (child new : Node) (x w : ℕ) → 0 < length at → x + fetched_by store (once first fed) child ≡ w + fetched_by store (fed_once first) new
    → x + fetched_by store (once first fed) child ≡ w + fetched_by store (once first (fed_on fed at)) new
once_counts store first fed at child new x w some h = subst (λ (o : Option Fed). x + fetched_by store (once first fed) child ≡ w + fetched_by store o new) (sym (once_end first fed at some)) h

pub once_same : (store : AllSeries) (first : Ms) (fed : Option Fed) (before : Fed) (child : Node) (w : ℕ) → fed ≡ Some before → w + fetched_by store (once first fed) child ≡ w + fetched_by store (fed_once first) child
once_same store first fed before child w is = ap (λ (o : Option Fed). w + fetched_by store (once first o) child) is

pub once_begun : {A E : Type 0} (store : AllSeries) (first : Ms) (fed : Option Fed) (r : Result A E) (child new : Node) (x w : ℕ) → fed ≡ None → x + fetched_by store None child ≡ w + fetched_by store (fed_once first) new
    → OnOk r (x + fetched_by store (once first fed) child ≡ w + fetched_by store (fed_once first) new)
once_begun store first fed r child new x w is h = on_any r (subst (λ (o : Option Fed). x + fetched_by store (once first o) child ≡ w + fetched_by store (fed_once first) new) (sym is) h)

-- ---- more instants of a subquery

pub counts_more : (store : AllSeries) (start here now : Option Fed) (on : Option Fed) (old was new : Node) (w x y : ℕ) → now ≡ on → x + fetched_by store start old ≡ w + fetched_by store here was → y + fetched_by store here was ≡ x + fetched_by store on new
    → y + fetched_by store start old ≡ w + fetched_by store now new
counts_more store start here now on old was new w x y is h k =
    let same : fetched_by store now new ≡ fetched_by store on new = ap (λ (o : Option Fed). fetched_by store o new) is in
    omega (arith, h, k, same)

-- ---- turns

pub turn_counts : (store : AllSeries) (from from' to to' : Option Fed) (old old' new : Node) (x w : ℕ) → from' ≡ from → old' ≡ old → to' ≡ to → x + fetched_by store from' old' ≡ w + fetched_by store to new → x + fetched_by store from old ≡ w + fetched_by store to' new
turn_counts store from from' to to' old old' new x w f o t h =
    let a : fetched_by store from' old' ≡ fetched_by store from old = ap (λ (z : Option Fed). fetched_by store z old') f ∙ ap (λ (n : Node). fetched_by store from n) o in
    let b : fetched_by store to' new ≡ fetched_by store to new = ap (λ (z : Option Fed). fetched_by store z new) t in
    omega (arith, a, b, h)

-- ---- before the first instant

pub fresh_counts : (store : AllSeries) (tree : Node) → IsFresh tree → fetched_by store None tree ≡ 0
fresh_counts store (node.Instants kernel none) f = refl
fresh_counts store (node.Select kernel) f = refl
fresh_counts store (node.Series' kernel p scalar) f = let a = fresh_counts store scalar f in let n = none_read store kernel.series in omega (arith, a, n)
fresh_counts store (node.Unary' kernel p rows) f = fresh_counts store rows f
fresh_counts store (node.Binary' kernel p rows q beside) f = let a = fresh_counts store rows f.0 in let b = fresh_counts store beside f.1 in omega (arith, a, b)
fresh_counts store (node.Clamp' kernel p rows q low r high) f =
    let a = fresh_counts store rows f.0 in
    let b = fresh_counts store low f.1 in
    let c = fresh_counts store high f.2 in
    omega (arith, a, b, c)
fresh_counts store (node.Points' kernel inner_fed p inner q scalar) f =
    let a = fresh_counts store scalar f.2 in
    let b : fetched_by store inner_fed inner ≡ 0 = ap (λ (o : Option Fed). fetched_by store o inner) f.0 ∙ fresh_counts store inner f.1 in
    omega (arith, a, b)
fresh_counts store (node.Once' first steps p child) f = fresh_counts store child f
fresh_counts store (node.Gather place) f = refl
fresh_counts store (node.Windows' kernel place passed p scalar) f = fresh_counts store scalar f
