-- What trees spend, feed by feed.
use Rattle.std.proofs.Common.{◌≡◌, ◌∙◌, ℕ, ◌+◌, ◌<◌, ◌≤◌, List, [], ◌∷◌, ◌++◌, length, Option, None, Some, refl, sym, ap, subst, arith}
use Rattle.std.specs.Prelude.{ℤ, ◌≤ℤ◌, Result, Ok, Err, IsErrAnd, OnOk}
use Rattle.std.proofs.lemmas.Int.{ints}
use Rattle.promql_meaning.specs.Selecting.{lookback}
use Rattle.sample_store.specs.Samples.{AllSeries}
use Rattle.series_marks.specs.Reaches.{reach_all, reads_of, searches_of}
use Rattle.series_marks.specs.Reads.{Reached}
use Rattle.subquery_rows.specs.Rings.{IsNextAfter}
use Rattle.ticks.specs.Works.{Counts}
use Rattle.ticks.specs.declared.moment.Ms.{Ms}
use Rattle.ticks.specs.declared.walk.Walk.{Walk}
use Rattle.ticks.specs.declared.walk.WalkMoment.{WalkMoment}
use Rattle.plan_tree.specs.declared.node.Node.{Node}
use Rattle.plan_tree.specs.declared.node.Node.TheVariants as node
use Rattle.plan_tree.specs.declared.turns.Fed.{Fed}
use Rattle.plan_tree.specs.Chains.{Chain, IsComing}
use Rattle.plan_tree.specs.Feeds.{Goes, fed_next, fed_on, last_of, once, reached_of}
use Rattle.plan_tree.specs.Nodes.{shape_of}
use Rattle.plan_tree.specs.Shapes.{BinaryOf, ClampOf, GatherOf, InstantsOf, OnceOf, PointsOf, SelectOf, SeriesOf, Shape, UnaryOf, WindowsOf}
use Rattle.plan_tree.specs.Spending.{Cost, FeedSpends, FillSpends, HasRead, IsAlong, IsSum, IsUpTo, LeafMayRead, MayRead, RisesFrom, Spends, both, leaf_read}
use Rattle.plan_tree.proofs.Chained.{chain_more, end_more}
use Rattle.plan_tree.proofs.Going.{once_end, reach_end}

-- ---- what was fed, or less

pub le_same : (a : ℤ) → a ≤ℤ a
le_same a = omega (arith, ints)

pub up_to_same : (fed : Option Fed) → IsUpTo fed fed
up_to_same None = tt
up_to_same (Some fed) = (refl, le_same fed.last.0)

up_to_then : (a b c : Option Fed) → IsUpTo a b → IsUpTo b c → IsUpTo a c
up_to_then None b c h k = tt
up_to_then (Some a) None c h k = absurd h
up_to_then (Some a) (Some b) None h k = absurd k
up_to_then (Some a) (Some b) (Some c) h k = (h.0 ∙ k.0, (let l = h.1 in let m = k.1 in omega (arith, ints, l, m)))

pub up_to_on : (fed : Option Fed) (at : List Ms) → Goes fed at → IsUpTo fed (fed_on fed at)
up_to_on None at g = tt
up_to_on (Some fed) [] g = (refl, le_same fed.last.0)
up_to_on (Some fed) (t ∷ at) g =
    let next : Option Fed = Some (record { first = fed.first; last = t }) in
    let one : IsUpTo (Some fed) next = (refl, (let l = g.0 in omega (arith, ints, l))) in
    up_to_then (Some fed) next (fed_on next at) one (up_to_on next at g.1)

once_up : (first : Ms) (a b : Option Fed) → IsUpTo a b → IsUpTo (once first a) (once first b)
once_up first None b h = tt
once_up first (Some a) None h = absurd h
once_up first (Some a) (Some b) h = (refl, le_same first.0)

leaf_later : (back : ℤ) (store : AllSeries) (series : List ℕ) (moment : WalkMoment) (a b : Option Fed) (n : Cost) → IsUpTo a b → LeafMayRead back store series moment a n → LeafMayRead back store series moment b n
leaf_later back store series moment a b n h (own, up, is) = (own, up_to_then own a b up h, is)

sum_weaker : (P Q R S : Cost → Type 0) (n : Cost) → ((m : Cost) → P m → R m) → ((m : Cost) → Q m → S m) → IsSum P Q n → IsSum R S n
sum_weaker P Q R S n f g (a, b, p, q, is) = (a, b, f a p, g b q, is)

-- what may have been read by then may have been read later
pub may_later : (store : AllSeries) (a b : Option Fed) (shape : Shape) (n : Cost) → IsUpTo a b → MayRead store a shape n → MayRead store b shape n
may_later store a b (InstantsOf one) n h m = m
may_later store a b (SelectOf series moment stamped) n h m = leaf_later lookback store series moment a b n h m
may_later store a b (SeriesOf series f moment range scalar) n h m =
    sum_weaker (MayRead store a scalar) (LeafMayRead range.0 store series moment a) (MayRead store b scalar) (LeafMayRead range.0 store series moment b) n
    (λ k. may_later store a b scalar k h) (λ k. leaf_later range.0 store series moment a b k h) m
may_later store a b (UnaryOf one rows) n h m = may_later store a b rows n h m
may_later store a b (BinaryOf one rows beside) n h m =
    sum_weaker (MayRead store a rows) (MayRead store a beside) (MayRead store b rows) (MayRead store b beside) n (λ k. may_later store a b rows k h) (λ k. may_later store a b beside k h) m
may_later store a b (ClampOf one rows low high) n h m =
    sum_weaker (MayRead store a rows) (IsSum (MayRead store a low) (MayRead store a high)) (MayRead store b rows) (IsSum (MayRead store b low) (MayRead store b high)) n (λ k. may_later store a b rows k h)
    (λ k. sum_weaker (MayRead store a low) (MayRead store a high) (MayRead store b low) (MayRead store b high) k (λ l. may_later store a b low l h) (λ l. may_later store a b high l h)) m
may_later store a b (PointsOf f walk moment range step inner scalar) n h (own, along, sum) =
    (own, along, sum_weaker (MayRead store a scalar) (MayRead store own inner) (MayRead store b scalar) (MayRead store own inner) n (λ k. may_later store a b scalar k h) (λ k m. m) sum)
may_later store a b (OnceOf first child) n h m = may_later store (once first a) (once first b) child n (once_up first a b h) m
may_later store a b (GatherOf place) n h m = m
may_later store a b (WindowsOf place f moment range rules scalar) n h m = may_later store a b scalar n h m

-- ---- what was read may have been read

leaf_may : (back : ℤ) (store : AllSeries) (series : List ℕ) (moment : WalkMoment) (fed : Option Fed) (n : Cost) → n ≡ leaf_read back store series moment fed → LeafMayRead back store series moment fed n
leaf_may back store series moment fed n is = (fed, up_to_same fed, is)

pub read_may : (store : AllSeries) (fed : Option Fed) (tree : Node) (n : Cost) → HasRead store fed tree n → MayRead store fed (shape_of tree) n
read_may store fed (node.Instants kernel none) n h = h
read_may store fed (node.Select kernel) n h = leaf_may lookback store kernel.series kernel.moment fed n h
read_may store fed (node.Series' kernel p scalar) n h =
    sum_weaker (HasRead store fed scalar) (λ read. read ≡ leaf_read kernel.range.0 store kernel.series kernel.moment fed) (MayRead store fed (shape_of scalar)) (LeafMayRead kernel.range.0 store kernel.series kernel.moment fed) n
    (λ k. read_may store fed scalar k) (λ k. leaf_may kernel.range.0 store kernel.series kernel.moment fed k) h
read_may store fed (node.Unary' kernel p rows) n h = read_may store fed rows n h
read_may store fed (node.Binary' kernel p rows q beside) n h =
    sum_weaker (HasRead store fed rows) (HasRead store fed beside) (MayRead store fed (shape_of rows)) (MayRead store fed (shape_of beside)) n (λ k. read_may store fed rows k) (λ k. read_may store fed beside k) h
read_may store fed (node.Clamp' kernel p rows q low r high) n h =
    sum_weaker (HasRead store fed rows) (IsSum (HasRead store fed low) (HasRead store fed high)) (MayRead store fed (shape_of rows)) (IsSum (MayRead store fed (shape_of low)) (MayRead store fed (shape_of high))) n (λ k. read_may store fed rows k)
    (λ k. sum_weaker (HasRead store fed low) (HasRead store fed high) (MayRead store fed (shape_of low)) (MayRead store fed (shape_of high)) k (λ l. read_may store fed low l) (λ l. read_may store fed high l)) h
read_may store fed (node.Points' kernel inner_fed p inner q scalar) n h =
    (inner_fed, h.0, sum_weaker (HasRead store fed scalar) (HasRead store inner_fed inner) (MayRead store fed (shape_of scalar)) (MayRead store inner_fed (shape_of inner)) n (λ k. read_may store fed scalar k) (λ k. read_may store inner_fed inner k) h.1)
read_may store fed (node.Once' first steps p child) n h = read_may store (once first fed) child n h
read_may store fed (node.Gather place) n h = h
read_may store fed (node.Windows' kernel place passed p scalar) n h = read_may store fed scalar n h

-- ---- counters

pub rises_none : (w : Counts) (a : Cost) → RisesFrom w w a a
rises_none w a = record { fetched = omega arith; probed = omega arith; tested = refl }

pub rises_then : (w x y : Counts) (a b c : Cost) → RisesFrom w x a b → RisesFrom x y b c → RisesFrom w y a c
rises_then w x y a b c one two = record {
  fetched = (let f = one.fetched in let g = two.fetched in omega arith);
  probed = (let f = one.probed in let g = two.probed in omega arith);
  tested = two.tested ∙ one.tested;
}

rises_both : (w x y : Counts) (a b c d : Cost) → RisesFrom w x a b → RisesFrom x y c d → RisesFrom w y (both a c) (both b d)
rises_both w x y a b c d one two = record {
  fetched = (let f = one.fetched in let g = two.fetched in omega arith);
  probed = (let f = one.probed in let g = two.probed in omega arith);
  tested = two.tested ∙ one.tested;
}

-- ---- what isn't fed

pub on_any : {A E P : Type 0} (r : Result A E) → P → OnOk r P
on_any (Ok a) p = p
on_any (Err e) p = tt

stays : (May : Cost → Type 0) (w : Counts) (was : Cost) → May was → Spends May w w was
stays May w was may = record { now = was; rises = rises_none w was; may = may }

pub stays_made : (Is : Cost → Type 0) (w : Counts) (was : Cost) → Is was → (spent : Spends Is w w was) × Is spent.now
stays_made Is w was is = (record { now = was; rises = rises_none w was; may = is }, is)

-- ---- a leaf

leaf_rises : (back : ℤ) (store : AllSeries) (series : List ℕ) (moment : WalkMoment) (fed : Option Fed) (at : List Ms) (reached : Reached) (w x : Counts) → reached ≡ reached_of back moment fed
    → x.fetched + reads_of reached store series ≤ w.fetched + reads_of (reach_all back reached moment at) store series
    → x.probed + searches_of reached series ≤ w.probed + searches_of (reach_all back reached moment at) series
    → x.tested ≡ w.tested
    → RisesFrom w x (leaf_read back store series moment fed) (leaf_read back store series moment (fed_on fed at))
leaf_rises back store series moment fed at reached w x is f p t =
    let from = reached_of back moment fed in
    let end : reach_all back from moment at ≡ reached_of back moment (fed_on fed at) = reach_end back moment fed at in
    record {
      fetched = subst (λ (r : Reached). x.fetched + reads_of from store series ≤ w.fetched + reads_of r store series) end
          (subst (λ (r : Reached). x.fetched + reads_of r store series ≤ w.fetched + reads_of (reach_all back r moment at) store series) is f);
      probed = subst (λ (r : Reached). x.probed + searches_of from series ≤ w.probed + searches_of r series) end
          (subst (λ (r : Reached). x.probed + searches_of r series ≤ w.probed + searches_of (reach_all back r moment at) series) is p);
      tested = t;
    }

-- its kernel has the same length, series and moment afterwards
pub leaf_spends : (back back' : ℤ) (store : AllSeries) (series series' : List ℕ) (moment moment' : WalkMoment) (fed : Option Fed) (at : List Ms) (reached : Reached) (w x : Counts) → reached ≡ reached_of back moment fed
    → x.fetched + reads_of reached store series ≤ w.fetched + reads_of (reach_all back reached moment at) store series
    → x.probed + searches_of reached series ≤ w.probed + searches_of (reach_all back reached moment at) series
    → x.tested ≡ w.tested
    → back' ≡ back → series' ≡ series → moment' ≡ moment
    → (was : Cost) → was ≡ leaf_read back store series moment fed → (spent : Spends (LeafMayRead back store series moment (fed_on fed at)) w x was) × (spent.now ≡ leaf_read back' store series' moment' (fed_on fed at))
leaf_spends back back' store series series' moment moment' fed at reached w x stands f p t b s m was is =
    let to = fed_on fed at in
    let rises = leaf_rises back store series moment fed at reached w x stands f p t in (
      record {
        now = leaf_read back store series moment to;
        rises = subst (λ (c : Cost). RisesFrom w x c (leaf_read back store series moment to)) (sym is) rises;
        may = (to, up_to_same to, refl);
      },
      (λ j. leaf_read (sym b j) store (sym s j) (sym m j) to),
    )

pub leaf_unread : (back : ℤ) (store : AllSeries) (series : List ℕ) (moment : WalkMoment) (fed to : Option Fed) (w : Counts) → IsUpTo fed to → (was : Cost) → was ≡ leaf_read back store series moment fed → Spends (LeafMayRead back store series moment to) w w was
leaf_unread back store series moment fed to w up was is = stays (LeafMayRead back store series moment to) w was (fed, up, is)

-- ---- a part that was fed

-- what a part has spent, and has read by then
abbrev pub PartSpends : AllSeries → (from to : Option Fed) → (old new : Node) → (before after : Counts) → Type 0
PartSpends store from to old new before after =
    (was : Cost) → HasRead store from old was → (spent : Spends (MayRead store to (shape_of old)) before after was) × HasRead store to new spent.now

-- what a part has spent, where memory ran out by then
abbrev pub PartFails : AllSeries → (from to : Option Fed) → (old : Node) → (before after : Counts) → Type 0
PartFails store from to old before after = (was : Cost) → HasRead store from old was → Spends (MayRead store to (shape_of old)) before after was

-- the part is what was given
pub part_spends : (store : AllSeries) (from to : Option Fed) (given part new : Node) (w x : Counts) → given ≡ part → PartSpends store from to given new w x → PartSpends store from to part new w x
part_spends store from to given part new w x is f = subst (λ (n : Node). PartSpends store from to n new w x) is f

pub part_fails : {A E : Type 0} (store : AllSeries) (from to : Option Fed) (r : Result A E) (given part new : Node) (w x : Counts) → given ≡ part → FeedSpends store from to r given new w x → PartFails store from to part w x
part_fails store from to r given part new w x is f = subst (λ (n : Node). PartFails store from to n w x) is (λ was h. (f was h).0)

-- what was made is what it was where memory runs out later
pub part_made : (store : AllSeries) (from to : Option Fed) (part new : Node) (w x : Counts) → PartSpends store from to part new w x → PartFails store from to part w x
part_made store from to part new w x f was h = (f was h).0

-- a part that isn't fed
pub unread : (store : AllSeries) (from to : Option Fed) (part : Node) (w : Counts) → IsUpTo from to → PartFails store from to part w w
unread store from to part w up was h = stays (MayRead store to (shape_of part)) w was (may_later store from to (shape_of part) was up (read_may store from part was h))

-- ---- two parts

sum_rises : (w x y : Counts) (a b c d was : Cost) → was ≡ both a c → RisesFrom w x a b → RisesFrom x y c d → RisesFrom w y was (both b d)
sum_rises w x y a b c d was is one two = subst (λ (z : Cost). RisesFrom w y z (both b d)) (sym is) (rises_both w x y a b c d one two)

pub sum_fails : (P Q R S : Cost → Type 0) (w x y : Counts) (was : Cost) → IsSum P Q was → ((a : Cost) → P a → Spends R w x a) → ((b : Cost) → Q b → Spends S x y b) → Spends (IsSum R S) w y was
sum_fails P Q R S w x y was (a, b, p, q, is) f g =
    let one = f a p in
    let two = g b q in
    record { now = both one.now two.now; rises = sum_rises w x y a one.now b two.now was is one.rises two.rises; may = (one.now, two.now, one.may, two.may, refl) }

pub sum_made : (P Q R S T U : Cost → Type 0) (w x y : Counts) (was : Cost) → IsSum P Q was → ((a : Cost) → P a → (spent : Spends R w x a) × T spent.now) → ((b : Cost) → Q b → (spent : Spends S x y b) × U spent.now)
    → (spent : Spends (IsSum R S) w y was) × IsSum T U spent.now
sum_made P Q R S T U w x y was (a, b, p, q, is) f g =
    let one = f a p in
    let two = g b q in (
      record { now = both one.0.now two.0.now; rises = sum_rises w x y a one.0.now b two.0.now was is one.0.rises two.0.rises; may = (one.0.now, two.0.now, one.0.may, two.0.may, refl) },
      (one.0.now, two.0.now, one.1, two.1, refl),
    )

-- ---- two and three parts of a tree

module _ (store : AllSeries) (from to : Option Fed) where
  pub two_fail : (a b : Node) (w x y : Counts) → PartFails store from to a w x → PartFails store from to b x y
      → (was : Cost) → IsSum (HasRead store from a) (HasRead store from b) was → Spends (IsSum (MayRead store to (shape_of a)) (MayRead store to (shape_of b))) w y was
  two_fail a b w x y f g was h = sum_fails (HasRead store from a) (HasRead store from b) (MayRead store to (shape_of a)) (MayRead store to (shape_of b)) w x y was h f g

  pub two_made : (a b a' b' : Node) (w x y : Counts) → PartSpends store from to a a' w x → PartSpends store from to b b' x y
      → (was : Cost) → IsSum (HasRead store from a) (HasRead store from b) was
      → (spent : Spends (IsSum (MayRead store to (shape_of a)) (MayRead store to (shape_of b))) w y was) × IsSum (HasRead store to a') (HasRead store to b') spent.now
  two_made a b a' b' w x y f g was h =
      sum_made (HasRead store from a) (HasRead store from b) (MayRead store to (shape_of a)) (MayRead store to (shape_of b)) (HasRead store to a') (HasRead store to b') w x y was h f g

  pub three_fail : (a b c : Node) (w x y z : Counts) → PartFails store from to a w x → PartFails store from to b x y → PartFails store from to c y z
      → (was : Cost) → IsSum (HasRead store from a) (IsSum (HasRead store from b) (HasRead store from c)) was
      → Spends (IsSum (MayRead store to (shape_of a)) (IsSum (MayRead store to (shape_of b)) (MayRead store to (shape_of c)))) w z was
  three_fail a b c w x y z f g k was h =
      sum_fails (HasRead store from a) (IsSum (HasRead store from b) (HasRead store from c)) (MayRead store to (shape_of a)) (IsSum (MayRead store to (shape_of b)) (MayRead store to (shape_of c))) w x z was h f
      (two_fail b c x y z g k)

  pub three_made : (a b c a' b' c' : Node) (w x y z : Counts) → PartSpends store from to a a' w x → PartSpends store from to b b' x y → PartSpends store from to c c' y z
      → (was : Cost) → IsSum (HasRead store from a) (IsSum (HasRead store from b) (HasRead store from c)) was
      → (spent : Spends (IsSum (MayRead store to (shape_of a)) (IsSum (MayRead store to (shape_of b)) (MayRead store to (shape_of c)))) w z was) × IsSum (HasRead store to a') (IsSum (HasRead store to b') (HasRead store to c')) spent.now
  three_made a b c a' b' c' w x y z f g k was h =
      sum_made (HasRead store from a) (IsSum (HasRead store from b) (HasRead store from c)) (MayRead store to (shape_of a)) (IsSum (MayRead store to (shape_of b)) (MayRead store to (shape_of c)))
      (HasRead store to a') (IsSum (HasRead store to b') (HasRead store to c')) w x z was h f (two_made b c b' c' x y z g k)

-- ---- a whole tree, which is what it was matched as

pub made_as : {A E : Type 0} (store : AllSeries) (from to : Option Fed) (r : Result A E) (self old : Node) (R : Cost → Type 0) (w x : Counts) → self ≡ old
    → ((was : Cost) → HasRead store from old was → (spent : Spends (MayRead store to (shape_of old)) w x was) × R spent.now)
    → (was : Cost) → HasRead store from self was → (spent : Spends (MayRead store to (shape_of self)) w x was) × OnOk r (R spent.now)
made_as store from to r self old R w x is f =
    subst (λ (n : Node). (was : Cost) → HasRead store from n was → (spent : Spends (MayRead store to (shape_of n)) w x was) × OnOk r (R spent.now)) (sym is)
    (λ was h. let s = f was h in (s.0, on_any r s.1))

-- memory ran out
pub failed_as : {A E : Type 0} (Q : E → Type 0) (store : AllSeries) (from to : Option Fed) (r : Result A E) → IsErrAnd r Q → (self old : Node) (R : Cost → Type 0) (w x : Counts) → self ≡ old → PartFails store from to old w x
    → (was : Cost) → HasRead store from self was → (spent : Spends (MayRead store to (shape_of self)) w x was) × OnOk r (R spent.now)
failed_as Q store from to (Ok a) err self old R w x is f was h = absurd err
failed_as Q store from to (Err e) err self old R w x is f was h = (subst (λ (n : Node). PartFails store from to n w x) (sym is) f was h, tt)

-- ---- instants of a walk

coming_next : (walk : Walk) (fed : Option Fed) (next : Option Ms) → IsNextAfter walk (last_of fed) next → IsComing walk fed next
coming_next walk None next n = n
coming_next walk (Some fed) next n = n

pub along_more : (walk : Walk) (fed : Option Fed) (u : Ms) → IsNextAfter walk (last_of fed) (Some u) → IsAlong walk fed → IsAlong walk (fed_on fed (u ∷ []))
along_more walk fed u n (at, chain, is) = (
  at ++ u ∷ [],
  chain_more walk None at u chain (subst (λ (f : Option Fed). IsComing walk f (Some u)) is (coming_next walk fed (Some u) n)),
  ap (λ (f : Option Fed). fed_next f u) is ∙ sym (end_more None at u),
)

fed_both : (fed : Option Fed) (xs ys : List Ms) → fed_on fed (xs ++ ys) ≡ fed_on (fed_on fed xs) ys
fed_both fed [] ys = refl
fed_both fed (x ∷ xs) ys = fed_both (fed_next fed x) xs ys

chain_both : (walk : Walk) (fed : Option Fed) (xs ys : List Ms) → Chain walk fed xs → Chain walk (fed_on fed xs) ys → Chain walk fed (xs ++ ys)
chain_both walk fed [] ys c d = d
chain_both walk fed (x ∷ xs) ys c d = (c.0, chain_both walk (fed_next fed x) xs ys c.1 d)

pub along_on : (walk : Walk) (fed : Option Fed) (more : List Ms) → Chain walk fed more → IsAlong walk fed → IsAlong walk (fed_on fed more)
along_on walk fed more c (at, chain, is) = (
  at ++ more,
  chain_both walk None at more chain (subst (λ (f : Option Fed). Chain walk f more) is c),
  ap (λ (f : Option Fed). fed_on f more) is ∙ sym (fed_both None at more),
)

-- ---- a subquery

-- what an inner tree has spent that was fed up to an end, and has read by then
abbrev pub FillEnds : AllSeries → Walk → (from end : Option Fed) → (old new : Node) → (before after : Counts) → Type 0
FillEnds store walk from end old new before after =
    (was : Cost) → IsAlong walk from → HasRead store from old was → (to : Option Fed) × IsAlong walk to × (spent : Spends (MayRead store to (shape_of old)) before after was)
    × ((end ≡ to) × HasRead store end new spent.now)

module _ (store : AllSeries) (walk : Walk) (inner_fed from to : Option Fed) (inner given new scalar : Node) (w x y : Counts) (same : given ≡ inner) where
  -- what the scalar and the inner tree may have read
  abbrev May : Option Fed → Cost → Type 0
  May own = IsSum (MayRead store to (shape_of scalar)) (MayRead store own (shape_of inner))

  abbrev pub MayBoth : Cost → Type 0
  MayBoth = λ read. (own : Option Fed) × IsAlong walk own × May own read

  pub fill_fails : {E : Type 0} (r : Result (Option Fed) E) → PartFails store from to scalar w x → FillSpends store walk inner_fed r given new x y
      → (was : Cost) → IsAlong walk inner_fed × IsSum (HasRead store from scalar) (HasRead store inner_fed inner) was → Spends MayBoth w y was
  fill_fails r one fill was (along, (a, b, p, q, is)) =
      let f = subst (λ (n : Node). FillSpends store walk inner_fed r n new x y) same fill b along q in
      let s = one a p in
      record { now = both s.now f.2.now; rises = sum_rises w x y a s.now b f.2.now was is s.rises f.2.rises; may = (f.0, f.1, (s.now, f.2.now, s.may, f.2.may, refl)) }

  -- an inner tree that isn't fed, since memory ran out before
  pub fill_waits : PartFails store from to scalar w x → (was : Cost) → IsAlong walk inner_fed × IsSum (HasRead store from scalar) (HasRead store inner_fed inner) was → Spends MayBoth w x was
  fill_waits one was (along, sum) =
      let s = sum_fails (HasRead store from scalar) (HasRead store inner_fed inner) (MayRead store to (shape_of scalar)) (MayRead store inner_fed (shape_of inner)) w x x was sum one (unread store inner_fed inner_fed inner x (up_to_same inner_fed)) in
      record { now = s.now; rises = s.rises; may = (inner_fed, along, s.may) }

  pub fill_made : (end : Option Fed) (walk' : Walk) (scalar' : Node) → walk' ≡ walk → PartSpends store from to scalar scalar' w x → FillEnds store walk inner_fed end given new x y
      → (was : Cost) → IsAlong walk inner_fed × IsSum (HasRead store from scalar) (HasRead store inner_fed inner) was
      → (spent : Spends MayBoth w y was) × (IsAlong walk' end × IsSum (HasRead store to scalar') (HasRead store end new) spent.now)
  fill_made end walk' scalar' there one fill was (along, (a, b, p, q, is)) =
      let f = subst (λ (n : Node). FillEnds store walk inner_fed end n new x y) same fill b along q in
      let s = one a p in (
        record {
          now = both s.0.now f.2.now;
          rises = sum_rises w x y a s.0.now b f.2.now was is s.0.rises f.2.rises;
          may = (f.0, f.1, (s.0.now, f.2.now, s.0.may, f.2.may, refl));
        },
        (
          subst (λ (v : Walk). IsAlong v end) (sym there) (subst (λ (o : Option Fed). IsAlong walk o) (sym f.3.0) f.1),
          (s.0.now, f.2.now, s.1, f.3.1, refl),
        ),
      )

-- an inner tree that was fed more of its walk
abbrev pub Filled : AllSeries → Walk → (from now : Option Fed) → (old new : Node) → (before after : Counts) → Type 0
Filled store walk from now old new before after =
    (was : Cost) → IsAlong walk from → HasRead store from old was → IsAlong walk now × (spent : Spends (MayRead store now (shape_of old)) before after was) × HasRead store now new spent.now

pub filled_none : (store : AllSeries) (walk : Walk) (from : Option Fed) (tree : Node) (w : Counts) → Filled store walk from from tree tree w w
filled_none store walk from tree w was along h = (along, record { now = was; rises = rises_none w was; may = read_may store from tree was h }, h)

module _ (store : AllSeries) (walk : Walk) (from now : Option Fed) (u : Ms) (old was_fed new : Node) (w x y : Counts) (filled : Filled store walk from now old was_fed w x) (shape : shape_of was_fed ≡ shape_of old) (walk' : Walk) (there : walk' ≡ walk) (after : IsNextAfter walk' (last_of now) (Some u)) where
  next : IsNextAfter walk (last_of now) (Some u)
  next = subst (λ (v : Walk). IsNextAfter v (last_of now) (Some u)) there after

  abbrev further : Option Fed
  further = fed_on now (u ∷ [])

  pub filled_more : PartSpends store now further was_fed new x y → Filled store walk from further old new w y
  filled_more feed was along h =
      let i = filled was along h in
      let s = feed i.1.now i.2 in (
        along_more walk now u next i.0,
        record {
          now = s.0.now;
          rises = rises_then w x y was i.1.now s.0.now i.1.rises s.0.rises;
          may = subst (λ (z : Shape). MayRead store further z s.0.now) shape s.0.may;
        },
        s.1,
      )

  pub filled_fails : {E : Type 0} (Q : E → Type 0) (r : Result (Option Fed) E) → IsErrAnd r Q → (after : Node) → PartFails store now further was_fed x y → FillSpends store walk from r old after w y
  filled_fails Q (Ok a) err after feed was along h = absurd err
  filled_fails Q (Err e) err after feed was along h =
      let i = filled was along h in
      let s = feed i.1.now i.2 in (
        further,
        along_more walk now u next i.0,
        record {
          now = s.now;
          rises = rises_then w x y was i.1.now s.now i.1.rises s.rises;
          may = subst (λ (z : Shape). MayRead store further z s.now) shape s.may;
        },
        tt,
      )

pub filled_end : (store : AllSeries) (walk : Walk) (from now : Option Fed) (old new : Node) (w x : Counts) → Filled store walk from now old new w x → FillEnds store walk from now old new w x
filled_end store walk from now old new w x filled was along h = let i = filled was along h in (now, i.0, i.1, (refl, i.2))

-- ---- a tree that is fed one instant alone

abbrev pub fed_once : Ms → Option Fed
fed_once first = Some (record { first = first; last = first })

pub once_stays : (store : AllSeries) (first : Ms) (fed : Option Fed) (before : Fed) (child : Node) (w : Counts) → fed ≡ Some before → PartSpends store (once first fed) (fed_once first) child child w w
once_stays store first fed before child w is =
    subst (λ (o : Option Fed). PartSpends store (once first o) (fed_once first) child child w w) (sym is)
    (λ was h. (record { now = was; rises = rises_none w was; may = read_may store (fed_once first) child was h }, h))

pub once_feeds : {A E : Type 0} (store : AllSeries) (first : Ms) (fed : Option Fed) (r : Result A E) (child new : Node) (w x : Counts) → fed ≡ None → PartSpends store None (fed_once first) child new w x
    → FeedSpends store (once first fed) (fed_once first) r child new w x
once_feeds store first fed r child new w x is f =
    subst (λ (o : Option Fed). FeedSpends store (once first o) (fed_once first) r child new w x) (sym is) (λ was h. let s = f was h in (s.0, on_any r s.1))

module _ (store : AllSeries) (first : Ms) (fed : Option Fed) (at : List Ms) (some : 0 < length at) (child : Node) (w x : Counts) where
  pub once_fails : PartFails store (once first fed) (fed_once first) child w x → PartFails store (once first fed) (once first (fed_on fed at)) child w x
  once_fails f = subst (λ (o : Option Fed). PartFails store (once first fed) o child w x) (sym (once_end first fed at some)) f

  pub once_made : (new : Node) → PartSpends store (once first fed) (fed_once first) child new w x → PartSpends store (once first fed) (once first (fed_on fed at)) child new w x
  once_made new f = subst (λ (o : Option Fed). PartSpends store (once first fed) o child new w x) (sym (once_end first fed at some)) f
