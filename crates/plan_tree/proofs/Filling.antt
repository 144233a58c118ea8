-- The inner tree of a subquery, and a tree that is fed one instant alone.
use Rattle.std.proofs.Common.{◌≡◌, ◌∙◌, ℕ, zero, suc, ◌+◌, List, [], ◌∷◌, length, slice_get, Option, None, Some, refl, sym, ap, subst, arith}
use Rattle.std.specs.Prelude.{ℤ, IfOk, Ok, Err, Result, OnOk}
use Rattle.exchange.specs.declared.place.Place.{Place}
use Rattle.op_labels.specs.Rules.{Kept}
use Rattle.remote_api.specs.Seen.{EngineSeen}
use Rattle.sample_store.specs.Samples.{AllSeries}
use Rattle.step_batch.specs.Lent.{Lent, stages}
use Rattle.step_table.specs.Groups.{Names}
use Rattle.step_table.specs.Timed.{steps_over}
use Rattle.step_table.specs.declared.step.Step.{Step}
use Rattle.subquery_rows.specs.Rings.{IsAsked, IsNextAfter, IsNextStep, Ring, Stands}
use Rattle.ticks.specs.Listed.{FirstIsHead, IsListed, NextIsBehind}
use Rattle.ticks.specs.Walks.{IsInstant}
use Rattle.ticks.specs.declared.moment.Ms.{Ms}
use Rattle.ticks.specs.declared.walk.Walk.{Walk}
use Rattle.plan_tree.specs.declared.node.Node.{Node}
use Rattle.plan_tree.specs.declared.node.Node.TheVariants as node
use Rattle.plan_tree.specs.declared.turns.Fed.{Fed}
use Rattle.plan_tree.specs.Feeding.{CanFeed, CanFill, CanRepeat, GoesOn, HasFed, HasFilled, HasMade}
use Rattle.plan_tree.specs.Feeds.{Goes, fed_on, last_of, once}
use Rattle.plan_tree.specs.Gathering.{AreDue, AsksSteps, CanTake, HasCome, HasTaken, HaveCome, Instants, IsOut}
use Rattle.plan_tree.specs.Laws.{MarksAreSets}
use Rattle.plan_tree.specs.Nodes.{CanGo, IsRepeated, PointsGo, lent_by, lent_of, shape_of}
use Rattle.plan_tree.specs.Shapes.{AreDistinct, GatherOf, IsAskedOn, IsFit, Shape, StaysInTimes, places_of, rule}
use Rattle.plan_tree.specs.Worlds.{ArePossible, Gathers, IsGrown, Taken, world}
use Rattle.plan_tree.proofs.Advances.{come_next, next_takes}
use Rattle.plan_tree.proofs.Joins.{steps_given}
use Rattle.plan_tree.proofs.Kept.{Agree, can_kept, come_kept}
use Rattle.plan_tree.proofs.Possible.{completed, completed_are, grown_none, grown_then, possible_before}
use Rattle.plan_tree.proofs.Rings.{next_goes, next_on, points_asked}
use Rattle.plan_tree.proofs.Spent.{fed_once}

-- ---- which instant is due

-- the next one of a walk stands behind those that were fed
pub next_due : FirstIsHead → NextIsBehind → (walk : Walk) (times : List Ms) (fed : Option Fed) (u : Ms) → IsListed walk times → IsNextAfter walk (last_of fed) (Some u) → AreDue times fed (u ∷ [])
next_due first next walk times None u listed n count e = ap (slice_get times) e ∙ sym (first walk times (Some u) listed n)
next_due first next walk times (Some fed) u listed n count (m, e, at) = ap (slice_get times) e ∙ sym (next walk times m fed.last (Some u) listed at n)

first_due : (first : Ms) → AreDue (first ∷ []) None (first ∷ [])
first_due first count e = ap (slice_get (first ∷ [])) e

-- ---- filling

pub fill_given : (store : AllSeries) (kept now : Kept) (es : List EngineSeen) (places : List Place) (fed : Option Fed) (kernel : Ring) (t : Ms) (inner given : Node) → given ≡ inner → now ≡ kept
    → CanFill store kept es places fed kernel t inner → CanFill store now es places fed kernel t given
fill_given store kept now es places fed kernel t inner given g k c =
    subst (λ (n : Node). CanFill store now es places fed kernel t n) (sym g) (subst (λ (x : Kept). CanFill store x es places fed kernel t inner) (sym k) c)

-- what was filled of an inner tree that may be
abbrev pub Fills : (store : AllSeries) (kept : Kept) (es fs : List EngineSeen) (places now : List Place) (fed to : Option Fed) (kernel ring : Ring) (t : Ms) (inner new : Node) → Type 0
Fills store kept es fs places now fed to kernel ring t inner new =
    (c : CanFill store kept es places fed kernel t inner) → HasFilled store kept fs now c.goes_on.all c.goes_on.known c.goes_on.taken c.times to kernel ring t inner new

pub fill_has : (store : AllSeries) (kept was : Kept) (es fs : List EngineSeen) (places now : List Place) (fed to : Option Fed) (kernel ring : Ring) (t : Ms) (inner given new : Node) → given ≡ inner → was ≡ kept
    → Fills store was es fs places now fed to kernel ring t given new → Fills store kept es fs places now fed to kernel ring t inner new
fill_has store kept was es fs places now fed to kernel ring t inner given new g k h =
    subst (λ (n : Node). Fills store kept es fs places now fed to kernel ring t n new) g (subst (λ (x : Kept). Fills store x es fs places now fed to kernel ring t given new) k h)

module _ (store : AllSeries) (kept : Kept) (es : List EngineSeen) (places : List Place) (fed : Option Fed) (kernel : Ring) (t : Ms) (inner : Node) where
  -- before its first inner instant
  pub fills_none : Fills store kept es es places places fed fed kernel kernel t inner inner
  fills_none c = record { taken = c.goes_on.taken; grown = grown_none c.goes_on.taken; out = c.goes_on.out; stands = λ g p outer last asked. asked.stands; can = c.goes_on.can; come = c.goes_on.come }

  -- the inner tree may be fed the next instant
  module _ (first : FirstIsHead) (behind : NextIsBehind) (fs : List EngineSeen) (now : List Place) (to : Option Fed) (ring : Ring) (new : Node) (u : Ms) (shape : shape_of new ≡ shape_of inner) (walk : ring.walk ≡ kernel.walk) (after : IsNextAfter ring.walk (last_of to) (Some u)) (c : CanFill store kept es places fed kernel t inner) where
    abbrev pub fill_feeds : (h : HasFilled store kept fs now c.goes_on.all c.goes_on.known c.goes_on.taken c.times to kernel ring t inner new) → CanFeed store kept fs now to (u ∷ []) new
    fill_feeds h = record {
      times = c.times;
      goes_on = record {
        all = c.goes_on.all;
        known = c.goes_on.known;
        taken = h.taken;
        out = h.out;
        can = h.can;
        come = h.come;
        fit = subst (λ (s : Shape). IsFit store s) (sym shape) c.goes_on.fit;
        apart = subst (λ (s : Shape). AreDistinct (places_of s)) (sym shape) c.goes_on.apart;
      };
      due = next_due first behind kernel.walk c.times to u c.listed (subst (λ (w : Walk). IsNextAfter w (last_of to) (Some u)) walk after);
      goes = next_goes ring.walk to u after;
      stays = (subst (λ (s : Shape). StaysInTimes s u.0) (sym shape) (c.stays u.0 (subst (λ (w : Walk). IsInstant w u.0) walk (next_on ring.walk (last_of to) u after))), tt);
      single = λ h. refl;
      some = omega arith;
    }

pub feed_kept : (store : AllSeries) (kept was : Kept) (es fs : List EngineSeen) (places now : List Place) (fed : Option Fed) (at : List Ms) (tree new : Node) → was ≡ kept → HasFed store was es fs places now fed at tree new → HasFed store kept es fs places now fed at tree new
feed_kept store kept was es fs places now fed at tree new e h = subst (λ (k : Kept). HasFed store k es fs places now fed at tree new) e h

module _ (store : AllSeries) (kept : Kept) (es fs gs : List EngineSeen) (places mid end : List Place) (fed to : Option Fed) (kernel ring : Ring) (t : Ms) (inner then new : Node) (u : Ms) (shape : shape_of then ≡ shape_of inner) (next : ring.next ≡ Some u) (marks : MarksAreSets) (rows : Lent) (lends : rows ≡ lent_by end new) where
  module _ (c : CanFill store kept es places fed kernel t inner) (h : HasFilled store kept fs mid c.goes_on.all c.goes_on.known c.goes_on.taken c.times to kernel ring t inner then)
      (m : HasMade store kept gs end c.goes_on.all c.goes_on.known h.taken c.times (fed_on to (u ∷ [])) (u ∷ []) (shape_of then) new) (g : Gathers) (p : ArePossible m.taken g) where
    -- what is lent of the inner tree is its next step
    step_is : (outer : Walk) (last : Option Ms) → IsAsked kernel outer (rule (world store g) kept (shape_of inner)) last t → IsNextStep ring outer (rule (world store g) kept (shape_of inner)) last u rows
    step_is outer last asked = record {
      stands = h.stands g (possible_before h.taken m.taken g m.grown p) outer last asked;
      next = next;
      step = ap (λ (l : Lent). stages l) lends ∙ m.lent g p ∙ ap (λ (s : Shape). steps_over (rule (world store g) kept s) (u ∷ [])) shape;
      sets = marks (world store g) kept (shape_of inner) u.0 p.sets;
    }

    pub fill_step : IsNextStep ring c.outer (rule (world store g) kept (shape_of inner)) c.last u rows
    fill_step = step_is c.outer c.last (c.asked g (possible_before c.goes_on.taken h.taken g h.grown (possible_before h.taken m.taken g m.grown p)))

  -- once that was taken
  pub fills_more : (first : FirstIsHead) (behind : NextIsBehind) (ring' : Ring) (walk : ring.walk ≡ kernel.walk) (after : IsNextAfter ring.walk (last_of to) (Some u)) → Fills store kept es fs places mid fed to kernel ring t inner then → HasFed store kept fs gs mid end to (u ∷ []) then new
      → ((outer : Walk) (f : ℤ → Step) (last : Option Ms) (at : Ms) → IsNextStep ring outer f last at rows → Stands ring' outer f last)
      → Fills store kept es gs places end fed (fed_on to (u ∷ [])) kernel ring' t inner new
  fills_more first behind ring' walk after filled feed stands c =
      let h = filled c in
      let m = feed (fill_feeds store kept es places fed kernel t inner first behind fs mid to ring then u shape walk after c h) in
      record {
        taken = m.taken;
        grown = grown_then c.goes_on.taken h.taken m.taken h.grown m.grown;
        out = m.out;
        stands = λ g p outer last asked. stands outer (rule (world store g) kept (shape_of inner)) last u (step_is c h m g p outer last asked);
        can = m.can;
        come = m.come;
      }

-- the next inner instant is behind the last that was fed
pub filled_behind : (store : AllSeries) (kept : Kept) (es fs : List EngineSeen) (places now : List Place) (fed to : Option Fed) (kernel ring : Ring) (t : Ms) (inner new : Node) → Fills store kept es fs places now fed to kernel ring t inner new
    → CanFill store kept es places fed kernel t inner → IsNextAfter ring.walk ring.points.last ring.next
filled_behind store kept es fs places now fed to kernel ring t inner new filled c =
    let h = filled c in
    let g = completed h.taken in
    let p = completed_are c.goes_on.all c.goes_on.known h.taken kept fs now h.out in
    (h.stands g p c.outer c.last (c.asked g (possible_before c.goes_on.taken h.taken g h.grown p))).behind

-- ---- one instant alone

pub repeat_given : (store : AllSeries) (kept : Kept) (es : List EngineSeen) (places : List Place) (first : Ms) (fed : Option Fed) (steps : Lent) (child given : Node) → given ≡ child → CanRepeat store kept es places first fed steps child → CanRepeat store kept es places first fed steps given
repeat_given store kept es places first fed steps child given g c = subst (λ (n : Node). CanRepeat store kept es places first fed steps n) (sym g) c

-- what is made of a tree that may be fed one instant alone
abbrev pub Repeats : (store : AllSeries) (kept : Kept) (es fs : List EngineSeen) (places now : List Place) (first : Ms) (fed : Option Fed) (steps : Lent) (child new : Node) → Type 0
Repeats store kept es fs places now first fed steps child new =
    (c : CanRepeat store kept es places first fed steps child) → HasMade store kept fs now c.goes_on.all c.goes_on.known c.goes_on.taken (first ∷ []) (fed_once first) (first ∷ []) (shape_of child) new

pub repeat_has : (store : AllSeries) (kept : Kept) (es fs : List EngineSeen) (places now : List Place) (first : Ms) (fed : Option Fed) (steps : Lent) (child given new : Node) → given ≡ child
    → Repeats store kept es fs places now first fed steps given new → Repeats store kept es fs places now first fed steps child new
repeat_has store kept es fs places now first fed steps child given new g h = subst (λ (n : Node). Repeats store kept es fs places now first fed steps n new) g h

module _ (store : AllSeries) (kept : Kept) (es : List EngineSeen) (places : List Place) (first : Ms) (steps : Lent) (child : Node) where
  -- it was fed it
  repeat_some : (f : Fed) → Repeats store kept es es places places first (Some f) steps child child
  repeat_some f c = record {
    taken = c.goes_on.taken;
    grown = grown_none c.goes_on.taken;
    out = c.goes_on.out;
    lent = λ g p. (c.repeated g p).0;
    can = c.goes_on.can;
    come = c.goes_on.come;
  }

  pub repeat_stays : (fed : Option Fed) (f : Fed) → fed ≡ Some f → Repeats store kept es es places places first fed steps child child
  repeat_stays fed f e = subst (λ (o : Option Fed). Repeats store kept es es places places first o steps child child) (sym e) (repeat_some f)

  repeat_labels : (f : Fed) → CanRepeat store kept es places first (Some f) steps child → steps.labels ≡ (lent_by places child).labels
  repeat_labels f c = (c.repeated (completed c.goes_on.taken) (completed_are c.goes_on.all c.goes_on.known c.goes_on.taken kept es places c.goes_on.out)).1

  pub labels_stay : (fed : Option Fed) (f : Fed) → fed ≡ Some f → CanRepeat store kept es places first fed steps child → steps.labels ≡ (lent_by places child).labels
  labels_stay fed f e c = repeat_labels f (subst (λ (o : Option Fed). CanRepeat store kept es places first o steps child) e c)

  -- it may be
  abbrev repeat_feeds : CanRepeat store kept es places first None steps child → CanFeed store kept es places None (first ∷ []) child
  repeat_feeds c = record {
    times = first ∷ [];
    goes_on = c.goes_on;
    due = first_due first;
    goes = (tt, tt);
    stays = (c.stays, tt);
    single = λ h. refl;
    some = omega arith;
  }

  pub repeat_may : (fed : Option Fed) → fed ≡ None → CanRepeat store kept es places first fed steps child → CanFeed store kept es places None (first ∷ []) child
  repeat_may fed e c = repeat_feeds (subst (λ (o : Option Fed). CanRepeat store kept es places first o steps child) e c)

  pub repeat_made : (fs : List EngineSeen) (now : List Place) (fed : Option Fed) (new : Node) → fed ≡ None → HasFed store kept es fs places now None (first ∷ []) child new → Repeats store kept es fs places now first fed steps child new
  repeat_made fs now fed new e h = subst (λ (o : Option Fed). Repeats store kept es fs places now first o steps child new) (sym e) (λ c. h (repeat_feeds c))

-- ---- of a tree with these parts

-- a subquery that is asked fills its window, once its scalar was fed
abbrev pub points_fill : (store : AllSeries) (kept : Kept) (fs : List EngineSeen) (places now : List Place) (fed : Option Fed) (kernel : Ring) (inner_fed : Option Fed) (inner : Node) (u : Ms) (all : Instants) (known : Option Gathers) (before taken : Taken)
    → ((g : Gathers) → ArePossible before g → PointsGo (world store g) kept fed kernel inner_fed (shape_of inner) × CanGo (world store g) kept places inner_fed inner)
    → (inside : List Ms) → IsListed kernel.walk inside → HaveCome all places inside inner_fed inner
    → IsFit store (shape_of inner) → AreDistinct (places_of (shape_of inner)) → ((v : ℤ) → IsInstant kernel.walk v → StaysInTimes (shape_of inner) v) → IsNextAfter kernel.walk (last_of inner_fed) kernel.next
    → IsAskedOn kernel.walk kernel.points.moment kernel.points.range kernel.points.step u.0 → Goes fed (u ∷ [])
    → IsGrown before taken → IsOut all known taken kept fs now → Agree (places_of (shape_of inner)) places now → CanFill store kept fs now inner_fed kernel u inner
points_fill store kept fs places now fed kernel inner_fed inner u all known before taken can inside listed come fit apart stays next on goes grown out agree = record {
  times = inside;
  listed = listed;
  goes_on = record {
    all = all;
    known = known;
    taken = taken;
    out = out;
    can = λ g p. can_kept (world store g) kept places now inner_fed inner agree (can g (possible_before before taken g grown p)).1;
    come = come_kept all places now inside inner_fed inner agree come;
    fit = fit;
    apart = apart;
  };
  outer = on.0;
  last = last_of fed;
  asked = λ g p. points_asked (world store g) kept fed kernel inner_fed (shape_of inner) u (can g (possible_before before taken g grown p)).0 on goes;
  next = next;
  stays = stays;
}

-- a tree that is fed one instant alone
abbrev pub once_repeats : (store : AllSeries) (kept : Kept) (es : List EngineSeen) (places : List Place) (fed : Option Fed) (first : Ms) (child : Node) (steps : Lent) (all : Instants) (known : Option Gathers) (taken : Taken)
    → IsOut all known taken kept es places
    → ((g : Gathers) → ArePossible taken g → CanGo (world store g) kept places (once first fed) child × IsRepeated (world store g) kept first (shape_of child) (lent_by places child) steps.labels fed)
    → HaveCome all places (first ∷ []) (once first fed) child → IsFit store (shape_of child) → AreDistinct (places_of (shape_of child)) → StaysInTimes (shape_of child) first.0 → CanRepeat store kept es places first fed steps child
once_repeats store kept es places fed first child steps all known taken out can come fit apart stays = record {
  goes_on = record { all = all; known = known; taken = taken; out = out; can = λ g p. (can g p).0; come = come; fit = fit; apart = apart };
  repeated = λ g p. (can g p).1;
  stays = stays;
}

-- a gather takes its next step
abbrev pub gather_takes : (store : AllSeries) (kept : Kept) (es : List EngineSeen) (places : List Place) (fed : Option Fed) (at : List Ms) (k : ℕ) → CanFeed store kept es places fed at (node.Gather k) → (u : Ms) → at ≡ u ∷ [] → CanTake kept es places k u
gather_takes store kept es places fed at k c u one = next_takes AsksSteps kept es places places k c.goes_on.all c.goes_on.known c.goes_on.taken c.times fed at u one c.goes_on.come refl c.goes_on.out c.due

pub gather_made : (store : AllSeries) (kept : Kept) (es fs : List EngineSeen) (places now : List Place) (fed : Option Fed) (at : List Ms) (k : ℕ) (c : CanFeed store kept es places fed at (node.Gather k)) (u : Ms) → at ≡ u ∷ [] → (place : ℕ) → place ≡ k
    → HasTaken c.goes_on.come.place c.goes_on.taken c.goes_on.all c.goes_on.known kept fs now k u
    → HasMade store kept fs now c.goes_on.all c.goes_on.known c.goes_on.taken c.times (fed_on fed at) at (GatherOf k) (node.Gather place)
gather_made store kept es fs places now fed at k c u one place leaf h =
    let come = come_next AsksSteps kept es places places k c.goes_on.all c.goes_on.known c.goes_on.taken c.times fed at u one c.goes_on.come now fs h in
    let asks : AsksSteps h.place.gather.ask = subst AsksSteps (sym h.asks) c.goes_on.come.asks in
    record {
      taken = h.now;
      grown = h.grown;
      out = h.out;
      lent = λ g p. ap (λ i. stages (lent_of (slice_get now i))) leaf ∙ ap (λ o. stages (lent_of o)) h.here ∙ steps_given u h.place.gather.lent h.place.gather.windows h.place.gather.ask.kind (g k u.0) asks (h.lent g p)
          ∙ ap (λ (ts : List Ms). steps_over (λ t. (g k t).step) ts) (sym one);
      can = λ g p. tt;
      come = subst (λ i. HasCome AsksSteps c.goes_on.all now c.times (fed_on fed at) i) (sym leaf) come;
    }
