-- A turn of a tree that has made its asks.
use Rattle.std.proofs.Common.{◌≡◌, ◌∙◌, ◌<◌, ◌≤◌, List, [], ◌∷◌, length, slice_get, refl, arith, sym, ap, subst, Option, None, Some}
use Rattle.std.specs.Prelude.{IfSome, IsTrue, ◌==◌, true}
use Rattle.std.specs.List.{AllByRecursion}
use Rattle.std.proofs.lemmas.Bool.Decides.{Decides-eqb}
use Rattle.exchange.specs.declared.place.Place.{Place}
use Rattle.op_labels.specs.Rules.{Kept}
use Rattle.remote_api.specs.Seen.{EngineSeen}
use Rattle.sample_store.specs.Samples.{AllSeries}
use Rattle.step_batch.specs.Lent.{stages}
use Rattle.step_table.specs.Timed.{steps_over}
use Rattle.ticks.specs.Listed.{FirstIsHead, IsListed, NextIsBehind}
use Rattle.ticks.specs.Walks.{IsInstant, LeadsToTimes}
use Rattle.ticks.specs.declared.grid.Grid.{Grid}
use Rattle.ticks.specs.declared.moment.Ms.{Ms}
use Rattle.ticks.specs.declared.walk.Walk.{Walk}
use Rattle.plan_tree.specs.declared.node.Node.{Node}
use Rattle.plan_tree.specs.declared.tree.Tree.{Tree}
use Rattle.plan_tree.specs.declared.turns.Fed.{Fed}
use Rattle.plan_tree.specs.Chains.{Chain, HasBegun, IsReady, MayGo}
use Rattle.plan_tree.specs.Feeding.{CanFeed, HasMade}
use Rattle.plan_tree.specs.Feeds.{Goes, fed_on}
use Rattle.plan_tree.specs.Gathering.{AreDue, HaveCome, IsOut, IsTold}
use Rattle.plan_tree.specs.Nodes.{CanGo, IsThere, lent_by, shape_of}
use Rattle.plan_tree.specs.Shapes.{AreDistinct, IsFit, Shape, StaysInTimes, is_single, places_of, rule}
use Rattle.plan_tree.specs.Worlds.{Gathers, world}
use Rattle.plan_tree.proofs.Kept.{come_there}

-- the next instants of a walk are due
pub chain_due : FirstIsHead → NextIsBehind → (walk : Walk) (times : List Ms) (fed : Option Fed) (at : List Ms) → IsListed walk times → Chain walk fed at → AreDue times fed at
chain_due first next walk times fed [] listed c = tt
chain_due first next walk times None (t ∷ at) listed c = λ count e. ap (slice_get times) e ∙ sym (first walk times (Some t) listed c.0)
chain_due first next walk times (Some fed) (t ∷ at) listed c = λ count (m, e, here). ap (slice_get times) e ∙ sym (next walk times m fed.last (Some t) listed here c.0)

if_known : (known : Option Gathers) (P Q : Gathers → Type 0) → ((g : Gathers) → P g → Q g) → IfSome known P → IfSome known Q
if_known None P Q f h = tt
if_known (Some g) P Q f h = f g h

module _ (store : AllSeries) (kept : Kept) (known : Option Gathers) (es : List EngineSeen) (tree : Tree) (b : HasBegun store kept known es tree) (at : List Ms) where
  abbrev pub can_turn : AreDue b.times tree.fed at → Goes tree.fed at → AllByRecursion (λ (t : Ms). StaysInTimes (shape_of tree.node) t.0) at → (IsTrue (is_single (shape_of tree.node)) → length at ≡ 1) → 0 < length at
      → CanFeed store kept es tree.exchange.places tree.fed at tree.node
  can_turn due goes stays single some = record { times = b.times; goes_on = b.goes_on; due = due; goes = goes; stays = stays; single = single; some = some }

  module _ (fs : List EngineSeen) (places : List Place) (new : Node) (m : HasMade store kept fs places b.goes_on.all b.goes_on.known b.goes_on.taken b.times (fed_on tree.fed at) at (shape_of tree.node) new) where
    pub turn_lent : IfSome known (λ g. stages (lent_by places new) ≡ steps_over (rule (world store g) kept (shape_of tree.node)) at)
    turn_lent =
        let told : IfSome known (IsTold fs m.out.ps m.taken) = subst (λ (k : Option Gathers). IfSome k (IsTold fs m.out.ps m.taken)) b.known_are m.out.told in
        if_known known (IsTold fs m.out.ps m.taken) (λ g. stages (lent_by places new) ≡ steps_over (rule (world store g) kept (shape_of tree.node)) at)
        (λ g t. m.lent g (record { gave = t.gave; sets = t.sets })) told

    pub turn_there : IsThere places new
    turn_there = come_there b.goes_on.all places b.times (fed_on tree.fed at) new m.come

    pub turned : (next : Tree) → next.node ≡ new → next.exchange.places ≡ places → next.walk ≡ tree.walk → next.fed ≡ fed_on tree.fed at → shape_of new ≡ shape_of tree.node → HasBegun store kept known fs next
    turned next node_is places_are walk_is fed_is shape = record {
      times = b.times;
      listed = subst (λ (w : Walk). IsListed w b.times) (sym walk_is) b.listed;
      goes_on = record {
        all = b.goes_on.all;
        known = b.goes_on.known;
        taken = m.taken;
        out = subst (λ (ps : List Place). IsOut b.goes_on.all b.goes_on.known m.taken kept fs ps) (sym places_are) m.out;
        can = λ g p. subst (λ (n : Node). CanGo (world store g) kept next.exchange.places next.fed n) (sym node_is)
            (subst (λ (o : Option Fed). CanGo (world store g) kept next.exchange.places o new) (sym fed_is) (subst (λ (ps : List Place). CanGo (world store g) kept ps (fed_on tree.fed at) new) (sym places_are) (m.can g p)));
        come = subst (λ (n : Node). HaveCome b.goes_on.all next.exchange.places b.times next.fed n) (sym node_is)
            (subst (λ (o : Option Fed). HaveCome b.goes_on.all next.exchange.places b.times o new) (sym fed_is) (subst (λ (ps : List Place). HaveCome b.goes_on.all ps b.times (fed_on tree.fed at) new) (sym places_are) m.come));
        fit = subst (λ (s : Shape). IsFit store s) (sym (ap shape_of node_is ∙ shape)) b.goes_on.fit;
        apart = subst (λ (s : Shape). AreDistinct (places_of s)) (sym (ap shape_of node_is ∙ shape)) b.goes_on.apart;
      };
      known_are = b.known_are;
    }

pub none_at : (at : List Ms) → (length at == 0) ≡ true → at ≡ []
none_at [] e = refl
none_at (t ∷ at) e = let k : length (t ∷ at) ≡ 0 = (Decides-eqb (length (t ∷ at)) 0).0 e in absurd (omega arith)

-- ---- ready

pub begun_may : (store : AllSeries) (kept : Kept) (known : Option Gathers) (es : List EngineSeen) (tree : Tree) → tree.asking ≡ None → HasBegun store kept known es tree → MayGo store kept known es tree.asking tree
begun_may store kept known es tree e b = subst (λ (o : Option Grid). MayGo store kept known es o tree) (sym e) b

pub ready_on : (store : AllSeries) (kept : Kept) (known : Option Gathers) (es fs : List EngineSeen) (old new : Tree) → new.walk ≡ old.walk → shape_of new.node ≡ shape_of old.node → new.batch ≡ old.batch → IsReady store kept known es old
    → MayGo store kept known fs new.asking new → IsReady store kept known fs new
ready_on store kept known es fs old new walk shape batch r may = record {
  times = subst LeadsToTimes (sym walk) r.times;
  stays = λ t i. subst (λ (s : Shape). StaysInTimes s t) (sym shape) (r.stays t (subst (λ (w : Walk). IsInstant w t) walk i));
  fit = subst (λ (s : Shape). IsFit store s) (sym shape) r.fit;
  may = may;
  some = subst (λ n. 0 < n) (sym batch) r.some;
  single = λ s. subst (λ n. n ≤ 1) (sym batch) (r.single (subst (λ (z : Shape). IsTrue (is_single z)) shape s));
}
