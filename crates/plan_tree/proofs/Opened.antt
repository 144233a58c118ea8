-- A tree that has made its asks.
use Rattle.std.proofs.Common.{◌≡◌, ◌∙◌, ℕ, zero, ◌<◌, List, [], ◌∷◌, length, slice_get, refl, sym, ap, subst, Option, None, Some}
use Rattle.std.specs.Prelude.{ℤ, IfSome}
use Rattle.exchange.specs.Asked.{AreOwed}
use Rattle.exchange.specs.Calls.{Each, Grows}
use Rattle.exchange.specs.Opened.{AskTheirRequests}
use Rattle.exchange.specs.Standing.{AllStand, Progress}
use Rattle.exchange.specs.declared.place.Place.{Place}
use Rattle.exchange.specs.declared.request.Request.{Request}
use Rattle.op_labels.specs.Rules.{Kept}
use Rattle.remote_api.specs.Seen.{EngineSeen}
use Rattle.remote_api.specs.declared.asks.Ask.{Ask}
use Rattle.sample_store.specs.Samples.{AllSeries}
use Rattle.step_table.specs.Laws.{SettledIsWellFormed, TakenHasSets, UnionIsSet}
use Rattle.ticks.specs.Listed.{IsListed, ListsAreOne}
use Rattle.ticks.specs.declared.grid.Grid.{Grid}
use Rattle.ticks.specs.declared.moment.Ms.{Ms}
use Rattle.ticks.specs.declared.walk.Walk.{Walk}
use Rattle.plan_tree.specs.declared.node.Node.{Node}
use Rattle.plan_tree.specs.declared.node.Node.TheVariants as node
use Rattle.plan_tree.specs.declared.tree.Tree.{Tree}
use Rattle.plan_tree.specs.declared.turns.Fed.{Fed}
use Rattle.plan_tree.specs.Asking.{HasRequestFor, HaveRequests, gathered_at, gathered_by}
use Rattle.plan_tree.specs.Chains.{AreKnown, HasBegun, MayBegin, MayGo}
use Rattle.plan_tree.specs.Feeding.{GoesOn}
use Rattle.plan_tree.specs.Gathering.{AsksSteps, AsksWindows, HasCome, HaveCome, Instants, IsOut, IsTold}
use Rattle.plan_tree.specs.Nodes.{CanGo, shape_of}
use Rattle.plan_tree.specs.Shapes.{AreDistinct, IsFit, places_of}
use Rattle.plan_tree.specs.Worlds.{Gathers, HasSets, HaveSets, Taken, world}
use Rattle.plan_tree.proofs.Given.{gathers_give}
use Rattle.plan_tree.proofs.Joins.{joined_are_sets, no_sets}
use Rattle.plan_tree.proofs.Numbers.{get_within, same_at, within_get}
use Rattle.plan_tree.proofs.Runs.{tell_on}

-- nothing was taken yet
abbrev none_taken : Taken
none_taken place t = None

all_of : Option Progress → List Ms
all_of None = []
all_of (Some p) = p.all

abbrev instants_of : List Progress → Instants
instants_of ps k = all_of (slice_get ps k)

all_at : (ps : List Progress) (k : ℕ) (p : Progress) → slice_get ps k ≡ Some p → p.all ≡ instants_of ps k
unfolding all_of
all_at ps k p e = ap all_of (sym e)

module _ (one : ListsAreOne) (span : Grid) (kept : Kept) (es fs : List EngineSeen) (requests : List Request) (places : List Place) (ps : List Progress) (owes : AreOwed span kept es requests ps) (stand : AllStand kept fs places ps) (theirs : AskTheirRequests requests places) where
  gather_comes : (Asks : Ask → Type 0) (times : List Ms) (k : ℕ) → HasRequestFor Asks requests times k → HasCome Asks (instants_of ps) places times None k
  gather_comes Asks times k h =
      let found = within_get ps k (subst (λ m. k < m) (sym owes.as_many) (get_within requests k h.r h.r_at)) in
      let p = found.0 in
      let at = within_get places k (subst (λ m. k < m) stand.as_many (get_within ps k p found.1)) in
      let s = stand.stand k at.0 p at.1 found.1 in
      let o = owes.each k h.r p h.r_at found.1 in
      let all : p.all ≡ times = one h.r.walk p.all times o.listed h.listed in
      record {
        along = sym (all_at ps k p found.1) ∙ all;
        place = at.0;
        here = at.1;
        asks = subst Asks (sym (theirs k h.r at.0 h.r_at at.1)) h.asks;
        count = 0;
        fed_are = refl;
        next = s.stands.next ∙ (λ j. slice_get (all j) (o.taken j));
      }

  requests_come : (times : List Ms) (tree : Node) → HaveRequests requests times tree → HaveCome (instants_of ps) places times None tree
  requests_come times (node.Instants kernel none) h = tt
  requests_come times (node.Select kernel) h = tt
  requests_come times (node.Series' kernel p scalar) h = requests_come times scalar h
  requests_come times (node.Unary' kernel p rows) h = requests_come times rows h
  requests_come times (node.Binary' kernel p rows q beside) h = (requests_come times rows h.0, requests_come times beside h.1)
  requests_come times (node.Clamp' kernel p rows q low r high) h = (requests_come times rows h.0, requests_come times low h.1, requests_come times high h.2)
  requests_come times (node.Points' kernel inner_fed p inner q scalar) h =
      (requests_come times scalar h.0, h.2, h.3, subst (λ (o : Option Fed). HaveCome (instants_of ps) places h.2 o inner) (sym h.1) (requests_come h.2 inner h.4))
  requests_come times (node.Once' first steps p child) h = requests_come (first ∷ []) child h
  requests_come times (node.Gather place) h = gather_comes AsksSteps times place h
  requests_come times (node.Windows' kernel place passed p scalar) h = (gather_comes (AsksWindows kernel.moment kernel.range) times place h.0, requests_come times scalar h.1)

sets_at : UnionIsSet → SettledIsWellFormed → TakenHasSets → (span : Grid) (kept : Kept) (es : List EngineSeen) (o : Option Request) (t : Ms) → HasSets (gathered_at span kept es o t)
sets_at union settle take_sets span kept es None t = record { step = no_sets; windows = no_sets }
sets_at union settle take_sets span kept es (Some r) t = joined_are_sets union settle take_sets r.part.kind t _

on_known : (known : Option Gathers) (P Q : Gathers → Type 0) → ((g : Gathers) → P g → Q g) → IfSome known P → IfSome known Q
on_known None P Q f h = tt
on_known (Some g) P Q f h = f g h

-- once the asks were made the tree goes on
pub has_begun : ListsAreOne → UnionIsSet → SettledIsWellFormed → TakenHasSets → (store : AllSeries) (kept : Kept) (known : Option Gathers) (es fs : List EngineSeen) (span : Grid) (old new : Tree) (ps : List Progress) → MayBegin store kept known es span old
    → AreOwed span kept es old.exchange.requests ps → AllStand kept fs new.exchange.places ps → AskTheirRequests old.exchange.requests new.exchange.places → length fs ≡ length es → Each Grows es fs → new.node ≡ old.node → new.walk ≡ old.walk → new.fed ≡ old.fed → HasBegun store kept known fs new
has_begun one union settle take_sets store kept known es fs span old new ps m owes stand theirs many grown node_is walk_is fed_is =
    let none : new.fed ≡ None = fed_is ∙ m.fed in
    let places = new.exchange.places in
    record {
      times = m.times;
      listed = subst (λ (w : Walk). IsListed w m.times) (sym walk_is) m.listed;
      goes_on = record {
        all = instants_of ps;
        known = known;
        taken = none_taken;
        out = record {
          ps = ps;
          stand = stand;
          along = λ k p e. all_at ps k p e;
          were = λ k t step e. absurd (cc);
          told = on_known known (AreKnown span kept es old) (IsTold fs ps none_taken)
              (λ g a. record {
                sets = subst HaveSets (sym a.gathered) (λ k t. sets_at union settle take_sets span kept es (slice_get old.exchange.requests k) (record { 0 = t }));
                tell = λ k i p f p_at f_at. tell_on es fs many grown a.tell i f f_at;
                give = λ k n p t p_at t_at. ap (λ (x : Gathers). x k t.0) a.gathered ∙ gathers_give span kept es old.exchange.requests ps owes k n p t p_at t_at;
                gave = λ k t step e. absurd (cc);
              }) m.are_known;
        };
        can = λ g p. subst (λ (n : Node). CanGo (world store g) kept places new.fed n) (sym node_is) (subst (λ (o : Option Fed). CanGo (world store g) kept places o old.node) (sym none) (m.can g p.sets places));
        come = subst (λ (n : Node). HaveCome (instants_of ps) places m.times new.fed n) (sym node_is)
            (subst (λ (o : Option Fed). HaveCome (instants_of ps) places m.times o old.node) (sym none) (requests_come one span kept es fs old.exchange.requests places ps owes stand theirs m.times old.node m.requests));
        fit = subst (λ (n : Node). IsFit store (shape_of n)) (sym node_is) m.fit;
        apart = subst (λ (n : Node). AreDistinct (places_of (shape_of n))) (sym node_is) m.apart;
      };
      known_are = refl;
    }

-- ---- before

-- a tree that has asks to make may make them
pub may_begin : (store : AllSeries) (kept : Kept) (known : Option Gathers) (es : List EngineSeen) (span : Grid) (tree : Tree) → tree.asking ≡ Some span → MayGo store kept known es tree.asking tree → MayBegin store kept known es span tree
may_begin store kept known es span tree e m = subst (λ (o : Option Grid). MayGo store kept known es o tree) e m

-- another has begun
pub has_gone : (store : AllSeries) (kept : Kept) (known : Option Gathers) (es : List EngineSeen) (tree : Tree) → tree.asking ≡ None → MayGo store kept known es tree.asking tree → HasBegun store kept known es tree
has_gone store kept known es tree e m = subst (λ (o : Option Grid). MayGo store kept known es o tree) e m
