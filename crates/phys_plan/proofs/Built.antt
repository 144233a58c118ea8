-- A tree that was built of a part, before its walk's first instant.
use Rattle.std.proofs.Common.{◌≡◌, ◌∙◌, ◌<◌, ◌≤◌, ℕ, zero, Bool, true, false, List, [], ◌∷◌, Option, None, Some, length, slice_get, refl, sym, ap, subst, arith}
use Rattle.std.specs.Prelude.{ℤ, IfSome, IsTrue, if◌then◌else◌}
use Rattle.exchange.specs.Exchanging.{Exchanging}
use Rattle.exchange.specs.declared.request.Request.{Request}
use Rattle.logical_plan.specs.PlanMeaning.{plan_step}
use Rattle.logical_plan.specs.declared.nodes.Plan.{Plan}
use Rattle.op_labels.specs.Rules.{Kept}
use Rattle.plan_parts.specs.Gathered.{IsQueryOver}
use Rattle.plan_parts.specs.Gives.{Gives, given_as}
use Rattle.plan_parts.specs.Parts.{IsPart}
use Rattle.plan_parts.specs.Requested.{HaveOwn, asked_with}
use Rattle.plan_parts.specs.declared.parts.Part.{Part}
use Rattle.plan_tree.specs.Asking.{HaveRequests}
use Rattle.plan_tree.specs.Chains.{AreKnown, IsReady, MayBegin, MayGo}
use Rattle.plan_tree.specs.Laws.{PlainTreesBegin}
use Rattle.plan_tree.specs.Nodes.{MayStart, shape_of}
use Rattle.plan_tree.specs.Shapes.{AreDistinct, IsFit, StaysInTimes, is_single, places_of}
use Rattle.plan_tree.specs.Spending.{IsBound}
use Rattle.plan_tree.specs.Worlds.{Gathers, no_gathers}
use Rattle.plan_tree.specs.declared.node.Node.{Node}
use Rattle.plan_tree.specs.declared.tree.Tree.{Tree}
use Rattle.promql_meaning.specs.Givens.{step_of}
use Rattle.promql_meaning.specs.Selecting.{AllSeries, Asked}
use Rattle.promql_meaning.specs.declared.given.Given.{Given}
use Rattle.remote_api.specs.Seen.{EngineSeen}
use Rattle.step_table.specs.declared.step.Step.{Step}
use Rattle.ticks.specs.Listed.{EachWalkIsListed, IsListed}
use Rattle.ticks.specs.Walks.{IsInstant, LeadsToTimes}
use Rattle.ticks.specs.declared.grid.Grid.{Grid}
use Rattle.ticks.specs.declared.walk.Walk.{Walk}
use Rattle.phys_plan.specs.Asks.{AreBegun, HaveEngines}

-- ---- steps

step_as : (scalar : Bool) (step : Step) → step_of (given_as scalar step) ≡ step
step_as true step = refl
step_as false step = refl

pub gives_steps : (asked : Asked) (On : ℤ → Type 0) (p : Plan) (scalar own : Bool) (f : ℤ → Step) → Gives asked On p scalar own f → (t : ℤ) → On t → f t ≡ plan_step asked p t
gives_steps asked On p scalar own f g t w = sym (step_as scalar (f t)) ∙ sym (ap (λ (given : Given). step_of given) (g.gives t w))

-- ---- batches

some_left : (single : Bool) (few batch : ℕ) → few ≡ (if single then 1 else batch) → 0 < batch → 0 < few
some_left true few batch e h = omega (arith, e)
some_left false few batch e h = omega (arith, e, h)

one_alone : (single : Bool) (few batch : ℕ) → few ≡ (if single then 1 else batch) → IsTrue single → few ≤ 1
one_alone true few batch e h = omega (arith, e)
one_alone false few batch e h = absurd (cc)

-- ---- trees

-- a part on an equal walk
pub part_on : (asked : Asked) (walk given : Walk) (before now : List Request) (p : Plan) (part : Part) → given ≡ walk → IsPart asked walk before now p part → IsPart asked given before now p part
part_on asked walk given before now p part is part_is = subst (λ (w : Walk). IsPart asked w before now p part) (sym is) part_is

-- without any request there is none
pub none_there : (requests : List Request) → ((k : ℕ) (r : Request) → slice_get requests k ≡ Some r → ⊥) → requests ≡ []
none_there [] h = refl
none_there (r ∷ requests) h = absurd (h zero r refl)

-- what is made of a node, a walk, a batch and an exchange that has opened nothing, and was fed nothing
pub record IsNew (tree : Tree) (node : Node) (walk : Walk) (batch : ℕ) (exchange : Exchanging) (span : Grid) : Type 0 where
  pub node_is : tree.node ≡ node
  pub walk_is : tree.walk ≡ walk
  pub fed : tree.fed ≡ None
  pub batch_is : tree.batch ≡ (if is_single (shape_of node) then 1 else batch)
  pub exchange_is : tree.exchange ≡ exchange
  pub asking : tree.asking ≡ Some span
  pub unopened : exchange.places ≡ []

pub new_ready : EachWalkIsListed → (asked : Asked) (p : Plan) (known : Option Gathers) (es : List EngineSeen) (tree : Tree) (part : Part) (walk : Walk) (batch : ℕ) (exchange : Exchanging) (span : Grid) → IsNew tree part.tree walk batch exchange span → LeadsToTimes walk → 0 < batch
    → IsQueryOver span asked.kept asked → IsPart asked walk [] exchange.requests p part → AreBegun es → HaveEngines exchange.requests es → IfSome known (AreKnown span asked.kept es tree) → IsReady asked.samples asked.kept known es tree
new_ready each asked p known es tree part walk batch exchange span new times some over is begun inside are_known =
    let listed = each walk times in
    let sound = is.sound in
    let fit = subst (λ (n : Node). IsFit asked.samples (shape_of n)) (sym new.node_is) sound.fit in
    let requests_are : tree.exchange.requests ≡ exchange.requests = ap (λ (x : Exchanging). x.requests) new.exchange_is in
    let begins : MayBegin asked.samples asked.kept known es span tree = record {
      may = record {
        unopened = ap (λ (x : Exchanging). x.places) new.exchange_is ∙ new.unopened;
        unasked = begun;
        inside = λ k j i r at. inside k j i r (subst (λ (rs : List Request). slice_get rs k ≡ Some r) requests_are at);
        may = λ k r at. is.make span over k r (subst (λ (rs : List Request). slice_get rs k ≡ Some r) requests_are at) (omega arith);
      };
      fed = new.fed;
      times = listed.0;
      listed = subst (λ (w : Walk). IsListed w listed.0) (sym new.walk_is) listed.1;
      requests = subst (λ (rs : List Request). HaveRequests rs listed.0 tree.node) (sym requests_are) (subst (λ (n : Node). HaveRequests exchange.requests listed.0 n) (sym new.node_is) (is.asks listed.0 listed.1));
      can = λ gathers sets places. (subst (λ (n : Node). MayStart asked.samples asked.kept n) (sym new.node_is) sound.can) gathers places;
      fit = fit;
      apart = subst (λ (n : Node). AreDistinct (places_of (shape_of n))) (sym new.node_is) is.owns.apart;
      are_known = are_known;
    } in
    record {
      times = subst LeadsToTimes (sym new.walk_is) times;
      stays = λ t i. subst (λ (n : Node). StaysInTimes (shape_of n) t) (sym new.node_is) (sound.times t (subst (λ (w : Walk). IsInstant w t) new.walk_is i));
      fit = fit;
      may = subst (λ (o : Option Grid). MayGo asked.samples asked.kept known es o tree) (sym new.asking) begins;
      some = some_left (is_single (shape_of part.tree)) tree.batch batch new.batch_is some;
      single = λ h. one_alone (is_single (shape_of part.tree)) tree.batch batch new.batch_is (subst (λ (n : Node). IsTrue (is_single (shape_of n))) new.node_is h);
    }

-- ---- trees that ask no engine

-- without requests there are no gathers
none_own : (now : List Request) (places : List ℕ) → HaveOwn [] now places → now ≡ [] → places ≡ []
none_own now [] own e = refl
none_own now (k ∷ places) own e = (let low = own.within k (0, omega arith, refl) in let none = ap length e in absurd (omega (arith, low, none)))

-- what is made of a node, a walk and a batch, was fed nothing and asks no engine
pub record IsPlain (tree : Tree) (node : Node) (walk : Walk) (batch : ℕ) : Type 0 where
  pub node_is : tree.node ≡ node
  pub walk_is : tree.walk ≡ walk
  pub fed : tree.fed ≡ None
  pub batch_is : tree.batch ≡ (if is_single (shape_of node) then 1 else batch)
  pub asking : tree.asking ≡ None
  pub places : tree.exchange.places ≡ []

pub plain_ready : PlainTreesBegin → EachWalkIsListed → (asked : Asked) (p : Plan) (es : List EngineSeen) (tree : Tree) (part : Part) (walk : Walk) (batch : ℕ) (requests : List Request) → IsPlain tree part.tree walk batch → LeadsToTimes walk → 0 < batch → requests ≡ []
    → IsPart asked walk [] requests p part → IsReady asked.samples asked.kept (Some no_gathers) es tree
plain_ready begin each asked p es tree part walk batch requests new times some none is =
    let listed = each walk times in
    let cost = is.within listed.0 listed.1 in
    let sound = is.sound in
    let alone : places_of (shape_of part.tree) ≡ [] = none_own requests (places_of (shape_of part.tree)) is.owns none in
    begin asked.samples asked.kept es tree listed.0 cost.cost new.asking new.places new.fed
    (subst (λ (n : Node). places_of (shape_of n) ≡ []) (sym new.node_is) alone)
    (subst (λ (n : Node). MayStart asked.samples asked.kept n) (sym new.node_is) sound.can)
    (subst (λ (n : Node). IsFit asked.samples (shape_of n)) (sym new.node_is) sound.fit)
    (λ t i. subst (λ (n : Node). StaysInTimes (shape_of n) t) (sym new.node_is) (sound.times t (subst (λ (w : Walk). IsInstant w t) new.walk_is i)))
    (subst LeadsToTimes (sym new.walk_is) times)
    (subst (λ (w : Walk). IsListed w listed.0) (sym new.walk_is) listed.1)
    (subst (λ (n : Node). IsBound asked.samples listed.0 (shape_of n) cost.cost) (sym new.node_is) cost.of)
    (some_left (is_single (shape_of part.tree)) tree.batch batch new.batch_is some)
    (λ h. one_alone (is_single (shape_of part.tree)) tree.batch batch new.batch_is (subst (λ (n : Node). IsTrue (is_single (shape_of n))) new.node_is h))

-- ---- bases

-- the same over the samples and with the patterns that its bases were found over, behind an exchange to which nothing was added
pub part_over : (store samples : AllSeries) (kept now : Kept) (span : Grid) (engines : List AllSeries) (course walk : Walk) (before after : List Request) (p : Plan) (part : Part) → samples ≡ store → now ≡ kept → walk ≡ course → before ≡ []
    → IsPart (asked_with samples now span engines) course before after p part → IsPart (asked_with store kept span engines) walk [] after p part
part_over store samples kept now span engines course walk before after p part e f copied none is =
    subst (λ (rs : List Request). IsPart (asked_with store kept span engines) walk rs after p part) none
    (part_on (asked_with store kept span engines) course walk before after p part copied (subst (λ (z : Asked). IsPart z course before after p part) (λ i. asked_with (e i) (f i) span engines) is))
