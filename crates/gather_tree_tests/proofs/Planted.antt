-- A tree before its walk's first instant, whose asks aren't made.
use Rattle.std.proofs.Common.{◌≡◌, ◌∙◌, ℕ, ◌<◌, ◌≤◌, Bool, true, false, List, None, Some, refl, sym, ap, subst, arith}
use Rattle.std.specs.Prelude.{ℤ, Option, IsTrue, if◌then◌else◌}
use Rattle.exchange.specs.Asked.{MayOpen}
use Rattle.exchange.specs.Exchanging.{Exchanging}
use Rattle.exchange.specs.declared.place.Place.{Place}
use Rattle.op_labels.specs.Rules.{Kept}
use Rattle.plan_tree.specs.Chains.{IsReady, MayBegin, MayGo}
use Rattle.plan_tree.specs.Nodes.{shape_of}
use Rattle.plan_tree.specs.Shapes.{StaysInTimes, is_single}
use Rattle.plan_tree.specs.declared.node.Node.{Node}
use Rattle.plan_tree.specs.declared.tree.Tree.{Tree}
use Rattle.plan_tree.specs.declared.turns.Fed.{Fed}
use Rattle.remote_api.specs.Seen.{EngineSeen}
use Rattle.sample_store.specs.Samples.{AllSeries}
use Rattle.ticks.specs.Listed.{EachWalkIsListed, IsListed}
use Rattle.ticks.specs.Walks.{IsInstant, LeadsToTimes}
use Rattle.ticks.specs.declared.grid.Grid.{Grid as Instants}
use Rattle.ticks.specs.declared.moment.Ms.{Ms}
use Rattle.ticks.specs.declared.walk.Walk.{Walk, Grid}
use Rattle.gather_tree_tests.specs.Fitting.{AreIdle}
use Rattle.gather_tree_tests.specs.Growing.{IsGrown}
use Rattle.gather_tree_tests.proofs.Requests.{may_open}

-- what is made of a node and an exchange, for the instants of a grid
pub record IsPlanted (g : Instants) (node : Node) (x : Exchanging) (batch : ℕ) (tree : Tree) : Type 0 where
  pub node_is : tree.node ≡ node
  pub walk_is : tree.walk ≡ Grid g
  pub fed : tree.fed ≡ None
  pub batch_is : tree.batch ≡ (if is_single (shape_of node) then 1 else batch)
  pub exchange_is : tree.exchange ≡ x
  pub asking : tree.asking ≡ Some g

some_left : (single : Bool) (few batch : ℕ) → few ≡ (if single then 1 else batch) → 0 < batch → 0 < few
some_left true few batch e h = omega (arith, e)
some_left false few batch e h = omega (arith, e, h)

one_alone : (single : Bool) (few batch : ℕ) → few ≡ (if single then 1 else batch) → IsTrue single → few ≤ 1
one_alone true few batch e h = omega (arith, e)
one_alone false few batch e h = absurd (cc)

pub planted_ready : EachWalkIsListed → (g : Instants) (node : Node) (x : Exchanging) (batch : ℕ) (tree : Tree) → IsPlanted g node x batch tree → IsGrown g node x → 0 < batch
    → (store : AllSeries) (kept : Kept) (es : List EngineSeen) → AreIdle es → IsReady store kept None es tree
planted_ready each g node x batch tree new grown some store kept es idle =
    let all : (times : List Ms) × IsListed (Grid g) times = each (Grid g) tt in
    let it : IsGrown g tree.node tree.exchange = subst (λ (n : Node). IsGrown g n tree.exchange) (sym new.node_is) (subst (λ (y : Exchanging). IsGrown g node y) (sym new.exchange_is) grown) in
    let begin : MayBegin store kept None es g tree = record {
      may = may_open it.walk g kept es tree.exchange it.nearby it.fitting idle;
      fed = new.fed;
      times = all.0;
      listed = subst (λ (w : Walk). IsListed w all.0) (sym new.walk_is) all.1;
      requests = it.requests all.0 all.1;
      can = λ gathers sets places. it.can store kept gathers places;
      fit = it.fit store;
      apart = it.apart;
      are_known = tt;
    } in
    record {
      times = subst LeadsToTimes (sym new.walk_is) tt;
      stays = λ t on. it.stays t (subst (λ (w : Walk). IsInstant w t) new.walk_is on);
      fit = it.fit store;
      may = subst (λ (o : Option Instants). MayGo store kept None es o tree) (sym new.asking) begin;
      some = some_left (is_single (shape_of node)) tree.batch batch new.batch_is some;
      single = λ h. one_alone (is_single (shape_of node)) tree.batch batch new.batch_is (subst (λ (n : Node). IsTrue (is_single (shape_of n))) new.node_is h);
    }
