-- Instants of a walk that follow one another, none left out, and what a tree says of one turn. (This project's own.)
use Rattle.std.specs.Prelude.{◌≡◌, ◌<◌, ◌≤◌, ℕ, ℤ, Bool, true, false, List, [], ◌∷◌, length, slice_get, Option, None, Some, IfSome, ⊤, IsTrue}
use Rattle.exchange.specs.Asked.{MayOpen}
use Rattle.exchange.specs.Standing.{Tells}
use Rattle.exchange.specs.declared.place.Place.{Place}
use Rattle.op_labels.specs.Rules.{Kept}
use Rattle.remote_api.specs.Seen.{EngineSeen}
use Rattle.sample_store.specs.Samples.{AllSeries}
use Rattle.step_batch.specs.Lent.{stages}
use Rattle.step_table.specs.Timed.{steps_over}
use Rattle.ticks.specs.Listed.{IsFirst, IsListed, IsNext}
use Rattle.ticks.specs.Walks.{IsInstant, LeadsToTimes}
use Rattle.ticks.specs.declared.grid.Grid.{Grid}
use Rattle.ticks.specs.declared.moment.Ms.{Ms}
use Rattle.ticks.specs.declared.walk.Walk.{Walk}
use Rattle.plan_tree.specs.declared.tree.Tree.{Tree}
use Rattle.plan_tree.specs.declared.turns.Fed.{Fed}
use Rattle.plan_tree.specs.Asking.{HaveRequests, gathered_by}
use Rattle.plan_tree.specs.Feeding.{GoesOn}
use Rattle.plan_tree.specs.Feeds.{fed_next, fed_on}
use Rattle.plan_tree.specs.Nodes.{CanGo, lent_by, shape_of}
use Rattle.plan_tree.specs.Shapes.{AreDistinct, IsFit, StaysInTimes, is_single, places_of, rule}
use Rattle.plan_tree.specs.Worlds.{Gathers, HaveSets, world}

-- the walk's next instant behind those that were fed, where there is one
abbrev pub IsComing : Walk → Option Fed → Option Ms → Type 0
IsComing walk None next = IsFirst walk next
IsComing walk (Some fed) next = IsNext walk fed.last.0 next

-- each of some instants is the walk's next one behind those that were fed before it
abbrev pub Chain : Walk → Option Fed → List Ms → Type 0
Chain walk fed [] = ⊤
Chain walk fed (t ∷ at) = IsComing walk fed (Some t) × Chain walk (fed_next fed t) at

-- ---- going on

-- engines tell what they hold, and gathers give what these owe by that, joined
pub record AreKnown (span : Grid) (kept : Kept) (es : List EngineSeen) (tree : Tree) (gathers : Gathers) : Type 0 where
  pub tell : (i : ℕ) (e : EngineSeen) → slice_get es i ≡ Some e → Tells e
  pub gathered : gathers ≡ gathered_by span kept es tree.exchange.requests

-- a tree that was fed nothing, and has asked the engines nothing yet
pub record MayBegin (store : AllSeries) (kept : Kept) (known : Option Gathers) (es : List EngineSeen) (span : Grid) (tree : Tree) : Type 0 where
  pub may : MayOpen span kept es tree.exchange
  pub fed : tree.fed ≡ None
  pub times : List Ms
  pub listed : IsListed tree.walk times
  pub requests : HaveRequests tree.exchange.requests times tree.node
  pub can : (gathers : Gathers) → HaveSets gathers → (places : List Place) → CanGo (world store gathers) kept places None tree.node
  pub fit : IsFit store (shape_of tree.node)
  pub apart : AreDistinct (places_of (shape_of tree.node))
  pub are_known : IfSome known (AreKnown span kept es tree)

-- a tree that has made its asks, if it has any
pub record HasBegun (store : AllSeries) (kept : Kept) (known : Option Gathers) (es : List EngineSeen) (tree : Tree) : Type 0 where
  pub times : List Ms
  pub listed : IsListed tree.walk times
  pub goes_on : GoesOn store kept es tree.exchange.places times tree.fed tree.node
  pub known_are : goes_on.known ≡ known

abbrev pub MayGo : AllSeries → Kept → Option Gathers → List EngineSeen → Option Grid → Tree → Type 0
MayGo store kept known es None tree = HasBegun store kept known es tree
MayGo store kept known es (Some span) tree = MayBegin store kept known es span tree

-- a tree that may go on over a store, engines and kept patterns, where it may be known what its gathers give
pub record IsReady (store : AllSeries) (kept : Kept) (known : Option Gathers) (es : List EngineSeen) (tree : Tree) : Type 0 where
  pub times : LeadsToTimes tree.walk
  pub stays : (t : ℤ) → IsInstant tree.walk t → StaysInTimes (shape_of tree.node) t
  pub fit : IsFit store (shape_of tree.node)
  pub may : MayGo store kept known es tree.asking tree
  pub some : 0 < tree.batch
  pub single : IsTrue (is_single (shape_of tree.node)) → tree.batch ≤ 1

-- ---- a turn

-- the instants of one turn, and what is lent of them; there is none exactly behind the walk's last one
pub record IsTurn (store : AllSeries) (kept : Kept) (known : Option Gathers) (old new : Tree) (more : Bool) (at : List Ms) : Type 0 where
  pub chain : Chain old.walk old.fed at
  pub few : length at ≤ old.batch
  pub some : more ≡ true → 0 < length at
  pub over : more ≡ false → (at ≡ []) × IsComing old.walk old.fed None
  pub fed : new.fed ≡ fed_on old.fed at
  pub lent : more ≡ true → IfSome known (λ gathers. stages (lent_by new.exchange.places new.node) ≡ steps_over (rule (world store gathers) kept (shape_of old.node)) at)

-- what a tree is made of, its walk and its batch stay
pub record IsSame (old new : Tree) : Type 0 where
  pub shape : shape_of new.node ≡ shape_of old.node
  pub walk : new.walk ≡ old.walk
  pub batch : new.batch ≡ old.batch
