-- How far the gathers of a tree have come, and what was taken of them. (This project's own.)
use Rattle.std.specs.Prelude.{◌≡◌, ◌+◌, ◌<◌, ℕ, ℤ, Bool, true, false, List, [], ◌∷◌, slice_get, Option, None, Some, IfSome, ⊤, IsTrue}
use Rattle.exchange.specs.Standing.{AllStand, Progress, Tells}
use Rattle.exchange.specs.declared.place.Place.{Place}
use Rattle.op_gather.specs.Histories.{steps_at}
use Rattle.op_gather.specs.Joined.{AreInside}
use Rattle.op_gather.specs.Joins.{groups_joined, rows_joined, windows_joined}
use Rattle.op_labels.specs.Rules.{Kept}
use Rattle.promql_meaning.specs.Givens.{barren, no_marks}
use Rattle.remote_api.specs.Seen.{EngineSeen}
use Rattle.remote_api.specs.declared.asks.Ask.{Ask}
use Rattle.step_batch.specs.Lent.{Lent, stages}
use Rattle.step_batch.specs.LentWindows.{WindowsAt}
use Rattle.step_table.specs.declared.cells.PartKind.{PartKind}
use Rattle.step_table.specs.declared.cells.PartKind.TheVariants as part
use Rattle.step_table.specs.declared.cells.StepCells.{StepCells}
use Rattle.ticks.specs.Listed.{IsListed}
use Rattle.ticks.specs.declared.moment.Ms.{Ms}
use Rattle.ticks.specs.declared.walk.WalkMoment.{WalkMoment}
use Rattle.plan_tree.specs.declared.node.Node.{Node}
use Rattle.plan_tree.specs.declared.node.Node.TheVariants as node
use Rattle.plan_tree.specs.declared.turns.Fed.{Fed}
use Rattle.plan_tree.specs.Feeds.{once}
use Rattle.plan_tree.specs.Worlds.{ArePossible, Gathered, Gathers, HasSets, HaveSets, IsGrown, Taken, no_windows}

-- ---- what a gather gives

-- whether rows or the groups of an aggregation are asked, which are given as steps
abbrev pub gives_steps : PartKind → Bool
gives_steps part.Rows = true
gives_steps part.Windows = false
gives_steps (part.Partial f by) = true

-- what the cells of all asked engines come to at an instant
abbrev pub joined_of : PartKind → Ms → List StepCells → Gathered
joined_of part.Rows t steps = record { step = rows_joined steps; windows = no_windows t.0 }
joined_of part.Windows t steps = record { step = barren no_marks; windows = windows_joined t steps }
joined_of (part.Partial f by) t steps = record { step = groups_joined f steps; windows = no_windows t.0 }

-- steps are asked
abbrev pub AsksSteps : Ask → Type 0
AsksSteps ask = IsTrue (gives_steps ask.kind)

-- windows of a range are asked, which end at a moment
pub record AsksWindows (moment : WalkMoment) (range : Ms) (ask : Ask) : Type 0 where
  pub kind : ask.kind ≡ part.Windows
  pub ends : ask.moment ≡ moment
  pub reaches : ask.range ≡ range

-- what is lent at an instant is what is given there: windows where these are asked, else a step
abbrev pub LendsGiven : PartKind → Ms → Gathered → Lent → WindowsAt → Type 0
LendsGiven part.Rows t given lent windows = stages lent ≡ record { at = t; step = given.step } ∷ []
LendsGiven part.Windows t given lent windows = windows ≡ given.windows
LendsGiven (part.Partial f by) t given lent windows = stages lent ≡ record { at = t; step = given.step } ∷ []

-- the windows that a place lends are those of an instant, and lie inside of what was asked
pub record LendsInside (place : Place) (t : Ms) : Type 0 where
  pub at : place.gather.windows.at ≡ t
  pub inside : AreInside place.gather.ask place.gather.windows

-- ---- how far gathers have come

-- the instants of the gather at a place
abbrev pub Instants : Type 0
Instants = ℕ → List Ms

-- the first so many of some instants are those that were fed
abbrev pub IsFedUpTo : List Ms → ℕ → Option Fed → Type 0
IsFedUpTo times count None = count ≡ 0
IsFedUpTo times count (Some fed) = (n : ℕ) × (count ≡ n + 1) × (slice_get times n ≡ Some fed.last)

-- the gather at a place goes over some instants, its ask is such a one, and it has come to what was fed
pub record HasCome (Asks : Ask → Type 0) (all : Instants) (places : List Place) (times : List Ms) (fed : Option Fed) (k : ℕ) : Type 0 where
  pub along : all k ≡ times
  pub place : Place
  pub here : slice_get places k ≡ Some place
  pub asks : Asks place.gather.ask
  pub count : ℕ
  pub fed_are : IsFedUpTo times count fed
  pub next : place.gather.next ≡ slice_get times count

-- so has each gather of a tree that goes over some instants, and gives what the tree reads of it: steps, or the windows of a function;
-- those of a subquery go over the inner instants, and those of a tree that is fed one instant alone have that one
abbrev pub HaveCome : Instants → List Place → List Ms → Option Fed → Node → Type 0
HaveCome all places times fed (node.Instants kernel none) = ⊤
HaveCome all places times fed (node.Select kernel) = ⊤
HaveCome all places times fed (node.Series' kernel p scalar) = HaveCome all places times fed scalar
HaveCome all places times fed (node.Unary' kernel p rows) = HaveCome all places times fed rows
HaveCome all places times fed (node.Binary' kernel p rows q beside) = HaveCome all places times fed rows × HaveCome all places times fed beside
HaveCome all places times fed (node.Clamp' kernel p rows q low r high) = HaveCome all places times fed rows × HaveCome all places times fed low × HaveCome all places times fed high
HaveCome all places times fed (node.Points' kernel inner_fed p inner q scalar) =
    HaveCome all places times fed scalar × (inside : List Ms) × IsListed kernel.walk inside × HaveCome all places inside inner_fed inner
HaveCome all places times fed (node.Once' first steps p child) = HaveCome all places (first ∷ []) (once first fed) child
HaveCome all places times fed (node.Gather place) = HasCome AsksSteps all places times fed place
HaveCome all places times fed (node.Windows' kernel place passed p scalar) =
    HasCome (AsksWindows kernel.moment kernel.range) all places times fed place × HaveCome all places times fed scalar

-- the first of some instants is the next one behind those that were fed
abbrev pub AreDue : List Ms → Option Fed → List Ms → Type 0
AreDue times fed [] = ⊤
AreDue times fed (t ∷ at) = (count : ℕ) → IsFedUpTo times count fed → slice_get times count ≡ Some t

-- ---- what was taken

-- one of the first instants of a gather, of which so many were taken
pub record IsAmong (p : Progress) (t : ℤ) : Type 0 where
  pub n : ℕ
  pub early : n < p.taken
  pub there : slice_get p.all n ≡ Some (record { 0 = t })

-- what was taken at one of the first instants of its gather; its marks and notes are sets
pub record WasTaken (ps : List Progress) (place : ℕ) (t : ℤ) (given : Gathered) : Type 0 where
  pub p : Progress
  pub p_at : slice_get ps place ≡ Some p
  pub among : IsAmong p t
  pub sets : HasSets given

-- where there is a gather the engines tell what they hold; gathers give what these owe, joined at each instant, and that was taken so far
pub record IsTold (es : List EngineSeen) (ps : List Progress) (taken : Taken) (gathers : Gathers) : Type 0 where
  pub sets : HaveSets gathers
  pub tell : (k i : ℕ) (p : Progress) (e : EngineSeen) → slice_get ps k ≡ Some p → slice_get es i ≡ Some e → Tells e
  pub give : (k n : ℕ) (p : Progress) (t : Ms) → slice_get ps k ≡ Some p → slice_get p.all n ≡ Some t → gathers k t.0 ≡ joined_of p.kind t (steps_at n p.owed)
  pub gave : (k : ℕ) (t : ℤ) (given : Gathered) → taken k t ≡ Some given → gathers k t ≡ given

-- all gathers of an exchange stand over its engines, each goes over its instants, and so much was taken of them; where it is known what
-- the gathers give, they give that
pub record IsOut (all : Instants) (known : Option Gathers) (taken : Taken) (kept : Kept) (es : List EngineSeen) (places : List Place) : Type 0 where
  pub ps : List Progress
  pub stand : AllStand kept es places ps
  pub along : (k : ℕ) (p : Progress) → slice_get ps k ≡ Some p → p.all ≡ all k
  pub were : (k : ℕ) (t : ℤ) (given : Gathered) → taken k t ≡ Some given → WasTaken ps k t given
  pub told : IfSome known (λ gathers. IsTold es ps taken gathers)

-- ---- one instant more

-- the next instant of the gather at a place is this one
pub record CanTake (kept : Kept) (es : List EngineSeen) (places : List Place) (k : ℕ) (t : Ms) : Type 0 where
  pub all : Instants
  pub known : Option Gathers
  pub taken : Taken
  pub out : IsOut all known taken kept es places
  pub place : Place
  pub here : slice_get places k ≡ Some place
  pub next : place.gather.next ≡ Some t

-- of what a place was, whose ask stays, an instant more was taken; what is given there is lent, windows inside of what was asked; and the
-- next instant is the one behind
pub record HasTaken (was : Place) (before : Taken) (all : Instants) (known : Option Gathers) (kept : Kept) (es : List EngineSeen) (places : List Place) (k : ℕ) (t : Ms) : Type 0 where
  pub now : Taken
  pub grown : IsGrown before now
  pub out : IsOut all known now kept es places
  pub place : Place
  pub here : slice_get places k ≡ Some place
  pub asks : place.gather.ask ≡ was.gather.ask
  pub n : ℕ
  pub at : slice_get (all k) n ≡ Some t
  pub next : place.gather.next ≡ slice_get (all k) (n + 1)
  pub lent : (gathers : Gathers) → ArePossible now gathers → LendsGiven place.gather.ask.kind t (gathers k t.0) place.gather.lent place.gather.windows
  pub windows : place.gather.ask.kind ≡ part.Windows → LendsInside place t
