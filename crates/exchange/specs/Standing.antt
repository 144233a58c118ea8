-- Where the gathers of an exchange stand over their engines. (This project's own.)
use Rattle.std.specs.Prelude.{◌≡◌, ◌+◌, ◌<◌, ◌-◌, ◌^◌, ℕ, true, false, if◌then◌else◌, is_some, List, [], ◌∷◌, ◌++◌, Some, length, slice_get}
use Rattle.op_gather.specs.Histories.{Stands}
use Rattle.op_gather.specs.Joined.{LendsJoined}
use Rattle.op_gather.specs.declared.queue.Queue.{Queue}
use Rattle.promql_type.specs.Replacements.{Kept}
use Rattle.remote_api.specs.Seen.{AskSeen, EngineSeen}
use Rattle.remote_api.specs.Strays.{stray_of}
use Rattle.remote_api.specs.declared.asks.Ask.{Ask}
use Rattle.step_table.specs.declared.cells.PartKind.{PartKind}
use Rattle.step_table.specs.declared.cells.StepCells.{StepCells}
use Rattle.ticks.specs.declared.moment.Ms.{Ms}
use Rattle.exchange.specs.declared.place.Asking.{Asking}
use Rattle.exchange.specs.declared.place.Place.{Place}

-- ---- how far a gather has come

-- what kind of cells is asked, the instants of the walk, for each asked engine the steps that it owes there where it tells what it holds,
-- and how many steps were taken
pub record Progress : Type 0 where
  pub kind : PartKind
  pub all : List Ms
  pub owed : List (List StepCells)
  pub taken : ℕ

-- one step more was taken
abbrev pub gone_on : Progress → Progress
gone_on p = record p { taken = p.taken + 1 }

-- an instant is left
abbrev pub Going : Progress → Type 0
Going p = p.taken < length p.all

-- ---- asks

-- not the same ask of the same engine
abbrev pub Apart : Asking → Asking → Type 0
Apart a b = a.engine ≡ b.engine → a.place ≡ b.place → ⊥

-- an ask is none of some
abbrev pub IsApartFrom : List Asking → Asking → Type 0
IsApartFrom asks b = (k : ℕ) (a : Asking) → slice_get asks k ≡ Some a → Apart a b

-- under two asks the same deliveries are strays
abbrev pub JudgeAlike : Ask → Ask → Type 0
JudgeAlike a b = (times : List Ms) (steps : List StepCells) → stray_of a times steps ≡ stray_of b times steps

-- the engine tells what it holds
abbrev pub Tells : EngineSeen → Type 0
Tells e = is_some e.holding ≡ true

-- an ask of an engine was made under these patterns and has given so many steps as were delivered; where the engine tells, these and what
-- is still to come are what it owes
pub record AskStands (kept : Kept) (ask : Ask) (e : EngineSeen) (place : ℕ) (done owes : List StepCells) : Type 0 where
  pub going : e.spent ≡ false
  pub one : AskSeen
  pub here : slice_get e.asks place ≡ Some one
  pub kept_are : one.kept ≡ kept
  pub walk : one.ask.walk ≡ ask.walk
  pub alike : JudgeAlike one.ask ask
  pub given : one.given ≡ length done
  pub told : Tells e → done ++ one.left ≡ owes

abbrev pub AskAt : Kept → Ask → List EngineSeen → Asking → List StepCells → List StepCells → Type 0
AskAt kept ask es a done owes = (e : EngineSeen) × (slice_get es a.engine ≡ Some e) × AskStands kept ask e a.place done owes

-- ---- places

-- a gather stands where its progress says: what its asks have given is what was delivered to it
pub record PlaceStands (kept : Kept) (es : List EngineSeen) (place : Place) (p : Progress) : Type 0 where
  pub going : place.gather.spent ≡ false
  pub kind : place.gather.ask.kind ≡ p.kind
  pub few : length place.asks < 2 ^ 32
  pub dones : List (List StepCells)
  pub stands : Stands place.gather p.all dones p.taken
  pub delivered : length dones ≡ length place.asks
  pub owing : length p.owed ≡ length place.asks
  pub asks : (k : ℕ) (a : Asking) (done owes : List StepCells) → slice_get place.asks k ≡ Some a → slice_get dones k ≡ Some done → slice_get p.owed k ≡ Some owes → AskAt kept place.gather.ask es a done owes
  pub apart : (j k : ℕ) (a b : Asking) → slice_get place.asks j ≡ Some a → slice_get place.asks k ≡ Some b → (j ≡ k → ⊥) → Apart a b

-- no two places have the same ask of the same engine
abbrev pub AreApart : List Place → Type 0
AreApart places =
    (j k m n : ℕ) (x y : Place) (a b : Asking) → slice_get places j ≡ Some x → slice_get places k ≡ Some y → (j ≡ k → ⊥)
    → slice_get x.asks m ≡ Some a → slice_get y.asks n ≡ Some b → Apart a b

-- each gather stands where its progress says, and shares no ask with another
pub record AllStand (kept : Kept) (es : List EngineSeen) (places : List Place) (ps : List Progress) : Type 0 where
  pub as_many : length ps ≡ length places
  pub stand : (k : ℕ) (place : Place) (p : Progress) → slice_get places k ≡ Some place → slice_get ps k ≡ Some p → PlaceStands kept es place p
  pub apart : AreApart places

-- all gathers stand, and an instant is left at this place
pub record MayAdvance (k : ℕ) (kept : Kept) (es : List EngineSeen) (places : List Place) : Type 0 where
  pub ps : List Progress
  pub all : AllStand kept es places ps
  pub p : Progress
  pub p_at : slice_get ps k ≡ Some p
  pub going : Going p

-- ---- what is lent

-- the asked engines tell what they hold
abbrev pub AllTell : List Asking → List EngineSeen → Type 0
AllTell asks es = (k : ℕ) (a : Asking) (e : EngineSeen) → slice_get asks k ≡ Some a → slice_get es a.engine ≡ Some e → Tells e

-- a step of each asked engine, of one that tells the next one that it owes
pub record GivesSteps (es : List EngineSeen) (asks : List Asking) (p : Progress) (steps : List StepCells) : Type 0 where
  pub as_many : length steps ≡ length asks
  pub owed : (k : ℕ) (a : Asking) (e : EngineSeen) (owes : List StepCells) → slice_get asks k ≡ Some a → slice_get es a.engine ≡ Some e → Tells e → slice_get p.owed k ≡ Some owes → slice_get steps k ≡ slice_get owes p.taken

-- what a place lends is what steps at an instant are joined to
pub record LendsAt (places : List Place) (k : ℕ) (kind : PartKind) (t : Ms) (steps : List StepCells) : Type 0 where
  pub place : Place
  pub place_at : slice_get places k ≡ Some place
  pub joined : LendsJoined kind t steps place.gather.lent place.gather.windows

-- ---- how long pulls can go on

-- how many deliveries can still be kept of an engine, its end counted as one
abbrev pub room_in : Queue → ℕ
room_in q = if q.ended then 0 else 5 - length q.frames

-- and of all engines
abbrev pub rooms : List Queue → ℕ
rooms [] = 0
rooms (q ∷ qs) = room_in q + rooms qs
