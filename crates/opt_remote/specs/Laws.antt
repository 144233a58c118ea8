-- What is true of a plan whose selectors engines are asked for. (This project's own.)
use Rattle.std.specs.Prelude.{◌≡◌, ℕ, ℤ, true, List}
use Rattle.promql_meaning.specs.Selecting.{AllSeries, Asked}
use Rattle.promql_type.specs.Replacements.{Kept}
use Rattle.logical_plan.specs.PlanMeaning.{plan_meaning}
use Rattle.logical_plan.specs.PlanTypes.{IsTyped, typing}
use Rattle.logical_plan.specs.Steadiness.{OncesAreSteady}
use Rattle.logical_plan.specs.Validity.{IsValid}
use Rattle.logical_plan.specs.declared.nodes.Plan.{Plan}
use Rattle.plan_rewrite.specs.Rebuilding.{KeepsMeaning, rebuilt}
use Rattle.plan_serving.specs.Asking.{is_rising}
use Rattle.plan_serving.specs.Serving.{IsServedOver}
use Rattle.opt_remote.specs.Engines.{ArePartedOver}
use Rattle.opt_remote.specs.Gathering.{all_engines, gather_selector}
use Rattle.opt_remote.specs.Parts.{AreAskedOf, is_gathered, parts_asked}

-- a plan in which each selector became a part that these engines are asked for
abbrev pub asking : List ℕ → Kept → Plan → Plan
asking engines kept = rebuilt (gather_selector engines kept)

-- where the samples of a query are parted over its engines, each selector that all of them are asked for means what it meant
abbrev pub SelectorsKeepMeaning : Type 0
SelectorsKeepMeaning = (asked : Asked) (count : ℕ) → ArePartedOver count asked → (kept : Kept) → KeepsMeaning asked (gather_selector (all_engines count) kept)

-- of a typed plan no selector is left
abbrev pub NoSelectorIsLeft : Type 0
NoSelectorIsLeft = (engines : List ℕ) (kept : Kept) (p : Plan) → IsTyped p → is_gathered (asking engines kept p) ≡ true

-- engines are asked for selectors alone, and each time for all of these
abbrev pub AllAreAsked : Type 0
AllAreAsked = (engines : List ℕ) (kept : Kept) (p : Plan) → AreAskedOf engines (parts_asked p) → AreAskedOf engines (parts_asked (asking engines kept p))

-- a typed plan stays typed, and gives what it gave: a scalar, a vector or windows
pub record StaysTyped (p q : Plan) : Type 0 where
  pub typed : IsTyped q
  pub kind : (typing q).kind ≡ (typing p).kind

abbrev pub TypesAreKept : Type 0
TypesAreKept = (engines : List ℕ) (kept : Kept) (p : Plan) → IsTyped p → StaysTyped p (asking engines kept p)

-- a valid plan stays valid, whatever the longest length of time and the latest fixed time
abbrev pub ValidityIsKept : Type 0
ValidityIsKept = (engines : List ℕ) (kept : Kept) (longest latest : ℕ) (p : Plan) → IsValid longest latest p → IsValid longest latest (asking engines kept p)

-- what stands under Once nodes stays the same at each instant
abbrev pub OncesAreKept : Type 0
OncesAreKept = (engines : List ℕ) (kept : Kept) (p : Plan) → OncesAreSteady p → OncesAreSteady (asking engines kept p)

-- engines are asked in the order of their numbers
abbrev pub RisingEngines : List ℕ → Type 0
RisingEngines engines = is_rising engines ≡ true

-- all of some are, however many they are
abbrev pub AllEnginesRise : Type 0
AllEnginesRise = (count : ℕ) → RisingEngines (all_engines count)

-- kernels serve over engines that are asked so what they served, whatever patterns are kept
abbrev pub GatheredPlansAreServed : Type 0
GatheredPlansAreServed =
    (engines : List ℕ) (kept : Kept) → RisingEngines engines → (patterns : Kept) (p : Plan) → IsServedOver patterns p → IsServedOver patterns (asking engines kept p)

-- the same query over other samples in the store, while its engines hold what they held
abbrev pub over_store : Asked → AllSeries → Asked
over_store asked samples = record asked { samples = samples }

-- a plan in which no selector is left means the same whatever samples stand in the store
abbrev pub StoresAreNotRead : Type 0
StoresAreNotRead = (asked : Asked) (samples : AllSeries) (p : Plan) (t : ℤ) → is_gathered p ≡ true → plan_meaning (over_store asked samples) p t ≡ plan_meaning asked p t
