-- An engine over samples of its own: what it keeps of its asks, and what is seen of it. (This project's own.)
use Rattle.std.specs.Prelude.{◌≡◌, ◌+◌, ◌≤◌, ◌<◌, ◌^◌, ⊤, ℕ, Bool, true, List, [], length, map, drop, slice_get, Option, None, Some}
use Rattle.std.specs.List.{AllByRecursion}
use Rattle.step_table.specs.Groups.{Names}
use Rattle.step_table.specs.declared.cells.PartKind.{PartKind}
use Rattle.step_table.specs.declared.cells.PartKind.TheVariants as part_kind
use Rattle.promql_meaning.specs.Conditions.{AreMet, needs_of}
use Rattle.promql_meaning.specs.Givens.{step_of}
use Rattle.promql_meaning.specs.Selecting.{AllSeries, Asked, asked_over}
use Rattle.promql_meaning.specs.declared.given.Given.{Given}
use Rattle.remote_api.specs.Seen.{AskSeen, EngineSeen, HasForm, IsAskOf, IsWindowOf, owed}
use Rattle.remote_api.specs.declared.asks.Part.{Part}
use Rattle.remote_api.specs.Strays.{AsksInTimes}
use Rattle.ticks.specs.Listed.{IsListed}
use Rattle.ticks.specs.Walks.{IsInstant}
use Rattle.ticks.specs.declared.moment.Ms.{Ms}
use Rattle.ticks.specs.declared.grid.Grid.{Grid}
use Rattle.ticks.specs.declared.walk.Walk.{Walk}
use Rattle.promql_type.specs.Replacements.{Kept}
use Rattle.engine_local.specs.declared.own.OwnAsk.{OwnAsk}

-- the samples, the labels that are declared, once they are, the asks since `begin`, and whether want of memory has spent these
pub record Local : Type 0 where
  pub samples : AllSeries
  pub declared : Option Names
  pub asks : List OwnAsk
  pub spent : Bool

-- ---- what is true of every ask

-- what its part is asked over
abbrev pub asked_of : AllSeries → OwnAsk → Asked
asked_of samples one = asked_over samples one.kept one.span

-- the instants of its walk, in rising order
abbrev pub times_of : OwnAsk → List Ms
times_of one = one.listing.all

-- it was allowed: the instants of its walk are all within their limits, its part may be asked for with the patterns that were kept, and
-- the part's evaluation at each instant has what it needs; no more was given than it has instants, and the one behind these comes next
pub record IsAllowed (one : OwnAsk) : Type 0 where
  pub times : IsListed one.ask.walk (times_of one)
  pub within : AsksInTimes one.ask
  pub kind : one.ask.kind ≡ one.part.kind
  pub window : one.part.kind ≡ part_kind.Windows → IsWindowOf one.span one.part.expr one.ask
  pub form : HasForm one.kept one.part.expr one.part.kind
  pub needs : (t : Ms) → IsInstant one.ask.walk t.0 → AreMet (asked_of [] one) (needs_of (asked_of [] one) one.part.expr t.0)
  pub given : one.given ≤ length (times_of one)
  pub next : one.next ≡ slice_get (times_of one) one.given

-- where an aggregation is asked, fewer rows than a cell can count
abbrev pub HasFewRows : PartKind → Given → Type 0
HasFewRows part_kind.Rows given = ⊤
HasFewRows part_kind.Windows given = ⊤
HasFewRows (part_kind.Partial f by) given = length (step_of given).table.rows < 2 ^ 63

-- one that was just made of a part: nothing was given of it, and the first instant comes next
pub record IsFresh (part : Part) (walk : Walk) (span : Grid) (kept : Kept) (one : OwnAsk) : Type 0 where
  pub part_is : one.part ≡ part
  pub ask : IsAskOf part walk span one.ask
  pub span_is : one.span ≡ span
  pub kept_are : one.kept ≡ kept
  pub times : IsListed walk (times_of one)
  pub given : one.given ≡ 0
  pub next : one.next ≡ slice_get (times_of one) 0

-- so many steps more were given, and this instant comes next
abbrev pub went_on : ℕ → Option Ms → OwnAsk → OwnAsk
went_on count next one = record one { given = one.given + count; next = next }

abbrev pub AreAllowed : List OwnAsk → Type 0
AreAllowed asks = AllByRecursion IsAllowed asks

-- ---- what is seen

-- an ask: what is still to come of it is owed of the samples, at the times behind those that were given
abbrev pub seen_ask : AllSeries → OwnAsk → AskSeen
seen_ask samples one =
    record {
      part = one.part;
      ask = one.ask;
      kept = one.kept;
      given = one.given;
      left = owed (asked_of samples one) one.part (drop one.given (times_of one));
    }

-- the engine tells all that it holds; it never fails, and gives no stray
abbrev pub seen_of : Local → EngineSeen
seen_of e =
    record {
      holding = Some (record { declared = e.declared; samples = e.samples });
      asks = map (seen_ask e.samples) e.asks;
      spent = e.spent;
      faults = 0;
      strays = 0;
      stray = None;
      sound = true;
    }
