-- The steps of the first of the instants that are to come.
use Rattle.std.proofs.Common.{◌≡◌, ◌∙◌, ℕ, ◌+◌, ◌≤◌, ◌<◌, true, false, List, [], ◌∷◌, ◌++◌, length, map, take, drop, slice_get, refl, sym, ap, subst, Some, None, arith, length-append}
use Rattle.std.specs.Prelude.{Option, IsSome, is_some}
use Rattle.std.proofs.lemmas.List.{map-append, take-map}
use Rattle.promql_meaning.specs.Meaning.{meaning}
use Rattle.promql_meaning.specs.Selecting.{AllSeries, Asked}
use Rattle.remote_api.specs.Seen.{GivesOwed, owed}
use Rattle.remote_api.specs.declared.asks.Part.{Part}
use Rattle.remote_api.specs.declared.engine.Pulled.TheVariants as pulled
use Rattle.step_cells.specs.Owed.{cells}
use Rattle.step_table.specs.declared.cells.StepCells.{StepCells}
use Rattle.ticks.specs.Listed.{IsNext, NextIsBehind}
use Rattle.ticks.specs.Walks.{IsInstant}
use Rattle.ticks.specs.declared.moment.Ms.{Ms}
use Rattle.engine_local.specs.Local.{IsAllowed, asked_of, seen_ask, times_of}
use Rattle.engine_local.specs.declared.own.OwnAsk.{OwnAsk}
use Rattle.engine_local.proofs.Instants.{instant_at}
use Rattle.engine_local.proofs.Lists.{get_dropped, inside, taken_more}

-- the step that is owed at an instant
abbrev pub owed_at : Asked → Part → Ms → StepCells
owed_at asked part t = cells part.kind t (meaning asked part.expr t.0)

-- the steps are owed at the first of some instants, and this one is the next
pub record IsFront (asked : Asked) (part : Part) (times : List Ms) (steps : List StepCells) (next : Option Ms) : Type 0 where
  pub owed_are : steps ≡ owed asked part (take (length steps) times)
  pub within : length steps ≤ length times
  pub behind : next ≡ slice_get times (length steps)

module _ (asked : Asked) (part : Part) (times : List Ms) where
  pub none_yet : (steps : List StepCells) (next : Option Ms) → steps ≡ [] → next ≡ slice_get times 0 → IsFront asked part times steps next
  none_yet steps next is head =
      subst (λ (all : List StepCells). IsFront asked part times all next) (sym is) (record { owed_are = refl; within = omega arith; behind = head })

  pub one_more : (steps more : List StepCells) (step : StepCells) (t : Ms) (next : Option Ms) → IsFront asked part times steps (Some t) → more ≡ steps ++ step ∷ [] → step ≡ owed_at asked part t
      → next ≡ slice_get times (length steps + 1) → IsFront asked part times more next
  one_more steps more step t next so_far is made behind =
      let n = length steps in
      let long : length more ≡ n + 1 = ap length is ∙ length-append steps (step ∷ []) in
      let here : slice_get times n ≡ Some t = sym so_far.behind in
      let w : n < length times = inside times n t here in
      let taken : take (n + 1) times ≡ take n times ++ t ∷ [] = taken_more times n t here in
      let f : Ms → StepCells = owed_at asked part in
      record {
        owed_are =
            is ∙ ap (λ (s : StepCells). steps ++ s ∷ []) made ∙ ap (λ (front : List StepCells). front ++ f t ∷ []) so_far.owed_are ∙ sym (map-append f (take n times) (t ∷ []))
            ∙ ap (map f) (sym taken) ∙ ap (λ (k : ℕ). map f (take k times)) (sym long);
        within = omega (arith, long, w);
        behind = behind ∙ ap (slice_get times) (sym long);
      }

  -- where an instant was to come, a step is given before none is
  pub one_at_least : (first : Option Ms) (steps : List StepCells) → IsSome first → first ≡ slice_get times 0 → IsFront asked part times steps None → 1 ≤ length steps
  one_at_least first [] some head front =
      let none : first ≡ None = head ∙ sym front.behind in
      let clash : false ≡ true = ap is_some (sym none) ∙ some in
      absurd (cc)
  one_at_least first (step ∷ steps) some head front = omega arith

-- ---- of the instants that are to come of an ask

module _ (samples : AllSeries) (one : OwnAsk) where
  abbrev pub to_come : List Ms
  to_come = drop one.given (times_of one)

  abbrev pub IsNextOf : List StepCells → Option Ms → Type 0
  IsNextOf steps next = IsFront (asked_of samples one) one.part to_come steps next

  pub gives_owed : (most : ℕ) (steps : List StepCells) (next : Option Ms) → IsNextOf steps next → 1 ≤ length steps → length steps ≤ most → GivesOwed most pulled.Frame steps (seen_ask samples one)
  gives_owed most steps next front some few = (front.owed_are ∙ sym (take-map (owed_at (asked_of samples one) one.part) (length steps) to_come), some, few)

  pub behind_all : (steps : List StepCells) (next : Option Ms) → IsNextOf steps next → next ≡ slice_get (times_of one) (one.given + length steps)
  behind_all steps next front = front.behind ∙ get_dropped one.given (times_of one) (length steps)

  module _ (allowed : IsAllowed one) where
    pub head : one.next ≡ slice_get to_come 0
    head = let e : one.given ≡ one.given + 0 = omega arith in allowed.next ∙ ap (slice_get (times_of one)) e ∙ sym (get_dropped one.given (times_of one) 0)

    pub is_instant : (steps : List StepCells) (next : Option Ms) (t : Ms) → IsNextOf steps next → next ≡ Some t → IsInstant one.ask.walk t.0
    is_instant steps next t front is =
        instant_at one.ask.walk (times_of one) (one.given + length steps) t allowed.times (sym (behind_all steps next front) ∙ is)

    pub next_behind : NextIsBehind → (steps : List StepCells) (now next : Option Ms) (t : Ms) → IsNextOf steps now → now ≡ Some t → IsNext one.ask.walk t.0 next → next ≡ slice_get to_come (length steps + 1)
    next_behind law steps now next t front is after =
        let e : (one.given + length steps) + 1 ≡ one.given + (length steps + 1) = omega arith in
        law one.ask.walk (times_of one) (one.given + length steps) t next allowed.times (sym (behind_all steps now front) ∙ is) after
        ∙ ap (slice_get (times_of one)) e ∙ sym (get_dropped one.given (times_of one) (length steps + 1))
