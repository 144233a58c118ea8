-- The instants of a tree's turns, one turn behind another, are those of its walk.
use Rattle.std.proofs.Common.{◌≡◌, ℕ, ◌+◌, ◌<◌, ◌≤◌, Bool, true, false, List, [], ◌∷◌, ◌++◌, length, Option, None, Some, refl, ap, arith}
use Rattle.std.specs.Prelude.{ℤ, ◌-ℤ◌, int_lt, unsigned_abs, if◌then◌else◌}
use Rattle.std.proofs.lemmas.Int.{ints}
use Rattle.plan_tree.specs.Chains.{Chain, IsComing}
use Rattle.plan_tree.specs.Feeds.{fed_next, fed_on}
use Rattle.plan_tree.specs.declared.turns.Fed.{Fed}
use Rattle.step_table.specs.Timed.{StepAt, steps_over}
use Rattle.step_table.specs.declared.step.Step.{Step}
use Rattle.ticks.specs.declared.grid.Grid.{Grid}
use Rattle.ticks.specs.declared.moment.Ms.{Ms}
use Rattle.ticks.specs.declared.walk.Walk.{Walk}
use Rattle.ticks.specs.declared.walk.Walk.{Grid as GridWalk}

pub fed_both : (fed : Option Fed) (xs ys : List Ms) → fed_on fed (xs ++ ys) ≡ fed_on (fed_on fed xs) ys
fed_both fed [] ys = refl
fed_both fed (x ∷ xs) ys = fed_both (fed_next fed x) xs ys

pub chain_both : (walk : Walk) (fed : Option Fed) (xs ys : List Ms) → Chain walk fed xs → Chain walk (fed_on fed xs) ys → Chain walk fed (xs ++ ys)
chain_both walk fed [] ys c d = d
chain_both walk fed (x ∷ xs) ys c d = (c.0, chain_both walk (fed_next fed x) xs ys c.1 d)

pub steps_both : (f : ℤ → Step) (xs ys : List Ms) → steps_over f (xs ++ ys) ≡ steps_over f xs ++ steps_over f ys
steps_both f [] ys = refl
steps_both f (x ∷ xs) ys = ap (λ (rest : List StepAt). record { at = x; step = f x.0 } ∷ rest) (steps_both f xs ys)

-- ---- how many milliseconds of a grid are left

abbrev pub left : Grid → Option Fed → ℕ
left grid None = unsigned_abs (grid.end.0 -ℤ grid.start.0) + 2
left grid (Some fed) = if int_lt grid.end.0 fed.last.0 then 0 else unsigned_abs (grid.end.0 -ℤ fed.last.0) + 1

left_one : (grid : Grid) (fed : Option Fed) (t : Ms) → IsComing (GridWalk grid) fed (Some t) → left grid (fed_next fed t) < left grid fed
left_one grid None t is = by (int_lt grid.end.0 t.0) refl
  where
    by : (b : Bool) → int_lt grid.end.0 t.0 ≡ b → (if b then 0 else unsigned_abs (grid.end.0 -ℤ t.0) + 1) < unsigned_abs (grid.end.0 -ℤ grid.start.0) + 2
    by true h = omega arith
    by false h = let a = is.instant.from_start in let b = is.instant.to_end in omega (arith, ints, a, b, h)
left_one grid (Some fed) t is = by (int_lt grid.end.0 t.0) (int_lt grid.end.0 fed.last.0) refl refl
  where
    by : (b c : Bool) → int_lt grid.end.0 t.0 ≡ b → int_lt grid.end.0 fed.last.0 ≡ c → (if b then 0 else unsigned_abs (grid.end.0 -ℤ t.0) + 1) < (if c then 0 else unsigned_abs (grid.end.0 -ℤ fed.last.0) + 1)
    by b true h k = let a = is.instant.to_end in let l = is.later in absurd (omega (arith, ints, a, l, k))
    by true false h k = let a = is.instant.to_end in absurd (omega (arith, ints, a, h))
    by false false h k = let a = is.instant.to_end in let l = is.later in omega (arith, ints, a, l, h, k)

left_on : (grid : Grid) (fed : Option Fed) (xs : List Ms) → Chain (GridWalk grid) fed xs → left grid (fed_on fed xs) ≤ left grid fed
left_on grid fed [] c = omega arith
left_on grid fed (x ∷ xs) c = let a = left_one grid fed x c.0 in let b = left_on grid (fed_next fed x) xs c.1 in omega arith

pub fewer : (grid : Grid) (fed : Option Fed) (xs : List Ms) → Chain (GridWalk grid) fed xs → 0 < length xs → left grid (fed_on fed xs) < left grid fed
fewer grid fed [] c some = absurd (omega arith)
fewer grid fed (x ∷ xs) c some = let a = left_one grid fed x c.0 in let b = left_on grid (fed_next fed x) xs c.1 in omega arith
