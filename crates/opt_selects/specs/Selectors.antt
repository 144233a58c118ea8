-- The selectors of a plan. (This project's own.)
use Rattle.std.specs.Prelude.{ℕ, Bool, true, false, List, [], ◌∷◌, ◌++◌, fold, length, None, Some}
use Rattle.std.specs.Ordering.{is_lt, nat_cmp, ordering_then}
use Rattle.std.specs.declared.cmp.Ordering.{Ordering}
use Rattle.logical_plan.specs.declared.nodes.Plan.{Plan}
use Rattle.logical_plan.specs.declared.nodes.PlanNode.TheOpen.{PlanNode-F}
use Rattle.logical_plan.specs.declared.nodes.PlanNode.TheFolds.{fold-Plan}
use Rattle.window_fn.specs.Aggregates.{inserted}
use Rattle.opt_selects.specs.declared.found.Found.{Found}

abbrev pub all_selectors : List (List Found) → List Found
all_selectors [] = []
all_selectors (found ∷ rest) = found ++ all_selectors rest

-- from left to right; a selector whose own times a timestamp reads is left out, and so is what engines are asked for
abbrev pub node_selectors : PlanNode-F (ℕ → List Found) (List Found) → ℕ → List Found
node_selectors (PlanNode-F.Number value) at = []
node_selectors PlanNode-F.Time at = []
node_selectors (PlanNode-F.Select rules moment true) at = []
node_selectors (PlanNode-F.Select rules moment false) at = record { at = at; rules = rules; moment = moment; range = None } ∷ []
node_selectors (PlanNode-F.Range rules moment range) at = record { at = at; rules = rules; moment = moment; range = Some range } ∷ []
node_selectors (PlanNode-F.Subquery inner range step moment) at = inner
node_selectors (PlanNode-F.Element f inner arguments) at = inner ++ all_selectors arguments
node_selectors (PlanNode-F.Stamp inner) at = inner
node_selectors (PlanNode-F.Window f inner arguments) at = inner ++ all_selectors arguments
node_selectors (PlanNode-F.Absent labels inner) at = inner
node_selectors (PlanNode-F.Buckets quantile inner) at = quantile ++ inner
node_selectors (PlanNode-F.Relabel rule inner) at = inner
node_selectors (PlanNode-F.Sort down inner) at = inner
node_selectors (PlanNode-F.ScalarOf inner) at = inner
node_selectors (PlanNode-F.VectorOf inner) at = inner
node_selectors (PlanNode-F.Group f by arguments label) at = all_selectors arguments
node_selectors (PlanNode-F.Pair op left right pairing) at = left ++ right
node_selectors (PlanNode-F.Set op left right pairing) at = left ++ right
node_selectors (PlanNode-F.Filter base rules) at = base
node_selectors (PlanNode-F.Ratio sum count) at = sum ++ count
node_selectors (PlanNode-F.Once inner) at = inner
node_selectors (PlanNode-F.Gather expr kind engines) at = []

abbrev pub selectors : Plan → List Found
selectors = fold-Plan (ℕ → List Found) (List Found) node_selectors (λ p. p.node p.at)

-- fewest rules first, then in the order of the text
abbrev pub order_of_found : Found → Found → Ordering
order_of_found a b = ordering_then (nat_cmp (length a.rules) (length b.rules)) (nat_cmp a.at b.at)

abbrev pub precedes : Found → Found → Bool
precedes a b = is_lt (order_of_found a b)

abbrev pub ordered : List Found → List Found
ordered found = fold (inserted precedes) [] found
