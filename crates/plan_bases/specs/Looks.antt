-- How many series are tested before the tree of a plan grows: a sum over the distinct selectors of the plan and a sum over its filters,
-- which a reader can work out by hand. A filter over a selector looks where the fewest are: among the series of its selector, or among
-- those that have the rarest of the pairs that the rules of the two ask for. (This project's own.)
use Rattle.std.specs.Prelude.{◌≡◌, ◌+◌, ◌*◌, ◌≤◌, ℕ, List, [], ◌∷◌, ◌++◌, length, map, min, sum_by, if◌then◌else◌}
use Rattle.std.specs.List.{list_any}
use Rattle.label_set.specs.declared.rules.Rule.{Rule}
use Rattle.logical_plan.specs.declared.nodes.Plan.{Plan}
use Rattle.sample_store.specs.Samples.{AllSeries, chosen, looked_at}
use Rattle.ticks.specs.Works.{Counts}
use Rattle.plan_bases.specs.Bases.{Kept}
use Rattle.plan_bases.specs.Leaves.{bare, filtered, leaves_of}
use Rattle.plan_bases.specs.RuleEquality.{rules_eq}
use Rattle.plan_bases.specs.declared.leaves.Leaf.{Leaf}

-- counters rise by at most so many series that are tested, and by nothing else
pub record LooksAt (before after : Counts) (most : ℕ) : Type 0 where
  pub tested : after.tested ≤ before.tested + most
  pub fetched : after.fetched ≡ before.fetched
  pub probed : after.probed ≡ before.probed

-- each of some lists of rules that is none of those before it, where these stand in front
abbrev pub distinct_behind : List (List Rule) → List (List Rule) → List (List Rule)
distinct_behind seen [] = []
distinct_behind seen (rules ∷ lists) =
    if list_any (rules_eq rules) seen then distinct_behind (seen ++ rules ∷ []) lists else rules ∷ distinct_behind (seen ++ rules ∷ []) lists

-- distinct selectors: each looks at the series that have the rarest of the pairs that its rules ask for, or at all where they ask for none
abbrev pub selectors_look : AllSeries → List (List Rule) → ℕ
selectors_look samples lists = sum_by (λ (rules : List Rule). looked_at rules samples) lists

-- a filter over a selector: one test for each of its rules and each series that it stands over, or one for each series that a selection
-- by the rules of both looks at, whichever is less
abbrev pub filter_tests : Kept → AllSeries → (under more : List Rule) → ℕ
filter_tests kept samples under more = min (length (chosen kept under samples) * length more) (looked_at (under ++ more) samples)

-- the filters over a selector, each over those before it
abbrev pub filters_test : Kept → AllSeries → List Rule → List (List Rule) → ℕ
filters_test kept samples under [] = 0
filters_test kept samples under (more ∷ filters) = filter_tests kept samples under more + filters_test kept samples (under ++ more) filters

abbrev pub leaf_tests : Kept → AllSeries → Leaf → ℕ
leaf_tests kept samples leaf = filters_test kept samples leaf.base leaf.filters

-- leaves, behind some selectors that were looked at
abbrev pub leaves_look_behind : Kept → AllSeries → List (List Rule) → List Leaf → ℕ
leaves_look_behind kept samples seen leaves =
    selectors_look samples (distinct_behind seen (map (λ (leaf : Leaf). leaf.base) leaves)) + sum_by (leaf_tests kept samples) leaves

-- a plan: its distinct selectors, and its filters over selectors
abbrev pub plan_looks : Kept → AllSeries → Plan → ℕ
plan_looks kept samples p = leaves_look_behind kept samples [] (leaves_of p)

-- ---- laws

-- a filter tests each series that it stands over once for each of its rules at most
abbrev pub FiltersTestWithinTheirSelector : Type 0
FiltersTestWithinTheirSelector = (kept : Kept) (samples : AllSeries) (under more : List Rule) → filter_tests kept samples under more ≤ length (chosen kept under samples) * length more

-- and no more series than a selector with the rules of both looks at
abbrev pub FiltersTestWithinTheRarest : Type 0
FiltersTestWithinTheRarest = (kept : Kept) (samples : AllSeries) (under more : List Rule) → filter_tests kept samples under more ≤ looked_at (under ++ more) samples

-- a selector and a filter over it test no more than that selector and one with the rules of both
abbrev pub MergedSelectorsTestNoMore : Type 0
MergedSelectorsTestNoMore = (kept : Kept) (samples : AllSeries) (under more : List Rule)
    → leaves_look_behind kept samples [] (bare under ∷ filtered (bare under) more ∷ []) ≤ leaves_look_behind kept samples [] (bare under ∷ bare (under ++ more) ∷ [])
