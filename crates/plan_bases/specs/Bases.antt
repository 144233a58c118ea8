-- Lists of rules with the series that pass them. (This project's own.)
use Rattle.std.specs.Prelude.{◌≡◌, ℕ, Bool, true, List, [], ◌∷◌, ◌++◌, Option, Some, is_some, slice_get}
use Rattle.std.specs.List.{AllByRecursion, filter_map}
use Rattle.std.specs.Map.{lookup}
use Rattle.label_set.specs.declared.rules.Rule.{Rule}
use Rattle.logical_plan.specs.declared.nodes.Plan.{Plan}
use Rattle.match_rule.specs.Patterns.{HaveTheirPatterns}
use Rattle.sample_store.specs.Samples.{AllSeries, IsSelected, chosen}
use Rattle.plan_bases.specs.Leaves.{leaves_of}
use Rattle.plan_bases.specs.RuleEquality.{rules_eq}
use Rattle.plan_bases.specs.declared.leaves.Leaf.{Leaf}

-- patterns by their numbers
abbrev pub Kept : Type 0
Kept = List (Bool × List ℕ)

-- the numbers of series under lists of rules
abbrev pub Lists : Type 0
Lists = List (List Rule × List ℕ)

-- the series under some rules, if these are there
abbrev pub series_under : Lists → List Rule → Option (List ℕ)
series_under lists rules = lookup (rules_eq rules) lists

-- these are the series that pass the rules, in the order of their labels
pub record AreSeries (kept : Kept) (samples : AllSeries) (rules : List Rule) (series : List ℕ) : Type 0 where
  pub selected : IsSelected kept rules samples series
  pub these : filter_map (slice_get samples) series ≡ chosen kept rules samples

-- the series of a store, and lists of rules with the numbers of those that pass them
pub record Selections : Type 0 where
  pub samples : AllSeries
  pub lists : Lists

-- under each list of rules stand the series that pass them
abbrev pub AreRight : Kept → AllSeries → Lists → Type 0
AreRight kept samples lists = (rules : List Rule) (series : List ℕ) → series_under lists rules ≡ Some series → AreSeries kept samples rules series

abbrev pub is_under : Lists → List Rule → Bool
is_under lists rules = is_some (series_under lists rules)

-- rules are there, where their patterns are kept
abbrev pub Holds : Kept → Lists → List Rule → Type 0
Holds kept lists rules = HaveTheirPatterns kept rules → is_under lists rules ≡ true

-- so are those of a selector, and those of each filter behind it together with what it stands over
abbrev pub HoldsEach : Kept → Lists → List Rule → List (List Rule) → Type 0
HoldsEach kept lists under [] = Holds kept lists under
HoldsEach kept lists under (more ∷ filters) = Holds kept lists under × HoldsEach kept lists (under ++ more) filters

abbrev pub HoldsLeaf : Kept → Lists → Leaf → Type 0
HoldsLeaf kept lists leaf = HoldsEach kept lists leaf.base leaf.filters

abbrev pub HoldsLeaves : Kept → Lists → List Leaf → Type 0
HoldsLeaves kept lists leaves = AllByRecursion (HoldsLeaf kept lists) leaves

-- so are those of all leaves of a plan
abbrev pub HoldsPlan : Kept → Lists → Plan → Type 0
HoldsPlan kept lists p = HoldsLeaves kept lists (leaves_of p)

-- what was there is there
abbrev pub Stays : Lists → Lists → Type 0
Stays before after = (rules : List Rule) → is_under before rules ≡ true → is_under after rules ≡ true
