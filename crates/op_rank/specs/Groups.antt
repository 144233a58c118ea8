-- The groups of labels that are fed: what a grouping keeps of labels, and where it stands among what it keeps of all. (This
-- project's own.)
use Rattle.std.specs.Prelude.{ℕ, not, List, map}
use Rattle.std.specs.List.{IsDistinct}
use Rattle.label_set.specs.LabelEquality.{labels_eq}
use Rattle.label_set.specs.declared.rules.Grouping.{Grouping}
use Rattle.promql_meaning.specs.Ranks.{kept_labels}
use Rattle.step_put.specs.Puts.{AreAt}
use Rattle.step_put.specs.declared.labels_left.Left.{Left}
use Rattle.step_put.specs.declared.labels_left.Left.TheVariants.{Signature}
use Rattle.step_table.specs.Groups.{Names}

-- what a grouping keeps of labels, as what is left of labels
abbrev pub left_by : Grouping → Left
left_by by = Signature (not by.without) by.names

-- what is kept of each labels that are fed stands at its place among labels of which no two are equal
abbrev pub IsGrouped : Grouping → List Names → List ℕ → Type 0
IsGrouped by fed places = (groups : List Names) × IsDistinct labels_eq groups × AreAt groups (map (kept_labels by) fed) places

-- what is left of labels, the labels of groups, the labels that are fed, and the place of each one's group
pub record Grouped : Type 0 where
  pub left : Left
  pub groups : List Names
  pub fed : List Names
  pub places : List ℕ
