-- Series of both sides that were compared, by their places.
use Rattle.std.specs.Prelude.{◌≡◌, ℕ, true, List, [], ◌∷◌, length, slice_get, Option, Some}
use Rattle.std.specs.List.{AllByRecursion}
use Rattle.std.specs.declared.cmp.Ordering.TheVariants.{Less}
use Rattle.label_set.specs.Labels.{labels_cmp}
use Rattle.promql_meaning.specs.declared.answer.ResultSeries.{ResultSeries}
use Rattle.script_check.specs.Beside.{rises_behind}
use Rattle.script_check.specs.Paired.{HasLabels}
use Rattle.script_check.specs.Series.{IsNear, LabelList}

-- the places of an expected series and of one of the answer, and the labels that they share
pub record Match : Type 0 where
  pub labels : LabelList
  pub line : ℕ
  pub place : ℕ

-- they have these labels, and near values
pub record IsMatch (wanted got : List ResultSeries) (m : Match) : Type 0 where
  pub line : HasLabels m.labels (slice_get wanted m.line)
  pub place : HasLabels m.labels (slice_get got m.place)
  pub near : (s t : ResultSeries) → slice_get wanted m.line ≡ Some s → slice_get got m.place ≡ Some t → IsNear s t

-- all have lesser labels than these
abbrev pub AreBelow : LabelList → List Match → Type 0
AreBelow labels matches = AllByRecursion (λ (m : Match). labels_cmp m.labels labels ≡ Less) matches

-- each has greater labels than those behind it
abbrev pub AreFalling : List Match → Type 0
AreFalling [] = Unit {0}
AreFalling (m ∷ matches) = AreBelow m.labels matches × AreFalling matches

-- So many series of both sides are matches. What rises behind the last labels is greater than those of each match.
pub record AreMatched (wanted got : List ResultSeries) (last : Option LabelList) (many : ℕ) : Type 0 where
  pub matches : List Match
  pub count : length matches ≡ many
  pub each : AllByRecursion (IsMatch wanted got) matches
  pub falling : AreFalling matches
  pub below : (labels : LabelList) → rises_behind last labels ≡ true → AreBelow labels matches
