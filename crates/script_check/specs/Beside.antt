-- Series that stand beside the expected ones, line by line, with rising labels.
use Rattle.std.specs.Prelude.{Bool, true, false, ◌&&◌, List, [], ◌∷◌, Option, None, Some}
use Rattle.std.specs.Ordering.{int_cmp, is_eq, is_lt}
use Rattle.label_set.specs.Labels.{labels_cmp}
use Rattle.xfrac.specs.Near.{is_near}
use Rattle.promql_meaning.specs.declared.answer.Point.{Point}
use Rattle.promql_meaning.specs.declared.answer.ResultSeries.{ResultSeries}
use Rattle.script_check.specs.Series.{LabelList}

-- points have the same times in the same order, with near values
abbrev pub points_beside : List Point → List Point → Bool
points_beside [] [] = true
points_beside (p ∷ ps) (q ∷ qs) = is_eq (int_cmp p.at.0 q.at.0) && (is_near p.value q.value && points_beside ps qs)
points_beside _ _ = false

-- labels are greater than those before them, if there are any
abbrev pub rises_behind : Option LabelList → LabelList → Bool
rises_behind None labels = true
rises_behind (Some before) labels = is_lt (labels_cmp before labels)

-- labels rise, from what stands before them on
abbrev pub rising : Option LabelList → List ResultSeries → Bool
rising before [] = true
rising before (series ∷ more) = rises_behind before series.labels && rising (Some series.labels) more

-- series have the expected labels, which rise, and near values
abbrev pub stand_beside : Option LabelList → List ResultSeries → List ResultSeries → Bool
stand_beside before [] [] = true
stand_beside before (line ∷ wanted) (series ∷ got) =
    rises_behind before line.labels && (is_eq (labels_cmp line.labels series.labels) && (points_beside line.points series.points && stand_beside (Some line.labels) wanted got))
stand_beside before _ _ = false
