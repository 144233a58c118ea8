-- Lists of other lengths don't stand beside each other.
use Rattle.std.proofs.Common.{◌≡◌, suc, Bool, true, false, length, List, [], ◌∷◌, Option, Some, refl, ap}
use Rattle.std.specs.Prelude.{◌&&◌}
use Rattle.std.specs.Ordering.{int_cmp, is_eq}
use Rattle.label_set.specs.Labels.{labels_cmp}
use Rattle.xfrac.specs.Near.{is_near}
use Rattle.promql_meaning.specs.declared.answer.Point.{Point}
use Rattle.promql_meaning.specs.declared.answer.ResultSeries.{ResultSeries}
use Rattle.script_check.specs.Beside.{points_beside, rises_behind, stand_beside}
use Rattle.script_check.specs.Series.{LabelList}

never : (a b : Bool) → false ≡ b → false ≡ (a && b)
never true b h = h
never false b h = refl

pub points_uneven : (ps qs : List Point) → (length ps ≡ length qs → ⊥) → false ≡ points_beside ps qs
points_uneven [] [] other = absurd (other refl)
points_uneven [] (q ∷ qs) other = refl
points_uneven (p ∷ ps) [] other = refl
points_uneven (p ∷ ps) (q ∷ qs) other =
    never (is_eq (int_cmp p.at.0 q.at.0)) _ (never (is_near p.value q.value) _ (points_uneven ps qs (λ same. other (ap suc same))))

pub series_uneven : (before : Option LabelList) (wanted got : List ResultSeries) → (length wanted ≡ length got → ⊥) → false ≡ stand_beside before wanted got
series_uneven before [] [] other = absurd (other refl)
series_uneven before [] (s ∷ got) other = refl
series_uneven before (line ∷ wanted) [] other = refl
series_uneven before (line ∷ wanted) (s ∷ got) other =
    never (rises_behind before line.labels) _ (never (is_eq (labels_cmp line.labels s.labels)) _
    (never (points_beside line.points s.points) _ (series_uneven (Some line.labels) wanted got (λ same. other (ap suc same)))))
