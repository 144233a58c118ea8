-- Series that stand beside the expected ones are those that are expected.
use Rattle.std.proofs.Common.{◌≡◌, Bool, true, false, cond, List, [], ◌∷◌, find, Option, None, Some, refl, ap, sym, subst, ◌∙◌, IsTrue}
use Rattle.std.specs.Prelude.{option_map, IsSome}
use Rattle.std.specs.List.{AllByRecursion}
use Rattle.std.specs.Ordering.{int_cmp, is_eq, is_lt}
use Rattle.std.specs.declared.cmp.Ordering.{Ordering}
use Rattle.std.specs.declared.cmp.Ordering.TheVariants.{Less, Equal, Greater}
use Rattle.std.proofs.lemmas.Bool.{and_parts}
use Rattle.label_set.specs.Labels.{labels_cmp}
use Rattle.ticks.specs.declared.moment.Ms.{Ms}
use Rattle.promql_meaning.specs.declared.answer.Point.{Point}
use Rattle.promql_meaning.specs.declared.answer.ResultSeries.{ResultSeries}
use Rattle.script_check.specs.Beside.{points_beside, rises_behind, stand_beside}
use Rattle.script_check.specs.Series.{IsMet, IsMetBy, IsNear, LabelList, are_near, misplaced, series_under, value_at}
use Rattle.script_check.specs.Verdicts.{series_reason}
use Rattle.script_check.proofs.Agreements.{both, one, same_time, series_agree_if}
use Rattle.script_check.proofs.Sorted.{below_apart, same_labels, then_below, ties_with_itself}

-- ---- values

near_here : (p q : Point) (ps qs : List Point) → p.at ≡ q.at → IsTrue (are_near (Some p.value) (Some q.value)) → ((at : Ms) → IsTrue (are_near (value_at at ps) (value_at at qs)))
    → (at : Ms) → IsTrue (are_near (value_at at (p ∷ ps)) (value_at at (q ∷ qs)))
near_here p q ps qs same here later at =
    let both_at = λ (b : Bool). IsTrue (are_near (option_map (λ (x : Point). x.value) (cond b (Some p) (find (λ (x : Point). is_eq (int_cmp x.at.0 at.0)) ps)))
    (option_map (λ (x : Point). x.value) (cond b (Some q) (find (λ (x : Point). is_eq (int_cmp x.at.0 at.0)) qs)))) in
    subst (λ (t : Ms). IsTrue (are_near (option_map (λ (x : Point). x.value) (cond (is_eq (int_cmp p.at.0 at.0)) (Some p) (find (λ (x : Point). is_eq (int_cmp x.at.0 at.0)) ps)))
    (option_map (λ (x : Point). x.value) (cond (is_eq (int_cmp t.0 at.0)) (Some q) (find (λ (x : Point). is_eq (int_cmp x.at.0 at.0)) qs))))) same
    (elim (is_eq (int_cmp p.at.0 at.0)) as both_at [ true ↦ here | false ↦ later at ])

pub points_near : (ps qs : List Point) → points_beside ps qs ≡ true → (at : Ms) → IsTrue (are_near (value_at at ps) (value_at at qs))
points_near [] [] h at = refl
points_near [] (q ∷ qs) h at = absurd (cc)
points_near (p ∷ ps) [] h at = absurd (cc)
points_near (p ∷ ps) (q ∷ qs) h at =
    let a = and_parts _ _ h in
    let b = and_parts _ _ a.1 in
    near_here p q ps qs (same_time p.at q.at a.0) b.0 (points_near ps qs b.1) at

-- ---- labels

record Stands (before : Option LabelList) (line series : ResultSeries) (wanted got : List ResultSeries) : Type 0 where
  rises : rises_behind before line.labels ≡ true
  same : line.labels ≡ series.labels
  near : IsNear line series
  later : stand_beside (Some line.labels) wanted got ≡ true

stands : (before : Option LabelList) (line series : ResultSeries) (wanted got : List ResultSeries) → stand_beside before (line ∷ wanted) (series ∷ got) ≡ true → Stands before line series wanted got
stands before line series wanted got h =
    let a = and_parts _ _ h in
    let b = and_parts _ _ a.1 in
    let c = and_parts _ _ b.1 in
    record { rises = a.0; same = same_labels line.labels series.labels b.0; near = points_near line.points series.points c.0; later = c.1 }

pub less : (o : Ordering) → is_lt o ≡ true → o ≡ Less
less Less h = refl
less Equal h = absurd (cc)
less Greater h = absurd (cc)

-- later lines have greater labels
above : (before : LabelList) (wanted got : List ResultSeries) → stand_beside (Some before) wanted got ≡ true → AllByRecursion (λ (w : ResultSeries). labels_cmp before w.labels ≡ Less) wanted
above before [] got h = tt
above before (line ∷ wanted) [] h = absurd (cc)
above before (line ∷ wanted) (series ∷ got) h =
    let s = stands (Some before) line series wanted got h in
    let first = less (labels_cmp before line.labels) s.rises in
    (first, one (λ w. labels_cmp line.labels w.labels ≡ Less) (λ w. labels_cmp before w.labels ≡ Less) (λ w next. then_below before line.labels w.labels first next) wanted (above line.labels wanted got s.later))

-- a series that has other labels isn't the one that is looked for
past : (first : ResultSeries) (all : List ResultSeries) (w : ResultSeries) → is_eq (labels_cmp first.labels w.labels) ≡ false → IsMet all w → IsMet (first ∷ all) w
past first all w apart h = subst (λ (b : Bool). IsMetBy w (cond b (Some first) (series_under w.labels all))) (sym apart) h

here : (first : ResultSeries) (all : List ResultSeries) (w : ResultSeries) → is_eq (labels_cmp first.labels w.labels) ≡ true → IsNear w first → IsMet (first ∷ all) w
here first all w same h = subst (λ (b : Bool). IsMetBy w (cond b (Some first) (series_under w.labels all))) (sym same) h

each_met : (before : Option LabelList) (wanted got : List ResultSeries) → stand_beside before wanted got ≡ true → AllByRecursion (IsMet got) wanted
each_met before [] got h = tt
each_met before (line ∷ wanted) [] h = absurd (cc)
each_met before (line ∷ wanted) (series ∷ got) h =
    let s = stands before line series wanted got h in
    let tied : is_eq (labels_cmp series.labels line.labels) ≡ true = subst (λ (l : LabelList). is_eq (labels_cmp l line.labels) ≡ true) s.same (ties_with_itself line.labels) in (
      here series got line tied s.near,
      both (λ w. labels_cmp line.labels w.labels ≡ Less) (IsMet got) (IsMet (series ∷ got))
          (λ w below met. past series got w (subst (λ (l : LabelList). is_eq (labels_cmp l w.labels) ≡ false) s.same (below_apart line.labels w.labels below)) met) wanted (above line.labels wanted got s.later)
          (each_met (Some line.labels) wanted got s.later),
    )

-- one that is looked for behind another one
pub still_there : (first : ResultSeries) (all : List ResultSeries) (labels : LabelList) → IsSome (series_under labels all) → IsSome (series_under labels (first ∷ all))
still_there first all labels h = elim (is_eq (labels_cmp first.labels labels)) as (λ b. IsSome (cond b (Some first) (series_under labels all))) [ true ↦ refl | false ↦ h ]

pub found_here : (first : ResultSeries) (all : List ResultSeries) (labels : LabelList) → is_eq (labels_cmp first.labels labels) ≡ true → IsSome (series_under labels (first ∷ all))
found_here first all labels same = subst (λ (b : Bool). IsSome (cond b (Some first) (series_under labels all))) (sym same) refl

no_other : (before : Option LabelList) (wanted got : List ResultSeries) → stand_beside before wanted got ≡ true → AllByRecursion (λ (s : ResultSeries). IsSome (series_under s.labels wanted)) got
no_other before [] [] h = tt
no_other before [] (series ∷ got) h = absurd (cc)
no_other before (line ∷ wanted) [] h = tt
no_other before (line ∷ wanted) (series ∷ got) h =
    let s = stands before line series wanted got h in
    let tied : is_eq (labels_cmp line.labels series.labels) ≡ true = subst (λ (l : LabelList). is_eq (labels_cmp line.labels l) ≡ true) s.same (ties_with_itself line.labels) in (
      found_here line wanted series.labels tied,
      one (λ (t : ResultSeries). IsSome (series_under t.labels wanted)) (λ (t : ResultSeries). IsSome (series_under t.labels (line ∷ wanted))) (λ t. still_there line wanted t.labels) got (no_other (Some line.labels) wanted got s.later),
    )

in_place : (before : Option LabelList) (wanted got : List ResultSeries) → stand_beside before wanted got ≡ true → misplaced wanted got ≡ None
in_place before [] [] h = refl
in_place before [] (series ∷ got) h = absurd (cc)
in_place before (line ∷ wanted) [] h = refl
in_place before (line ∷ wanted) (series ∷ got) h =
    let a = and_parts _ _ h in
    let b = and_parts _ _ a.1 in
    let c = and_parts _ _ b.1 in
    ap (λ (b : Bool). cond b (misplaced wanted got) (Some series)) b.0 ∙ in_place (Some line.labels) wanted got c.1

pub no_reason_beside : (wanted got : List ResultSeries) (ordered : Bool) → stand_beside None wanted got ≡ true → series_reason ordered wanted got ≡ None
no_reason_beside wanted got ordered h =
    series_agree_if wanted got ordered (record { each = each_met None wanted got h; no_other = no_other None wanted got h }) (λ _. in_place None wanted got h)
