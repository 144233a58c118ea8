-- Series that stand beside others of a list whose labels rise.
use Rattle.std.proofs.Common.{◌≡◌, ◌<◌, ◌≤◌, ℕ, zero, suc, Bool, true, false, cond, List, [], ◌∷◌, length, slice_get, Option, None, Some, refl, ap, sym, subst, ◌∙◌, IsTrue, arith, inl, inr}
use Rattle.std.specs.Prelude.{slice_index_or, IsSome}
use Rattle.std.specs.List.{AllByRecursion}
use Rattle.std.specs.Ordering.{is_eq}
use Rattle.std.specs.declared.cmp.Ordering.TheVariants.{Less, Equal}
use Rattle.std.proofs.Math.ListN.{replicate, set}
use Rattle.std.proofs.lemmas.Bool.{and_parts, cases_eq}
use Rattle.std.proofs.lemmas.List.{get_or-replicate, get_or-set_other}
use Rattle.std.proofs.lemmas.Option.{slice_get_within}
use Rattle.label_set.specs.LabelOrder.{labels_cmp_ties}
use Rattle.label_set.specs.Labels.{labels_cmp}
use Rattle.promql_meaning.specs.declared.answer.ResultSeries.{ResultSeries}
use Rattle.xfrac.specs.Laws.{NearIsSymmetric}
use Rattle.xfrac.specs.declared.value.XFrac.{XFrac}
use Rattle.script_check.specs.Beside.{points_beside, rising}
use Rattle.script_check.specs.Paired.{AreMarked, HasLabels, IsBeside, IsPartner, IsThere}
use Rattle.script_check.specs.Series.{Agrees, IsMet, IsMetBy, IsNear, LabelList, are_near, series_under, value_at}
use Rattle.script_check.proofs.Agreements.{one}
use Rattle.script_check.proofs.LineByLine.{found_here, less, points_near, still_there}
use Rattle.script_check.proofs.Sorted.{below_apart, same_labels, then_below, ties_with_itself}

-- ---- places

module _ {X : Type 0} (P : X → Type 0) where
  pub at_place : (xs : List X) (place : ℕ) (x : X) → AllByRecursion P xs → slice_get xs place ≡ Some x → P x
  at_place [] place x a e = absurd (cc)
  at_place (y ∷ xs) zero x a e = subst P (let same : y ≡ x = cc in same) a.0
  at_place (y ∷ xs) (suc place) x a e = at_place xs place x a.1 e

  pub by_places : (xs : List X) → ((place : ℕ) (x : X) → slice_get xs place ≡ Some x → P x) → AllByRecursion P xs
  by_places [] h = tt
  by_places (x ∷ xs) h = (h zero x refl, by_places xs (λ place y e. h (suc place) y e))

-- the labels of each series are there
pub there_itself : (all : List ResultSeries) (place : ℕ) (s : ResultSeries) → slice_get all place ≡ Some s → IsThere all s
there_itself [] place s e = absurd (cc)
there_itself (first ∷ all) zero s e = let same : first ≡ s = cc in found_here first all s.labels (subst (λ (t : ResultSeries). is_eq (labels_cmp first.labels t.labels) ≡ true) same (ties_with_itself first.labels))
there_itself (first ∷ all) (suc place) s e = still_there first all s.labels (there_itself all place s e)

-- the series that is found under labels has these labels, and what all have
pub found_has : (P : ResultSeries → Type 0) (all : List ResultSeries) (labels : LabelList) (s : ResultSeries) → AllByRecursion P all → series_under labels all ≡ Some s → (s.labels ≡ labels) × P s
found_has P [] labels s a e = absurd (cc)
found_has P (first ∷ all) labels s a e =
    elim (is_eq (labels_cmp first.labels labels)) as (λ b. is_eq (labels_cmp first.labels labels) ≡ b → cond b (Some first) (series_under labels all) ≡ Some s → (s.labels ≡ labels) × P s) [
      | true ↦ λ t k. let same : first ≡ s = cc in subst (λ (r : ResultSeries). (r.labels ≡ labels) × P r) same (same_labels first.labels labels t, a.0)
      | false ↦ λ t k. found_has P all labels s a.1 k
    ] refl e

-- ---- labels that rise

above_rising : (before : LabelList) (all : List ResultSeries) → rising (Some before) all ≡ true → AllByRecursion (λ (s : ResultSeries). labels_cmp before s.labels ≡ Less) all
above_rising before [] h = tt
above_rising before (s ∷ all) h =
    let a = and_parts _ _ h in
    let first = less (labels_cmp before s.labels) a.0 in
    (first, one (λ (w : ResultSeries). labels_cmp s.labels w.labels ≡ Less) (λ (w : ResultSeries). labels_cmp before w.labels ≡ Less) (λ w next. then_below before s.labels w.labels first next) all (above_rising s.labels all a.1))

-- where labels rise, the series at a place is the one under its labels
under_its_labels : (before : Option LabelList) (all : List ResultSeries) (place : ℕ) (s : ResultSeries) → rising before all ≡ true → slice_get all place ≡ Some s → series_under s.labels all ≡ Some s
under_its_labels before [] place s h e = absurd (cc)
under_its_labels before (first ∷ all) zero s h e =
    let same : first ≡ s = cc in
    subst (λ (t : ResultSeries). series_under t.labels (first ∷ all) ≡ Some t) same (ap (λ (b : Bool). cond b (Some first) (series_under first.labels all)) (ties_with_itself first.labels))
under_its_labels before (first ∷ all) (suc place) s h e =
    let a = and_parts _ _ h in
    let below : labels_cmp first.labels s.labels ≡ Less = at_place (λ (w : ResultSeries). labels_cmp first.labels w.labels ≡ Less) all place s (above_rising first.labels all a.1) e in
    ap (λ (b : Bool). cond b (Some first) (series_under s.labels all)) (below_apart first.labels s.labels below) ∙ under_its_labels (Some first.labels) all place s a.1 e

-- ---- marks

pub no_marks : (part others : List ResultSeries) → length part ≤ 65536 → AreMarked part others (replicate 65536 false)
no_marks part others few = record {
  each = λ place s g m. absurd (
      let w : place < length part = slice_get_within part place s g in
      let unset : slice_index_or (replicate 65536 false) place false ≡ false = get_or-replicate 65536 place false false (omega arith) in
      let no : false ≡ true = sym unset ∙ m in
      cc
      );
}

pub one_mark : (part others : List ResultSeries) (marks : List Bool) (place k : ℕ) (other : ResultSeries) → slice_get others k ≡ Some other → HasLabels other.labels (slice_get part place)
    → AreMarked part others marks → AreMarked part others (set marks place true)
one_mark part others marks place k other at has m = record {
  each = λ i s g set_there. elim (cases_eq i place) [
    | inl same ↦
        let here : slice_get part place ≡ Some s = subst (λ j. slice_get part j ≡ Some s) same g in
        let is : s.labels ≡ other.labels = subst (HasLabels other.labels) here has in
        subst (λ (labels : LabelList). IsSome (series_under labels others)) (sym is) (there_itself others k other at)
    | inr apart ↦ m.each i s g (sym (get_or-set_other marks place i true false apart) ∙ set_there)
  ];
}

pub each_is_there : (part others : List ResultSeries) (marks : List Bool) → AreMarked part others marks → ((place : ℕ) → place < length part → slice_index_or marks place false ≡ true)
    → AllByRecursion (IsThere others) part
each_is_there part others marks m all = by_places (IsThere others) part (λ place s g. m.each place s g (all place (slice_get_within part place s g)))

-- ---- agreement

partner : (all : List ResultSeries) (s : ResultSeries) (P : Type 0) → IsBeside all s → ((t : ResultSeries) (place : ℕ) → slice_get all place ≡ Some t → t.labels ≡ s.labels → IsNear s t → P) → P
partner all s P b f = go (slice_get all b.place) refl b.has
  where
    go : (o : Option ResultSeries) → slice_get all b.place ≡ o → IsPartner s o → P
    go None e h = absurd h
    go (Some t) e h = f t b.place e h.0 h.1

-- the same of a series under its labels, where labels rise
beside_met : (all : List ResultSeries) (s : ResultSeries) → rising None all ≡ true → IsBeside all s → IsMet all s
beside_met all s r b = partner all s (IsMet all s) b (λ t place e same near.
    subst (λ (labels : LabelList). IsMetBy s (series_under labels all)) same (subst (IsMetBy s) (sym (under_its_labels None all place t r e)) near))

beside_there : (all : List ResultSeries) (s : ResultSeries) → IsBeside all s → IsThere all s
beside_there all s b = partner all s (IsThere all s) b (λ t place e same near. subst (λ (labels : LabelList). IsSome (series_under labels all)) same (there_itself all place t e))

-- each line stands beside a series of the answer, whose labels rise
pub answer_rises : (wanted got : List ResultSeries) → rising None got ≡ true → AllByRecursion (IsBeside got) wanted → AllByRecursion (IsThere wanted) got → Agrees wanted got
answer_rises wanted got r a there = record {
  each = one (IsBeside got) (IsMet got) (λ s b. beside_met got s r b) wanted a;
  no_other = there;
}

near_turned : NearIsSymmetric → (v w : Option XFrac) → IsTrue (are_near v w) → IsTrue (are_near w v)
near_turned law None None h = refl
near_turned law (Some v) (Some w) h = sym (law v w) ∙ h
near_turned law None (Some w) h = absurd (cc)
near_turned law (Some v) None h = absurd (cc)

series_turned : NearIsSymmetric → (s t : ResultSeries) → IsNear s t → IsNear t s
series_turned law s t near at = near_turned law (value_at at s.points) (value_at at t.points) (near at)

-- of the answer's series under a line's labels the line is the partner
met_in_turn : NearIsSymmetric → (wanted got : List ResultSeries) (place : ℕ) (line : ResultSeries) → rising None wanted ≡ true → AllByRecursion (IsBeside wanted) got → slice_get wanted place ≡ Some line → IsThere got line → IsMet got line
met_in_turn law wanted got place line r a e there = go (series_under line.labels got) refl there
  where
    go : (o : Option ResultSeries) → series_under line.labels got ≡ o → IsSome o → IsMetBy line o
    go None f h = absurd (cc)
    go (Some s) f h =
        let found = found_has (IsBeside wanted) got line.labels s a f in
        let met : IsMetBy s (series_under s.labels wanted) = beside_met wanted s r found.1 in
        let there : series_under s.labels wanted ≡ Some line = subst (λ (labels : LabelList). series_under labels wanted ≡ Some line) (sym found.0) (under_its_labels None wanted place line r e) in
        series_turned law s line (subst (IsMetBy s) there met)

-- each series of the answer stands beside a line, and the lines' labels rise
pub lines_rise : NearIsSymmetric → (wanted got : List ResultSeries) → rising None wanted ≡ true → AllByRecursion (IsBeside wanted) got → AllByRecursion (IsThere got) wanted → Agrees wanted got
lines_rise law wanted got r a there = record {
  each = by_places (IsMet got) wanted (λ place line e. met_in_turn law wanted got place line r a e (at_place (IsThere got) wanted place line there e));
  no_other = one (IsBeside wanted) (λ (s : ResultSeries). IsSome (series_under s.labels wanted)) (λ s b. beside_there wanted s b) got a;
}

-- ---- what comparisons tell

pub labels_at : (all : List ResultSeries) (place : ℕ) (s : ResultSeries) (labels : LabelList) → slice_get all place ≡ Some s → labels_cmp s.labels labels ≡ Equal → HasLabels labels (slice_get all place)
labels_at all place s labels at tie = subst (HasLabels labels) (sym at) (labels_cmp_ties s.labels labels tie)

pub beside_at : (all : List ResultSeries) (place : ℕ) (s one : ResultSeries) → slice_get all place ≡ Some s → HasLabels one.labels (slice_get all place) → points_beside one.points s.points ≡ true → IsBeside all one
beside_at all place s one at has near = record {
  place = place;
  has = subst (IsPartner one) (sym at) (subst (HasLabels one.labels) at has, points_near one.points s.points near);
}
