-- The points under labels, as series and points come.
use Rattle.std.proofs.Common.{◌≡◌, ◌∙◌, ◌<◌, ◌≤◌, ℕ, zero, suc, Bool, true, false, cond, List, [], ◌∷◌, ◌++◌, length, get_or, refl, sym, ap, subst, append-nil, arith, None, Some, slice_get, slice_set}
use Rattle.std.specs.Prelude.{if◌then◌else◌, Result, Ok, Err, IfOk, OnOk}
use Rattle.std.specs.BTreeMap.{is_at}
use Rattle.std.specs.List.{AllByRecursion, IsDistinct}
use Rattle.std.specs.Map.{values_of}
use Rattle.std.proofs.lemmas.List.{map-append}
use Rattle.label_set.specs.LabelEquality.{labels_eq}
use Rattle.label_set.specs.LabelOrder.{labels_eq_at, labels_eq_equivalence}
use Rattle.label_set.specs.Labels.{labels_cmp}
use Rattle.promql_meaning.specs.declared.answer.Point.{Point}
use Rattle.promql_meaning.specs.declared.answer.ResultSeries.{ResultSeries}
use Rattle.step_table.specs.Groups.{Names, items_of}
use Rattle.result_rows.specs.Taken.{AreFront, names_of, points_under}

abbrev pub series_with : Names → List Point → ResultSeries
series_with names points = record { labels = names; points = points }

-- ---- one point more

pub names_set : (xs : List ResultSeries) (i : ℕ) (y : ResultSeries) (ps : List Point) → y ≡ get_or xs i y → names_of (slice_set xs i (series_with y.labels ps)) ≡ names_of xs
names_set [] i y ps e = refl
names_set (x ∷ xs) zero y ps e = ap (λ (s : ResultSeries). s.labels ∷ names_of xs) e
names_set (x ∷ xs) (suc i) y ps e = ap (λ (r : List Names). x.labels ∷ r) (names_set xs i y ps e)

-- labels that are apart from those at a place
pub apart_at : (names own : Names) (labels : List Names) (i : ℕ) → AllByRecursion (λ y. labels_eq names y ≡ false) labels → slice_get labels i ≡ Some own → labels_eq names own ≡ false
apart_at names own [] i a h = absurd (cc)
apart_at names own (l ∷ labels) zero a h = let same : l ≡ own = cc in subst (λ (z : Names). labels_eq names z ≡ false) same a.0
apart_at names own (l ∷ labels) (suc i) a h = apart_at names own labels i a.1 h

apart_from : (q x y : Names) → is_at (labels_cmp q) x ≡ true → labels_eq x y ≡ false → is_at (labels_cmp q) y ≡ false
apart_from q x y h k = labels_eq_at q y ∙ labels_eq_equivalence.congr q x y (sym (labels_eq_at q x) ∙ h) ∙ k

module _ (q own : Names) (p : Point) where
  abbrev one : Bool → List Point
  one b = values_of (cond b ((own, p) ∷ []) [])

  at_head : (b : Bool) (ps rest : List Point) → (if b then ps ++ p ∷ [] else rest) ≡ (if b then ps else rest) ++ one b
  at_head true ps rest = refl
  at_head false ps rest = sym (append-nil rest)

  pub point_set : (xs : List ResultSeries) (i : ℕ) (y : ResultSeries) → IsDistinct labels_eq (names_of xs) → slice_get (names_of xs) i ≡ Some own → y ≡ get_or xs i y
      → points_under q (slice_set xs i (series_with y.labels (y.points ++ p ∷ []))) ≡ points_under q xs ++ items_of ((own, p) ∷ []) q
  unfolding IsDistinct
  point_set [] i y d h e = absurd (cc)
  point_set (x ∷ xs) zero y d h e =
      let same : x.labels ≡ own = cc in
      ap (λ (s : ResultSeries). points_under q (series_with s.labels (s.points ++ p ∷ []) ∷ xs)) e
      ∙ at_head (is_at (labels_cmp q) x.labels) x.points (points_under q xs)
      ∙ ap (λ (l : Names). points_under q (x ∷ xs) ++ one (is_at (labels_cmp q) l)) same
  point_set (x ∷ xs) (suc i) y d h e =
      elim (is_at (labels_cmp q) x.labels) as (λ b. is_at (labels_cmp q) x.labels ≡ b
      → (if b then x.points else points_under q (slice_set xs i (series_with y.labels (y.points ++ p ∷ [])))) ≡ (if b then x.points else points_under q xs) ++ one (is_at (labels_cmp q) own)) [
        | true ↦ λ k. sym (ap (λ (b : Bool). x.points ++ one b) (apart_from q x.labels own k (apart_at x.labels own (names_of xs) i d.0 h)) ∙ append-nil x.points)
        | false ↦ λ k. point_set xs i y d.1 h e
      ] refl

-- ---- one series more

pub under_room : (q l : Names) (xs : List ResultSeries) → points_under q (xs ++ series_with l [] ∷ []) ≡ points_under q xs
under_room q l [] = nothing (is_at (labels_cmp q) l)
  where
    nothing : (b : Bool) → cond {A = List Point} b [] [] ≡ []
    nothing true = refl
    nothing false = refl
under_room q l (x ∷ xs) = ap (λ (r : List Point). if is_at (labels_cmp q) x.labels then x.points else r) (under_room q l xs)

front_last : (front labels : List Names) (l : Names) → AreFront front labels → slice_get labels (length front) ≡ Some l → AreFront (front ++ l ∷ []) labels
front_last [] labels l a h zero n e = h ∙ e
front_last [] labels l a h (suc j) n e = absurd (cc)
front_last (x ∷ front) labels l a h zero n e = a zero n e
front_last (x ∷ front) [] l a h (suc j) n e = absurd (cc)
front_last (x ∷ front) (y ∷ labels) l a h (suc j) n e = front_last front labels l (λ k m f. a (suc k) m f) h j n e

pub count_names : (xs : List ResultSeries) → length (names_of xs) ≡ length xs
count_names [] = refl
count_names (x ∷ xs) = ap suc (count_names xs)

pub front_more : (xs : List ResultSeries) (labels : List Names) (l : Names) → AreFront (names_of xs) labels → slice_get labels (length xs) ≡ Some l → AreFront (names_of (xs ++ series_with l [] ∷ [])) labels
front_more xs labels l a h =
    subst (λ (ns : List Names). AreFront ns labels) (sym (map-append (λ (s : ResultSeries). s.labels) xs (series_with l [] ∷ [])))
    (front_last (names_of xs) labels l a (subst (λ (n : ℕ). slice_get labels n ≡ Some l) (sym (count_names xs)) h))

-- ---- the labels of the series among all that have places

pub front_all : (front labels : List Names) → AreFront front labels → length labels ≤ length front → front ≡ labels
front_all [] [] a l = refl
front_all [] (x ∷ labels) a l = absurd (omega arith)
front_all (n ∷ front) [] a l = let h : None ≡ Some n = a zero n refl in absurd (cc)
front_all (n ∷ front) (x ∷ labels) a l =
    let h : Some x ≡ Some n = a zero n refl in
    let rest : front ≡ labels = front_all front labels (λ k m f. a (suc k) m f) (omega arith) in
    cc

module _ (P : Names → Type 0) where
  front_holds : (front labels : List Names) → AreFront front labels → AllByRecursion P labels → AllByRecursion P front
  front_holds [] labels a h = tt
  front_holds (n ∷ front) [] a h = let e : None ≡ Some n = a zero n refl in absurd (cc)
  front_holds (n ∷ front) (x ∷ labels) a h =
      let e : Some x ≡ Some n = a zero n refl in
      let same : x ≡ n = cc in
      (subst P same h.0, front_holds front labels (λ k m f. a (suc k) m f) h.1)

pub front_distinct : (front labels : List Names) → AreFront front labels → IsDistinct labels_eq labels → IsDistinct labels_eq front
unfolding IsDistinct
front_distinct [] labels a d = tt
front_distinct (n ∷ front) [] a d = let e : None ≡ Some n = a zero n refl in absurd (cc)
front_distinct (n ∷ front) (x ∷ labels) a d =
    let e : Some x ≡ Some n = a zero n refl in
    let same : x ≡ n = cc in
    let rest : AreFront front labels = λ k m f. a (suc k) m f in
    (front_holds (λ y. labels_eq n y ≡ false) front labels rest (subst (λ (z : Names). AllByRecursion (λ y. labels_eq z y ≡ false) labels) same d.0), front_distinct front labels rest d.1)

-- ---- what is known of a result

pub of_ok : {A E : Type 0} (r : Result A E) (P Q : A → Type 0) → ((x : A) → P x → Q x) → IfOk r P → IfOk r Q
of_ok (Ok x) P Q f h = f x h
of_ok (Err e) P Q f h = tt

pub on_ok : {A E P Q : Type 0} (r : Result A E) → (P → Q) → OnOk r P → OnOk r Q
on_ok (Ok x) f h = f h
on_ok (Err e) f h = tt

pub get_is : {A : Type 0} (xs : List A) (i : ℕ) (x : A) → i < length xs → x ≡ get_or xs i x → slice_get xs i ≡ Some x
get_is [] i x l e = absurd (omega arith)
get_is (y ∷ xs) zero x l e = ap Some (sym e)
get_is (y ∷ xs) (suc i) x l e = get_is xs i x (omega arith) e
