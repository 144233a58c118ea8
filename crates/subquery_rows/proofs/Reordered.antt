-- Windows that have the same samples under all labels are the same windows in another order.
use Rattle.std.proofs.Common.{◌≡◌, ◌∙◌, ◌<◌, true, false, cond, List, [], ◌∷◌, length, refl, sym, ap, subst, arith}
use Rattle.std.specs.Prelude.{filter, not, if◌then◌else◌, ⊤}
use Rattle.std.specs.List.{AllByRecursion, IsDistinct}
use Rattle.label_set.specs.Entries.{recursion_filter}
use Rattle.label_set.specs.LabelEquality.{labels_decide, labels_eq}
use Rattle.label_set.specs.LabelOrder.{labels_eq_equivalence}
use Rattle.op_subquery.specs.Kept.{samples_under}
use Rattle.step_batch.specs.Columns.{Columns}
use Rattle.step_batch.specs.LentWindows.{columns_in, names_of, window_of}
use Rattle.step_table.specs.Groups.{Names}
use Rattle.step_table.specs.Shuffles.{Shuffled, none, kept, swapped, joined}
use Rattle.step_table.specs.Shuffling.{itself}
use Rattle.step_table.specs.declared.windows.WindowRow.{WindowRow}

same : (ps qs : Names) → labels_eq ps qs ≡ true → ps ≡ qs
same ps qs e = (labels_decide ps qs (labels_eq ps qs) refl).0 e

itself_eq : (ps : Names) → labels_eq ps ps ≡ true
itself_eq ps = (labels_decide ps ps (labels_eq ps ps) refl).1 refl

-- ---- windows of which no two have equal labels, and each has a sample

abbrev pub AreApart : List WindowRow → Type 0
AreApart [] = ⊤
AreApart (w ∷ rows) = AllByRecursion (λ (v : WindowRow). labels_eq w.labels v.labels ≡ false) rows × AreApart rows

abbrev pub HasSample : WindowRow → Type 0
HasSample w = 0 < length w.times

named_apart : (q : Names) (rows : List WindowRow) → AllByRecursion (λ y. labels_eq q y ≡ false) (names_of rows) → AllByRecursion (λ (v : WindowRow). labels_eq q v.labels ≡ false) rows
named_apart q [] a = tt
named_apart q (w ∷ rows) a = (a.0, named_apart q rows a.1)

pub apart_of : (rows : List WindowRow) → IsDistinct labels_eq (names_of rows) → AreApart rows
unfolding IsDistinct
apart_of [] d = tt
apart_of (w ∷ rows) d = (named_apart w.labels rows d.0, apart_of rows d.1)

-- ---- the windows but for those with some labels

abbrev without : Names → List WindowRow → List WindowRow
without n rows = filter (λ (w : WindowRow). not (labels_eq n w.labels)) rows

apart_without : (n : Names) (rows : List WindowRow) → AreApart rows → AreApart (without n rows)
apart_without n [] a = tt
apart_without n (w ∷ rows) a =
    elim (labels_eq n w.labels) as (λ b. AreApart (cond (not b) (w ∷ without n rows) (without n rows))) [
      | true ↦ apart_without n rows a.1
      | false ↦ (recursion_filter (λ (v : WindowRow). labels_eq w.labels v.labels ≡ false) (λ (v : WindowRow). not (labels_eq n v.labels)) rows a.0, apart_without n rows a.1)
    ]

none_out : (n : Names) (rows : List WindowRow) → AllByRecursion (λ (v : WindowRow). labels_eq n v.labels ≡ false) rows → without n rows ≡ rows
none_out n [] a = refl
none_out n (w ∷ rows) a = rw a.0 (ap (λ (r : List WindowRow). w ∷ r) (none_out n rows a.1))

abbrev no_samples : Columns
no_samples = record { times = []; values = [] }

none_under : (q : Names) (rows : List WindowRow) → AllByRecursion (λ (v : WindowRow). labels_eq q v.labels ≡ false) rows → samples_under q rows ≡ no_samples
none_under q [] a = refl
none_under q (w ∷ rows) a = rw a.0 (none_under q rows a.1)

under_without : (q n : Names) (rows : List WindowRow) → samples_under q (without n rows) ≡ (if labels_eq q n then no_samples else samples_under q rows)
under_without q n [] = elim (labels_eq q n) as (λ b. no_samples ≡ (if b then no_samples else no_samples)) [ true ↦ refl | false ↦ refl ]
under_without q n (w ∷ rows) =
    elim (labels_eq n w.labels) as (λ b. labels_eq n w.labels ≡ b → samples_under q (cond (not b) (w ∷ without n rows) (without n rows)) ≡ (if labels_eq q n then no_samples else samples_under q (w ∷ rows))) [
      | true ↦ λ h.
          let rest = under_without q n rows in
          elim (labels_eq q n) as (λ c. labels_eq q n ≡ c → samples_under q (without n rows) ≡ (if c then no_samples else samples_under q rows) → samples_under q (without n rows) ≡ (if c then no_samples else samples_under q (w ∷ rows))) [
            | true ↦ λ k e. e
            | false ↦ λ k e. let no : labels_eq q w.labels ≡ false = ap (labels_eq q) (sym (same n w.labels h)) ∙ k in rw no e
          ] refl rest
      | false ↦ λ h.
          elim (labels_eq q w.labels) as (λ c. labels_eq q w.labels ≡ c → (if c then columns_in w else samples_under q (without n rows)) ≡ (if labels_eq q n then no_samples else (if c then columns_in w else samples_under q rows))) [
            | true ↦ λ k. let no : labels_eq q n ≡ false = labels_eq_equivalence.symm q n ∙ ap (labels_eq n) (same q w.labels k) ∙ h in rw no refl
            | false ↦ λ k. under_without q n rows
          ] refl
    ] refl

-- ---- one window is drawn to the front

drawn : (n : Names) (rows : List WindowRow) → AreApart rows → 0 < length (samples_under n rows).times → Shuffled (window_of (n, samples_under n rows) ∷ without n rows) rows
drawn n [] a h = absurd (omega (arith, h))
drawn n (w ∷ rows) a h =
    elim (labels_eq n w.labels) as (λ b. labels_eq n w.labels ≡ b → 0 < length (if b then columns_in w else samples_under n rows).times → Shuffled (window_of (n, if b then columns_in w else samples_under n rows) ∷ cond (not b) (w ∷ without n rows) (without n rows)) (w ∷ rows)) [
      | true ↦ λ e k.
          let front : window_of (n, columns_in w) ≡ w = ap (λ (m : Names). window_of (m, columns_in w)) (same n w.labels e) in
          let back : without n rows ≡ rows = none_out n rows (subst (λ (m : Names). AllByRecursion (λ (v : WindowRow). labels_eq m v.labels ≡ false) rows) (sym (same n w.labels e)) a.0) in
          subst (λ (x : WindowRow). Shuffled (x ∷ without n rows) (w ∷ rows)) (sym front) (subst (λ (r : List WindowRow). Shuffled (w ∷ r) (w ∷ rows)) (sym back) (itself (w ∷ rows)))
      | false ↦ λ e k.
          let x = window_of (n, samples_under n rows) in
          joined (x ∷ w ∷ without n rows) (w ∷ x ∷ without n rows) (w ∷ rows) (swapped x w (without n rows)) (kept w (x ∷ without n rows) rows (drawn n rows a.1 k))
    ] refl h

-- ---- all of them

pub reordered : (xs ys : List WindowRow) → AreApart xs → AreApart ys → AllByRecursion HasSample xs → AllByRecursion HasSample ys → ((q : Names) → samples_under q xs ≡ samples_under q ys) → Shuffled xs ys
reordered [] [] a b f g e = none
reordered [] (y ∷ ys) a b f g e =
    let here : samples_under y.labels (y ∷ ys) ≡ columns_in y = rw (itself_eq y.labels) refl in
    let empty : [] ≡ y.times = ap (λ (c : Columns). c.times) (e y.labels ∙ here) in
    absurd (let some : 0 < length y.times = g.0 in let n : 0 ≡ length y.times = ap length empty in omega (arith, some, n))
reordered (x ∷ xs) ys a b f g e =
    let n = x.labels in
    let here : samples_under n (x ∷ xs) ≡ columns_in x = rw (itself_eq n) refl in
    let there : samples_under n ys ≡ columns_in x = sym (e n) ∙ here in
    let some : 0 < length (samples_under n ys).times = subst (λ (c : Columns). 0 < length c.times) (sym there) f.0 in
    let front : Shuffled (x ∷ without n ys) ys = subst (λ (c : Columns). Shuffled (window_of (n, c) ∷ without n ys) ys) there (drawn n ys b some) in
    let rest : Shuffled xs (without n ys) = reordered xs (without n ys) a.1 (apart_without n ys b) f.1 (recursion_filter HasSample (λ (w : WindowRow). not (labels_eq n w.labels)) ys g) (others n ys a.0 e) in
    joined (x ∷ xs) (x ∷ without n ys) ys (kept x xs (without n ys) rest) front
  where
    others : (n : Names) (ys : List WindowRow) → AllByRecursion (λ (v : WindowRow). labels_eq n v.labels ≡ false) xs → ((q : Names) → (if labels_eq q n then columns_in x else samples_under q xs) ≡ samples_under q ys)
        → (q : Names) → samples_under q xs ≡ samples_under q (without n ys)
    others n ys apart e q =
        elim (labels_eq q n) as (λ c. labels_eq q n ≡ c → (if c then columns_in x else samples_under q xs) ≡ samples_under q ys → samples_under q xs ≡ (if c then no_samples else samples_under q ys)) [
          | true ↦ λ h k. none_under q xs (subst (λ (m : Names). AllByRecursion (λ (v : WindowRow). labels_eq m v.labels ≡ false) xs) (sym (same q n h)) apart)
          | false ↦ λ h k. k
        ] refl (e q) ∙ sym (under_without q n ys)
