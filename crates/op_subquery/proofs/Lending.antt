-- What is lent is what the meaning has.
use Rattle.std.proofs.Common.{◌≡◌, ◌∙◌, Bool, true, false, cond, List, [], ◌∷◌, ◌++◌, map, refl, sym, ap, arith, append-nil, Option, None, Some}
use Rattle.std.specs.Prelude.{◌||◌, ◌&&◌, ℤ, ◌<ℤ◌, ◌≤ℤ◌, int_le, int_lt, filter, if◌then◌else◌}
use Rattle.std.specs.BTreeMap.{is_at}
use Rattle.std.specs.List.{AllByRecursion, cons_option, filter_map, list_any}
use Rattle.std.proofs.lemmas.Int.{ints}
use Rattle.label_set.specs.LabelEquality.{labels_eq}
use Rattle.label_set.specs.LabelOrder.{labels_eq_at}
use Rattle.label_set.specs.Labels.{labels_cmp}
use Rattle.promql_meaning.specs.Selecting.{window_row}
use Rattle.promql_meaning.specs.Subqueries.{gathered_windows, group_window}
use Rattle.step_batch.specs.Columns.{columns_behind}
use Rattle.step_batch.specs.LentWindows.{AreWindows, behind}
use Rattle.step_table.specs.Alike.{any_name, has_some}
use Rattle.step_table.specs.Groups.{Names, gathered, items_of, names_among}
use Rattle.step_table.specs.Timed.{StepAt}
use Rattle.step_table.specs.declared.windows.WindowRow.{WindowRow}
use Rattle.ticks.specs.Listed.{AreRising}
use Rattle.ticks.specs.declared.moment.Ms.{Ms}
use Rattle.xfrac.specs.declared.value.XFrac.{XFrac}
use Rattle.op_subquery.specs.Kept.{AreWindowsOf, columns_of, due, instants_of, later, samples_under, steps_in}
use Rattle.op_subquery.specs.declared.span.Span.{Span}
use Rattle.op_subquery.specs.Rings.{IsGone, IsNoEarlier, IsReached}
use Rattle.op_subquery.proofs.Items.{columns_later}
use Rattle.op_subquery.proofs.Under.{labels_same, under_behind}

-- ---- the meaning's windows

module _ (q : Names) (items : List (Names × (Ms × XFrac))) where
  row_under : (n : Names) (samples : List (Ms × XFrac)) (rest : List WindowRow) → (has_some samples ≡ false → labels_eq q n ≡ true → samples_under q rest ≡ record { times = []; values = [] })
      → samples_under q (cons_option (window_row n samples) rest) ≡ (if labels_eq q n then columns_of samples else samples_under q rest)
  row_under n [] rest h =
      elim (labels_eq q n) as (λ b. labels_eq q n ≡ b → samples_under q rest ≡ (if b then columns_of [] else samples_under q rest)) [ true ↦ λ k. h refl k | false ↦ λ k. refl ] refl
  row_under n (s ∷ samples) rest h = refl

  -- the windows with some of the names
  under_names : (names : List Names) → samples_under q (filter_map group_window (map (λ (n : Names). (n, items_of items n)) names)) ≡ (if list_any (is_at (labels_cmp q)) names then columns_of (items_of items q) else record { times = []; values = [] })
  under_names [] = refl
  under_names (n ∷ names) =
      let rest = filter_map group_window (map (λ (m : Names). (m, items_of items m)) names) in
      row_under n (items_of items n) rest (λ h k. under_names names ∙ empty n names h k)
      ∙ elim (is_at (labels_cmp q) n) as (λ b. is_at (labels_cmp q) n ≡ b → (if labels_eq q n then columns_of (items_of items n) else samples_under q rest) ≡ (if b || list_any (is_at (labels_cmp q)) names then columns_of (items_of items q) else record { times = []; values = [] })) [
        | true ↦ λ h. let e : labels_eq q n ≡ true = sym (labels_eq_at q n) ∙ h in rw e (ap (λ (m : Names). columns_of (items_of items m)) (sym (labels_same q n e)))
        | false ↦ λ h. let e : labels_eq q n ≡ false = sym (labels_eq_at q n) ∙ h in rw e (under_names names)
      ] refl
    where
      nothing : (samples : List (Ms × XFrac)) → has_some samples ≡ false → columns_of samples ≡ record { times = []; values = [] }
      nothing [] h = refl
      nothing (s ∷ samples) h = absurd (cc)

      empty : (n : Names) (names : List Names) → has_some (items_of items n) ≡ false → labels_eq q n ≡ true → (if list_any (is_at (labels_cmp q)) names then columns_of (items_of items q) else record { times = []; values = [] }) ≡ record { times = []; values = [] }
      empty n names h k =
          let same : items_of items n ≡ items_of items q = ap (items_of items) (sym (labels_same q n k)) in
          let none : columns_of (items_of items q) ≡ record { times = []; values = [] } = nothing (items_of items q) (ap has_some (sym same) ∙ h) in
          elim (list_any (is_at (labels_cmp q)) names) as (λ b. (if b then columns_of (items_of items q) else record { times = []; values = [] }) ≡ record { times = []; values = [] }) [ true ↦ none | false ↦ refl ]

  pub meant_under : samples_under q (gathered_windows items) ≡ columns_of (items_of items q)
  unfolding gathered
  meant_under = under_names (names_among items) ∙ ap (λ b. if b then columns_of (items_of items q) else record { times = []; values = [] }) (any_name items q) ∙ all_or_none (items_of items q)
    where
      all_or_none : (samples : List (Ms × XFrac)) → (if has_some samples then columns_of samples else record { times = []; values = [] }) ≡ columns_of samples
      all_or_none [] = refl
      all_or_none (s ∷ samples) = refl

-- ---- windows that go on

pub windows_later : (edge : ℤ) (rows : List WindowRow) (held : List StepAt) → AreWindows rows → AreRising (instants_of held) → AreWindowsOf rows held → AreWindowsOf (behind edge rows) (later edge held)
windows_later edge rows held are r is = λ q. under_behind edge q rows are.distinct are.each ∙ ap (columns_behind edge) (is q) ∙ columns_later edge q held r

pub parts : (edge : ℤ) (held : List StepAt) → held ≡ due edge held ++ later edge held
parts edge [] = refl
parts edge (s ∷ held) = elim (int_lt edge s.at.0) as (λ b. s ∷ held ≡ (if b then [] else s ∷ due edge held) ++ (if b then s ∷ held else later edge held)) [ true ↦ refl | false ↦ ap (λ (z : List StepAt). s ∷ z) (parts edge held) ]

-- ---- the front and the back of steps that rise

pub front_rises : (xs ys : List StepAt) → AreRising (instants_of (xs ++ ys)) → AreRising (instants_of xs)
front_rises [] ys r = tt
front_rises (x ∷ xs) ys r = (front xs r.0, front_rises xs ys r.1)
  where
    front : (more : List StepAt) → AllByRecursion (λ (u : Ms). x.at.0 <ℤ u.0) (instants_of (more ++ ys)) → AllByRecursion (λ (u : Ms). x.at.0 <ℤ u.0) (instants_of more)
    front [] a = tt
    front (m ∷ more) a = (a.0, front more a.1)

pub back_rises : (xs ys : List StepAt) → AreRising (instants_of (xs ++ ys)) → AreRising (instants_of ys)
back_rises [] ys r = r
back_rises (x ∷ xs) ys r = back_rises xs ys r.1

abbrev pub IsIn : ℤ → ℤ → StepAt → Type 0
IsIn edge m s = (edge <ℤ s.at.0) × (s.at.0 ≤ℤ m)

all_later : (m : ℤ) (steps : List StepAt) → AreRising (instants_of steps) → AllByRecursion (λ (s : StepAt). m <ℤ s.at.0) (later m steps)
all_later m [] r = tt
all_later m (s ∷ steps) r =
    elim (int_lt m s.at.0) as (λ b. int_lt m s.at.0 ≡ b → AllByRecursion (λ (t : StepAt). m <ℤ t.at.0) (if b then s ∷ steps else later m steps)) [
      | true ↦ λ h. let here : m <ℤ s.at.0 = grind (arith, ints, h) in (here, behind_it steps here r.0)
      | false ↦ λ h. all_later m steps r.1
    ] refl
  where
    behind_it : (more : List StepAt) → m <ℤ s.at.0 → AllByRecursion (λ (u : Ms). s.at.0 <ℤ u.0) (instants_of more) → AllByRecursion (λ (t : StepAt). m <ℤ t.at.0) more
    behind_it [] here a = tt
    behind_it (t ∷ more) here a = let l = a.0 in (omega (arith, ints, here, l), behind_it more here a.1)

pub all_due : (m : ℤ) (steps : List StepAt) → AllByRecursion (λ (s : StepAt). s.at.0 ≤ℤ m) (due m steps)
all_due m [] = tt
all_due m (s ∷ steps) =
    elim (int_lt m s.at.0) as (λ b. int_lt m s.at.0 ≡ b → AllByRecursion (λ (t : StepAt). t.at.0 ≤ℤ m) (if b then [] else s ∷ due m steps)) [ true ↦ λ h. tt | false ↦ λ h. (grind (arith, ints, h), all_due m steps) ] refl

-- what holds of steps holds of those that stay
pub later_all : (P : StepAt → Type 0) (m : ℤ) (steps : List StepAt) → AllByRecursion P steps → AllByRecursion P (later m steps)
later_all P m [] a = tt
later_all P m (s ∷ steps) a = elim (int_lt m s.at.0) as (λ b. AllByRecursion P (if b then s ∷ steps else later m steps)) [ true ↦ a | false ↦ later_all P m steps a.1 ]

filter_append : (p : StepAt → Bool) (xs ys : List StepAt) → filter p (xs ++ ys) ≡ filter p xs ++ filter p ys
filter_append p [] ys = refl
filter_append p (x ∷ xs) ys = elim (p x) as (λ b. cond b (x ∷ filter p (xs ++ ys)) (filter p (xs ++ ys)) ≡ cond b (x ∷ filter p xs) (filter p xs) ++ filter p ys) [ true ↦ ap (λ r. x ∷ r) (filter_append p xs ys) | false ↦ filter_append p xs ys ]

module _ (edge m : ℤ) where
  none_early : (steps : List StepAt) → AllByRecursion (λ (s : StepAt). s.at.0 ≤ℤ edge) steps → steps_in edge m steps ≡ []
  none_early [] a = refl
  none_early (s ∷ steps) a = let h = a.0 in let f : int_lt edge s.at.0 ≡ false = grind (arith, ints, h) in rw f (none_early steps a.1)

  none_late : (steps : List StepAt) → AllByRecursion (λ (s : StepAt). m <ℤ s.at.0) steps → steps_in edge m steps ≡ []
  none_late [] a = refl
  none_late (s ∷ steps) a =
      let h = a.0 in
      let f : int_le s.at.0 m ≡ false = grind (arith, ints, h) in
      elim (int_lt edge s.at.0) as (λ b. cond (b && int_le s.at.0 m) (s ∷ steps_in edge m steps) (steps_in edge m steps) ≡ []) [ true ↦ rw f (none_late steps a.1) | false ↦ none_late steps a.1 ]

  all_in : (steps : List StepAt) → AllByRecursion (λ (s : StepAt). edge <ℤ s.at.0) steps → AllByRecursion (λ (s : StepAt). s.at.0 ≤ℤ m) steps → steps_in edge m steps ≡ steps
  all_in [] a b = refl
  all_in (s ∷ steps) a b =
      let h = a.0 in
      let k = b.0 in
      let f : int_lt edge s.at.0 ≡ true = grind (arith, ints, h) in
      let g : int_le s.at.0 m ≡ true = grind (arith, ints, k) in
      rw f (rw g (ap (λ r. s ∷ r) (all_in steps a.1 b.1)))

  -- of steps that are gone, of those that are held and of those to come the window has the held ones behind its edge
  pub in_window : (gone held coming : List StepAt) → AllByRecursion (λ (s : StepAt). s.at.0 ≤ℤ edge) gone → AllByRecursion (λ (s : StepAt). s.at.0 ≤ℤ m) held → AreRising (instants_of held) → AllByRecursion (λ (s : StepAt). m <ℤ s.at.0) coming
      → later edge held ≡ steps_in edge m (gone ++ (held ++ coming))
  in_window gone held coming g h r c =
      let p : StepAt → Bool = λ (s : StepAt). int_lt edge s.at.0 && int_le s.at.0 m in
      let early : steps_in edge m (due edge held) ≡ [] = none_early (due edge held) (all_due edge held) in
      let stay : steps_in edge m (later edge held) ≡ later edge held = all_in (later edge held) (all_later edge held r) (later_all (λ (s : StepAt). s.at.0 ≤ℤ m) edge held h) in
      let of_held : steps_in edge m held ≡ later edge held = ap (steps_in edge m) (parts edge held) ∙ filter_append p (due edge held) (later edge held) ∙ ap (λ (z : List StepAt). z ++ steps_in edge m (later edge held)) early ∙ stay in
      sym (filter_append p gone (held ++ coming) ∙ ap (λ (z : List StepAt). z ++ steps_in edge m (held ++ coming)) (none_early gone g) ∙ filter_append p held coming
      ∙ ap (λ (z : List StepAt). steps_in edge m held ++ z) (none_late coming c) ∙ append-nil (steps_in edge m held) ∙ of_held)

pub coming_later : (m : ℤ) (held coming : List StepAt) → AreRising (instants_of (held ++ coming)) → AllByRecursion (λ (s : StepAt). m <ℤ s.at.0) (later m coming)
coming_later m held coming r = all_later m coming (back_rises held coming r)

-- ---- what was reached

pub gone_on : (old : Option Span) (span : Span) (steps : List StepAt) → IsNoEarlier old span → AllByRecursion (IsGone old) steps → AllByRecursion (λ (s : StepAt). s.at.0 ≤ℤ span.edge.0) steps
gone_on None span [] n a = tt
gone_on None span (s ∷ steps) n a = absurd a.0
gone_on (Some old) span [] n a = tt
gone_on (Some old) span (s ∷ steps) n a = let h = a.0 in let l = n.0 in (omega (arith, ints, h, l), gone_on (Some old) span steps n a.1)

pub reached_on : (old : Option Span) (span : Span) (steps : List StepAt) → IsNoEarlier old span → AllByRecursion (IsReached old) steps → AllByRecursion (λ (s : StepAt). s.at.0 ≤ℤ span.moment.0) steps
reached_on None span [] n a = tt
reached_on None span (s ∷ steps) n a = absurd a.0
reached_on (Some old) span [] n a = tt
reached_on (Some old) span (s ∷ steps) n a = let h = a.0 in let l = n.1 in (omega (arith, ints, h, l), reached_on (Some old) span steps n a.1)
