-- The rows of the series that a selector chooses.
use Rattle.std.proofs.Common.{◌≡◌, ◌∙◌, ℕ, zero, suc, ◌<◌, ◌≤◌, ◌^◌, arith, length, get_or, Bool, true, false, cond, List, [], ◌∷◌, map, Option, Some, None, refl, sym, ap, subst}
use Rattle.std.specs.Prelude.{ℤ, pos, negsuc, neg_ℤ, ◌≤ℤ◌, ◌-ℤ◌, ◌&&◌, int_le, unsigned_abs, unwrap_or, Result, Ok, Err, slice_get, ⊤}
use Rattle.std.specs.List.{AllByRecursion, cons_option, filter_map, last_or}
use Rattle.std.specs.List.Sorted.{IsStrictlySortedBy}
use Rattle.std.specs.Map.{keys_of}
use Rattle.std.specs.Option.{option_and_then, option_map}
use Rattle.std.specs.Result.{result_ok}
use Rattle.std.specs.declared.cmp.Ordering.TheVariants.{Less}
use Rattle.std.proofs.lemmas.Cmp.{tied_itself}
use Rattle.std.proofs.lemmas.Int.{ints}
use Rattle.std.proofs.lemmas.List.Elements.{All-contains_itself, recursion_from_All}
use Rattle.label_set.specs.LabelOrder.{labels_cmp_total}
use Rattle.label_set.specs.Labels.{labels_cmp}
use Rattle.label_set.specs.declared.rules.Rule.{Rule}
use Rattle.logical_plan.specs.Lowering.{planned}
use Rattle.logical_plan.specs.PlanFolds.{of-Select}
use Rattle.logical_plan.specs.PlanMeaning.{Meant, node_meant, plan_meant}
use Rattle.logical_plan.specs.PlanRules.{newest_of, time_outcome}
use Rattle.logical_plan.specs.declared.nodes.Plan.{Plan}
use Rattle.logical_plan.specs.declared.nodes.PlanNode.{PlanNode}
use Rattle.logical_plan.specs.declared.nodes.PlanNode.TheVariants as node
use Rattle.logical_plan.specs.declared.nodes.PlanNode.TheOpen.{PlanNode-F}
use Rattle.op_select.specs.Newest.{AreOnce, entry_told, selected, told}
use Rattle.promql_ast.specs.declared.tree.Moment.{Moment}
use Rattle.promql_meaning.specs.Givens.{no_marks, unstamped}
use Rattle.promql_meaning.specs.Selecting.{AllSeries, Asked, Samples, between, fresh, fresh_sample, lookback, newest, newest_row, newest_rows}
use Rattle.promql_meaning.specs.WalkMoments.{IsMomentOf, WalkMomentIsMoment}
use Rattle.promql_meaning.specs.declared.given.Given.TheVariants as given
use Rattle.promql_meaning.specs.declared.given.Stamped.{Stamped}
use Rattle.sample_store.specs.Samples.{IsSelected, chosen, labels_at}
use Rattle.series_marks.specs.Reaches.{AreThere, numbered}
use Rattle.step_batch.specs.Laws.{SortedRowsAreTables}
use Rattle.step_batch.specs.Lent.{row_of, step_of}
use Rattle.step_batch.specs.Tables.{in_order}
use Rattle.step_table.specs.Gathering.{nothing_more}
use Rattle.step_table.specs.Groups.{Names}
use Rattle.step_table.specs.Operators.{some_value}
use Rattle.step_table.specs.Outcomes.{mark_of}
use Rattle.step_table.specs.Outcomes as outcomes
use Rattle.step_table.specs.Sets.{step_of_rows}
use Rattle.step_table.specs.Unions.{with_fatal}
use Rattle.step_table.specs.declared.step.Row.{Row}
use Rattle.ticks.specs.Edges.{is_from}
use Rattle.ticks.specs.Walks.{HasTimes, moment_at}
use Rattle.ticks.specs.declared.moment.Ms.{Ms}
use Rattle.ticks.specs.declared.walk.WalkMoment.{WalkMoment}
use Rattle.window_fn.specs.NumberLaws.{SecondsAreNumbers}
use Rattle.xfrac.specs.Fractions.{lowest}
use Rattle.window_fn.specs.Points.{in_seconds, milliseconds}
use Rattle.xfrac.specs.declared.value.Held.{Held}
use Rattle.xfrac.specs.declared.value.NumFault.{NumFault}
use Rattle.xfrac.specs.declared.value.XFrac.{XFrac}
use Rattle.xfrac.specs.declared.value.XFrac.TheVariants.{Fin}
use Rattle.plan_parts.specs.Gives.{Gives}

-- ---- what is made of items in the order of labels stays in it

module _ {A B : Type 0} (of : A → Names) (under : B → Names) (make : A → Option B) where
  abbrev Under : Option B → Names → Type 0
  Under None names = ⊤
  Under (Some b) names = under b ≡ names

  module _ (same : (a : A) → Under (make a) (of a)) where
    made_all : (P : Names → Type 0) (xs : List A) → AllByRecursion P (map of xs) → AllByRecursion P (map under (filter_map make xs))
    made_all P [] a = tt
    made_all P (x ∷ xs) a = one (make x) (same x) (made_all P xs a.1)
      where
        one : (o : Option B) → Under o (of x) → AllByRecursion P (map under (filter_map make xs)) → AllByRecursion P (map under (cons_option o (filter_map make xs)))
        one None u rest = rest
        one (Some b) u rest = (subst P (sym u) a.0, rest)

    made_sorted : (xs : List A) → IsStrictlySortedBy labels_cmp (map of xs) → IsStrictlySortedBy labels_cmp (map under (filter_map make xs))
    unfolding IsStrictlySortedBy
    made_sorted [] s = tt
    made_sorted (x ∷ xs) s = one (make x) (same x) (made_all (λ z. labels_cmp (of x) z ≡ Less) xs s.0) (made_sorted xs s.1)
      where
        one : (o : Option B) → Under o (of x) → AllByRecursion (λ z. labels_cmp (of x) z ≡ Less) (map under (filter_map make xs)) → IsStrictlySortedBy labels_cmp (map under (filter_map make xs))
            → IsStrictlySortedBy labels_cmp (map under (cons_option o (filter_map make xs)))
        one None u first rest = rest
        one (Some b) u first rest = (subst (λ (n : Names). AllByRecursion (λ z. labels_cmp n z ≡ Less) (map under (filter_map make xs))) (sym u) first, rest)

abbrev labels_in : Stamped → Names
labels_in row = row.labels

newest_under : (closed : Bool) (m : ℤ) (series : Names × Samples) → Under (λ (e : Names × Samples). e.0) labels_in (newest_row closed m) (newest_row closed m series) series.0
newest_under closed m series = one (newest closed m series.1)
  where
    one : (o : Option (Ms × XFrac)) → Under (λ (e : Names × Samples). e.0) labels_in (newest_row closed m) (option_map (λ (s : Ms × XFrac). record { labels = series.0; at = s.0; value = s.1 }) o) series.0
    one None = tt
    one (Some s) = refl

entry_under_labels : (stamped : Bool) (row : Stamped) → Under labels_in (λ (e : Names × XFrac). e.0) (entry_told stamped) (entry_told stamped row) row.labels
entry_under_labels stamped row = one (told stamped (row.at, row.value))
  where
    one : (o : Option XFrac) → Under labels_in (λ (e : Names × XFrac). e.0) (entry_told stamped) (option_map (λ (v : XFrac). (row.labels, v)) o) row.labels
    one None = tt
    one (Some v) = refl

-- the entries of the newest rows of series are in the order of labels, where these are
entries_sorted : (stamped closed : Bool) (m : ℤ) (series : AllSeries) → IsStrictlySortedBy labels_cmp (keys_of series) → IsStrictlySortedBy labels_cmp (keys_of (filter_map (entry_told stamped) (newest_rows closed m series)))
entries_sorted stamped closed m series s =
    made_sorted labels_in (λ (e : Names × XFrac). e.0) (entry_told stamped) (entry_under_labels stamped) (newest_rows closed m series)
    (made_sorted (λ (e : Names × Samples). e.0) labels_in (newest_row closed m) (newest_under closed m) series s)

-- ---- times of samples

abbrev Holds : {A : Type 0} → (A → Type 0) → Option A → Type 0
Holds P None = ⊤
Holds P (Some a) = P a

-- a time whose seconds are a number
abbrev HasSeconds : Stamped → Type 0
HasSeconds row = (v : XFrac) × (in_seconds (milliseconds row.at.0) ≡ Ok v)

between_all : (closed : Bool) (edge m : ℤ) (samples : Samples) → AllByRecursion (λ (s : Ms × Held). (edge ≤ℤ s.0.0) × (s.0.0 ≤ℤ m)) (between closed edge m samples)
between_all closed edge m [] = tt
between_all closed edge m (s ∷ samples) = one (is_from closed edge s.0.0) refl (int_le s.0.0 m) refl (between_all closed edge m samples)
  where
    from_edge : (closed : Bool) → is_from closed edge s.0.0 ≡ true → edge ≤ℤ s.0.0
    from_edge true h = grind (arith, ints, h)
    from_edge false h = grind (arith, ints, h)

    one : (a : Bool) → is_from closed edge s.0.0 ≡ a → (b : Bool) → int_le s.0.0 m ≡ b → AllByRecursion (λ (x : Ms × Held). (edge ≤ℤ x.0.0) × (x.0.0 ≤ℤ m)) (between closed edge m samples)
        → AllByRecursion (λ (x : Ms × Held). (edge ≤ℤ x.0.0) × (x.0.0 ≤ℤ m)) (cond (a && b) (s ∷ between closed edge m samples) (between closed edge m samples))
    one true p true q rest = ((from_edge closed p, grind (arith, ints, q)), rest)
    one true p false q rest = rest
    one false p b q rest = rest

last_of_all : {A : Type 0} (P : A → Type 0) (o : Option A) (xs : List A) → Holds P o → AllByRecursion P xs → Holds P (last_or o xs)
last_of_all P o [] h a = h
last_of_all P o (x ∷ xs) h a = last_of_all P (Some x) xs a.0 a.1

abbrev IsRecent : ℤ → Ms → Type 0
IsRecent m at = ((m -ℤ lookback) ≤ℤ at.0) × (at.0 ≤ℤ m)

newest_recent : (closed : Bool) (m : ℤ) (samples : Samples) → Holds (λ (s : Ms × XFrac). IsRecent m s.0) (newest closed m samples)
newest_recent closed m samples = by (last_or None (between closed (m -ℤ lookback) m samples)) (last_of_all (λ (s : Ms × Held). IsRecent m s.0) None (between closed (m -ℤ lookback) m samples) tt (between_all closed (m -ℤ lookback) m samples))
  where
    by : (o : Option (Ms × Held)) → Holds (λ (s : Ms × Held). IsRecent m s.0) o → Holds (λ (s : Ms × XFrac). IsRecent m s.0) (option_and_then fresh_sample o)
    by None h = tt
    by (Some s) h = one (fresh s.1)
      where
        one : (v : Option XFrac) → Holds (λ (x : Ms × XFrac). IsRecent m x.0) (option_map (λ (value : XFrac). (s.0, value)) v)
        one None = tt
        one (Some v) = h

rows_recent : (closed : Bool) (m : ℤ) (series : AllSeries) → AllByRecursion (λ (row : Stamped). IsRecent m row.at) (newest_rows closed m series)
rows_recent closed m [] = tt
rows_recent closed m (e ∷ series) = by (newest closed m e.1) (newest_recent closed m e.1) (rows_recent closed m series)
  where
    by : (o : Option (Ms × XFrac)) → Holds (λ (s : Ms × XFrac). IsRecent m s.0) o → AllByRecursion (λ (row : Stamped). IsRecent m row.at) (newest_rows closed m series)
        → AllByRecursion (λ (row : Stamped). IsRecent m row.at) (cons_option (option_map (λ (s : Ms × XFrac). record { labels = e.0; at = s.0; value = s.1 }) o) (newest_rows closed m series))
    by None h rest = rest
    by (Some s) h rest = (h, rest)

within_abs : (t : ℤ) (n : ℕ) → neg_ℤ (pos n) ≤ℤ t → t ≤ℤ pos n → unsigned_abs t ≤ n
within_abs (pos a) n l h = grind (arith, ints, h)
within_abs (negsuc a) n l h = grind (arith, ints, l)

recent_seconds : SecondsAreNumbers → (m : ℤ) → HasTimes m lookback → (row : Stamped) → IsRecent m row.at → HasSeconds row
recent_seconds law m times row r =
    let low : neg_ℤ (pos (2 ^ 60)) ≤ℤ row.at.0 = grind (arith, ints, times.begins.low, r.0) in
    let high : row.at.0 ≤ℤ pos (2 ^ 60) = grind (arith, ints, times.ends.high, r.1) in
    let few : unsigned_abs row.at.0 ≤ 2 ^ 60 = within_abs row.at.0 (2 ^ 60) low high in
    (Fin (lowest row.at.0 1000), (law row.at.0 (omega (arith, few))).0)

-- ---- the step

plain_rows : (rows : List Stamped) → map row_of (filter_map (entry_told false) rows) ≡ map unstamped rows
plain_rows [] = refl
plain_rows (row ∷ rows) = ap (λ (rs : List Row). unstamped row ∷ rs) (plain_rows rows)

stamped_rows : (rows : List Stamped) → map row_of (filter_map (entry_told true) rows) ≡ filter_map outcomes.row_of (map time_outcome rows)
stamped_rows [] = refl
stamped_rows (row ∷ rows) = by (in_seconds (milliseconds row.at.0)) (stamped_rows rows)
  where
    by : (r : Result XFrac NumFault) → map row_of (filter_map (entry_told true) rows) ≡ filter_map outcomes.row_of (map time_outcome rows)
        → map row_of (cons_option (option_map (λ (v : XFrac). (row.labels, v)) (result_ok r)) (filter_map (entry_told true) rows))
        ≡ cons_option (outcomes.made_of_value (λ (v : XFrac). record { labels = row.labels; value = v }) (some_value r)) (filter_map outcomes.row_of (map time_outcome rows))
    by (Ok v) rest = ap (λ (rs : List Row). record { labels = row.labels; value = v } ∷ rs) rest
    by (Err f) rest = rest

no_faults : SecondsAreNumbers → (m : ℤ) → HasTimes m lookback → (rows : List Stamped) → AllByRecursion (λ (row : Stamped). IsRecent m row.at) rows → filter_map mark_of (map time_outcome rows) ≡ []
no_faults law m times [] a = refl
no_faults law m times (row ∷ rows) a = let k = recent_seconds law m times row a.0 in by (in_seconds (milliseconds row.at.0)) k.0 k.1 (no_faults law m times rows a.1)
  where
    by : (r : Result XFrac NumFault) (v : XFrac) → r ≡ Ok v → filter_map mark_of (map time_outcome rows) ≡ [] → cons_option (outcomes.mark_of_value (some_value r)) (filter_map mark_of (map time_outcome rows)) ≡ []
    by (Ok w) v e rest = rest
    by (Err f) v e rest = absurd (cc)

rows_are : SortedRowsAreTables → SecondsAreNumbers → (stamped closed : Bool) (m : ℤ) (series : AllSeries) → IsStrictlySortedBy labels_cmp (keys_of series) → HasTimes m lookback
    → step_of (filter_map (entry_told stamped) (newest_rows closed m series)) no_marks ≡ newest_of stamped (newest_rows closed m series)
rows_are sorted law false closed m series s times =
    ap (λ (rs : List Row). step_of_rows rs no_marks) (ap (map row_of) (sorted (filter_map (entry_told false) (newest_rows closed m series)) (entries_sorted false closed m series s)) ∙ plain_rows (newest_rows closed m series))
rows_are sorted law true closed m series s times =
    let rows : List Stamped = newest_rows closed m series in
    let made : map row_of (in_order (filter_map (entry_told true) rows)) ≡ filter_map outcomes.row_of (map time_outcome rows) =
    ap (map row_of) (sorted (filter_map (entry_told true) rows) (entries_sorted true closed m series s)) ∙ stamped_rows rows in
    let none : no_marks ≡ with_fatal no_marks (filter_map mark_of (map time_outcome rows)) =
    sym (nothing_more no_marks) ∙ ap (with_fatal no_marks) (sym (no_faults law m times rows (rows_recent closed m series))) in
    λ j. record { table = record { rows = made j }; marks = none j }

-- ---- the series that are chosen

-- a number that is there has its series
there : {A : Type 0} (xs : List A) (k : ℕ) → k < length xs → slice_get xs k ≡ None → ⊥
there [] k h is = omega (arith, h)
there (x ∷ xs) zero h is = cc
there (x ∷ xs) (suc k) h is = there xs k (let l : k < length xs = omega (arith, h) in l) is

pub chosen_there : (kept : List (Bool × List ℕ)) (rules : List Rule) (store : AllSeries) (series : List ℕ) → IsSelected kept rules store series → AreThere store series
chosen_there kept rules store series selected =
    recursion_from_All (λ (n : ℕ). n < length store) series (λ k d w. ((selected.exact (get_or series k d)).0 (All-contains_itself series k d w)).0)

pub chosen_once : (store : AllSeries) (series : List ℕ) → IsStrictlySortedBy labels_cmp (map (labels_at store) series) → AreOnce series
unfolding IsStrictlySortedBy
chosen_once store [] s = tt
chosen_once store (n ∷ series) s = (apart series s.0, chosen_once store series s.1)
  where
    apart : (others : List ℕ) → AllByRecursion (λ z. labels_cmp (labels_at store n) z ≡ Less) (map (labels_at store) others) → AllByRecursion (λ (u : ℕ). n ≡ u → ⊥) others
    apart [] a = tt
    apart (u ∷ others) a = (
      λ e. let same : labels_cmp (labels_at store n) (labels_at store n) ≡ Less = ap (λ (k : ℕ). labels_cmp (labels_at store n) (labels_at store k)) e ∙ a.0 in
          let tied = tied_itself labels_cmp_total (labels_at store n) in absurd (cc),
      apart others a.1,
    )

keys_chosen : (store : AllSeries) (series : List ℕ) → AreThere store series → keys_of (numbered store series) ≡ map (labels_at store) series
keys_chosen store [] a = refl
keys_chosen store (n ∷ series) a = by (slice_get store n) refl (keys_chosen store series a.1)
  where
    by : (o : Option (Names × Samples)) → slice_get store n ≡ o → keys_of (numbered store series) ≡ map (labels_at store) series
        → keys_of (cons_option o (numbered store series)) ≡ unwrap_or (option_map (λ (one : Names × Samples). one.0) o) [] ∷ map (labels_at store) series
    by None is rest = absurd (there store n a.0 is)
    by (Some one) is rest = ap (λ (ns : List Names). one.0 ∷ ns) rest

-- ---- a selector

-- what a selector is made over: the numbers of the series that its rules choose, and a moment that is its own
pub record IsChosen (asked : Asked) (rules : List Rule) (moment : Moment) (series : List ℕ) (walk : WalkMoment) : Type 0 where
  pub selected : IsSelected asked.kept rules asked.samples series
  pub these : numbered asked.samples series ≡ chosen asked.kept rules asked.samples
  pub timed : IsMomentOf asked moment walk
  pub closed : walk.closed ≡ moment.closed

pub select_gives : SortedRowsAreTables → SecondsAreNumbers → WalkMomentIsMoment → (asked : Asked) (On : ℤ → Type 0) (p : Plan) (rules : List Rule) (moment : Moment) (stamped : Bool) (series : List ℕ) (walk : WalkMoment)
    → IsChosen asked rules moment series walk → ((t : ℤ) → On t → HasTimes (moment_at walk t) lookback) → p.node ≡ node.Select rules moment stamped
    → Gives asked On p false stamped (λ t. (selected asked.samples series walk stamped (record { 0 = t })).step)
select_gives sorted law moments asked On p rules moment stamped series walk c times e =
    let same : plan_meant asked p ≡ node_meant asked (PlanNode-F.Select rules moment stamped) = ap (λ (n : PlanNode). plan_meant asked (planned p.at n)) e ∙ of-Select (node_meant asked) (λ q. q.node) p.at rules moment stamped in
    let keys = subst (IsStrictlySortedBy labels_cmp) (sym (keys_chosen asked.samples series (chosen_there asked.kept rules asked.samples series c.selected))) c.selected.rising in
    record {
      stamped = ap (λ (m : Meant). m.own) same;
      gives = λ t w. ap (λ (m : Meant). m.gives t) same
          ∙ ap given.Vector ((λ j. newest_of stamped (newest_rows (sym c.closed j) (sym (moments asked moment walk t c.timed) j) (sym c.these j)))
          ∙ sym (rows_are sorted law stamped walk.closed (moment_at walk t) (numbered asked.samples series) keys (times t w)));
    }
