-- What is made of each of some things that have labels, and of those of a part.
use Rattle.std.proofs.Common.{◌≡◌, ◌∙◌, Bool, true, false, List, [], ◌∷◌, map, refl, sym, ap, subst, Some, None}
use Rattle.std.specs.Prelude.{Option, Result, Ok, Err, filter, if◌then◌else◌}
use Rattle.std.specs.List.{AllByRecursion, cons_option, filter_map}
use Rattle.std.specs.Map.{keys_of}
use Rattle.xfrac.specs.declared.value.NumFault.{NumFault}
use Rattle.xfrac.specs.declared.value.XFrac.{XFrac}
use Rattle.step_table.specs.Groups.{Names, gathered, has_several, items_of, names_among, shared_names, shared_of}
use Rattle.step_table.specs.Outcomes.{keyed, row_of, settled, taken}
use Rattle.step_table.specs.declared.marks.Marks.{Marks}
use Rattle.step_table.specs.declared.outcomes.Outcome.{Outcome}
use Rattle.step_table.specs.declared.step.Row.{Row}
use Rattle.step_table.specs.declared.step.Step.{Step}
use Rattle.parting_laws.proofs.Chosen.{chosen_all, chosen_filter, chosen_of_mapped, everywhere}
use Rattle.parting_laws.proofs.PartedGroups.{keyed_in, lone_all, lone_in, names_all, shared_in}

abbrev pub row_labels : Row → Names
row_labels row = row.labels

module _ {X : Type 0} (labels : X → Names) (outcome : X → Outcome) where
  -- the rows that have a value, and what is left of them with notes and marks
  abbrev pub made_rows : List X → List Row
  made_rows xs = filter_map row_of (map outcome xs)

  abbrev pub made_step : Marks → List X → Step
  made_step marks xs = settled (taken marks (map outcome xs))

  -- the labels that rows share
  abbrev pub shared_rows : List X → List Names
  shared_rows xs = shared_names (keyed (made_rows xs))

  -- an outcome that has a value passes a test of labels where its thing does
  abbrev pub Keeps : (Names → Bool) → Type 0
  Keeps test = (x : X) (v : XFrac) → (outcome x).value ≡ Ok (Some v) → test (outcome x).labels ≡ test (labels x)

  -- the row of an outcome has its labels, and a value
  row_is : (x : X) (row : Row) → row_of (outcome x) ≡ Some row → (row.labels ≡ (outcome x).labels) × ((outcome x).value ≡ Ok (Some row.value))
  row_is x row e = by (outcome x).value refl e
    where
      by : (v : Result (Option XFrac) NumFault) → (outcome x).value ≡ v → row_of (record { labels = (outcome x).labels; value = v }) ≡ Some row → (row.labels ≡ (outcome x).labels) × ((outcome x).value ≡ Ok (Some row.value))
      by (Ok (Some v)) f g = let same : record { labels = (outcome x).labels; value = v } ≡ row = cc in (ap (λ (r : Row). r.labels) (sym same), f ∙ ap (λ (r : Row). Ok (Some r.value)) same)
      by (Ok None) f g = absurd (cc)
      by (Err z) f g = absurd (cc)

  module _ (test : Names → Bool) (keeps : Keeps test) where
    abbrev own : X → Bool
    own x = test (labels x)

    abbrev own_row : Row → Bool
    own_row row = test row.labels

    made_in : (xs : List X) → made_rows (filter own xs) ≡ filter own_row (made_rows xs)
    made_in xs =
        chosen_of_mapped row_of outcome (filter own xs)
        ∙ chosen_filter (λ (x : X). row_of (outcome x)) own own_row xs
        (everywhere (λ (x : X). (row : Row) → row_of (outcome x) ≡ Some row → own_row row ≡ own x) (λ x row e. let is = row_is x row e in ap test is.0 ∙ keeps x row.value is.1) xs)
        ∙ ap (filter own_row) (sym (chosen_of_mapped row_of outcome xs))

    -- what is made of the things of a part has that part of the rows
    pub rows_made : (m n : Marks) (xs : List X) → (made_step m (filter own xs)).table.rows ≡ filter own_row (made_step n xs).table.rows
    rows_made m n xs = ap (λ (rows : List Row). (settled (record { table = record { rows = rows }; marks = m })).table.rows) (made_in xs) ∙ lone_in test row_labels (made_rows xs)

    -- and its rows share that part of the labels
    pub shared_made : (xs : List X) → shared_rows (filter own xs) ≡ filter test (shared_rows xs)
    shared_made xs = ap (λ (rows : List Row). shared_names (keyed rows)) (made_in xs) ∙ ap shared_names (keyed_in test row_labels (made_rows xs)) ∙ shared_in test (keyed (made_rows xs))

  -- what holds of the labels of things holds of the labels of rows, and of those that several share
  module _ (P : Names → Type 0) (holds : (x : X) (v : XFrac) → (outcome x).value ≡ Ok (Some v) → P (labels x) → P (outcome x).labels) where
    rows_all : (xs : List X) → AllByRecursion (λ (x : X). P (labels x)) xs → AllByRecursion (λ (row : Row). P row.labels) (made_rows xs)
    rows_all xs a =
        subst (AllByRecursion (λ (row : Row). P row.labels)) (sym (chosen_of_mapped row_of outcome xs))
        (chosen_all (λ (x : X). row_of (outcome x)) (λ (x : X). P (labels x)) (λ (row : Row). P row.labels) (λ x row e p. let is = row_is x row e in subst P (sym is.0) (holds x row.value is.1 p)) xs a)

    pub made_all : (marks : Marks) (xs : List X) → AllByRecursion (λ (x : X). P (labels x)) xs → AllByRecursion (λ (row : Row). P row.labels) (made_step marks xs).table.rows
    made_all marks xs a = lone_all row_labels (λ (row : Row). P row.labels) (made_rows xs) (rows_all xs a)

    several_all : {T : Type 0} (h : Names → List T) (ms : List Names) → AllByRecursion P ms → AllByRecursion P (filter_map shared_of (map (λ n. (n, h n)) ms))
    several_all h [] a = tt
    several_all h (m ∷ ms) a = by (has_several (h m)) (several_all h ms a.1)
      where
        by : (b : Bool) → AllByRecursion P (filter_map shared_of (map (λ n. (n, h n)) ms)) → AllByRecursion P (cons_option (if b then Some m else None) (filter_map shared_of (map (λ n. (n, h n)) ms)))
        by true rest = (a.0, rest)
        by false rest = rest

    keys_all : (rows : List Row) → AllByRecursion (λ (row : Row). P row.labels) rows → AllByRecursion P (keys_of (keyed rows))
    keys_all [] a = tt
    keys_all (row ∷ rows) a = (a.0, keys_all rows a.1)

    pub shared_all : (xs : List X) → AllByRecursion (λ (x : X). P (labels x)) xs → AllByRecursion P (shared_rows xs)
    unfolding gathered
    shared_all xs a =
        several_all (items_of (keyed (made_rows xs))) (names_among (keyed (made_rows xs)))
        (names_all P (keyed (made_rows xs)) (keys_all (made_rows xs) (rows_all xs a)))
