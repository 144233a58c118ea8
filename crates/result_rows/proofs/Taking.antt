-- What is kept of steps, one step further.
use Rattle.std.proofs.Common.{◌≡◌, ◌∙◌, ◌+◌, ◌≤◌, ℕ, zero, suc, true, false, List, [], ◌∷◌, ◌++◌, length, map, take, drop, refl, sym, ap, append_assoc, append-nil, arith, None, Some, slice_get}
use Rattle.std.specs.Prelude.{filter, nat_lt, if◌then◌else◌}
use Rattle.std.specs.BTreeMap.{is_at}
use Rattle.std.specs.Map.{values_of}
use Rattle.std.specs.Option.{option_or}
use Rattle.std.proofs.lemmas.Bool.Decides.{nat_tests}
use Rattle.std.proofs.lemmas.List.{map-append}
use Rattle.std.proofs.lemmas.List.Elements.{filter-append}
use Rattle.label_set.specs.Labels.{labels_cmp}
use Rattle.promql_meaning.specs.declared.answer.Outcome.{Outcome}
use Rattle.promql_meaning.specs.declared.answer.Outcome.TheVariants.{TooManyRows}
use Rattle.promql_meaning.specs.declared.answer.Point.{Point}
use Rattle.promql_meaning.specs.Givens.{no_marks}
use Rattle.promql_meaning.specs.ResultLaws.{rows_in}
use Rattle.promql_meaning.specs.Results.{all_marks, all_points, first_stop, points_at, stop_at}
use Rattle.step_table.specs.Groups.{Names, items_of}
use Rattle.step_table.specs.Timed.{StepAt}
use Rattle.step_table.specs.Unions.{united}
use Rattle.step_table.specs.declared.marks.Mark.{Mark}
use Rattle.step_table.specs.declared.marks.Marks.{Marks}
use Rattle.step_table.specs.declared.marks.Note.{Note}
use Rattle.step_table.specs.declared.step.Row.{Row}
use Rattle.ticks.specs.declared.moment.Ms.{Ms}
use Rattle.result_rows.specs.Taken.{HasTaken, Kept, points_under}

-- ---- the first stop

pub stop_behind : (earlier : ℕ) (steps behind : List StepAt) → first_stop earlier steps ≡ None → first_stop earlier (steps ++ behind) ≡ first_stop (earlier + rows_in steps) behind
stop_behind earlier [] behind h = let e : earlier ≡ earlier + 0 = omega arith in ap (λ n. first_stop n behind) e
stop_behind earlier (s ∷ steps) behind h =
    elim (stop_at earlier s) as (λ o. option_or o (first_stop (earlier + length s.step.table.rows) steps) ≡ None
    → option_or o (first_stop (earlier + length s.step.table.rows) (steps ++ behind)) ≡ first_stop (earlier + (length s.step.table.rows + rows_in steps)) behind) [
      | Some x ↦ λ e. absurd (cc)
      | None ↦ λ e.
          let more : (earlier + length s.step.table.rows) + rows_in steps ≡ earlier + (length s.step.table.rows + rows_in steps) = omega arith in
          stop_behind (earlier + length s.step.table.rows) steps behind e ∙ ap (λ n. first_stop n behind) more
    ] h

-- a stop among the first steps is that of all
pub stop_stays : (earlier : ℕ) (steps behind : List StepAt) (o : Outcome) → first_stop earlier steps ≡ Some o → first_stop earlier (steps ++ behind) ≡ Some o
stop_stays earlier [] behind o h = absurd (cc)
stop_stays earlier (s ∷ steps) behind o h =
    elim (stop_at earlier s) as (λ p. option_or p (first_stop (earlier + length s.step.table.rows) steps) ≡ Some o → option_or p (first_stop (earlier + length s.step.table.rows) (steps ++ behind)) ≡ Some o) [
      | Some x ↦ λ e. e
      | None ↦ λ e. stop_stays (earlier + length s.step.table.rows) steps behind o e
    ] h

-- where an evaluation goes on, there are few rows
few_of : (earlier : ℕ) (at : Ms) (rows : List Row) (fatal : List Mark) (notes : List Note)
    → stop_at earlier (record { at = at; step = record { table = record { rows = rows }; marks = record { fatal = fatal; notes = notes } } }) ≡ None → earlier + length rows ≤ 4000000
few_of earlier at rows [] notes none =
    let n = earlier + length rows in
    elim (nat_lt 4000000 n) as (λ b. nat_lt 4000000 n ≡ b → (if b then Some (TooManyRows at) else None) ≡ None → n ≤ 4000000) [
      | true ↦ λ e h. absurd (cc)
      | false ↦ λ e h. grind (arith, nat_tests, e)
    ] refl none
few_of earlier at rows (mark ∷ fatal) notes none = absurd (cc)

pub few : (earlier : ℕ) (s : StepAt) → stop_at earlier s ≡ None → earlier + length s.step.table.rows ≤ 4000000
few earlier s none = few_of earlier s.at s.step.table.rows s.step.marks.fatal s.step.marks.notes none

-- ---- one step more

points_append : (steps : List StepAt) (s : StepAt) → all_points (steps ++ s ∷ []) ≡ all_points steps ++ points_at s
points_append [] s = append-nil (points_at s)
points_append (t ∷ steps) s = ap (λ r. points_at t ++ r) (points_append steps s) ∙ sym (append_assoc (points_at t) (all_points steps) (points_at s))

items_append : {T : Type 0} (xs ys : List (Names × T)) (q : Names) → items_of (xs ++ ys) q ≡ items_of xs q ++ items_of ys q
items_append {T} xs ys q =
    ap values_of (filter-append (λ (item : Names × T). is_at (labels_cmp q) item.0) xs ys)
    ∙ map-append (λ (e : Names × T). e.1) (filter (λ (item : Names × T). is_at (labels_cmp q) item.0) xs) (filter (λ (item : Names × T). is_at (labels_cmp q) item.0) ys)

marks_append : (marks : Marks) (steps : List StepAt) (s : StepAt) → all_marks marks (steps ++ s ∷ []) ≡ united (all_marks marks steps) s.step.marks
marks_append marks [] s = refl
marks_append marks (t ∷ steps) s = marks_append (united marks t.step.marks) steps s

rows_append : (steps : List StepAt) (s : StepAt) → rows_in (steps ++ s ∷ []) ≡ rows_in steps + length s.step.table.rows
rows_append [] s = omega arith
rows_append (t ∷ steps) s = let e = rows_append steps s in omega arith

module _ (old : Kept) (steps : List StepAt) (s : StepAt) (has : HasTaken old steps) where
  from_none : (behind : List StepAt) → first_stop 0 (steps ++ behind) ≡ first_stop (rows_in steps) behind
  from_none behind = let n : 0 + rows_in steps ≡ rows_in steps = omega arith in stop_behind 0 steps behind has.goes_on ∙ ap (λ n. first_stop n behind) n

  pub taken_more : (new : Kept) → stop_at old.rows s ≡ None → ((q : Names) → points_under q new.series ≡ points_under q old.series ++ items_of (points_at s) q)
      → new.marks ≡ united old.marks s.step.marks → new.rows ≡ old.rows + length s.step.table.rows → HasTaken new (steps ++ s ∷ [])
  taken_more new none points marks rows = record {
    goes_on = from_none (s ∷ []) ∙ ap (λ o. option_or o None) (ap (λ n. stop_at n s) (sym has.rows) ∙ none);
    points = λ q. points q ∙ ap (λ (ps : List Point). ps ++ items_of (points_at s) q) (has.points q) ∙ sym (items_append (all_points steps) (points_at s) q)
        ∙ ap (λ (ps : List (Names × Point)). items_of ps q) (sym (points_append steps s));
    marks = marks ∙ ap (λ m. united m s.step.marks) has.marks ∙ sym (marks_append no_marks steps s);
    rows = rows ∙ ap (λ n. n + length s.step.table.rows) has.rows ∙ sym (rows_append steps s);
  }

  pub stops_here : (behind : List StepAt) (o : Outcome) → stop_at old.rows s ≡ Some o → first_stop 0 (steps ++ s ∷ behind) ≡ Some o
  stops_here behind o h =
      from_none (s ∷ behind)
      ∙ ap (λ r. option_or r (first_stop (rows_in steps + length s.step.table.rows) behind)) (ap (λ n. stop_at n s) (sym has.rows) ∙ h)

-- ---- steps in their order

module _ {A B : Type 0} (f : A → B) where
  pub next_taken : (xs : List A) (i : ℕ) (x : A) → slice_get xs i ≡ Some x → map f (take (i + 1) xs) ≡ map f (take i xs) ++ f x ∷ []
  next_taken [] i x h = absurd (cc)
  next_taken (y ∷ xs) zero x h = let e : y ≡ x = cc in ap (λ z. f z ∷ []) e
  next_taken (y ∷ xs) (suc i) x h =
      let n : suc i + 1 ≡ suc (i + 1) = omega arith in
      ap (λ k. map f (take k (y ∷ xs))) n ∙ ap (λ r. f y ∷ r) (next_taken xs i x h)

  pub split_at : (xs : List A) (i : ℕ) (x : A) → slice_get xs i ≡ Some x → map f xs ≡ map f (take i xs) ++ f x ∷ map f (drop (i + 1) xs)
  split_at [] i x h = absurd (cc)
  split_at (y ∷ xs) zero x h = let e : y ≡ x = cc in ap (λ z. f z ∷ map f xs) e
  split_at (y ∷ xs) (suc i) x h =
      let n : suc i + 1 ≡ suc (i + 1) = omega arith in
      ap (λ r. f y ∷ r) (split_at xs i x h) ∙ ap (λ k. f y ∷ (map f (take i xs) ++ f x ∷ map f (drop k (y ∷ xs)))) (sym n)

pub taken_all : {A : Type 0} (xs : List A) (i : ℕ) → length xs ≤ i → take i xs ≡ xs
taken_all [] zero l = refl
taken_all [] (suc i) l = refl
taken_all (x ∷ xs) zero l = absurd (omega arith)
taken_all (x ∷ xs) (suc i) l = ap (λ r. x ∷ r) (taken_all xs i (omega arith))
