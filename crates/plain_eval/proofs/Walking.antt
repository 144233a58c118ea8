-- A walk over instants, one instant further.
use Rattle.std.proofs.Common.{◌≡◌, ◌∙◌, ℕ, ◌+◌, ◌<◌, ◌≤◌, true, false, List, [], ◌∷◌, ◌++◌, length, get_or, drop, ap, sym, subst, refl, arith, None, Some, append_assoc, append-nil}
use Rattle.std.specs.Prelude.{ℤ, fold, nat_lt, if◌then◌else◌}
use Rattle.std.specs.Result.{OnOk}
use Rattle.std.specs.Prelude.{Result, Ok, Err}
use Rattle.std.specs.Option.{option_or}
use Rattle.std.proofs.lemmas.Bool.Decides.{nat_tests}
use Rattle.std.proofs.lemmas.List.{drop_all}
use Rattle.step_table.specs.Gathering.{gathered_more}
use Rattle.step_table.specs.Groups.{Names, gathered, with_item}
use Rattle.step_table.specs.Unions.{united}
use Rattle.promql_ast.specs.declared.tree.Expr.{Expr}
use Rattle.step_table.specs.declared.marks.Mark.{Mark}
use Rattle.step_table.specs.declared.marks.Marks.{Marks}
use Rattle.step_table.specs.declared.marks.Note.{Note}
use Rattle.step_table.specs.declared.step.Row.{Row}
use Rattle.step_table.specs.declared.step.Step.{Step}
use Rattle.ticks.specs.declared.moment.Ms.{Ms}
use Rattle.promql_meaning.specs.declared.answer.Outcome.{Outcome}
use Rattle.promql_meaning.specs.declared.answer.Outcome.TheVariants.{TooManyRows}
use Rattle.promql_meaning.specs.declared.answer.Point.{Point}
use Rattle.promql_meaning.specs.Conditions.{AreMet, IsMet, needs_of, needs_over}
use Rattle.promql_meaning.specs.Selecting.{Asked}
use Rattle.promql_meaning.specs.Results.{all_marks, all_points, first_stop, points_at, stop_at}
use Rattle.step_table.specs.Timed.{StepAt, steps_over}
use Rattle.plain_eval.proofs.Children.{all_back, all_front}
use Rattle.step_rules.specs.Rests.{drop_at}

abbrev pub at_instant : Ms → Step → StepAt
at_instant u step = record { at = u; step = step }

-- what holds in any case holds where all went well
pub on_any : {T E P : Type 0} (r : Result T E) → P → OnOk r P
on_any (Ok x) p = p
on_any (Err e) p = tt

-- what is gathered so far, and what is to come, of all points
pub record Gathers (entries : List (Names × List Point)) (rest all : List (Names × Point)) : Type 0 where
  pub read : List (Names × Point)
  pub held : entries ≡ gathered read
  pub whole : read ++ rest ≡ all

pub none_yet : (entries : List (Names × List Point)) (all : List (Names × Point)) → entries ≡ [] → Gathers entries all all
unfolding gathered
none_yet entries all is = record { read = []; held = is; whole = refl }

abbrev pub labelled_at : Ms → Row → Names × Point
labelled_at at row = (row.labels, record { at = at; value = row.value })

-- the entries, with each of some points put to those that have its labels
abbrev pub put_all : List (Names × List Point) → List (Names × Point) → List (Names × List Point)
put_all entries points = fold (λ groups p. with_item groups p.0 p.1) entries points

pub all_put : (read points : List (Names × Point)) → put_all (gathered read) points ≡ gathered (read ++ points)
all_put read [] = ap gathered (sym (append-nil read))
all_put read (p ∷ points) =
    ap (λ groups. put_all groups points) (sym (gathered_more read p)) ∙ all_put (read ++ p ∷ []) points ∙ ap gathered (append_assoc read (p ∷ []) points)

module _ (meant : ℤ → Step) (us : List Ms) (i : ℕ) (d : Ms) (step : Step) (within : i < length us) (is : step ≡ meant (get_or us i d).0) where
  abbrev u : Ms
  u = get_or us i d

  abbrev left : List StepAt
  left = steps_over meant (drop (i + 1) us)

  -- what is left, with the step that was found at its front
  split : steps_over meant (drop i us) ≡ at_instant u step ∷ left
  split = ap (steps_over meant) (drop_at us i d within) ∙ ap (λ s. at_instant u s ∷ left) (sym is)

  pub goes_on : (earlier : ℕ) → stop_at earlier (at_instant u step) ≡ None → first_stop earlier (steps_over meant (drop i us)) ≡ first_stop (earlier + length step.table.rows) left
  goes_on earlier none = ap (first_stop earlier) split ∙ ap (λ o. option_or o (first_stop (earlier + length step.table.rows) left)) none

  pub stops_here : (earlier : ℕ) (outcome : Outcome) → stop_at earlier (at_instant u step) ≡ Some outcome → first_stop earlier (steps_over meant (drop i us)) ≡ Some outcome
  stops_here earlier outcome some = ap (first_stop earlier) split ∙ ap (λ o. option_or o (first_stop (earlier + length step.table.rows) left)) some

  pub points_more : (old new : List (Names × List Point)) (all : List (Names × Point)) → ((points : List (Names × Point)) → old ≡ gathered points → new ≡ gathered (points ++ points_at (at_instant u step)))
      → Gathers old (all_points (steps_over meant (drop i us))) all → Gathers new (all_points left) all
  points_more old new all more told = record {
    read = told.read ++ points_at (at_instant u step);
    held = more told.read told.held;
    whole = append_assoc told.read (points_at (at_instant u step)) (all_points left) ∙ sym (ap (λ ss. told.read ++ all_points ss) split) ∙ told.whole;
  }

  pub marks_more : (old new all : Marks) → new ≡ united old step.marks → all_marks old (steps_over meant (drop i us)) ≡ all → all_marks new left ≡ all
  marks_more old new all made told = ap (λ m. all_marks m left) made ∙ sym (ap (all_marks old) split) ∙ told

-- where no instant is left
pub no_stop : (meant : ℤ → Step) (us : List Ms) (i earlier : ℕ) → length us ≤ i → first_stop earlier (steps_over meant (drop i us)) ≡ None
no_stop meant us i earlier w = ap (λ vs. first_stop earlier (steps_over meant vs)) (drop_all i us w)

pub points_done : (meant : ℤ → Step) (us : List Ms) (i : ℕ) (old : List (Names × List Point)) (all : List (Names × Point)) → length us ≤ i → Gathers old (all_points (steps_over meant (drop i us))) all → old ≡ gathered all
points_done meant us i old all w told =
    told.held ∙ ap gathered (sym (append-nil told.read) ∙ ap (λ vs. told.read ++ all_points (steps_over meant vs)) (sym (drop_all i us w)) ∙ told.whole)

pub marks_done : (meant : ℤ → Step) (us : List Ms) (i : ℕ) (old all : Marks) → length us ≤ i → all_marks old (steps_over meant (drop i us)) ≡ all → old ≡ all
marks_done meant us i old all w told = ap (λ vs. all_marks old (steps_over meant vs)) (sym (drop_all i us w)) ∙ told

-- what an instant needs, and those behind it
pub met_here : (asked : Asked) (e : Expr) (us : List Ms) (i : ℕ) (d : Ms) → i < length us → AreMet asked (needs_over (needs_of asked e) (drop i us))
    → AreMet asked (needs_of asked e (get_or us i d).0) × AreMet asked (needs_over (needs_of asked e) (drop (i + 1) us))
met_here asked e us i d w met =
    let needs = needs_of asked e in
    let here = needs (get_or us i d).0 in
    let rest = needs_over needs (drop (i + 1) us) in
    let all = subst (λ vs. AreMet asked (needs_over needs vs)) (drop_at us i d w) met in
    (all_front (IsMet asked.kept) here rest all, all_back (IsMet asked.kept) here rest all)

-- where an evaluation goes on, there are few rows
few_of : (earlier : ℕ) (at : Ms) (rows : List Row) (fatal : List Mark) (notes : List Note)
    → stop_at earlier (at_instant at (record { table = record { rows = rows }; marks = record { fatal = fatal; notes = notes } })) ≡ None → earlier + length rows ≤ 4000000
few_of earlier at rows [] notes none =
    let n = earlier + length rows in
    elim (nat_lt 4000000 n) as (λ b. nat_lt 4000000 n ≡ b → (if b then Some (TooManyRows at) else None) ≡ None → n ≤ 4000000) [
      | true ↦ λ e h. absurd (cc)
      | false ↦ λ e h. grind (arith, nat_tests, e)
    ] refl none
few_of earlier at rows (mark ∷ fatal) notes none = absurd (cc)

pub few : (earlier : ℕ) (at : Ms) (step : Step) → stop_at earlier (at_instant at step) ≡ None → earlier + length step.table.rows ≤ 4000000
few earlier at step none = few_of earlier at step.table.rows step.marks.fatal step.marks.notes none
