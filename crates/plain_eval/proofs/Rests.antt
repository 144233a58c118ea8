-- What is left of a list of arguments or instants, after one more.
use Rattle.std.proofs.Common.{◌≡◌, ◌∙◌, ℕ, ◌+◌, ◌<◌, ◌≤◌, List, [], ◌∷◌, ◌++◌, length, get_or, drop, map, ap, sym, append_assoc, append-nil}
use Rattle.std.proofs.lemmas.List.{drop_all}
use Rattle.std.specs.Prelude.{ℤ}
use Rattle.ticks.specs.declared.moment.Ms.{Ms}
use Rattle.promql_ast.specs.declared.tree.Expr.{Expr}
use Rattle.step_table.specs.Groups.{Names}
use Rattle.step_table.specs.Timed.{timed}
use Rattle.step_table.specs.Unions.{united}
use Rattle.step_table.specs.declared.marks.Marks.{Marks}
use Rattle.step_table.specs.declared.step.Step.{Step}
use Rattle.xfrac.specs.declared.value.XFrac.{XFrac}
use Rattle.promql_meaning.specs.declared.given.Given.{Given}
use Rattle.promql_meaning.specs.Meaning.{given_at, meaning}
use Rattle.promql_meaning.specs.Selecting.{Asked}
use Rattle.promql_meaning.specs.Subqueries.{marks_over, rows_over}
use Rattle.step_rules.specs.Rests.{drop_at, drop_item}

pub given_more : (asked : Asked) (items : List Expr) (i : ℕ) (x : Expr) (t : ℤ) (old new : List Given) (v : Given) (all : List Given) → i < length items → x ≡ get_or items i x → new ≡ old ++ v ∷ [] → v ≡ meaning asked x t
    → old ++ given_at (map (meaning asked) (drop i items)) t ≡ all → new ++ given_at (map (meaning asked) (drop (i + 1) items)) t ≡ all
given_more asked items i x t old new v all w is made value told =
    let rest = given_at (map (meaning asked) (drop (i + 1) items)) t in
    ap (λ gs. gs ++ rest) made ∙ append_assoc old (v ∷ []) rest ∙ ap (λ g. old ++ (g ∷ rest)) value ∙ ap (λ es. old ++ given_at (map (meaning asked) es) t) (sym (drop_item items i x w is)) ∙ told

pub rows_more : (inner : ℤ → Step) (us : List Ms) (i : ℕ) (d : Ms) (step : Step) (old new all : List (Names × (Ms × XFrac))) → i < length us → new ≡ old ++ timed (get_or us i d) step → step ≡ inner (get_or us i d).0
    → old ++ rows_over inner (drop i us) ≡ all → new ++ rows_over inner (drop (i + 1) us) ≡ all
rows_more inner us i d step old new all w made is told =
    let u = get_or us i d in
    let rest = rows_over inner (drop (i + 1) us) in
    ap (λ rs. rs ++ rest) made ∙ append_assoc old (timed u step) rest ∙ ap (λ s. old ++ (timed u s ++ rest)) is ∙ ap (λ vs. old ++ rows_over inner vs) (sym (drop_at us i d w)) ∙ told

pub marks_more : (inner : ℤ → Step) (us : List Ms) (i : ℕ) (d : Ms) (step : Step) (old new all : Marks) → i < length us → new ≡ united old step.marks → step ≡ inner (get_or us i d).0
    → marks_over inner old (drop i us) ≡ all → marks_over inner new (drop (i + 1) us) ≡ all
marks_more inner us i d step old new all w made is told =
    let u = get_or us i d in
    ap (λ m. marks_over inner m (drop (i + 1) us)) (made ∙ ap (λ s. united old s.marks) is) ∙ ap (λ vs. marks_over inner old vs) (sym (drop_at us i d w)) ∙ told

-- what is left where all has been taken is nothing
pub rows_done : (inner : ℤ → Step) (us : List Ms) (i : ℕ) (old all : List (Names × (Ms × XFrac))) → length us ≤ i → old ++ rows_over inner (drop i us) ≡ all → old ≡ all
rows_done inner us i old all w told = sym (append-nil old) ∙ ap (λ vs. old ++ rows_over inner vs) (sym (drop_all i us w)) ∙ told

pub marks_done : (inner : ℤ → Step) (us : List Ms) (i : ℕ) (old all : Marks) → length us ≤ i → marks_over inner old (drop i us) ≡ all → old ≡ all
marks_done inner us i old all w told = ap (λ vs. marks_over inner old vs) (sym (drop_all i us w)) ∙ told
