-- Overflow is the least mark, so steps that agree end alike.
use Rattle.std.proofs.Common.{◌≡◌, ◌∙◌, ℕ, ◌+◌, Bool, true, List, [], ◌∷◌, length, refl, sym, ap, Some, None, ⊎_elim}
use Rattle.std.specs.Prelude.{Option, ◌||◌}
use Rattle.std.specs.BTreeMap.{is_at}
use Rattle.std.specs.Ordering.{is_eq}
use Rattle.std.specs.Option.{option_or, unwrap_or}
use Rattle.std.specs.List.{AllByRecursion, AllZip, list_any}
use Rattle.std.specs.List.Sorted.{IsStrictlySortedBy}
use Rattle.std.specs.declared.cmp.Ordering.TheVariants.{Less, Equal, Greater}
use Rattle.std.proofs.lemmas.Bool.{false≢true}
use Rattle.promql_ast.specs.declared.tree.Expr.{Expr}
use Rattle.step_table.specs.Laws.{has_mark}
use Rattle.step_table.specs.OrderLaws.{mark_cmp_ties}
use Rattle.step_table.specs.Orders.{mark_cmp}
use Rattle.step_table.specs.Timed.{StepAt}
use Rattle.step_table.specs.declared.marks.Mark.{Mark}
use Rattle.step_table.specs.declared.marks.Mark.TheVariants.{Overflow, Irrational, SameLabelset, DuplicateOneSide, ImplicitManyToOne, DuplicateResult, OutOfCalendar}
use Rattle.promql_meaning.specs.Results.{answer_of, first_stop, stop_at}
use Rattle.promql_meaning.specs.declared.answer.Outcome.{Outcome}
use Rattle.promql_meaning.specs.declared.answer.Outcome.TheVariants as outcome
use Rattle.step_cells.specs.CellLaws.{has_overflow}
use Rattle.parting_laws.specs.Agreeing.{AgreeAt, AgreeingEndAlike}

-- no mark is below Overflow
none_below : (m : Mark) → mark_cmp m Overflow ≡ Less → ⊥
none_below Overflow e = cc
none_below Irrational e = cc
none_below (SameLabelset l) e = cc
none_below (DuplicateOneSide l) e = cc
none_below (ImplicitManyToOne l) e = cc
none_below (DuplicateResult l) e = cc
none_below OutOfCalendar e = cc

none_behind : (m : Mark) (ms : List Mark) → AllByRecursion (λ q. mark_cmp m q ≡ Less) ms → list_any (is_at (mark_cmp Overflow)) ms ≡ true → ⊥
none_behind m [] a e = false≢true e
none_behind m (q ∷ ms) a e =
    elim (mark_cmp Overflow q) as (λ r. mark_cmp Overflow q ≡ r → (is_eq r || list_any (is_at (mark_cmp Overflow)) ms) ≡ true → ⊥) [
      | Less ↦ λ h f. none_behind m ms a.1 f
      | Equal ↦ λ h f. none_below m (ap (mark_cmp m) (mark_cmp_ties Overflow q h) ∙ a.0)
      | Greater ↦ λ h f. none_behind m ms a.1 f
    ] refl e

-- a set that has Overflow begins with it
begins : (ms : List Mark) → IsStrictlySortedBy mark_cmp ms → has_mark ms Overflow ≡ true → (rest : List Mark) × (ms ≡ Overflow ∷ rest)
unfolding IsStrictlySortedBy
begins [] s e = absurd (false≢true e)
begins (m ∷ ms) s e =
    elim (mark_cmp Overflow m) as (λ r. mark_cmp Overflow m ≡ r → (is_eq r || list_any (is_at (mark_cmp Overflow)) ms) ≡ true → (rest : List Mark) × (m ∷ ms ≡ Overflow ∷ rest)) [
      | Less ↦ λ h f. absurd (none_behind m ms s.0 f)
      | Equal ↦ λ h f. (ms, ap (λ z. z ∷ ms) (sym (mark_cmp_ties Overflow m h)))
      | Greater ↦ λ h f. absurd (none_behind m ms s.0 f)
    ] refl e

-- a step with Overflow fails with it, however many rows were counted
fails_with : (earlier : ℕ) (s : StepAt) → IsStrictlySortedBy mark_cmp s.step.marks.fatal → has_overflow s.step ≡ true → stop_at earlier s ≡ Some (outcome.Failed s.at Overflow)
fails_with earlier s sorted e = let b = begins s.step.marks.fatal sorted e in rw b.1 refl

none_after : (o p : Option Outcome) → option_or o p ≡ None → p ≡ None
none_after None p e = e
none_after (Some x) p e = absurd (cc)

-- steps that agree end alike, and are equal where they don't end early
alike : (earlier : ℕ) (a b : List StepAt) → AllZip AgreeAt a b → (first_stop earlier a ≡ first_stop earlier b) × (first_stop earlier a ≡ None → a ≡ b)
alike earlier [] [] z = (refl, λ e. refl)
alike earlier [] (y ∷ b) z = absurd z
alike earlier (x ∷ a) [] z = absurd z
alike earlier (x ∷ a) (y ∷ b) z =
    ⊎_elim
    (λ same.
    let whole : x ≡ y = (λ i. record { at = z.0.at i; step = same i }) in
    let rest = alike (earlier + length x.step.table.rows) a b z.1 in (
      ap (option_or (stop_at earlier x)) rest.0 ∙ ap (λ (s : StepAt). option_or (stop_at earlier s) (first_stop (earlier + length s.step.table.rows) b)) whole,
      λ e. let tail : a ≡ b = rest.1 (none_after (stop_at earlier x) (first_stop (earlier + length x.step.table.rows) a) e) in λ i. whole i ∷ tail i,
    ))
    (λ both.
    let l : stop_at earlier x ≡ Some (outcome.Failed x.at Overflow) = fails_with earlier x z.0.left.fatal both.0 in
    let r : stop_at earlier y ≡ Some (outcome.Failed y.at Overflow) = fails_with earlier y z.0.right.fatal both.1 in (
      ap (λ o. option_or o (first_stop (earlier + length x.step.table.rows) a)) l ∙ ap (λ at. Some (outcome.Failed at Overflow)) z.0.at ∙ sym (ap (λ o. option_or o (first_stop (earlier + length y.step.table.rows) b)) r),
      λ e. absurd (some_or (stop_at earlier x) (first_stop (earlier + length x.step.table.rows) a) (outcome.Failed x.at Overflow) l e),
    ))
    z.0.step
  where
    some_or : (o p : Option Outcome) (v : Outcome) → o ≡ Some v → option_or o p ≡ None → ⊥
    some_or None p v e f = cc
    some_or (Some x) p v e f = cc

judged_by : (instant : Bool) (e : Expr) (a b : List StepAt) (o p : Option Outcome) → o ≡ p → (o ≡ None → a ≡ b) → unwrap_or o (outcome.Answer (answer_of instant e a)) ≡ unwrap_or p (outcome.Answer (answer_of instant e b))
judged_by instant e a b None None same f = ap (λ s. outcome.Answer (answer_of instant e s)) (f refl)
judged_by instant e a b None (Some y) same f = absurd (cc)
judged_by instant e a b (Some x) None same f = absurd (cc)
judged_by instant e a b (Some x) (Some y) same f = cc

pub end_alike : AgreeingEndAlike
end_alike instant e a b z = let r = alike 0 a b z in judged_by instant e a b (first_stop 0 a) (first_stop 0 b) r.0 r.1
