-- Whether all multiples in a window were fed.
use Rattle.std.proofs.Common.{◌≡◌, ◌∙◌, ◌+◌, ℕ, suc, Bool, true, false, List, [], Option, ◌⊎◌, inl, inr, refl, sym, ap, subst, arith}
use Rattle.std.specs.Prelude.{ℤ, pos, ◌+ℤ◌, ◌-ℤ◌, ◌<ℤ◌, ◌≤ℤ◌, ◌↔◌, ◌/◌, unsigned_abs, int_lt, IsTrue}
use Rattle.std.specs.Int.{int_rem_euclid}
use Rattle.std.specs.List.{Contains}
use Rattle.std.proofs.lemmas.Bool.{false≢true}
use Rattle.std.proofs.lemmas.Int.{ints}
use Rattle.promql_meaning.specs.Laws.{IsMultipleIn, MultiplesAreAll}
use Rattle.promql_meaning.specs.Subqueries.{instants, instants_up_to, multiple_after, multiples}
use Rattle.ticks.specs.Edges.{before, from-later, later-from}
use Rattle.ticks.specs.Grids.{step_count}
use Rattle.ticks.specs.Steps.{IsMultiple}
use Rattle.ticks.specs.Walks.{IsInWindow, moment_at}
use Rattle.ticks.specs.declared.moment.Ms.{Ms}
use Rattle.op_subquery.specs.Rings.{IsReady, IsUpTo, Kernel}

less_twice : (m low : ℤ) → m -ℤ (m -ℤ low) ≡ low
less_twice m low = omega (arith, ints)

one_more : (n : ℕ) → n + 1 ≡ suc n
one_more n = omega arith

none_in : (u : ℤ) → Contains [] u → ⊥
none_in u (k, h, e) = omega arith

module _ (law : MultiplesAreAll) (m low step : ℤ) (positive : pos 0 <ℤ step) where
  listed : multiples false m (m -ℤ low) step ≡ instants_up_to (multiple_after step low) m step
  listed = ap (λ (e : ℤ). instants_up_to (multiple_after step e) m step) (less_twice m low)

  -- where the next multiple is later there is none behind a time
  pub none_between : m <ℤ multiple_after step low → (u : ℤ) → low <ℤ u → u ≤ℤ m → IsMultiple step u → ⊥
  none_between late u h k on =
      let f : int_lt m (multiple_after step low) ≡ true = grind (arith, ints, late) in
      let empty : instants_up_to (multiple_after step low) m step ≡ [] = rw f refl in
      let none : multiples false m (m -ℤ low) step ≡ [] = listed ∙ empty in
      let from : (m -ℤ (m -ℤ low)) <ℤ u = subst (λ (e : ℤ). e <ℤ u) (sym (less_twice m low)) h in
      none_in u (subst (λ (us : List ℤ). Contains us u) none ((law false m (m -ℤ low) step u positive).1 (record { from_edge = from; up_to = k; multiple = on })))

  -- and else that one is the next
  pub next_is : multiple_after step low ≤ℤ m → (low <ℤ multiple_after step low) × IsMultiple step (multiple_after step low)
  next_is up =
      let next = multiple_after step low in
      let f : int_lt m next ≡ false = grind (arith, ints, up) in
      let count = unsigned_abs (m -ℤ next) / unsigned_abs step in
      let from_next : instants_up_to next m step ≡ instants next step (step_count next m step) = rw f refl in
      let some : multiples false m (m -ℤ low) step ≡ instants next step (suc count) = listed ∙ from_next ∙ ap (instants next step) (one_more count) in
      let here : Contains (multiples false m (m -ℤ low) step) next = subst (λ (us : List ℤ). Contains us next) (sym some) (0, omega arith, refl) in
      let is : IsMultipleIn false (m -ℤ (m -ℤ low)) m step next = (law false m (m -ℤ low) step next positive).0 here in
      (subst (λ (e : ℤ). e <ℤ next) (less_twice m low) is.from_edge, is.multiple)

-- a window of which all multiples were fed
abbrev pub AllUpTo : Bool → ℤ → ℤ → ℤ → Option Ms → Type 0
AllUpTo closed m range step last = (u : ℤ) → IsInWindow closed m range step u → IsUpTo last u

-- behind the later one of the last instant and of the edge there is no multiple, exactly where all were fed
pub record IsLater (last : Option Ms) (edge low : ℤ) : Type 0 where
  pub after_edge : edge ≤ℤ low
  pub after_last : (u : ℤ) → IsUpTo last u → u ≤ℤ low
  pub no_later : (u : ℤ) → edge <ℤ u → u ≤ℤ low → IsUpTo last u

module _ (law : MultiplesAreAll) (closed : Bool) (m range step low : ℤ) (last : Option Ms) (positive : pos 0 <ℤ step) (is : IsLater last (before closed (m -ℤ range)) low) where
  up_to_low : (u : ℤ) → IsInWindow closed m range step u → u ≤ℤ low → IsUpTo last u
  up_to_low u w h = is.no_later u (from-later closed (m -ℤ range) u w.from_edge) h

  pub past_all : m ≤ℤ low → AllUpTo closed m range step last
  past_all h u w = let k = w.to_moment in up_to_low u w (omega (arith, ints, h, k))

  pub none_left : m <ℤ multiple_after step low → AllUpTo closed m range step last
  none_left h u w =
      elim (either low u) [
        | inl before_it ↦ absurd (none_between law m low step positive h u before_it w.to_moment w.on_step)
        | inr up ↦ up_to_low u w up
      ]
    where
      either : (a b : ℤ) → (a <ℤ b) ⊎ (b ≤ℤ a)
      either a b = elim (int_lt a b) as (λ t. int_lt a b ≡ t → (a <ℤ b) ⊎ (b ≤ℤ a)) [ true ↦ λ e. inl (grind (arith, ints, e)) | false ↦ λ e. inr (grind (arith, ints, e)) ] refl

  pub one_left : low <ℤ m → multiple_after step low ≤ℤ m → AllUpTo closed m range step last → ⊥
  one_left h k all =
      let next = multiple_after step low in
      let found = next_is law m low step positive k in
      let behind_low : low <ℤ next = found.0 in
      let edge : before closed (m -ℤ range) ≤ℤ low = is.after_edge in
      let up : next ≤ℤ low = is.after_last next (all next (record { from_edge = later-from closed (m -ℤ range) next (omega (arith, ints, edge, behind_low)); to_moment = k; on_step = found.1 })) in
      omega (arith, ints, behind_low, up)

-- ---- the test

module _ (law : MultiplesAreAll) (k : Kernel) (at : Ms) (low : ℤ) (positive : pos 0 <ℤ k.step.0) (is : IsLater k.last (before k.moment.closed (moment_at k.moment at.0 -ℤ k.range.0)) low) where
  pub ready_past : moment_at k.moment at.0 ≤ℤ low → IsTrue true ↔ IsReady k at
  ready_past h = (λ t. past_all law k.moment.closed (moment_at k.moment at.0) k.range.0 k.step.0 low k.last positive is h, λ all. refl)

  pub ready_by : (way : ℤ) (b : Bool) → low <ℤ moment_at k.moment at.0 → way ≡ k.step.0 -ℤ int_rem_euclid low k.step.0 → b ≡ int_lt (moment_at k.moment at.0 -ℤ low) way → IsTrue b ↔ IsReady k at
  ready_by way b h e f =
      let m = moment_at k.moment at.0 in
      let next : multiple_after k.step.0 low ≡ low +ℤ way = ap (λ (z : ℤ). low +ℤ z) (sym e) in
      subst (λ (c : Bool). IsTrue c ↔ IsReady k at) (sym f)
      (elim (int_lt (m -ℤ low) way) as (λ c. int_lt (m -ℤ low) way ≡ c → IsTrue c ↔ IsReady k at) [
        | true ↦ λ g. (λ t. none_left law k.moment.closed m k.range.0 k.step.0 low k.last positive is (subst (λ (z : ℤ). m <ℤ z) (sym next) (grind (arith, ints, g))), λ all. refl)
        | false ↦ λ g. (λ t. absurd (false≢true t), λ all. absurd (one_left law k.moment.closed m k.range.0 k.step.0 low k.last positive is h (subst (λ (z : ℤ). z ≤ℤ m) (sym next) (grind (arith, ints, g))) all))
      ] refl)
