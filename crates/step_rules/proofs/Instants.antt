-- Instants that are a step apart.
use Rattle.std.proofs.Common.{◌≡◌, ◌∙◌, ℕ, suc, ◌+◌, ◌<◌, true, false, List, [], ◌∷◌, ◌++◌, refl, ap, sym, subst, arith, append_assoc}
use Rattle.std.specs.Prelude.{ℤ, ◌+ℤ◌, ◌<ℤ◌, ◌≤ℤ◌, int_lt}
use Rattle.std.specs.List.{AllByRecursion}
use Rattle.std.proofs.lemmas.Int.{ints}
use Rattle.ticks.specs.Walks.{IsTime}
use Rattle.ticks.specs.declared.moment.Ms.{Ms}
use Rattle.promql_meaning.specs.Subqueries.{as_times, instants}

pub instants-more : (u s : ℤ) (n k : ℕ) → n ≡ suc k → instants u s n ≡ u ∷ instants (u +ℤ s) s k
instants-more u s n k e = rw e refl

first_of : (first s : ℤ) (n : ℕ) → instants first s (n + 1) ≡ first ∷ instants (first +ℤ s) s n
first_of first s n = instants-more first s (n + 1) n (omega arith)

-- the first instant and those behind it
pub begun : (us : List Ms) (first : Ms) (s : ℤ) (n : ℕ) → us ≡ first ∷ [] → us ++ as_times (instants (first.0 +ℤ s) s n) ≡ as_times (instants first.0 s (n + 1))
begun us first s n is = ap (λ vs. vs ++ as_times (instants (first.0 +ℤ s) s n)) is ∙ ap as_times (sym (first_of first.0 s n))

pub behind_first : (first s : ℤ) (n : ℕ) → AllByRecursion IsTime (instants first s (n + 1)) → AllByRecursion IsTime (instants (first +ℤ s) s n)
behind_first first s n times = (subst (AllByRecursion IsTime) (first_of first s n) times).1

-- one instant more
pub one_more : (us new all : List Ms) (u v : Ms) (s : ℤ) (n k : ℕ) → n ≡ suc k → v.0 ≡ u.0 +ℤ s → new ≡ us ++ v ∷ [] → us ++ as_times (instants (u.0 +ℤ s) s n) ≡ all
    → new ++ as_times (instants (v.0 +ℤ s) s k) ≡ all
one_more us new all u v s n k one later made told =
    let rest = as_times (instants (v.0 +ℤ s) s k) in
    let split : instants (v.0) s n ≡ v.0 ∷ instants (v.0 +ℤ s) s k = instants-more v.0 s n k one in
    ap (λ vs. vs ++ rest) made ∙ append_assoc us (v ∷ []) rest ∙ ap (λ vs. us ++ as_times vs) (sym split) ∙ ap (λ w. us ++ as_times (instants w s n)) later ∙ told

pub times_more : (u v s : ℤ) (n k : ℕ) → n ≡ suc k → v ≡ u +ℤ s → AllByRecursion IsTime (instants (u +ℤ s) s n) → IsTime (u +ℤ s) × AllByRecursion IsTime (instants (v +ℤ s) s k)
times_more u v s n k one later times =
    let all = subst (AllByRecursion IsTime) (instants-more (u +ℤ s) s n k one) times in
    (all.0, subst (λ w. AllByRecursion IsTime (instants (w +ℤ s) s k)) (sym later) all.1)

pub is_past : (a b : ℤ) → a <ℤ b → int_lt a b ≡ true
is_past a b h = grind (arith, ints, h)

pub is_no_past : (a b : ℤ) → b ≤ℤ a → int_lt a b ≡ false
is_no_past a b h = grind (arith, ints, h)
