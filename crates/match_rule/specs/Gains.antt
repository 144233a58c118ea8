-- Patterns that are kept keep their numbers. That they do is this project's own rule.
use Rattle.std.proofs.Common.{◌≡◌, ◌<◌, ◌≤◌, ℕ, Bool, List, length, slice_get, refl, ◌∙◌, sym, subst, arith}

-- no pattern has lost its number
pub record Gains (before after : List (Bool × List ℕ)) : Type 0 where
  pub earlier : (k : ℕ) → k < length before → slice_get after k ≡ slice_get before k
  pub more : length before ≤ length after

-- what keeps its number twice has kept it
pub gains_all : (a b c : List (Bool × List ℕ)) → Gains a b → Gains b c → Gains a c
gains_all a b c ab bc = record {
  earlier = λ k lt. bc.earlier k (omega (arith, lt, ab.more)) ∙ ab.earlier k lt;
  more = omega (arith, ab.more, bc.more);
}

-- patterns that are as they were keep their numbers
pub gains_none : (a b : List (Bool × List ℕ)) → b ≡ a → Gains a b
gains_none a b is = subst (λ (x : List (Bool × List ℕ)). Gains a x) (sym is) (record { earlier = λ k lt. refl; more = omega arith })
