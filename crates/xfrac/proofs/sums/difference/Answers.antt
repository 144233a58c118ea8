use Rattle.std.proofs.Common.{◌≡◌, ◌<◌, ◌≤◌, ◌-◌, ap, ◌∙◌, arith, ℕ}
use Rattle.std.specs.Prelude.{pos, neg_ℤ, ◌-ℤ◌}
use Rattle.std.proofs.lemmas.Int.{ints}
use Rattle.xfrac.specs.Fractions.{lowest}
use Rattle.xfrac.proofs.sums.difference.Goals as goal

below : (a b : ℕ) → a < b → neg_ℤ (pos (b - a)) ≡ pos a -ℤ pos b
below a b h = omega (arith, ints)

above : (a b : ℕ) → b ≤ a → pos (a - b) ≡ pos a -ℤ pos b
above a b h = omega (arith, ints)

pub returns-then-a-b : goal.returns-then-a-b
returns-then-a-b c = c.lowest_terms.ensures ∙ ap (λ n. lowest n c.args.d) (below _ _ c.if-a-b.true)

pub returns-else-a-b : goal.returns-else-a-b
returns-else-a-b c = c.lowest_terms-else-a-b.ensures ∙ ap (λ n. lowest n c.args.d) (above _ _ c.if-a-b.false)
