-- How far the evaluation of a tree reaches, whose lengths, offsets and fixed times lie within limits. (This project's own.)
use Rattle.std.specs.Prelude.{ℕ, zero, suc, ◌+◌, ◌*◌, ◌^◌, ◌≤◌, ℤ}
use Rattle.match_rule.specs.Patterns.{HaveTheirPatterns}
use Rattle.promql_ast.specs.Depth.{depth}
use Rattle.promql_ast.specs.declared.tree.Expr.{Expr}
use Rattle.promql_meaning.specs.Conditions.{AreMet, needs_of}
use Rattle.promql_ast.specs.Parts.{AreWithin, IsAtMost, parts_of}
use Rattle.promql_meaning.specs.Selecting.{Asked}

-- how far beyond its instants a tree of so many levels reaches: an offset, a range and a step a level
abbrev pub reach : ℕ → ℕ → ℕ
reach longest zero = 0
reach longest (suc d) = reach longest d + 3 * longest

-- the ends of a query's grid are no later than the latest time
pub record EndsWithin (latest : ℕ) (asked : Asked) : Type 0 where
  pub start : IsAtMost latest (record { 0 = asked.start })
  pub end : IsAtMost latest (record { 0 = asked.end })

-- A tree's needs are met at each instant that is no later than the latest time, where its parts lie within the limits and what
-- it reaches are times. The longest length is at least the five minutes of an instant selector.
abbrev pub NeedsAreMet : Type 0
NeedsAreMet =
    (asked : Asked) (e : Expr) (t : ℤ) (longest latest : ℕ)
    → 300000 ≤ longest
    → latest + reach longest (depth e) ≤ 2 ^ 60
    → EndsWithin latest asked
    → IsAtMost latest (record { 0 = t })
    → AreWithin (HaveTheirPatterns asked.kept) longest latest (parts_of e)
    → AreMet asked (needs_of asked e t)
