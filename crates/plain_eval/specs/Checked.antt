-- The patterns of a typed tree are kept, as its evaluation asks. (Our own.)
use Rattle.std.specs.Prelude.{ℕ, Bool, List}
use Rattle.match_rule.specs.Gains.{Gains}
use Rattle.promql_ast.specs.declared.tree.Expr.{Expr}
use Rattle.promql_type.specs.Judging.{judged}
use Rattle.promql_type.specs.Replacements.{AreKept}
use Rattle.promql_type.specs.declared.replace.Placed.{Placed}
use Rattle.plain_eval.specs.Ready.{ArePatternsKept}

-- after a check the patterns of the tree's label_replace calls are kept
abbrev pub CheckedPatternsAreKept : Type 0
CheckedPatternsAreKept = (kept : List (Bool × List ℕ)) (e : Expr) (placed : List Placed) → AreKept kept (judged e).replacements placed → ArePatternsKept kept e

-- they stay kept where further ones are
abbrev pub KeptPatternsStay : Type 0
KeptPatternsStay = (before after : List (Bool × List ℕ)) (e : Expr) → Gains before after → ArePatternsKept before e → ArePatternsKept after e
