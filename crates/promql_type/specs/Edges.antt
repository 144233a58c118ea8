-- Typing looks at no moment: a tree whose windows are closed on the left is typed and refused as the open one.
use Rattle.std.specs.Prelude.{◌≡◌, Bool}
use Rattle.promql_ast.specs.Edged.{edged}
use Rattle.promql_ast.specs.declared.tree.Expr.{Expr}
use Rattle.promql_type.specs.Answers.{refusals_of}
use Rattle.promql_type.specs.Judging.{judged}
use Rattle.promql_type.specs.Settled.{settled}

abbrev pub EdgesAreJudgedAlike : Type 0
EdgesAreJudgedAlike = (closed : Bool) (e : Expr) → judged (edged closed e) ≡ judged e

abbrev pub EdgesAreRefusedAlike : Type 0
EdgesAreRefusedAlike = (closed : Bool) (e : Expr) → refusals_of (edged closed e) ≡ refusals_of e

-- the typed tree has the edge that the tree was given
abbrev pub EdgesStayTyped : Type 0
EdgesStayTyped = (closed : Bool) (e : Expr) → settled (edged closed e) ≡ edged closed (settled e)
