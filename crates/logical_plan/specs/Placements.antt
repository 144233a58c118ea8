-- That the patterns which checking a tree keeps stand where lowering looks for them. (This project's own.)
use Rattle.std.specs.Prelude.{◌≡◌, List, [], Contains}
use Rattle.promql_ast.specs.declared.tree.Expr.{Expr}
use Rattle.promql_type.specs.Judging.{judged}
use Rattle.promql_type.specs.Replacements.{AreKept, Kept}
use Rattle.promql_type.specs.declared.replace.Placed.{Placed}
use Rattle.promql_type.specs.declared.replace.Replacement.{Replacement}
use Rattle.logical_plan.specs.Lowering.{PatternsArePlaced}

-- the places of label_replace calls tell their patterns apart: calls at one place have one text
abbrev pub TellApart : List Replacement → Type 0
TellApart calls = (r s : Replacement) → Contains calls r → Contains calls s → r.at ≡ s.at → r.text ≡ s.text

-- of a tree without refusals each pattern that was kept is found at the place of its call
abbrev pub KeptPatternsArePlaced : Type 0
KeptPatternsArePlaced =
    (kept : Kept) (placed : List Placed) (e : Expr) → (judged e).refusals ≡ [] → AreKept kept (judged e).replacements placed → TellApart (judged e).replacements
    → PatternsArePlaced kept placed e
