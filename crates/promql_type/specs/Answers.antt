-- What checking a tree answers.
use Rattle.std.specs.Prelude.{◌≡◌, List, [], ◌∷◌, ◌++◌, Option, Some, None}
use Rattle.promql_ast.specs.declared.refusal.QueryRefusal.{QueryRefusal}
use Rattle.promql_ast.specs.declared.tree.Expr.{Expr}
use Rattle.promql_type.specs.declared.typed_tree.TypeFault.{TypeFault}
use Rattle.promql_type.specs.declared.typed_tree.TypeFault.TheVariants.{Refused, Memory}
use Rattle.promql_type.specs.Judging.{judged}
use Rattle.promql_type.specs.Points.{crowded}
use Rattle.promql_type.specs.Refusals.{least}
use Rattle.promql_type.specs.Replacements.{AreBuilt, Kept}
use Rattle.promql_type.specs.Rules.{result_refusals}
use Rattle.promql_type.specs.Settled.{kind_of}

-- all refusals of a tree, but for those of patterns: of its nodes, of its subqueries' points, and of what it gives
abbrev pub refusals_of : Expr → List QueryRefusal
refusals_of e = (judged e).refusals ++ (crowded e 1 ++ result_refusals (kind_of e))

abbrev pub listed : Option QueryRefusal → List QueryRefusal
listed None = []
listed (Some refusal) = refusal ∷ []

-- a refusal is the least one of a tree: of its own and of the pattern that is refused first, if one is
pub record IsLeastRefusal (e : Expr) (before after : Kept) (refusal : QueryRefusal) : Type 0 where
  pub pattern : Option QueryRefusal
  pub built : AreBuilt before (judged e).replacements after pattern
  pub least_is : least (refusals_of e ++ listed pattern) ≡ Some refusal

-- a fault is a refusal of which a fact holds, or want of memory
abbrev pub MayFault : (QueryRefusal → Type 0) → TypeFault → Type 0
MayFault P (Refused refusal) = P refusal
MayFault P Memory = Unit {0}
