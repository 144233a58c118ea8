-- A node without refusals fits.
use Rattle.std.proofs.Common.{◌≡◌, ◌∙◌, ℕ, ◌+◌, List, [], ◌∷◌, ◌++◌, length, ap, sym, refl, Bool, true, false, arith}
use Rattle.std.proofs.Common.{true≢false}
use Rattle.std.proofs.lemmas.Bool.{false≢true}
use Rattle.std.specs.Prelude.{Option, Some, None, ◌||◌, IfSome}
use Rattle.promql_ast.specs.declared.refusal.QueryRefusal.{QueryRefusal}
use Rattle.promql_ast.specs.declared.tree.Node.TheOpen.{Node-F}
use Rattle.promql_ast.specs.declared.tree.Node.TheFolds.{fold_out-Expr, fold_out-Node}
use Rattle.promql_type.specs.declared.kind.Kind.{Kind}
use Rattle.promql_type.specs.declared.kind.Kind.TheVariants.{Scalar, Vector, Windows, Words}
use Rattle.promql_type.specs.declared.kind.Operand.{Operand}
use Rattle.promql_type.specs.declared.signature.Callee.{Callee}
use Rattle.promql_type.specs.declared.signature.Callee.TheVariants.{Function, Aggregation}
use Rattle.promql_type.specs.Fits.{FitArguments, Fits, FitsCall, TypedTreesFit, layer_of}
use Rattle.promql_type.specs.Judging.{Judgement, Layer, arguments_refusals, call_refusals, expr_step, node_step, refusals, strings_refusals}
use Rattle.promql_type.specs.Kinds.{is_kind, is_number, is_scalar}
use Rattle.promql_type.specs.Rules.{argument_refusals, count_refusals, matching_refusals, operand_refusals, unless_true, where_true}
use Rattle.promql_type.specs.Signatures.{Signature, argument, is_count, signature}
use Rattle.promql_type.proofs.Taken.{left_none, right_none}

unless_none : (b : Bool) (r : QueryRefusal) → unless_true b r ≡ [] → b ≡ true
unless_none true r is = refl
unless_none false r is = absurd (omega (arith, ap length is))

where_none : (b : Bool) (r : QueryRefusal) → where_true b r ≡ [] → b ≡ false
where_none false r is = refl
where_none true r is = absurd (omega (arith, ap length is))

same_kind : (a b : Kind) → is_kind a b ≡ true → b ≡ a
same_kind Scalar Scalar is = refl
same_kind Vector Vector is = refl
same_kind Windows Windows is = refl
same_kind Words Words is = refl
same_kind Scalar Vector is = absurd (false≢true is)
same_kind Scalar Windows is = absurd (false≢true is)
same_kind Scalar Words is = absurd (false≢true is)
same_kind Vector Scalar is = absurd (false≢true is)
same_kind Vector Windows is = absurd (false≢true is)
same_kind Vector Words is = absurd (false≢true is)
same_kind Windows Scalar is = absurd (false≢true is)
same_kind Windows Vector is = absurd (false≢true is)
same_kind Windows Words is = absurd (false≢true is)
same_kind Words Scalar is = absurd (false≢true is)
same_kind Words Vector is = absurd (false≢true is)
same_kind Words Windows is = absurd (false≢true is)

vector : (k : Kind) → is_number k ≡ true → is_scalar k ≡ false → k ≡ Vector
vector Scalar number scalar = absurd (true≢false scalar)
vector Vector number scalar = refl
vector Windows number scalar = absurd (false≢true number)
vector Words number scalar = absurd (false≢true number)

left_false : (a b : Bool) → (a || b) ≡ false → a ≡ false
left_false false b is = refl
left_false true b is = is

right_false : (a b : Bool) → (a || b) ≡ false → b ≡ false
right_false false b is = is
right_false true b is = absurd (true≢false is)

operand : (o : Operand) → operand_refusals o ≡ [] → is_number o.gives ≡ true
operand o is = unless_none (is_number o.gives) _ is

fits_argument : (wanted : Option Kind) (j : Judgement) → argument_refusals wanted j.operand ≡ [] → IfSome wanted (λ k. j.operand.gives ≡ k)
fits_argument None j is = record {}
fits_argument (Some k) j is = same_kind k j.operand.gives (unless_none (is_kind k j.operand.gives) _ is)

fit_arguments : (row : Signature) (n : ℕ) (js : List Judgement) → arguments_refusals row n js ≡ [] → FitArguments row n js
fit_arguments row n [] is = record {}
fit_arguments row n (j ∷ js) is =
    let here = left_none (j.refusals ++ argument_refusals (argument row n) j.operand) (arguments_refusals row (n + 1) js) is in (
      left_none j.refusals (argument_refusals (argument row n) j.operand) here,
      fits_argument (argument row n) j (right_none j.refusals (argument_refusals (argument row n) j.operand) here),
      fit_arguments row (n + 1) js (right_none (j.refusals ++ argument_refusals (argument row n) j.operand) (arguments_refusals row (n + 1) js) is),
    )

fits_call : (callee : Callee) (js : List Judgement) (at : ℕ) → call_refusals callee js at ≡ [] → FitsCall callee js
fits_call callee js at is =
    let row = signature callee in
    let behind = right_none (count_refusals row (length js) at) (arguments_refusals row 0 js ++ strings_refusals callee js) is in (
      unless_none (is_count row (length js)) _ (left_none (count_refusals row (length js) at) _ is),
      fit_arguments row 0 js (left_none (arguments_refusals row 0 js) (strings_refusals callee js) behind),
      right_none (arguments_refusals row 0 js) (strings_refusals callee js) behind,
    )

fits : (y : Layer) (at : ℕ) → refusals y at ≡ [] → Fits y at
fits (Node-F.Number value) at is = record {}
fits (Node-F.Words text) at is = record {}
fits (Node-F.Paren inner) at is = is
fits (Node-F.Negate inner) at is = (left_none inner.refusals _ is, operand inner.operand (right_none inner.refusals _ is))
fits (Node-F.Select selector) at is = record {}
fits (Node-F.Range selector range) at is = record {}
fits (Node-F.Subquery inner range step moment) at is =
    (left_none inner.refusals _ is, fits_argument (Some Vector) inner (right_none inner.refusals _ is))
fits (Node-F.Call f js) at is = fits_call (Function f) js at is
fits (Node-F.Aggregate f grouping js) at is = fits_call (Aggregation f) js at is
fits (Node-F.Pair op left right pairing) at is =
    let both = left_none (left.refusals ++ right.refusals) _ is in
    let own = right_none (left.refusals ++ right.refusals) _ is in
    let operands = left_none (operand_refusals left.operand ++ operand_refusals right.operand) _ own in
    let rest = right_none (operand_refusals left.operand ++ operand_refusals right.operand) _ own in (
      (left_none left.refusals right.refusals both, operand left.operand (left_none (operand_refusals left.operand) _ operands)),
      (right_none left.refusals right.refusals both, operand right.operand (right_none (operand_refusals left.operand) _ operands)),
      left_none (matching_refusals pairing left.operand right.operand) _ rest,
      right_none (matching_refusals pairing left.operand right.operand) _ rest,
    )
fits (Node-F.Set op left right pairing) at is =
    let both = left_none (left.refusals ++ right.refusals) _ is in
    let own = right_none (left.refusals ++ right.refusals) _ is in
    let operands = left_none (operand_refusals left.operand ++ operand_refusals right.operand) _ own in
    let rest = right_none (operand_refusals left.operand ++ operand_refusals right.operand) _ own in
    let scalars = where_none (is_scalar left.operand.gives || is_scalar right.operand.gives) _ (right_none (matching_refusals pairing left.operand right.operand) _ rest) in (
      (
        left_none left.refusals right.refusals both,
        vector left.operand.gives (operand left.operand (left_none (operand_refusals left.operand) _ operands)) (left_false (is_scalar left.operand.gives) _ scalars),
      ),
      (
        right_none left.refusals right.refusals both,
        vector right.operand.gives (operand right.operand (right_none (operand_refusals left.operand) _ operands)) (right_false (is_scalar left.operand.gives) _ scalars),
      ),
    )

pub typed_trees_fit_lem : TypedTreesFit
typed_trees_fit_lem e is =
    fits (layer_of e) e.at
    (sym (ap (λ (j : Judgement). j.refusals) (fold_out-Expr (ℕ → Judgement) Judgement node_step expr_step e ∙ ap (λ (f : ℕ → Judgement). f e.at) (fold_out-Node (ℕ → Judgement) Judgement node_step expr_step e.node))) ∙ is)
