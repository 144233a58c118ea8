-- The pattern of a ready call of label_replace is kept.
use Rattle.std.proofs.Common.{◌≡◌, ◌∙◌, ℕ, List, [], ◌∷◌, ◌++◌, map, length, ap, sym, refl, Some, arith}
use Rattle.std.specs.Prelude.{ℤ}
use Rattle.func_table.specs.declared.table.Func.TheVariants.{LabelReplace}
use Rattle.promql_ast.specs.declared.tree.Expr.{Expr}
use Rattle.promql_ast.specs.declared.tree.Node.TheVariants.{Call}
use Rattle.promql_ast.specs.Folds.{fold-Call}
use Rattle.promql_type.specs.declared.kind.Kind.{Kind}
use Rattle.promql_type.specs.declared.kind.Kind.TheVariants.{Scalar, Vector, Windows, Words}
use Rattle.promql_type.specs.declared.signature.Callee.TheVariants.{Function}
use Rattle.promql_type.specs.Judging.{Judgement, arguments_refusals, expr_step, judged, literal_at, node_step, strings_refusals}
use Rattle.promql_type.specs.Rules.{Literal, argument_refusals, count_refusals}
use Rattle.promql_type.specs.Signatures.{Signature, argument, signature}
use Rattle.promql_meaning.specs.Meaning.{given_at, meaning, words_at}
use Rattle.promql_meaning.specs.Selecting.{Asked}
use Rattle.plain_eval.specs.Ready.{IsKeptWhole, IsReady}
use Rattle.plain_eval.proofs.Children.{back_none, front_none, pattern_Call}
use Rattle.plain_eval.proofs.Literals.{pattern_there, words_have_text}

abbrev row : Signature
row = signature (Function LabelReplace)

-- what a place for words takes is words
words_taken : (at : ℕ) (k : Kind) → argument_refusals (Some Words) (record { at = at; gives = k }) ≡ [] → k ≡ Words
words_taken at Scalar is = absurd (cc)
words_taken at Vector is = absurd (cc)
words_taken at Windows is = absurd (cc)
words_taken at Words is = refl

takes_words : (j : Judgement) → argument_refusals (Some Words) j.operand ≡ [] → j.operand.gives ≡ Words
takes_words j is = words_taken j.operand.at j.operand.gives is

-- the fifth argument is a string
fifth : (items : List Expr) (at : ℕ) → count_refusals row (length (map judged items)) at ≡ [] → arguments_refusals row 0 (map judged items) ≡ [] → (l : Literal) × (literal_at (map judged items) 4 ≡ Some l)
fifth [] at count fit = absurd (omega (arith, ap length count))
fifth (a ∷ []) at count fit = absurd (omega (arith, ap length count))
fifth (a ∷ b ∷ []) at count fit = absurd (omega (arith, ap length count))
fifth (a ∷ b ∷ c ∷ []) at count fit = absurd (omega (arith, ap length count))
fifth (a ∷ b ∷ c ∷ d ∷ []) at count fit = absurd (omega (arith, ap length count))
fifth (a ∷ b ∷ c ∷ d ∷ e ∷ items) at count fit =
    let own : Judgement → ℕ → _ = λ j n. j.refusals ++ argument_refusals (argument row n) j.operand in
    let behind_a = back_none (own (judged a) 0) (arguments_refusals row 1 (map judged (b ∷ c ∷ d ∷ e ∷ items))) fit in
    let behind_b = back_none (own (judged b) 1) (arguments_refusals row 2 (map judged (c ∷ d ∷ e ∷ items))) behind_a in
    let behind_c = back_none (own (judged c) 2) (arguments_refusals row 3 (map judged (d ∷ e ∷ items))) behind_b in
    let behind_d = back_none (own (judged d) 3) (arguments_refusals row 4 (map judged (e ∷ items))) behind_c in
    let own_e = front_none (own (judged e) 4) (arguments_refusals row 5 (map judged items)) behind_d in
    words_have_text e (takes_words (judged e) (back_none (judged e).refusals (argument_refusals (argument row 4) (judged e).operand) own_e))

pub pattern_of_call : (asked : Asked) (e : Expr) (items : List Expr) (t : ℤ) → e.node ≡ Call LabelReplace items → IsReady asked e t
    → IsKeptWhole asked.kept (words_at (given_at (map (meaning asked) items) t) 4)
pattern_of_call asked e items t is ready =
    let js = map judged items in
    let typed = sym (ap (λ (j : Judgement). j.refusals) (fold-Call node_step expr_step e LabelReplace items is)) ∙ ready.typed in
    let inner = back_none (count_refusals row (length js) e.at) (arguments_refusals row 0 js ++ strings_refusals (Function LabelReplace) js) typed in
    let found = fifth items e.at (front_none (count_refusals row (length js) e.at) (arguments_refusals row 0 js ++ strings_refusals (Function LabelReplace) js) typed)
    (front_none (arguments_refusals row 0 js) (strings_refusals (Function LabelReplace) js) inner) in
    pattern_there asked items e.at found.0 t found.1 (pattern_Call asked e LabelReplace items t is ready)
