use Rattle.std.proofs.Common.{◌≡◌, ◌∙◌, ℕ, List, ap, drop, map, subst}
use Rattle.std.specs.Prelude.{IfOk}
use Rattle.step_table.specs.declared.step.Step.{Step}
use Rattle.promql_meaning.specs.declared.given.Given.{Given}
use Rattle.promql_meaning.specs.Givens.{words_of}
use Rattle.promql_meaning.specs.Meaning.{argument, step_at, words_at}
use Rattle.promql_meaning.specs.Relabels.{label_joined}
use Rattle.plain_eval.proofs.Taken.{behind_third, second_is, third_is}
use Rattle.plain_eval.proofs.calls.joined.Goals as goal

-- what is joined, where the arguments are taken one after another
of_arguments : (all one two three : List Given) (step : Step) (target separator : List ℕ) (sources : List (List ℕ)) → step ≡ step_at all 0
    → one ≡ drop 1 all → target ≡ words_of (argument one 0) → two ≡ drop 1 one → separator ≡ words_of (argument two 0) → three ≡ drop 1 two → sources ≡ map words_of three
    → label_joined target separator sources step ≡ label_joined (words_at all 1) (words_at all 2) (map words_of (drop 3 all)) (step_at all 0)
of_arguments all one two three step target separator sources first gone text gone_two text_two gone_three texts =
    let taken : target ≡ words_at all 1 = text ∙ ap (λ gs. words_of (argument gs 0)) gone ∙ ap words_of (second_is all) in
    let two_is : two ≡ drop 1 (drop 1 all) = gone_two ∙ ap (drop 1) gone in
    let taken_two : separator ≡ words_at all 2 = text_two ∙ ap (λ gs. words_of (argument gs 0)) two_is ∙ ap words_of (third_is all) in
    let left : sources ≡ map words_of (drop 3 all) = texts ∙ ap (map words_of) (gone_three ∙ ap (drop 1) two_is ∙ behind_third all) in
    ap (λ t. label_joined t separator sources step) taken ∙ ap (λ t. label_joined (words_at all 1) t sources step) taken_two
    ∙ ap (λ ts. label_joined (words_at all 1) (words_at all 2) ts step) left ∙ ap (label_joined (words_at all 1) (words_at all 2) (map words_of (drop 3 all))) first

pub returns : goal.returns
returns c =
    let all = c.args.arguments in
    let taken : label_joined c.as_str.result.now c.as_str-2.result.now c.as_slice.result.now c.in_ok-step.step ≡ label_joined (words_at all 1) (words_at all 2) (map words_of (drop 3 all)) (step_at all 0) =
    of_arguments all _ _ _ c.in_ok-step.step c.as_str.result.now c.as_str-2.result.now c.as_slice.result.now c.in_ok-step.ensures.step
    c.in_ok-step.ensures.rest (c.as_str.ensures ∙ c.in_ok-target.ensures.text) c.in_ok-target.ensures.rest (c.as_str-2.ensures ∙ c.in_ok-separator.ensures.text) c.in_ok-separator.ensures.rest
    (c.as_slice.ensures ∙ c.in_ok-sources.ensures) in
    subst (λ x. IfOk c.label_joined.result (λ s. s ≡ x)) taken c.label_joined.ensures
