use Rattle.std.proofs.Common.{◌≡◌, ◌∙◌, ◌<◌, ◌≤◌, ◌+◌, ◌*◌, ◌++◌, List, ℕ, ap, filter, length, refl, sym, subst, true≢false}
use Rattle.std.specs.List.{AllByRecursion}
use Rattle.holders.specs.Joins.{back_of}
use Rattle.label_set.specs.declared.rules.Rule.{Rule}
use Rattle.match_rule.specs.Patterns.{HasItsPattern, HaveTheirPatterns, labels_pass}
use Rattle.sample_store.specs.Samples.{labels_at, looked_at}
use Rattle.plan_bases.specs.Bases.{AreSeries}
use Rattle.plan_bases.specs.Looks.{LooksAt}
use Rattle.plan_bases.proofs.Counting.{selects, tests_each}
use Rattle.plan_bases.proofs.Narrowing.{are_there, narrowed}
use Rattle.plan_bases.proofs.Putting.{found_is}
use Rattle.plan_bases.proofs.lists.SeriesLists.narrowed.Goals as goal

pub returns-in_err-select-clause-tested : goal.returns-in_err-select-clause-tested
returns-in_err-select-clause-tested g c =
    let kept = c.args.patterns.now in
    let store = c.args.store.now in
    let under = c.args.under.now in
    let more = c.args.more.now in
    let joined = c.args.joined.now in
    let series = c.in-Some.series.now in
    let are = c.requires.right under series (found_is c.in_ok-series.field-0 c.in-Some.series _ c.in-Some.is c.in_ok-series.ensures) in
    let looks : c.in_ok-looks.field-0 ≡ looked_at joined store = c.in_ok-looks.ensures ∙ ap (λ (rules : List Rule). looked_at rules store) c.as_slice.ensures in
    let tests : length c.as_slice-numbers.result.now * length c.as_slice-rules.result.now ≡ length series * length more = λ i. length (c.as_slice-numbers.ensures i) * length (c.as_slice-rules.ensures i) in
    let most = selects kept store under more joined series c.requires.joined are c.in_ok-looks.field-0 _ looks tests (c.if-is_less.ensures.0 refl) in
    record {
      tested = subst (λ (n : ℕ). c.select.new.work.tested ≤ c.args.work.now.tested + n) most c.select.ensures.tested_most;
      fetched = c.select.ensures.fetched;
      probed = c.select.ensures.probed;
    }

pub returns-then-is_less-clause-tested : goal.returns-then-is_less-clause-tested
returns-then-is_less-clause-tested g c =
    let kept = c.args.patterns.now in
    let store = c.args.store.now in
    let under = c.args.under.now in
    let more = c.args.more.now in
    let joined = c.args.joined.now in
    let series = c.in-Some.series.now in
    let are = c.requires.right under series (found_is c.in_ok-series.field-0 c.in-Some.series _ c.in-Some.is c.in_ok-series.ensures) in
    let looks : c.in_ok-looks.field-0 ≡ looked_at joined store = c.in_ok-looks.ensures ∙ ap (λ (rules : List Rule). looked_at rules store) c.as_slice.ensures in
    let tests : length c.as_slice-numbers.result.now * length c.as_slice-rules.result.now ≡ length series * length more = λ i. length (c.as_slice-numbers.ensures i) * length (c.as_slice-rules.ensures i) in
    let most = selects kept store under more joined series c.requires.joined are c.in_ok-looks.field-0 _ looks tests (c.if-is_less.ensures.0 refl) in
    record {
      tested = subst (λ (n : ℕ). c.select.new.work.tested ≤ c.args.work.now.tested + n) most c.select.ensures.tested_most;
      fetched = c.select.ensures.fetched;
      probed = c.select.ensures.probed;
    }

pub returns-then-is_less-clause-counted : goal.returns-then-is_less-clause-counted
returns-then-is_less-clause-counted g c =
    let kept = c.args.patterns.now in
    let store = c.args.store.now in
    let under = c.args.under.now in
    let more = c.args.more.now in
    let joined = c.args.joined.now in
    let series = c.in-Some.series.now in
    let are = c.requires.right under series (found_is c.in_ok-series.field-0 c.in-Some.series _ c.in-Some.is c.in_ok-series.ensures) in
    let looks : c.in_ok-looks.field-0 ≡ looked_at joined store = c.in_ok-looks.ensures ∙ ap (λ (rules : List Rule). looked_at rules store) c.as_slice.ensures in
    let tests : length c.as_slice-numbers.result.now * length c.as_slice-rules.result.now ≡ length series * length more = λ i. length (c.as_slice-numbers.ensures i) * length (c.as_slice-rules.ensures i) in
    let most = selects kept store under more joined series c.requires.joined are c.in_ok-looks.field-0 _ looks tests (c.if-is_less.ensures.0 refl) in
    c.in_ok-select.ensures.tested ∙ ap (λ (n : ℕ). c.args.work.now.tested + n) most

pub passing-requires-clause-rules : goal.passing-requires-clause-rules
passing-requires-clause-rules g c =
    let kept = c.args.patterns.now in
    let all : HaveTheirPatterns kept (c.args.under.now ++ c.args.more.now) = subst (HaveTheirPatterns kept) c.requires.joined c.requires.patterns in
    subst (HaveTheirPatterns kept) (sym c.as_slice-rules.ensures) (back_of (λ (rule : Rule). HasItsPattern kept rule.kind) c.args.under.now c.args.more.now all)

pub passing-requires-clause-there : goal.passing-requires-clause-there
passing-requires-clause-there g c =
    let store = c.args.store.now in
    let series = c.in-Some.series in
    let are = c.requires.right c.args.under.now series.now (found_is c.in_ok-series.field-0 series _ c.in-Some.is c.in_ok-series.ensures) in
    subst (AllByRecursion (λ (n : ℕ). n < length store)) (sym c.as_slice-numbers.ensures) (are_there c.args.patterns.now store c.args.under.now series.now are)

pub returns-in_err-found-clause-tested : goal.returns-in_err-found-clause-tested
returns-in_err-found-clause-tested g c =
    let kept = c.args.patterns.now in
    let store = c.args.store.now in
    let under = c.args.under.now in
    let more = c.args.more.now in
    let joined = c.args.joined.now in
    let series = c.in-Some.series.now in
    let are = c.requires.right under series (found_is c.in_ok-series.field-0 c.in-Some.series _ c.in-Some.is c.in_ok-series.ensures) in
    let looks : c.in_ok-looks.field-0 ≡ looked_at joined store = c.in_ok-looks.ensures ∙ ap (λ (rules : List Rule). looked_at rules store) c.as_slice.ensures in
    let tests : length c.as_slice-numbers.result.now * length c.as_slice-rules.result.now ≡ length series * length more = λ i. length (c.as_slice-numbers.ensures i) * length (c.as_slice-rules.ensures i) in
    let most = tests_each kept store under more joined series c.requires.joined are c.in_ok-looks.field-0 _ looks tests (λ less. true≢false (sym (c.if-is_less.ensures.1 less))) in
    subst (LooksAt c.args.work.now c.passing.new.work) most c.passing.ensures.tested

pub returns-clause-tested : goal.returns-clause-tested
returns-clause-tested g c =
    let kept = c.args.patterns.now in
    let store = c.args.store.now in
    let under = c.args.under.now in
    let more = c.args.more.now in
    let joined = c.args.joined.now in
    let series = c.in-Some.series.now in
    let are = c.requires.right under series (found_is c.in_ok-series.field-0 c.in-Some.series _ c.in-Some.is c.in_ok-series.ensures) in
    let looks : c.in_ok-looks.field-0 ≡ looked_at joined store = c.in_ok-looks.ensures ∙ ap (λ (rules : List Rule). looked_at rules store) c.as_slice.ensures in
    let tests : length c.as_slice-numbers.result.now * length c.as_slice-rules.result.now ≡ length series * length more = λ i. length (c.as_slice-numbers.ensures i) * length (c.as_slice-rules.ensures i) in
    let most = tests_each kept store under more joined series c.requires.joined are c.in_ok-looks.field-0 _ looks tests (λ less. true≢false (sym (c.if-is_less.ensures.1 less))) in
    subst (LooksAt c.args.work.now c.passing.new.work) most c.passing.ensures.tested

pub returns-clause-counted : goal.returns-clause-counted
returns-clause-counted g c =
    let kept = c.args.patterns.now in
    let store = c.args.store.now in
    let under = c.args.under.now in
    let more = c.args.more.now in
    let joined = c.args.joined.now in
    let series = c.in-Some.series.now in
    let are = c.requires.right under series (found_is c.in_ok-series.field-0 c.in-Some.series _ c.in-Some.is c.in_ok-series.ensures) in
    let looks : c.in_ok-looks.field-0 ≡ looked_at joined store = c.in_ok-looks.ensures ∙ ap (λ (rules : List Rule). looked_at rules store) c.as_slice.ensures in
    let tests : length c.as_slice-numbers.result.now * length c.as_slice-rules.result.now ≡ length series * length more = λ i. length (c.as_slice-numbers.ensures i) * length (c.as_slice-rules.ensures i) in
    let most = tests_each kept store under more joined series c.requires.joined are c.in_ok-looks.field-0 _ looks tests (λ less. true≢false (sym (c.if-is_less.ensures.1 less))) in
    c.in_ok-found.ensures.counted ∙ ap (λ (n : ℕ). c.args.work.now.tested + n) most

pub returns-clause-series : goal.returns-clause-series
returns-clause-series g c =
    let kept = c.args.patterns.now in
    let store = c.args.store.now in
    let under = c.args.under.now in
    let more = c.args.more.now in
    let series = c.in-Some.series in
    let are = c.requires.right under series.now (found_is c.in_ok-series.field-0 series _ c.in-Some.is c.in_ok-series.ensures) in
    subst (AreSeries kept store c.args.joined.now)
    (sym (c.in_ok-found.ensures.passing ∙ (λ i. filter (λ (n : ℕ). labels_pass kept (c.as_slice-rules.ensures i) (labels_at store n)) (c.as_slice-numbers.ensures i))))
    (subst (λ (rules : List Rule). AreSeries kept store rules (filter (λ (n : ℕ). labels_pass kept more (labels_at store n)) series.now)) (sym c.requires.joined) (narrowed kept store under more series.now are))
