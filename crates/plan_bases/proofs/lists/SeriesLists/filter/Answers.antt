use Rattle.std.proofs.Common.{rules, ◌≡◌, ◌∙◌, ◌+◌, ◌++◌, List, ℕ, ap, false, refl, sym, subst, true, true≢false}
use Rattle.std.specs.Prelude.{is_some}
use Rattle.holders.specs.Joins.{front_of}
use Rattle.label_set.specs.declared.rules.Rule.{Rule}
use Rattle.match_rule.specs.Patterns.{HasItsPattern, HaveTheirPatterns}
use Rattle.plan_bases.specs.Bases.{AreSeries, is_under}
use Rattle.plan_bases.specs.Looks.{filter_tests}
use Rattle.plan_bases.proofs.Putting.{new_rules, put_right, put_there, some_at}
use Rattle.plan_bases.proofs.lists.SeriesLists.filter.Goals as goal

pub narrowed-requires-clause-joined : goal.narrowed-requires-clause-joined
narrowed-requires-clause-joined g c = c.in_ok-extend_from_slice.ensures.ok ∙ (λ i. c.in_ok-rules.ensures i ++ c.as_slice.ensures i)

pub narrowed-requires-clause-patterns : goal.narrowed-requires-clause-patterns
narrowed-requires-clause-patterns g c = subst (HaveTheirPatterns c.args.patterns.now) c.as_slice-2.ensures (c.if-not-are_rules_kept.ensures.0 refl)

pub returns-in-None-clause-holds : goal.returns-in-None-clause-holds
returns-in-None-clause-holds g c = λ have.
    let kept = c.args.patterns.now in
    let under : is_under c.args.self.now c.args.under.now ≡ true = c.requires.under (front_of (λ (rule : Rule). HasItsPattern kept rule.kind) c.args.under.now c.args.more.now have) in
    absurd (true≢false (sym (c.in_ok-narrowed.ensures.there under) ∙ ap is_some c.in-None.is))

pub returns-in_ok-put-in-Some-clause-right : goal.returns-in_ok-put-in-Some-clause-right
returns-in_ok-put-in-Some-clause-right g c =
    let kept = c.args.patterns.now in
    let store = c.args.store.now in
    let series = c.in-Some.series in
    let joined = c.extend_from_slice.new.self in
    let are : AreSeries kept store joined series = some_at (AreSeries kept store joined) c.in_ok-narrowed.field-0 series c.in-Some.is c.in_ok-narrowed.ensures.series in
    put_right c.in_ok-copy-in-Some.field-0 series c.args.self.now c.put.new.self c.in_ok-put-in-Some.ensures kept store c.requires.right
    (subst (λ (rules : List Rule). AreSeries kept store rules series) (sym c.in_ok-copy-in-Some.ensures) are)

pub returns-in_ok-put-in-Some-clause-holds : goal.returns-in_ok-put-in-Some-clause-holds
returns-in_ok-put-in-Some-clause-holds g c = λ have.
    let joined : c.extend_from_slice.new.self ≡ c.args.under.now ++ c.args.more.now = c.in_ok-extend_from_slice.ensures.ok ∙ (λ i. c.in_ok-rules.ensures i ++ c.as_slice.ensures i) in
    subst (λ (rules : List Rule). is_under c.put.new.self rules ≡ true) (c.in_ok-copy-in-Some.ensures ∙ joined)
    (put_there c.in_ok-copy-in-Some.field-0 c.in-Some.series c.args.self.now c.put.new.self c.in_ok-put-in-Some.ensures)

pub returns-in-None-clause-counted : goal.returns-in-None-clause-counted
returns-in-None-clause-counted g c = λ have off.
    let kept = c.args.patterns.now in
    let under : is_under c.args.self.now c.args.under.now ≡ true = c.requires.under (front_of (λ (rule : Rule). HasItsPattern kept rule.kind) c.args.under.now c.args.more.now have) in
    absurd (true≢false (sym (c.in_ok-narrowed.ensures.there under) ∙ ap is_some c.in-None.is))

pub returns-in_ok-put-in-Some-clause-counted : goal.returns-in_ok-put-in-Some-clause-counted
returns-in_ok-put-in-Some-clause-counted g c = λ have off.
    some_at (λ (_ : List ℕ). c.narrowed.new.work.tested ≡ c.args.work.now.tested + filter_tests c.args.patterns.now c.args.store.now c.args.under.now c.args.more.now)
    c.in_ok-narrowed.field-0 c.in-Some.series c.in-Some.is c.in_ok-narrowed.ensures.counted

pub returns-in_err-narrowed-clause-uncounted : goal.returns-in_err-narrowed-clause-uncounted
returns-in_err-narrowed-clause-uncounted g c = λ holds.
    let kept = c.args.patterns.now in
    let joined : c.extend_from_slice.new.self ≡ c.args.under.now ++ c.args.more.now = c.in_ok-extend_from_slice.ensures.ok ∙ (λ i. c.in_ok-rules.ensures i ++ c.as_slice.ensures i) in
    let have : HaveTheirPatterns kept c.extend_from_slice.new.self = subst (HaveTheirPatterns kept) c.as_slice-2.ensures (c.if-not-are_rules_kept.ensures.0 refl) in
    let told : c.in_ok-has.field-0 ≡ false = search rules in
    absurd (new_rules kept c.args.self.now c.extend_from_slice.new.self (c.args.under.now ++ c.args.more.now) joined have (sym c.in_ok-has.ensures ∙ told) holds)

pub returns-in-None-clause-uncounted : goal.returns-in-None-clause-uncounted
returns-in-None-clause-uncounted g c = λ holds.
    let kept = c.args.patterns.now in
    let joined : c.extend_from_slice.new.self ≡ c.args.under.now ++ c.args.more.now = c.in_ok-extend_from_slice.ensures.ok ∙ (λ i. c.in_ok-rules.ensures i ++ c.as_slice.ensures i) in
    let have : HaveTheirPatterns kept c.extend_from_slice.new.self = subst (HaveTheirPatterns kept) c.as_slice-2.ensures (c.if-not-are_rules_kept.ensures.0 refl) in
    let told : c.in_ok-has.field-0 ≡ false = search rules in
    absurd (new_rules kept c.args.self.now c.extend_from_slice.new.self (c.args.under.now ++ c.args.more.now) joined have (sym c.in_ok-has.ensures ∙ told) holds)

pub returns-in_err-copy-in-Some-clause-uncounted : goal.returns-in_err-copy-in-Some-clause-uncounted
returns-in_err-copy-in-Some-clause-uncounted g c = λ holds.
    let kept = c.args.patterns.now in
    let joined : c.extend_from_slice.new.self ≡ c.args.under.now ++ c.args.more.now = c.in_ok-extend_from_slice.ensures.ok ∙ (λ i. c.in_ok-rules.ensures i ++ c.as_slice.ensures i) in
    let have : HaveTheirPatterns kept c.extend_from_slice.new.self = subst (HaveTheirPatterns kept) c.as_slice-2.ensures (c.if-not-are_rules_kept.ensures.0 refl) in
    let told : c.in_ok-has.field-0 ≡ false = search rules in
    absurd (new_rules kept c.args.self.now c.extend_from_slice.new.self (c.args.under.now ++ c.args.more.now) joined have (sym c.in_ok-has.ensures ∙ told) holds)

pub returns-in_err-put-in-Some-clause-uncounted : goal.returns-in_err-put-in-Some-clause-uncounted
returns-in_err-put-in-Some-clause-uncounted g c = λ holds.
    let kept = c.args.patterns.now in
    let joined : c.extend_from_slice.new.self ≡ c.args.under.now ++ c.args.more.now = c.in_ok-extend_from_slice.ensures.ok ∙ (λ i. c.in_ok-rules.ensures i ++ c.as_slice.ensures i) in
    let have : HaveTheirPatterns kept c.extend_from_slice.new.self = subst (HaveTheirPatterns kept) c.as_slice-2.ensures (c.if-not-are_rules_kept.ensures.0 refl) in
    let told : c.in_ok-has.field-0 ≡ false = search rules in
    absurd (new_rules kept c.args.self.now c.extend_from_slice.new.self (c.args.under.now ++ c.args.more.now) joined have (sym c.in_ok-has.ensures ∙ told) holds)

pub returns-in_ok-put-in-Some-clause-uncounted : goal.returns-in_ok-put-in-Some-clause-uncounted
returns-in_ok-put-in-Some-clause-uncounted g c = λ holds.
    let kept = c.args.patterns.now in
    let joined : c.extend_from_slice.new.self ≡ c.args.under.now ++ c.args.more.now = c.in_ok-extend_from_slice.ensures.ok ∙ (λ i. c.in_ok-rules.ensures i ++ c.as_slice.ensures i) in
    let have : HaveTheirPatterns kept c.extend_from_slice.new.self = subst (HaveTheirPatterns kept) c.as_slice-2.ensures (c.if-not-are_rules_kept.ensures.0 refl) in
    let told : c.in_ok-has.field-0 ≡ false = search rules in
    absurd (new_rules kept c.args.self.now c.extend_from_slice.new.self (c.args.under.now ++ c.args.more.now) joined have (sym c.in_ok-has.ensures ∙ told) holds)
