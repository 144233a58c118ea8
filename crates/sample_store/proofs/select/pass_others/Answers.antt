use Rattle.std.proofs.Common.{rules, ◌≡◌, ◌+◌, ◌-◌, ◌∙◌, List, ℕ, take, drop, length, Bool, true, false, sym, ap, subst}
use Rattle.std.specs.Prelude.{IfOk}
use Rattle.match_rule.specs.Patterns.{labels_pass}
use Rattle.sample_store.proofs.Others.{before_fails, rest_decides}
use Rattle.sample_store.proofs.select.pass_others.Goals as goal

pub returns-then-not-branch-clause-answer : goal.returns-then-not-branch-clause-answer
returns-then-not-branch-clause-answer c =
    let kept = c.args.patterns.now in
    let names = c.args.labels.now in
    let told : c.in_ok-labels_pass.field-0 ≡ false = search rules in
    sym (before_fails kept c.args.rules.now c.args.place names c.requires.passed (sym c.in_ok-labels_pass.ensures.answer ∙ told))

pub returns-clause-answer : goal.returns-clause-answer
returns-clause-answer c =
    let kept = c.args.patterns.now in
    let names = c.args.labels.now in
    let all = c.args.rules.now in
    let place = c.args.place in
    let behind = take (length all - (place + 1)) (drop (place + 1) all) in
    let told : c.in_ok-labels_pass.field-0 ≡ true = search rules in
    let before : labels_pass kept (take place all) names ≡ true = sym c.in_ok-labels_pass.ensures.answer ∙ told in
    let same : c.labels_pass.new.patterns ≡ kept = c.in_ok-labels_pass.ensures.same in
    subst (λ (z : Bool). IfOk c.labels_pass-2.result (λ b. b ≡ z))
    (ap (λ (z : List (Bool × List ℕ)). labels_pass z behind names) same ∙ sym (rest_decides kept all place names c.requires.passed before))
    c.labels_pass-2.ensures.answer
