use Rattle.std.proofs.Common.{rules, ◌≡◌, ◌∙◌, Bool, List, ℕ, true, false, length, sym, subst, ap}
use Rattle.match_rule.specs.Patterns.{labels_pass}
use Rattle.sample_store.specs.Samples.{labels_at}
use Rattle.plan_bases.proofs.Tried.{failed, passed, tests_more}
use Rattle.plan_bases.proofs.testing.passing.Goals as goal

pub loop-i-preserved-then-not-branch : goal.loop-i-preserved-then-not-branch
loop-i-preserved-then-not-branch g c =
    let kept = c.args.patterns.now in
    let rules_now = c.args.rules.now in
    let store = c.args.store.now in
    let n = c.number_at-n.result in
    let told : c.in_ok-passes_each.field-0 ≡ false = search rules in
    let off : labels_pass kept rules_now (labels_at store n) ≡ false =
    subst (λ (z : List (Bool × List ℕ)). labels_pass z rules_now (labels_at store n) ≡ false) c.loop-i.invariant.same (ap (labels_pass c.loop-i.patterns rules_now) (sym c.labels.ensures.named) ∙ sym c.in_ok-passes_each.ensures.answer ∙ told) in
    record {
      found = failed (λ (k : ℕ). labels_pass kept rules_now (labels_at store k)) c.args.numbers.now c.loop-i.i n c.loop-i.found _ c.loop-i.invariant.found c.number_at-n.ensures off;
      same = c.passes_each.ensures.same ∙ c.loop-i.invariant.same;
      tested = tests_more c.loop-i.i (length rules_now) c.args.work.now.tested c.loop-i.work.tested c.passes_each.new.work.tested c.loop-i.invariant.tested c.in_ok-passes_each.ensures.counted;
      fetched = c.passes_each.ensures.tested.fetched ∙ c.loop-i.invariant.fetched;
      probed = c.passes_each.ensures.tested.probed ∙ c.loop-i.invariant.probed;
    }

pub loop-i-preserved : goal.loop-i-preserved
loop-i-preserved g c =
    let kept = c.args.patterns.now in
    let rules_now = c.args.rules.now in
    let store = c.args.store.now in
    let n = c.number_at-n.result in
    let told : c.in_ok-passes_each.field-0 ≡ true = search rules in
    let on : labels_pass kept rules_now (labels_at store n) ≡ true =
    subst (λ (z : List (Bool × List ℕ)). labels_pass z rules_now (labels_at store n) ≡ true) c.loop-i.invariant.same (ap (labels_pass c.loop-i.patterns rules_now) (sym c.labels.ensures.named) ∙ sym c.in_ok-passes_each.ensures.answer ∙ told) in
    record {
      found = passed (λ (k : ℕ). labels_pass kept rules_now (labels_at store k)) c.args.numbers.now c.loop-i.i n c.loop-i.found _ c.loop-i.invariant.found c.number_at-n.ensures c.push.new.self on c.in_ok-push.ensures.ok;
      same = c.passes_each.ensures.same ∙ c.loop-i.invariant.same;
      tested = tests_more c.loop-i.i (length rules_now) c.args.work.now.tested c.loop-i.work.tested c.passes_each.new.work.tested c.loop-i.invariant.tested c.in_ok-passes_each.ensures.counted;
      fetched = c.passes_each.ensures.tested.fetched ∙ c.loop-i.invariant.fetched;
      probed = c.passes_each.ensures.tested.probed ∙ c.loop-i.invariant.probed;
    }
