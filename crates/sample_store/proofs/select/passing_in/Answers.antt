use Rattle.std.proofs.Common.{rules, ◌≡◌, Bool, List, ℕ, true, false, map, sym, subst, ◌∙◌, refl}
use Rattle.match_rule.specs.Patterns.{labels_pass}
use Rattle.sample_store.specs.Samples.{PassRule, labels_at, passing_at}
use Rattle.sample_store.proofs.Selects.{named}
use Rattle.sample_store.proofs.Listed.{all_looked_at, listed_passes, listed_there, missed_at, passed_at, rule_there}
use Rattle.sample_store.proofs.Stores.{total_labels}
use Rattle.sample_store.proofs.select.passing_in.Goals as goal

pub loop-i-preserved-then-not-branch : goal.loop-i-preserved-then-not-branch
loop-i-preserved-then-not-branch g c =
    let i = c.loop-i.i in
    let all = c.args.series.now.entries in
    let kept = c.args.patterns.now in
    let rules_now = c.args.rules.now in
    let names = c.key_at-names.result.now in
    let told : c.in_ok-pass_others.field-0 ≡ false = search rules in
    let off : labels_pass kept rules_now names ≡ false =
    subst (λ (z : List (Bool × List ℕ)). labels_pass z rules_now names ≡ false) c.loop-i.invariant.same (sym c.in_ok-pass_others.ensures.answer ∙ told) in
    record {
      found = missed_at kept rules_now all c.args.list.numbers.now i c.number_at-number.result names (passing_at kept rules_now all c.args.list.numbers.now) c.loop-i.found.items c.loop-i.invariant.found c.number_at-number.ensures (sym (total_labels all c.number_at-number.result names c.key_at-names.ensures)) off;
      same = search rules;
      tested = search rules;
      fetched = search rules;
      probed = search rules;
    }

pub loop-i-preserved : goal.loop-i-preserved
loop-i-preserved g c =
    let i = c.loop-i.i in
    let all = c.args.series.now.entries in
    let kept = c.args.patterns.now in
    let rules_now = c.args.rules.now in
    let names = c.key_at-names.result.now in
    let told : c.in_ok-pass_others.field-0 ≡ true = search rules in
    let on : labels_pass kept rules_now names ≡ true =
    subst (λ (z : List (Bool × List ℕ)). labels_pass z rules_now names ≡ true) c.loop-i.invariant.same (sym c.in_ok-pass_others.ensures.answer ∙ told) in
    record {
      found =
          passed_at kept rules_now all c.args.list.numbers.now i c.number_at-number.result names (passing_at kept rules_now all c.args.list.numbers.now) c.loop-i.found.items c.loop-i.invariant.found c.number_at-number.ensures (sym (total_labels all c.number_at-number.result names c.key_at-names.ensures))
          c.push.new.self.items (c.key_at-names.result, c.number_at-number.result) on c.in_ok-push.ensures.items refl refl;
      same = search rules;
      tested = search rules;
      fetched = search rules;
      probed = search rules;
    }

pub returns-clause-found : goal.returns-clause-found
returns-clause-found g c =
    all_looked_at c.args.patterns.now c.args.rules.now c.args.series.now.entries c.args.list.numbers.now c.loop-i.i (map named c.loop-i.found.items) (passing_at c.args.patterns.now c.args.rules.now c.args.series.now.entries c.args.list.numbers.now) (search rules) c.loop-i.invariant.found

pub key_at-names-requires : goal.key_at-names-requires
key_at-names-requires g c =
    listed_there c.args.rules.now c.args.series.now.entries c.args.list.rule c.args.list.numbers.now c.requires.listed c.loop-i.i c.number_at-number.result c.number_at-number.ensures

pub pass_others-requires-clause-within : goal.pass_others-requires-clause-within
pass_others-requires-clause-within g c = rule_there c.args.rules.now c.args.series.now.entries c.args.list.rule c.args.list.numbers.now c.requires.listed

pub pass_others-requires-clause-passed : goal.pass_others-requires-clause-passed
pass_others-requires-clause-passed g c =
    let all = c.args.series.now.entries in
    let place = c.args.list.rule in
    let rules_now = c.args.rules.now in
    let kept = c.loop-i.patterns in
    let number = c.number_at-number.result in
    let names = c.key_at-names.result.now in
    let at : labels_at all number ≡ names = sym (total_labels all number names c.key_at-names.ensures) in
    subst (PassRule kept rules_now place) at (listed_passes rules_now all place c.args.list.numbers.now c.requires.listed kept c.loop-i.i number c.number_at-number.ensures)
