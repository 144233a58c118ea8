use Rattle.std.proofs.Common.{◌≡◌, ◌∙◌, ◌<◌, ◌≤◌, ℕ, Bool, List, ap, length, subst, rules, arith}
use Rattle.match_rule.specs.Patterns.{is_readable, number_of}
use Rattle.match_rule.proofs.Numbers.{earlier_kept, last_kept, last_within, number_at_most, number_there, one_more}
use Rattle.match_rule.proofs.patterns.Patterns.keep.Goals as goal

pub returns-then-place-len-clause-there : goal.returns-then-place-len-clause-there
returns-then-place-len-clause-there c =
    let ks = c.self.inside.kept.items in
    let view : c.args.self.now ≡ ks = cc in
    let place : c.number_of-place.result ≡ number_of (c.args.whole, c.args.text.now) ks = search rules in
    let below : c.number_of-place.result < length ks = search rules in
    rw (view, place) (number_there (c.args.whole, c.args.text.now) ks (subst (λ (n : ℕ). n < length ks) place below))

pub returns-then-place-len-clause-readable : goal.returns-then-place-len-clause-readable
returns-then-place-len-clause-readable c =
    let ks = c.self.inside.kept.items in
    let place : c.number_of-place.result ≡ number_of (c.args.whole, c.args.text.now) ks = search rules in
    let below : c.number_of-place.result < length ks = search rules in
    c.self.invariant.readable _ _ (number_there (c.args.whole, c.args.text.now) ks (subst (λ (n : ℕ). n < length ks) place below))

pub overflow_cast-result-2 : goal.overflow_cast-result-2
overflow_cast-result-2 c =
    let ks = c.self.inside.kept.items in
    let place : c.number_of-place.result ≡ number_of (c.args.whole, c.args.text.now) ks = search rules in
    let most = number_at_most (c.args.whole, c.args.text.now) ks in
    let few : length ks ≤ 32 = c.self.invariant.few in
    let small : c.number_of-place.result ≤ 32 = omega arith in
    search rules

pub returns-clause-there : goal.returns-clause-there
returns-clause-there c =
    let ks = c.self.inside.kept.items in
    let place : c.number_of-place.result ≡ number_of (c.args.whole, c.args.text.now) ks = search rules in
    let most = number_at_most (c.args.whole, c.args.text.now) ks in
    let above : length ks ≤ c.number_of-place.result = search rules in
    let end : c.number_of-place.result ≡ length ks = omega arith in
    rw (c.in_ok-push.ensures.items, end, c.in_ok-kept.ensures) (last_kept ks (c.args.whole, c.args.text.now))

pub returns-clause-within : goal.returns-clause-within
returns-clause-within c =
    let ks = c.self.inside.kept.items in
    let place : c.number_of-place.result ≡ number_of (c.args.whole, c.args.text.now) ks = search rules in
    let most = number_at_most (c.args.whole, c.args.text.now) ks in
    let above : length ks ≤ c.number_of-place.result = search rules in
    let end : c.number_of-place.result ≡ length ks = omega arith in
    rw (c.in_ok-push.ensures.items, end) (last_within ks c.in_ok-kept.kept)

pub returns-clause-earlier : goal.returns-clause-earlier
returns-clause-earlier c =
    let ks = c.self.inside.kept.items in
    let view : c.args.self.now ≡ ks = cc in
    rw (view, c.in_ok-push.ensures.items) (earlier_kept ks c.in_ok-kept.kept)

pub invariant_of-self-2 : goal.invariant_of-self-2
invariant_of-self-2 c =
    let ks = c.self.inside.kept.items in
    let few : length ks < 32 = search rules in
    let readable = ap (λ (p : Bool × List ℕ). is_readable p.0 p.1) c.in_ok-kept.ensures ∙ c.in_ok-built.ensures.readable in
    rw (c.in_ok-push.ensures.items) (one_more ks c.in_ok-kept.kept c.self.invariant few readable)
