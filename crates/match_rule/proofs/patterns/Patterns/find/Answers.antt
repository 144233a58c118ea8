use Rattle.std.proofs.Common.{◌≡◌, ◌<◌, ◌≤◌, ℕ, length, subst, rules}
use Rattle.match_rule.specs.Patterns.{number_of}
use Rattle.match_rule.proofs.Numbers.{absent, number_there}
use Rattle.match_rule.proofs.patterns.Patterns.find.Goals as goal

pub returns-then-place-len-clause-there : goal.returns-then-place-len-clause-there
returns-then-place-len-clause-there c =
    let ks = c.self.inside.kept.items in
    let view : c.args.self.now ≡ ks = cc in
    let place : c.number_of-place.result ≡ number_of (c.args.whole, c.args.text.now) ks = search rules in
    let below : c.number_of-place.result < length ks = search rules in
    rw (view, place) (number_there (c.args.whole, c.args.text.now) ks (subst (λ (n : ℕ). n < length ks) place below))

pub returns-clause-none : goal.returns-clause-none
returns-clause-none c =
    let ks = c.self.inside.kept.items in
    let view : c.args.self.now ≡ ks = cc in
    let place : c.number_of-place.result ≡ number_of (c.args.whole, c.args.text.now) ks = search rules in
    let above : length ks ≤ c.number_of-place.result = search rules in
    let none = absent (c.args.whole, c.args.text.now) ks (subst (λ (n : ℕ). length ks ≤ n) place above) in
    rw view none
