use Rattle.std.proofs.Common.{◌≡◌, ◌∙◌, ap, length, rules}
use Rattle.std.specs.Prelude.{unwrap_or}
use Rattle.match_rule.proofs.Numbers.{number_by_position}
use Rattle.match_rule.proofs.patterns.number_of.Goals as goal

pub returns : goal.returns
returns c =
    let answer : c.unwrap_or.result ≡ unwrap_or c.place_of.result (length c.args.kept.now) = search rules in
    answer ∙ ap (λ o. unwrap_or o (length c.args.kept.now)) c.place_of.ensures ∙ number_by_position (c.args.whole, c.args.text.now) c.args.kept.now
