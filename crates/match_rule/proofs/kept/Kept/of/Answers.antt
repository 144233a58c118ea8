use Rattle.std.proofs.Common.{◌≡◌, ◌∙◌, ap, false, is_none, sym}
use Rattle.match_rule.specs.Patterns.{is_plain, regex_text}
use Rattle.match_rule.proofs.Searches.{searches}
use Rattle.match_rule.proofs.kept.Kept.of.Goals as goal

pub with-requires-in-Some : goal.with-requires-in-Some
with-requires-in-Some c =
    let off : false ≡ is_plain c.args.text.now = sym (ap is_none c.in-Some.is) ∙ c.requires.0 in
    let source = c.requires.1 c.in-Some.built c.in-Some.is in
    let made = c.in_ok-matcher-in-Some.ensures in
    rw c.in_ok-text.ensures (off, searches c.in_ok-matcher-in-Some.matcher c.in-Some.built.source (regex_text c.args.whole c.args.text.now) source made)
