use Rattle.std.proofs.Common.{◌≡◌}
use Rattle.match_rule.specs.Patterns.{AreCutFrom, first_spans}
use Rattle.regex.specs.Strings.{captures_haystack}
use Rattle.match_rule.proofs.built.copied.Given as goal

abbrev pub invariant-loop-i : goal.invariant-loop-i
invariant-loop-i l = (l.spans.items ≡ first_spans l.captures l.i) × AreCutFrom (captures_haystack l.captures) l.spans.items
