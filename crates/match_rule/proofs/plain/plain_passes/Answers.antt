use Rattle.std.proofs.Common.{lit<, List, ℕ, bytes_eq, if◌then◌else◌, rules, tests}
use Rattle.std.proofs.lemmas.Iterator.Search.{any_from_yields_List}
use Rattle.std.proofs.lemmas.Iterator.Splits.{YieldsList-from_str_split}
use Rattle.match_rule.specs.Patterns.{stands_in}
use Rattle.match_rule.proofs.plain.plain_passes.Goals as goal

pub returns : goal.returns
returns c =
    any_from_yields_List (λ (word : List ℕ). if c.args.whole then bytes_eq word c.args.value.now else stands_in word c.args.value.now) _ _ c.any.result c.any.ensures.ran
    (YieldsList-from_str_split 124 c.args.text.now (lit< tt) c.split.ensures.text c.split.ensures.has_more c.split.ensures.pattern)
    (λ x b q k. search (rules, tests))
