use Rattle.std.proofs.Common.{lit<, List, ℕ, bytes_eq, rules, tests}
use Rattle.std.proofs.lemmas.Iterator.Search.{any_from_yields_List}
use Rattle.std.proofs.lemmas.Iterator.Splits.{YieldsList-from_str_split}
use Rattle.tool_words.proofs.opts.is_listed.Goals as goal

pub returns : goal.returns
returns c =
    any_from_yields_List (λ (word : List ℕ). bytes_eq word c.args.name.now) _ _ c.any.result c.any.ensures.ran
    (YieldsList-from_str_split 44 c.args.list.now (lit< tt) c.split.ensures.text c.split.ensures.has_more c.split.ensures.pattern)
    (λ x b q k. search (rules, tests))
