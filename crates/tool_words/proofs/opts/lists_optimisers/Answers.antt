use Rattle.std.proofs.Common.{lit<, List, ℕ, rules, tests}
use Rattle.std.proofs.lemmas.Iterator.Search.{all_from_yields_List}
use Rattle.std.proofs.lemmas.Iterator.Splits.{YieldsList-from_str_split}
use Rattle.tool_words.specs.Opts.{is_optimiser}
use Rattle.tool_words.proofs.opts.lists_optimisers.Goals as goal

pub returns : goal.returns
returns c =
    all_from_yields_List (λ (word : List ℕ). is_optimiser word) _ _ c.all.result c.all.ensures.ran
    (YieldsList-from_str_split 44 c.args.list.now (lit< tt) c.split.ensures.text c.split.ensures.has_more c.split.ensures.pattern)
    (λ x b q k. search (rules, tests))
