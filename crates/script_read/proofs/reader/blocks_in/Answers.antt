use Rattle.std.proofs.Common.{rules, tests}
use Rattle.std.proofs.lemmas.Iterator.Consumers.{map_from_collect}
use Rattle.std.proofs.lemmas.Iterator.Splits.{YieldsList-from_slice_split}
use Rattle.script_read.specs.Lines.{has_no_text}
use Rattle.script_read.specs.Views.{numbered}
use Rattle.script_read.proofs.Blocks.{blocks_seen}
use Rattle.script_read.proofs.reader.blocks_in.Goals as goal

pub returns : goal.returns
returns c =
    blocks_seen c.collect.result c.args.lines.now (map_from_collect c.collect.result c.collect.ensures.ran
    (YieldsList-from_slice_split _ (λ line. has_no_text (numbered line)) c.args.lines.now c.split.ensures.rest c.split.ensures.done c.split.ensures.closure (λ x b q k. search (rules, tests))))
