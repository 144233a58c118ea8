use Rattle.std.proofs.Common.{◌≡◌, ◌++◌, drop, map, ap, subst, sym, ◌∙◌}
use Rattle.std.proofs.lemmas.Result.{err_from_is_err_and}
use Rattle.script_read.specs.Outcomes.{PatternList, in_front}
use Rattle.script_read.specs.Reading.{commands_of}
use Rattle.script_read.specs.Views.{block_of, instructions, numbered}
use Rattle.script_read.proofs.Bodies.{block_more, block_within}
use Rattle.script_read.proofs.Growing.{gathered, gathers_all, gathers_among}
use Rattle.script_read.proofs.Spares.{refused_among}
use Rattle.script_read.proofs.reader.read_lines.Goals as goal

pub returns-in_err-read_block-clause-refused : goal.returns-in_err-read_block-clause-refused
returns-in_err-read_block-clause-refused c =
    let p = err_from_is_err_and c.from_residual-in_err-read_block.result c.from_residual-in_err-read_block.ensures.1 in
    let blocks = c.deref-block-items.result.now in
    let lines = map numbered c.args.lines.now in
    let block = c.block-item.result in
    rw (p.1, p.2) (refused_among c.read_block.new.searches (map numbered block.now) lines c.in_err-read_block.field-0.0
    (block_within blocks c.loop-block.block-index block c.loop-block-test.true c.block-item.is lines (ap (map block_of) c.deref-block-items.ensures.value ∙ c.in_ok-blocks.ensures)) c.in_err-read_block.ensures.refused)

pub returns-in_err-read_block-clause-grows : goal.returns-in_err-read_block-clause-grows
returns-in_err-read_block-clause-grows c =
    let blocks = c.deref-block-items.result.now in
    let lines = map numbered c.args.lines.now in
    let block = c.block-item.result in
    gathers_all lines _ _ _ c.loop-block.invariant.grows (gathers_among (map numbered block.now) lines _ _
    (block_within blocks c.loop-block.block-index block c.loop-block-test.true c.block-item.is lines (ap (map block_of) c.deref-block-items.ensures.value ∙ c.in_ok-blocks.ensures)) c.read_block.ensures.grows)

pub loop-block-preserved : goal.loop-block-preserved
loop-block-preserved c =
    let blocks = c.deref-block-items.result.now in
    let lines = map numbered c.args.lines.now in
    let block = c.block-item.result in
    let i = c.loop-block.block-index in
    let kept = c.read_block.new.searches in
    let grows = c.read_block.ensures.grows in
    record {
      said = λ more. sym (block_more blocks i block c.loop-block-test.true c.block-item.is (kept ++ more) c.loop-block.commands c.read_block.new.commands (c.in_ok-read_block.ensures.added more))
          ∙ subst (λ (all : PatternList). in_front (instructions c.loop-block.commands) (commands_of all (map block_of (drop i blocks))) ≡ commands_of all (map block_of blocks))
          (gathered c.loop-block.searches kept grows.more more grows.behind) (c.loop-block.invariant.said (grows.more ++ more));
      grows = gathers_all lines _ _ _ c.loop-block.invariant.grows (gathers_among (map numbered block.now) lines _ _
          (block_within blocks i block c.loop-block-test.true c.block-item.is lines (ap (map block_of) c.deref-block-items.ensures.value ∙ c.in_ok-blocks.ensures)) grows);
    }
