use Rattle.std.proofs.Common.{◌+◌, ◌-◌, ◌/◌, arith}
use Rattle.sample_store.proofs.Cursors.{spanned_lower, spanned_upper}
use Rattle.sample_store.proofs.Starts.{start_is, starts_within}
use Rattle.sample_store.proofs.timeline.chunk_with.Goals as goal

pub before-requires : goal.before-requires
before-requires c =
    let m = c.loop-low.low + (c.loop-low.high - c.loop-low.low) / 2 in
    starts_within c.args.chunks.now c.args.counts.now m c.requires.told (omega arith)

pub loop-low-preserved-then-place-before : goal.loop-low-preserved-then-place-before
loop-low-preserved-then-place-before c =
    let xs = c.args.chunks.now in
    let m = c.loop-low.low + (c.loop-low.high - c.loop-low.low) / 2 in
    let based = start_is xs c.args.counts.now m c.before-in-loop-low.result c.requires.told (omega arith) c.before-in-loop-low.ensures in
    spanned_lower xs c.args.place c.loop-low.low c.loop-low.high m c.loop-low.invariant (omega arith) (omega arith) (omega (arith, based))

pub loop-low-preserved : goal.loop-low-preserved
loop-low-preserved c =
    let xs = c.args.chunks.now in
    let m = c.loop-low.low + (c.loop-low.high - c.loop-low.low) / 2 in
    let based = start_is xs c.args.counts.now m c.before-in-loop-low.result c.requires.told (omega arith) c.before-in-loop-low.ensures in
    spanned_upper xs c.args.place c.loop-low.low c.loop-low.high m c.loop-low.invariant (omega arith) (omega (arith, based))
