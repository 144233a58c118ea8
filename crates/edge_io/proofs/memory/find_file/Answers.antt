use Rattle.std.proofs.Common.{rules, ◌≡◌, ◌∙◌, slice_index_or, bytes_eq, false}
use Rattle.edge_io.proofs.Files.{bytes_at-drop}
use Rattle.edge_io.proofs.memory.find_file.Goals as goal

pub loop-i-preserved : goal.loop-i-preserved
loop-i-preserved c =
    let other : bytes_eq (slice_index_or c.args.paths.now c.loop-i.i c.index-paths-i.result) c.args.path.now ≡ false = search rules in
    bytes_at-drop c.args.paths.now c.args.bytes.now c.loop-i.i c.args.path.now c.index-paths-i.result c.loop-i-test.true other ∙ c.loop-i.invariant
