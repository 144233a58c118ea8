use Rattle.std.proofs.Common.{◌+◌, ◌<◌, length, arith, sym}
use Rattle.op_buckets.proofs.Splitting.{end_is, end_last}
use Rattle.op_buckets.proofs.split.is_last.Goals as goal

pub returns-then-i-entries : goal.returns-then-i-entries
returns-then-i-entries c = sym (end_last c.args.entries.now c.args.i c.if-i-entries.true)

pub returns : goal.returns
returns c =
    let more : c.args.i + 1 < length c.args.entries.now = omega (arith, c.requires, c.if-i-entries.false) in
    end_is c.args.entries.now c.args.i c.index-entries-i-2.result c.index-entries-i.result c.is_of_group.result c.requires more c.index-entries-i-2.is c.index-entries-i.is c.is_of_group.ensures
