use Rattle.std.proofs.Common.{rules, ◌≡◌, length}
use Rattle.exchange.proofs.Sorting.{turn_more, turns_all}
use Rattle.exchange.proofs.turns.turns_of.Goals as goal

pub loop-k-preserved : goal.loop-k-preserved
loop-k-preserved c = turn_more c.args.requests.now c.loop-k.k c.first_byte.result c.loop-k.turns.keys _ c.loop-k-test.true c.first_byte.ensures c.loop-k.invariant c.in_ok-insert.ensures.keys

pub returns : goal.returns
returns c =
    let done : c.loop-k.k ≡ length c.args.requests.now = search rules in
    turns_all c.args.requests.now c.loop-k.k c.loop-k.turns.keys done c.loop-k.invariant
