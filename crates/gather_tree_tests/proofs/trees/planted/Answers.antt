use Rattle.std.proofs.Common.{◌<◌, arith}
use Rattle.gather_tree_tests.proofs.Planted.{IsPlanted, planted_ready}
use Rattle.gather_tree_tests.proofs.trees.planted.Goals as goal

pub returns : goal.returns
returns c =
    let made = c.over.ensures in
    let g = c.args.grid.now in
    let new : IsPlanted g _ _ c.args.most c.over.result = record { node_is = made.node; walk_is = made.walk; fed = made.fed; batch_is = made.batch; exchange_is = made.exchange; asking = made.asking } in
    planted_ready c.walks_are_listed.ensures.one g _ _ c.args.most c.over.result new c.in_ok-node.ensures (omega arith)
