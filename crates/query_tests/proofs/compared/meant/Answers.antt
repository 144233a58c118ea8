use Rattle.promql_type.specs.TypedTrees.{placed_of, tree_of}
use Rattle.query_tests.proofs.Gridded.{grid_met}
use Rattle.query_tests.proofs.compared.meant.Goals as goal

pub range-requires-clause-met : goal.range-requires-clause-met
range-requires-clause-met g c =
    let ready = c.in-Ok.ensures.tree in
    grid_met c.args.store.now c.typed_tree.new.patterns c.args.grid.now (tree_of c.in-Ok.typed) c.needs_are_met.ensures ready.limits.shallow ready.within

pub range-requires-clause-kept : goal.range-requires-clause-kept
range-requires-clause-kept g c =
    let ready = c.in-Ok.ensures.tree in
    c.checked_patterns_are_kept.ensures c.typed_tree.new.patterns (tree_of c.in-Ok.typed) (placed_of c.in-Ok.typed) ready.placed
