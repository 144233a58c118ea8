use Rattle.number_tests.proofs.times.closed_subqueries_walk_over_their_edges.Goals as goal

pub subquery-requires-clause-near : goal.subquery-requires-clause-near
subquery-requires-clause-near g c = c.walks_keep_to_times.ensures.grids c.in-Ok.grid
