use Rattle.std.proofs.Common.{rules, ◌≡◌, ◌≤◌, ◌-◌, length, Ok, arith}
use Rattle.xfrac.specs.Arithmetic.{arithmetic, whole_number}
use Rattle.xfrac.specs.Forming.{floor_of}
use Rattle.xfrac.specs.declared.value.ArithOp.TheVariants.{Mul}
use Rattle.window_fn.specs.Aggregates.{place_of}
use Rattle.window_fn.proofs.Places.{rank_within}
use Rattle.window_fn.proofs.quantiles.interpolated.Goals as goal

pub at_rank-requires : goal.at_rank-requires
at_rank-requires c =
    let q = c.args.q.now in
    let last = length c.args.sorted.now - 1 in
    let formed : arithmetic Mul q (whole_number last) ≡ Ok c.in_ok-rank.rank = search rules in
    let within : place_of (floor_of c.in_ok-rank.rank) ≤ last =
    rank_within c.lowest_terms_are_lowest.ensures.value q c.in_ok-rank.rank last c.is_number.ensures c.requires.number c.requires.from_zero c.requires.to_one formed in
    omega arith
