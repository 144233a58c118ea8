use Rattle.std.proofs.Common.{◌∙◌, ◌<◌, List, arith, ap, length, take}
use Rattle.std.specs.Prelude.{slice_index_or}
use Rattle.step_put.specs.Placed.{slots_made}
use Rattle.step_put.specs.declared.cells.Cell.{Cell}
use Rattle.step_put.specs.declared.cells.Cell.TheVariants.{Empty}
use Rattle.step_put.proofs.Lone.{cells_count}
use Rattle.step_put.proofs.Making.{cells_more, faults_more, row_within, still_empty}
use Rattle.step_put.proofs.Owned.{one_below}
use Rattle.step_put.proofs.cells.take_values.Goals as goal

pub place_at-place-requires : goal.place_at-place-requires
place_at-place-requires c = row_within (length c.args.places.now) c.args.placed.now c.loop-row.row-index c.row-item.result c.loop-row-test.true c.row-item.is c.requires.within

pub take_value-faults-requires-clause-there : goal.take_value-faults-requires-clause-there
take_value-faults-requires-clause-there c =
    let count = length c.args.cells.now.items in
    let placed = c.args.placed.now in
    let len = ap length c.loop-row.invariant.cells ∙ cells_count 0 count (slots_made c.args.places.now (take c.loop-row.row-index placed)) in
    let row = row_within (length c.args.places.now) placed c.loop-row.row-index c.row-item.result c.loop-row-test.true c.row-item.is c.requires.within in
    let below = one_below count c.args.places.now c.row-item.result.place 0 row c.requires.there in
    omega (arith, len, below, c.place_at-place.ensures)

pub take_value-faults-requires-clause-single : goal.take_value-faults-requires-clause-single
take_value-faults-requires-clause-single c = λ e.
    let count = length c.args.cells.now.items in
    let placed = c.args.placed.now in
    let own = c.place_at-place.result in
    let row = row_within (length c.args.places.now) placed c.loop-row.row-index c.row-item.result c.loop-row-test.true c.row-item.is c.requires.within in
    let there = one_below count c.args.places.now c.row-item.result.place 0 row c.requires.there in
    let below : own < count = omega (arith, there, c.place_at-place.ensures) in
    ap (λ (z : List Cell). slice_index_or z own Empty) c.loop-row.invariant.cells
    ∙ still_empty c.args.owners.now c.args.places.now c.requires.apart placed c.loop-row.row-index own count c.row-item.result c.loop-row-test.true c.row-item.is c.place_at-place.ensures below c.requires.within e

pub loop-row-preserved : goal.loop-row-preserved
loop-row-preserved c =
    let was = c.loop-row.invariant in
    let count = length c.args.cells.now.items in
    let places = c.args.places.now in
    let placed = c.args.placed.now in
    let own = c.place_at-place.result in
    let row = row_within (length places) placed c.loop-row.row-index c.row-item.result c.loop-row-test.true c.row-item.is c.requires.within in
    let there = one_below count places c.row-item.result.place 0 row c.requires.there in
    let below : own < count = omega (arith, there, c.place_at-place.ensures) in
    record {
      cells = cells_more count places placed c.loop-row.row-index own c.row-item.result c.loop-row.cells.items c.take_value-faults.new.cells.items c.loop-row-test.true c.row-item.is c.place_at-place.ensures below was.cells c.take_value-faults.ensures.cells;
      faults = faults_more c.loop-row.faults _ placed c.loop-row.row-index c.row-item.result c.loop-row-test.true c.row-item.is c.take_value-faults.ensures.faults was.faults;
    }
