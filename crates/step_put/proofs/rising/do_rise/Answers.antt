use Rattle.std.proofs.Common.{◌∙◌, false, true, length, sym}
use Rattle.step_put.proofs.Making.{rise_on, rise_skip, row_within}
use Rattle.step_put.proofs.rising.do_rise.Goals as goal

pub place_at-place-requires : goal.place_at-place-requires
place_at-place-requires c = row_within (length c.args.places.now) c.args.placed.now c.loop-row.row-index c.row-item.result c.loop-row-test.true c.row-item.is c.requires

pub loop-row-preserved-then-not-has_value : goal.loop-row-preserved-then-not-has_value
loop-row-preserved-then-not-has_value c =
    c.loop-row.invariant ∙ rise_skip c.loop-row.last c.args.places.now c.args.placed.now c.loop-row.row-index c.row-item.result c.loop-row-test.true c.row-item.is (sym c.has_value.ensures ∙ c.if-not-has_value.true)

pub loop-row-preserved : goal.loop-row-preserved
loop-row-preserved c =
    c.loop-row.invariant
    ∙ rise_on c.loop-row.last c.args.places.now c.args.placed.now c.loop-row.row-index c.row-item.result c.place_at-place.result true c.loop-row-test.true c.row-item.is (sym c.has_value.ensures ∙ c.if-not-has_value.false) c.place_at-place.ensures (sym c.is_behind.ensures ∙ c.if-not-is_behind.false)

pub returns-then-not-is_behind : goal.returns-then-not-is_behind
returns-then-not-is_behind c =
    sym (c.loop-row.invariant
    ∙ rise_on c.loop-row.last c.args.places.now c.args.placed.now c.loop-row.row-index c.row-item.result c.place_at-place.result false c.loop-row-test.true c.row-item.is (sym c.has_value.ensures ∙ c.if-not-has_value.false) c.place_at-place.ensures (sym c.is_behind.ensures ∙ c.if-not-is_behind.true))
