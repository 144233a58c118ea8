use Rattle.step_batch.proofs.Rows.{place_is_last, row_last}
use Rattle.step_batch.proofs.window_buffer.put_in.Goals as goal

pub returns-clause-ok : goal.returns-clause-ok
returns-clause-ok c =
    row_last c.args.rows.now.entries c.insert_full.new.self.entries c.in_ok-copy.field-0 c.in_ok-window.window c.args.labels.now c.args.times.now c.args.values.now c.in_ok-place.ensures.entries c.in_ok-copy.ensures c.in_ok-window.ensures c.requires.fresh

pub returns-clause-place : goal.returns-clause-place
returns-clause-place c = place_is_last c.args.rows.now.entries c.in_ok-copy.field-0 c.args.labels.now c.in_ok-place.place c.in_ok-place.ensures.index c.in_ok-copy.ensures c.requires.fresh
