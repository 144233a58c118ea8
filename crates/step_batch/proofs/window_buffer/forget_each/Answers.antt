use Rattle.std.proofs.Common.{◌≡◌, ◌∙◌, ap, arith, length}
use Rattle.std.specs.Prelude.{List}
use Rattle.step_table.specs.declared.windows.WindowRow.{WindowRow}
use Rattle.step_batch.specs.LentWindows.{changed_at, left_behind, windows_of}
use Rattle.step_batch.proofs.Rows.{front_length, front_next, front_whole, windows_length}
use Rattle.step_batch.proofs.window_buffer.forget_each.Goals as goal

pub forget_at-requires : goal.forget_at-requires
forget_at-requires c =
    let rows = windows_of c.args.rows.now.entries in
    let now : length (windows_of c.loop-place.rows.entries) ≡ length rows = ap length c.loop-place.invariant ∙ front_length (left_behind c.args.edge.0) c.loop-place.place rows in
    let all : length rows ≡ length c.args.rows.now.entries = windows_length c.args.rows.now.entries in
    omega arith

pub loop-place-preserved : goal.loop-place-preserved
loop-place-preserved c =
    let g = left_behind c.args.edge.0 in
    c.forget_at.ensures ∙ ap (λ (rows : List WindowRow). changed_at g rows c.loop-place.place) c.loop-place.invariant ∙ front_next g c.loop-place.place (windows_of c.args.rows.now.entries)

pub returns : goal.returns
returns c =
    let rows = windows_of c.args.rows.now.entries in
    let all : length rows ≡ length c.args.rows.now.entries = windows_length c.args.rows.now.entries in
    let ends : c.loop-place.place ≡ length rows = omega arith in
    c.loop-place.invariant ∙ front_whole (left_behind c.args.edge.0) c.loop-place.place rows ends
