use Rattle.std.proofs.Common.{◌≡◌, ◌∙◌, arith, length, refl, sym, true}
use Rattle.std.proofs.lemmas.Option.{slice_get_read}
use Rattle.script_check.specs.Beside.{points_beside}
use Rattle.script_check.proofs.Matches.{match_at, one_more}
use Rattle.script_check.proofs.rounds.shared_labels.Goals as goal

pub returns : goal.returns
returns c = λ many a.
    let wanted = c.args.wanted.now in
    let got = c.args.got.now in
    let one = c.index-wanted-line.result in
    let series = c.index-got-place.result in
    let line_at = slice_get_read wanted (length wanted) c.args.line one refl (omega (arith, c.if-line-wanted.false)) c.index-wanted-line.is in
    let place_at = slice_get_read got (length got) c.args.place series refl (omega (arith, c.if-place-got.false)) c.index-got-place.is in
    let first = c.as_slice.ensures in
    let second = c.as_slice-2.ensures in
    let told = sym c.points_beside.ensures ∙ c.if-not-points_beside.false in
    let near : points_beside c.index-wanted-line.result.points c.index-got-place.result.points ≡ true = cc in
    let same = c.is_same.ensures.0 c.if-not-is_same.false in
    one_more wanted got _ many _ (sym c.rises_behind.ensures ∙ c.if-not-rises_behind.false) (match_at wanted got c.args.line c.args.place one series line_at place_at same near) a
