use Rattle.std.proofs.Common.{◌≡◌, ◌∙◌, length, refl, sym, true}
use Rattle.std.proofs.lemmas.Option.{slice_get_read}
use Rattle.script_check.specs.Beside.{points_beside}
use Rattle.script_check.proofs.Pairs.{beside_at}
use Rattle.script_check.proofs.paired.is_beside.Goals as goal

pub returns-in-Some : goal.returns-in-Some
returns-in-Some c = λ h.
    let all = c.args.all.now in
    let at = slice_get_read all (length all) c.in-Some.place c.index-all-place.result refl c.in-Some.ensures.within c.index-all-place.is in
    let one = c.as_slice.ensures in
    let is = c.index-all-place.is in
    let two = c.as_slice-in-Some.ensures in
    let told = sym c.points_beside.ensures ∙ h in
    let near : points_beside c.args.one.now.points c.index-all-place.result.points ≡ true = cc in
    beside_at all c.in-Some.place c.index-all-place.result c.args.one.now at c.in-Some.ensures.has near
