use Rattle.std.proofs.Common.{◌∙◌, ◌+◌, ◌<◌, ◌∷◌, ◌++◌, [], ℕ, List, false, true, arith, length, drop, sym, ap, append_assoc}
use Rattle.step_put.specs.Clashes.{marks_at, shared_places}
use Rattle.step_table.specs.Groups.{Names}
use Rattle.step_table.specs.declared.marks.Mark.{Mark}
use Rattle.step_table.specs.declared.marks.Mark.TheVariants.{SameLabelset}
use Rattle.step_put.proofs.Lone.{shared_next}
use Rattle.step_put.proofs.Making.{mark_behind}
use Rattle.step_put.proofs.clashing.marks_of_shared.Goals as goal

pub loop-place-preserved-then-not-is_shared : goal.loop-place-preserved-then-not-is_shared
loop-place-preserved-then-not-is_shared c =
    let here = shared_next c.loop-place.place c.args.cells.now c.index-cells-place.result false c.loop-place-test.true c.index-cells-place.is (sym c.if-not-is_shared.true ∙ c.is_shared.ensures) in
    ap (λ (ps : List ℕ). c.loop-place.shared ++ marks_at c.args.labels.now ps) (sym here) ∙ c.loop-place.invariant

pub loop-place-preserved : goal.loop-place-preserved
loop-place-preserved c =
    let place = c.loop-place.place in
    let labels = c.args.labels.now in
    let rest = shared_places (place + 1) (drop (place + 1) c.args.cells.now) in
    let here = shared_next place c.args.cells.now c.index-cells-place.result true c.loop-place-test.true c.index-cells-place.is (sym c.if-not-is_shared.false ∙ c.is_shared.ensures) in
    let names = c.index-labels-place.result in
    let below : place < length labels = (let l = c.loop-place-test.true in let m = c.requires in omega arith) in
    ap (λ (z : List Mark). z ++ marks_at labels rest) (c.in_ok-push.ensures.ok ∙ ap (λ (n : Names). c.loop-place.shared ++ SameLabelset n ∷ []) c.in_ok-copy.ensures)
    ∙ append_assoc c.loop-place.shared (SameLabelset names ∷ []) (marks_at labels rest)
    ∙ ap (λ (z : List Mark). c.loop-place.shared ++ z) (sym (mark_behind labels rest place names below c.index-labels-place.is))
    ∙ ap (λ (ps : List ℕ). c.loop-place.shared ++ marks_at labels ps) (sym here) ∙ c.loop-place.invariant
