use Rattle.std.proofs.Common.{◌∙◌, ap, length, refl, slice_get, subst, List, ℕ, Some}
use Rattle.std.proofs.lemmas.Option.{slice_get_read}
use Rattle.script_read.specs.declared.script.Wanted.{Wanted}
use Rattle.script_check.specs.Noted.{HasText}
use Rattle.script_check.proofs.Wanting.{one_note_marked}
use Rattle.script_check.proofs.noted.mark.Goals as goal
use Rattle.script_check.proofs.noted.mark.Goals.{in-Msg+in-Some, in-Msg+in_default-place_of_text, in_default}

pub loop-line-preserved : goal.loop-line-preserved
loop-line-preserved c = elim c.match-line.branch [
  | in-Msg+in-Some w ↦ λ m.
      let part = c.args.part.now in
      let lines = c.args.lines.now in
      let i = c.loop-line.line-index in
      let at = slice_get_read lines (length lines) i c.line-item.result refl c.loop-line-test.true c.line-item.is ∙ ap (λ (one : Wanted). Some one) w.in-Msg.is in
      let has = subst (λ (text : List ℕ). HasText text (slice_get part w.in-Some.place)) (w.as_bytes.ensures.value ∙ w.as_str.ensures) w.in-Some.ensures.has in
      rw w.marks-is (one_note_marked part lines c.loop-line.marks w.in-Some.place i w.in-Msg.message at has (c.loop-line.invariant m))
  | in-Msg+in_default-place_of_text w ↦ λ m. rw w.marks-is (c.loop-line.invariant m)
  | in_default w ↦ λ m. rw w.marks-is (c.loop-line.invariant m)
]
