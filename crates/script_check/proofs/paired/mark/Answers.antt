use Rattle.std.proofs.Common.{refl, length}
use Rattle.std.proofs.lemmas.Option.{slice_get_read}
use Rattle.script_check.proofs.Pairs.{one_mark}
use Rattle.script_check.proofs.paired.mark.Goals as goal
use Rattle.script_check.proofs.paired.mark.Goals.{in-Some, in_default}

pub loop-one-preserved : goal.loop-one-preserved
loop-one-preserved c = elim c.match-place_of.branch [
  | in-Some w ↦ λ m.
      let others = c.args.others.now in
      let at = slice_get_read others (length others) c.loop-one.one-index c.one-item.result refl c.loop-one-test.true c.one-item.is in
      rw w.marks-is (one_mark c.args.part.now others c.loop-one.marks w.in-Some.place c.loop-one.one-index c.one-item.result at w.in-Some.ensures.has (c.loop-one.invariant m))
  | in_default w ↦ λ m. rw w.marks-is (c.loop-one.invariant m)
]
