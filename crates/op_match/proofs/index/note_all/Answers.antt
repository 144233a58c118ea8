use Rattle.std.specs.Prelude.{slice_get}
use Rattle.std.proofs.Common.{◌∙◌, ◌<◌, ℕ, length, get_or, refl, sym, subst, ap}
use Rattle.std.proofs.lemmas.List.{length-set}
use Rattle.op_match.proofs.Lists.{is_none, there}
use Rattle.op_match.proofs.Numbers.{below, note_more, noted_whole}
use Rattle.op_match.proofs.index.note_all.Goals as goal

pub loop-i-init : goal.loop-i-init
loop-i-init c = record { len = refl; noted = λ j k e. absurd (cc) }

pub find_before-requires-clause-room : goal.find_before-requires-clause-room
find_before-requires-clause-room c =
    let k = c.args.keys.now in
    let i = c.loop-i.i in
    subst (λ (n : ℕ). get_or k i 0 < n) (sym (ap length c.as_slice.ensures.value ∙ c.loop-i.invariant.len)) (below (length c.args.at.now.items) k i (get_or k i 0) c.requires (there k i 0 c.loop-i-test.true))

pub loop-i-preserved : goal.loop-i-preserved
loop-i-preserved c =
    let k = c.args.keys.now in
    let i = c.loop-i.i in
    let at = c.loop-i.at.items in
    let room : get_or k i 0 < length at = subst (λ (n : ℕ). get_or k i 0 < n) (sym c.loop-i.invariant.len) (below (length c.args.at.now.items) k i (get_or k i 0) c.requires (there k i 0 c.loop-i-test.true)) in
    record {
      len = length-set at (get_or k i 0) i ∙ c.loop-i.invariant.len;
      noted = note_more at k i (get_or k i 0) 0 c.loop-i-test.true refl room
          (λ j l e f. c.find_before.ensures.none (is_none c.find_before.result (sym c.is_some.ensures ∙ c.if-is_some.false)) j l e (ap (λ xs. slice_get xs (get_or k i 0)) c.as_slice.ensures.value ∙ f)) c.loop-i.invariant.noted;
    }

pub returns : goal.returns
returns c = record {
  len = c.loop-i.invariant.len;
  noted = λ t. noted_whole c.loop-i.at.items c.args.keys.now c.loop-i.i c.loop-i-test.false c.loop-i.invariant.noted;
}
