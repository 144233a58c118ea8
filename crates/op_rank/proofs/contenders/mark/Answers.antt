use Rattle.std.proofs.Common.{◌≡◌, ◌∙◌, ◌<◌, true, false, length, get_or, arith, subst}
use Rattle.std.specs.Prelude.{◌||◌}
use Rattle.std.proofs.lemmas.List.{length-set}
use Rattle.op_rank.specs.Contenders.{has_at}
use Rattle.op_rank.specs.declared.best.Contender.{Contender}
use Rattle.op_rank.proofs.Choosing.{item_all, marked_one_more, whole_front}
use Rattle.op_rank.proofs.contenders.mark.Goals as goal

pub index_mut-requires : goal.index_mut-requires
index_mut-requires c =
    let i = c.loop-one.invariant in
    let within = item_all (λ (x : Contender). x.at < length c.args.is_taken.now.items) c.args.some.now c.loop-one.one-index c.one-item.result c.loop-one-test.true c.one-item.is c.requires.within in
    omega (arith, within, i.len)

pub loop-one-preserved : goal.loop-one-preserved
loop-one-preserved c =
    let i = c.loop-one.invariant in
    let some = c.args.some.now in
    let n = c.loop-one.one-index in
    let x = c.one-item.result in
    let within = item_all (λ (x : Contender). x.at < length c.args.is_taken.now.items) some n x c.loop-one-test.true c.one-item.is c.requires.within in
    let here : x.at < length c.loop-one.is_taken.items = omega (arith, within, i.len) in
    record {
      len = length-set c.loop-one.is_taken.items x.at true ∙ i.len;
      marks = λ k. marked_one_more some n k x (get_or c.args.is_taken.now.items k false) c.loop-one.is_taken.items c.loop-one-test.true c.one-item.is here (i.marks k);
    }

pub returns-clause-marks : goal.returns-clause-marks
returns-clause-marks c = λ k.
    subst (λ xs. get_or c.loop-one.is_taken.items k false ≡ (get_or c.args.is_taken.now.items k false || has_at k xs)) (whole_front c.args.some.now c.loop-one.one-index c.loop-one-test.false) (c.loop-one.invariant.marks k)
