use Rattle.std.proofs.Common.{◌≡◌, ◌∙◌, ◌<◌, ℕ, List, false, length, get_or, sym, subst}
use Rattle.std.specs.Prelude.{◌||◌}
use Rattle.std.specs.List.{AllByRecursion}
use Rattle.op_rank.specs.Contenders.{has_at, is_in_some}
use Rattle.op_rank.specs.declared.best.Best.{Best}
use Rattle.op_rank.specs.declared.best.Contender.{Contender}
use Rattle.op_rank.proofs.Choosing.{group_marked, item_all, whole_front}
use Rattle.op_rank.proofs.contenders.mark_all.Goals as goal

pub mark-requires : goal.mark-requires
mark-requires c =
    let i = c.loop-some.invariant in
    let within = item_all (λ (b : Best). AllByRecursion (λ (x : Contender). x.at < length c.args.is_taken.now.items) b.kept.items) c.args.best.now c.loop-some.some-index c.some-item.result c.loop-some-test.true c.some-item.is c.requires.within in record {
      within = subst (λ (xs : List Contender). AllByRecursion (λ (x : Contender). x.at < length c.loop-some.is_taken.items) xs) (sym c.as_slice.ensures.value)
          (subst (λ (n : ℕ). AllByRecursion (λ (x : Contender). x.at < n) c.some-item.result.kept.items) (sym i.len) within);
    }

pub loop-some-preserved : goal.loop-some-preserved
loop-some-preserved c =
    let i = c.loop-some.invariant in
    let best = c.args.best.now in
    let n = c.loop-some.some-index in
    let b = c.some-item.result in
    record {
      len = c.mark.ensures.len ∙ i.len;
      marks = λ k. group_marked best n k b (get_or c.args.is_taken.now.items k false) (get_or c.loop-some.is_taken.items k false) (get_or c.mark.new.is_taken.items k false) c.loop-some-test.true c.some-item.is (i.marks k)
          (subst (λ (xs : List Contender). get_or c.mark.new.is_taken.items k false ≡ (get_or c.loop-some.is_taken.items k false || has_at k xs)) c.as_slice.ensures.value (c.mark.ensures.marks k));
    }

pub returns-clause-marks : goal.returns-clause-marks
returns-clause-marks c = λ k.
    subst (λ xs. get_or c.loop-some.is_taken.items k false ≡ (get_or c.args.is_taken.now.items k false || is_in_some k xs)) (whole_front c.args.best.now c.loop-some.some-index c.loop-some-test.false) (c.loop-some.invariant.marks k)
