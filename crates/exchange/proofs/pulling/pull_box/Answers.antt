use Rattle.std.proofs.Common.{refl, subst, sym}
use contract.BorrowLft.{meet_⊑_right}
use Rattle.remote_api.specs.Seen.{MayPull}
use Rattle.exchange.proofs.pulling.pull_box.Goals as goal

pub pull-requires : goal.pull-requires
pull-requires g c κs =
    let may : MayPull c.args.place c.args.patterns.now ((goal.Engine-dyn g c.deref_box_mut-1.result.now).seen c.deref_box_mut-1.result.now.1) =
    subst (λ x. MayPull c.args.place c.args.patterns.now ((goal.Engine-dyn g x).seen x.1)) (sym c.deref_box_mut-1.ensures.value.1) c.requires.may in
    (refl, λ within. (tt, ((λ a m. within a (meet_⊑_right _ _ a m)), (may, (c.requires.some, c.requires.empty)))))
