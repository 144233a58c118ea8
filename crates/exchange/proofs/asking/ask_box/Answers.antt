use Rattle.std.proofs.Common.{refl, subst, sym}
use contract.BorrowLft.{meet_⊑_right}
use Rattle.remote_api.specs.Seen.{MayAsk}
use Rattle.exchange.proofs.asking.ask_box.Goals as goal

pub ask-requires : goal.ask-requires
ask-requires g c κs =
    let may : MayAsk c.args.request.now.part c.args.request.now.walk c.args.span.now c.args.patterns.now ((goal.Engine-dyn g c.deref_box_mut-1.result.now).seen c.deref_box_mut-1.result.now.1) =
    subst (λ x. MayAsk c.args.request.now.part c.args.request.now.walk c.args.span.now c.args.patterns.now ((goal.Engine-dyn g x).seen x.1)) (sym c.deref_box_mut-1.ensures.value.1) c.requires in
    (refl, λ within. (tt, ((λ a m. within a (meet_⊑_right _ _ a m)), may)))
