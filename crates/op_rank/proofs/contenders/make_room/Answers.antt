use Rattle.std.proofs.Common.{◌≡◌, ◌∷◌, [], length, ap, sym, subst, arith}
use Rattle.std.specs.List.{AllByRecursion}
use Rattle.std.proofs.lemmas.List.{length-append}
use Rattle.op_rank.specs.declared.best.Best.{Best}
use Rattle.op_rank.proofs.BestKept.{both}
use Rattle.op_rank.proofs.contenders.make_room.Goals as goal

pub loop-group-preserved : goal.loop-group-preserved
loop-group-preserved c =
    let i = c.loop-group.invariant in
    let empty : AllByRecursion (λ (b : Best). b.kept.items ≡ []) (c.new.result ∷ []) = (c.new.ensures, tt) in
    record {
      len = (let long = ap length c.in_ok-push.ensures.items in let more = length-append c.loop-group.best.items (c.new.result ∷ []) in omega (arith, long, more, i.len));
      empty = subst (AllByRecursion (λ (b : Best). b.kept.items ≡ [])) (sym c.in_ok-push.ensures.items) (both (λ (b : Best). b.kept.items ≡ []) c.loop-group.best.items (c.new.result ∷ []) i.empty empty);
    }
