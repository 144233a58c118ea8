use Rattle.std.proofs.Common.{◌≡◌, ◌∙◌, ◌++◌, true, List, ap, sym}
use Rattle.std.specs.Vec.Iter.{into_iter_items}
use Rattle.opt_selects.specs.Bases.{base_among, has_alike}
use Rattle.opt_selects.specs.declared.found.Found.{Found}
use Rattle.opt_selects.proofs.Alike.{without_alike}
use Rattle.opt_selects.proofs.kinds.first_of_each.Goals as goal

pub loop-one-preserved-then-has_alike : goal.loop-one-preserved-then-has_alike
loop-one-preserved-then-has_alike c rules moment range =
    let known : has_alike c.loop-one.kept.items c.in-Some.one ≡ true = ap (λ (kept : List Found). has_alike kept c.in-Some.one) (sym c.as_slice.ensures.value) ∙ c.has_alike.ensures c.if-has_alike.true in
    without_alike c.loop-one.kept.items (into_iter_items c.next.new.self) c.in-Some.one known rules moment range
    ∙ ap (λ (rest : List Found). base_among (c.loop-one.kept.items ++ rest) rules moment range) (sym c.in-Some.ensures.steps.0)
    ∙ c.loop-one.invariant rules moment range
