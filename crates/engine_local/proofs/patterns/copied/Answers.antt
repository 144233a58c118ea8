use Rattle.std.proofs.Common.{◌∙◌, ◌++◌, ◌∷◌, [], List, Bool, ℕ, ap, sym}
use Rattle.engine_local.proofs.Lists.{taken_more}
use Rattle.engine_local.proofs.patterns.copied.Goals as goal

pub loop-number-preserved : goal.loop-number-preserved
loop-number-preserved c =
    let p = c.in_ok-pattern_at.field-0 in
    c.in_ok-push.ensures.ok ∙ ap (λ (kept : List (Bool × List ℕ)). kept ++ p ∷ []) c.loop-number.invariant ∙ sym (taken_more c.args.patterns.now c.loop-number.number p c.in_ok-pattern_at.ensures)
