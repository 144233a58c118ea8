use Rattle.std.proofs.Common.{◌++◌, ◌∷◌, [], ℕ, List, ap, sym, ◌∙◌, append_assoc}
use Rattle.std.specs.Prelude.{slice_range}
use Rattle.label_set.proofs.PairSteps.{part_more}
use Rattle.label_set.proofs.pairs.Pairs.extend.Goals as goal

pub loop-i-preserved : goal.loop-i-preserved
loop-i-preserved c =
    let part = slice_range c.args.others.now c.args.from c.loop-i.i in
    let pair : List ℕ × List ℕ = (c.pair.result.0.now, c.pair.result.1.now) in
    c.in_ok-push.ensures.ok
    ∙ ap (λ ps. ps ++ pair ∷ []) c.loop-i.invariant
    ∙ append_assoc c.args.self.now part (pair ∷ [])
    ∙ ap (λ ps. c.args.self.now ++ ps) (sym (part_more c.args.others.now c.args.from c.loop-i.i pair c.loop-i.auto.i c.pair.ensures))
