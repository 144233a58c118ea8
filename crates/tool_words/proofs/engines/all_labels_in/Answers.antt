use Rattle.std.proofs.Common.{◌+◌, ◌++◌, ◌∙◌, List, ap, drop, map, sym}
use Rattle.std.specs.Prelude.{option_map}
use Rattle.tool_words.specs.Engines.{Labels, all_labels_in}
use Rattle.tool_words.proofs.Declaring.{sets_go}
use Rattle.tool_words.proofs.engines.all_labels_in.Goals as goal

pub loop-set-preserved : goal.loop-set-preserved
loop-set-preserved c =
    let named = rw c.in-Some.is at c.in_ok-labels.ensures in
    ap (λ (all : List Labels). option_map (λ more. all ++ more) (all_labels_in (map (λ s. s.now) (drop (c.loop-set.set-index + 1) c.args.sets.now)))) c.in_ok-push.ensures.ok
    ∙ sets_go (λ s. s.now) c.args.sets.now c.loop-set.set-index _ c.loop-set-test.true c.loop-set.all c.in-Some.labels (sym named) ∙ c.loop-set.invariant
