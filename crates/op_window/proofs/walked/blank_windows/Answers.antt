use Rattle.std.proofs.Common.{◌∙◌, ◌++◌, ◌∷◌, [], None, ap, ℕ, get_or, map, take}
use Rattle.std.specs.Prelude.{List}
use Rattle.sample_store.specs.Samples.{samples_at}
use Rattle.op_window.specs.Sliding.{walked_at}
use Rattle.op_window.specs.declared.renew.SeriesWindow.{SeriesWindow}
use Rattle.op_window.proofs.Lists.{mapped_more}
use Rattle.op_window.proofs.walked.blank_windows.Goals as goal

pub loop-s-preserved : goal.loop-s-preserved
loop-s-preserved c = λ closed range store.
    let xs = c.args.series.now in
    let i = c.loop-s._s-index in
    let F : ℕ → SeriesWindow = λ s. walked_at closed range None (samples_at store s) in
    c.in_ok-push.ensures.items ∙ ap (λ (ws : List SeriesWindow). ws ++ c.blank_window.result ∷ []) (c.loop-s.invariant closed range store)
    ∙ ap (λ (w : SeriesWindow). map F (take i xs) ++ w ∷ []) (c.blank_window.ensures closed range (samples_at store (get_or xs i 0)))
    ∙ mapped_more F xs i 0 c.loop-s-test.true
