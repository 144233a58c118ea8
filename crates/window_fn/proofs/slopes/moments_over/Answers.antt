use Rattle.std.proofs.Common.{◌≡◌, ◌∙◌, ◌+◌, ◌<◌, ◌∷◌, [], ◌++◌, take, length, arith, sym, ap, subst}
use Rattle.std.specs.Prelude.{◌-ℤ◌}
use Rattle.std.proofs.lemmas.List.{length-take, take_more}
use Rattle.window_fn.specs.Fits.{AreSumsOf}
use Rattle.window_fn.specs.Points.{milliseconds, time_at}
use Rattle.window_fn.specs.Slopes.{spans}
use Rattle.window_fn.proofs.Adding.{few, few_answers}
use Rattle.window_fn.proofs.Fitting.{length-products, length-spans, length-squares, spans-more}
use Rattle.window_fn.proofs.slopes.moments_over.Goals as goal

pub with_point-sums-requires : goal.with_point-sums-requires
with_point-sums-requires c =
    let i = c.loop-i.i in
    let xs = take i (spans c.args.origin.0 c.args.times.now) in
    let ys = take i c.args.values.now in
    let long = length-take i (spans c.args.origin.0 c.args.times.now) in
    record {
      x = few c.loop-i.sums.x xs c.loop-i.invariant.x.kept (omega (arith, long));
      y = few c.loop-i.sums.y ys c.loop-i.invariant.y.kept (omega (arith, length-take i c.args.values.now));
      xy = few_answers c.loop-i.sums.xy _ c.loop-i.invariant.xy (omega (arith, long, length-products xs ys));
      xx = few_answers c.loop-i.sums.xx _ c.loop-i.invariant.xx (omega (arith, long, length-squares xs));
    }

pub loop-i-preserved : goal.loop-i-preserved
loop-i-preserved c =
    let i = c.loop-i.i in
    let origin = c.args.origin.0 in
    let times = c.args.times.now in
    let values = c.args.values.now in
    let within : i < length times = omega arith in
    let x : c.between-x.result ≡ milliseconds (time_at times i -ℤ origin) = c.between-x.ensures ∙ ap (λ t. milliseconds (t -ℤ origin)) c.time_at.ensures.value in
    let xs : take (i + 1) (spans origin times) ≡ take i (spans origin times) ++ c.between-x.result ∷ [] = spans-more origin times i _ within ∙ ap (λ v. take i (spans origin times) ++ v ∷ []) (sym x) in
    let ys : take (i + 1) values ≡ take i values ++ c.index-values-i.result ∷ [] = take_more values i c.index-values-i.result c.loop-i-test.true ∙ ap (λ v. take i values ++ v ∷ []) (sym c.index-values-i.is) in
    let long : length (take i (spans origin times)) ≡ length (take i values) = omega (arith, length-take i (spans origin times), length-take i values, length-spans origin times) in
    subst (λ l. AreSumsOf c.with_point-sums.result l (take (i + 1) values)) (sym xs)
    (subst (λ l. AreSumsOf c.with_point-sums.result (take i (spans origin times) ++ c.between-x.result ∷ []) l) (sym ys)
    (c.with_point-sums.ensures (take i (spans origin times)) (take i values) long c.loop-i.invariant))
