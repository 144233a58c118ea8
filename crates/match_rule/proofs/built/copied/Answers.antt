use Rattle.std.proofs.Common.{◌≡◌, ◌∙◌, ◌+◌, ℕ, suc, List, [], ◌∷◌, ◌++◌, Option, ap, sym, subst, arith}
use Rattle.regex.specs.Strings.{captures_haystack}
use Rattle.match_rule.specs.Patterns.{AreCutFrom, first_spans}
use Rattle.match_rule.proofs.Cuts.{cut_more}
use Rattle.match_rule.proofs.built.copied.Goals as goal

pub loop-i-preserved : goal.loop-i-preserved
loop-i-preserved c =
    let captures = c.args.captures.now in
    let n = c.loop-i.i in
    let next : n + 1 ≡ suc n = omega arith in
    let pushed : c.push.new.self.items ≡ c.loop-i.spans.items ++ c.span_at.result ∷ [] = c.in_ok-push.ensures.items in
    let cut = cut_more (captures_haystack captures) c.loop-i.spans.items c.span_at.result c.loop-i.invariant.1 c.span_at.ensures.cut in (
      pushed
          ∙ ap (λ (xs : List (Option (ℕ × ℕ))). xs ++ c.span_at.result ∷ []) c.loop-i.invariant.0
          ∙ ap (λ (o : Option (ℕ × ℕ)). first_spans captures n ++ o ∷ []) c.span_at.ensures.span
          ∙ sym (ap (first_spans captures) next),
      subst (λ (xs : List (Option (ℕ × ℕ))). AreCutFrom (captures_haystack captures) xs) (sym pushed) cut,
    )
