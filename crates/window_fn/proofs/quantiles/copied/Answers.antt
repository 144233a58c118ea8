use Rattle.std.proofs.Common.{rules, ◌≡◌, ◌∙◌, ◌++◌, ◌∷◌, [], take, sym, ap, subst}
use Rattle.std.proofs.lemmas.List.{take_more}
use Rattle.std.proofs.lemmas.List.Elements.{All-more}
use Rattle.xfrac.specs.Laws.{IsNumber}
use Rattle.window_fn.proofs.quantiles.copied.Goals as goal

pub loop-value-preserved : goal.loop-value-preserved
loop-value-preserved c =
    let values = c.args.values.now in
    let i = c.loop-value.value-index in
    let pushed : c.push.new.self.items ≡ c.loop-value.copy.items ++ c.value-item.result ∷ [] = search rules in
    record {
      so_far = pushed ∙ (ap (λ l. l ++ c.value-item.result ∷ []) c.loop-value.invariant.so_far ∙ (ap (λ x. take i values ++ x ∷ []) c.value-item.is ∙ sym (take_more values i c.value-item.result c.loop-value-test.true)));
      numbers = All-more IsNumber values i c.value-item.result c.loop-value-test.true c.loop-value.invariant.numbers (subst IsNumber c.value-item.is c.is_number.ensures);
    }
