use Rattle.std.proofs.Common.{◌∙◌, sym, ap}
use Rattle.std.proofs.lemmas.List.Elements.{All-append}
use Rattle.xfrac.specs.Laws.{IsNumber}
use Rattle.xfrac.specs.declared.value.XFrac.{XFrac}
use Rattle.window_fn.specs.Aggregates.{greater, greatest}
use Rattle.op_running.proofs.Picks.{greatest_both}
use Rattle.op_running.proofs.extremes.GreatestSummary.joined.Goals as goal

pub returns : goal.returns
returns c = λ xs ys p q. record {
  numbers = All-append IsNumber xs ys p.numbers q.numbers;
  is_greatest = c.greater.ensures ∙ ap (λ (z : XFrac). greater z c.args.behind.now.value) p.is_greatest ∙ ap (greater (greatest xs)) q.is_greatest
      ∙ sym (greatest_both c.order_is_total.ensures.equal c.order_is_total.ensures.reversed c.order_is_total.ensures.transitive xs ys p.numbers q.numbers);
}
