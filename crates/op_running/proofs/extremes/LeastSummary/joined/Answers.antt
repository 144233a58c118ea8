use Rattle.std.proofs.Common.{◌∙◌, sym, ap}
use Rattle.std.proofs.lemmas.List.Elements.{All-append}
use Rattle.xfrac.specs.Laws.{IsNumber}
use Rattle.xfrac.specs.declared.value.XFrac.{XFrac}
use Rattle.window_fn.specs.Aggregates.{lesser, least}
use Rattle.op_running.proofs.Picks.{least_both}
use Rattle.op_running.proofs.extremes.LeastSummary.joined.Goals as goal

pub returns : goal.returns
returns c = λ xs ys p q. record {
  numbers = All-append IsNumber xs ys p.numbers q.numbers;
  is_least = c.lesser.ensures ∙ ap (λ (z : XFrac). lesser z c.args.behind.now.value) p.is_least ∙ ap (lesser (least xs)) q.is_least
      ∙ sym (least_both c.order_is_total.ensures.equal c.order_is_total.ensures.reversed c.order_is_total.ensures.transitive xs ys p.numbers q.numbers);
}
