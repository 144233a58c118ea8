use Rattle.std.proofs.Common.{refl}
use Rattle.exchange.proofs.Lists.{map_inside}
use Rattle.exchange.proofs.Opening.{opened_now}
use Rattle.exchange.proofs.asking.open_place.Goals as goal

pub returns-in-Ok-ask_engines-clause-opened : goal.returns-in-Ok-ask_engines-clause-opened
returns-in-Ok-ask_engines-clause-opened g c =
    opened_now c.args.span.now c.args.patterns.now _ _ c.args.request.now (record { gather = c.in-Ok.gather; asks = c.in-Ok-ask_engines.asks }) c.in-Ok.ensures.ask c.in-Ok.ensures.going c.in-Ok.ensures.few c.in-Ok.ensures.fresh c.in-Ok-ask_engines.ensures.numbers c.in-Ok-ask_engines.ensures.behind c.in-Ok-ask_engines.ensures.asked
    (λ k i at. map_inside (λ b. (goal.Engine-dyn g (b.vtable, b.value)).seen b.value) c.args.engines.now c.args.engines.now i (c.requires.inside k i at) refl) c.requires.going
