use Rattle.std.proofs.Common.{◌≡◌, ℕ, List, map}
use Rattle.std.proofs.lemmas.Result.{IfOk-weaker}
use Rattle.exchange.specs.InOrder.{IsAskOrder}
use Rattle.exchange.proofs.Sorting.{order_is}
use Rattle.exchange.proofs.turns.order_of.Goals as goal

pub returns : goal.returns
returns c =
    IfOk-weaker c.places_in.result (λ (order : List ℕ). order ≡ map (λ (t : ℕ × ℕ). t.1) c.in_ok-turns.turns.keys) (IsAskOrder c.args.requests.now)
    (λ order e. order_is c.args.requests.now c.in_ok-turns.turns.keys order c.in_ok-turns.ensures e) c.places_in.ensures
