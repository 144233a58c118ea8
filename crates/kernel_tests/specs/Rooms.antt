-- What a gather asks of a delivery. (This project's own.)
use Rattle.std.specs.Prelude.{◌≡◌, ◌<◌, ℕ, false, true, length, slice_get, Some}
use Rattle.op_gather.specs.Histories.{Gathering}
use Rattle.op_gather.specs.Queues.{has_room}
use Rattle.op_gather.specs.declared.queue.Queue.{Queue}

-- it isn't spent, and has room for the engine
pub record TakesFrame (g : Gathering) (engine : ℕ) : Type 0 where
  pub going : g.spent ≡ false
  pub inside : engine < length g.queues
  pub room : (q : Queue) → slice_get g.queues engine ≡ Some q → has_room q ≡ true
