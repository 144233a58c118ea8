-- What is asked of some engines. (This project's own.)
use Rattle.std.specs.Prelude.{◌≡◌, ◌<◌, ℕ, List, Some, slice_get}
use Rattle.remote_api.specs.Strays.{AsksInTimes}
use Rattle.remote_api.specs.declared.asks.Ask.{Ask}
use Rattle.exchange.specs.declared.request.Request.{Request}

-- what the steps of a request have to be
abbrev pub ask_of : Request → Ask
ask_of r = record { walk = r.walk; kind = r.part.kind; moment = r.moment; range = r.range }

-- each number is below those behind it
abbrev pub AreRising : List ℕ → Type 0
AreRising numbers = (j k m n : ℕ) → slice_get numbers j ≡ Some m → slice_get numbers k ≡ Some n → j < k → m < n

-- what is asked lies within the times, and the numbers of the engines rise
pub record IsRequest (r : Request) : Type 0 where
  pub times : AsksInTimes (ask_of r)
  pub rising : AreRising r.engines
