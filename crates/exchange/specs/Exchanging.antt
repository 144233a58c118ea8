-- What contracts see of an exchange. (This project's own.)
use Rattle.std.specs.Prelude.{ℕ, List}
use Rattle.exchange.specs.declared.place.Place.{Place}
use Rattle.exchange.specs.declared.request.Request.{Request}

-- how many steps a pull asks for at most, the requests in the order in which they were added, and once these are opened the gather of
-- each beside its asks
pub record Exchanging : Type 0 where
  pub most : ℕ
  pub requests : List Request
  pub places : List Place
