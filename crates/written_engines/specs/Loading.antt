-- An engine that samples are loaded into, beside a store that takes the same samples. (This project's own.)
use Rattle.std.specs.Prelude.{◌≡◌, [], None}
use Rattle.engine_local.specs.Local.{Local}
use Rattle.promql_meaning.specs.Selecting.{AllSeries}

-- nothing was asked of it and no labels are declared to it, and it holds the samples of the store
pub record IsLoading (samples : AllSeries) (e : Local) : Type 0 where
  pub unasked : e.asks ≡ []
  pub undeclared : e.declared ≡ None
  pub samples_are : e.samples ≡ samples
