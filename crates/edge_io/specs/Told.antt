-- What a fetch answers, where the library tells what it has. This is this project's own.
use Rattle.std.specs.Prelude.{◌≡◌, ◌<◌, ◌≤◌, ℕ, List, [], length, Option, Some, Result, Ok, Err, IsSomeAnd}
use Rattle.edge_io.specs.declared.library.Fetched.{Fetched}
use Rattle.edge_io.specs.declared.library.Fetched.TheVariants.{Whole, PastLimit}
use Rattle.edge_io.specs.declared.library.Fetch.{Fetch}

-- the file's bytes, all of them and within the limit, or none since there are more than the limit
abbrev pub Tells : Option (List ℕ) → ℕ → Result Fetched Fetch → List ℕ → Type 0
Tells found limit (Ok Whole) into = (found ≡ Some into) × (length into ≤ limit)
Tells found limit (Ok PastLimit) into = IsSomeAnd found (λ bytes. limit < length bytes)
Tells found limit (Err e) into = Unit {0}

-- no byte has come unless the file came whole
abbrev pub IsEmptyUnlessWhole : Result Fetched Fetch → List ℕ → Type 0
IsEmptyUnlessWhole (Ok Whole) into = Unit {0}
IsEmptyUnlessWhole (Ok PastLimit) into = into ≡ []
IsEmptyUnlessWhole (Err e) into = into ≡ []
