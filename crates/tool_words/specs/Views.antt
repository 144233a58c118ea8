-- What the program's wishes stand for. (This project's own.)
use Rattle.std.specs.Prelude.{◌≡◌, ◌<◌, ◌≤◌, ℕ, IsTrue, length, ⊤}
use Rattle.tool_words.specs.Asked.{Wish, explain, format, query, test, workload}
use Rattle.tool_words.specs.Engines.{AreDeclaredTo}
use Rattle.ticks.specs.Moments.{Moments, moments_in}
use Rattle.tool_words.specs.declared.asked.Asked.{Asked}
use Rattle.tool_words.specs.declared.asked.Asked.TheVariants as wanted
use Rattle.tool_words.specs.declared.asked.Choices.{Choices}
use Rattle.tool_words.specs.declared.instants.Instants.{Instants}

abbrev pub moments_seen : Instants → Moments
moments_seen instants = moments_in instants.grid instants.instant

abbrev pub wish_of : Asked → Wish
wish_of (wanted.Test choices engines files) = test choices engines files
wish_of (wanted.Query choices engines grid instant file expr) = query choices engines (moments_in grid instant) file expr
wish_of (wanted.Workload choices engines count) = workload choices engines count
wish_of (wanted.Format expr) = format expr
wish_of (wanted.Explain optimisers engines expr) = explain optimisers engines expr

-- there is a file to judge
abbrev pub HasFiles : Asked → Type 0
HasFiles (wanted.Test choices engines files) = 0 < length files
HasFiles (wanted.Query choices engines grid instant file expr) = ⊤
HasFiles (wanted.Workload choices engines count) = ⊤
HasFiles (wanted.Format expr) = ⊤
HasFiles (wanted.Explain optimisers engines expr) = ⊤

-- an instant query has one instant
abbrev pub IsOneInstant : Asked → Type 0
IsOneInstant (wanted.Test choices engines files) = ⊤
IsOneInstant (wanted.Query choices engines grid instant file expr) = IsTrue instant → grid.start ≡ grid.end
IsOneInstant (wanted.Workload choices engines count) = ⊤
IsOneInstant (wanted.Format expr) = ⊤
IsOneInstant (wanted.Explain optimisers engines expr) = ⊤

-- a workload has a series, and at most 20,000
abbrev pub HasSeries : Asked → Type 0
HasSeries (wanted.Test choices engines files) = ⊤
HasSeries (wanted.Query choices engines grid instant file expr) = ⊤
HasSeries (wanted.Workload choices engines count) = (0 < count) × (count ≤ 20000)
HasSeries (wanted.Format expr) = ⊤
HasSeries (wanted.Explain optimisers engines expr) = ⊤

-- at least one instant is computed at once, and at most 1,024
abbrev pub AreInBatches : Choices → Type 0
AreInBatches choices = (0 < choices.batch) × (choices.batch ≤ 1024)

-- so are the evaluations, where there are any
abbrev pub HasBatch : Asked → Type 0
HasBatch (wanted.Test choices engines files) = AreInBatches choices
HasBatch (wanted.Query choices engines grid instant file expr) = AreInBatches choices
HasBatch (wanted.Workload choices engines count) = AreInBatches choices
HasBatch (wanted.Format expr) = ⊤
HasBatch (wanted.Explain optimisers engines expr) = ⊤

-- no more engines are declared than there are boxes, and they may be declared
abbrev pub HasEngines : ℕ → Asked → Type 0
HasEngines boxes (wanted.Test choices engines files) = AreDeclaredTo boxes engines
HasEngines boxes (wanted.Query choices engines grid instant file expr) = AreDeclaredTo boxes engines
HasEngines boxes (wanted.Workload choices engines count) = AreDeclaredTo boxes engines
HasEngines boxes (wanted.Format expr) = ⊤
HasEngines boxes (wanted.Explain optimisers engines expr) = AreDeclaredTo boxes engines
