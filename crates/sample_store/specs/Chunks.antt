-- Samples of one series in chunks, one behind another, and a place among them. Our own: it is how they are kept.
use Rattle.std.specs.Prelude.{◌≡◌, ◌<◌, ◌≤◌, ◌+◌, ◌<ℤ◌, ◌++◌, ℕ, List, [], ◌∷◌, length, slice_get, take, drop, unwrap_or}
use Rattle.sample_store.specs.Counts.{Counted}
use Rattle.std.specs.List.{AllByRecursion}
use Rattle.ticks.specs.declared.moment.Ms.{Ms}
use Rattle.sample_store.specs.Samples.{Between, Samples}

-- the samples of chunks, one behind another
abbrev pub flat : List Samples → Samples
flat [] = []
flat (c ∷ chunks) = c ++ flat chunks

-- no chunk is empty
abbrev pub AreFilled : List Samples → Type 0
AreFilled chunks = AllByRecursion (λ c. 0 < length c) chunks

-- a time that is not among the samples of earlier and later chunks goes into this one
pub record IsChunkOf (chunks : List Samples) (at : Ms) (k : ℕ) : Type 0 where
  pub within : k < length chunks
  pub before : AllByRecursion (λ s. s.0.0 <ℤ at.0) (flat (take k chunks))
  pub behind : AllByRecursion (λ s. at.0 <ℤ s.0.0) (flat (drop (k + 1) chunks))

-- the samples of the chunk at a place, none where there is no chunk
abbrev pub chunk_at : List Samples → ℕ → Samples
chunk_at chunks k = unwrap_or (slice_get chunks k) []

-- the samples before a place in the chunk at another, and those from there on
abbrev pub cursor_at : List Samples → ℕ → ℕ → Between
cursor_at chunks k i = record { before = flat (take k chunks) ++ take i (chunk_at chunks k); rest = drop i (chunk_at chunks k) ++ flat (drop (k + 1) chunks) }

-- how many samples lie before each chunk, where so many lie before the first
abbrev pub starts_from : ℕ → List Samples → List ℕ
starts_from n [] = []
starts_from n (c ∷ chunks) = n ∷ starts_from (n + length c) chunks

-- how many samples there are, and how many lie before each chunk but the first
abbrev pub counted : List Samples → Counted
counted chunks = record { total = length (flat chunks); starts = drop 1 (starts_from 0 chunks) }

-- no chunk is empty, and the samples before each are counted
pub record AreInChunks (chunks : List Samples) (counts : Counted) : Type 0 where
  pub filled : AreFilled chunks
  pub are : counts ≡ counted chunks

-- the sample with a number, counted from 0, is one of a chunk's
pub record IsAmong (chunks : List Samples) (place k : ℕ) : Type 0 where
  pub within : k < length chunks
  pub from : length (flat (take k chunks)) ≤ place
  pub until : place < length (flat (take (k + 1) chunks))

-- a cursor stands at a sample, or behind the last one, and knows how many samples lie before its chunk
pub record IsCursor (chunks : List Samples) (k i base : ℕ) : Type 0 where
  pub filled : AreFilled chunks
  pub few : length (flat chunks) ≤ 2000000
  pub within : k ≤ length chunks
  pub stands : k < length chunks → i < length (chunk_at chunks k)
  pub ended : length chunks ≤ k → i ≡ 0
  pub based : base ≡ length (flat (take k chunks))

-- where a sample with a number stands among chunks, or the end
pub record IsPlace (chunks : List Samples) (place k i : ℕ) : Type 0 where
  pub within : k ≤ length chunks
  pub stands : k < length chunks → i < length (chunk_at chunks k)
  pub ended : length chunks ≤ k → i ≡ 0
  pub counted : place ≡ length (flat (take k chunks)) + i
