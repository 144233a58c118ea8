-- What a library and a sink in memory hold. These are this project's own.
use Rattle.std.specs.Prelude.{ℕ, ◌==◌, ◌||◌, Bool, List, [], ◌∷◌, Option, None, Some, IsFalse, bytes_eq, is_none, if◌then◌else◌}
use Rattle.std.specs.List.{list_any}
use Rattle.edge_io.specs.Causes.{counted}

-- whether the number of a call, counted from 1, is among those that are to fail
abbrev pub is_listed : List ℕ → ℕ → Bool
is_listed failing call = list_any (λ n. n == call) failing

-- the paths and, at the same places, the bytes; the numbers of the fetches that are to fail; how many fetches there
-- were, and how many faults
pub record Files : Type 0 where
  pub paths : List (List ℕ)
  pub bytes : List (List ℕ)
  pub failing : List ℕ
  pub calls : ℕ
  pub faults : ℕ

-- the bytes taken so far; the numbers of the writes that are to fail; how many writes there were, and how many faults
pub record Taken : Type 0 where
  pub bytes : List ℕ
  pub failing : List ℕ
  pub calls : ℕ
  pub faults : ℕ

-- the bytes that stand at the place of the path, if it is there
abbrev pub bytes_at : List (List ℕ) → List (List ℕ) → List ℕ → Option (List ℕ)
bytes_at [] bytes path = None
bytes_at (held ∷ paths) [] path = None
bytes_at (held ∷ paths) (found ∷ bytes) path = if bytes_eq held path then Some found else bytes_at paths bytes path

-- no path is the same as a later one
abbrev pub NoneTwice : List (List ℕ) → Type 0
NoneTwice [] = Unit {0}
NoneTwice (path ∷ paths) = IsFalse (list_any (bytes_eq path) paths) × NoneTwice paths

-- whether the next fetch, of this path, fails: its number is listed, or there is no such path
abbrev pub fetch_fails : Files → List ℕ → Bool
fetch_fails files path = is_listed files.failing (counted files.calls) || is_none (bytes_at files.paths files.bytes path)

-- what a fetch of this path makes of the files: a call more, a fault more where it fails, and nothing else
abbrev pub after_fetch : Files → List ℕ → Files
after_fetch files path = record {
  paths = files.paths;
  bytes = files.bytes;
  failing = files.failing;
  calls = counted files.calls;
  faults = if fetch_fails files path then counted files.faults else files.faults;
}
