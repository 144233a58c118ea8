-- How a search over the paths goes on past a path that isn't the one looked for.
use Rattle.std.proofs.Common.{◌≡◌, ◌<◌, ℕ, zero, suc, ◌+◌, List, [], ◌∷◌, length, drop, slice_index_or, None, Some, false, bytes_eq, refl, sym, ap, ◌∙◌, arith, add-one, if◌then◌else◌}
use Rattle.edge_io.specs.Held.{bytes_at}

bytes_at-nil : (paths : List (List ℕ)) (path : List ℕ) → bytes_at paths [] path ≡ None
bytes_at-nil [] path = refl
bytes_at-nil (held ∷ paths) path = refl

bytes_at-suc : (paths bytes : List (List ℕ)) (i : ℕ) (path other : List ℕ) → i < length paths → bytes_eq (slice_index_or paths i other) path ≡ false
    → bytes_at (drop (suc i) paths) (drop (suc i) bytes) path ≡ bytes_at (drop i paths) (drop i bytes) path
bytes_at-suc [] bytes i path other within differs = absurd (omega arith)
bytes_at-suc (held ∷ paths) [] zero path other within differs = bytes_at-nil paths path
bytes_at-suc (held ∷ paths) [] (suc i) path other within differs = bytes_at-nil (drop (suc i) paths) path ∙ sym (bytes_at-nil (drop i paths) path)
bytes_at-suc (held ∷ paths) (found ∷ bytes) zero path other within differs =
    sym (ap (λ b. if b then Some found else bytes_at paths bytes path) differs)
bytes_at-suc (held ∷ paths) (found ∷ bytes) (suc i) path other within differs = bytes_at-suc paths bytes i path other (omega arith) differs

-- what is found from one place on is found from the next place on, where another path stands at it
pub bytes_at-drop : (paths bytes : List (List ℕ)) (i : ℕ) (path other : List ℕ) → i < length paths → bytes_eq (slice_index_or paths i other) path ≡ false
    → bytes_at (drop (i + 1) paths) (drop (i + 1) bytes) path ≡ bytes_at (drop i paths) (drop i bytes) path
bytes_at-drop paths bytes i path other within differs = rw add-one (bytes_at-suc paths bytes i path other within differs)
