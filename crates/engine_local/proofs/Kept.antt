-- A pattern out of its two parts.
use Rattle.std.proofs.Common.{◌≡◌, ℕ, Bool, List, Some, None}
use Rattle.std.specs.Prelude.{Option}
use Rattle.std.specs.Option.{option_map}

-- the one that is kept, by its flag and its text
pub pair_of : (kept : Option (Bool × List ℕ)) (whole : Bool) (text copy : List ℕ) → option_map (λ p. p.0) kept ≡ Some whole → option_map (λ p. p.1) kept ≡ Some text → copy ≡ text → kept ≡ Some (whole, copy)
pair_of None whole text copy a b same = absurd (cc)
pair_of (Some p) whole text copy a b same =
    let first : p.0 ≡ whole = cc in
    let second : p.1 ≡ copy = cc in
    λ i. Some (first i, second i)
