-- What a fetch of a path finds: its bytes, or none. (This project's own.)
use Rattle.std.specs.Prelude.{◌≡◌, ℕ, List, Option, Some, IfSome}

-- files have these bytes at a path, or none
abbrev pub Have : (List ℕ → Option (List ℕ)) → List ℕ → Option (List ℕ) → Type 0
Have files path found = files path ≡ found

-- these bytes are at every path
abbrev pub Just : List ℕ → List ℕ → Option (List ℕ) → Type 0
Just bytes path found = found ≡ Some bytes

-- A fetch of a path found these bytes, or none. Bytes are those that the library tells; of a path that is there a
-- library may find none only where it isn't sound.
pub record IsFound (told : Option (List ℕ → Option (List ℕ))) (sound : Type 0) (path : List ℕ) (found : Option (List ℕ)) : Type 0 where
  pub if_some : IfSome found (λ bytes. IfSome told (λ files. Have files path (Some bytes)))
  pub if_sound : sound → IfSome told (λ files. Have files path found)
