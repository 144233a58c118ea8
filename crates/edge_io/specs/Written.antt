-- What a sink has taken, where it tells. This is this project's own.
use Rattle.std.specs.Prelude.{◌≡◌, ℕ, List, ◌++◌, Option, None, Some}

-- what is told after these bytes were taken too
abbrev pub appended : Option (List ℕ) → List ℕ → Option (List ℕ)
appended None bytes = None
appended (Some before) bytes = Some (before ++ bytes)

-- the front of a text was taken, and no more
pub record WroteFront (before now : Option (List ℕ)) (text : List ℕ) : Type 0 where
  pub front : List ℕ
  pub left : List ℕ
  pub parts : front ++ left ≡ text
  pub took : now ≡ appended before front
