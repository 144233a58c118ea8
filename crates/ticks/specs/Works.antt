-- Counted work: how often a sample was given, a time was looked at in a search, and a series was tested. This is this
-- project's own.
use Rattle.std.specs.Prelude.{ℕ}

pub record Counts : Type 0 where
  pub fetched : ℕ
  pub probed : ℕ
  pub tested : ℕ
