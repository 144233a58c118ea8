-- Pairs of texts that are kept in one text: where each of them begins, parts and ends. Our own.
use Rattle.std.specs.Prelude.{◌≤◌, ℕ, List, slice_range, IsCharBoundary}
use Rattle.label_set.specs.declared.pairs.Span.{Span}

-- the pair that a span cuts out of a text
abbrev pub pair_in : List ℕ → Span → List ℕ × List ℕ
pair_in text span = (slice_range text span.start span.middle, slice_range text span.middle span.end)

-- a span lies in a text, and cuts between characters
pub record IsSpanIn (text : List ℕ) (span : Span) : Type 0 where
  pub named : span.start ≤ span.middle
  pub valued : span.middle ≤ span.end
  pub begins : IsCharBoundary text span.start
  pub parts : IsCharBoundary text span.middle
  pub closes : IsCharBoundary text span.end
