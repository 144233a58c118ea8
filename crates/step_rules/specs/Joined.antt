-- Texts with a separator between them, text by text. (Our own.)
use Rattle.std.specs.Prelude.{ℕ, zero, suc, List, []}
use Rattle.step_table.specs.Matching.{labelled}
use Rattle.step_table.specs.declared.outcomes.Outcome.{Outcome}
use Rattle.step_table.specs.declared.step.Row.{Row}
use Rattle.promql_meaning.specs.Relabels.{joined_labels, replaced_labels}

-- what stands before the text at a place: nothing before the first one
abbrev pub gap_at : List ℕ → ℕ → List ℕ
gap_at separator zero = []
gap_at separator (suc i) = separator

-- what comes of a row whose label is joined, or replaced
abbrev pub joined_row : List ℕ → List ℕ → List (List ℕ) → Row → Outcome
joined_row target separator sources row = labelled (joined_labels target separator sources row.labels) row.value

abbrev pub replaced_row : List ℕ → List ℕ → List ℕ → List ℕ → Row → Outcome
replaced_row target template source pattern row = labelled (replaced_labels target template source pattern row.labels) row.value
