-- Values that are numbers or whole numbers of any size are in lowest terms.
use Rattle.std.specs.Prelude.{List, [], ◌∷◌}
use Rattle.std.specs.List.{AllByRecursion}
use Rattle.step_table.specs.declared.step.Row.{Row}
use Rattle.window_fn.specs.NumberLaws.{IsNumberOrWhole, ValueIsLowest}
use Rattle.xfrac.specs.AnySize.{InLowestTerms}
use Rattle.promql_meaning.specs.Meaning.{meaning_step}
use Rattle.meaning_laws.specs.ValueLaws.{MeaningHasLowestTerms, MeaningHasValues}

rows_lowest : ValueIsLowest → (rows : List Row) → AllByRecursion (λ (row : Row). IsNumberOrWhole row.value) rows → AllByRecursion (λ (row : Row). InLowestTerms row.value) rows
rows_lowest lowest [] all = tt
rows_lowest lowest (row ∷ rows) all = (lowest row.value all.0, rows_lowest lowest rows all.1)

pub meaning_lowest : ValueIsLowest → MeaningHasValues → MeaningHasLowestTerms
meaning_lowest lowest has asked e t samples numbers = rows_lowest lowest (meaning_step asked e t).table.rows (has asked e t samples numbers)
