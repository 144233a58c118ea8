-- The set operators, by membership of signatures. (Prometheus querying, operators: logical/set binary operators.)
use Rattle.std.specs.Prelude.{Bool, List, ◌++◌, filter, not, if◌then◌else◌}
use Rattle.std.specs.BTreeMap.{is_at}
use Rattle.std.specs.List.{list_any}
use Rattle.func_table.specs.declared.table.SetOp.{SetOp}
use Rattle.func_table.specs.declared.table.SetOp.TheVariants.{And, Unless, Or}
use Rattle.label_set.specs.Labels.{labels_cmp}
use Rattle.label_set.specs.declared.rules.Pairing.{Pairing}
use Rattle.step_table.specs.Groups.{Names}
use Rattle.step_table.specs.Matching.{signature_of}
use Rattle.step_table.specs.Outcomes.{settled}
use Rattle.step_table.specs.Unions.{united}
use Rattle.step_table.specs.declared.marks.Marks.{Marks}
use Rattle.step_table.specs.declared.step.Row.{Row}
use Rattle.step_table.specs.declared.step.Step.{Step}

-- whether labels are among some
abbrev pub is_among : List Names → Names → Bool
is_among all names = list_any (is_at (labels_cmp names)) all

-- whether a row's signature is one of a side
abbrev pub is_on : Pairing → List Row → Row → Bool
is_on p side row = list_any (λ other. is_at (labels_cmp (signature_of p row)) (signature_of p other)) side

-- the rows whose signature is on a side, and those whose signature isn't
abbrev pub rows_on : Pairing → List Row → List Row → List Row
rows_on p side rows = filter (is_on p side) rows

abbrev pub rows_off : Pairing → List Row → List Row → List Row
rows_off p side rows = filter (λ row. not (is_on p side row)) rows

-- whether a row's signature is among some, or, where `on` is false, whether it isn't
abbrev pub is_wanted : Pairing → List Names → Bool → Row → Bool
is_wanted p signatures on row =
    if on then is_among signatures (signature_of p row) else not (is_among signatures (signature_of p row))

-- a step of rows and marks
abbrev pub step_of_rows : List Row → Marks → Step
step_of_rows rows marks = record { table = record { rows = rows }; marks = marks }

-- a set operator: the left rows whose signature is on the right; those whose signature isn't; or all left rows and the
-- right rows whose signature isn't on the left, but for rows that share all labels
abbrev pub combined : Step → Step → SetOp → Pairing → Step
combined l r And p = step_of_rows (rows_on p r.table.rows l.table.rows) (united l.marks r.marks)
combined l r Unless p = step_of_rows (rows_off p r.table.rows l.table.rows) (united l.marks r.marks)
combined l r Or p = settled (step_of_rows (l.table.rows ++ rows_off p l.table.rows r.table.rows) (united l.marks r.marks))
