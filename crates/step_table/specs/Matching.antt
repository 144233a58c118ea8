-- The rules between two vectors: rows with equal signatures are paired.
-- (Prometheus querying, operators: vector matching, one-to-one and many-to-one. Which marks a failure raises, and that all
-- of its rows are left out, is this project's own.)
use Rattle.std.specs.Prelude.{Bool, true, false, List, [], ◌∷◌, ◌++◌, ◌||◌, map, Option, Some, None, Result, Ok, Err, if◌then◌else◌}
use Rattle.std.specs.List.{filter_map}
use Rattle.std.specs.Map.{values_of}
use Rattle.std.specs.Option.{option_map}
use Rattle.label_set.specs.Labels.{signature}
use Rattle.label_set.specs.declared.rules.Card.{Card}
use Rattle.label_set.specs.declared.rules.Pairing.{Pairing}
use Rattle.xfrac.specs.declared.value.NumFault.{NumFault}
use Rattle.xfrac.specs.declared.value.NumFault.TheVariants as fault
use Rattle.xfrac.specs.declared.value.PairOp.{PairOp}
use Rattle.xfrac.specs.declared.value.XFrac.{XFrac}
use Rattle.step_table.specs.Groups.{Names, items_of, alone, lone_items, shared_names}
use Rattle.step_table.specs.Operators.{operated, is_grouped, is_left_one, pair_labels}
use Rattle.step_table.specs.Outcomes.{row_of, mark_of, keyed}
use Rattle.step_table.specs.Unions.{united, with_fatal}
use Rattle.step_table.specs.declared.marks.Mark.{Mark}
use Rattle.step_table.specs.declared.marks.Mark.TheVariants.{SameLabelset, DuplicateOneSide, ImplicitManyToOne, DuplicateResult}
use Rattle.step_table.specs.declared.outcomes.Outcome.{Outcome}
use Rattle.step_table.specs.declared.step.Row.{Row}
use Rattle.step_table.specs.declared.step.Step.{Step}

-- what rows are matched by: the `on` labels, or all but the `ignoring` ones and the metric's name
abbrev pub signature_of : Pairing → Row → Names
signature_of p row = signature p.on p.names row.labels

-- the rows, each beside its signature
abbrev pub by_signature : Pairing → List Row → List (Names × Row)
by_signature p rows = map (λ row. (signature_of p row, row)) rows

-- the one side is the right one, with group_right the left one
abbrev pub one_side : Card → List Row → List Row → List Row
one_side card left right = if is_left_one card then left else right

abbrev pub many_side : Card → List Row → List Row → List Row
many_side card left right = if is_left_one card then right else left

-- the row of the one side that alone has this signature
abbrev pub partner_of : Pairing → List Row → Names → Option Row
partner_of p ones names = alone (items_of (by_signature p ones) names)

-- the signatures that rows of the one side share
abbrev pub duplicates : Pairing → List Row → List Names
duplicates p ones = shared_names (by_signature p ones)

-- the value of a pair: the operator's, left operand first
abbrev pub pair_value : PairOp → Card → XFrac → XFrac → Result (Option XFrac) NumFault
pair_value op card many one = if is_left_one card then operated op one many else operated op many one

-- a value under its labels; labels that would pass the limits are a fault
abbrev pub labelled : Option Names → XFrac → Outcome
labelled (Some labels) value = record { labels = labels; value = Ok (Some value) }
labelled None value = record { labels = []; value = Err fault.Overflow }

-- what comes of a pair: nothing where a filter fails, a fault, or a value under the labels of the pair
abbrev pub pair_outcome : PairOp → Pairing → Row → Row → Outcome
pair_outcome op p many one = told (pair_value op p.card many.value one.value)
  where
    told : Result (Option XFrac) NumFault → Outcome
    told (Ok (Some value)) = labelled (pair_labels op p many.labels one.labels) value
    told (Ok None) = record { labels = []; value = Ok None }
    told (Err f) = record { labels = []; value = Err f }

-- a row of the many side beside what comes of it and its partner, if there is one
abbrev pub match_of : PairOp → Pairing → List Row → Row → Option (Names × Outcome)
match_of op p ones row =
    option_map (λ one. (signature_of p row, pair_outcome op p row one)) (partner_of p ones (signature_of p row))

-- all pairs, each under its signature
abbrev pub matches : PairOp → Pairing → List Row → List Row → List (Names × Outcome)
matches op p many ones = filter_map (match_of op p ones) many

-- the pairs that are left with a value, each under its signature
abbrev pub left_rows : List (Names × Outcome) → List (Names × Row)
left_rows pairs = filter_map (λ pair. option_map (λ row. (pair.0, row)) (row_of pair.1)) pairs

-- the marks of pairs with a fault
abbrev pub faults_of : List (Names × Outcome) → List Mark
faults_of pairs = filter_map (λ pair. mark_of pair.1) pairs

-- without a group word a signature has one pair: the signatures of several, and the pairs of the others
abbrev pub crowded : Card → List (Names × Row) → List Names
crowded card left = if is_grouped card then [] else shared_names left

abbrev pub uncrowded : Card → List (Names × Row) → List Row
uncrowded card left = if is_grouped card then values_of left else lone_items left

-- the mark of labels that pairs share
abbrev pub clash_mark : Card → Names → Mark
clash_mark card labels = if is_grouped card then DuplicateResult labels else SameLabelset labels

abbrev pub clash_marks : Card → List Row → List Mark
clash_marks card rows = map (clash_mark card) (shared_names (keyed rows))

-- the fatal marks of an operator between a many and a one side
abbrev pub pair_marks : PairOp → Pairing → List Row → List Row → List Mark
pair_marks op p many ones =
    let pairs = matches op p many ones in
    map DuplicateOneSide (duplicates p ones) ++ faults_of pairs ++ map ImplicitManyToOne (crowded p.card (left_rows pairs))
    ++ clash_marks p.card (uncrowded p.card (left_rows pairs))

-- the rows: the pairs that are left, without those that share their labels
abbrev pub pair_rows : PairOp → Pairing → List Row → List Row → List Row
pair_rows op p many ones = lone_items (keyed (uncrowded p.card (left_rows (matches op p many ones))))

abbrev pub is_empty : List Row → Bool
is_empty [] = true
is_empty (row ∷ rows) = false

-- an operator between two vectors; where a side has no rows, there are no rows and no marks of the operator
abbrev pub paired : Step → Step → PairOp → Pairing → Step
paired l r op p =
    let many = many_side p.card l.table.rows r.table.rows in
    let ones = one_side p.card l.table.rows r.table.rows in
    let marks = united l.marks r.marks in
    if is_empty l.table.rows || is_empty r.table.rows then record { table = record { rows = [] }; marks = marks }
    else record { table = record { rows = pair_rows op p many ones }; marks = with_fatal marks (pair_marks op p many ones) }
