-- What an operator makes of two values, and which labels a pair of rows gets.
-- (Prometheus querying, operators: binary operators and vector matching. The limits on labels are this project's own.)
use Rattle.std.specs.Prelude.{ℕ, Bool, true, false, List, [], ◌∷◌, Option, Some, None, Result, Ok, Err, is_some, if◌then◌else◌}
use Rattle.label_set.specs.Labels.{keep, without, metric_name, put_refusal, with_pair}
use Rattle.label_set.specs.declared.rules.Card.{Card}
use Rattle.label_set.specs.declared.rules.Card.TheVariants.{OneToOne, GroupLeft, GroupRight}
use Rattle.label_set.specs.declared.rules.Pairing.{Pairing}
use Rattle.xfrac.specs.Arithmetic.{arithmetic, whole_number}
use Rattle.xfrac.specs.Order.{compares}
use Rattle.xfrac.specs.declared.value.NumFault.{NumFault}
use Rattle.xfrac.specs.declared.value.PairOp.{PairOp}
use Rattle.xfrac.specs.declared.value.PairOp.TheVariants.{Arith, Filter, Flag}
use Rattle.xfrac.specs.declared.value.XFrac.{XFrac}
use Rattle.step_table.specs.Groups.{Names}

-- a value that isn't missing
abbrev pub some_value : Result XFrac NumFault → Result (Option XFrac) NumFault
some_value (Ok value) = Ok (Some value)
some_value (Err fault) = Err fault

-- what an operator makes of a left and a right value: arithmetic its value or its fault, a filter the left value or
-- nothing, and a comparison with `bool` 1 or 0
abbrev pub operated : PairOp → XFrac → XFrac → Result (Option XFrac) NumFault
operated (Arith f) a b = some_value (arithmetic f a b)
operated (Filter c) a b = Ok (if compares c a b then Some a else None)
operated (Flag c) a b = Ok (Some (whole_number (if compares c a b then 1 else 0)))

-- arithmetic and `bool` drop the metric's name
abbrev pub drops_name : PairOp → Bool
drops_name (Arith f) = true
drops_name (Filter c) = false
drops_name (Flag c) = true

abbrev pub unnamed : PairOp → Names → Names
unnamed op labels = if drops_name op then without (metric_name ∷ []) labels else labels

-- whether the operator has a group word
abbrev pub is_grouped : Card → Bool
is_grouped OneToOne = false
is_grouped GroupLeft = true
is_grouped GroupRight = true

-- whether the left side is the one side
abbrev pub is_left_one : Card → Bool
is_left_one OneToOne = false
is_left_one GroupLeft = false
is_left_one GroupRight = true

-- one to one: only the `on` labels, or all but the `ignoring` ones
abbrev pub matched_labels : Pairing → Names → Names
matched_labels p labels = if p.on then keep p.names labels else without p.names labels

-- the pairs of a list, put one after another; nothing where one is refused, which is where the limits would be passed
abbrev pub all_put : Names → Names → Option Names
all_put labels [] = Some labels
all_put labels (pair ∷ pairs) =
    if is_some (put_refusal labels pair.0 pair.1) then None else all_put (with_pair labels pair.0 pair.1) pairs

-- grouped: the many side's labels, with the one side's values under the names of the group list; a name that the one
-- side lacks is taken out
abbrev pub grouped_labels : List (List ℕ) → Names → Names → Option Names
grouped_labels extra many one = all_put (without extra many) (keep extra one)

-- the labels of a pair, from those of the row of the many side and of the row of the one side; nothing where they would
-- pass the limits
abbrev pub pair_labels : PairOp → Pairing → Names → Names → Option Names
pair_labels op p many one =
    if is_grouped p.card then grouped_labels p.extra (unnamed op many) one
    else Some (matched_labels p (unnamed op many))
