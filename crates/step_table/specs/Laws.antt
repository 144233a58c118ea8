-- What users of steps rely on.
use Rattle.std.specs.Prelude.{◌≡◌, ℕ, ◌+◌, Bool, ◌||◌, List, [], ◌∷◌, Some, filter, length, map, if◌then◌else◌}
use Rattle.std.specs.BTreeMap.{is_at}
use Rattle.std.specs.List.{All, list_any}
use Rattle.std.specs.List.Sorted.{IsStrictlySortedBy}
use Rattle.func_table.specs.declared.table.SetOp.{SetOp}
use Rattle.func_table.specs.declared.table.SetOp.TheVariants.{And, Unless, Or}
use Rattle.label_set.specs.Labels.{IsLabelSet, is_named, labels_cmp, metric_name, value_of, without}
use Rattle.label_set.specs.declared.rules.Card.TheVariants.{OneToOne}
use Rattle.label_set.specs.declared.rules.Pairing.{Pairing}
use Rattle.xfrac.specs.Laws.{IsNumber}
use Rattle.xfrac.specs.declared.value.ArithOp.TheVariants.{Add}
use Rattle.xfrac.specs.declared.value.PairOp.{PairOp}
use Rattle.xfrac.specs.declared.value.PairOp.TheVariants.{Arith}
use Rattle.step_table.specs.Groups.{Names}
use Rattle.step_table.specs.Matching.{pair_outcome, paired, signature_of}
use Rattle.step_table.specs.Operators.{grouped_labels, pair_labels}
use Rattle.step_table.specs.Orders.{mark_cmp, note_cmp}
use Rattle.step_table.specs.Outcomes.{settled, taken}
use Rattle.step_table.specs.Sets.{combined}
use Rattle.step_table.specs.Unions.{united}
use Rattle.step_table.specs.WellFormed.{AreSets, IsTable, IsWellFormed}
use Rattle.step_table.specs.declared.marks.Mark.{Mark}
use Rattle.step_table.specs.declared.marks.Marks.{Marks}
use Rattle.step_table.specs.declared.marks.Note.{Note}
use Rattle.step_table.specs.declared.outcomes.Outcome.{Outcome}
use Rattle.step_table.specs.declared.step.Row.{Row}
use Rattle.step_table.specs.declared.step.Step.{Step}

-- whether a set has a mark, and whether it has a note
abbrev pub has_mark : List Mark → Mark → Bool
has_mark marks mark = list_any (is_at (mark_cmp mark)) marks

abbrev pub has_note : List Note → Note → Bool
has_note notes note = list_any (is_at (note_cmp note)) notes

-- a union of two sets is a set, and has what either has
abbrev pub UnionIsSet : Type 0
UnionIsSet = (a b : Marks) → AreSets a → AreSets b → AreSets (united a b)

abbrev pub UnionHasMarks : Type 0
UnionHasMarks = (a b : Marks) (mark : Mark) → has_mark (united a b).fatal mark ≡ (has_mark a.fatal mark || has_mark b.fatal mark)

abbrev pub UnionHasNotes : Type 0
UnionHasNotes = (a b : Marks) (note : Note) → has_note (united a b).notes note ≡ (has_note a.notes note || has_note b.notes note)

-- every call keeps steps well formed
abbrev pub SettledIsWellFormed : Type 0
SettledIsWellFormed = (step : Step) → AreSets step.marks → IsWellFormed (settled step)

abbrev pub TakenHasSets : Type 0
TakenHasSets = (marks : Marks) (outcomes : List Outcome) → AreSets marks → AreSets (taken marks outcomes).marks

-- outcomes in the order of their labels, no two with equal labels, give a table
abbrev pub TakenIsTable : Type 0
TakenIsTable =
    (marks : Marks) (outcomes : List Outcome) → IsStrictlySortedBy labels_cmp (map (λ outcome. outcome.labels) outcomes)
    → IsTable (taken marks outcomes).table.rows

abbrev pub PairedIsWellFormed : Type 0
PairedIsWellFormed = (l r : Step) (op : PairOp) (p : Pairing) → IsWellFormed l → IsWellFormed r → IsWellFormed (paired l r op p)

abbrev pub CombinedIsWellFormed : Type 0
CombinedIsWellFormed = (l r : Step) (op : SetOp) (p : Pairing) → IsWellFormed l → IsWellFormed r → IsWellFormed (combined l r op p)

-- `and` and `unless` part the left rows: of each kind of rows as many are in one and in the other as on the left
abbrev pub AndUnlessPart : Type 0
AndUnlessPart =
    (l r : Step) (p : Pairing) (kind : Row → Bool)
    → length (filter kind (combined l r And p).table.rows) + length (filter kind (combined l r Unless p).table.rows) ≡ length (filter kind l.table.rows)

-- `or` of a vector with itself is the vector
abbrev pub OrOfItself : Type 0
OrOfItself = (v : Step) (p : Pairing) → IsWellFormed v → combined v v Or p ≡ v

-- a matching without a group word
abbrev pub one_to_one : Pairing → Pairing
one_to_one p = record p { card = OneToOne }

-- one to one, the labels of a sum of two rows are those of their signature but for the metric's name: both rows keep them
abbrev pub PlusKeepsSignature : Type 0
PlusKeepsSignature =
    (p : Pairing) (a b : Row)
    → pair_labels (Arith Add) (one_to_one p) a.labels b.labels ≡ Some (without (metric_name ∷ []) (signature_of p a))

-- two rows with equal signatures give the same, whichever is the left one
abbrev pub PlusExchangesPairs : Type 0
PlusExchangesPairs =
    (p : Pairing) (a b : Row) → IsNumber a.value → IsNumber b.value → signature_of p a ≡ signature_of p b
    → pair_outcome (Arith Add) (one_to_one p) a b ≡ pair_outcome (Arith Add) (one_to_one p) b a

-- the sum of two vectors, one to one
abbrev pub plus : Pairing → Step → Step → Step
plus p l r = paired l r (Arith Add) (one_to_one p)

abbrev pub HasNumbers : Step → Type 0
HasNumbers step = All (λ row. IsNumber row.value) step.table.rows

-- a sum without marks has the same rows with its sides exchanged
abbrev pub PlusExchangesRows : Type 0
PlusExchangesRows =
    (p : Pairing) (l r : Step) → HasNumbers l → HasNumbers r → (plus p l r).marks.fatal ≡ []
    → (plus p r l).table ≡ (plus p l r).table

-- where it has no marks then either, it is the same step, notes included
abbrev pub PlusIsExchanged : Type 0
PlusIsExchanged =
    (p : Pairing) (l r : Step) → HasNumbers l → HasNumbers r → (plus p l r).marks.fatal ≡ [] → (plus p r l).marks.fatal ≡ []
    → plus p r l ≡ plus p l r

-- grouped, a label is the one side's where its name is in the group list, and else the many side's; a missing one is empty
abbrev pub GroupListTakesOver : Type 0
GroupListTakesOver =
    (extra : List (List ℕ)) (many one labels : Names) (name : List ℕ) → IsLabelSet one → grouped_labels extra many one ≡ Some labels
    → value_of labels name ≡ (if is_named extra name then value_of one name else value_of many name)
