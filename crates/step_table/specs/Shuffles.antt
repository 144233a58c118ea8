-- A list in another order, and what of a step the order of rows isn't seen by. (This project's own.)
use Rattle.std.specs.Prelude.{◌≡◌, ◌↔◌, List, [], ◌∷◌}
use Rattle.std.specs.List.Sorted.{IsPermutation}
use Rattle.std.specs.Map.{values_of}
use Rattle.func_table.specs.declared.table.SetOp.{SetOp}
use Rattle.func_table.specs.declared.table.SetOp.TheVariants.{Or}
use Rattle.label_set.specs.declared.rules.Pairing.{Pairing}
use Rattle.xfrac.specs.declared.value.PairOp.{PairOp}
use Rattle.step_table.specs.AllGathered.{all_in}
use Rattle.step_table.specs.Groups.{Names, gathered, items_of, names_among}
use Rattle.step_table.specs.Matching.{pair_marks, pair_rows, paired}
use Rattle.step_table.specs.Orders.{mark_cmp, note_cmp}
use Rattle.step_table.specs.Outcomes.{settled, taken}
use Rattle.step_table.specs.Sets.{combined}
use Rattle.step_table.specs.Unions.{set_of, with_fatal}
use Rattle.step_table.specs.WellFormed.{IsTable}
use Rattle.step_table.specs.declared.marks.Mark.{Mark}
use Rattle.step_table.specs.declared.marks.Marks.{Marks}
use Rattle.step_table.specs.declared.marks.Note.{Note}
use Rattle.step_table.specs.declared.outcomes.Outcome.{Outcome}
use Rattle.step_table.specs.declared.step.Row.{Row}
use Rattle.step_table.specs.declared.step.Step.{Step}

-- one list has the items of the other in another order, which exchanges of neighbours reach
pub data Shuffled {A : Type 0} : List A → List A → Type 0 where
  none : Shuffled [] []
  kept : (x : A) (xs ys : List A) → Shuffled xs ys → Shuffled (x ∷ xs) (x ∷ ys)
  swapped : (x y : A) (xs : List A) → Shuffled (x ∷ y ∷ xs) (y ∷ x ∷ xs)
  joined : (xs ys zs : List A) → Shuffled xs ys → Shuffled ys zs → Shuffled xs zs

-- two steps have the same marks and notes, and the same rows in another order
pub record AreAlike (a b : Step) : Type 0 where
  pub rows : Shuffled a.table.rows b.table.rows
  pub marks : a.marks ≡ b.marks

-- which is what is called a permutation where lists are sorted
abbrev pub ShuffledIsPermutation : Type 0
ShuffledIsPermutation = (xs ys : List Row) → Shuffled xs ys ↔ IsPermutation xs ys

-- ---- sets and groups

-- a set of marks, or of notes, is the same whatever the order of its list
abbrev pub MarksIgnoreOrder : Type 0
MarksIgnoreOrder = (xs ys : List Mark) → Shuffled xs ys → set_of mark_cmp xs ≡ set_of mark_cmp ys

abbrev pub NotesIgnoreOrder : Type 0
NotesIgnoreOrder = (xs ys : List Note) → Shuffled xs ys → set_of note_cmp xs ≡ set_of note_cmp ys

-- rows in another order have the same labels, and under each labels the same rows in another order
abbrev pub GroupsIgnoreOrder : Type 0
GroupsIgnoreOrder =
    (xs ys : List (Names × Row)) → Shuffled xs ys → (names_among xs ≡ names_among ys) × ((names : Names) → Shuffled (items_of xs names) (items_of ys names))

-- the groups of rows have all of them
abbrev pub GroupsHaveAll : Type 0
GroupsHaveAll = (items : List (Names × Row)) → IsPermutation (values_of items) (all_in (gathered items))

-- ---- rows

-- what comes of rows doesn't depend on their order
abbrev pub OutcomesIgnoreOrder : Type 0
OutcomesIgnoreOrder = (marks : Marks) (xs ys : List Outcome) → Shuffled xs ys → settled (taken marks xs) ≡ settled (taken marks ys)

abbrev pub SettledIgnoresOrder : Type 0
SettledIgnoresOrder = (a b : Step) → AreAlike a b → settled a ≡ settled b

-- a table has its rows in one order alone
abbrev pub TableIsOneOrder : Type 0
TableIsOneOrder = (xs ys : List Row) → IsTable xs → IsTable ys → Shuffled xs ys → xs ≡ ys

-- ---- two sides

-- nor does what an operator between vectors gives depend on the order of rows on either side
abbrev pub PairRowsIgnoreOrder : Type 0
PairRowsIgnoreOrder =
    (op : PairOp) (p : Pairing) (many many' ones ones' : List Row) → Shuffled many many' → Shuffled ones ones' → pair_rows op p many ones ≡ pair_rows op p many' ones'

abbrev pub PairMarksIgnoreOrder : Type 0
PairMarksIgnoreOrder =
    (op : PairOp) (p : Pairing) (marks : Marks) (many many' ones ones' : List Row) → Shuffled many many' → Shuffled ones ones' →
    with_fatal marks (pair_marks op p many ones) ≡ with_fatal marks (pair_marks op p many' ones')

abbrev pub PairedIgnoresOrder : Type 0
PairedIgnoresOrder = (op : PairOp) (p : Pairing) (l l' r r' : Step) → AreAlike l l' → AreAlike r r' → paired l r op p ≡ paired l' r' op p

-- a set operator gives alike steps of alike sides; `or` gives the same one
abbrev pub CombinedIgnoresOrder : Type 0
CombinedIgnoresOrder = (op : SetOp) (p : Pairing) (l l' r r' : Step) → AreAlike l l' → AreAlike r r' → AreAlike (combined l r op p) (combined l' r' op p)

abbrev pub OrIgnoresOrder : Type 0
OrIgnoresOrder = (p : Pairing) (l l' r r' : Step) → AreAlike l l' → AreAlike r r' → combined l r Or p ≡ combined l' r' Or p
