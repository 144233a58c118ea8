-- What a join keeps of the labels that were fed, and what it finds of the rows at a step.
use Rattle.std.specs.Prelude.{◌≡◌, ◌≤◌, ℕ, Bool, true, false, List, [], ◌∷◌, ◌++◌, map, length, slice_get, Option, None, Some, if◌then◌else◌, ⊤}
use Rattle.std.specs.List.{IsDistinct}
use Rattle.std.specs.Map.{keys_of, values_of}
use Rattle.label_set.specs.LabelEquality.{labels_eq}
use Rattle.label_set.specs.Labels.{signature}
use Rattle.label_set.specs.declared.rules.Card.{Card}
use Rattle.label_set.specs.declared.rules.Pairing.{Pairing}
use Rattle.step_batch.specs.Lent.{Lent, SlotsRise, entries_of, row_of, stages}
use Rattle.step_batch.specs.declared.steps.Slot.{Slot}
use Rattle.step_put.specs.Puts.{AreAt}
use Rattle.step_table.specs.Groups.{Names}
use Rattle.step_table.specs.Matching.{by_signature, faults_of, left_rows, matches, pair_marks, pair_rows, paired}
use Rattle.step_table.specs.Operators.{is_left_one, pair_labels}
use Rattle.step_table.specs.Shuffles.{Shuffled}
use Rattle.step_table.specs.Unions.{united, with_fatal}
use Rattle.step_table.specs.WellFormed.{IsTable}
use Rattle.step_table.specs.declared.marks.Mark.{Mark}
use Rattle.step_table.specs.declared.marks.Marks.{Marks}
use Rattle.step_table.specs.declared.outcomes.Outcome.{Outcome}
use Rattle.step_table.specs.declared.step.Row.{Row}
use Rattle.step_table.specs.declared.step.Step.{Step}
use Rattle.xfrac.specs.declared.value.PairOp.{PairOp}
use Rattle.op_match.specs.Apart.{pairs_left}
use Rattle.op_match.specs.Noted.{IsNoted}
use Rattle.op_match.specs.declared.kept.Kept.{Kept}
use Rattle.op_match.specs.declared.meeting.Found.{Found}
use Rattle.op_match.specs.declared.meeting.OneSide.{OneSide}
use Rattle.op_match.specs.declared.renewal.Matching.{Matching}
use Rattle.op_match.specs.declared.sides.Fed.{Fed}

-- what stands at a place of one list stands there in the other
abbrev pub Stays : {A : Type 0} → List A → List A → Type 0
Stays {A} xs ys = (j : ℕ) (x : A) → slice_get xs j ≡ Some x → slice_get ys j ≡ Some x

-- the many side and the one side of two
abbrev pub many_of : {A : Type 0} → Card → A → A → A
many_of card left right = if is_left_one card then right else left

abbrev pub one_of : {A : Type 0} → Card → A → A → A
one_of card left right = if is_left_one card then left else right

-- ---- sides

-- the labels that were fed
abbrev pub names_fed : List Fed → List Names
names_fed side = map (λ (f : Fed). f.labels) side

-- each number is that of the signature
abbrev pub IsNumbered : List Names → Pairing → List Fed → Type 0
IsNumbered set p side = (i : ℕ) (f : Fed) → slice_get side i ≡ Some f → slice_get set f.number ≡ Some (signature p.on p.names f.labels)

-- the rows of slots
abbrev pub rows_in : List Names → List Slot → List Row
rows_in labels slots = map row_of (entries_of labels slots)

abbrev pub has_no_slots : List Slot → Bool
has_no_slots [] = true
has_no_slots (s ∷ slots) = false

-- ---- labels of pairs

-- labels have a place, unless there are none
abbrev pub IsAt : List Names → Option Names → Option ℕ → Type 0
IsAt labels (Some names) (Some place) = slice_get labels place ≡ Some names
IsAt labels None None = ⊤
IsAt labels _ _ = ⊥

-- what a place of the many side keeps are the labels of its pair with that place of the one side
pub record IsKeptAt (op : PairOp) (p : Pairing) (labels many ones : List Names) (m : ℕ) (k : Kept) : Type 0 where
  pub many_names : Names
  pub one_names : Names
  pub many_there : slice_get many m ≡ Some many_names
  pub one_there : slice_get ones k.one ≡ Some one_names
  pub own : IsAt labels (pair_labels op p many_names one_names) k.own

abbrev pub AreKept : PairOp → Pairing → List Names → List Names → List Names → List (Option Kept) → Type 0
AreKept op p labels many ones kept = (m : ℕ) (k : Kept) → slice_get kept m ≡ Some (Some k) → IsKeptAt op p labels many ones m k

-- ---- a matching

-- numbers and labels are those of what was fed
pub record IsMatching (m : Matching) (labels : List Names) : Type 0 where
  pub many : IsNumbered m.signatures.labels m.pairing m.many
  pub ones : IsNumbered m.signatures.labels m.pairing m.ones
  pub kept : AreKept m.op m.pairing labels (names_fed m.many) (names_fed m.ones) m.kept

-- labels that are fed are those that a side has in front, and the many side has room for what it keeps
pub record IsReady (m : Matching) (many_fed ones_fed : List Names) : Type 0 where
  pub many : Stays many_fed (names_fed m.many)
  pub ones : Stays ones_fed (names_fed m.ones)
  pub room : length many_fed ≤ length m.kept

-- labels were added, and no more
pub record IsAfter (old : Matching) (before : Lent) (new : Matching) (after : Lent) : Type 0 where
  pub op : new.op ≡ old.op
  pub pairing : new.pairing ≡ old.pairing
  pub signatures : new.signatures ≡ old.signatures
  pub many : new.many ≡ old.many
  pub ones : new.ones ≡ old.ones
  pub room : length new.kept ≡ length old.kept
  pub matching : IsMatching old before.labels → IsMatching new after.labels
  pub stays : Stays before.labels after.labels
  pub steps : after.steps ≡ before.steps
  pub stages : stages after ≡ stages before

-- ---- a step

-- values at places stand for rows
abbrev pub ArePut : List Names → List Slot → List Row → Type 0
ArePut labels [] [] = ⊤
ArePut labels (s ∷ slots) (r ∷ rows) = (slice_get labels s.place ≡ Some r.labels) × (s.value ≡ r.value) × ArePut labels slots rows
ArePut labels _ _ = ⊥

-- what was found are these rows, each under its signature, and these marks
pub record AreFound (set labels : List Names) (left : List (Names × Row)) (fatal : List Mark) (found : Found) : Type 0 where
  pub slots : ArePut labels found.slots.items (values_of left)
  pub numbers : AreAt set (keys_of left) found.numbers.items
  pub marks : found.fatal ≡ fatal

-- which are the pairs of a many and a one side
abbrev pub ArePairs : PairOp → Pairing → List Names → List Names → List Row → List Row → Found → Type 0
ArePairs op p set labels many ones found = AreFound set labels (pairs_left op p many ones) (faults_of (matches op p many ones)) found

-- one more pair was found, under its signature
abbrev pub IsAdded : List Names → List Names → Found → List Names → Found → Names × Outcome → Type 0
IsAdded set before old after new pair =
    (left : List (Names × Row)) (fatal : List Mark) → AreFound set before left fatal old → AreFound set after (left ++ left_rows (pair ∷ [])) (fatal ++ faults_of (pair ∷ [])) new

-- the numbers of the rows of the one side are noted, and no two are equal
pub record IsOneSide (set : List Names) (p : Pairing) (ones : List Row) (side : OneSide) : Type 0 where
  pub distinct : IsDistinct labels_eq set
  pub room : length set ≤ length side.at.items
  pub numbers : AreAt set (keys_of (by_signature p ones)) side.numbers.items
  pub noted : IsNoted side.at.items side.numbers.items

-- values at places and fatal marks are the operator's rows and marks of a many and a one side
pub record IsPaired (op : PairOp) (p : Pairing) (labels : List Names) (many ones : List Row) (slots : List Slot) (fatal : List Mark) : Type 0 where
  pub rising : SlotsRise 0 (length labels) slots
  pub rows : Shuffled (rows_in labels slots) (pair_rows op p many ones)
  pub table : IsTable (pair_rows op p many ones)
  pub marks : pair_marks op p many ones ≡ fatal

abbrev pub step_with : List Row → Marks → Step
step_with rows marks = record { table = record { rows = rows }; marks = marks }

-- values at rising places and fatal marks are what the operator makes of rows of both sides
pub record IsMade (op : PairOp) (p : Pairing) (labels : List Names) (left right : List Row) (slots : List Slot) (fatal : List Mark) : Type 0 where
  pub rising : SlotsRise 0 (length labels) slots
  pub table : List Row
  pub sorted : IsTable table
  pub rows : Shuffled (rows_in labels slots) table
  pub made : (a b : Marks) → paired (step_with left a) (step_with right b) op p ≡ step_with table (with_fatal (united a b) fatal)
