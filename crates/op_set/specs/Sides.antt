-- The labels of two sides, the numbers of their signatures and their places among the labels that are lent, and the rows that
-- an operator keeps by them.
use Rattle.std.specs.Prelude.{◌≡◌, ◌<◌, ◌==◌, ◌++◌, ℕ, Bool, true, false, not, List, [], length, map, filter, slice_index_or, if◌then◌else◌}
use Rattle.std.specs.List.{list_any}
use Rattle.func_table.specs.declared.table.SetOp.{SetOp}
use Rattle.func_table.specs.declared.table.SetOp.TheVariants.{And, Unless, Or}
use Rattle.label_set.specs.Labels.{signature}
use Rattle.label_set.specs.declared.rules.Pairing.{Pairing}
use Rattle.step_batch.specs.declared.steps.Slot.{Slot}
use Rattle.step_put.specs.Puts.{AreAt}
use Rattle.step_put.specs.declared.labels_left.Left.TheVariants as kind
use Rattle.step_table.specs.Groups.{Names}
use Rattle.op_set.specs.declared.choose.Chosen.{Chosen}
use Rattle.op_set.specs.declared.choose.Chosen.TheVariants.{All, Marked, Unmarked}
use Rattle.op_set.specs.declared.sides.Side.{Side}
use Rattle.op_set.specs.declared.sides.Naming.{Naming}

-- ---- names

-- the signature of labels
abbrev pub signature_by : Pairing → Names → Names
signature_by p names = signature p.on p.names names

-- whether rows of the right side are lent too
abbrev pub lends_right : SetOp → Bool
lends_right And = false
lends_right Unless = false
lends_right Or = true

-- the labels of a side whose rows may be lent
abbrev pub lent_labels : Bool → List Names → List Names
lent_labels lends labels = if lends then labels else []

-- each labels of a side have the number of their signature, and those that may be lent their place among the labels that are
pub record IsNamed (p : Pairing) (lends : Bool) (signatures labels : List Names) (side : Side) : Type 0 where
  pub signed_left : side.signed.left ≡ kind.Signature p.on p.names
  pub own_left : side.own.left ≡ kind.All
  pub fed : side.own.fed ≡ lent_labels lends side.signed.fed
  pub numbers : AreAt signatures (map (signature_by p) side.signed.fed) side.signed.places
  pub places : AreAt labels (lent_labels lends side.signed.fed) side.own.places

pub record AreNamed (names : Naming) (labels : List Names) : Type 0 where
  pub left : IsNamed names.pairing true names.signatures.labels labels names.left
  pub right : IsNamed names.pairing (lends_right names.op) names.signatures.labels labels names.right

-- ---- rows

-- the numbers are below another
abbrev pub AreBelow : ℕ → List ℕ → Type 0
AreBelow high numbers = (i : ℕ) → i < length numbers → slice_index_or numbers i 0 < high

-- the number of a row's signature
abbrev pub number_of : List ℕ → Slot → ℕ
number_of numbers slot = slice_index_or numbers slot.place 0

-- whether a signature is that of one of some rows
abbrev pub has_number : List ℕ → List Slot → ℕ → Bool
has_number numbers slots number = list_any (λ (s : Slot). number_of numbers s == number) slots

-- exactly the signatures of some rows are marked
abbrev pub AreMarked : List Bool → List ℕ → List Slot → Type 0
AreMarked marked numbers slots = (number : ℕ) → number < length marked → slice_index_or marked number false ≡ has_number numbers slots number

-- whether rows are chosen whose signature is marked or isn't
abbrev pub is_chosen : Chosen → Bool → Bool
is_chosen All marked = true
is_chosen Marked marked = marked
is_chosen Unmarked marked = not marked

abbrev pub is_kept : Chosen → List Bool → List ℕ → Slot → Bool
is_kept chosen marked numbers slot = is_chosen chosen (slice_index_or marked (number_of numbers slot) false)

-- a row at its own place
abbrev pub moved : List ℕ → Slot → Slot
moved places slot = record { place = slice_index_or places slot.place 0; value = slot.value }

-- the rows that are chosen, at their own places
abbrev pub kept_rows : Chosen → List Bool → Side → List Slot → List Slot
kept_rows chosen marked side slots = map (moved side.own.places) (filter (is_kept chosen marked side.signed.places) slots)

-- whether a row's signature is that of one of some rows of the other side
abbrev pub is_met : Side → List Slot → Side → Slot → Bool
is_met other others side slot = has_number other.signed.places others (number_of side.signed.places slot)

-- the rows that an operator gives, at their own places
abbrev pub rows_kept : SetOp → Side → Side → List Slot → List Slot → List Slot
rows_kept And left right ls rs = map (moved left.own.places) (filter (is_met right rs left) ls)
rows_kept Unless left right ls rs = map (moved left.own.places) (filter (λ s. not (is_met right rs left s)) ls)
rows_kept Or left right ls rs = map (moved left.own.places) ls ++ map (moved right.own.places) (filter (λ s. not (is_met left ls right s)) rs)
