-- The rows of a lent step: a table of those that its slots stand for.
use Rattle.std.proofs.Common.{◌≡◌, ◌≤◌, ◌<◌, ◌+◌, ℕ, arith, false, List, [], ◌∷◌, ◌++◌, length, map, slice_get, refl, sym, ap, subst, Some, None, append-nil}
use Rattle.std.specs.Prelude.{fold, ⊤, ◌==◌}
use Rattle.std.specs.declared.cmp.Ordering.TheVariants.{Less, Equal, Greater}
use Rattle.std.specs.Ordering.{match_ordering}
use Rattle.std.specs.List.{AllByRecursion, IsDistinct, cons_option}
use Rattle.std.specs.List.Sorted.{IsStrictlySortedBy}
use Rattle.std.specs.Map.{keys_of}
use Rattle.std.specs.Option.{option_map}
use Rattle.std.proofs.lemmas.Bool.Decides.{nat_tests}
use Rattle.label_set.specs.Entries.{all_insert}
use Rattle.label_set.specs.LabelEquality.{labels_eq}
use Rattle.label_set.specs.LabelOrder.{labels_cmp_ties}
use Rattle.label_set.specs.Labels.{labels_cmp}
use Rattle.step_table.specs.Groups.{Names}
use Rattle.step_table.specs.Shuffles.{Shuffled, TableIsOneOrder, kept, swapped, joined}
use Rattle.step_table.specs.Shuffling.{front_kept, itself, mapped_shuffled, to_back, turned_back}
use Rattle.step_table.specs.declared.step.Row.{Row}
use Rattle.xfrac.specs.declared.value.XFrac.{XFrac}
use Rattle.step_batch.specs.Laws.{LentRowsAreTables, LentRowsAreThoseOfSlots, PlacesAreNotSeen, SortedRowsAreTables, rows_at}
use Rattle.step_batch.specs.Lent.{SlotsRise, entries_of, has_slot, row_of, stage_of}
use Rattle.step_batch.specs.Tables.{in_order, put_into}
use Rattle.step_batch.specs.declared.steps.Slot.{Slot}
use Rattle.step_batch.proofs.Orders.{order_sorted, sorted_in_order}
use Rattle.step_batch.proofs.Places.{others_apart}

abbrev Entry : Type 0
Entry = Names × XFrac

-- an entry has other labels than some
abbrev IsApart : Entry → List Entry → Type 0
IsApart x es = AllByRecursion (λ (e : Entry). x.0 ≡ e.0 → ⊥) es

abbrev AreApart : List Entry → Type 0
AreApart [] = ⊤
AreApart (e ∷ es) = IsApart e es × AreApart es

-- ---- entries that are put in order are the same ones in another order

put_shuffled : (x : Entry) (es : List Entry) → IsApart x es → Shuffled (x ∷ es) (put_into es x)
put_shuffled x [] a = itself (x ∷ [])
put_shuffled x (e ∷ es) a =
    elim (labels_cmp x.0 e.0) as (λ o. labels_cmp x.0 e.0 ≡ o → Shuffled (x ∷ e ∷ es) (match_ordering o (x ∷ e ∷ es) ((e.0, x.1) ∷ es) (e ∷ put_into es x))) [
      | Less ↦ λ h. itself (x ∷ e ∷ es)
      | Equal ↦ λ h. absurd (a.0 (labels_cmp_ties x.0 e.0 h))
      | Greater ↦ λ h. joined (x ∷ e ∷ es) (e ∷ x ∷ es) (e ∷ put_into es x) (swapped x e es) (kept e (x ∷ es) (put_into es x) (put_shuffled x es a.1))
    ] refl

apart_more : (f x : Entry) (done : List Entry) → (f.0 ≡ x.0 → ⊥) → IsApart f done → IsApart f (put_into done x)
apart_more f x done n a = all_insert labels_cmp (λ (y : Entry). f.0 ≡ y.0 → ⊥) x.0 x.1 done n (λ y p. p) a

all_apart_more : (x : Entry) (done es : List Entry) → IsApart x es → AllByRecursion (λ (e : Entry). IsApart e done) es → AllByRecursion (λ (e : Entry). IsApart e (put_into done x)) es
all_apart_more x done [] a b = tt
all_apart_more x done (e ∷ es) a b = (apart_more e x done (λ h. a.0 (sym h)) b.0, all_apart_more x done es a.1 b.1)

fold_shuffled : (done es : List Entry) → AreApart es → AllByRecursion (λ (e : Entry). IsApart e done) es → Shuffled (es ++ done) (fold put_into done es)
fold_shuffled done [] p a = itself done
fold_shuffled done (e ∷ es) p a =
    joined (e ∷ (es ++ done)) (es ++ e ∷ done) (fold put_into (put_into done e) es) (to_back e es done)
    (joined (es ++ e ∷ done) (es ++ put_into done e) (fold put_into (put_into done e) es) (front_kept es (e ∷ done) (put_into done e) (put_shuffled e done a.0))
    (fold_shuffled (put_into done e) es p.1 (all_apart_more e done es p.0 a.1)))

from_none : (es : List Entry) → AllByRecursion (λ (e : Entry). IsApart e []) es
from_none [] = tt
from_none (e ∷ es) = (tt, from_none es)

order_shuffled : (es : List Entry) → AreApart es → Shuffled es (in_order es)
order_shuffled es a = subst (λ (z : List Entry). Shuffled z (in_order es)) (append-nil es) (fold_shuffled [] es a (from_none es))

-- ---- the entries of slots

none_later : (low high place : ℕ) (slots : List Slot) → place < low → SlotsRise low high slots → has_slot place slots ≡ false
none_later low high place [] l r = refl
none_later low high place (s ∷ slots) l r =
    let h : low ≤ s.place = r.0 in
    let e : (place == s.place) ≡ false = grind (arith, nat_tests, l, h) in
    rw e (none_later (s.place + 1) high place slots (omega arith) r.2)

entries_apart : (labels : List Names) (low high : ℕ) (slots : List Slot) → IsDistinct labels_eq labels → SlotsRise low high slots → AreApart (entries_of labels slots)
entries_apart labels low high [] d r = tt
entries_apart labels low high (s ∷ slots) d r =
    let rest : AreApart (entries_of labels slots) = entries_apart labels (s.place + 1) high slots d r.2 in
    elim (slice_get labels s.place) as (λ o. slice_get labels s.place ≡ o → AreApart (cons_option (option_map (λ (m : Names). (m, s.value)) o) (entries_of labels slots))) [
      | None ↦ λ f. rest
      | Some m ↦ λ f. (others_apart labels s.place m slots d f (none_later (s.place + 1) high s.place slots (omega arith) r.2), rest)
    ] refl

-- ---- the laws

keys_of_rows : (es : List Entry) → map (λ (row : Row). row.labels) (map row_of es) ≡ keys_of es
keys_of_rows [] = refl
keys_of_rows (e ∷ es) = ap (λ r. e.0 ∷ r) (keys_of_rows es)

pub lent_rows_are_tables : LentRowsAreTables
lent_rows_are_tables labels s =
    let es : List Entry = in_order (entries_of labels s.slots) in
    subst (IsStrictlySortedBy labels_cmp) (sym (keys_of_rows es)) (order_sorted (entries_of labels s.slots))

pub lent_rows_are_those_of_slots : LentRowsAreThoseOfSlots
lent_rows_are_those_of_slots lent s l r =
    let es : List Entry = entries_of lent.labels s.slots in
    mapped_shuffled row_of es (in_order es) (order_shuffled es (entries_apart lent.labels 0 (length lent.labels) s.slots l.distinct r))

pub sorted_rows_are_tables : SortedRowsAreTables
sorted_rows_are_tables entries s = sorted_in_order entries s

pub places_are_unseen : TableIsOneOrder → PlacesAreNotSeen
places_are_unseen one a b s t la lb ra rb at marks same =
    let x : List Row = (stage_of a.labels s).step.table.rows in
    let y : List Row = (stage_of b.labels t).step.table.rows in
    let p : Shuffled x (rows_at a.labels s) = turned_back (rows_at a.labels s) x (lent_rows_are_those_of_slots a s la ra) in
    let q : Shuffled (rows_at b.labels t) y = lent_rows_are_those_of_slots b t lb rb in
    let rows : x ≡ y = one x y (lent_rows_are_tables a.labels s) (lent_rows_are_tables b.labels t) (joined x (rows_at a.labels s) y p (joined (rows_at a.labels s) (rows_at b.labels t) y same q)) in
    λ i. record { at = at i; step = record { table = record { rows = rows i }; marks = marks i } }
