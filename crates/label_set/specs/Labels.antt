-- Labels: pairs of a name and a value, each a list of bytes, in byte order of the names.
-- Prometheus, "Data model": a series is named by its labels, and a label with an empty value counts as one that is not there.
-- The limits and the order of the refusals are this project's own.
use Rattle.std.specs.Prelude.{◌≡◌, ◌≢◌, ◌≤◌, ◌++◌, slice_get, slice_index_or, ℕ, Bool, false, List, [], ◌∷◌, length, unwrap_or, bytes_eq, filter, codes, is_some, nat_lt, not, if◌then◌else◌, ◌&&◌, Option, None, Some}
use Rattle.std.specs.List.{AllByRecursion, list_any}
use Rattle.std.specs.List.Sorted.{IsStrictlySortedBy}
use Rattle.std.specs.Map.{keys_of, lookup}
use Rattle.std.specs.BTreeMap.{insert_entry, is_at}
use Rattle.std.specs.Ordering.{nat_cmp, then_cmp, on, eq_by_cmp}
use Rattle.std.specs.Cmp.Lexicographic.{slice_cmp, pointwise, lists_ties, texts_ties}
use Rattle.std.specs.Cmp.{both_tied}
use Rattle.std.specs.declared.cmp.Ordering.{Ordering}
use Rattle.label_set.specs.declared.labels.LabelRefusal.{LabelRefusal}
use Rattle.label_set.specs.declared.labels.LabelRefusal.TheVariants.{EmptyName, TooLong, Duplicate, TooMany}

-- the order of texts: byte by byte, and a text before those that it begins
abbrev pub byte_cmp : List ℕ → List ℕ → Ordering
byte_cmp = slice_cmp nat_cmp

-- distinct names in byte order, no empty value, and at most 64 pairs
pub record IsLabelSet (ps : List (List ℕ × List ℕ)) : Type 0 where
  pub ordered : IsStrictlySortedBy byte_cmp (keys_of ps)
  pub filled : AllByRecursion (λ p. p.1 ≢ []) ps
  pub few : length ps ≤ 64

-- the value under a name, if it is there
abbrev pub value_at : List (List ℕ × List ℕ) → List ℕ → Option (List ℕ)
value_at ps name = lookup (is_at (byte_cmp name)) ps

-- the value under a name; one that is missing reads as the empty text
abbrev pub value_of : List (List ℕ × List ℕ) → List ℕ → List ℕ
value_of ps name = unwrap_or (value_at ps name) []

-- there are 64 pairs, and the value is not empty, so that its pair would be one more
abbrev pub room_refusal : List (List ℕ × List ℕ) → List ℕ → Option LabelRefusal
room_refusal ps [] = None
room_refusal ps (c ∷ value) = if nat_lt (length ps) 64 then None else Some TooMany

-- the refusal of a new pair: the name is empty; a text has more than 4,096 bytes; the name is there; there is no room
abbrev pub put_refusal : List (List ℕ × List ℕ) → List ℕ → List ℕ → Option LabelRefusal
put_refusal ps [] value = Some EmptyName
put_refusal ps (b ∷ name) value =
    if nat_lt 4096 (length (b ∷ name)) then Some TooLong else
    if nat_lt 4096 (length value) then Some TooLong else
    if is_some (value_at ps (b ∷ name)) then Some Duplicate else
    room_refusal ps value

-- the pairs with one more, in its place; an empty value adds nothing
abbrev pub with_pair : List (List ℕ × List ℕ) → List ℕ → List ℕ → List (List ℕ × List ℕ)
with_pair ps name [] = ps
with_pair ps name (c ∷ value) = insert_entry byte_cmp ps name (c ∷ value)

-- the refusal of a value under a name, there or not: the name is empty; a text has more than 4,096 bytes; the name is
-- not there, and there is no room
abbrev pub set_refusal : List (List ℕ × List ℕ) → List ℕ → List ℕ → Option LabelRefusal
set_refusal ps [] value = Some EmptyName
set_refusal ps (b ∷ name) value =
    if nat_lt 4096 (length (b ∷ name)) then Some TooLong else
    if nat_lt 4096 (length value) then Some TooLong else
    if is_some (value_at ps (b ∷ name)) then None else
    room_refusal ps value

-- whether a text is among the names
abbrev pub is_named : List (List ℕ) → List ℕ → Bool
is_named names name = list_any (λ n. bytes_eq n name) names

-- the pairs whose names are listed
abbrev pub keep : List (List ℕ) → List (List ℕ × List ℕ) → List (List ℕ × List ℕ)
keep names ps = filter (λ p. is_named names p.0) ps

-- the pairs whose names are not listed
abbrev pub without : List (List ℕ) → List (List ℕ × List ℕ) → List (List ℕ × List ℕ)
without names ps = filter (λ p. not (is_named names p.0)) ps

-- the pairs with a value under a name, in place of the one that is there; an empty value takes the pair out
abbrev pub with_value : List (List ℕ × List ℕ) → List ℕ → List ℕ → List (List ℕ × List ℕ)
with_value ps name [] = without (name ∷ []) ps
with_value ps name (c ∷ value) = insert_entry byte_cmp ps name (c ∷ value)

-- the label that names the metric, `__name__`
abbrev pub metric_name : List ℕ
metric_name = codes "__name__"

-- what two series are matched or grouped by: the listed labels, or all but those and the metric's name
abbrev pub signature : Bool → List (List ℕ) → List (List ℕ × List ℕ) → List (List ℕ × List ℕ)
signature on names ps = if on then keep names ps else without (metric_name ∷ names) ps

-- the names, with the metric's before them where that is asked
abbrev pub with_metric : Bool → List (List ℕ) → List (List ℕ)
with_metric metric names = (if metric then metric_name ∷ [] else []) ++ names

-- whether a name is chosen: it is among the names, or it is not
abbrev pub is_chosen : Bool → List (List ℕ) → List ℕ → Bool
is_chosen listed names name = if listed then is_named names name else not (is_named names name)

-- each pair has at its place a mark of whether its name is among the names
pub record IsMarked (names : List (List ℕ)) (ps : List (List ℕ × List ℕ)) (marks : List Bool) : Type 0 where
  pub at : (j : ℕ) (p : List ℕ × List ℕ) → slice_get ps j ≡ Some p → slice_index_or marks j false ≡ is_named names p.0

-- the order of pairs: by name, then by value
abbrev pub pair_cmp : List ℕ × List ℕ → List ℕ × List ℕ → Ordering
pair_cmp = then_cmp (on (λ p. p.0) byte_cmp) (on (λ p. p.1) byte_cmp)

-- the order of labels: pair by pair, and labels before those that they begin
abbrev pub labels_cmp : List (List ℕ × List ℕ) → List (List ℕ × List ℕ) → Ordering
labels_cmp = slice_cmp pair_cmp

pub pair_ties : (p q : List ℕ × List ℕ) → (bytes_eq p.0 q.0 && bytes_eq p.1 q.1) ≡ eq_by_cmp pair_cmp p q
pair_ties p q = both_tied _ _ (byte_cmp p.0 q.0) (byte_cmp p.1 q.1) (texts_ties p.0 q.0) (texts_ties p.1 q.1)

-- labels are equal by `==` where they tie in their order
pub labels_ties : (ps qs : List (List ℕ × List ℕ)) → pointwise (λ p q. bytes_eq p.0 q.0 && bytes_eq p.1 q.1) ps qs ≡ eq_by_cmp labels_cmp ps qs
labels_ties = lists_ties pair_cmp pair_ties
