-- The limits of labels, and the labels of a pair: there are none exactly where their whole set passes a limit.
-- (Prometheus querying, operators: the group list of a vector matching. The limits of labels are this project's own.)
use Rattle.std.specs.Prelude.{◌≡◌, ℕ, ◌||◌, Bool, true, false, List, [], ◌∷◌, length, nat_lt, Option, None, Some, if◌then◌else◌}
use Rattle.std.specs.BTreeMap.{insert_entry}
use Rattle.std.specs.List.{list_any}
use Rattle.label_set.specs.Labels.{IsLabelSet, byte_cmp, keep, without}
use Rattle.label_set.specs.declared.rules.Pairing.{Pairing}
use Rattle.xfrac.specs.declared.value.PairOp.{PairOp}
use Rattle.step_table.specs.Groups.{Names}
use Rattle.step_table.specs.Operators.{is_grouped, matched_labels, pair_labels, unnamed}

-- a name that is empty or has more than 4,096 bytes
abbrev pub is_bad_name : List ℕ → Bool
is_bad_name [] = true
is_bad_name (b ∷ name) = nat_lt 4096 (length (b ∷ name))

-- a pair of such a name, or of a value of more than 4,096 bytes
abbrev pub is_beyond : List ℕ × List ℕ → Bool
is_beyond pair = is_bad_name pair.0 || nat_lt 4096 (length pair.1)

-- labels that pass a limit: one pair does, or there are more than 64
abbrev pub pass_limits : Names → Bool
pass_limits labels = list_any is_beyond labels || nat_lt 64 (length labels)

-- labels as rows have them: a label set, no text of which passes its limit
pub record AreWithin (labels : Names) : Type 0 where
  pub set : IsLabelSet labels
  pub texts : list_any is_beyond labels ≡ false

-- labels, or none where they pass a limit
abbrev pub unless_beyond : Names → Option Names
unless_beyond labels = if pass_limits labels then None else Some labels

-- ---- the labels of a pair

-- labels and the pairs of a list, each in its place by name
abbrev pub with_pairs : Names → Names → Names
with_pairs labels [] = labels
with_pairs labels (pair ∷ pairs) = with_pairs (insert_entry byte_cmp labels pair.0 pair.1) pairs

-- the whole set of a pair's labels, however many they are: grouped, those of the many side that the group list doesn't name and
-- those of the one side that it names; one to one, those of the many side that are matched
abbrev pub whole_labels : PairOp → Pairing → Names → Names → Names
whole_labels op p many one =
    if is_grouped p.card then with_pairs (without p.extra (unnamed op many)) (keep p.extra one) else matched_labels p (unnamed op many)

-- a pair has the whole set, and no labels exactly where that passes a limit
abbrev pub PairLabelsAreWithin : Type 0
PairLabelsAreWithin =
    (op : PairOp) (p : Pairing) (many one : Names) → AreWithin many → IsLabelSet one → pair_labels op p many one ≡ unless_beyond (whole_labels op p many one)
