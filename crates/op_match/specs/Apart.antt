-- What an operator between two vectors comes to where nothing fails: no two rows of the one side share a signature, no two
-- pairs share labels and, without a group word, none a signature. (This project's own.)
use Rattle.std.specs.Prelude.{◌≡◌, false, List, [], ◌∷◌, ⊤}
use Rattle.std.specs.BTreeMap.{is_at}
use Rattle.std.specs.List.{AllByRecursion}
use Rattle.std.specs.Map.{keys_of, values_of}
use Rattle.label_set.specs.Labels.{labels_cmp}
use Rattle.label_set.specs.declared.rules.Pairing.{Pairing}
use Rattle.step_table.specs.Groups.{Names}
use Rattle.step_table.specs.Matching.{by_signature, faults_of, left_rows, matches, pair_marks, pair_rows}
use Rattle.step_table.specs.Operators.{is_grouped}
use Rattle.step_table.specs.Outcomes.{keyed}
use Rattle.step_table.specs.Shuffles.{Shuffled}
use Rattle.step_table.specs.WellFormed.{IsTable}
use Rattle.step_table.specs.declared.step.Row.{Row}
use Rattle.xfrac.specs.declared.value.PairOp.{PairOp}

-- no two of some labels are equal
abbrev pub AreApart : List Names → Type 0
AreApart [] = ⊤
AreApart (n ∷ ns) = AllByRecursion (λ (m : Names). is_at (labels_cmp n) m ≡ false) ns × AreApart ns

-- the pairs of two sides: those that are left with a value, each under its signature
abbrev pub pairs_left : PairOp → Pairing → List Row → List Row → List (Names × Row)
pairs_left op p many ones = left_rows (matches op p many ones)

-- nothing fails but for the values
pub record IsClear (op : PairOp) (p : Pairing) (many ones : List Row) : Type 0 where
  pub one_side : AreApart (keys_of (by_signature p ones))
  pub pairs : is_grouped p.card ≡ false → AreApart (keys_of (pairs_left op p many ones))
  pub labels : AreApart (keys_of (keyed (values_of (pairs_left op p many ones))))

-- then the rows are those of the pairs that are left, in the order of their labels, and the marks those of faults
pub record IsPairByPair (op : PairOp) (p : Pairing) (many ones : List Row) : Type 0 where
  pub rows : Shuffled (values_of (pairs_left op p many ones)) (pair_rows op p many ones)
  pub table : IsTable (pair_rows op p many ones)
  pub marks : pair_marks op p many ones ≡ faults_of (matches op p many ones)

abbrev pub PairsAreTaken : Type 0
PairsAreTaken = (op : PairOp) (p : Pairing) (many ones : List Row) → IsClear op p many ones → IsPairByPair op p many ones
