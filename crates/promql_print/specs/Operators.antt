-- The canonical texts of operators, of what stands behind them, and of groupings. (This project's own, in the words of the
-- Prometheus querying documentation.)
use Rattle.std.specs.Prelude.{ℕ, Bool, true, false, ◌||◌, not, if◌then◌else◌, List, [], ◌∷◌, ◌++◌, codes}
use Rattle.func_table.specs.declared.table.SetOp.{SetOp}
use Rattle.func_table.specs.declared.table.SetOp.TheVariants.{And, Unless, Or}
use Rattle.label_set.specs.declared.rules.Card.{Card}
use Rattle.label_set.specs.declared.rules.Card.TheVariants.{OneToOne, GroupLeft, GroupRight}
use Rattle.label_set.specs.declared.rules.Grouping.{Grouping}
use Rattle.label_set.specs.declared.rules.Pairing.{Pairing}
use Rattle.xfrac.specs.declared.value.ArithOp.{ArithOp}
use Rattle.xfrac.specs.declared.value.ArithOp.TheVariants.{Add, Sub, Mul, Div, Rem, Pow}
use Rattle.xfrac.specs.declared.value.CompareOp.{CompareOp}
use Rattle.xfrac.specs.declared.value.CompareOp.TheVariants.{Eq, Ne, Lt, Le, Gt, Ge}
use Rattle.xfrac.specs.declared.value.PairOp.{PairOp}
use Rattle.xfrac.specs.declared.value.PairOp.TheVariants.{Arith, Filter, Flag}
use Rattle.promql_print.specs.Labels.{labels_text}

abbrev pub arithmetic_sign : ArithOp → List ℕ
arithmetic_sign Add = codes "+"
arithmetic_sign Sub = codes "-"
arithmetic_sign Mul = codes "*"
arithmetic_sign Div = codes "/"
arithmetic_sign Rem = codes "%"
arithmetic_sign Pow = codes "^"

abbrev pub comparison_sign : CompareOp → List ℕ
comparison_sign Eq = codes "=="
comparison_sign Ne = codes "!="
comparison_sign Lt = codes "<"
comparison_sign Le = codes "<="
comparison_sign Gt = codes ">"
comparison_sign Ge = codes ">="

-- an operator, and `bool` where a comparison gives 0 and 1
abbrev pub pair_words : PairOp → List ℕ
pair_words (Arith op) = arithmetic_sign op
pair_words (Filter op) = comparison_sign op
pair_words (Flag op) = comparison_sign op ++ codes " bool"

abbrev pub set_word : SetOp → List ℕ
set_word And = codes "and"
set_word Unless = codes "unless"
set_word Or = codes "or"

abbrev pub is_empty : List (List ℕ) → Bool
is_empty [] = true
is_empty (label ∷ labels) = false

-- a word, and labels behind it
abbrev pub word_with : List ℕ → List (List ℕ) → List ℕ
word_with word labels = word ++ labels_text labels

abbrev pub is_grouped : Card → Bool
is_grouped OneToOne = false
is_grouped GroupLeft = true
is_grouped GroupRight = true

-- by default nothing is ignored, which stands only where a group word needs it
abbrev pub matching_words : Pairing → List ℕ
matching_words pairing =
    if pairing.on then word_with (codes " on ") pairing.names
    else if (not (is_empty pairing.names) || is_grouped pairing.card) then word_with (codes " ignoring ") pairing.names
    else []

abbrev pub group_words : Card → List (List ℕ) → List ℕ
group_words OneToOne extra = []
group_words GroupLeft extra = word_with (codes " group_left ") extra
group_words GroupRight extra = word_with (codes " group_right ") extra

abbrev pub pairing_words : Pairing → List ℕ
pairing_words pairing = matching_words pairing ++ group_words pairing.card pairing.extra

-- by default all rows are one group, which is not told
abbrev pub tells_grouping : Grouping → Bool
tells_grouping grouping = grouping.without || not (is_empty grouping.names)

abbrev pub grouping_words : Grouping → List ℕ
grouping_words grouping =
    if grouping.without then word_with (codes " without ") grouping.names
    else if is_empty grouping.names then []
    else word_with (codes " by ") grouping.names
