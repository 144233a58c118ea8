-- The engines that `--engines` declares, each by a set of labels. (The labels of engines are those of the distributed queries of
-- thanos-io/promql-engine; the form of the list is this project's own.)
use Rattle.std.specs.Prelude.{◌≡◌, ◌==◌, ◌<◌, ◌≤◌, ◌&&◌, ℕ, Bool, true, false, not, List, [], ◌∷◌, length, Option, Some, None, bytes_eq, is_some, option_and_then, option_map, nat_le, if◌then◌else◌}
use Rattle.std.specs.Cmp.Lexicographic.{pointwise}
use Rattle.std.specs.List.{AllByRecursion, IsDistinct, list_all, list_any, slice_split}
use Rattle.std.specs.Map.{keys_of}
use Rattle.label_set.specs.LabelEquality.{labels_eq}
use Rattle.label_set.specs.Labels.{is_named, metric_name, put_refusal, with_pair}
use Rattle.tool_words.specs.Said.{Text, name_in, value_in}

-- labels: pairs of a name and a value, in byte order of the names
abbrev pub Labels : Type 0
Labels = List (Text × Text)

-- ---- a pair

-- a pair `name=value`, whose name ends at the first `=`
abbrev pub pair_in : Text → Option (Text × Text)
pair_in text = option_map (λ value. (name_in text, value)) (value_in text)

-- a pair may be declared where its value isn't empty, and it doesn't name the metric
abbrev pub is_declarable : Text → Text → Bool
is_declarable name value = not (length value == 0) && not (bytes_eq name metric_name)

-- labels with one more pair, where it may be declared, and labels take it
abbrev pub with_declared : Labels → Text × Text → Option Labels
with_declared labels pair =
    if is_declarable pair.0 pair.1 && not (is_some (put_refusal labels pair.0 pair.1)) then Some (with_pair labels pair.0 pair.1) else None

abbrev pub with_pair_in : Labels → Text → Option Labels
with_pair_in labels text = option_and_then (with_declared labels) (pair_in text)

-- ---- a set

-- labels with the pairs of these texts, one after another
abbrev pub with_pairs_in : Labels → List Text → Option Labels
with_pairs_in labels [] = Some labels
with_pairs_in labels (text ∷ texts) = option_and_then (λ (more : Labels). with_pairs_in more texts) (with_pair_in labels text)

-- a set: pairs that `,` (44) parts
abbrev pub pairs_listed : Text → List Text
pairs_listed set = slice_split (λ b. b == 44) set

abbrev pub labels_in : Text → Option Labels
labels_in set = with_pairs_in [] (pairs_listed set)

-- ---- sets

-- what each of these texts declares
abbrev pub all_labels_in : List Text → Option (List Labels)
all_labels_in [] = Some []
all_labels_in (set ∷ sets) = option_and_then (λ (labels : Labels). option_map (λ (more : List Labels). labels ∷ more) (all_labels_in sets)) (labels_in set)

-- two sets have the same names
abbrev pub have_same_names : Labels → Labels → Bool
have_same_names labels others = pointwise (λ p q. bytes_eq p.0 q.0) labels others

-- no two sets are the same
abbrev pub are_distinct : List Labels → Bool
are_distinct [] = true
are_distinct (labels ∷ others) = not (list_any (labels_eq labels) others) && are_distinct others

-- all have the names of the first, and no two the same values
abbrev pub tell_apart : List Labels → Bool
tell_apart [] = true
tell_apart (first ∷ others) = list_all (have_same_names first) others && are_distinct (first ∷ others)

abbrev pub if_apart : List Labels → Option (List Labels)
if_apart all = if tell_apart all then Some all else None

-- the value of `--engines`: sets that `;` (59) parts, of which the k-th is declared to the k-th box
abbrev pub sets_listed : Text → List Text
sets_listed list = slice_split (λ b. b == 59) list

-- no more sets than boxes, which is asked before any set is read
abbrev pub engines_named : ℕ → Text → Option (List Labels)
engines_named boxes list =
    if nat_le (length (sets_listed list)) boxes then option_and_then if_apart (all_labels_in (sets_listed list)) else None

-- no engines without the option
abbrev pub engines_of : ℕ → Option Text → Option (List Labels)
engines_of boxes None = Some []
engines_of boxes (Some list) = engines_named boxes list

-- ---- what engines are declared by

-- the names of the first of some labels
abbrev pub names_of_first : List Labels → List Text
names_of_first [] = []
names_of_first (labels ∷ others) = keys_of labels

-- there is a set; all have the same names, the metric's name not among them; and no two the same values
pub record AreDeclarable (all : List Labels) : Type 0 where
  pub some : 0 < length all
  pub names : AllByRecursion (λ (labels : Labels). keys_of labels ≡ names_of_first all) all
  pub unnamed : is_named (names_of_first all) metric_name ≡ false
  pub values : IsDistinct labels_eq all

-- what is declared to so many boxes: no more sets than boxes, which may be declared where there is any
pub record AreDeclaredTo (boxes : ℕ) (all : List Labels) : Type 0 where
  pub few : length all ≤ boxes
  pub declarable : 0 < length all → AreDeclarable all
