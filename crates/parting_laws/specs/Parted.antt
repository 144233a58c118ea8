-- Samples that are parted over engines, and the labels that tell whose a series is. (This project's own.)
use Rattle.std.specs.Prelude.{◌≡◌, ◌↔◌, Contains, ℕ, Bool, false, List, [], ◌∷◌, filter, length, map, bytes_eq, Option, None, Some, IsSome, if◌then◌else◌}
use Rattle.std.specs.List.{AllByRecursion, IsDistinct, list_all}
use Rattle.std.specs.Map.{keys_of, lookup}
use Rattle.label_set.specs.LabelEquality.{labels_eq}
use Rattle.label_set.specs.Labels.{is_named, metric_name, value_of}
use Rattle.step_table.specs.Groups.{Names}
use Rattle.promql_meaning.specs.Selecting.{AllSeries, Samples}

-- ---- declared labels

-- an engine: the labels that are declared to it, and the series that it holds
pub record Engine : Type 0 where
  pub declared : Names
  pub samples : AllSeries

-- whether labels have a pair; a label that is missing reads as the empty text
abbrev pub has_pair : Names → List ℕ × List ℕ → Bool
has_pair labels pair = bytes_eq (value_of labels pair.0) pair.1

-- whether labels have all that are declared
abbrev pub has_declared : Names → Names → Bool
has_declared declared labels = list_all (has_pair labels) declared

-- whether labels are an engine's: they have what is declared to it
abbrev pub takes : Engine → Names → Bool
takes engine labels = has_declared engine.declared labels

-- the engines whose labels these are
abbrev pub takers : List Engine → Names → List Engine
takers engines labels = filter (λ (engine : Engine). takes engine labels) engines

-- the labels that are declared to engines
abbrev pub declared_to : List Engine → List Names
declared_to engines = map (λ (engine : Engine). engine.declared) engines

-- the names of the first of some labels
abbrev pub names_of_first : List Names → List (List ℕ)
names_of_first [] = []
names_of_first (labels ∷ others) = keys_of labels

abbrev pub declared_names : List Engine → List (List ℕ)
declared_names engines = names_of_first (declared_to engines)

-- labels that may be declared: all have the same names, the metric's name not among them, and no two the same values
pub record MayBeDeclared (all : List Names) : Type 0 where
  pub names : AllByRecursion (λ (labels : Names). keys_of labels ≡ names_of_first all) all
  pub unnamed : is_named (names_of_first all) metric_name ≡ false
  pub values : IsDistinct labels_eq all

-- ---- what engines hold

-- the samples under some labels, where there is such a series
abbrev pub samples_under : AllSeries → Names → Option Samples
samples_under series labels = lookup (labels_eq labels) series

-- an engine holds exactly the series that are its own, each with exactly its samples
abbrev pub HoldsItsOwn : AllSeries → Engine → Type 0
HoldsItsOwn samples engine = (labels : Names) → samples_under engine.samples labels ≡ (if takes engine labels then samples_under samples labels else None)

-- samples are parted over engines: the labels that are declared to these may be; each series has the declared labels of exactly one
-- engine; and each engine holds its own series, and no others
pub record Parted (engines : List Engine) (samples : AllSeries) : Type 0 where
  pub declared : MayBeDeclared (declared_to engines)
  pub one : (labels : Names) → IsSome (samples_under samples labels) → length (takers engines labels) ≡ 1
  pub held : AllByRecursion (HoldsItsOwn samples) engines

-- ---- samples that come

-- series have these samples under some labels, and under others what they had before
abbrev pub IsPut : AllSeries → Names → Samples → AllSeries → Type 0
IsPut before labels samples after = (other : Names) → samples_under after other ≡ (if labels_eq labels other then Some samples else samples_under before other)

abbrev pub with_samples : AllSeries → Engine → Engine
with_samples samples engine = record engine { samples = samples }

-- ---- the same by members

-- labels have all pairs of others
abbrev pub HasLabels : Names → Names → Type 0
HasLabels declared labels = (pair : List ℕ × List ℕ) → Contains declared pair → Contains labels pair

-- each series has what is declared to an engine; and an engine holds exactly the series that have its labels, each once
pub record HaveMembers (engines : List Engine) (samples : AllSeries) : Type 0 where
  pub declared : MayBeDeclared (declared_to engines)
  pub placed : (series : Names × Samples) → Contains samples series → (engine : Engine) × Contains engines engine × HasLabels engine.declared series.0
  pub held : (engine : Engine) (series : Names × Samples) → Contains engines engine → Contains engine.samples series ↔ (Contains samples series × HasLabels engine.declared series.0)
  pub once : (engine : Engine) → Contains engines engine → IsDistinct labels_eq (keys_of engine.samples)
