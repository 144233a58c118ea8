-- The canonical texts of labels, lists of them, and of rules: `a`, `(a, b)`, `{a="b", c=~"d"}`, and `x{a="b"}` where a metric's
-- name can stand before the braces. (This project's own, in Prometheus' notation.)
use Rattle.std.specs.Prelude.{ℕ, Bool, true, false, ◌&&◌, ◌||◌, not, if◌then◌else◌, List, [], ◌∷◌, ◌++◌, map, codes, bytes_eq, Option, Some, None, slice_get}
use Rattle.std.specs.List.{list_any}
use Rattle.frac_text.specs.Readings.{is_word}
use Rattle.label_set.specs.Labels.{metric_name}
use Rattle.label_set.specs.LabelText.{is_label_name, is_metric_name, quoted}
use Rattle.label_set.specs.declared.rules.PatternId.{PatternId}
use Rattle.label_set.specs.declared.rules.Rule.{Rule}
use Rattle.label_set.specs.declared.rules.RuleKind.{RuleKind}
use Rattle.label_set.specs.declared.rules.RuleKind.TheVariants.{Eq, Ne, Re, Nre}
use Rattle.promql_lex.specs.Names.{is_query_word}

-- ---- lists

-- a comma and a blank, where something stands before them
abbrev pub comma : Bool → List ℕ
comma started = if started then codes ", " else []

-- parts with a comma before each; before the first one only where something stands before it
abbrev pub parted : Bool → List (List ℕ) → List ℕ
parted started [] = []
parted started (part ∷ parts) = comma started ++ (part ++ parted true parts)

abbrev pub in_parens : List (List ℕ) → List ℕ
in_parens parts = codes "(" ++ (parted false parts ++ codes ")")

abbrev pub in_braces : List (List ℕ) → List ℕ
in_braces parts = codes "{" ++ (parted false parts ++ codes "}")

-- ---- labels

-- `Inf` and `NaN` in any case are numbers wherever they stand without quotes
abbrev pub is_number_word : List ℕ → Bool
is_number_word text = is_word text (codes "inf") || is_word text (codes "nan")

-- a label that is read as one stands as it is, any other in quotes
abbrev pub label_text : List ℕ → List ℕ
label_text label = if (is_label_name label && not (is_number_word label)) then label else quoted label

abbrev pub labels_text : List (List ℕ) → List ℕ
labels_text labels = in_parens (map label_text labels)

-- ---- rules

abbrev pub text_or_empty : Option (Bool × List ℕ) → List ℕ
text_or_empty None = []
text_or_empty (Some pattern) = pattern.1

-- the text of the pattern that is kept under a number; under a number that isn't there, none
abbrev pub pattern_text : List (Bool × List ℕ) → PatternId → List ℕ
pattern_text kept id = text_or_empty (slice_get kept id.0)

abbrev pub kind_text : List (Bool × List ℕ) → RuleKind → List ℕ
kind_text kept (Eq text) = codes "=" ++ quoted text
kind_text kept (Ne text) = codes "!=" ++ quoted text
kind_text kept (Re id) = codes "=~" ++ quoted (pattern_text kept id)
kind_text kept (Nre id) = codes "!~" ++ quoted (pattern_text kept id)

abbrev pub rule_text : List (Bool × List ℕ) → Rule → List ℕ
rule_text kept rule = label_text rule.label ++ kind_text kept rule.kind

abbrev pub braced_rules : List (Bool × List ℕ) → List Rule → List ℕ
braced_rules kept rules = in_braces (map (rule_text kept) rules)

-- ---- selectors

-- a name of a metric that is read as one, and not as a word or a number
abbrev pub is_bare_name : List ℕ → Bool
is_bare_name text = is_metric_name text && not (is_number_word text || is_query_word text)

abbrev pub is_on_metric : Rule → Bool
is_on_metric rule = bytes_eq rule.label metric_name

-- the text that a label has to be equal to
abbrev pub equal_text : RuleKind → Option (List ℕ)
equal_text (Eq text) = Some text
equal_text _ = None

abbrev pub name_if : Bool → Option (List ℕ) → Option (List ℕ)
name_if alone None = None
name_if alone (Some text) = if (alone && is_bare_name text) then Some text else None

-- the name that stands before the braces: where the first rule alone is on the metric's name, and wants it to be equal to one
abbrev pub front_name : List Rule → Option (List ℕ)
front_name [] = None
front_name (rule ∷ rules) = name_if (is_on_metric rule && not (list_any is_on_metric rules)) (equal_text rule.kind)

abbrev pub braces_unless_none : List (Bool × List ℕ) → List Rule → List ℕ
braces_unless_none kept [] = []
braces_unless_none kept (rule ∷ rules) = braced_rules kept (rule ∷ rules)

-- the rules behind the first one
abbrev pub behind_first : List Rule → List Rule
behind_first [] = []
behind_first (rule ∷ rules) = rules

abbrev pub named_rules : List (Bool × List ℕ) → Option (List ℕ) → List Rule → List ℕ
named_rules kept None rules = braced_rules kept rules
named_rules kept (Some name) rules = name ++ braces_unless_none kept (behind_first rules)

abbrev pub rules_text : List (Bool × List ℕ) → List Rule → List ℕ
rules_text kept rules = named_rules kept (front_name rules) rules
