-- Lists of rules as sets: which rules one list has that another lacks. (This project's own.)
use Rattle.std.specs.Prelude.{◌≡◌, ◌==◌, Bool, false, ◌&&◌, not, bytes_eq, List, filter}
use Rattle.std.specs.List.{list_all, list_any}
use Rattle.label_set.specs.declared.rules.Rule.{Rule}
use Rattle.label_set.specs.declared.rules.RuleKind.{RuleKind}
use Rattle.label_set.specs.declared.rules.RuleKind.TheVariants.{Eq, Ne, Re, Nre}
use Rattle.match_rule.specs.Patterns.{labels_pass}
use Rattle.promql_meaning.specs.Selecting.{Asked}
use Rattle.step_table.specs.Groups.{Names}

abbrev pub same_kind : RuleKind → RuleKind → Bool
same_kind (Eq a) (Eq b) = bytes_eq a b
same_kind (Ne a) (Ne b) = bytes_eq a b
same_kind (Re a) (Re b) = a.0 == b.0
same_kind (Nre a) (Nre b) = a.0 == b.0
same_kind a b = false

abbrev pub same_rule : Rule → Rule → Bool
same_rule a b = bytes_eq a.label b.label && same_kind a.kind b.kind

-- a rule is among rules
abbrev pub has_rule : List Rule → Rule → Bool
has_rule rules rule = list_any (same_rule rule) rules

-- each rule of the first list is among those of the second
abbrev pub is_part : List Rule → List Rule → Bool
is_part a b = list_all (has_rule b) a

-- the rules of `b` that `a` lacks, in the order of `b`
abbrev pub lacking : List Rule → List Rule → List Rule
lacking a b = filter (λ (rule : Rule). not (has_rule a rule)) b

-- labels pass some rules exactly where they pass others and some more
abbrev pub AreTogether : Asked → List Rule → List Rule → List Rule → Type 0
AreTogether asked all base more = (names : Names) → labels_pass asked.kept all names ≡ (labels_pass asked.kept base names && labels_pass asked.kept more names)
