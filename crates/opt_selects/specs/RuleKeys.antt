-- Numbers of rules at a moment and over a range, which equal ones share and most others don't, so that few selectors have to be compared.
-- (This project's own.)
use Rattle.std.specs.Prelude.{ℕ, ◌+◌, ◌*◌, ◌%◌, ◌==◌, Bool, List, Option, None, Some, fold, map, unsigned_abs}
use Rattle.std.specs.List.{list_all, list_any}
use Rattle.label_set.specs.declared.rules.Rule.{Rule}
use Rattle.label_set.specs.declared.rules.RuleKind.{RuleKind}
use Rattle.label_set.specs.declared.rules.RuleKind.TheVariants.{Eq, Ne, Re, Nre}
use Rattle.promql_ast.specs.declared.tree.Fixed.{Fixed}
use Rattle.promql_ast.specs.declared.tree.Fixed.TheVariants.{At, Start, End}
use Rattle.promql_ast.specs.declared.tree.Moment.{Moment}
use Rattle.ticks.specs.declared.moment.Ms.{Ms}
use Rattle.opt_selects.specs.declared.found.Found.{Found}

-- a number behind one more digit to the base 509, of which 55 bits are kept
abbrev pub with_digit : ℕ → ℕ → ℕ
with_digit number digit = (number * 509 + digit) % 36028797018963968

-- how long a time is, in milliseconds, is a digit
abbrev pub time_digit : Ms → ℕ
time_digit t = unsigned_abs t.0 % 36028797018963968

abbrev pub range_digit : Option Ms → ℕ
range_digit None = 0
range_digit (Some range) = time_digit range

abbrev pub fixed_number : Option Fixed → ℕ
fixed_number None = 0
fixed_number (Some Start) = 1
fixed_number (Some End) = 2
fixed_number (Some (At t)) = with_digit 3 (time_digit t)

-- the number of a moment and a range, whose digits stand before those of a rule
abbrev pub start_number : Moment → Option Ms → ℕ
start_number moment range = with_digit (with_digit (fixed_number moment.fixed) (time_digit moment.offset)) (range_digit range)

-- a text's bytes are digits behind a number
abbrev pub text_number : ℕ → List ℕ → ℕ
text_number start text = fold with_digit start text

-- so are the kind of test, by a digit that is no byte, and the text or the pattern's number
abbrev pub kind_number : ℕ → RuleKind → ℕ
kind_number start (Eq text) = text_number (with_digit start 256) text
kind_number start (Ne text) = text_number (with_digit start 257) text
kind_number start (Re id) = with_digit (with_digit start 258) id.0
kind_number start (Nre id) = with_digit (with_digit start 259) id.0

abbrev pub rule_key : ℕ → Rule → ℕ
rule_key start rule = kind_number (text_number start rule.label) rule.kind

-- the numbers of rules at a moment and over a range
abbrev pub rule_keys : Moment → Option Ms → List Rule → List ℕ
rule_keys moment range rules = map (rule_key (start_number moment range)) rules

-- those of a selector's rules
abbrev pub own_keys : Found → List ℕ
own_keys a = rule_keys a.moment a.range a.rules

abbrev pub has_key : List ℕ → ℕ → Bool
has_key keys key = list_any (λ k. k == key) keys

abbrev pub has_keys : List ℕ → List ℕ → Bool
has_keys keys some = list_all (has_key keys) some
