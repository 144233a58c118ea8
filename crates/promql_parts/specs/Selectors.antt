-- The rules of a selector: `label_matcher`, `label_matchers` and `vector_selector` of Prometheus' grammar.
use Rattle.std.specs.Prelude.{ℕ, Bool, true, false, ◌&&◌, ◌||◌, not, nat_lt, filter, length, is_some, if◌then◌else◌, List, [], ◌∷◌, ◌++◌, map, drop, Option, Some, None, Result, Ok, Err, bytes_eq, codes}
use Rattle.std.specs.List.{list_all, list_any}
use Rattle.label_set.specs.declared.rules.Rule.{Rule}
use Rattle.label_set.specs.declared.rules.RuleKind.{RuleKind}
use Rattle.label_set.specs.declared.rules.RuleKind.TheVariants.{Eq, Ne, Re as Matching, Nre}
use Rattle.promql_ast.specs.declared.refusal.QueryRefusal.{QueryRefusal}
use Rattle.promql_ast.specs.declared.refusal.QueryRefusal.TheVariants.{BadLabelName, EmptySelector, NameTwice}
use Rattle.promql_parts.specs.declared.lexeme.Lexeme.{Lexeme}
use Rattle.promql_parts.specs.declared.lexeme.LexemeKind.{LexemeKind}
use Rattle.promql_parts.specs.declared.lexeme.LexemeKind.TheVariants as kinds
use Rattle.promql_parts.specs.declared.lexeme.Sign.TheVariants.{RightBrace, Equal, Unequal, Matches, Unmatched}
use Rattle.promql_parts.specs.declared.selector.MatchOp.{MatchOp}
use Rattle.promql_parts.specs.declared.selector.MatchOp.TheVariants as ops
use Rattle.promql_parts.specs.declared.selector.Matcher.{Matcher}
use Rattle.promql_parts.specs.Reads.{Read, Turn, ◌>>=◌, refused, refused_at, begins, all_turns}
use Rattle.promql_parts.specs.Labels.{item_behind, label_of}

abbrev pub metric_label : List ℕ
metric_label = codes "__name__"

-- a rule, whether it passes the empty text, and whether it is a metric's name in quotes
abbrev pub matcher_of : List ℕ → RuleKind → Bool → Bool → Matcher
matcher_of label kind passes_empty quoted = record { rule = record { label = label; kind = kind }; passes_empty = passes_empty; quoted = quoted }

abbrev pub is_empty_text : List ℕ → Bool
is_empty_text [] = true
is_empty_text (byte ∷ bytes) = false

-- the rule on a metric's name
abbrev pub name_matcher : List ℕ → Bool → Matcher
name_matcher name quoted = matcher_of metric_label (Eq name) (is_empty_text name) quoted

-- `match_op`
abbrev pub match_op : LexemeKind → Option MatchOp
match_op (kinds.Sign Equal) = Some ops.Equals
match_op (kinds.Sign Unequal) = Some ops.Differs
match_op (kinds.Sign Matches) = Some ops.Passes
match_op (kinds.Sign Unmatched) = Some ops.Fails
match_op _ = None

abbrev pub match_op_at : List Lexeme → Option MatchOp
match_op_at [] = None
match_op_at (l ∷ ls) = match_op l.kind

-- the rule of a label and a string
abbrev pub matcher_kind : List ℕ → MatchOp → LexemeKind → Option Matcher
matcher_kind label ops.Equals (kinds.Quoted text) = Some (matcher_of label (Eq text) (is_empty_text text) false)
matcher_kind label ops.Differs (kinds.Quoted text) = Some (matcher_of label (Ne text) (not (is_empty_text text)) false)
matcher_kind label ops.Passes (kinds.Pattern id passes_empty) = Some (matcher_of label (Matching id) passes_empty false)
matcher_kind label ops.Fails (kinds.Pattern id passes_empty) = Some (matcher_of label (Nre id) (not passes_empty) false)
matcher_kind label op kind = None

abbrev pub matcher_or : Lexeme → Option Matcher → List Lexeme → Read Matcher
matcher_or l None ls = Err (refused l)
matcher_or l (Some matcher) ls = Ok (matcher, ls)

-- the string of a rule
abbrev pub value_at : ℕ → List ℕ → MatchOp → List Lexeme → Read Matcher
value_at end label op [] = Err (refused_at end [])
value_at end label op (l ∷ ls) = matcher_or l (matcher_kind label op l.kind) ls

-- a label that is compared isn't empty
abbrev pub compared_at : ℕ → ℕ → List ℕ → MatchOp → List Lexeme → Read Matcher
compared_at end at label op ls = if is_empty_text label then Err (BadLabelName at) else value_at end label op ls

-- a string that stands alone is the metric's name
abbrev pub alone_at : ℕ → LexemeKind → List Lexeme → Read Matcher
alone_at end (kinds.Quoted text) ls = Ok (name_matcher text true, ls)
alone_at end _ ls = Err (refused_at end ls)

abbrev pub rule_behind : ℕ → Lexeme → List ℕ → Option MatchOp → List Lexeme → Read Matcher
rule_behind end l label None ls = alone_at end l.kind ls
rule_behind end l label (Some op) ls = compared_at end l.at label op (drop 1 ls)

abbrev pub labelled_at : ℕ → Lexeme → Option (List ℕ) → List Lexeme → Read Matcher
labelled_at end l None ls = Err (refused l)
labelled_at end l (Some label) ls = rule_behind end l label (match_op_at ls) ls

abbrev pub matcher_at : ℕ → List Lexeme → Read Matcher
matcher_at end [] = Err (refused_at end [])
matcher_at end (l ∷ ls) = labelled_at end l (label_of l.kind) ls

-- one more rule, up to the closing brace
unfoldable pub matchers_turn : ℕ → Turn (List Matcher)
matchers_turn end sofar ls =
    if begins RightBrace ls then Ok (false, sofar, ls) else (do
      matcher ← matcher_at end ls
      next ← item_behind end RightBrace matcher.1
      Ok (next.0, sofar ++ matcher.0 ∷ [], next.1))

abbrev pub is_on_name : Matcher → Bool
is_on_name m = bytes_eq m.rule.label metric_label

-- a name stands before the braces, and a rule on the name in them; or two names in quotes do
abbrev pub names_twice : Bool → List Matcher → Bool
names_twice named inside = (named && list_any is_on_name inside) || nat_lt 1 (length (filter (λ m. m.quoted) inside))

-- the rule on a name before the braces, if there is one; and whether it passes the empty text, or there is none
abbrev pub named_rules : Option (List ℕ) → List Rule
named_rules None = []
named_rules (Some name) = (name_matcher name false).rule ∷ []

abbrev pub refuses_nothing : Option (List ℕ) → Bool
refuses_nothing None = true
refuses_nothing (Some name) = is_empty_text name

-- the rules of a selector whose closing brace stands at a place; one of them refuses the empty text
abbrev pub rules_of : ℕ → Option (List ℕ) → List Matcher → Result (List Rule) QueryRefusal
rules_of at name inside =
    if (refuses_nothing name && list_all (λ m. m.passes_empty) inside) then Err (EmptySelector at)
    else if names_twice (is_some name) inside then Err (NameTwice at)
    else Ok (named_rules name ++ map (λ m. m.rule) inside)

abbrev pub closed_at : ℕ → Option (List ℕ) → List Matcher → List Lexeme → Read (List Rule)
closed_at end name inside [] = Err (refused_at end [])
closed_at end name inside (l ∷ ls) = rules_of l.at name inside >>= λ rules. Ok (rules, ls)

-- the rules from behind the opening brace, behind that on the name before it
unfoldable pub braces_at : ℕ → Option (List ℕ) → List Lexeme → Read (List Rule)
braces_at end name ls = all_turns (matchers_turn end) [] ls >>= λ found. closed_at end name found.0 found.1
