-- The grammar of queries, by Prometheus' grammar, as productions: which lexemes, as a whole, are an expression, and its tree
-- with the number of nodes on its longest path. Each constructor is a production, in the words of that grammar. Operators
-- group as the productions say: a side of the same level stands on the left alone, but for `^`.
use Rattle.std.specs.Prelude.{◌≡◌, ℕ, zero, suc, ◌+◌, max, Bool, true, false, List, [], ◌∷◌, ◌++◌, Option, Some, None, Ok}
use Rattle.func_table.specs.Names.{found_of}
use Rattle.func_table.specs.declared.table.Aggregate.{Aggregate}
use Rattle.func_table.specs.declared.table.Found.TheVariants as found
use Rattle.func_table.specs.declared.table.Func.{Func}
use Rattle.label_set.specs.declared.rules.Grouping.{Grouping}
use Rattle.label_set.specs.declared.rules.Rule.{Rule}
use Rattle.promql_ast.specs.declared.tree.Expr.{Expr}
use Rattle.promql_ast.specs.declared.tree.Fixed.{Fixed}
use Rattle.promql_ast.specs.declared.tree.Moment.{Moment}
use Rattle.promql_ast.specs.declared.tree.Node.TheVariants.{Number, Words, Paren, Negate, Select, Range, Subquery, Call, Aggregate as Aggregated}
use Rattle.promql_parse.specs.Build.{moment_of, node_of, selector_of, tree}
use Rattle.promql_parse.specs.Reading.{seconds_of}
use Rattle.promql_parts.specs.Labels.{no_grouping}
use Rattle.promql_parts.specs.Operators.{op_of}
use Rattle.promql_parts.specs.Productions.{BinModifier, begins_labels, Grouped, IsSign, IsWord, OffsetBehind, RangeBrackets, Selected, StepBrackets, TimeBehind}
use Rattle.promql_parts.specs.declared.lexeme.Lexeme.{Lexeme}
use Rattle.promql_parts.specs.declared.lexeme.LexemeKind.TheVariants as kinds
use Rattle.promql_parts.specs.declared.lexeme.Sign.TheVariants.{LeftParen, RightParen, Comma, Plus, Minus, Caret}
use Rattle.promql_lex.specs.declared.word.Word.TheVariants.{Over}
use Rattle.promql_parts.specs.declared.operator.BinaryOp.{BinaryOp}
use Rattle.promql_parts.specs.declared.operator.BinaryOp.TheVariants.{Arith}
use Rattle.promql_parts.specs.declared.operator.Matching.{Matching}
use Rattle.ticks.specs.declared.moment.Ms.{Ms}
use Rattle.xfrac.specs.declared.value.ArithOp.TheVariants.{Pow}
use Rattle.xfrac.specs.declared.value.XFrac.{XFrac}

-- what an operand is: a selector without or with a range, a subquery, or anything else, behind which no modifier stands
pub data Term : Type 0 where
  a_selector : List Rule → Term
  a_range : List Rule → Ms → Term
  a_subquery : Expr → Ms → Ms → Term
  another : Expr → Term

abbrev pub takes_modifiers : Term → Bool
takes_modifiers (another e) = false
takes_modifiers _ = true

abbrev pub term_tree : ℕ → Term → Moment → Expr
term_tree at (a_selector rules) moment = tree at (Select (selector_of rules moment))
term_tree at (a_range rules length) moment = tree at (Range (selector_of rules moment) length)
term_tree at (a_subquery e length step) moment = tree at (Subquery e length step moment)
term_tree at (another e) moment = e

-- Each relation speaks of so many levels of nesting: parentheses, calls, aggregations, signs and right sides of `^` stand one
-- level further inside.
mutual
  -- `number_duration_literal`, `string_literal`, `paren_expr`, `aggregate_expr` and `function_call`
  pub data Primary : ℕ → List Lexeme → Expr → ℕ → Type 0 where
    number : {b : ℕ} (l : Lexeme) (value : XFrac) → l.kind ≡ kinds.Number value → Primary b (l ∷ []) (tree l.at (Number value)) 1
    duration : {b : ℕ} (l : Lexeme) (duration : Ms) (value : XFrac) → l.kind ≡ kinds.Duration duration → seconds_of l.at duration ≡ Ok value
        → Primary b (l ∷ []) (tree l.at (Number value)) 1
    words : {b : ℕ} (l : Lexeme) (text : List ℕ) → l.kind ≡ kinds.Quoted text → Primary b (l ∷ []) (tree l.at (Words text)) 1
    paren : {b d : ℕ} {us xs : List Lexeme} {e : Expr} (begin close : Lexeme) → IsSign LeftParen begin → Phrase b 5 xs e d → IsSign RightParen close
        → us ≡ begin ∷ xs ++ close ∷ [] → Primary (suc b) us (tree begin.at (Paren e)) (d + 1)
    call : {b d : ℕ} {xs : List Lexeme} {es : List Expr} (l : Lexeme) (name : List ℕ) (f : Func) → l.kind ≡ kinds.Name name → found_of name ≡ found.Known f
        → Body b xs es d → Primary (suc b) (l ∷ xs) (tree l.at (Call f es)) (d + 1)
    call_of_none : {b : ℕ} (l begin close : Lexeme) (name : List ℕ) (f : Func) → l.kind ≡ kinds.Name name → found_of name ≡ found.Known f → IsSign LeftParen begin
        → IsSign RightParen close → Primary (suc b) (l ∷ begin ∷ close ∷ []) (tree l.at (Call f [])) 1
    aggregate : {b d : ℕ} {xs : List Lexeme} {es : List Expr} (l : Lexeme) (f : Aggregate) → IsWord (Over f) l → Body b xs es d
        → Primary (suc b) (l ∷ xs) (tree l.at (Aggregated f no_grouping es)) (d + 1)
    grouped_before : {b d : ℕ} {us xs ys : List Lexeme} {es : List Expr} {grouping : Grouping} (l : Lexeme) (f : Aggregate) → IsWord (Over f) l → Grouped xs grouping
        → Body b ys es d → us ≡ l ∷ xs ++ ys → Primary (suc b) us (tree l.at (Aggregated f grouping es)) (d + 1)
    grouped_behind : {b d : ℕ} {us xs ys : List Lexeme} {es : List Expr} {grouping : Grouping} (l : Lexeme) (f : Aggregate) → IsWord (Over f) l → Body b xs es d
        → Grouped ys grouping → us ≡ l ∷ xs ++ ys → Primary (suc b) us (tree l.at (Aggregated f grouping es)) (d + 1)

  -- `function_call_args`
  pub data ArgumentList : ℕ → List Lexeme → List Expr → ℕ → Type 0 where
    one : {b d : ℕ} {xs : List Lexeme} {e : Expr} → Phrase b 5 xs e d → ArgumentList b xs (e ∷ []) d
    more : {b m n : ℕ} {us xs ys : List Lexeme} {es : List Expr} {e : Expr} (comma : Lexeme) → ArgumentList b xs es m → IsSign Comma comma → Phrase b 5 ys e n
        → us ≡ xs ++ comma ∷ ys → ArgumentList b us (es ++ e ∷ []) (max m n)

  -- `function_call_body`
  pub data Body : ℕ → List Lexeme → List Expr → ℕ → Type 0 where
    body : {b d : ℕ} {us xs : List Lexeme} {es : List Expr} (begin close : Lexeme) → IsSign LeftParen begin → ArgumentList b xs es d → IsSign RightParen close
        → us ≡ begin ∷ xs ++ close ∷ [] → Body b us es d

  -- `vector_selector`, `matrix_selector`, `subquery_expr`, `offset_expr` and `step_invariant_expr`: an operand, the offset and
  -- the time that stand behind it, and the place of its first byte
  pub data Operand : ℕ → Term → Option Ms → Option Fixed → List Lexeme → ℕ → ℕ → Type 0 where
    selector : {b at : ℕ} {xs : List Lexeme} {rules : List Rule} → Selected xs at rules → Operand b (a_selector rules) None None xs at 1
    primary : {b d : ℕ} {xs : List Lexeme} {e : Expr} → Primary b xs e d → Operand b (another e) None None xs e.at d
    range : {b at d : ℕ} {us xs ys : List Lexeme} {rules : List Rule} {length : Ms} → Operand b (a_selector rules) None None xs at d → RangeBrackets ys length → us ≡ xs ++ ys
        → Operand b (a_range rules length) None None us at d
    subquery : {b at d : ℕ} {term : Term} {offset : Option Ms} {fixed : Option Fixed} {us xs ys : List Lexeme} {length step : Ms} → Operand b term offset fixed xs at d
        → StepBrackets ys length step → us ≡ xs ++ ys → Operand b (a_subquery (term_tree at term (moment_of offset fixed)) length step) None None us at (d + 1)
    offset : {b at d : ℕ} {term : Term} {fixed : Option Fixed} {us xs ys : List Lexeme} {by : Ms} → Operand b term None fixed xs at d → takes_modifiers term ≡ true
        → OffsetBehind ys by → us ≡ xs ++ ys → Operand b term (Some by) fixed us at d
    time : {b at d : ℕ} {term : Term} {offset : Option Ms} {us xs ys : List Lexeme} {fixed : Fixed} → Operand b term offset None xs at d → takes_modifiers term ≡ true
        → TimeBehind ys fixed → us ≡ xs ++ ys → Operand b term offset (Some fixed) us at d

  -- `unary_expr` and `binary_expr` of a level: 0 is an operand with its signs and powers, and 1 to 5 are those of the other operators
  pub data Phrase : ℕ → ℕ → List Lexeme → Expr → ℕ → Type 0 where
    operand : {b at d : ℕ} {term : Term} {offset : Option Ms} {fixed : Option Fixed} {xs : List Lexeme} → Operand b term offset fixed xs at d
        → Phrase b zero xs (term_tree at term (moment_of offset fixed)) d
    power : {b at m n : ℕ} {term : Term} {offset : Option Ms} {fixed : Option Fixed} {us xs ys zs : List Lexeme} {r : Expr} {matching : Matching} {bare : Bool} (caret : Lexeme)
        → Operand (suc b) term offset fixed xs at m → IsSign Caret caret → BinModifier (Arith Pow) ys matching bare → Phrase b zero zs r n → begins_labels bare zs ≡ false
        → us ≡ xs ++ caret ∷ (ys ++ zs)
        → Phrase (suc b) zero us (tree at (node_of (Arith Pow) matching (term_tree at term (moment_of offset fixed)) r)) (max m n + 1)
    minus : {b d : ℕ} {xs : List Lexeme} {e : Expr} (sign : Lexeme) → IsSign Minus sign → Phrase b zero xs e d → Phrase (suc b) zero (sign ∷ xs) (tree sign.at (Negate e)) (d + 1)
    plus : {b d : ℕ} {xs : List Lexeme} {e : Expr} (sign : Lexeme) → IsSign Plus sign → Phrase b zero xs e d → Phrase (suc b) zero (sign ∷ xs) (tree sign.at (Paren e)) (d + 1)
    tighter : {b level d : ℕ} {xs : List Lexeme} {e : Expr} → Phrase b level xs e d → Phrase b (suc level) xs e d
    binary : {b level m n : ℕ} {us xs ys zs : List Lexeme} {op : BinaryOp} {l r : Expr} {matching : Matching} {bare : Bool} (sign : Lexeme) → Phrase b (suc level) xs l m
        → op_of (suc level) sign.kind ≡ Some op → BinModifier op ys matching bare → Phrase b level zs r n → begins_labels bare zs ≡ false → us ≡ xs ++ sign ∷ (ys ++ zs)
        → Phrase b (suc level) us (tree l.at (node_of op matching l r)) (max m n + 1)

-- the lexemes of a query, and its tree with the number of nodes on its longest path
abbrev pub IsQuery : List Lexeme → Expr → ℕ → Type 0
IsQuery ls e depth = Phrase 128 5 ls e depth
