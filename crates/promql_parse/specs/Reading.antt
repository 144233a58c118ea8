-- How the lexemes of a query are read, by Prometheus' grammar. Binary operators group to the left, but `^`, whose right side
-- is an operand with its sign. A sign takes what binds tighter than `*`. Each nesting opens with a lexeme, and more than so
-- many are refused there, which is this project's own.
use Rattle.std.specs.Prelude.{ℕ, zero, suc, Bool, true, false, ◌&&◌, ◌||◌, if◌then◌else◌, List, [], ◌∷◌, drop, Option, Some, None, is_some, Result, Ok, Err, bytes_eq, codes}
use Rattle.std.specs.List.{list_any}
use Rattle.func_table.specs.declared.table.Aggregate.{Aggregate}
use Rattle.func_table.specs.declared.table.Found.{Found}
use Rattle.func_table.specs.declared.table.Found.TheVariants as found
use Rattle.func_table.specs.declared.table.Func.{Func}
use Rattle.func_table.specs.Names.{found_of}
use Rattle.promql_ast.specs.declared.refusal.QueryRefusal.{QueryRefusal}
use Rattle.promql_ast.specs.declared.refusal.QueryRefusal.TheVariants.{Expected, NumberRange, RefusedFunction, TooDeep, UnknownFunction}
use Rattle.promql_ast.specs.declared.tree.Expr.{Expr}
use Rattle.promql_ast.specs.declared.tree.Node.TheVariants.{Number, Words}
use Rattle.promql_parse.specs.Build.{add, aggregate, binary, bracketed, call, is_plain, leaf, may_fix, may_offset, negate, no_arguments, operand_built, other, paren, selected, with_offset, with_time}
use Rattle.promql_parse.specs.declared.build.Arguments.{Arguments}
use Rattle.promql_parse.specs.declared.build.Built.{Built}
use Rattle.promql_parse.specs.declared.build.Built.TheVariants.{Whole, Deep}
use Rattle.promql_parse.specs.declared.build.Operand.{Operand}
use Rattle.promql_parts.specs.Labels.{grouping_at, grouping_begun, grouping_behind, item_behind}
use Rattle.promql_parts.specs.Operators.{matching_at, op_at}
use Rattle.promql_parts.specs.Reads.{Read, Turn, ◌>>=◌, after, all_turns, begins, refused, refused_at}
use Rattle.promql_parts.specs.Selectors.{braces_at, named_rules}
use Rattle.promql_parts.specs.Spans.{brackets_at, offset_at, when_at}
use Rattle.promql_parts.specs.declared.lexeme.Lexeme.{Lexeme}
use Rattle.promql_parts.specs.declared.lexeme.LexemeKind.{LexemeKind}
use Rattle.promql_parts.specs.declared.lexeme.LexemeKind.TheVariants as kinds
use Rattle.promql_parts.specs.declared.lexeme.Sign.TheVariants.{LeftParen, RightParen, LeftBrace, LeftBracket, Plus, Minus, Caret, AtSign}
use Rattle.promql_lex.specs.declared.word.Word.{Word}
use Rattle.promql_lex.specs.declared.word.Word.TheVariants.{On, Ignoring, GroupLeft, GroupRight, Bool as Flag, Offset, Atan2, Over}
use Rattle.promql_parts.specs.declared.operator.BinaryOp.{BinaryOp}
use Rattle.promql_parts.specs.declared.operator.BinaryOp.TheVariants.{Arith}
use Rattle.ticks.specs.declared.moment.Ms.{Ms}
use Rattle.xfrac.specs.Forming.{formed}
use Rattle.xfrac.specs.declared.value.ArithOp.TheVariants.{Pow}
use Rattle.xfrac.specs.declared.value.XFrac.{XFrac}

-- a reader of the levels: 0 is an operand with its signs and powers, and 1 to 5 are those of the other operators
abbrev pub Levels : Type 0
Levels = ℕ → List Lexeme → Read Built

-- what reads inside of what a lexeme opens at a place
abbrev pub Opens : Type 0
Opens = ℕ → Result Levels QueryRefusal

-- a duration in a number's place is its seconds
abbrev pub seconds_of : ℕ → Ms → Result XFrac QueryRefusal
seconds_of at duration = within_limits (formed duration.0 1000)
  where
    within_limits : Option XFrac → Result XFrac QueryRefusal
    within_limits None = Err (NumberRange at)
    within_limits (Some value) = Ok value

-- the function of a name, as a call's
abbrev pub function_found : ℕ → List ℕ → Found → Result Func QueryRefusal
function_found at name (found.Known f) = Ok f
function_found at name found.Refused = Err (RefusedFunction at name)
function_found at name found.Unknown = Err (UnknownFunction at name)

abbrev pub function_at : ℕ → List ℕ → Result Func QueryRefusal
function_at at name = function_found at name (found_of name)

-- aggregations that PromQL has and this engine refuses
abbrev pub refused_aggregations : List (List ℕ)
refused_aggregations = codes "stddev" ∷ codes "limitk" ∷ codes "limit_ratio" ∷ []

abbrev pub is_refused_aggregation : List ℕ → Bool
is_refused_aggregation name = list_any (λ other. bytes_eq other name) refused_aggregations

-- a grouping's word stands at the front
abbrev pub begins_grouping : List Lexeme → Bool
begins_grouping ls = is_some (grouping_begun ls)

module _ (end : ℕ) where
  -- one more argument, up to the closing parenthesis, and whether another one follows
  unfoldable pub arguments_turn : (List Lexeme → Read Built) → Turn Arguments
  arguments_turn read sofar ls = do
    argument ← read ls
    next ← item_behind end RightParen argument.1
    Ok (next.0, add sofar argument.0, next.1)

  -- one argument or more, from behind the opening parenthesis
  unfoldable pub arguments_at : (List Lexeme → Read Built) → List Lexeme → Read Arguments
  arguments_at read ls = do
    arguments ← all_turns (arguments_turn read) no_arguments ls
    rest ← after end RightParen arguments.1
    Ok (arguments.0, rest)

  -- a call's may be none
  abbrev pub call_arguments : (List Lexeme → Read Built) → List Lexeme → Read Arguments
  call_arguments read ls = if begins RightParen ls then Ok (no_arguments, drop 1 ls) else arguments_at read ls

  -- an aggregation's arguments, with their parentheses
  unfoldable pub body_at : (List Lexeme → Read Built) → List Lexeme → Read Arguments
  body_at read ls = after end LeftParen ls >>= arguments_at read

  unfoldable pub grouped_behind : (List Lexeme → Read Built) → ℕ → Aggregate → List Lexeme → Read Built
  grouped_behind read at f ls = do
    arguments ← body_at read ls
    grouping ← grouping_behind end arguments.1
    Ok (aggregate at f grouping.0 arguments.0, grouping.1)

  unfoldable pub grouped_before : (List Lexeme → Read Built) → ℕ → Aggregate → Bool → List Lexeme → Read Built
  grouped_before read at f without ls = do
    grouping ← grouping_at without end ls
    arguments ← body_at read grouping.1
    Ok (aggregate at f grouping.0 arguments.0, arguments.1)

  -- a grouping stands before the arguments or behind them
  abbrev pub grouped : (List Lexeme → Read Built) → ℕ → Aggregate → Option Bool → List Lexeme → Read Built
  grouped read at f None ls = grouped_behind read at f ls
  grouped read at f (Some without) ls = grouped_before read at f without ls

  unfoldable pub braced_at : ℕ → Option (List ℕ) → List Lexeme → Read Operand
  braced_at at name ls = braces_at end name ls >>= λ rules. Ok (selected at rules.0, rules.1)

  -- a metric's name, and the braces behind it if they are there
  unfoldable pub metric_at : ℕ → List ℕ → List Lexeme → Read Operand
  metric_at at name ls = if begins LeftBrace ls then braced_at at (Some name) (drop 1 ls) else Ok (selected at (named_rules (Some name)), ls)

  unfoldable pub duration_at : ℕ → Ms → List Lexeme → Read Operand
  duration_at at duration ls = seconds_of at duration >>= λ value. Ok (other at (leaf at (Number value)), ls)

  unfoldable pub bracket_turn : Operand → List Lexeme → Result (Bool × Operand × List Lexeme) QueryRefusal
  bracket_turn o ls = brackets_at (is_plain o) end ls >>= λ brackets. Ok (true, bracketed o brackets.0, brackets.1)

  unfoldable pub offset_turn : Operand → List Lexeme → Result (Bool × Operand × List Lexeme) QueryRefusal
  offset_turn o ls = offset_at end ls >>= λ offset. Ok (true, with_offset o offset.0, offset.1)

  unfoldable pub time_turn : Operand → List Lexeme → Result (Bool × Operand × List Lexeme) QueryRefusal
  time_turn o ls = when_at end ls >>= λ time. Ok (true, with_time o time.0, time.1)

  -- what may stand behind an operand: brackets, an offset, a fixed time
  abbrev pub postfix_kind : Operand → LexemeKind → List Lexeme → Result (Bool × Operand × List Lexeme) QueryRefusal
  postfix_kind o (kinds.Sign LeftBracket) ls = bracket_turn o (drop 1 ls)
  postfix_kind o (kinds.Word Offset spelling) ls = if may_offset o then offset_turn o (drop 1 ls) else Ok (false, o, ls)
  postfix_kind o (kinds.Sign AtSign) ls = if may_fix o then time_turn o (drop 1 ls) else Ok (false, o, ls)
  postfix_kind o _ ls = Ok (false, o, ls)

  abbrev pub postfix_turn : Turn Operand
  postfix_turn o [] = Ok (false, o, [])
  postfix_turn o (l ∷ ls) = postfix_kind o l.kind (l ∷ ls)

  -- how the sides of `^` are matched, and its right side
  unfoldable pub raised_at : (List Lexeme → Read Built) → Built → List Lexeme → Read Built
  raised_at operand base ls = do
    matching ← matching_at (Arith Pow) end ls
    right ← operand matching.1
    Ok (binary (Arith Pow) matching.0 base right.0, right.1)

  module _ (opens : Opens) where
    -- a call, from behind its opening parenthesis
    unfoldable pub call_at : ℕ → List ℕ → List Lexeme → Read Operand
    call_at at name ls = do
      inside ← opens at
      f ← function_at at name
      arguments ← call_arguments (inside 5) ls
      Ok (other at (call at f arguments.0), arguments.1)

    unfoldable pub refused_at_name : ℕ → List ℕ → Read Operand
    refused_at_name at name = opens at >>= λ inside. Err (RefusedFunction at name)

    -- a name: a call's, a refused aggregation's or a metric's
    unfoldable pub named_at : ℕ → List ℕ → List Lexeme → Read Operand
    named_at at name ls =
        if begins LeftParen ls then call_at at name (drop 1 ls)
        else if (begins_grouping ls && is_refused_aggregation name) then refused_at_name at name
        else metric_at at name ls

    unfoldable pub aggregate_at : ℕ → Aggregate → List Lexeme → Read Operand
    aggregate_at at f ls = do
      inside ← opens at
      built ← grouped (inside 5) at f (grouping_begun ls) ls
      Ok (other at built.0, built.1)

    -- an aggregation, or a metric that is named so
    abbrev pub aggregation_at : ℕ → Aggregate → List ℕ → List Lexeme → Read Operand
    aggregation_at at f spelling ls = if (begins LeftParen ls || begins_grouping ls) then aggregate_at at f ls else metric_at at spelling ls

    -- a word in an operand's place: an aggregation, a metric's name, or none of these
    abbrev pub word_at : ℕ → Word → List ℕ → List Lexeme → Read Operand
    word_at at (Over f) spelling ls = aggregation_at at f spelling ls
    word_at at Flag spelling ls = Err (Expected at)
    word_at at On spelling ls = Err (Expected at)
    word_at at Ignoring spelling ls = Err (Expected at)
    word_at at GroupLeft spelling ls = Err (Expected at)
    word_at at GroupRight spelling ls = Err (Expected at)
    word_at at Atan2 spelling ls = Err (Expected at)
    word_at at _ spelling ls = metric_at at spelling ls

    unfoldable pub paren_at : ℕ → List Lexeme → Read Operand
    paren_at at ls = do
      inside ← opens at
      inner ← inside 5 ls
      rest ← after end RightParen inner.1
      Ok (other at (paren at inner.0), rest)

    -- a number, a duration, a string, parentheses, an aggregation, a call or a selector
    abbrev pub primary_kind : Lexeme → LexemeKind → List Lexeme → Read Operand
    primary_kind l (kinds.Number value) ls = Ok (other l.at (leaf l.at (Number value)), ls)
    primary_kind l (kinds.Duration duration) ls = duration_at l.at duration ls
    primary_kind l (kinds.Quoted text) ls = Ok (other l.at (leaf l.at (Words text)), ls)
    primary_kind l (kinds.Sign LeftParen) ls = paren_at l.at ls
    primary_kind l (kinds.Sign LeftBrace) ls = braced_at l.at None ls
    primary_kind l (kinds.Name name) ls = named_at l.at name ls
    primary_kind l (kinds.Word word spelling) ls = word_at l.at word spelling ls
    primary_kind l _ ls = Err (refused l)

    abbrev pub primary_at : Lexeme → List Lexeme → Read Operand
    primary_at l ls = primary_kind l l.kind ls

    unfoldable pub operand_at : Lexeme → List Lexeme → Read Operand
    operand_at l ls = primary_at l ls >>= λ first. all_turns postfix_turn first.0 first.1

    unfoldable pub exponent_at : ℕ → Built → List Lexeme → Read Built
    exponent_at at base ls = opens at >>= λ inside. raised_at (inside 0) base ls

    -- a power, or an operand alone; `atan2` in an operator's place is refused
    abbrev pub power_kind : Lexeme → Built → LexemeKind → List Lexeme → Read Built
    power_kind l base (kinds.Sign Caret) ls = exponent_at l.at base ls
    power_kind l base (kinds.Word Atan2 spelling) ls = Err (RefusedFunction l.at spelling)
    power_kind l base _ ls = Ok (base, l ∷ ls)

    abbrev pub power_behind : Built → List Lexeme → Read Built
    power_behind base [] = Ok (base, [])
    power_behind base (l ∷ ls) = power_kind l base l.kind ls

    unfoldable pub power_at : Lexeme → List Lexeme → Read Built
    power_at l ls = operand_at l ls >>= λ base. power_behind (operand_built base.0) base.1

    unfoldable pub minus_at : ℕ → List Lexeme → Read Built
    minus_at at ls = do
      inside ← opens at
      inner ← inside 0 ls
      Ok (negate at inner.0, inner.1)

    -- a plus sign is kept as parentheses
    unfoldable pub plus_at : ℕ → List Lexeme → Read Built
    plus_at at ls = do
      inside ← opens at
      inner ← inside 0 ls
      Ok (paren at inner.0, inner.1)

    abbrev pub unary_kind : Lexeme → LexemeKind → List Lexeme → Read Built
    unary_kind l (kinds.Sign Minus) ls = minus_at l.at ls
    unary_kind l (kinds.Sign Plus) ls = plus_at l.at ls
    unary_kind l _ ls = power_at l ls

    abbrev pub unary_at : List Lexeme → Read Built
    unary_at [] = Err (refused_at end [])
    unary_at (l ∷ ls) = unary_kind l l.kind ls

  -- an operator of a level, how its sides are matched, and its right side
  unfoldable pub side_at : BinaryOp → (List Lexeme → Read Built) → Built → List Lexeme → Result (Bool × Built × List Lexeme) QueryRefusal
  side_at op operand left ls = do
    matching ← matching_at op end ls
    right ← operand matching.1
    Ok (true, binary op matching.0 left right.0, right.1)

  abbrev pub chain_from : (List Lexeme → Read Built) → Built → Option BinaryOp → List Lexeme → Result (Bool × Built × List Lexeme) QueryRefusal
  chain_from operand left None ls = Ok (false, left, ls)
  chain_from operand left (Some op) ls = side_at op operand left (drop 1 ls)

  abbrev pub chain_turn : ℕ → (List Lexeme → Read Built) → Turn Built
  chain_turn level operand left ls = chain_from operand left (op_at level ls) ls

  unfoldable pub level_at : Opens → Levels
  level_at opens zero ls = unary_at opens ls
  level_at opens (suc level) ls = level_at opens level ls >>= λ first. all_turns (chain_turn (suc level) (level_at opens level)) first.0 first.1

  -- within so many levels of nesting
  unfoldable pub within : ℕ → Opens
  within zero at = Err (TooDeep at)
  within (suc more) at = Ok (level_at (within more))

  abbrev pub finished : Built × List Lexeme → Result Expr QueryRefusal
  finished (Deep, []) = Err (TooDeep 0)
  finished (Whole e depth, []) = Ok e
  finished (built, l ∷ ls) = Err (refused l)

  -- the tree of all of the lexemes, or the one refusal
  unfoldable pub reading : List Lexeme → Result Expr QueryRefusal
  reading ls = level_at (within 128) 5 ls >>= finished
