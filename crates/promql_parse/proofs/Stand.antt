-- A refusal of a query stands whatever follows its lexeme.
use Rattle.std.proofs.Common.{◌≡◌, ◌⊎◌, ℕ, zero, suc, refl, ap, ◌∙◌, sym, subst, ⊎_elim, inl, inr, Bool, true, false, List, [], ◌∷◌, ◌++◌, arith}
use Rattle.std.proofs.lemmas.Bool.{cases_lt}
use Rattle.std.specs.Prelude.{◌&&◌, ◌||◌, Option, Some, None, is_some, Result, Ok, Err}
use Rattle.func_table.specs.declared.table.Aggregate.{Aggregate}
use Rattle.promql_ast.specs.declared.refusal.QueryRefusal.{QueryRefusal}
use Rattle.promql_ast.specs.declared.refusal.QueryRefusal.TheVariants.{Expected, RefusedFunction, TooDeep}
use Rattle.promql_ast.specs.declared.tree.Expr.{Expr}
use Rattle.promql_ast.specs.declared.tree.Node.TheVariants.{Number}
use Rattle.promql_parse.specs.Build.{add, aggregate, binary, bracketed, call, is_plain, leaf, may_fix, may_offset, negate, no_arguments, operand_built, other, paren, selected, with_offset, with_time}
use Rattle.promql_parse.specs.Laws.{IsFinal, NoQueryBeginsSo, RefusalStands}
use Rattle.promql_parse.specs.Reading.{Levels, Opens, aggregate_at, aggregation_at, arguments_at, arguments_turn, body_at, braced_at, bracket_turn, call_arguments, call_at, chain_from, chain_turn, duration_at, exponent_at, finished, function_at, grouped, grouped_before, grouped_behind, is_refused_aggregation, level_at, metric_at, minus_at, named_at, offset_turn, operand_at, paren_at, plus_at, postfix_kind, postfix_turn, power_at, power_behind, power_kind, primary_kind, raised_at, reading, refused_at_name, seconds_of, side_at, time_turn, unary_at, unary_kind, within, word_at}
use Rattle.promql_parse.specs.declared.build.Arguments.{Arguments}
use Rattle.promql_parse.specs.declared.build.Built.{Built}
use Rattle.promql_parse.specs.declared.build.Built.TheVariants as built
use Rattle.promql_parse.specs.declared.build.Operand.{Operand as Made}
use Rattle.promql_parts.specs.Labels.{grouping_behind, grouping_word, item_behind}
use Rattle.promql_parts.specs.Operators.{matching_at, op_of}
use Rattle.promql_parts.specs.Reads.{Read, ◌>>=◌, after, all_turns}
use Rattle.promql_parts.specs.Signs.{is_sign}
use Rattle.promql_parts.specs.Standing.{Ended, after_stands, all_turns_ended, all_turns_stand, bind_ended, bind_stands, choice_stands, close_stands, ended_stands, here, item_ended, item_stands, left, map_ended, map_stands, pure_stands, turned}
use Rattle.promql_parts.specs.Stands.{BracesStand, BracketsStand, GroupingBehindStands, GroupingStands, MatchingStands, OffsetStands, Stands, TimeStands, pair}
use Rattle.promql_parts.specs.Steps.{no_ok}
use Rattle.promql_parts.specs.declared.lexeme.Lexeme.{Lexeme}
use Rattle.promql_parts.specs.declared.lexeme.LexemeKind.{LexemeKind}
use Rattle.promql_parts.specs.declared.lexeme.LexemeKind.TheVariants as kinds
use Rattle.promql_parts.specs.declared.lexeme.Sign.TheVariants.{LeftParen, RightParen, LeftBrace, LeftBracket, AtSign, Plus, Minus, Caret}
use Rattle.promql_lex.specs.declared.word.Word.{Word}
use Rattle.promql_lex.specs.declared.word.Word.TheVariants.{On, Ignoring, GroupLeft, GroupRight, Bool as Flag, Offset, Atan2, Over}
use Rattle.promql_parts.specs.declared.operator.BinaryOp.{BinaryOp}
use Rattle.promql_parts.specs.declared.operator.BinaryOp.TheVariants.{Arith}
use Rattle.ticks.specs.declared.moment.Ms.{Ms}
use Rattle.xfrac.specs.declared.value.ArithOp.TheVariants.{Pow}
use Rattle.promql_parse.proofs.Found.{Parts}
use Rattle.promql_parse.proofs.PhrasesRead.{Known, arg_shrinks, chain_shrinks, postfix_shrinks}
use Rattle.promql_parse.proofs.Whole.{deep_is_refused, in_grammar_is_read}

-- what is known of the refusals of parts
pub record Standing : Type 0 where
  pub grouping : GroupingStands
  pub grouping_behind : GroupingBehindStands
  pub braces : BracesStand
  pub brackets : BracketsStand
  pub offset : OffsetStands
  pub time : TimeStands
  pub matching : MatchingStands

opens_by : {X B : Type 0} (Put : X → List Lexeme → B) (end last : ℕ) (more : List Lexeme) (b at : ℕ) (f g : Levels → Result B QueryRefusal)
    → ((c : ℕ) → b ≡ suc c → Stands Put end more (f (level_at end (within end c))) (g (level_at last (within last c)))) → Stands Put end more (within end b at >>= f) (within last b at >>= g)
unfolding within
opens_by Put end last more zero at f g steps = Stands.stops (TooDeep at)
opens_by Put end last more (suc c) at f g steps = steps c refl

empty_level : (end : ℕ) (opens : Opens) (level : ℕ) → level_at end opens level [] ≡ Err (Expected end)
unfolding level_at
empty_level end opens zero = refl
empty_level end opens (suc level) = ap (λ (q : Read Built). q >>= λ first. all_turns (chain_turn end (suc level) (level_at end opens level)) first.0 first.1) (empty_level end opens level)

wanted_by : {X Y B : Type 0} (Put : X → List Lexeme → B) (end : ℕ) (f : Y → Result B QueryRefusal) (r : Result Y QueryRefusal) → r ≡ Err (Expected end) → Ended Put end (r >>= f)
wanted_by Put end f r is = subst (Ended Put end) (sym (ap (λ q. q >>= f) is)) Ended.wanted

module _ (sound : Parts) (known : Known) (standing : Standing) (end last : ℕ) (more : List Lexeme) where
  abbrev Same : {X : Type 0} → Read X → Read X → Type 0
  Same {X} r s = Stands (pair {X = X}) end more r s

  -- readers of which one sees more lexemes
  abbrev SameReaders : {X : Type 0} → (List Lexeme → Read X) → (List Lexeme → Read X) → Type 0
  SameReaders one two = ((ls : List Lexeme) → Same (one ls) (two (ls ++ more)))

  -- ---- what stands behind an operand
  bracket_steps : (o : Made) (ls : List Lexeme) → Stands turned end more (bracket_turn end o ls) (bracket_turn last o (ls ++ more))
  unfolding bracket_turn
  bracket_steps o ls = map_stands turned end more (λ found. (true, bracketed o found)) (standing.brackets (is_plain o) end last ls more)

  offset_steps : (o : Made) (ls : List Lexeme) → Stands turned end more (offset_turn end o ls) (offset_turn last o (ls ++ more))
  unfolding offset_turn
  offset_steps o ls = map_stands turned end more (λ offset. (true, with_offset o offset)) (standing.offset end last ls more)

  time_steps : (o : Made) (ls : List Lexeme) → Stands turned end more (time_turn end o ls) (time_turn last o (ls ++ more))
  unfolding time_turn
  time_steps o ls = map_stands turned end more (λ time. (true, with_time o time)) (standing.time end last ls more)

  postfix_kinds : (o : Made) (l : Lexeme) (k : LexemeKind) (ls : List Lexeme) → Stands turned end more (postfix_kind end o k (l ∷ ls)) (postfix_kind last o k (l ∷ ls ++ more))
  postfix_kinds o l (kinds.Sign LeftBracket) ls = bracket_steps o ls
  postfix_kinds o l (kinds.Word Offset spelling) ls = choice_stands turned end more (may_offset o) _ _ _ _ (offset_steps o ls) (Stands.goes (false, o) l ls)
  postfix_kinds o l (kinds.Sign AtSign) ls = choice_stands turned end more (may_fix o) _ _ _ _ (time_steps o ls) (Stands.goes (false, o) l ls)
  postfix_kinds o l _ ls = Stands.goes (false, o) l ls

  postfixes_stand : (o : Made) (ls : List Lexeme) → Same (all_turns (postfix_turn end) o ls) (all_turns (postfix_turn last) o (ls ++ more))
  postfixes_stand o ls =
      all_turns_stand (postfix_turn end) (postfix_turn last) end more (λ o. inl refl) (λ o l ls. postfix_kinds o l l.kind ls) (postfix_shrinks sound known end 0) o ls

  postfixes_ended : (o : Made) → Ended pair end (all_turns (postfix_turn end) o [])
  postfixes_ended o = all_turns_ended (postfix_turn end) (postfix_turn last) end more (λ o. inl refl) (λ o l ls. postfix_kinds o l l.kind ls) (postfix_shrinks sound known end 0) o

  -- ---- selectors
  braced_stands : (at : ℕ) (name : Option (List ℕ)) (ls : List Lexeme) → Same (braced_at end at name ls) (braced_at last at name (ls ++ more))
  unfolding braced_at
  braced_stands at name ls = map_stands pair end more (selected at) (standing.braces name end last ls more)

  metric_stands : (at : ℕ) (name : List ℕ) (l : Lexeme) (ls : List Lexeme) → Same (metric_at end at name (l ∷ ls)) (metric_at last at name (l ∷ ls ++ more))
  unfolding metric_at
  metric_stands at name l ls = choice_stands pair end more (is_sign LeftBrace l.kind) _ _ _ _ (braced_stands at (Some name) ls) (Stands.goes _ l ls)

  metric_ended : (at : ℕ) (name : List ℕ) → Ended pair end (metric_at end at name [])
  unfolding metric_at
  metric_ended at name = Ended.there _

  duration_stands : (at : ℕ) (duration : Ms) (ls : List Lexeme) → Same (duration_at end at duration ls) (duration_at last at duration (ls ++ more))
  unfolding duration_at
  duration_stands at duration ls = pure_stands pair end more (seconds_of at duration) (λ value. Ok (other at (leaf at (Number value)), ls)) (λ value. Ok (other at (leaf at (Number value)), ls ++ more)) (λ value. here pair end more _ ls)

  -- ---- within some levels of nesting
  module _ (c : ℕ) (deeper : (level : ℕ) → SameReaders (level_at end (within end c) level) (level_at last (within last c) level)) where
    abbrev one : List Lexeme → Read Built
    one = level_at end (within end c) 5

    abbrev two : List Lexeme → Read Built
    two = level_at last (within last c) 5

    argument_steps : (a : Arguments) (l : Lexeme) (ls : List Lexeme) → Stands turned end more (arguments_turn end one a (l ∷ ls)) (arguments_turn last two a (l ∷ ls ++ more))
    unfolding arguments_turn
    argument_steps a l ls =
        bind_stands pair turned end more (λ argument. item_behind end RightParen argument.1 >>= λ next. Ok (next.0, add a argument.0, next.1))
        (λ argument. item_behind last RightParen argument.1 >>= λ next. Ok (next.0, add a argument.0, next.1))
        (λ x. map_ended turned end more (λ another. (another, add a x)) (item_ended end last more RightParen))
        (λ x u us. map_stands turned end more (λ another. (another, add a x)) (item_stands end last more RightParen (u ∷ us))) (deeper 5 (l ∷ ls))

    argument_end : (a : Arguments) → (arguments_turn end one a [] ≡ Ok (false, a, [])) ⊎ (arguments_turn end one a [] ≡ Err (Expected end))
    unfolding arguments_turn
    argument_end a = inr (ap (λ (q : Read Built). q >>= λ argument. item_behind end RightParen argument.1 >>= λ next. Ok (next.0, add a argument.0, next.1)) (empty_level end (within end c) 5))

    arguments_stand : (ls : List Lexeme) → Same (arguments_at end one ls) (arguments_at last two (ls ++ more))
    unfolding arguments_at
    arguments_stand ls =
        bind_stands pair pair end more (λ arguments. after end RightParen arguments.1 >>= λ rest. Ok (arguments.0, rest)) (λ arguments. after last RightParen arguments.1 >>= λ rest. Ok (arguments.0, rest))
        (λ x. Ended.wanted) (λ x l us. close_stands end last more RightParen x (l ∷ us))
        (all_turns_stand (arguments_turn end one) (arguments_turn last two) end more argument_end argument_steps (arg_shrinks sound known end c) no_arguments ls)

    arguments_ended : Ended pair end (arguments_at end one [])
    unfolding arguments_at
    arguments_ended =
        bind_ended pair pair end more (λ arguments. after end RightParen arguments.1 >>= λ rest. Ok (arguments.0, rest)) (λ arguments. after last RightParen arguments.1 >>= λ rest. Ok (arguments.0, rest)) (λ x. Ended.wanted)
        (all_turns_ended (arguments_turn end one) (arguments_turn last two) end more argument_end argument_steps (arg_shrinks sound known end c) no_arguments)

    body_stands : (ls : List Lexeme) → Same (body_at end one ls) (body_at last two (ls ++ more))
    unfolding body_at
    body_stands ls = bind_stands left pair end more (arguments_at end one) (arguments_at last two) (λ u. arguments_ended) (λ u l us. arguments_stand (l ∷ us)) (after_stands end last more LeftParen ls)

    body_ended : Ended pair end (body_at end one [])
    unfolding body_at
    body_ended = Ended.wanted

    call_arguments_stand : (ls : List Lexeme) → Same (call_arguments end one ls) (call_arguments last two (ls ++ more))
    call_arguments_stand [] = ended_stands pair end more arguments_ended _
    call_arguments_stand (l ∷ ls) = choice_stands pair end more (is_sign RightParen l.kind) _ _ _ _ (here pair end more no_arguments ls) (arguments_stand (l ∷ ls))

    behind_stands : (at : ℕ) (f : Aggregate) (ls : List Lexeme) → Same (grouped_behind end one at f ls) (grouped_behind last two at f (ls ++ more))
    unfolding grouped_behind
    behind_stands at f ls =
        bind_stands pair pair end more (λ arguments. grouping_behind end arguments.1 >>= λ grouping. Ok (aggregate at f grouping.0 arguments.0, grouping.1))
        (λ arguments. grouping_behind last arguments.1 >>= λ grouping. Ok (aggregate at f grouping.0 arguments.0, grouping.1))
        (λ x. Ended.there _) (λ x l us. map_stands pair end more (λ grouping. aggregate at f grouping x) (standing.grouping_behind end last (l ∷ us) more)) (body_stands ls)

    before_stands : (at : ℕ) (f : Aggregate) (without : Bool) (l : Lexeme) (ls : List Lexeme) → Same (grouped_before end one at f without (l ∷ ls)) (grouped_before last two at f without (l ∷ ls ++ more))
    unfolding grouped_before
    before_stands at f without l ls =
        bind_stands pair pair end more (λ grouping. body_at end one grouping.1 >>= λ arguments. Ok (aggregate at f grouping.0 arguments.0, arguments.1))
        (λ grouping. body_at last two grouping.1 >>= λ arguments. Ok (aggregate at f grouping.0 arguments.0, arguments.1))
        (λ x. map_ended pair end more (aggregate at f x) body_ended) (λ x u us. map_stands pair end more (aggregate at f x) (body_stands (u ∷ us))) (standing.grouping without l end last ls more)

    grouped_stands : (at : ℕ) (f : Aggregate) (o : Option Bool) (l : Lexeme) (ls : List Lexeme) → Same (grouped end one at f o (l ∷ ls)) (grouped last two at f o (l ∷ ls ++ more))
    grouped_stands at f None l ls = behind_stands at f (l ∷ ls)
    grouped_stands at f (Some without) l ls = before_stands at f without l ls

  module _ (b : ℕ) (inside : (c : ℕ) → b ≡ suc c → (level : ℕ) → SameReaders (level_at end (within end c) level) (level_at last (within last c) level)) where
    abbrev opens : Opens
    opens = within end b

    abbrev wider : Opens
    wider = within last b

    call_stands : (at : ℕ) (name : List ℕ) (ls : List Lexeme) → Same (call_at end opens at name ls) (call_at last wider at name (ls ++ more))
    unfolding call_at
    call_stands at name ls =
        opens_by pair end last more b at (λ inside. function_at at name >>= λ f. call_arguments end (inside 5) ls >>= λ arguments. Ok (other at (call at f arguments.0), arguments.1))
        (λ inside. function_at at name >>= λ f. call_arguments last (inside 5) (ls ++ more) >>= λ arguments. Ok (other at (call at f arguments.0), arguments.1))
        (λ c is. pure_stands pair end more (function_at at name) (λ f. call_arguments end (level_at end (within end c) 5) ls >>= λ arguments. Ok (other at (call at f arguments.0), arguments.1))
        (λ f. call_arguments last (level_at last (within last c) 5) (ls ++ more) >>= λ arguments. Ok (other at (call at f arguments.0), arguments.1)) (λ f. map_stands pair end more (λ arguments. other at (call at f arguments)) (call_arguments_stand c (inside c is) ls)))

    refused_stands : (at : ℕ) (name : List ℕ) → Same (refused_at_name end opens at name) (refused_at_name last wider at name)
    unfolding refused_at_name
    refused_stands at name = opens_by pair end last more b at (λ inside. Err (RefusedFunction at name)) (λ inside. Err (RefusedFunction at name)) (λ c is. Stands.stops _)

    named_stands : (at : ℕ) (name : List ℕ) (l : Lexeme) (ls : List Lexeme) → Same (named_at end opens at name (l ∷ ls)) (named_at last wider at name (l ∷ ls ++ more))
    unfolding named_at
    named_stands at name l ls =
        choice_stands pair end more (is_sign LeftParen l.kind) _ _ _ _ (call_stands at name ls)
        (choice_stands pair end more (is_some (grouping_word l.kind) && is_refused_aggregation name) _ _ _ _ (refused_stands at name) (metric_stands at name l ls))

    named_ended : (at : ℕ) (name : List ℕ) → Ended pair end (named_at end opens at name [])
    unfolding named_at
    named_ended at name = metric_ended at name

    aggregate_stands : (at : ℕ) (f : Aggregate) (l : Lexeme) (ls : List Lexeme) → Same (aggregate_at end opens at f (l ∷ ls)) (aggregate_at last wider at f (l ∷ ls ++ more))
    unfolding aggregate_at
    aggregate_stands at f l ls = opens_by pair end last more b at (λ inside. grouped end (inside 5) at f (grouping_word l.kind) (l ∷ ls) >>= λ built. Ok (other at built.0, built.1))
        (λ inside. grouped last (inside 5) at f (grouping_word l.kind) (l ∷ ls ++ more) >>= λ built. Ok (other at built.0, built.1)) (λ c is. map_stands pair end more (other at) (grouped_stands c (inside c is) at f (grouping_word l.kind) l ls))

    aggregation_stands : (at : ℕ) (f : Aggregate) (spelling : List ℕ) (l : Lexeme) (ls : List Lexeme)
        → Same (aggregation_at end opens at f spelling (l ∷ ls)) (aggregation_at last wider at f spelling (l ∷ ls ++ more))
    aggregation_stands at f spelling l ls =
        choice_stands pair end more (is_sign LeftParen l.kind || is_some (grouping_word l.kind)) _ _ _ _ (aggregate_stands at f l ls) (metric_stands at spelling l ls)

    word_stands : (at : ℕ) (word : Word) (spelling : List ℕ) (ls : List Lexeme) → Same (word_at end opens at word spelling ls) (word_at last wider at word spelling (ls ++ more))
    word_stands at (Over f) spelling [] = ended_stands pair end more (metric_ended at spelling) _
    word_stands at (Over f) spelling (l ∷ ls) = aggregation_stands at f spelling l ls
    word_stands at Flag spelling ls = Stands.stops _
    word_stands at On spelling ls = Stands.stops _
    word_stands at Ignoring spelling ls = Stands.stops _
    word_stands at GroupLeft spelling ls = Stands.stops _
    word_stands at GroupRight spelling ls = Stands.stops _
    word_stands at Atan2 spelling ls = Stands.stops _
    word_stands at _ spelling [] = ended_stands pair end more (metric_ended at spelling) _
    word_stands at _ spelling (l ∷ ls) = metric_stands at spelling l ls

    paren_stands : (at : ℕ) (ls : List Lexeme) → Same (paren_at end opens at ls) (paren_at last wider at (ls ++ more))
    unfolding paren_at
    paren_stands at ls =
        opens_by pair end last more b at (λ inside. inside 5 ls >>= λ inner. after end RightParen inner.1 >>= λ rest. Ok (other at (paren at inner.0), rest))
        (λ inside. inside 5 (ls ++ more) >>= λ inner. after last RightParen inner.1 >>= λ rest. Ok (other at (paren at inner.0), rest))
        (λ c is. bind_stands pair pair end more (λ inner. after end RightParen inner.1 >>= λ rest. Ok (other at (paren at inner.0), rest))
        (λ inner. after last RightParen inner.1 >>= λ rest. Ok (other at (paren at inner.0), rest)) (λ inner. Ended.wanted) (λ inner l us. close_stands end last more RightParen (other at (paren at inner)) (l ∷ us)) (inside c is 5 ls))

    name_stands : (at : ℕ) (name : List ℕ) (ls : List Lexeme) → Same (named_at end opens at name ls) (named_at last wider at name (ls ++ more))
    name_stands at name [] = ended_stands pair end more (named_ended at name) _
    name_stands at name (l ∷ ls) = named_stands at name l ls

    primary_stands : (l : Lexeme) (k : LexemeKind) (ls : List Lexeme) → Same (primary_kind end opens l k ls) (primary_kind last wider l k (ls ++ more))
    primary_stands l (kinds.Number value) ls = here pair end more _ ls
    primary_stands l (kinds.Duration duration) ls = duration_stands l.at duration ls
    primary_stands l (kinds.Quoted text) ls = here pair end more _ ls
    primary_stands l (kinds.Sign LeftParen) ls = paren_stands l.at ls
    primary_stands l (kinds.Sign LeftBrace) ls = braced_stands l.at None ls
    primary_stands l (kinds.Name name) ls = name_stands l.at name ls
    primary_stands l (kinds.Word word spelling) ls = word_stands l.at word spelling ls
    primary_stands l _ ls = Stands.stops _

    operand_stands : (l : Lexeme) (ls : List Lexeme) → Same (operand_at end opens l ls) (operand_at last wider l (ls ++ more))
    unfolding operand_at
    operand_stands l ls =
        bind_stands pair pair end more (λ first. all_turns (postfix_turn end) first.0 first.1) (λ first. all_turns (postfix_turn last) first.0 first.1) (λ x. postfixes_ended x)
        (λ x u us. postfixes_stand x (u ∷ us)) (primary_stands l l.kind ls)

    exponent_stands : (at : ℕ) (base : Built) (ls : List Lexeme) → Same (exponent_at end opens at base ls) (exponent_at last wider at base (ls ++ more))
    unfolding exponent_at raised_at
    exponent_stands at base ls =
        opens_by pair end last more b at (λ inside. matching_at (Arith Pow) end ls >>= λ matching. inside 0 matching.1 >>= λ right. Ok (binary (Arith Pow) matching.0 base right.0, right.1))
        (λ inside. matching_at (Arith Pow) last (ls ++ more) >>= λ matching. inside 0 matching.1 >>= λ right. Ok (binary (Arith Pow) matching.0 base right.0, right.1))
        (λ c is. bind_stands pair pair end more
        (λ matching. level_at end (within end c) 0 matching.1 >>= λ right. Ok (binary (Arith Pow) matching.0 base right.0, right.1))
        (λ matching. level_at last (within last c) 0 matching.1 >>= λ right. Ok (binary (Arith Pow) matching.0 base right.0, right.1))
        (λ m. wanted_by pair end (λ right. Ok (binary (Arith Pow) m base right.0, right.1)) (level_at end (within end c) 0 []) (empty_level end (within end c) 0))
        (λ m l us. map_stands pair end more (binary (Arith Pow) m base) (inside c is 0 (l ∷ us))) (standing.matching (Arith Pow) end last ls more))

    power_kinds : (l : Lexeme) (base : Built) (k : LexemeKind) (ls : List Lexeme) → Same (power_kind end opens l base k ls) (power_kind last wider l base k (ls ++ more))
    power_kinds l base (kinds.Sign Caret) ls = exponent_stands l.at base ls
    power_kinds l base (kinds.Word Atan2 spelling) ls = Stands.stops _
    power_kinds l base _ ls = Stands.goes base l ls

    power_stands : (l : Lexeme) (ls : List Lexeme) → Same (power_at end opens l ls) (power_at last wider l (ls ++ more))
    unfolding power_at
    power_stands l ls =
        bind_stands pair pair end more (λ base. power_behind end opens (operand_built base.0) base.1) (λ base. power_behind last wider (operand_built base.0) base.1) (λ x. Ended.there (operand_built x))
        (λ x u us. power_kinds u (operand_built x) u.kind us) (operand_stands l ls)

    minus_stands : (at : ℕ) (ls : List Lexeme) → Same (minus_at end opens at ls) (minus_at last wider at (ls ++ more))
    unfolding minus_at
    minus_stands at ls = opens_by pair end last more b at (λ inside. inside 0 ls >>= λ inner. Ok (negate at inner.0, inner.1)) (λ inside. inside 0 (ls ++ more) >>= λ inner. Ok (negate at inner.0, inner.1)) (λ c is. map_stands pair end more (negate at) (inside c is 0 ls))

    plus_stands : (at : ℕ) (ls : List Lexeme) → Same (plus_at end opens at ls) (plus_at last wider at (ls ++ more))
    unfolding plus_at
    plus_stands at ls = opens_by pair end last more b at (λ inside. inside 0 ls >>= λ inner. Ok (paren at inner.0, inner.1)) (λ inside. inside 0 (ls ++ more) >>= λ inner. Ok (paren at inner.0, inner.1)) (λ c is. map_stands pair end more (paren at) (inside c is 0 ls))

    unary_kinds : (l : Lexeme) (k : LexemeKind) (ls : List Lexeme) → Same (unary_kind end opens l k ls) (unary_kind last wider l k (ls ++ more))
    unary_kinds l (kinds.Sign Minus) ls = minus_stands l.at ls
    unary_kinds l (kinds.Sign Plus) ls = plus_stands l.at ls
    unary_kinds l _ ls = power_stands l ls

    unary_stands : SameReaders (unary_at end opens) (unary_at last wider)
    unary_stands [] = Stands.wants _
    unary_stands (l ∷ ls) = unary_kinds l l.kind ls

    module _ (level : ℕ) (tighter : SameReaders (level_at end opens level) (level_at last wider level)) where
      side_steps : (op : BinaryOp) (a : Built) (ls : List Lexeme) → Stands turned end more (side_at end op (level_at end opens level) a ls) (side_at last op (level_at last wider level) a (ls ++ more))
      unfolding side_at
      side_steps op a ls =
          bind_stands pair turned end more (λ matching. level_at end opens level matching.1 >>= λ right. Ok (true, binary op matching.0 a right.0, right.1))
          (λ matching. level_at last wider level matching.1 >>= λ right. Ok (true, binary op matching.0 a right.0, right.1))
          (λ m. wanted_by turned end (λ right. Ok (true, binary op m a right.0, right.1)) (level_at end opens level []) (empty_level end opens level))
          (λ m l us. map_stands turned end more (λ right. (true, binary op m a right)) (tighter (l ∷ us))) (standing.matching op end last ls more)

      chain_steps : (a : Built) (o : Option BinaryOp) (l : Lexeme) (ls : List Lexeme)
          → Stands turned end more (chain_from end (level_at end opens level) a o (l ∷ ls)) (chain_from last (level_at last wider level) a o (l ∷ ls ++ more))
      chain_steps a None l ls = Stands.goes (false, a) l ls
      chain_steps a (Some op) l ls = side_steps op a ls

      chained : SameReaders (level_at end opens (suc level)) (level_at last wider (suc level))
      unfolding level_at
      chained ls =
          let steps : (a : Built) (l : Lexeme) (ls : List Lexeme) → Stands turned end more (chain_turn end (suc level) (level_at end opens level) a (l ∷ ls)) (chain_turn last (suc level) (level_at last wider level) a (l ∷ ls ++ more)) =
          λ a l ls. chain_steps a (op_of (suc level) l.kind) l ls in
          bind_stands pair pair end more (λ first. all_turns (chain_turn end (suc level) (level_at end opens level)) first.0 first.1)
          (λ first. all_turns (chain_turn last (suc level) (level_at last wider level)) first.0 first.1)
          (λ x. all_turns_ended (chain_turn end (suc level) (level_at end opens level)) (chain_turn last (suc level) (level_at last wider level)) end more (λ a. inl refl) steps (chain_shrinks sound known end b level) x)
          (λ x u us. all_turns_stand (chain_turn end (suc level) (level_at end opens level)) (chain_turn last (suc level) (level_at last wider level)) end more (λ a. inl refl) steps (chain_shrinks sound known end b level) x (u ∷ us))
          (tighter ls)

    levels_stand : (level : ℕ) → SameReaders (level_at end opens level) (level_at last wider level)
    unfolding level_at
    levels_stand zero ls = unary_stands ls
    levels_stand (suc level) ls = chained level (levels_stand level) ls

  abbrev suc_of : ℕ → ℕ
  suc_of zero = zero
  suc_of (suc c) = c

  all_levels : (b level : ℕ) → SameReaders (level_at end (within end b) level) (level_at last (within last b) level)
  all_levels zero level ls = levels_stand zero (λ c is. absurd (omega (arith, is))) level ls
  all_levels (suc b) level ls = levels_stand (suc b) (λ c is. subst (λ k. (level : ℕ) → SameReaders (level_at end (within end k) level) (level_at last (within last k) level)) (ap suc_of is) (all_levels b)) level ls

-- ---- the whole text
abbrev err_or : QueryRefusal → Result Expr QueryRefusal → QueryRefusal
err_or r (Ok e) = r
err_or r (Err s) = s

same_err : (r s : QueryRefusal) → ◌≡◌ {A = Result Expr QueryRefusal} (Err r) (Err s) → r ≡ s
same_err r s is = ap (err_or r) is

whole_stands : (end last : ℕ) (more : List Lexeme) (r s : Read Built) (refusal : QueryRefusal) → Stands (pair {X = Built}) end more r s → (r >>= finished end) ≡ Err refusal → IsFinal end refusal
    → (s >>= finished last) ≡ Err refusal
whole_stands end last more r s refusal (Stands.goes built.Deep l ls) is final = is
whole_stands end last more r s refusal (Stands.goes (built.Whole e d) l ls) is final = is
whole_stands end last more r s refusal (Stands.all built.Deep q) is final = absurd (final.1 (sym (same_err _ _ is)))
whole_stands end last more r s refusal (Stands.all (built.Whole e d) q) is final = no_ok refusal e (sym is)
whole_stands end last more r s refusal (Stands.stops found) is final = is
whole_stands end last more r s refusal (Stands.wants q) is final = absurd (final.0 (sym (same_err _ _ is)))

module _ (sound : Parts) (known : Known) (standing : Standing) where
  pub refusal_stands : RefusalStands
  unfolding reading
  refusal_stands end last ls more refusal refused final =
      whole_stands end last more (level_at end (within end 128) 5 ls) (level_at last (within last 128) 5 (ls ++ more)) refusal (all_levels sound known standing end last more 128 5 ls) refused final

  pub no_query_begins_so : NoQueryBeginsSo
  no_query_begins_so end ls more refusal refused final e depth is =
      let stands = refusal_stands end end ls more refusal refused final in
      ⊎_elim (λ deep. final.1 (same_err _ _ (sym stands ∙ deep_is_refused sound known end (ls ++ more) e depth is deep)))
      (λ shallow. no_ok refusal e (sym stands ∙ in_grammar_is_read sound known end (ls ++ more) e depth is shallow)) (cases_lt 128 depth)
