-- What is in the grammar is read.
use Rattle.std.proofs.Common.{◌≡◌, ◌<◌, ℕ, zero, suc, ◌+◌, ◌-◌, max, refl, ap, ◌∙◌, sym, subst, ⊎_elim, Bool, true, false, cond, List, [], ◌∷◌, ◌++◌, append_assoc, drop, length, length-append, arith}
use Rattle.std.proofs.lemmas.Bool.{cond-true, cond-false}
use Rattle.std.specs.Prelude.{◌&&◌, ◌||◌, Option, Some, None, is_some, Result, Ok}
use Rattle.func_table.specs.Names.{found_of}
use Rattle.func_table.specs.declared.table.Aggregate.{Aggregate}
use Rattle.func_table.specs.declared.table.Found.TheVariants as looked
use Rattle.func_table.specs.declared.table.Func.{Func}
use Rattle.label_set.specs.declared.rules.Grouping.{Grouping}
use Rattle.label_set.specs.declared.rules.Rule.{Rule}
use Rattle.promql_ast.specs.declared.refusal.QueryRefusal.{QueryRefusal}
use Rattle.promql_ast.specs.declared.tree.Expr.{Expr}
use Rattle.promql_ast.specs.declared.tree.Fixed.{Fixed}
use Rattle.promql_ast.specs.declared.tree.Node.TheVariants.{Number, Words, Paren, Negate, Call, Aggregate as Aggregated}
use Rattle.promql_parse.specs.Build.{add, aggregate, binary, bracketed, call, is_plain, leaf, may_fix, may_offset, moment_of, negate, no_arguments, node_of, operand_built, other, paren, plain, selected, tree, with_offset, with_time}
use Rattle.promql_parse.specs.Grammar.{ArgumentList, Body, Operand, Phrase, Primary, Term, another, a_range, a_selector, a_subquery, takes_modifiers, term_tree}
use Rattle.promql_parse.specs.Reading.{Opens, aggregate_at, arguments_at, arguments_turn, begins_grouping, body_at, braced_at, bracket_turn, call_arguments, call_at, chain_from, chain_turn, duration_at, exponent_at, function_found, grouped, grouped_before, grouped_behind, is_refused_aggregation, level_at, metric_at, minus_at, named_at, offset_turn, operand_at, paren_at, plus_at, postfix_kind, postfix_turn, power_at, power_behind, power_kind, primary_kind, raised_at, refused_at_name, seconds_of, side_at, time_turn, unary_at, unary_kind, within}
use Rattle.promql_parse.specs.declared.build.Arguments.{Arguments}
use Rattle.promql_parse.specs.declared.build.Built.{Built}
use Rattle.promql_parse.specs.declared.build.Operand.{Operand as Made}
use Rattle.promql_parse.specs.declared.build.Part.TheVariants as parts
use Rattle.promql_parts.specs.Labels.{grouping_at, grouping_begun, grouping_behind, grouping_word, item_behind, no_grouping, optional_grouping}
use Rattle.promql_parts.specs.Laws.{BracedIsRead, BracketsAreRead, GroupedIsRead, IsBraced, IsBrackets, ModifierIsRead, OffsetIsRead, TimeIsRead}
use Rattle.promql_parts.specs.Operators.{matching_at, op_at, op_of}
use Rattle.promql_parts.specs.Productions.{BinModifier, begins_labels, Grouped, IsSelector, IsSign, IsWord, Matchers, OffsetBehind, RangeBrackets, Selected, StepBrackets, TimeBehind, metric_name}
use Rattle.promql_parts.specs.Reads.{Read, Turn, ◌>>=◌, after, all_turns, begins}
use Rattle.promql_parts.specs.Selectors.{named_rules}
use Rattle.promql_parts.specs.Signs.{is_sign}
use Rattle.promql_parts.specs.Spans.{brackets_at, minute, offset_at, when_at}
use Rattle.promql_parts.specs.Steps.{after_read, bind_ok, chosen, close_read, comma_read, item_found, no_some, same_ok, same_some, true_false}
use Rattle.promql_parts.specs.Turns.{all_end, all_on}
use Rattle.promql_parts.specs.declared.lexeme.Lexeme.{Lexeme}
use Rattle.promql_parts.specs.declared.lexeme.LexemeKind.{LexemeKind}
use Rattle.promql_parts.specs.declared.lexeme.LexemeKind.TheVariants as kinds
use Rattle.promql_parts.specs.declared.lexeme.Sign.TheVariants.{LeftParen, RightParen, LeftBrace, LeftBracket, Comma, AtSign, Plus, Minus, Caret}
use Rattle.promql_lex.specs.declared.word.Word.TheVariants.{On, Ignoring, GroupLeft, GroupRight, Bool as Flag, Offset, Atan2, Over}
use Rattle.promql_parts.specs.declared.operator.BinaryOp.{BinaryOp}
use Rattle.promql_parts.specs.declared.operator.BinaryOp.TheVariants.{Arith}
use Rattle.promql_parts.specs.declared.operator.Matching.{Matching}
use Rattle.promql_parts.specs.declared.selector.Matcher.{Matcher}
use Rattle.promql_parts.specs.declared.span.Brackets.{Brackets}
use Rattle.promql_parts.specs.declared.span.Brackets.TheVariants as brackets
use Rattle.ticks.specs.declared.moment.Ms.{Ms}
use Rattle.xfrac.specs.declared.value.ArithOp.TheVariants.{Pow}
use Rattle.xfrac.specs.declared.value.XFrac.{XFrac}
use Rattle.promql_parse.proofs.Begins.{Begins, begins_arguments, begins_phrase, braces_open, matchers_begin}
use Rattle.promql_parse.proofs.Cuts.{cut, cut_add, cut_aggregate, cut_arguments, cut_binary, cut_call, cut_negate, cut_paren}
use Rattle.promql_parse.proofs.Found.{Parts, found}
use Rattle.promql_parse.proofs.Operands.{IsSized, built_so, operand_of, placed, sized}
use Rattle.promql_parse.proofs.Quiet.{Apart, Calm, Quiet, calm_close, calm_comma, calm_op}

-- what is known of the productions of parts
pub record Known : Type 0 where
  pub grouped : GroupedIsRead
  pub braced : BracedIsRead
  pub brackets : BracketsAreRead
  pub offset : OffsetIsRead
  pub time : TimeIsRead
  pub modifier : ModifierIsRead

module _ (sound : Parts) (known : Known) (end b : ℕ) where
  abbrev opens : Opens
  opens = within end b

  -- ---- what stands behind an operand
  abbrev pub behind : Made → List Lexeme → Read Built
  behind o ls = all_turns (postfix_turn end) o ls >>= λ base. power_behind end opens (operand_built base.0) base.1

  shorter : (front ls rest : List Lexeme) → ls ≡ front ++ rest → length rest < suc (length ls)
  shorter front ls rest split = let sizes : length ls ≡ length front + length rest = ap length split ∙ length-append front rest in omega (arith, sizes)

  less_by : (front ls mid rest : List Lexeme) → ls ≡ front ++ mid → mid ≡ rest → length rest < suc (length ls)
  less_by front ls mid rest split same = shorter front ls rest (split ∙ ap (λ x. front ++ x) same)

  postfix_less : (o : Made) (l : Lexeme) (k : LexemeKind) → l.kind ≡ k → (ls : List Lexeme) (next : Made) (rest : List Lexeme) → postfix_kind end o k (l ∷ ls) ≡ Ok (true, next, rest) → length rest < suc (length ls)
  unfolding bracket_turn offset_turn time_turn
  postfix_less o l (kinds.Sign LeftBracket) is ls next rest got =
      let r = bind_ok (brackets_at (is_plain o) end ls) _ _ got in
      let f = sound.brackets end (is_plain o) l is ls r.0.0 r.0.1 r.1 in less_by f.front ls r.0.1 rest f.split (ap (λ x. x.2) (same_ok _ _ r.2))
  postfix_less o l (kinds.Word Offset spelling) is ls next rest got =
      ⊎_elim
      (λ p. let r = bind_ok (offset_at end ls) _ _ p.1 in let f = sound.offsets end ls r.0.0 r.0.1 r.1 in less_by f.front ls r.0.1 rest f.split (ap (λ x. x.2) (same_ok _ _ r.2)))
      (λ p. true_false (sym (ap (λ x. x.0) (same_ok _ _ p.1)))) (chosen (may_offset o) _ _ _ got)
  postfix_less o l (kinds.Sign AtSign) is ls next rest got =
      ⊎_elim
      (λ p. let r = bind_ok (when_at end ls) _ _ p.1 in let f = sound.times end l is ls r.0.0 r.0.1 r.1 in less_by f.front ls r.0.1 rest f.split (ap (λ x. x.2) (same_ok _ _ r.2)))
      (λ p. true_false (sym (ap (λ x. x.0) (same_ok _ _ p.1)))) (chosen (may_fix o) _ _ _ got)
  postfix_less o l _ is ls next rest got = true_false (sym (ap (λ x. x.0) (same_ok _ _ got)))

  pub postfix_shrinks : (o : Made) (ls : List Lexeme) (next : Made) (rest : List Lexeme) → postfix_turn end o ls ≡ Ok (true, next, rest) → length rest < length ls
  postfix_shrinks o [] next rest got = true_false (sym (ap (λ x. x.0) (same_ok _ _ got)))
  postfix_shrinks o (l ∷ ls) next rest got = postfix_less o l l.kind refl ls next rest got

  behind_on : (o next : Made) (ls rest : List Lexeme) → postfix_turn end o ls ≡ Ok (true, next, rest) → behind o ls ≡ behind next rest
  behind_on o next ls rest is = ap (λ (q : Read Made). q >>= λ base. power_behind end opens (operand_built base.0) base.1) (all_on (postfix_turn end) postfix_shrinks o ls next rest is)

  pub behind_end : (o : Made) (ls : List Lexeme) → postfix_turn end o ls ≡ Ok (false, o, ls) → behind o ls ≡ power_behind end opens (operand_built o) ls
  behind_end o ls is = ap (λ (q : Read Made). q >>= λ base. power_behind end opens (operand_built base.0) base.1) (all_end (postfix_turn end) postfix_shrinks o ls o ls is)

  bracket_goes : (o : Made) (begin : Lexeme) (xs : List Lexeme) (got : Brackets) (rest : List Lexeme) → IsSign LeftBracket begin → IsBrackets begin (is_plain o) xs got
      → behind o (begin ∷ xs ++ rest) ≡ behind (bracketed o got) rest
  unfolding bracket_turn
  bracket_goes o begin xs got rest opening is =
      behind_on o (bracketed o got) (begin ∷ xs ++ rest) rest
      (ap (λ k. postfix_kind end o k (begin ∷ xs ++ rest)) opening
      ∙ ap (λ (q : Read Brackets). q >>= λ brackets. Ok (true, bracketed o brackets.0, brackets.1)) (known.brackets end (is_plain o) begin xs got is rest))

  offset_goes : {us : List Lexeme} {time : Ms} → OffsetBehind us time → (o : Made) (rest : List Lexeme) → may_offset o ≡ true → behind o (us ++ rest) ≡ behind (with_offset o time) rest
  unfolding offset_turn
  offset_goes (OffsetBehind.offset {xs = xs} {time = time} word is signed) o rest may =
      behind_on o (with_offset o time) (word ∷ xs ++ rest) rest
      (ap (λ k. postfix_kind end o k (word ∷ xs ++ rest)) is.1 ∙ cond-true (may_offset o) _ _ may
      ∙ ap (λ (q : Read Ms). q >>= λ offset. Ok (true, with_offset o offset.0, offset.1)) (known.offset end xs time signed rest))

  time_at : (o : Made) (sign : Lexeme) (xs : List Lexeme) (time : Fixed) (rest : List Lexeme) → IsSign AtSign sign → TimeBehind (sign ∷ xs) time → may_fix o ≡ true
      → behind o (sign ∷ xs ++ rest) ≡ behind (with_time o time) rest
  unfolding time_turn
  time_at o sign xs time rest at is may =
      behind_on o (with_time o time) (sign ∷ xs ++ rest) rest
      (ap (λ k. postfix_kind end o k (sign ∷ xs ++ rest)) at ∙ cond-true (may_fix o) _ _ may
      ∙ ap (λ (q : Read Fixed). q >>= λ time. Ok (true, with_time o time.0, time.1)) (known.time end sign xs time is rest))

  time_goes : {us : List Lexeme} {time : Fixed} → TimeBehind us time → (o : Made) (rest : List Lexeme) → may_fix o ≡ true → behind o (us ++ rest) ≡ behind (with_time o time) rest
  time_goes (TimeBehind.time {xs = xs} sign at signed) o rest may = time_at o sign xs _ rest at (TimeBehind.time sign at signed) may
  time_goes (TimeBehind.start sign word begin close at is opening closes) o rest may =
      time_at o sign (word ∷ begin ∷ close ∷ []) _ rest at (TimeBehind.start sign word begin close at is opening closes) may
  time_goes (TimeBehind.end sign word begin close at is opening closes) o rest may =
      time_at o sign (word ∷ begin ∷ close ∷ []) _ rest at (TimeBehind.end sign word begin close at is opening closes) may

  range_goes : {us : List Lexeme} {length : Ms} → RangeBrackets us length → (at d : ℕ) (rules : List Rule) (rest : List Lexeme)
      → behind (operand_of at (a_selector rules) None None d) (us ++ rest) ≡ behind (operand_of at (a_range rules length) None None d) rest
  range_goes (RangeBrackets.range begin l close length opening is closes) at d rules rest =
      bracket_goes (operand_of at (a_selector rules) None None d) begin (l ∷ close ∷ []) (brackets.Range length) rest opening (refl, RangeBrackets.range begin l close length opening is closes)

  steps_go : {us : List Lexeme} {length step : Ms} → StepBrackets us length step → (o : Made) (rest : List Lexeme) → behind o (us ++ rest) ≡ behind (bracketed o (brackets.Steps length step)) rest
  steps_go (StepBrackets.without_step begin l colon close length opening is is_colon closes) o rest =
      bracket_goes o begin (l ∷ colon ∷ close ∷ []) (brackets.Steps length minute) rest opening (StepBrackets.without_step begin l colon close length opening is is_colon closes)
  steps_go (StepBrackets.with_step begin l colon s close length step opening is is_colon is_step closes) o rest =
      bracket_goes o begin (l ∷ colon ∷ s ∷ close ∷ []) (brackets.Steps length step) rest opening (StepBrackets.with_step begin l colon s close length step opening is is_colon is_step closes)

  -- what stands behind an operand is apart from it
  range_apart : {us : List Lexeme} {length : Ms} → RangeBrackets us length → (rest : List Lexeme) → Apart (us ++ rest)
  range_apart (RangeBrackets.range begin l close length opening is closes) rest = record { paren = ap (is_sign LeftParen) opening; brace = ap (is_sign LeftBrace) opening; group = ap grouping_word opening }

  steps_apart : {us : List Lexeme} {length step : Ms} → StepBrackets us length step → (rest : List Lexeme) → Apart (us ++ rest)
  steps_apart (StepBrackets.without_step begin l colon close length opening is is_colon closes) rest =
      record { paren = ap (is_sign LeftParen) opening; brace = ap (is_sign LeftBrace) opening; group = ap grouping_word opening }
  steps_apart (StepBrackets.with_step begin l colon s close length step opening is is_colon is_step closes) rest =
      record { paren = ap (is_sign LeftParen) opening; brace = ap (is_sign LeftBrace) opening; group = ap grouping_word opening }

  offset_apart : {us : List Lexeme} {time : Ms} → OffsetBehind us time → (rest : List Lexeme) → Apart (us ++ rest)
  offset_apart (OffsetBehind.offset word is signed) rest = record { paren = ap (is_sign LeftParen) is.1; brace = ap (is_sign LeftBrace) is.1; group = ap grouping_word is.1 }

  time_apart : {us : List Lexeme} {time : Fixed} → TimeBehind us time → (rest : List Lexeme) → Apart (us ++ rest)
  time_apart (TimeBehind.time sign at signed) rest = record { paren = ap (is_sign LeftParen) at; brace = ap (is_sign LeftBrace) at; group = ap grouping_word at }
  time_apart (TimeBehind.start sign word begin close at is opening closes) rest = record { paren = ap (is_sign LeftParen) at; brace = ap (is_sign LeftBrace) at; group = ap grouping_word at }
  time_apart (TimeBehind.end sign word begin close at is opening closes) rest = record { paren = ap (is_sign LeftParen) at; brace = ap (is_sign LeftBrace) at; group = ap grouping_word at }

  -- ---- what begins an operand
  begun : (l : Lexeme) (ls : List Lexeme) (k : LexemeKind) → l.kind ≡ k → unary_kind end opens l k ls ≡ power_at end opens l ls → (o : Made) (rest : List Lexeme)
      → primary_kind end opens l k ls ≡ Ok (o, rest) → unary_at end opens (l ∷ ls) ≡ behind o rest
  unfolding power_at operand_at
  begun l ls k is power o rest got =
      ap (λ x. unary_kind end opens l x ls) is ∙ power
      ∙ ap (λ (q : Read Made). (q >>= λ first. all_turns (postfix_turn end) first.0 first.1) >>= λ base. power_behind end opens (operand_built base.0) base.1)
      (ap (λ x. primary_kind end opens l x ls) is ∙ got)

  -- a metric's name
  metric_begun : (l : Lexeme) (k : LexemeKind) → l.kind ≡ k → (name : List ℕ) → metric_name k ≡ Some name → (ls : List Lexeme) → begins LeftParen ls ≡ false → grouping_begun ls ≡ None
      → (o : Made) (rest : List Lexeme) → metric_at end l.at name ls ≡ Ok (o, rest) → unary_at end opens (l ∷ ls) ≡ behind o rest
  unfolding named_at
  metric_begun l (kinds.Name spelling) is name named ls paren group o rest got =
      begun l ls (kinds.Name spelling) is refl o rest
      (cond-false (begins LeftParen ls) _ _ paren ∙ ap (λ g. cond (is_some g && is_refused_aggregation spelling) (refused_at_name end opens l.at spelling) (metric_at end l.at spelling ls)) group
      ∙ ap (λ n. metric_at end l.at n ls) (same_some _ _ named) ∙ got)
  metric_begun l (kinds.Word (Over f) spelling) is name named ls paren group o rest got =
      begun l ls (kinds.Word (Over f) spelling) is refl o rest
      (ap (λ p. cond (p || begins_grouping ls) (aggregate_at end opens l.at f ls) (metric_at end l.at spelling ls)) paren
      ∙ ap (λ g. cond (is_some g) (aggregate_at end opens l.at f ls) (metric_at end l.at spelling ls)) group
      ∙ ap (λ n. metric_at end l.at n ls) (same_some _ _ named) ∙ got)
  metric_begun l (kinds.Word Flag spelling) is name named ls paren group o rest got = no_some _ named
  metric_begun l (kinds.Word On spelling) is name named ls paren group o rest got = no_some _ named
  metric_begun l (kinds.Word Ignoring spelling) is name named ls paren group o rest got = no_some _ named
  metric_begun l (kinds.Word GroupLeft spelling) is name named ls paren group o rest got = no_some _ named
  metric_begun l (kinds.Word GroupRight spelling) is name named ls paren group o rest got = no_some _ named
  metric_begun l (kinds.Word Atan2 spelling) is name named ls paren group o rest got = no_some _ named
  metric_begun l (kinds.Word word spelling) is name named ls paren group o rest got =
      begun l ls (kinds.Word word spelling) is refl o rest (ap (λ n. metric_at end l.at n ls) (same_some _ _ named) ∙ got)
  metric_begun l _ is name named ls paren group o rest got = no_some _ named

  metric_alone : (at : ℕ) (name : List ℕ) (ls : List Lexeme) → begins LeftBrace ls ≡ false → metric_at end at name ls ≡ Ok (selected at (named_rules (Some name)), ls)
  unfolding metric_at
  metric_alone at name ls none = cond-false (begins LeftBrace ls) _ _ none

  braced_read : (at : ℕ) (name : Option (List ℕ)) (begin : Lexeme) (xs : List Lexeme) (rules : List Rule) → IsBraced begin name xs rules → (rest : List Lexeme)
      → braced_at end at name (xs ++ rest) ≡ Ok (selected at rules, rest)
  unfolding braced_at
  braced_read at name begin xs rules is rest = ap (λ (q : Read (List Rule)). q >>= λ rules. Ok (selected at rules.0, rules.1)) (known.braced end name begin xs rules is rest)

  metric_braced : (at : ℕ) (name : List ℕ) (begin : Lexeme) (xs : List Lexeme) (rules : List Rule) → IsSign LeftBrace begin → IsBraced begin (Some name) xs rules → (rest : List Lexeme)
      → metric_at end at name (begin ∷ xs ++ rest) ≡ Ok (selected at rules, rest)
  unfolding metric_at
  metric_braced at name begin xs rules opening is rest = cond-true (is_sign LeftBrace begin.kind) _ _ (ap (is_sign LeftBrace) opening) ∙ braced_read at (Some name) begin xs rules is rest

  abbrev OperandReads : Term → Option Ms → Option Fixed → List Lexeme → ℕ → ℕ → Type 0
  OperandReads term offset fixed xs at d = (rest : List Lexeme) → Apart rest → unary_at end opens (xs ++ rest) ≡ behind (operand_of at term offset fixed d) rest

  named_braces_read : (l : Lexeme) (name : List ℕ) (xs : List Lexeme) (matchers : List Matcher) (rules : List Rule) → metric_name l.kind ≡ Some name → Matchers xs matchers
      → IsSelector (Some name) matchers rules → OperandReads (a_selector rules) None None (l ∷ xs) l.at 1
  named_braces_read l name xs matchers rules named is selector rest apart =
      let o = matchers_begin is in
      ap (λ z. unary_at end opens (l ∷ z ++ rest)) o.split
      ∙ metric_begun l l.kind refl name named (o.begin ∷ o.behind ++ rest) (ap (is_sign LeftParen) o.opening) (ap grouping_word o.opening) (selected l.at rules) rest
      (metric_braced l.at name o.begin o.behind rules o.opening (matchers, subst (λ z. Matchers z matchers) o.split is, selector) rest)

  selected_read : {xs : List Lexeme} {at : ℕ} {rules : List Rule} → Selected xs at rules → OperandReads (a_selector rules) None None xs at 1
  selected_read (Selected.named l name named) rest apart =
      metric_begun l l.kind refl name named rest apart.paren apart.group (selected l.at (named_rules (Some name))) rest (metric_alone l.at name rest apart.brace)
  selected_read (Selected.named_braces {xs = xs} {matchers = matchers} {rules = rules} l name named is selector) rest apart = named_braces_read l name xs matchers rules named is selector rest apart
  selected_read (Selected.braces {xs = xs} {matchers = matchers} {rules = rules} l is selector) rest apart =
      begun l (xs ++ rest) (kinds.Sign LeftBrace) (braces_open l xs matchers is) refl (selected l.at rules) rest (braced_read l.at None l xs rules (matchers, is, selector) rest)

module _ (sound : Parts) (known : Known) (end : ℕ) where
  abbrev after_operand : ℕ → Made → List Lexeme → Read Built
  after_operand b = behind sound known end b

  abbrev reader : ℕ → List Lexeme → Read Built
  reader b = level_at end (within end b) 5

  abbrev chain : ℕ → ℕ → Turn Built
  chain b level = chain_turn end (suc level) (level_at end (within end b) level)

  abbrev Reads : ℕ → ℕ → List Lexeme → Expr → ℕ → Type 0
  Reads b zero xs e d = (rest : List Lexeme) → Quiet end rest → level_at end (within end b) 0 (xs ++ rest) ≡ Ok (cut e d, rest)
  Reads b (suc level) xs e d = (rest : List Lexeme) → Calm end level rest → level_at end (within end b) (suc level) (xs ++ rest) ≡ all_turns (chain b level) (cut e d) rest

  -- ---- chains
  some_op : (level : ℕ) (ls : List Lexeme) (op : BinaryOp) → op_at (suc level) ls ≡ Some op → suc (length (drop 1 ls)) ≡ length ls
  some_op level [] op is = no_some _ is
  some_op level (l ∷ ls) op is = refl

  chain_less : (b level : ℕ) (a : Built) (ls : List Lexeme) (o : Option BinaryOp) → op_at (suc level) ls ≡ o → (next : Built) (rest : List Lexeme)
      → chain_from end (level_at end (within end b) level) a o ls ≡ Ok (true, next, rest) → length rest < length ls
  unfolding side_at
  chain_less b level a ls None is next rest got = true_false (sym (ap (λ x. x.0) (same_ok _ _ got)))
  chain_less b level a ls (Some op) is next rest got =
      let k = bind_ok (matching_at op end (drop 1 ls)) _ _ got in
      let r = bind_ok (level_at end (within end b) level k.0.1) _ _ k.2 in
      let between = sound.matchings op end (drop 1 ls) k.0.0 k.0.1 k.1 in
      let p = found sound end b level k.0.1 r.0.0 r.0.1 r.1 in
      let sizes : length (drop 1 ls) ≡ length between.found.front + length k.0.1 = ap length between.found.split ∙ length-append between.found.front k.0.1 in
      let others : length k.0.1 ≡ length p.front + length r.0.1 = ap length p.split ∙ length-append p.front r.0.1 in
      let ends : length r.0.1 ≡ length rest = ap length (ap (λ x. x.2) (same_ok _ _ r.2)) in
      let less = some_op level ls op is in
      omega (arith, sizes, others, ends, less)

  pub chain_shrinks : (b level : ℕ) (a : Built) (ls : List Lexeme) (next : Built) (rest : List Lexeme) → chain b level a ls ≡ Ok (true, next, rest) → length rest < length ls
  chain_shrinks b level a ls next rest got = chain_less b level a ls (op_at (suc level) ls) refl next rest got

  chain_ends : (b level : ℕ) (a : Built) (rest : List Lexeme) → op_at (suc level) rest ≡ None → all_turns (chain b level) a rest ≡ Ok (a, rest)
  chain_ends b level a rest none = all_end (chain b level) (chain_shrinks b level) a rest a rest (ap (λ o. chain_from end (level_at end (within end b) level) a o rest) none)

  pub whole : (b level : ℕ) (xs : List Lexeme) (e : Expr) (d : ℕ) → Reads b level xs e d → (rest : List Lexeme) → Calm end level rest
      → level_at end (within end b) level (xs ++ rest) ≡ Ok (cut e d, rest)
  whole b zero xs e d reads rest calm = reads rest calm
  whole b (suc level) xs e d reads rest calm = reads rest calm.0 ∙ chain_ends b level (cut e d) rest calm.1

  -- what stands between an operator and its right side
  pub modifier_read : (op : BinaryOp) (ys zs : List Lexeme) (matching : Matching) (bare : Bool) → BinModifier op ys matching bare → Begins zs → begins_labels bare zs ≡ false → (rest : List Lexeme)
      → matching_at op end (ys ++ (zs ++ rest)) ≡ Ok (matching, zs ++ rest)
  modifier_read op ys zs matching bare is begins_so apart rest =
      let same : zs ++ rest ≡ begins_so.first ∷ begins_so.behind ++ rest = ap (λ z. z ++ rest) begins_so.split in
      ap (λ z. matching_at op end (ys ++ z)) same
      ∙ known.modifier op end ys matching bare is begins_so.first (begins_so.behind ++ rest) begins_so.plain (ap (begins_labels bare) (sym begins_so.split) ∙ apart)
      ∙ ap (λ z. Ok (matching, z)) (sym same)

  side_read : (b level : ℕ) (op : BinaryOp) (a : Built) (ys zs : List Lexeme) (matching : Matching) (bare : Bool) (r : Expr) (n : ℕ) → BinModifier op ys matching bare → Begins zs → begins_labels bare zs ≡ false
      → (rest : List Lexeme) → level_at end (within end b) level (zs ++ rest) ≡ Ok (cut r n, rest)
      → side_at end op (level_at end (within end b) level) a (ys ++ (zs ++ rest)) ≡ Ok (true, binary op matching a (cut r n), rest)
  unfolding side_at
  side_read b level op a ys zs matching bare r n is begins_so apart rest right =
      ap (λ (q : Read Matching). q >>= λ matching. level_at end (within end b) level matching.1 >>= λ right. Ok (true, binary op matching.0 a right.0, right.1)) (modifier_read op ys zs matching bare is begins_so apart rest)
      ∙ ap (λ (q : Read Built). q >>= λ right. Ok (true, binary op matching a right.0, right.1)) right

  chain_goes : (b level : ℕ) (a : Built) (sign : Lexeme) (op : BinaryOp) (us : List Lexeme) (next : Built) (rest : List Lexeme) → op_of (suc level) sign.kind ≡ Some op
      → side_at end op (level_at end (within end b) level) a us ≡ Ok (true, next, rest) → all_turns (chain b level) a (sign ∷ us) ≡ all_turns (chain b level) next rest
  chain_goes b level a sign op us next rest is side =
      all_on (chain b level) (chain_shrinks b level) a (sign ∷ us) next rest (ap (λ o. chain_from end (level_at end (within end b) level) a o (sign ∷ us)) is ∙ side)

  -- ---- arguments
  abbrev arg_turn : ℕ → Turn Arguments
  arg_turn b = arguments_turn end (reader b)

  pub arg_shrinks : (b : ℕ) (a : Arguments) (ls : List Lexeme) (next : Arguments) (rest : List Lexeme) → arg_turn b a ls ≡ Ok (true, next, rest) → length rest < length ls
  unfolding arguments_turn
  arg_shrinks b a ls next rest got =
      let r = bind_ok (reader b ls) _ _ got in
      let i = bind_ok (item_behind end RightParen r.0.1) _ _ r.2 in
      let p = found sound end b 5 ls r.0.0 r.0.1 r.1 in
      let ends = same_ok _ _ i.2 in
      let sizes : length ls ≡ length p.front + length r.0.1 = ap length p.split ∙ length-append p.front r.0.1 in
      let last : length i.0.1 ≡ length rest = ap length (ap (λ x. x.2) ends) in
      ⊎_elim (λ q. let less : length r.0.1 ≡ suc (length i.0.1) = ap length q.1.1 in omega (arith, sizes, less, last))
      (λ q. true_false (sym (ap (λ x. x.0) ends) ∙ q.0)) (item_found end RightParen r.0.1 i.0.0 i.0.1 i.1)

  arg_read : (b : ℕ) (es : List Expr) (m : ℕ) (ls : List Lexeme) (e : Expr) (d : ℕ) (mid : List Lexeme) (again : Bool) (rest : List Lexeme) → reader b ls ≡ Ok (cut e d, mid)
      → item_behind end RightParen mid ≡ Ok (again, rest) → arg_turn b (cut_arguments es m) ls ≡ Ok (again, cut_arguments (es ++ e ∷ []) (max m d), rest)
  unfolding arguments_turn
  arg_read b es m ls e d mid again rest arg item =
      ap (λ (q : Read Built). q >>= λ argument. item_behind end RightParen argument.1 >>= λ next. Ok (next.0, add (cut_arguments es m) argument.0, next.1)) arg
      ∙ ap (λ (q : Read Bool). q >>= λ next. Ok (next.0, add (cut_arguments es m) (cut e d), next.1)) item ∙ ap (λ (z : Arguments). Ok (again, z, rest)) (cut_add es e m d)

  record ArgumentsRead (b : ℕ) (xs : List Lexeme) (es : List Expr) (d : ℕ) : Type 0 where
    pub goes : (c : Lexeme) (us : List Lexeme) → IsSign Comma c → all_turns (arg_turn b) no_arguments (xs ++ c ∷ us) ≡ all_turns (arg_turn b) (cut_arguments es d) us
    pub stops : (u : Lexeme) (us : List Lexeme) → IsSign RightParen u → all_turns (arg_turn b) no_arguments (xs ++ u ∷ us) ≡ Ok (cut_arguments es d, u ∷ us)

  one_comma : (b : ℕ) (es : List Expr) (m : ℕ) (ys : List Lexeme) (e : Expr) (d : ℕ) → Reads b 5 ys e d → (c : Lexeme) (us : List Lexeme) → IsSign Comma c
      → all_turns (arg_turn b) (cut_arguments es m) (ys ++ c ∷ us) ≡ all_turns (arg_turn b) (cut_arguments (es ++ e ∷ []) (max m d)) us
  one_comma b es m ys e d reads c us is =
      all_on (arg_turn b) (arg_shrinks b) (cut_arguments es m) (ys ++ c ∷ us) (cut_arguments (es ++ e ∷ []) (max m d)) us
      (arg_read b es m (ys ++ c ∷ us) e d (c ∷ us) true us (whole b 5 ys e d reads (c ∷ us) (calm_comma end 5 c us is)) (comma_read end RightParen c us is))

  one_close : (b : ℕ) (es : List Expr) (m : ℕ) (ys : List Lexeme) (e : Expr) (d : ℕ) → Reads b 5 ys e d → (u : Lexeme) (us : List Lexeme) → IsSign RightParen u
      → all_turns (arg_turn b) (cut_arguments es m) (ys ++ u ∷ us) ≡ Ok (cut_arguments (es ++ e ∷ []) (max m d), u ∷ us)
  one_close b es m ys e d reads u us is =
      all_end (arg_turn b) (arg_shrinks b) (cut_arguments es m) (ys ++ u ∷ us) (cut_arguments (es ++ e ∷ []) (max m d)) (u ∷ us)
      (arg_read b es m (ys ++ u ∷ us) e d (u ∷ us) false (u ∷ us) (whole b 5 ys e d reads (u ∷ us) (calm_close end 5 u us is)) (close_read end RightParen u us refl is))

  single_read : (b : ℕ) (ys : List Lexeme) (e : Expr) (d : ℕ) → Reads b 5 ys e d → ArgumentsRead b ys (e ∷ []) d
  single_read b ys e d reads =
      let same : max 0 d ≡ d = omega arith in
      record {
        goes = λ c us is. one_comma b [] 0 ys e d reads c us is ∙ ap (λ n. all_turns (arg_turn b) (cut_arguments (e ∷ []) n) us) same;
        stops = λ u us is. one_close b [] 0 ys e d reads u us is ∙ ap (λ n. Ok (cut_arguments (e ∷ []) n, u ∷ us)) same;
      }

  longer_read : (b : ℕ) (us xs ys : List Lexeme) (es : List Expr) (e : Expr) (m n : ℕ) (c : Lexeme) → ArgumentsRead b xs es m → IsSign Comma c → Reads b 5 ys e n → us ≡ xs ++ c ∷ ys
      → ArgumentsRead b us (es ++ e ∷ []) (max m n)
  longer_read b us xs ys es e m n c before comma reads split = record {
    goes = λ d tail is. ap (λ z. all_turns (arg_turn b) no_arguments (z ++ d ∷ tail)) split ∙ ap (all_turns (arg_turn b) no_arguments) (append_assoc xs (c ∷ ys) (d ∷ tail))
        ∙ before.goes c (ys ++ d ∷ tail) comma ∙ one_comma b es m ys e n reads d tail is;
    stops = λ u tail is. ap (λ z. all_turns (arg_turn b) no_arguments (z ++ u ∷ tail)) split ∙ ap (all_turns (arg_turn b) no_arguments) (append_assoc xs (c ∷ ys) (u ∷ tail))
        ∙ before.goes c (ys ++ u ∷ tail) comma ∙ one_close b es m ys e n reads u tail is;
  }

  record BodyReads (b : ℕ) (us : List Lexeme) (es : List Expr) (d : ℕ) : Type 0 where
    pub begin : Lexeme
    pub inner : List Lexeme
    pub split : us ≡ begin ∷ inner
    pub opening : IsSign LeftParen begin
    pub no_close : (rest : List Lexeme) → begins RightParen (inner ++ rest) ≡ false
    pub reads : (rest : List Lexeme) → arguments_at end (reader b) (inner ++ rest) ≡ Ok (cut_arguments es d, rest)

  body_read : (b : ℕ) (us xs : List Lexeme) (es : List Expr) (d : ℕ) (begin close : Lexeme) → IsSign LeftParen begin → Begins xs → ArgumentsRead b xs es d → IsSign RightParen close → us ≡ begin ∷ xs ++ close ∷ []
      → BodyReads b us es d
  unfolding arguments_at
  body_read b us xs es d begin close opening first list closes split = record {
    begin = begin;
    inner = xs ++ close ∷ [];
    split = split;
    opening = opening;
    no_close = λ rest. ap (λ z. begins RightParen ((z ++ close ∷ []) ++ rest)) first.split ∙ first.no_close;
    reads = λ rest. ap (arguments_at end (reader b)) (append_assoc xs (close ∷ []) rest)
        ∙ ap (λ (q : Read Arguments). q >>= λ arguments. after end RightParen arguments.1 >>= λ rest. Ok (arguments.0, rest)) (list.stops close rest closes)
        ∙ ap (λ (q : Result (List Lexeme) QueryRefusal). q >>= λ rest. Ok (cut_arguments es d, rest)) (after_read end RightParen close rest closes);
  }

  body_at_read : (b : ℕ) (us : List Lexeme) (es : List Expr) (d : ℕ) → BodyReads b us es d → (rest : List Lexeme) → body_at end (reader b) (us ++ rest) ≡ Ok (cut_arguments es d, rest)
  unfolding body_at
  body_at_read b us es d body rest =
      ap (λ z. body_at end (reader b) (z ++ rest)) body.split ∙ ap (λ (q : Result (List Lexeme) QueryRefusal). q >>= arguments_at end (reader b)) (after_read end LeftParen body.begin (body.inner ++ rest) body.opening)
      ∙ body.reads rest

  body_begins : (b : ℕ) (us : List Lexeme) (es : List Expr) (d : ℕ) → BodyReads b us es d → (rest : List Lexeme) → begins LeftParen (us ++ rest) ≡ true
  body_begins b us es d body rest = ap (λ z. begins LeftParen (z ++ rest)) body.split ∙ ap (is_sign LeftParen) body.opening

  body_no_group : (b : ℕ) (us : List Lexeme) (es : List Expr) (d : ℕ) → BodyReads b us es d → (rest : List Lexeme) → grouping_begun (us ++ rest) ≡ None
  body_no_group b us es d body rest = ap (λ z. grouping_begun (z ++ rest)) body.split ∙ ap grouping_word body.opening

  -- ---- calls and aggregations
  abbrev PrimaryReads : ℕ → List Lexeme → Expr → ℕ → Type 0
  PrimaryReads b xs e d = (rest : List Lexeme) → Apart rest → unary_at end (within end b) (xs ++ rest) ≡ after_operand b (other e.at (cut e d)) rest

  abbrev start : (b : ℕ) (l : Lexeme) (ls : List Lexeme) (k : LexemeKind) → l.kind ≡ k → unary_kind end (within end b) l k ls ≡ power_at end (within end b) l ls → (o : Made) (rest : List Lexeme)
      → primary_kind end (within end b) l k ls ≡ Ok (o, rest) → unary_at end (within end b) (l ∷ ls) ≡ after_operand b o rest
  start b = begun sound known end b

  arguments_called : (b : ℕ) (ls : List Lexeme) (found : Arguments) (rest : List Lexeme) → begins RightParen ls ≡ false → arguments_at end (reader b) ls ≡ Ok (found, rest)
      → call_arguments end (reader b) ls ≡ Ok (found, rest)
  arguments_called b ls found rest none got = cond-false (begins RightParen ls) _ _ none ∙ got

  none_called : (b : ℕ) (close : Lexeme) (rest : List Lexeme) → IsSign RightParen close → call_arguments end (reader b) (close ∷ rest) ≡ Ok (no_arguments, rest)
  none_called b close rest closes = cond-true (is_sign RightParen close.kind) _ _ (ap (is_sign RightParen) closes)

  call_read : (b at : ℕ) (name : List ℕ) (f : Func) (ls : List Lexeme) (found : Arguments) (rest : List Lexeme) → found_of name ≡ looked.Known f → call_arguments end (reader b) ls ≡ Ok (found, rest)
      → call_at end (within end (suc b)) at name ls ≡ Ok (other at (call at f found), rest)
  unfolding call_at within
  call_read b at name f ls found rest is got =
      ap (λ k. function_found at name k >>= λ f. call_arguments end (reader b) ls >>= λ arguments. Ok (other at (call at f arguments.0), arguments.1)) is
      ∙ ap (λ (q : Read Arguments). q >>= λ arguments. Ok (other at (call at f arguments.0), arguments.1)) got

  named_call : (b at : ℕ) (name : List ℕ) (begin : Lexeme) (ls : List Lexeme) (o : Made) (rest : List Lexeme) → IsSign LeftParen begin → call_at end (within end b) at name ls ≡ Ok (o, rest)
      → named_at end (within end b) at name (begin ∷ ls) ≡ Ok (o, rest)
  unfolding named_at
  named_call b at name begin ls o rest opening got = cond-true (is_sign LeftParen begin.kind) _ _ (ap (is_sign LeftParen) opening) ∙ got

  called : (b : ℕ) (l : Lexeme) (name : List ℕ) (f : Func) (xs : List Lexeme) (es : List Expr) (d : ℕ) → l.kind ≡ kinds.Name name → found_of name ≡ looked.Known f → BodyReads b xs es d
      → PrimaryReads (suc b) (l ∷ xs) (tree l.at (Call f es)) (d + 1)
  called b l name f xs es d is is_known body rest apart =
      ap (λ z. unary_at end (within end (suc b)) (l ∷ z ++ rest)) body.split
      ∙ start (suc b) l (body.begin ∷ body.inner ++ rest) (kinds.Name name) is refl (other l.at (call l.at f (cut_arguments es d))) rest
      (named_call (suc b) l.at name body.begin (body.inner ++ rest) _ rest body.opening
      (call_read b l.at name f (body.inner ++ rest) (cut_arguments es d) rest is_known (arguments_called b (body.inner ++ rest) (cut_arguments es d) rest (body.no_close rest) (body.reads rest))))
      ∙ ap (λ z. after_operand (suc b) (other l.at z) rest) (cut_call f es d l.at)

  called_with_none : (b : ℕ) (l begin close : Lexeme) (name : List ℕ) (f : Func) → l.kind ≡ kinds.Name name → found_of name ≡ looked.Known f → IsSign LeftParen begin → IsSign RightParen close
      → PrimaryReads (suc b) (l ∷ begin ∷ close ∷ []) (tree l.at (Call f [])) 1
  called_with_none b l begin close name f is is_known opening closes rest apart =
      start (suc b) l (begin ∷ close ∷ rest) (kinds.Name name) is refl (other l.at (call l.at f no_arguments)) rest
      (named_call (suc b) l.at name begin (close ∷ rest) _ rest opening (call_read b l.at name f (close ∷ rest) no_arguments rest is_known (none_called b close rest closes)))

  -- an aggregation, from behind its word
  aggregation_read : (b : ℕ) (l : Lexeme) (f : Aggregate) (ls : List Lexeme) (o : Option Bool) (built : Built) (rest : List Lexeme) → IsWord (Over f) l
      → (begins LeftParen ls || begins_grouping ls) ≡ true → grouping_begun ls ≡ o → grouped end (reader b) l.at f o ls ≡ Ok (built, rest)
      → unary_at end (within end (suc b)) (l ∷ ls) ≡ after_operand (suc b) (other l.at built) rest
  unfolding aggregate_at within
  aggregation_read b l f ls o built rest word begins_so is got =
      start (suc b) l ls (kinds.Word (Over f) word.0) word.1 refl (other l.at built) rest
      (cond-true (begins LeftParen ls || begins_grouping ls) _ _ begins_so
      ∙ ap (λ g. grouped end (reader b) l.at f g ls >>= λ built. Ok (other l.at built.0, built.1)) is
      ∙ ap (λ (q : Read Built). q >>= λ built. Ok (other l.at built.0, built.1)) got)

  or_left : (x y : Bool) → x ≡ true → (x || y) ≡ true
  or_left true y is = refl
  or_left false y is = true_false (sym is)

  or_right : (x y : Bool) → y ≡ true → (x || y) ≡ true
  or_right true y is = refl
  or_right false y is = is

  behind_read : (b at : ℕ) (f : Aggregate) (ls : List Lexeme) (es : List Expr) (d : ℕ) (mid : List Lexeme) (g : Grouping) (rest : List Lexeme) → body_at end (reader b) ls ≡ Ok (cut_arguments es d, mid)
      → grouping_behind end mid ≡ Ok (g, rest) → grouped_behind end (reader b) at f ls ≡ Ok (cut (tree at (Aggregated f g es)) (d + 1), rest)
  unfolding grouped_behind
  behind_read b at f ls es d mid g rest body group =
      ap (λ (q : Read Arguments). q >>= λ arguments. grouping_behind end arguments.1 >>= λ grouping. Ok (aggregate at f grouping.0 arguments.0, grouping.1)) body
      ∙ ap (λ (q : Read Grouping). q >>= λ grouping. Ok (aggregate at f grouping.0 (cut_arguments es d), grouping.1)) group ∙ ap (λ z. Ok (z, rest)) (cut_aggregate f g es d at)

  aggregated : (b : ℕ) (l : Lexeme) (f : Aggregate) (xs : List Lexeme) (es : List Expr) (d : ℕ) → IsWord (Over f) l → BodyReads b xs es d
      → PrimaryReads (suc b) (l ∷ xs) (tree l.at (Aggregated f no_grouping es)) (d + 1)
  aggregated b l f xs es d word body rest apart =
      aggregation_read b l f (xs ++ rest) None _ rest word (or_left _ _ (body_begins b xs es d body rest)) (body_no_group b xs es d body rest)
      (behind_read b l.at f (xs ++ rest) es d rest no_grouping rest (body_at_read b xs es d body rest) (ap (λ o. optional_grouping o end rest) apart.group))

  aggregated_behind : (b : ℕ) (l : Lexeme) (f : Aggregate) (us xs ys : List Lexeme) (es : List Expr) (d : ℕ) (g : Grouping) → IsWord (Over f) l → BodyReads b xs es d → Grouped ys g → us ≡ l ∷ xs ++ ys
      → PrimaryReads (suc b) us (tree l.at (Aggregated f g es)) (d + 1)
  aggregated_behind b l f us xs ys es d g word body is split rest apart =
      let group = known.grouped end ys g is rest in
      ap (λ z. unary_at end (within end (suc b)) (z ++ rest)) split ∙ ap (λ z. unary_at end (within end (suc b)) (l ∷ z)) (append_assoc xs ys rest)
      ∙ aggregation_read b l f (xs ++ (ys ++ rest)) None _ rest word (or_left _ _ (body_begins b xs es d body (ys ++ rest))) (body_no_group b xs es d body (ys ++ rest))
      (behind_read b l.at f (xs ++ (ys ++ rest)) es d (ys ++ rest) g rest (body_at_read b xs es d body (ys ++ rest)) (ap (λ o. optional_grouping o end (ys ++ rest)) group.1 ∙ group.2))

  before_read : (b at : ℕ) (f : Aggregate) (without : Bool) (ls : List Lexeme) (es : List Expr) (d : ℕ) (mid : List Lexeme) (g : Grouping) (rest : List Lexeme) → grouping_at without end ls ≡ Ok (g, mid)
      → body_at end (reader b) mid ≡ Ok (cut_arguments es d, rest) → grouped_before end (reader b) at f without ls ≡ Ok (cut (tree at (Aggregated f g es)) (d + 1), rest)
  unfolding grouped_before
  before_read b at f without ls es d mid g rest group body =
      ap (λ (q : Read Grouping). q >>= λ grouping. body_at end (reader b) grouping.1 >>= λ arguments. Ok (aggregate at f grouping.0 arguments.0, arguments.1)) group
      ∙ ap (λ (q : Read Arguments). q >>= λ arguments. Ok (aggregate at f g arguments.0, arguments.1)) body ∙ ap (λ z. Ok (z, rest)) (cut_aggregate f g es d at)

  aggregated_before : (b : ℕ) (l : Lexeme) (f : Aggregate) (us xs ys : List Lexeme) (es : List Expr) (d : ℕ) (g : Grouping) → IsWord (Over f) l → Grouped xs g → BodyReads b ys es d → us ≡ l ∷ xs ++ ys
      → PrimaryReads (suc b) us (tree l.at (Aggregated f g es)) (d + 1)
  aggregated_before b l f us xs ys es d g word is body split rest apart =
      let group = known.grouped end xs g is (ys ++ rest) in
      ap (λ z. unary_at end (within end (suc b)) (z ++ rest)) split ∙ ap (λ z. unary_at end (within end (suc b)) (l ∷ z)) (append_assoc xs ys rest)
      ∙ aggregation_read b l f (xs ++ (ys ++ rest)) (Some group.0) _ rest word (or_right _ _ (ap is_some group.1)) group.1
      (before_read b l.at f group.0 (xs ++ (ys ++ rest)) es d (ys ++ rest) g rest group.2 (body_at_read b ys es d body rest))

  paren_read : (b at : ℕ) (xs : List Lexeme) (e : Expr) (d : ℕ) (close : Lexeme) (rest : List Lexeme) → Reads b 5 xs e d → IsSign RightParen close
      → paren_at end (within end (suc b)) at (xs ++ close ∷ rest) ≡ Ok (other at (paren at (cut e d)), rest)
  unfolding paren_at within
  paren_read b at xs e d close rest reads closes =
      ap (λ (q : Read Built). q >>= λ inner. after end RightParen inner.1 >>= λ rest. Ok (other at (paren at inner.0), rest)) (whole b 5 xs e d reads (close ∷ rest) (calm_close end 5 close rest closes))
      ∙ ap (λ (q : Result (List Lexeme) QueryRefusal). q >>= λ rest. Ok (other at (paren at (cut e d)), rest)) (after_read end RightParen close rest closes)

  parenthesized : (b : ℕ) (begin close : Lexeme) (us xs : List Lexeme) (e : Expr) (d : ℕ) → IsSign LeftParen begin → Reads b 5 xs e d → IsSign RightParen close → us ≡ begin ∷ xs ++ close ∷ []
      → PrimaryReads (suc b) us (tree begin.at (Paren e)) (d + 1)
  parenthesized b begin close us xs e d opening reads closes split rest apart =
      ap (λ z. unary_at end (within end (suc b)) (z ++ rest)) split ∙ ap (λ z. unary_at end (within end (suc b)) (begin ∷ z)) (append_assoc xs (close ∷ []) rest)
      ∙ start (suc b) begin (xs ++ close ∷ rest) (kinds.Sign LeftParen) opening refl (other begin.at (paren begin.at (cut e d))) rest (paren_read b begin.at xs e d close rest reads closes)
      ∙ ap (λ z. after_operand (suc b) (other begin.at z) rest) (cut_paren e d begin.at)

  duration_read : (at : ℕ) (duration : Ms) (value : XFrac) (rest : List Lexeme) → seconds_of at duration ≡ Ok value → duration_at end at duration rest ≡ Ok (other at (leaf at (Number value)), rest)
  unfolding duration_at
  duration_read at duration value rest is = ap (λ (q : Result XFrac QueryRefusal). q >>= λ value. Ok (other at (leaf at (Number value)), rest)) is

  -- ---- signs, powers and levels
  abbrev OperandIs : ℕ → Term → Option Ms → Option Fixed → List Lexeme → ℕ → ℕ → Type 0
  OperandIs b term offset fixed xs at d = (rest : List Lexeme) → Apart rest → unary_at end (within end b) (xs ++ rest) ≡ after_operand b (operand_of at term offset fixed d) rest

  -- one more part behind an operand
  part_read : (b : ℕ) (term : Term) (offset : Option Ms) (fixed : Option Fixed) (us xs ys : List Lexeme) (at d : ℕ) (o : Made) → OperandIs b term offset fixed xs at d → us ≡ xs ++ ys → (rest : List Lexeme)
      → Apart (ys ++ rest) → after_operand b (operand_of at term offset fixed d) (ys ++ rest) ≡ after_operand b o rest → unary_at end (within end b) (us ++ rest) ≡ after_operand b o rest
  part_read b term offset fixed us xs ys at d o reads split rest apart goes =
      ap (λ z. unary_at end (within end b) (z ++ rest)) split ∙ ap (unary_at end (within end b)) (append_assoc xs ys rest) ∙ reads (ys ++ rest) apart ∙ goes

  may_offset_so : (term : Term) (fixed : Option Fixed) (at d : ℕ) → takes_modifiers term ≡ true → may_offset (operand_of at term None fixed d) ≡ true
  may_offset_so (a_selector rules) fixed at d is = refl
  may_offset_so (a_range rules length) fixed at d is = refl
  may_offset_so (a_subquery e length step) fixed at d is = refl
  may_offset_so (another e) fixed at d is = true_false (sym is)

  may_fix_so : (term : Term) (offset : Option Ms) (at d : ℕ) → takes_modifiers term ≡ true → may_fix (operand_of at term offset None d) ≡ true
  may_fix_so (a_selector rules) offset at d is = refl
  may_fix_so (a_range rules length) offset at d is = refl
  may_fix_so (a_subquery e length step) offset at d is = refl
  may_fix_so (another e) offset at d is = true_false (sym is)

  stepped_so : (at : ℕ) (term : Term) (offset : Option Ms) (fixed : Option Fixed) (d : ℕ) (length step : Ms) → IsSized term d
      → bracketed (operand_of at term offset fixed d) (brackets.Steps length step) ≡ operand_of at (a_subquery (term_tree at term (moment_of offset fixed)) length step) None None (d + 1)
  stepped_so at term offset fixed d length step is =
      let same : d ≡ d + 1 - 1 = omega arith in
      ap (λ x. plain at (parts.Subquery x length step)) (built_so at term offset fixed d is ∙ ap (cut (term_tree at term (moment_of offset fixed))) same)

  operand_alone : (b : ℕ) (term : Term) (offset : Option Ms) (fixed : Option Fixed) (xs : List Lexeme) (at d : ℕ) → Operand b term offset fixed xs at d → OperandIs b term offset fixed xs at d
      → Reads b 0 xs (term_tree at term (moment_of offset fixed)) d
  unfolding level_at
  operand_alone b term offset fixed xs at d operand reads rest quiet =
      reads rest quiet.apart ∙ behind_end sound known end b (operand_of at term offset fixed d) rest (quiet.postfix (operand_of at term offset fixed d))
      ∙ ap (λ x. power_behind end (within end b) x rest) (built_so at term offset fixed d (sized operand)) ∙ quiet.power (within end b) (cut (term_tree at term (moment_of offset fixed)) d)

  exponent_read : (b at : ℕ) (base : Built) (ys zs : List Lexeme) (matching : Matching) (bare : Bool) (r : Expr) (n : ℕ) → BinModifier (Arith Pow) ys matching bare → Begins zs → begins_labels bare zs ≡ false
      → (rest : List Lexeme) → level_at end (within end b) 0 (zs ++ rest) ≡ Ok (cut r n, rest)
      → exponent_at end (within end (suc b)) at base (ys ++ (zs ++ rest)) ≡ Ok (binary (Arith Pow) matching base (cut r n), rest)
  unfolding exponent_at raised_at within
  exponent_read b at base ys zs matching bare r n is begins_so apart rest right =
      ap (λ (q : Read Matching). q >>= λ matching. level_at end (within end b) 0 matching.1 >>= λ right. Ok (binary (Arith Pow) matching.0 base right.0, right.1))
      (modifier_read (Arith Pow) ys zs matching bare is begins_so apart rest)
      ∙ ap (λ (q : Read Built). q >>= λ right. Ok (binary (Arith Pow) matching base right.0, right.1)) right

  -- before `^`
  pub caret_quiet : (o : Made) (caret : Lexeme) (ls : List Lexeme) → IsSign Caret caret → postfix_turn end o (caret ∷ ls) ≡ Ok (false, o, caret ∷ ls)
  caret_quiet o caret ls is = ap (λ k. postfix_kind end o k (caret ∷ ls)) is

  powered : (b : ℕ) (term : Term) (offset : Option Ms) (fixed : Option Fixed) (us xs ys zs : List Lexeme) (at m n : ℕ) (r : Expr) (matching : Matching) (bare : Bool) (caret : Lexeme)
      → Operand (suc b) term offset fixed xs at m → OperandIs (suc b) term offset fixed xs at m → IsSign Caret caret → BinModifier (Arith Pow) ys matching bare → Begins zs → Reads b 0 zs r n
      → begins_labels bare zs ≡ false → us ≡ xs ++ caret ∷ (ys ++ zs)
      → Reads (suc b) 0 us (tree at (node_of (Arith Pow) matching (term_tree at term (moment_of offset fixed)) r)) (max m n + 1)
  unfolding level_at
  powered b term offset fixed us xs ys zs at m n r matching bare caret operand reads is between begins_so right apart split rest quiet =
      let base : Expr = term_tree at term (moment_of offset fixed) in
      let o : Made = operand_of at term offset fixed m in
      let behind_caret : List Lexeme = ys ++ (zs ++ rest) in
      ap (λ z. unary_at end (within end (suc b)) (z ++ rest)) split ∙ ap (unary_at end (within end (suc b))) (append_assoc xs (caret ∷ ys ++ zs) rest ∙ ap (λ z. xs ++ caret ∷ z) (append_assoc ys zs rest))
      ∙ reads (caret ∷ behind_caret) (record { paren = ap (is_sign LeftParen) is; brace = ap (is_sign LeftBrace) is; group = ap grouping_word is })
      ∙ behind_end sound known end (suc b) o (caret ∷ behind_caret) (caret_quiet o caret behind_caret is)
      ∙ ap (λ x. power_behind end (within end (suc b)) x (caret ∷ behind_caret)) (built_so at term offset fixed m (sized operand))
      ∙ ap (λ k. power_kind end (within end (suc b)) caret (cut base m) k behind_caret) is
      ∙ exponent_read b caret.at (cut base m) ys zs matching bare r n between begins_so apart rest (right rest quiet)
      ∙ ap (λ x. Ok (x, rest)) (cut_binary (Arith Pow) matching base r m n)
      ∙ ap (λ k. Ok (cut (tree k (node_of (Arith Pow) matching base r)) (max m n + 1), rest)) (placed operand (moment_of offset fixed))

  negated : (b : ℕ) (sign : Lexeme) (xs : List Lexeme) (e : Expr) (d : ℕ) → IsSign Minus sign → Reads b 0 xs e d → Reads (suc b) 0 (sign ∷ xs) (tree sign.at (Negate e)) (d + 1)
  unfolding level_at minus_at within
  negated b sign xs e d is reads rest quiet =
      ap (λ k. unary_kind end (within end (suc b)) sign k (xs ++ rest)) is ∙ ap (λ (q : Read Built). q >>= λ inner. Ok (negate sign.at inner.0, inner.1)) (reads rest quiet) ∙ ap (λ x. Ok (x, rest)) (cut_negate e d sign.at)

  signed_plus : (b : ℕ) (sign : Lexeme) (xs : List Lexeme) (e : Expr) (d : ℕ) → IsSign Plus sign → Reads b 0 xs e d → Reads (suc b) 0 (sign ∷ xs) (tree sign.at (Paren e)) (d + 1)
  unfolding level_at plus_at within
  signed_plus b sign xs e d is reads rest quiet =
      ap (λ k. unary_kind end (within end (suc b)) sign k (xs ++ rest)) is ∙ ap (λ (q : Read Built). q >>= λ inner. Ok (paren sign.at inner.0, inner.1)) (reads rest quiet) ∙ ap (λ x. Ok (x, rest)) (cut_paren e d sign.at)

  tighter_read : (b level : ℕ) (xs : List Lexeme) (e : Expr) (d : ℕ) → Reads b level xs e d → Reads b (suc level) xs e d
  unfolding level_at
  tighter_read b level xs e d reads rest calm = ap (λ (q : Read Built). q >>= λ first. all_turns (chain b level) first.0 first.1) (whole b level xs e d reads rest calm)

  binary_read : (b level : ℕ) (sign : Lexeme) (op : BinaryOp) (us xs ys zs : List Lexeme) (l r : Expr) (m n : ℕ) (matching : Matching) (bare : Bool) → Reads b (suc level) xs l m
      → op_of (suc level) sign.kind ≡ Some op → BinModifier op ys matching bare → Begins zs → Reads b level zs r n → begins_labels bare zs ≡ false → us ≡ xs ++ sign ∷ (ys ++ zs)
      → Reads b (suc level) us (tree l.at (node_of op matching l r)) (max m n + 1)
  binary_read b level sign op us xs ys zs l r m n matching bare left is between begins_so right apart split rest calm =
      ap (λ z. level_at end (within end b) (suc level) (z ++ rest)) split
      ∙ ap (level_at end (within end b) (suc level)) (append_assoc xs (sign ∷ ys ++ zs) rest ∙ ap (λ z. xs ++ sign ∷ z) (append_assoc ys zs rest))
      ∙ left (sign ∷ ys ++ (zs ++ rest)) (calm_op end level sign (ys ++ (zs ++ rest)) op is)
      ∙ chain_goes b level (cut l m) sign op (ys ++ (zs ++ rest)) (binary op matching (cut l m) (cut r n)) rest is
      (side_read b level op (cut l m) ys zs matching bare r n between begins_so apart rest (whole b level zs r n right rest calm))
      ∙ ap (λ x. all_turns (chain b level) x rest) (cut_binary op matching l r m n)

  mutual
    primary_reads : {b d : ℕ} {xs : List Lexeme} {e : Expr} → Primary b xs e d → PrimaryReads b xs e d
    primary_reads (Primary.number {b = b} l value is) = λ rest apart. start b l rest (kinds.Number value) is refl (other l.at (leaf l.at (Number value))) rest refl
    primary_reads (Primary.duration {b = b} l duration value is so) =
        λ rest apart. start b l rest (kinds.Duration duration) is refl (other l.at (leaf l.at (Number value))) rest (duration_read l.at duration value rest so)
    primary_reads (Primary.words {b = b} l text is) = λ rest apart. start b l rest (kinds.Quoted text) is refl (other l.at (leaf l.at (Words text))) rest refl
    primary_reads (Primary.paren {b = b} {d = d} {us = us} {xs = xs} {e = e} begin close opening p closes split) = parenthesized b begin close us xs e d opening (phrase_reads p) closes split
    primary_reads (Primary.call {b = b} {d = d} {xs = xs} {es = es} l name f is is_known body) = called b l name f xs es d is is_known (body_reads body)
    primary_reads (Primary.call_of_none {b = b} l begin close name f is is_known opening closes) = called_with_none b l begin close name f is is_known opening closes
    primary_reads (Primary.aggregate {b = b} {d = d} {xs = xs} {es = es} l f word body) = aggregated b l f xs es d word (body_reads body)
    primary_reads (Primary.grouped_before {b = b} {d = d} {us = us} {xs = xs} {ys = ys} {es = es} {grouping = grouping} l f word is body split) =
        aggregated_before b l f us xs ys es d grouping word is (body_reads body) split
    primary_reads (Primary.grouped_behind {b = b} {d = d} {us = us} {xs = xs} {ys = ys} {es = es} {grouping = grouping} l f word body is split) =
        aggregated_behind b l f us xs ys es d grouping word (body_reads body) is split

    body_reads : {b d : ℕ} {us : List Lexeme} {es : List Expr} → Body b us es d → BodyReads b us es d
    body_reads (Body.body {b = b} {d = d} {us = us} {xs = xs} {es = es} begin close opening list closes split) =
        body_read b us xs es d begin close opening (begins_arguments list) (arguments_read list) closes split

    arguments_read : {b d : ℕ} {xs : List Lexeme} {es : List Expr} → ArgumentList b xs es d → ArgumentsRead b xs es d
    arguments_read (ArgumentList.one {b = b} {d = d} {xs = xs} {e = e} p) = single_read b xs e d (phrase_reads p)
    arguments_read (ArgumentList.more {b = b} {m = m} {n = n} {us = us} {xs = xs} {ys = ys} {es = es} {e = e} c list comma p split) =
        longer_read b us xs ys es e m n c (arguments_read list) comma (phrase_reads p) split

    pub operand_reads : {b at d : ℕ} {term : Term} {offset : Option Ms} {fixed : Option Fixed} {xs : List Lexeme} → Operand b term offset fixed xs at d → OperandIs b term offset fixed xs at d
    operand_reads (Operand.selector {b = b} is) = selected_read sound known end b is
    operand_reads (Operand.primary {b = b} is) = primary_reads is
    operand_reads (Operand.range {b = b} {at = at} {d = d} {us = us} {xs = xs} {ys = ys} {rules = rules} {length = length} p range split) =
        λ rest apart. part_read b (a_selector rules) None None us xs ys at d (operand_of at (a_range rules length) None None d) (operand_reads p) split rest (range_apart sound known end b range rest)
        (range_goes sound known end b range at d rules rest)
    operand_reads (Operand.subquery {b = b} {at = at} {d = d} {term = term} {offset = offset} {fixed = fixed} {us = us} {xs = xs} {ys = ys} {length = length} {step = step} p steps split) =
        λ rest apart. part_read b term offset fixed us xs ys at d (operand_of at (a_subquery (term_tree at term (moment_of offset fixed)) length step) None None (d + 1)) (operand_reads p) split rest
        (steps_apart sound known end b steps rest)
        (steps_go sound known end b steps (operand_of at term offset fixed d) rest ∙ ap (λ o. after_operand b o rest) (stepped_so at term offset fixed d length step (sized p)))
    operand_reads (Operand.offset {b = b} {at = at} {d = d} {term = term} {fixed = fixed} {us = us} {xs = xs} {ys = ys} {by = by} p takes behind split) =
        λ rest apart. part_read b term None fixed us xs ys at d (operand_of at term (Some by) fixed d) (operand_reads p) split rest (offset_apart sound known end b behind rest)
        (offset_goes sound known end b behind (operand_of at term None fixed d) rest (may_offset_so term fixed at d takes))
    operand_reads (Operand.time {b = b} {at = at} {d = d} {term = term} {offset = offset} {us = us} {xs = xs} {ys = ys} {fixed = fixed} p takes behind split) =
        λ rest apart. part_read b term offset None us xs ys at d (operand_of at term offset (Some fixed) d) (operand_reads p) split rest (time_apart sound known end b behind rest)
        (time_goes sound known end b behind (operand_of at term offset None d) rest (may_fix_so term offset at d takes))

    -- each phrase is read, whatever stands behind it that doesn't go on with it
    pub phrase_reads : {b level d : ℕ} {xs : List Lexeme} {e : Expr} → Phrase b level xs e d → Reads b level xs e d
    phrase_reads (Phrase.operand {b = b} {at = at} {d = d} {term = term} {offset = offset} {fixed = fixed} {xs = xs} p) = operand_alone b term offset fixed xs at d p (operand_reads p)
    phrase_reads (Phrase.power {b = b} {at = at} {m = m} {n = n} {term = term} {offset = offset} {fixed = fixed} {us = us} {xs = xs} {ys = ys} {zs = zs} {r = r} {matching = matching} {bare = bare} caret p is between q apart split) =
        powered b term offset fixed us xs ys zs at m n r matching bare caret p (operand_reads p) is between (begins_phrase q) (phrase_reads q) apart split
    phrase_reads (Phrase.minus {b = b} {d = d} {xs = xs} {e = e} sign is p) = negated b sign xs e d is (phrase_reads p)
    phrase_reads (Phrase.plus {b = b} {d = d} {xs = xs} {e = e} sign is p) = signed_plus b sign xs e d is (phrase_reads p)
    phrase_reads (Phrase.tighter {b = b} {level = level} {d = d} {xs = xs} {e = e} p) = tighter_read b level xs e d (phrase_reads p)
    phrase_reads (Phrase.binary {b = b} {level = level} {m = m} {n = n} {us = us} {xs = xs} {ys = ys} {zs = zs} {op = op} {l = l} {r = r} {matching = matching} {bare = bare} sign p is between q apart split) =
        binary_read b level sign op us xs ys zs l r m n matching bare (phrase_reads p) is between (begins_phrase q) (phrase_reads q) apart split
