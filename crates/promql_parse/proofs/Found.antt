-- What is read is in the grammar.
use Rattle.std.proofs.Common.{◌≡◌, ℕ, zero, suc, ◌+◌, ◌-◌, max, refl, ap, ◌∙◌, sym, subst, ⊎_elim, Bool, true, false, cond, List, [], ◌∷◌, ◌++◌, append_assoc, drop, length, arith}
use Rattle.std.specs.Prelude.{◌&&◌, ◌||◌, Option, Some, None, Result, Ok}
use Rattle.func_table.specs.Names.{found_of}
use Rattle.func_table.specs.declared.table.Aggregate.{Aggregate}
use Rattle.func_table.specs.declared.table.Found.{Found as Looked}
use Rattle.func_table.specs.declared.table.Found.TheVariants as looked
use Rattle.func_table.specs.declared.table.Func.{Func}
use Rattle.label_set.specs.declared.rules.Grouping.{Grouping}
use Rattle.label_set.specs.declared.rules.Rule.{Rule}
use Rattle.promql_ast.specs.declared.refusal.QueryRefusal.{QueryRefusal}
use Rattle.promql_ast.specs.declared.tree.Expr.{Expr}
use Rattle.promql_ast.specs.declared.tree.Fixed.{Fixed}
use Rattle.promql_ast.specs.declared.tree.Node.TheVariants.{Number, Words, Paren, Negate, Call, Aggregate as Aggregated}
use Rattle.promql_parse.specs.Build.{aggregate, binary, bracketed, call, is_plain, leaf, may_fix, may_offset, moment_of, negate, node_of, operand_built, other, paren, plain, selected, tree}
use Rattle.promql_parse.specs.Grammar.{Body, Operand, Phrase, Primary, Term, another, a_range, a_selector, a_subquery, term_tree}
use Rattle.promql_parse.specs.Reading.{Levels, Opens, aggregate_at, begins_grouping, body_at, braced_at, bracket_turn, call_at, chain_from, chain_turn, duration_at, exponent_at, function_at, function_found, grouped, grouped_before, grouped_behind, is_refused_aggregation, level_at, metric_at, minus_at, named_at, offset_turn, operand_at, paren_at, plus_at, postfix_kind, postfix_turn, power_at, power_behind, power_kind, primary_at, primary_kind, raised_at, refused_at_name, seconds_of, side_at, time_turn, unary_at, unary_kind, within, word_at}
use Rattle.promql_parse.specs.declared.build.Built.{Built}
use Rattle.promql_parse.specs.declared.build.Operand.{Operand as Made}
use Rattle.promql_parse.specs.declared.build.Part.TheVariants as parts
use Rattle.promql_parts.specs.Labels.{grouping_at, grouping_begun, optional_grouping}
use Rattle.promql_parts.specs.Laws.{BracesAreMatchers, BracketsAreSpans, Found, GroupingsAreGrouped, IsBraced, IsBrackets, MatchingsAreModifiers, OffsetsAreSigned, TimesStandBehind}
use Rattle.promql_parts.specs.Operators.{matching_at, op_at, op_of}
use Rattle.promql_parts.specs.Productions.{begins_labels, IsSign, IsWord, OffsetBehind, RangeBrackets, Selected, StepBrackets, metric_name}
use Rattle.promql_parts.specs.Reads.{Read, ◌>>=◌, all_turns, begins, turns}
use Rattle.promql_parts.specs.Selectors.{braces_at, named_rules}
use Rattle.promql_parts.specs.Spans.{brackets_at, offset_at, when_at}
use Rattle.promql_parts.specs.Steps.{after_found, begins_found, bind_ok, chosen, no_ok, no_some, same_ok}
use Rattle.promql_parts.specs.declared.lexeme.Lexeme.{Lexeme}
use Rattle.promql_parts.specs.declared.lexeme.LexemeKind.{LexemeKind}
use Rattle.promql_parts.specs.declared.lexeme.LexemeKind.TheVariants as kinds
use Rattle.promql_parts.specs.declared.lexeme.Sign.TheVariants.{LeftParen, RightParen, LeftBrace, LeftBracket, AtSign, Plus, Minus, Caret}
use Rattle.promql_lex.specs.declared.word.Word.{Word}
use Rattle.promql_lex.specs.declared.word.Word.TheVariants.{On, Ignoring, GroupLeft, GroupRight, Bool as Flag, Offset, Atan2, Over}
use Rattle.promql_parts.specs.declared.operator.BinaryOp.{BinaryOp}
use Rattle.promql_parts.specs.declared.operator.BinaryOp.TheVariants.{Arith}
use Rattle.promql_parts.specs.declared.span.Brackets.{Brackets}
use Rattle.promql_parts.specs.declared.span.Brackets.TheVariants as brackets
use Rattle.ticks.specs.declared.moment.Ms.{Ms}
use Rattle.xfrac.specs.declared.value.ArithOp.TheVariants.{Pow}
use Rattle.promql_parse.proofs.ArgumentsFound.{Parsed, arguments_found, body_found}
use Rattle.promql_parse.proofs.Cuts.{cut, cut_aggregate, cut_binary, cut_call, cut_negate, cut_paren}
use Rattle.promql_parse.proofs.Operands.{IsPlain, built_so, offset_found, operand_of, placed, plain_found, sized, time_found}

-- what is known of the readers of parts
pub record Parts : Type 0 where
  pub groupings : GroupingsAreGrouped
  pub braces : BracesAreMatchers
  pub brackets : BracketsAreSpans
  pub offsets : OffsetsAreSigned
  pub times : TimesStandBehind
  pub matchings : MatchingsAreModifiers

pub record OperandFound (b : ℕ) (ls : List Lexeme) (made : Made) (rest : List Lexeme) : Type 0 where
  pub front : List Lexeme
  pub term : Term
  pub offset : Option Ms
  pub fixed : Option Fixed
  pub at : ℕ
  pub depth : ℕ
  pub split : ls ≡ front ++ rest
  pub operand : Operand b term offset fixed front at depth
  pub made_so : made ≡ operand_of at term offset fixed depth

pub record PrimaryFound (b at : ℕ) (ls : List Lexeme) (made : Built) (rest : List Lexeme) : Type 0 where
  pub front : List Lexeme
  pub e : Expr
  pub depth : ℕ
  pub split : ls ≡ front ++ rest
  pub primary : Primary b front e depth
  pub placed : e.at ≡ at
  pub made_so : made ≡ cut e depth

pub front_apart : (bare : Bool) (zs rest : List Lexeme) → begins_labels bare (zs ++ rest) ≡ false → begins_labels bare zs ≡ false
front_apart true [] rest is = refl
front_apart false [] rest is = refl
front_apart bare (u ∷ us) rest is = is

module _ (known : Parts) (end : ℕ) where
  -- what is read inside of what a lexeme opens
  abbrev pub Inside : ℕ → Type 0
  Inside b = (at : ℕ) (read : Levels) → within end b at ≡ Ok read
      → (c : ℕ) × (b ≡ suc c) × ((level : ℕ) (ls : List Lexeme) (made : Built) (rest : List Lexeme) → read level ls ≡ Ok (made, rest) → Parsed c level ls made rest)

  module _ (b : ℕ) (inside : Inside b) where
    abbrev pub opens : Opens
    opens = within end b

    -- ---- operands
    operand_moved : (ls us : List Lexeme) (made : Made) (rest : List Lexeme) → ls ≡ us → OperandFound b us made rest → OperandFound b ls made rest
    operand_moved ls us made rest same f = record {
      front = f.front;
      term = f.term;
      offset = f.offset;
      fixed = f.fixed;
      at = f.at;
      depth = f.depth;
      split = same ∙ f.split;
      operand = f.operand;
      made_so = f.made_so;
    }

    -- an operand that is read, where it ends
    operand_here : (front : List Lexeme) (term : Term) (offset : Option Ms) (fixed : Option Fixed) (at d : ℕ) (ls : List Lexeme) (made : Made) (rest : List Lexeme)
        → Operand b term offset fixed front at d → ◌≡◌ {A = Read Made} (Ok (operand_of at term offset fixed d, ls)) (Ok (made, rest)) → OperandFound b (front ++ ls) made rest
    operand_here front term offset fixed at d ls made rest operand ends = record {
      front = front;
      term = term;
      offset = offset;
      fixed = fixed;
      at = at;
      depth = d;
      split = ap (λ x. front ++ x) (ap (λ x. x.1) (same_ok _ _ ends));
      operand = operand;
      made_so = sym (ap (λ x. x.0) (same_ok _ _ ends));
    }

    from_primary : (ls : List Lexeme) (at : ℕ) (built : Built) (mid : List Lexeme) (made : Made) (rest : List Lexeme) (p : PrimaryFound b at ls built mid)
        → ◌≡◌ {A = Read Made} (Ok (other at built, mid)) (Ok (made, rest)) → OperandFound b ls made rest
    from_primary ls at built mid made rest p ends = record {
      front = p.front;
      term = another p.e;
      offset = None;
      fixed = None;
      at = p.e.at;
      depth = p.depth;
      split = p.split ∙ ap (λ x. p.front ++ x) (ap (λ x. x.1) (same_ok _ _ ends));
      operand = Operand.primary p.primary;
      made_so = sym (ap (λ x. x.0) (same_ok _ _ ends)) ∙ ap (λ k. other k built) (sym p.placed) ∙ ap (other p.e.at) p.made_so;
    }

    -- ---- selectors
    braced_found : (at : ℕ) (name : Option (List ℕ)) (begin : Lexeme) → IsSign LeftBrace begin → (ls : List Lexeme) (made : Made) (rest : List Lexeme) → braced_at end at name ls ≡ Ok (made, rest)
        → (rules : List Rule) × Found (IsBraced begin name) ls rules rest × (selected at rules ≡ made)
    unfolding braced_at
    braced_found at name begin sign ls made rest read =
        let r = bind_ok (braces_at end name ls) _ _ read in
        let ends = same_ok _ _ r.2 in
        let f = known.braces end name begin sign ls r.0.0 r.0.1 r.1 in
        (r.0.0, record { front = f.front; split = f.split ∙ ap (λ x. f.front ++ x) (ap (λ x. x.1) ends); is = f.is }, ap (λ x. x.0) ends)

    braces_found : (l : Lexeme) → IsSign LeftBrace l → (ls : List Lexeme) (made : Made) (rest : List Lexeme) → braced_at end l.at None ls ≡ Ok (made, rest) → OperandFound b (l ∷ ls) made rest
    braces_found l sign ls made rest read =
        let f = braced_found l.at None l sign ls made rest read in record {
          front = l ∷ f.1.front;
          term = a_selector f.0;
          offset = None;
          fixed = None;
          at = l.at;
          depth = 1;
          split = ap (λ x. l ∷ x) f.1.split;
          operand = Operand.selector (Selected.braces l f.1.is.1 f.1.is.2);
          made_so = sym f.2;
        }

    metric_found : (l : Lexeme) (name : List ℕ) → metric_name l.kind ≡ Some name → (ls : List Lexeme) (made : Made) (rest : List Lexeme) → metric_at end l.at name ls ≡ Ok (made, rest)
        → OperandFound b (l ∷ ls) made rest
    unfolding metric_at
    metric_found l name named ls made rest read =
        ⊎_elim
        (λ p.
        let u = begins_found LeftBrace ls p.0 in
        let f = braced_found l.at (Some name) u.0 u.2 (drop 1 ls) made rest p.1 in
        record {
          front = l ∷ u.0 ∷ f.1.front;
          term = a_selector f.0;
          offset = None;
          fixed = None;
          at = l.at;
          depth = 1;
          split = ap (λ x. l ∷ x) (u.1 ∙ ap (λ x. u.0 ∷ x) f.1.split);
          operand = Operand.selector (Selected.named_braces l name named f.1.is.1 f.1.is.2);
          made_so = sym f.2;
        })
        (λ p. operand_here (l ∷ []) (a_selector (named_rules (Some name))) None None l.at 1 ls made rest (Operand.selector (Selected.named l name named)) p.1)
        (chosen (begins LeftBrace ls) _ _ _ read)

    -- ---- calls and aggregations
    known_function : (at : ℕ) (name : List ℕ) (found : Looked) (f : Func) → function_found at name found ≡ Ok f → found ≡ looked.Known f
    known_function at name (looked.Known g) f read = ap looked.Known (same_ok _ _ read)
    known_function at name looked.Refused f read = no_ok _ _ read
    known_function at name looked.Unknown f read = no_ok _ _ read

    call_found : (l u : Lexeme) (name : List ℕ) → l.kind ≡ kinds.Name name → IsSign LeftParen u → (ls : List Lexeme) (made : Made) (rest : List Lexeme) → call_at end opens l.at name ls ≡ Ok (made, rest)
        → OperandFound b (l ∷ u ∷ ls) made rest
    unfolding call_at
    call_found l u name named sign ls made rest read =
        let o = bind_ok _ _ _ read in
        let g = bind_ok (function_at l.at name) _ _ o.2 in
        let a = bind_ok _ _ _ g.2 in
        let inner = inside l.at o.0 o.1 in
        let f : Func = g.0 in
        let function = known_function l.at name (found_of name) f g.1 in
        ⊎_elim
        (λ p.
        let close = begins_found RightParen ls p.0 in
        let none = same_ok _ _ p.1 in
        from_primary (l ∷ u ∷ ls) l.at (call l.at f a.0.0) a.0.1 made rest
        (record {
          front = l ∷ u ∷ close.0 ∷ [];
          e = tree l.at (Call f []);
          depth = 1;
          split = ap (λ x. l ∷ u ∷ x) (close.1 ∙ ap (λ x. close.0 ∷ x) (ap (λ x. x.1) none));
          primary = subst (λ k. Primary k (l ∷ u ∷ close.0 ∷ []) (tree l.at (Call f [])) 1) (sym inner.1) (Primary.call_of_none l u close.0 name f named function sign close.2);
          placed = refl;
          made_so = ap (call l.at f) (sym (ap (λ x. x.0) none));
        })
        a.2)
        (λ p.
        let all = arguments_found end inner.0 (o.0 5) (inner.2 5) u sign ls a.0.0 a.0.1 p.1 in
        from_primary (l ∷ u ∷ ls) l.at (call l.at f a.0.0) a.0.1 made rest
        (record {
          front = l ∷ u ∷ all.front;
          e = tree l.at (Call f all.es);
          depth = all.depth + 1;
          split = ap (λ x. l ∷ u ∷ x) all.split;
          primary = subst (λ k. Primary k (l ∷ u ∷ all.front) (tree l.at (Call f all.es)) (all.depth + 1)) (sym inner.1) (Primary.call l name f named function all.body);
          placed = refl;
          made_so = ap (call l.at f) all.made_so ∙ cut_call f all.es all.depth l.at;
        })
        a.2)
        (chosen (begins RightParen ls) _ _ _ a.1)

    module _ (l : Lexeme) (f : Aggregate) (word : IsWord (Over f) l) (c : ℕ) (deeper : b ≡ suc c) (read : List Lexeme → Read Built)
        (sound : (ls : List Lexeme) (made : Built) (rest : List Lexeme) → read ls ≡ Ok (made, rest) → Parsed c 5 ls made rest) where
      -- what stands behind the arguments
      behind_arguments : (xs : List Lexeme) (es : List Expr) (d : ℕ) → Body c xs es d → (ls : List Lexeme) (o : Option Bool) → grouping_begun ls ≡ o → (g : Grouping) (rest : List Lexeme)
          → optional_grouping o end ls ≡ Ok (g, rest) → PrimaryFound b l.at (l ∷ xs ++ ls) (cut (tree l.at (Aggregated f g es)) (d + 1)) rest
      behind_arguments xs es d body ls None begun g rest got =
          let ends = same_ok _ _ got in record {
            front = l ∷ xs;
            e = tree l.at (Aggregated f g es);
            depth = d + 1;
            split = ap (λ x. l ∷ xs ++ x) (ap (λ x. x.1) ends);
            primary =
                subst (λ k. Primary k (l ∷ xs) (tree l.at (Aggregated f g es)) (d + 1)) (sym deeper)
                (subst (λ h. Primary (suc c) (l ∷ xs) (tree l.at (Aggregated f h es)) (d + 1)) (ap (λ x. x.0) ends) (Primary.aggregate l f word body));
            placed = refl;
            made_so = refl;
          }
      behind_arguments xs es d body ls (Some without) begun g rest got =
          let grouped = known.groupings end without ls g rest begun got in record {
            front = l ∷ xs ++ grouped.front;
            e = tree l.at (Aggregated f g es);
            depth = d + 1;
            split = ap (λ x. l ∷ xs ++ x) grouped.split ∙ ap (λ x. l ∷ x) (sym (append_assoc xs grouped.front rest));
            primary = subst (λ k. Primary k (l ∷ xs ++ grouped.front) (tree l.at (Aggregated f g es)) (d + 1)) (sym deeper) (Primary.grouped_behind l f word body grouped.is refl);
            placed = refl;
            made_so = refl;
          }

      primary_ends : (ls us : List Lexeme) (built made : Built) (mid rest : List Lexeme) → ls ≡ us → PrimaryFound b l.at us built mid → made ≡ built → mid ≡ rest → PrimaryFound b l.at ls made rest
      primary_ends ls us built made mid rest same p is ends = record {
        front = p.front;
        e = p.e;
        depth = p.depth;
        split = same ∙ p.split ∙ ap (λ x. p.front ++ x) ends;
        primary = p.primary;
        placed = p.placed;
        made_so = is ∙ p.made_so;
      }

      behind_found : (ls : List Lexeme) (made : Built) (rest : List Lexeme) → grouped_behind end read l.at f ls ≡ Ok (made, rest) → PrimaryFound b l.at (l ∷ ls) made rest
      unfolding grouped_behind
      behind_found ls made rest got =
          let r = bind_ok (body_at end read ls) _ _ got in
          let g = bind_ok _ _ _ r.2 in
          let ends = same_ok _ _ g.2 in
          let p = body_found end c read sound ls r.0.0 r.0.1 r.1 in
          primary_ends (l ∷ ls) (l ∷ p.front ++ r.0.1) (cut (tree l.at (Aggregated f g.0.0 p.es)) (p.depth + 1)) made g.0.1 rest (ap (λ x. l ∷ x) p.split)
          (behind_arguments p.front p.es p.depth p.body r.0.1 (grouping_begun r.0.1) refl g.0.0 g.0.1 g.1)
          (sym (ap (λ x. x.0) ends) ∙ ap (aggregate l.at f g.0.0) p.made_so ∙ cut_aggregate f g.0.0 p.es p.depth l.at) (ap (λ x. x.1) ends)

      before_found : (ls : List Lexeme) (without : Bool) → grouping_begun ls ≡ Some without → (made : Built) (rest : List Lexeme) → grouped_before end read l.at f without ls ≡ Ok (made, rest)
          → PrimaryFound b l.at (l ∷ ls) made rest
      unfolding grouped_before
      before_found ls without begun made rest got =
          let g = bind_ok (grouping_at without end ls) _ _ got in
          let r = bind_ok (body_at end read g.0.1) _ _ g.2 in
          let ends = same_ok _ _ r.2 in
          let grouped = known.groupings end without ls g.0.0 g.0.1 begun g.1 in
          let p = body_found end c read sound g.0.1 r.0.0 r.0.1 r.1 in
          record {
            front = l ∷ grouped.front ++ p.front;
            e = tree l.at (Aggregated f g.0.0 p.es);
            depth = p.depth + 1;
            split =
                ap (λ x. l ∷ x) (grouped.split ∙ ap (λ x. grouped.front ++ x) (p.split ∙ ap (λ x. p.front ++ x) (ap (λ x. x.1) ends)) ∙ sym (append_assoc grouped.front p.front rest));
            primary =
                subst (λ k. Primary k (l ∷ grouped.front ++ p.front) (tree l.at (Aggregated f g.0.0 p.es)) (p.depth + 1)) (sym deeper)
                (Primary.grouped_before l f word grouped.is p.body refl);
            placed = refl;
            made_so = sym (ap (λ x. x.0) ends) ∙ ap (aggregate l.at f g.0.0) p.made_so ∙ cut_aggregate f g.0.0 p.es p.depth l.at;
          }

      grouped_found : (ls : List Lexeme) (o : Option Bool) → grouping_begun ls ≡ o → (made : Built) (rest : List Lexeme) → grouped end read l.at f o ls ≡ Ok (made, rest) → PrimaryFound b l.at (l ∷ ls) made rest
      grouped_found ls None begun made rest got = behind_found ls made rest got
      grouped_found ls (Some without) begun made rest got = before_found ls without begun made rest got

    aggregate_found : (l : Lexeme) (f : Aggregate) → IsWord (Over f) l → (ls : List Lexeme) (made : Made) (rest : List Lexeme) → aggregate_at end opens l.at f ls ≡ Ok (made, rest)
        → OperandFound b (l ∷ ls) made rest
    unfolding aggregate_at
    aggregate_found l f word ls made rest got =
        let o = bind_ok _ _ _ got in
        let r = bind_ok (grouped end (o.0 5) l.at f (grouping_begun ls) ls) _ _ o.2 in
        let inner = inside l.at o.0 o.1 in
        from_primary (l ∷ ls) l.at r.0.0 r.0.1 made rest (grouped_found l f word inner.0 inner.1 (o.0 5) (inner.2 5) ls (grouping_begun ls) refl r.0.0 r.0.1 r.1) r.2

    -- ---- what begins an operand
    named_found : (l : Lexeme) (name : List ℕ) → l.kind ≡ kinds.Name name → (ls : List Lexeme) (made : Made) (rest : List Lexeme) → named_at end opens l.at name ls ≡ Ok (made, rest)
        → OperandFound b (l ∷ ls) made rest
    unfolding named_at refused_at_name
    named_found l name is ls made rest got =
        ⊎_elim
        (λ p. let u = begins_found LeftParen ls p.0 in operand_moved (l ∷ ls) (l ∷ u.0 ∷ drop 1 ls) made rest (ap (λ x. l ∷ x) u.1) (call_found l u.0 name is u.2 (drop 1 ls) made rest p.1))
        (λ p. ⊎_elim (λ q. let o = bind_ok (opens l.at) _ _ q.1 in no_ok _ _ o.2) (λ q. metric_found l name (ap metric_name is) ls made rest q.1)
        (chosen (begins_grouping ls && is_refused_aggregation name) _ _ _ p.1))
        (chosen (begins LeftParen ls) _ _ _ got)

    word_found : (l : Lexeme) (word : Word) (spelling : List ℕ) → l.kind ≡ kinds.Word word spelling → (ls : List Lexeme) (made : Made) (rest : List Lexeme)
        → word_at end opens l.at word spelling ls ≡ Ok (made, rest) → OperandFound b (l ∷ ls) made rest
    word_found l (Over f) spelling is ls made rest got =
        ⊎_elim (λ p. aggregate_found l f (spelling, is) ls made rest p.1) (λ p. metric_found l spelling (ap metric_name is) ls made rest p.1)
        (chosen (begins LeftParen ls || begins_grouping ls) _ _ _ got)
    word_found l Flag spelling is ls made rest got = no_ok _ _ got
    word_found l On spelling is ls made rest got = no_ok _ _ got
    word_found l Ignoring spelling is ls made rest got = no_ok _ _ got
    word_found l GroupLeft spelling is ls made rest got = no_ok _ _ got
    word_found l GroupRight spelling is ls made rest got = no_ok _ _ got
    word_found l Atan2 spelling is ls made rest got = no_ok _ _ got
    word_found l _ spelling is ls made rest got = metric_found l spelling (ap metric_name is) ls made rest got

    paren_found : (l : Lexeme) → IsSign LeftParen l → (ls : List Lexeme) (made : Made) (rest : List Lexeme) → paren_at end opens l.at ls ≡ Ok (made, rest) → OperandFound b (l ∷ ls) made rest
    unfolding paren_at
    paren_found l sign ls made rest got =
        let o = bind_ok (opens l.at) _ _ got in
        let r = bind_ok (o.0 5 ls) _ _ o.2 in
        let c = bind_ok _ _ _ r.2 in
        let inner = inside l.at o.0 o.1 in
        let p = inner.2 5 ls r.0.0 r.0.1 r.1 in
        let close = after_found end RightParen r.0.1 c.0 c.1 in
        from_primary (l ∷ ls) l.at (paren l.at r.0.0) c.0 made rest
        (record {
          front = l ∷ p.front ++ close.0 ∷ [];
          e = tree l.at (Paren p.e);
          depth = p.depth + 1;
          split = ap (λ x. l ∷ x) (p.split ∙ ap (λ x. p.front ++ x) close.1 ∙ sym (append_assoc p.front (close.0 ∷ []) c.0));
          primary = subst (λ k. Primary k (l ∷ p.front ++ close.0 ∷ []) (tree l.at (Paren p.e)) (p.depth + 1)) (sym inner.1) (Primary.paren l close.0 sign p.phrase close.2 refl);
          placed = refl;
          made_so = ap (paren l.at) p.made_so ∙ cut_paren p.e p.depth l.at;
        })
        c.2

    duration_found : (l : Lexeme) (duration : Ms) → l.kind ≡ kinds.Duration duration → (ls : List Lexeme) (made : Made) (rest : List Lexeme) → duration_at end l.at duration ls ≡ Ok (made, rest)
        → OperandFound b (l ∷ ls) made rest
    unfolding duration_at
    duration_found l duration is ls made rest got =
        let v = bind_ok (seconds_of l.at duration) _ _ got in
        from_primary (l ∷ ls) l.at (leaf l.at (Number v.0)) ls made rest
        (record { front = l ∷ []; e = tree l.at (Number v.0); depth = 1; split = refl; primary = Primary.duration l duration v.0 is v.1; placed = refl; made_so = refl }) v.2

    pub primary_found : (l : Lexeme) (k : LexemeKind) → l.kind ≡ k → (ls : List Lexeme) (made : Made) (rest : List Lexeme) → primary_kind end opens l k ls ≡ Ok (made, rest) → OperandFound b (l ∷ ls) made rest
    primary_found l (kinds.Number value) is ls made rest got =
        from_primary (l ∷ ls) l.at (leaf l.at (Number value)) ls made rest
        (record { front = l ∷ []; e = tree l.at (Number value); depth = 1; split = refl; primary = Primary.number l value is; placed = refl; made_so = refl }) got
    primary_found l (kinds.Duration duration) is ls made rest got = duration_found l duration is ls made rest got
    primary_found l (kinds.Quoted text) is ls made rest got =
        from_primary (l ∷ ls) l.at (leaf l.at (Words text)) ls made rest
        (record { front = l ∷ []; e = tree l.at (Words text); depth = 1; split = refl; primary = Primary.words l text is; placed = refl; made_so = refl }) got
    primary_found l (kinds.Sign LeftParen) is ls made rest got = paren_found l is ls made rest got
    primary_found l (kinds.Sign LeftBrace) is ls made rest got = braces_found l is ls made rest got
    primary_found l (kinds.Name name) is ls made rest got = named_found l name is ls made rest got
    primary_found l (kinds.Word word spelling) is ls made rest got = word_found l word spelling is ls made rest got
    primary_found l _ is ls made rest got = no_ok _ _ got

    -- ---- what stands behind an operand
    abbrev next_operands : ℕ → Result (Bool × Made × List Lexeme) QueryRefusal → Read Made
    next_operands n r = r >>= λ next. cond next.0 (turns (postfix_turn end) n next.1 next.2) (Ok (next.1, next.2))

    abbrev pub PostfixesFound : ℕ → Type 0
    PostfixesFound n = (front : List Lexeme) (term : Term) (offset : Option Ms) (fixed : Option Fixed) (at d : ℕ) (ls : List Lexeme) (made : Made) (rest : List Lexeme)
        → Operand b term offset fixed front at d → turns (postfix_turn end) n (operand_of at term offset fixed d) ls ≡ Ok (made, rest) → OperandFound b (front ++ ls) made rest

    module _ (n : ℕ) (more : PostfixesFound n) where
      -- one more part, and then the others
      longer : (front xs : List Lexeme) (term : Term) (offset : Option Ms) (fixed : Option Fixed) (at d : ℕ) (ls mid : List Lexeme) (next : Made) (made : Made) (rest : List Lexeme) → ls ≡ xs ++ mid
          → Operand b term offset fixed (front ++ xs) at d → next ≡ operand_of at term offset fixed d → turns (postfix_turn end) n next mid ≡ Ok (made, rest) → OperandFound b (front ++ ls) made rest
      longer front xs term offset fixed at d ls mid next made rest split operand so got =
          operand_moved (front ++ ls) ((front ++ xs) ++ mid) made rest (ap (λ x. front ++ x) split ∙ sym (append_assoc front xs mid))
          (more (front ++ xs) term offset fixed at d mid made rest operand (ap (λ o. turns (postfix_turn end) n o mid) (sym so) ∙ got))

      range_next : (front xs : List Lexeme) (term : Term) (offset : Option Ms) (fixed : Option Fixed) (at d : ℕ) (length : Ms) → IsPlain term offset fixed → Operand b term offset fixed front at d
          → RangeBrackets xs length → (ls mid : List Lexeme) (made : Made) (rest : List Lexeme) → ls ≡ xs ++ mid
          → turns (postfix_turn end) n (bracketed (operand_of at term offset fixed d) (brackets.Range length)) mid ≡ Ok (made, rest) → OperandFound b (front ++ ls) made rest
      range_next front xs term offset fixed at d length (IsPlain.plain rules) operand range ls mid made rest split got =
          longer front xs (a_range rules length) None None at d ls mid _ made rest split (Operand.range operand range refl) refl got

      steps_next : (front xs : List Lexeme) (term : Term) (offset : Option Ms) (fixed : Option Fixed) (at d : ℕ) (length step : Ms) → Operand b term offset fixed front at d
          → StepBrackets xs length step → (ls mid : List Lexeme) (made : Made) (rest : List Lexeme) → ls ≡ xs ++ mid
          → turns (postfix_turn end) n (bracketed (operand_of at term offset fixed d) (brackets.Steps length step)) mid ≡ Ok (made, rest) → OperandFound b (front ++ ls) made rest
      steps_next front xs term offset fixed at d length step operand steps ls mid made rest split got =
          let e : Expr = term_tree at term (moment_of offset fixed) in
          let same : d ≡ d + 1 - 1 = omega arith in
          longer front xs (a_subquery e length step) None None at (d + 1) ls mid _ made rest split (Operand.subquery operand steps refl)
          (ap (λ x. plain at (parts.Subquery x length step)) (built_so at term offset fixed d (sized operand) ∙ ap (cut e) same)) got

      by_brackets : (l : Lexeme) (front xs : List Lexeme) (term : Term) (offset : Option Ms) (fixed : Option Fixed) (at d : ℕ) (found : Brackets) → Operand b term offset fixed front at d
          → IsBrackets l (is_plain (operand_of at term offset fixed d)) xs found → (ls mid : List Lexeme) (made : Made) (rest : List Lexeme) → ls ≡ l ∷ xs ++ mid
          → turns (postfix_turn end) n (bracketed (operand_of at term offset fixed d) found) mid ≡ Ok (made, rest) → OperandFound b (front ++ ls) made rest
      by_brackets l front xs term offset fixed at d (brackets.Range length) operand is ls mid made rest split got =
          range_next front (l ∷ xs) term offset fixed at d length (plain_found at term offset fixed d is.0) operand is.1 ls mid made rest split got
      by_brackets l front xs term offset fixed at d (brackets.Steps length step) operand is ls mid made rest split got =
          steps_next front (l ∷ xs) term offset fixed at d length step operand is ls mid made rest split got

      module _ (front : List Lexeme) (term : Term) (offset : Option Ms) (fixed : Option Fixed) (at d : ℕ) (operand : Operand b term offset fixed front at d) (l : Lexeme) (ls : List Lexeme) (made : Made)
          (rest : List Lexeme) where
        abbrev now : Made
        now = operand_of at term offset fixed d

        bracket_next : IsSign LeftBracket l → next_operands n (bracket_turn end now ls) ≡ Ok (made, rest) → OperandFound b (front ++ l ∷ ls) made rest
        unfolding bracket_turn
        bracket_next sign got =
            let turned = bind_ok (bracket_turn end now ls) _ _ got in
            let r = bind_ok (brackets_at (is_plain now) end ls) _ _ turned.1 in
            let go = ap (λ x. cond x.0 (turns (postfix_turn end) n x.1 x.2) (Ok (x.1, x.2))) (same_ok _ _ r.2) ∙ turned.2 in
            let f = known.brackets end (is_plain now) l sign ls r.0.0 r.0.1 r.1 in
            by_brackets l front f.front term offset fixed at d r.0.0 operand f.is (l ∷ ls) r.0.1 made rest (ap (λ x. l ∷ x) f.split) go

        offset_next : IsWord Offset l → may_offset now ≡ true → next_operands n (offset_turn end now ls) ≡ Ok (made, rest) → OperandFound b (front ++ l ∷ ls) made rest
        unfolding offset_turn
        offset_next word may got =
            let turned = bind_ok (offset_turn end now ls) _ _ got in
            let r = bind_ok (offset_at end ls) _ _ turned.1 in
            let go = ap (λ x. cond x.0 (turns (postfix_turn end) n x.1 x.2) (Ok (x.1, x.2))) (same_ok _ _ r.2) ∙ turned.2 in
            let f = known.offsets end ls r.0.0 r.0.1 r.1 in
            let free = offset_found at term offset fixed d may in
            let before : Operand b term None fixed front at d = subst (λ o. Operand b term o fixed front at d) free.1 operand in
            longer front (l ∷ f.front) term (Some r.0.0) fixed at d (l ∷ ls) r.0.1 _ made rest (ap (λ x. l ∷ x) f.split) (Operand.offset before free.0 (OffsetBehind.offset l word f.is) refl) refl go

        time_next : IsSign AtSign l → may_fix now ≡ true → next_operands n (time_turn end now ls) ≡ Ok (made, rest) → OperandFound b (front ++ l ∷ ls) made rest
        unfolding time_turn
        time_next sign may got =
            let turned = bind_ok (time_turn end now ls) _ _ got in
            let r = bind_ok (when_at end ls) _ _ turned.1 in
            let go = ap (λ x. cond x.0 (turns (postfix_turn end) n x.1 x.2) (Ok (x.1, x.2))) (same_ok _ _ r.2) ∙ turned.2 in
            let f = known.times end l sign ls r.0.0 r.0.1 r.1 in
            let free = time_found at term offset fixed d may in
            let before : Operand b term offset None front at d = subst (λ o. Operand b term offset o front at d) free.1 operand in
            longer front (l ∷ f.front) term offset (Some r.0.0) at d (l ∷ ls) r.0.1 _ made rest (ap (λ x. l ∷ x) f.split) (Operand.time before free.0 f.is refl) refl go

        kind_next : (k : LexemeKind) → l.kind ≡ k → next_operands n (postfix_kind end now k (l ∷ ls)) ≡ Ok (made, rest) → OperandFound b (front ++ l ∷ ls) made rest
        kind_next (kinds.Sign LeftBracket) is got = bracket_next is got
        kind_next (kinds.Word Offset spelling) is got =
            ⊎_elim (λ p. offset_next (spelling, is) p.0 (ap (next_operands n) p.1 ∙ got))
            (λ p. operand_here front term offset fixed at d (l ∷ ls) made rest operand (ap (next_operands n) p.1 ∙ got)) (chosen (may_offset now) _ _ _ refl)
        kind_next (kinds.Sign AtSign) is got =
            ⊎_elim (λ p. time_next is p.0 (ap (next_operands n) p.1 ∙ got))
            (λ p. operand_here front term offset fixed at d (l ∷ ls) made rest operand (ap (next_operands n) p.1 ∙ got)) (chosen (may_fix now) _ _ _ refl)
        kind_next _ is got = operand_here front term offset fixed at d (l ∷ ls) made rest operand got

    pub postfixes_found : (n : ℕ) → PostfixesFound n
    unfolding turns
    postfixes_found zero front term offset fixed at d ls made rest operand got = operand_here front term offset fixed at d ls made rest operand got
    postfixes_found (suc n) front term offset fixed at d [] made rest operand got = operand_here front term offset fixed at d [] made rest operand got
    postfixes_found (suc n) front term offset fixed at d (l ∷ ls) made rest operand got =
        kind_next n (postfixes_found n) front term offset fixed at d operand l ls made rest l.kind refl got

    pub operand_is : (l : Lexeme) (ls : List Lexeme) (made : Made) (rest : List Lexeme) → operand_at end opens l ls ≡ Ok (made, rest) → OperandFound b (l ∷ ls) made rest
    unfolding operand_at
    operand_is l ls made rest got =
        let r = bind_ok (primary_at end opens l ls) _ _ got in
        let p = primary_found l l.kind refl ls r.0.0 r.0.1 r.1 in
        operand_moved (l ∷ ls) (p.front ++ r.0.1) made rest p.split
        (postfixes_found (suc (length r.0.1)) p.front p.term p.offset p.fixed p.at p.depth r.0.1 made rest p.operand (ap (λ o. all_turns (postfix_turn end) o r.0.1) (sym p.made_so) ∙ r.2))

    -- ---- signs and powers
    pub moved : (level : ℕ) (ls us : List Lexeme) (made : Built) (rest : List Lexeme) → ls ≡ us → Parsed b level us made rest → Parsed b level ls made rest
    moved level ls us made rest same p = record { front = p.front; e = p.e; depth = p.depth; split = same ∙ p.split; phrase = p.phrase; made_so = p.made_so }

    -- a phrase that is read, where it ends
    here : (level : ℕ) (front : List Lexeme) (e : Expr) (d : ℕ) (ls : List Lexeme) (made : Built) (rest : List Lexeme) → Phrase b level front e d → ◌≡◌ {A = Read Built} (Ok (cut e d, ls)) (Ok (made, rest))
        → Parsed b level (front ++ ls) made rest
    here level front e d ls made rest phrase ends = record {
      front = front;
      e = e;
      depth = d;
      split = ap (λ x. front ++ x) (ap (λ x. x.1) (same_ok _ _ ends));
      phrase = phrase;
      made_so = sym (ap (λ x. x.0) (same_ok _ _ ends));
    }

    module _ (front : List Lexeme) (term : Term) (offset : Option Ms) (fixed : Option Fixed) (at d : ℕ) (operand : Operand b term offset fixed front at d) where
      abbrev base : Expr
      base = term_tree at term (moment_of offset fixed)

      exponent_found : (l : Lexeme) → IsSign Caret l → (ls : List Lexeme) (made : Built) (rest : List Lexeme) → exponent_at end opens l.at (cut base d) ls ≡ Ok (made, rest)
          → Parsed b 0 (front ++ l ∷ ls) made rest
      unfolding exponent_at raised_at
      exponent_found l sign ls made rest got =
          let o = bind_ok (opens l.at) _ _ got in
          let m = bind_ok (matching_at (Arith Pow) end ls) _ _ o.2 in
          let r = bind_ok (o.0 0 m.0.1) _ _ m.2 in
          let ends = same_ok _ _ r.2 in
          let inner = inside l.at o.0 o.1 in
          let between = known.matchings (Arith Pow) end ls m.0.0 m.0.1 m.1 in
          let p = inner.2 0 m.0.1 r.0.0 r.0.1 r.1 in
          let ys : List Lexeme = between.found.front in
          let apart = front_apart between.bare p.front r.0.1 (ap (begins_labels between.bare) (sym p.split) ∙ between.apart) in
          let below : Operand (suc inner.0) term offset fixed front at d = subst (λ k. Operand k term offset fixed front at d) inner.1 operand in
          let e : Expr = tree at (node_of (Arith Pow) m.0.0 base p.e) in
          record {
            front = front ++ l ∷ (ys ++ p.front);
            e = e;
            depth = max d p.depth + 1;
            split =
                ap (λ x. front ++ l ∷ x) (between.found.split ∙ ap (λ x. ys ++ x) (p.split ∙ ap (λ x. p.front ++ x) (ap (λ x. x.1) ends)) ∙ sym (append_assoc ys p.front rest))
                ∙ sym (append_assoc front (l ∷ ys ++ p.front) rest);
            phrase =
                subst (λ k. Phrase k 0 (front ++ l ∷ (ys ++ p.front)) e (max d p.depth + 1)) (sym inner.1)
                (Phrase.power {xs = front} {ys = ys} {zs = p.front} l below sign between.found.is p.phrase apart refl);
            made_so =
                sym (ap (λ x. x.0) ends) ∙ ap (binary (Arith Pow) m.0.0 (cut base d)) p.made_so ∙ cut_binary (Arith Pow) m.0.0 base p.e d p.depth
                ∙ ap (λ k. cut (tree k (node_of (Arith Pow) m.0.0 base p.e)) (max d p.depth + 1)) (placed operand (moment_of offset fixed));
          }

      power_next : (l : Lexeme) (k : LexemeKind) → l.kind ≡ k → (ls : List Lexeme) (made : Built) (rest : List Lexeme) → power_kind end opens l (cut base d) k ls ≡ Ok (made, rest)
          → Parsed b 0 (front ++ l ∷ ls) made rest
      power_next l (kinds.Sign Caret) is ls made rest got = exponent_found l is ls made rest got
      power_next l (kinds.Word Atan2 spelling) is ls made rest got = no_ok _ _ got
      power_next l _ is ls made rest got = here 0 front base d (l ∷ ls) made rest (Phrase.operand operand) got

      behind_found_power : (ls : List Lexeme) (made : Built) (rest : List Lexeme) → power_behind end opens (cut base d) ls ≡ Ok (made, rest) → Parsed b 0 (front ++ ls) made rest
      behind_found_power [] made rest got = here 0 front base d [] made rest (Phrase.operand operand) got
      behind_found_power (l ∷ ls) made rest got = power_next l l.kind refl ls made rest got

    power_found : (l : Lexeme) (ls : List Lexeme) (made : Built) (rest : List Lexeme) → power_at end opens l ls ≡ Ok (made, rest) → Parsed b 0 (l ∷ ls) made rest
    unfolding power_at
    power_found l ls made rest got =
        let r = bind_ok (operand_at end opens l ls) _ _ got in
        let p = operand_is l ls r.0.0 r.0.1 r.1 in
        let so = ap operand_built p.made_so ∙ built_so p.at p.term p.offset p.fixed p.depth (sized p.operand) in
        moved 0 (l ∷ ls) (p.front ++ r.0.1) made rest p.split
        (behind_found_power p.front p.term p.offset p.fixed p.at p.depth p.operand r.0.1 made rest (ap (λ x. power_behind end opens x r.0.1) (sym so) ∙ r.2))

    minus_found : (l : Lexeme) → IsSign Minus l → (ls : List Lexeme) (made : Built) (rest : List Lexeme) → minus_at end opens l.at ls ≡ Ok (made, rest) → Parsed b 0 (l ∷ ls) made rest
    unfolding minus_at
    minus_found l sign ls made rest got =
        let o = bind_ok (opens l.at) _ _ got in
        let r = bind_ok (o.0 0 ls) _ _ o.2 in
        let ends = same_ok _ _ r.2 in
        let inner = inside l.at o.0 o.1 in
        let p = inner.2 0 ls r.0.0 r.0.1 r.1 in
        record {
          front = l ∷ p.front;
          e = tree l.at (Negate p.e);
          depth = p.depth + 1;
          split = ap (λ x. l ∷ x) (p.split ∙ ap (λ x. p.front ++ x) (ap (λ x. x.1) ends));
          phrase = subst (λ k. Phrase k 0 (l ∷ p.front) (tree l.at (Negate p.e)) (p.depth + 1)) (sym inner.1) (Phrase.minus l sign p.phrase);
          made_so = sym (ap (λ x. x.0) ends) ∙ ap (negate l.at) p.made_so ∙ cut_negate p.e p.depth l.at;
        }

    plus_found : (l : Lexeme) → IsSign Plus l → (ls : List Lexeme) (made : Built) (rest : List Lexeme) → plus_at end opens l.at ls ≡ Ok (made, rest) → Parsed b 0 (l ∷ ls) made rest
    unfolding plus_at
    plus_found l sign ls made rest got =
        let o = bind_ok (opens l.at) _ _ got in
        let r = bind_ok (o.0 0 ls) _ _ o.2 in
        let ends = same_ok _ _ r.2 in
        let inner = inside l.at o.0 o.1 in
        let p = inner.2 0 ls r.0.0 r.0.1 r.1 in
        record {
          front = l ∷ p.front;
          e = tree l.at (Paren p.e);
          depth = p.depth + 1;
          split = ap (λ x. l ∷ x) (p.split ∙ ap (λ x. p.front ++ x) (ap (λ x. x.1) ends));
          phrase = subst (λ k. Phrase k 0 (l ∷ p.front) (tree l.at (Paren p.e)) (p.depth + 1)) (sym inner.1) (Phrase.plus l sign p.phrase);
          made_so = sym (ap (λ x. x.0) ends) ∙ ap (paren l.at) p.made_so ∙ cut_paren p.e p.depth l.at;
        }

    unary_kind_found : (l : Lexeme) (k : LexemeKind) → l.kind ≡ k → (ls : List Lexeme) (made : Built) (rest : List Lexeme) → unary_kind end opens l k ls ≡ Ok (made, rest) → Parsed b 0 (l ∷ ls) made rest
    unary_kind_found l (kinds.Sign Minus) is ls made rest got = minus_found l is ls made rest got
    unary_kind_found l (kinds.Sign Plus) is ls made rest got = plus_found l is ls made rest got
    unary_kind_found l _ is ls made rest got = power_found l ls made rest got

    unary_found : (ls : List Lexeme) (made : Built) (rest : List Lexeme) → unary_at end opens ls ≡ Ok (made, rest) → Parsed b 0 ls made rest
    unary_found [] made rest got = no_ok _ _ got
    unary_found (l ∷ ls) made rest got = unary_kind_found l l.kind refl ls made rest got

    -- ---- levels
    abbrev pub LevelFound : ℕ → Type 0
    LevelFound level = (ls : List Lexeme) (made : Built) (rest : List Lexeme) → level_at end opens level ls ≡ Ok (made, rest) → Parsed b level ls made rest

    module _ (level : ℕ) (tighter : LevelFound level) where
      abbrev pub turn : Built → List Lexeme → Result (Bool × Built × List Lexeme) QueryRefusal
      turn = chain_turn end (suc level) (level_at end opens level)

      pub op_begins : (ls : List Lexeme) (op : BinaryOp) → op_at (suc level) ls ≡ Some op → (l : Lexeme) × (ls ≡ l ∷ drop 1 ls) × (op_of (suc level) l.kind ≡ Some op)
      op_begins [] op is = no_some _ is
      op_begins (l ∷ ls) op is = (l, refl, is)

      abbrev pub TurnsFound : ℕ → Type 0
      TurnsFound n = (front : List Lexeme) (e : Expr) (m : ℕ) (ls : List Lexeme) (made : Built) (rest : List Lexeme) → Phrase b (suc level) front e m
          → turns turn n (cut e m) ls ≡ Ok (made, rest) → Parsed b (suc level) (front ++ ls) made rest

      chain_found : (n : ℕ) → TurnsFound n → (front : List Lexeme) (e : Expr) (m : ℕ) (ls : List Lexeme) (made : Built) (rest : List Lexeme) → Phrase b (suc level) front e m
          → (o : Option BinaryOp) → op_at (suc level) ls ≡ o
          → (chain_from end (level_at end opens level) (cut e m) o ls >>= λ next. cond next.0 (turns turn n next.1 next.2) (Ok (next.1, next.2))) ≡ Ok (made, rest)
          → Parsed b (suc level) (front ++ ls) made rest
      unfolding side_at
      chain_found n more front e m ls made rest phrase None is got = here (suc level) front e m ls made rest phrase got
      chain_found n more front e m ls made rest phrase (Some op) is got =
          let turned = bind_ok (side_at end op (level_at end opens level) (cut e m) (drop 1 ls)) _ _ got in
          let k = bind_ok (matching_at op end (drop 1 ls)) _ _ turned.1 in
          let r = bind_ok (level_at end opens level k.0.1) _ _ k.2 in
          let state = same_ok _ _ r.2 in
          let sign = op_begins ls op is in
          let between = known.matchings op end (drop 1 ls) k.0.0 k.0.1 k.1 in
          let p = tighter k.0.1 r.0.0 r.0.1 r.1 in
          let ys : List Lexeme = between.found.front in
          let apart = front_apart between.bare p.front r.0.1 (ap (begins_labels between.bare) (sym p.split) ∙ between.apart) in
          let whole : Expr = tree e.at (node_of op k.0.0 e p.e) in
          let all : List Lexeme = front ++ sign.0 ∷ (ys ++ p.front) in
          let longer_phrase : Phrase b (suc level) all whole (max m p.depth + 1) = Phrase.binary {xs = front} {ys = ys} {zs = p.front} sign.0 phrase sign.2 between.found.is p.phrase apart refl in
          let same : binary op k.0.0 (cut e m) r.0.0 ≡ cut whole (max m p.depth + 1) = ap (binary op k.0.0 (cut e m)) p.made_so ∙ cut_binary op k.0.0 e p.e m p.depth in
          moved (suc level) (front ++ ls) (all ++ r.0.1) made rest
          (ap (λ x. front ++ x) (sign.1 ∙ ap (λ x. sign.0 ∷ x) (between.found.split ∙ ap (λ x. ys ++ x) p.split ∙ sym (append_assoc ys p.front r.0.1)))
          ∙ sym (append_assoc front (sign.0 ∷ ys ++ p.front) r.0.1))
          (more all whole (max m p.depth + 1) r.0.1 made rest longer_phrase
          (ap (λ x. turns turn n x r.0.1) (sym same) ∙ ap (λ x. cond x.0 (turns turn n x.1 x.2) (Ok (x.1, x.2))) state ∙ turned.2))

      pub turns_found : (n : ℕ) → TurnsFound n
      unfolding turns
      turns_found zero front e m ls made rest phrase got = here (suc level) front e m ls made rest phrase got
      turns_found (suc n) front e m ls made rest phrase got = chain_found n (turns_found n) front e m ls made rest phrase (op_at (suc level) ls) refl got

      chained : LevelFound (suc level)
      unfolding level_at
      chained ls made rest got =
          let o = bind_ok (level_at end opens level ls) _ _ got in
          let p = tighter ls o.0.0 o.0.1 o.1 in
          moved (suc level) ls (p.front ++ o.0.1) made rest p.split
          (turns_found (suc (length o.0.1)) p.front p.e p.depth o.0.1 made rest (Phrase.tighter p.phrase) (ap (λ x. all_turns turn x o.0.1) (sym p.made_so) ∙ o.2))

    pub levels_found : (level : ℕ) → LevelFound level
    unfolding level_at
    levels_found zero ls made rest got = unary_found ls made rest got
    levels_found (suc level) ls made rest got = chained level (levels_found level) ls made rest got

  abbrev AllFound : ℕ → Type 0
  AllFound b = (level : ℕ) (ls : List Lexeme) (made : Built) (rest : List Lexeme) → level_at end (within end b) level ls ≡ Ok (made, rest) → Parsed b level ls made rest

  nothing_inside : Inside 0
  unfolding within
  nothing_inside at read got = no_ok _ _ got

  inside_next : (b : ℕ) → AllFound b → Inside (suc b)
  unfolding within
  inside_next b all at read got = (b, refl, λ level ls made rest found. all level ls made rest (ap (λ (f : Levels). f level ls) (same_ok _ _ got) ∙ found))

  -- what is read at a level is a phrase of it
  pub found : (b : ℕ) → AllFound b
  found zero level ls made rest got = levels_found zero nothing_inside level ls made rest got
  found (suc b) level ls made rest got = levels_found (suc b) (inside_next b (found b)) level ls made rest got

  pub found_inside : (b : ℕ) → Inside b
  found_inside zero = nothing_inside
  found_inside (suc b) = inside_next b (found b)
