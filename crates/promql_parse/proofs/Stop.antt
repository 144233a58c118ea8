-- Where a query is refused as something else was expected, a query begins with the lexemes before.
use Rattle.std.proofs.Common.{◌≡◌, ◌⊎◌, ℕ, zero, suc, ◌+◌, max, refl, ap, ◌∙◌, sym, subst, ⊎_elim, inl, inr, Bool, true, false, cond, List, [], ◌∷◌, ◌++◌, append_assoc, append-nil, drop, length, arith}
use Rattle.std.specs.Prelude.{◌&&◌, ◌||◌, Option, Some, None, is_some, Result, Ok, Err}
use Rattle.func_table.specs.Names.{found_of}
use Rattle.func_table.specs.declared.table.Aggregate.{Aggregate}
use Rattle.func_table.specs.declared.table.Found.{Found as Looked}
use Rattle.func_table.specs.declared.table.Found.TheVariants as looked
use Rattle.func_table.specs.declared.table.Func.{Func}
use Rattle.label_set.specs.declared.rules.Grouping.{Grouping}
use Rattle.promql_ast.specs.declared.refusal.QueryRefusal.{QueryRefusal}
use Rattle.promql_ast.specs.declared.refusal.QueryRefusal.TheVariants.{Expected}
use Rattle.promql_ast.specs.declared.tree.Expr.{Expr}
use Rattle.promql_ast.specs.declared.tree.Fixed.{Fixed}
use Rattle.promql_parse.specs.Build.{add, binary, call, is_plain, may_fix, may_offset, no_arguments, operand_built, other}
use Rattle.promql_parse.specs.Grammar.{ArgumentList, Body, Operand, Phrase, Primary, Term, a_selector}
use Rattle.promql_parse.specs.Laws.{BeginsAQuery, EndsHopeless, UnexpectedIsFirst}
use Rattle.promql_parse.specs.Reading.{Levels, Opens, aggregate_at, arguments_at, arguments_turn, begins_grouping, body_at, braced_at, bracket_turn, call_arguments, call_at, chain_from, chain_turn, duration_at, exponent_at, finished, function_at, function_found, grouped, grouped_before, grouped_behind, is_refused_aggregation, level_at, metric_at, minus_at, named_at, offset_turn, operand_at, paren_at, plus_at, postfix_kind, postfix_turn, power_at, power_behind, power_kind, primary_at, primary_kind, raised_at, reading, refused_at_name, seconds_of, side_at, time_turn, unary_at, unary_kind, within, word_at}
use Rattle.promql_parse.specs.declared.build.Arguments.{Arguments}
use Rattle.promql_parse.specs.declared.build.Built.{Built}
use Rattle.promql_parse.specs.declared.build.Built.TheVariants as built
use Rattle.promql_parse.specs.declared.build.Operand.{Operand as Made}
use Rattle.promql_parts.specs.Labels.{grouping_at, grouping_begun, item_behind, optional_grouping}
use Rattle.promql_parts.specs.Laws.{IsBraced, IsBrackets}
use Rattle.promql_parts.specs.Operators.{matching_at, op_at, op_of}
use Rattle.promql_parts.specs.Productions.{BinModifier, RangeBrackets, begins_labels, Grouped, IsSign, IsWord, OffsetBehind, Selected, metric_name}
use Rattle.promql_parts.specs.Reads.{Read, Turn, ◌>>=◌, after, begins, refused, refused_at, refused_kind, turns}
use Rattle.promql_parts.specs.Selectors.{braces_at}
use Rattle.promql_parts.specs.Spans.{brackets_at, offset_at, when_at}
use Rattle.promql_parts.specs.Steps.{after_found, begins_found, bind_ok, chosen, item_found, no_ok, no_some, same_ok, true_false}
use Rattle.promql_parts.specs.Stops.{Begins, BracesStop, BracketsStop, GroupingsStop, IsHopeless, MatchingsStop, OffsetsStop, OrHopeless, StopsAt, TimesStop}
use Rattle.promql_parts.specs.Stopped.{after_stops, behind_part, bind_err, item_stops, lexeme_of_sign, no_err, same_err}
use Rattle.promql_parts.specs.declared.lexeme.Lexeme.{Lexeme}
use Rattle.promql_parts.specs.declared.lexeme.LexemeKind.{LexemeKind}
use Rattle.promql_parts.specs.declared.lexeme.LexemeKind.TheVariants as kinds
use Rattle.promql_parts.specs.declared.lexeme.Sign.TheVariants.{LeftParen, RightParen, LeftBrace, LeftBracket, AtSign, Plus, Minus, Caret}
use Rattle.promql_lex.specs.declared.word.Word.{Word}
use Rattle.promql_lex.specs.declared.word.Word.TheVariants.{On, Ignoring, GroupLeft, GroupRight, Bool as Flag, Offset, Atan2, Over}
use Rattle.promql_parts.specs.declared.operator.BinaryOp.{BinaryOp}
use Rattle.promql_parts.specs.declared.operator.BinaryOp.TheVariants.{Arith}
use Rattle.promql_parts.specs.declared.operator.Matching.{Matching}
use Rattle.promql_parts.specs.declared.span.Brackets.{Brackets}
use Rattle.promql_parts.specs.declared.span.Brackets.TheVariants as brackets
use Rattle.ticks.specs.declared.moment.Ms.{Ms}
use Rattle.xfrac.specs.declared.value.ArithOp.TheVariants.{Pow}
use Rattle.xfrac.specs.Forming.{formed}
use Rattle.xfrac.specs.declared.value.XFrac.{XFrac}
use Rattle.xfrac.specs.declared.value.XFrac.TheVariants.{NaN}
use Rattle.promql_parse.proofs.ArgumentsFound.{Before, Parsed, added, body_found, turns_found as arguments_listed}
use Rattle.promql_parse.proofs.Cuts.{cut_arguments, cut_add}
use Rattle.promql_parse.proofs.Found.{OperandFound, Parts, found, found_inside, levels_found, op_begins, operand_is, postfixes_found, primary_found, turns_found}
use Rattle.promql_parse.proofs.Operands.{IsPlain, offset_found, operand_of, plain_found, time_found}

-- what is known of the readers of parts that stop
pub record Stopping : Type 0 where
  pub groupings : GroupingsStop
  pub braces : BracesStop
  pub brackets : BracketsStop
  pub offsets : OffsetsStop
  pub times : TimesStop
  pub matchings : MatchingsStop

-- lexemes that end in such a part, or in braces that are hopeless
data Begun (P : List Lexeme → Type 0) (front : List Lexeme) : Type 0 where
  ends : (more : List Lexeme) → P (front ++ more) → Begun P front
  hopeless : EndsHopeless front → Begun P front

further : {ls : List Lexeme} (pre : List Lexeme) → EndsHopeless ls → EndsHopeless (pre ++ ls)
further pre (EndsHopeless.named {ys = ys} xs l begin name is sign so split) =
    EndsHopeless.named (pre ++ xs) l begin name is sign so (ap (λ z. pre ++ z) split ∙ sym (append_assoc pre xs (l ∷ begin ∷ ys)))
further pre (EndsHopeless.unnamed {ys = ys} xs begin sign so split) = EndsHopeless.unnamed (pre ++ xs) begin sign so (ap (λ z. pre ++ z) split ∙ sym (append_assoc pre xs (begin ∷ ys)))

begun_within : (P Q : List Lexeme → Type 0) (pre post front : List Lexeme) → ((xs : List Lexeme) → P xs → Q (pre ++ (xs ++ post))) → Begun P front → Begun Q (pre ++ front)
begun_within P Q pre post front step (Begun.ends more is) =
    Begun.ends (more ++ post) (subst Q (ap (λ z. pre ++ z) (append_assoc front more post) ∙ sym (append_assoc pre front (more ++ post))) (step (front ++ more) is))
begun_within P Q pre post front step (Begun.hopeless so) = Begun.hopeless (further pre so)

begun_behind : (P Q : List Lexeme → Type 0) (pre front : List Lexeme) → ((xs : List Lexeme) → P xs → Q (pre ++ xs)) → Begun P front → Begun Q (pre ++ front)
begun_behind P Q pre front step begun = begun_within P Q pre [] front (λ xs is. subst Q (ap (λ z. pre ++ z) (sym (append-nil xs))) (step xs is)) begun

-- one lexeme that is an expression of each level
abbrev one : Lexeme
one = record { at = 0; kind = kinds.Number NaN }

abbrev IsPhrase : ℕ → ℕ → List Lexeme → Type 0
IsPhrase b level xs = (e : Expr) × (d : ℕ) × Phrase b level xs e d

abbrev IsBody : ℕ → List Lexeme → Type 0
IsBody b xs = (es : List Expr) × (d : ℕ) × Body b xs es d

abbrev IsArguments : ℕ → List Lexeme → Type 0
IsArguments b xs = (es : List Expr) × (d : ℕ) × ArgumentList b xs es d

record IsOperand (b : ℕ) (xs : List Lexeme) : Type 0 where
  pub term : Term
  pub offset : Option Ms
  pub fixed : Option Fixed
  pub at : ℕ
  pub depth : ℕ
  pub is : Operand b term offset fixed xs at depth

from_primary : {b d : ℕ} {xs : List Lexeme} {e : Expr} → Primary b xs e d → IsOperand b xs
from_primary is = record { term = _; offset = None; fixed = None; at = _; depth = _; is = Operand.primary is }

an_operand : (b : ℕ) → IsOperand b (one ∷ [])
an_operand b = from_primary (Primary.number {b = b} one NaN refl)

operand_phrase : {b : ℕ} {xs : List Lexeme} → IsOperand b xs → IsPhrase b 0 xs
operand_phrase o = (_, o.depth, Phrase.operand o.is)

a_phrase : (b level : ℕ) → IsPhrase b level (one ∷ [])
a_phrase b zero = operand_phrase (an_operand b)
a_phrase b (suc level) = let p = a_phrase b level in (p.0, p.1, Phrase.tighter p.2)

abbrev open_sign : Lexeme
open_sign = lexeme_of_sign LeftParen

abbrev close_sign : Lexeme
close_sign = lexeme_of_sign RightParen

a_body : (b : ℕ) → IsBody b (open_sign ∷ one ∷ close_sign ∷ [])
a_body b = let p = a_phrase b 5 in (p.0 ∷ [], p.1, Body.body open_sign close_sign refl (ArgumentList.one p.2) refl refl)

-- a loop of turns stops in one of them
module _ {A Goal : Type 0} (turn : Turn A) (place : ℕ) (Sofar : A → List Lexeme → Type 0)
    (keeps : (a : A) (ls : List Lexeme) (b : A) (rest : List Lexeme) → Sofar a ls → turn a ls ≡ Ok (true, b, rest) → Sofar b rest)
    (stops : (a : A) (ls : List Lexeme) → Sofar a ls → turn a ls ≡ Err (Expected place) → Goal) where
  turns_stop : (n : ℕ) (a : A) (ls : List Lexeme) → Sofar a ls → turns turn n a ls ≡ Err (Expected place) → Goal
  unfolding turns
  turns_stop zero a ls sofar read = no_err _ _ read
  turns_stop (suc n) a ls sofar read =
      ⊎_elim (λ p. stops a ls sofar p)
      (λ p.
      ⊎_elim (λ q. turns_stop n p.0.1 p.0.2 (keeps a ls p.0.1 p.0.2 sofar (p.1 ∙ ap (λ z. Ok (z, p.0.1, p.0.2)) q.0)) q.1) (λ q. no_err _ _ q.1) (chosen p.0.0 _ _ _ p.2))
      (bind_err (turn a ls) _ _ read)

module _ (end place : ℕ) where
  abbrev StopsIn : (List Lexeme → Type 0) → List Lexeme → Type 0
  StopsIn P ls = StopsAt end place (Begun P) ls

  -- where a reader stops behind what is read, and what closes it
  stops_within : (P Q : List Lexeme → Type 0) (pre post ls tail : List Lexeme) → ls ≡ pre ++ tail → ((xs : List Lexeme) → P xs → Q (pre ++ (xs ++ post))) → StopsIn P tail → StopsIn Q ls
  stops_within P Q pre post ls tail split step s = behind_part end place (Begun P) (Begun Q) pre ls tail split (λ front begun. begun_within P Q pre post front step begun) s

  stops_behind : (P Q : List Lexeme → Type 0) (pre ls tail : List Lexeme) → ls ≡ pre ++ tail → ((xs : List Lexeme) → P xs → Q (pre ++ xs)) → StopsIn P tail → StopsIn Q ls
  stops_behind P Q pre ls tail split step s = behind_part end place (Begun P) (Begun Q) pre ls tail split (λ front begun. begun_behind P Q pre front step begun) s

  stops_moved : (P : List Lexeme → Type 0) (ls us : List Lexeme) → ls ≡ us → StopsIn P us → StopsIn P ls
  stops_moved P ls us same s = record { front = s.front; back = s.back; split = same ∙ s.split; there = s.there; begun = s.begun }

  stops_as : (P Q : List Lexeme → Type 0) (ls : List Lexeme) → ((xs : List Lexeme) → P xs → Q xs) → StopsIn P ls → StopsIn Q ls
  stops_as P Q ls step s = stops_behind P Q [] ls ls refl step s

  -- what is read, and a lexeme behind it that ends it otherwise
  ended : (Q : List Lexeme → Type 0) (front ls tail more : List Lexeme) → ls ≡ front ++ tail → refused_at end tail ≡ Expected place → Q (front ++ more) → StopsIn Q ls
  ended Q front ls tail more split there is = record { front = front; back = tail; split = split; there = there; begun = Begun.ends more is }

  -- ---- arguments
  module _ (b : ℕ) (reader : List Lexeme → Read Built) (sound : (ls : List Lexeme) (made : Built) (rest : List Lexeme) → reader ls ≡ Ok (made, rest) → Parsed b 5 ls made rest)
      (stops : (ls : List Lexeme) → reader ls ≡ Err (Expected place) → StopsIn (IsPhrase b 5) ls) where
    record Sofar (all : List Lexeme) (made : Arguments) (ls : List Lexeme) : Type 0 where
      pub front : List Lexeme
      pub es : List Expr
      pub depth : ℕ
      pub split : all ≡ front ++ ls
      pub before : Before b front es depth
      pub made_so : made ≡ cut_arguments es depth

    argument_added : (all : List Lexeme) (made : Arguments) (ls : List Lexeme) (s : Sofar all made ls) (xs : List Lexeme) → IsPhrase b 5 xs → IsArguments b (s.front ++ xs)
    argument_added all made ls s xs p = (s.es ++ p.0 ∷ [], max s.depth p.1, added s.before xs p.0 p.1 p.2)

    turn_keeps : (all : List Lexeme) (made : Arguments) (ls : List Lexeme) (next : Arguments) (rest : List Lexeme) → Sofar all made ls → arguments_turn end reader made ls ≡ Ok (true, next, rest)
        → Sofar all next rest
    unfolding arguments_turn
    turn_keeps all made ls next rest s read =
        let r = bind_ok (reader ls) _ _ read in
        let i = bind_ok (item_behind end RightParen r.0.1) _ _ r.2 in
        let state = same_ok _ _ i.2 in
        let p = sound ls r.0.0 r.0.1 r.1 in
        ⊎_elim
        (λ q. record {
          front = s.front ++ (p.front ++ q.1.0 ∷ []);
          es = s.es ++ p.e ∷ [];
          depth = max s.depth p.depth;
          split =
              s.split ∙ ap (λ z. s.front ++ z) (p.split ∙ ap (λ z. p.front ++ z) (q.1.1 ∙ ap (λ z. q.1.0 ∷ z) (ap (λ x. x.2) state)) ∙ sym (append_assoc p.front (q.1.0 ∷ []) rest))
              ∙ sym (append_assoc s.front (p.front ++ q.1.0 ∷ []) rest);
          before = Before.behind q.1.0 (added s.before p.front p.e p.depth p.phrase) q.1.2 (sym (append_assoc s.front p.front (q.1.0 ∷ [])));
          made_so =
              sym (ap (λ x. x.1) state) ∙ ap (λ a. add a r.0.0) s.made_so ∙ ap (add (cut_arguments s.es s.depth)) p.made_so ∙ cut_add s.es p.e s.depth p.depth;
        })
        (λ q. true_false (sym (ap (λ x. x.0) state) ∙ q.0))
        (item_found end RightParen r.0.1 i.0.0 i.0.1 i.1)

    turn_stops : (all : List Lexeme) (made : Arguments) (ls : List Lexeme) → Sofar all made ls → arguments_turn end reader made ls ≡ Err (Expected place) → StopsIn (IsArguments b) all
    unfolding arguments_turn
    turn_stops all made ls s read =
        ⊎_elim (λ p. stops_behind (IsPhrase b 5) (IsArguments b) s.front all ls s.split (argument_added all made ls s) (stops ls p))
        (λ p.
        let f = sound ls p.0.0 p.0.1 p.1 in
        ⊎_elim
        (λ q.
        ended (IsArguments b) (s.front ++ f.front) all p.0.1 [] (s.split ∙ ap (λ z. s.front ++ z) f.split ∙ sym (append_assoc s.front f.front p.0.1)) (item_stops end place RightParen p.0.1 q)
        (subst (IsArguments b) (sym (append-nil (s.front ++ f.front))) (argument_added all made ls s f.front (f.e, f.depth, f.phrase))))
        (λ q. no_err _ _ q.2)
        (bind_err (item_behind end RightParen p.0.1) _ _ p.2))
        (bind_err (reader ls) _ _ read)

    in_parens : (u : Lexeme) → IsSign LeftParen u → (xs : List Lexeme) → IsArguments b xs → IsBody b (u ∷ xs ++ close_sign ∷ [])
    in_parens u opens xs list = (list.0, list.1, Body.body u close_sign opens list.2 refl refl)

    arguments_stop : (u : Lexeme) → IsSign LeftParen u → (ls : List Lexeme) → arguments_at end reader ls ≡ Err (Expected place) → StopsIn (IsBody b) (u ∷ ls)
    unfolding arguments_at
    arguments_stop u opens ls read =
        ⊎_elim
        (λ p.
        stops_within (IsArguments b) (IsBody b) (u ∷ []) (close_sign ∷ []) (u ∷ ls) ls refl (in_parens u opens)
        (turns_stop (arguments_turn end reader) place (Sofar ls) (turn_keeps ls) (turn_stops ls) (suc (length ls)) no_arguments ls
        (record { front = []; es = []; depth = 0; split = refl; before = Before.start; made_so = refl }) p))
        (λ p.
        let all = arguments_listed end b reader sound (suc (length ls)) [] [] 0 ls p.0.0 p.0.1 Before.start (omega arith) p.1 in
        ⊎_elim
        (λ q.
        ended (IsBody b) (u ∷ all.mid) (u ∷ ls) p.0.1 (close_sign ∷ []) (ap (λ z. u ∷ z) all.split) (after_stops end place RightParen p.0.1 q) (in_parens u opens all.mid (all.es, all.depth, all.list)))
        (λ q. no_err _ _ q.2)
        (bind_err (after end RightParen p.0.1) _ _ p.2))
        (bind_err _ _ _ read)

    body_stops : (ls : List Lexeme) → body_at end reader ls ≡ Err (Expected place) → StopsIn (IsBody b) ls
    unfolding body_at
    body_stops ls read =
        ⊎_elim (λ p. ended (IsBody b) [] ls ls (open_sign ∷ one ∷ close_sign ∷ []) refl (after_stops end place LeftParen ls p) (a_body b))
        (λ p. let u = after_found end LeftParen ls p.0 p.1 in stops_moved (IsBody b) ls (u.0 ∷ p.0) u.1 (arguments_stop u.0 u.2 p.0 p.2)) (bind_err (after end LeftParen ls) _ _ read)

  module _ (known : Parts) (stopping : Stopping) (b : ℕ) where
    abbrev opens : Opens
    opens = within end b

    -- what is read inside of what a lexeme opens, and where that stops
    record Inner (read : Levels) : Type 0 where
      pub c : ℕ
      pub deeper : b ≡ suc c
      pub sound : (level : ℕ) (ls : List Lexeme) (made : Built) (rest : List Lexeme) → read level ls ≡ Ok (made, rest) → Parsed c level ls made rest
      pub halts : (level : ℕ) (ls : List Lexeme) → read level ls ≡ Err (Expected place) → StopsIn (IsPhrase c level) ls

    abbrev Inside : Type 0
    Inside = (at : ℕ) (read : Levels) → opens at ≡ Ok read → Inner read

    opens_or : {Goal : Type 0} (n at : ℕ) → within end n at ≡ Err (Expected place) → Goal
    unfolding within
    opens_or zero at read = let e = same_err {A = Levels} _ _ read in absurd (cc e)
    opens_or (suc n) at read = no_err _ _ read

    module _ (inside : Inside) where
      -- what a lexeme opens, and what is read inside of it
      opened : {B : Type 0} {Goal : Type 0} (at : ℕ) (f : Levels → Result B QueryRefusal) → (opens at >>= f) ≡ Err (Expected place) → ((read : Levels) → Inner read → f read ≡ Err (Expected place) → Goal) → Goal
      opened at f read step = ⊎_elim (λ p. opens_or b at p) (λ p. step p.0 (inside at p.0 p.1) p.2) (bind_err (opens at) _ _ read)

      -- ---- selectors
      either : {named : Bool} {P : List Lexeme → Type 0} (pre : List Lexeme) → ((xs : List Lexeme) → P xs → Begun (IsOperand b) (pre ++ xs)) → ((xs : List Lexeme) → IsHopeless named xs → EndsHopeless (pre ++ xs))
          → (xs : List Lexeme) → OrHopeless named P xs → Begun (IsOperand b) (pre ++ xs)
      either pre goes stuck xs (OrHopeless.begins is) = goes xs is
      either pre goes stuck xs (OrHopeless.hopeless so) = Begun.hopeless (stuck xs so)

      braced_stops : (name : Option (List ℕ)) (u : Lexeme) → IsSign LeftBrace u → (pre : List Lexeme) → ((xs : List Lexeme) → Begins (IsBraced u name) xs → Begun (IsOperand b) (pre ++ xs))
          → ((xs : List Lexeme) → IsHopeless (is_some name) xs → EndsHopeless (pre ++ xs)) → (at : ℕ) (ls : List Lexeme) → braced_at end at name ls ≡ Err (Expected place)
          → StopsIn (IsOperand b) (pre ++ ls)
      unfolding braced_at
      braced_stops name u sign pre goes stuck at ls read =
          ⊎_elim
          (λ p.
          behind_part end place (OrHopeless (is_some name) (Begins (IsBraced u name))) (Begun (IsOperand b)) pre (pre ++ ls) ls refl (either pre goes stuck)
          (stopping.braces end name u sign place ls p))
          (λ p. no_err _ _ p.2)
          (bind_err (braces_at end name ls) _ _ read)

      unnamed_stops : (l : Lexeme) → IsSign LeftBrace l → (ls : List Lexeme) → braced_at end l.at None ls ≡ Err (Expected place) → StopsIn (IsOperand b) (l ∷ ls)
      unnamed_stops l sign ls read =
          braced_stops None l sign (l ∷ [])
          (λ xs k. Begun.ends k.0 (record { term = a_selector k.1; offset = None; fixed = None; at = l.at; depth = 1; is = Operand.selector (Selected.braces l k.2.1 k.2.2) }))
          (λ xs so. EndsHopeless.unnamed [] l sign so refl) l.at ls read

      metric_stops : (l : Lexeme) (name : List ℕ) → metric_name l.kind ≡ Some name → (ls : List Lexeme) → metric_at end l.at name ls ≡ Err (Expected place) → StopsIn (IsOperand b) (l ∷ ls)
      unfolding metric_at
      metric_stops l name is ls read =
          ⊎_elim
          (λ p.
          let u = begins_found LeftBrace ls p.0 in
          stops_moved (IsOperand b) (l ∷ ls) (l ∷ u.0 ∷ drop 1 ls) (ap (λ z. l ∷ z) u.1)
          (braced_stops (Some name) u.0 u.2 (l ∷ u.0 ∷ [])
          (λ xs k. Begun.ends k.0 (record { term = a_selector k.1; offset = None; fixed = None; at = l.at; depth = 1; is = Operand.selector (Selected.named_braces l name is k.2.1 k.2.2) }))
          (λ xs so. EndsHopeless.named [] l u.0 name is u.2 so refl) l.at (drop 1 ls) p.1))
          (λ p. no_err _ _ p.1)
          (chosen (begins LeftBrace ls) _ _ _ read)

      -- ---- calls and aggregations
      function_or : {Goal : Type 0} (at : ℕ) (name : List ℕ) (found : Looked) → function_found at name found ≡ Err (Expected place) → Goal
      function_or at name (looked.Known f) read = no_err _ _ read
      function_or at name looked.Refused read = let e = same_err {A = Func} _ _ read in absurd (cc e)
      function_or at name looked.Unknown read = let e = same_err {A = Func} _ _ read in absurd (cc e)

      known_function : (at : ℕ) (name : List ℕ) (found : Looked) (f : Func) → function_found at name found ≡ Ok f → found ≡ looked.Known f
      known_function at name (looked.Known g) f read = ap looked.Known (same_ok _ _ read)
      known_function at name looked.Refused f read = no_ok _ _ read
      known_function at name looked.Unknown f read = no_ok _ _ read

      call_ends : (l : Lexeme) (name : List ℕ) (f : Func) → l.kind ≡ kinds.Name name → found_of name ≡ looked.Known f → (c : ℕ) → b ≡ suc c → (xs : List Lexeme) → IsBody c xs → IsOperand b (l ∷ xs)
      call_ends l name f is function c deeper xs body = subst (λ k. IsOperand k (l ∷ xs)) (sym deeper) (from_primary (Primary.call l name f is function body.2))

      call_stops : (l u : Lexeme) (name : List ℕ) → l.kind ≡ kinds.Name name → IsSign LeftParen u → (ls : List Lexeme) → call_at end opens l.at name ls ≡ Err (Expected place) → StopsIn (IsOperand b) (l ∷ u ∷ ls)
      unfolding call_at
      call_stops l u name is sign ls read =
          opened l.at _ read
          (λ levels inner got.
          ⊎_elim (λ p. function_or l.at name (found_of name) p)
          (λ p.
          ⊎_elim
          (λ q.
          ⊎_elim (λ r. no_err (no_arguments, drop 1 ls) _ r.1)
          (λ r.
          stops_behind (IsBody inner.c) (IsOperand b) (l ∷ []) (l ∷ u ∷ ls) (u ∷ ls) refl
          (call_ends l name p.0 is (known_function l.at name (found_of name) p.0 p.1) inner.c inner.deeper)
          (arguments_stop inner.c (levels 5) (inner.sound 5) (inner.halts 5) u sign ls r.1))
          (chosen (begins RightParen ls) (Ok (no_arguments, drop 1 ls)) (arguments_at end (levels 5) ls) _ q))
          (λ q. no_err _ _ q.2)
          (bind_err (call_arguments end (levels 5) ls) (λ arguments. Ok (other l.at (call l.at p.0 arguments.0), arguments.1)) _ p.2))
          (bind_err (function_at l.at name) _ _ got))

      module _ (l : Lexeme) (f : Aggregate) (word : IsWord (Over f) l) (read : Levels) (inner : Inner read) where
        aggregate_ends : (xs : List Lexeme) → IsBody inner.c xs → IsOperand b (l ∷ xs)
        aggregate_ends xs body = subst (λ k. IsOperand k (l ∷ xs)) (sym inner.deeper) (from_primary (Primary.aggregate l f word body.2))

        before_ends : (xs : List Lexeme) (g : Grouping) → Grouped xs g → (ys : List Lexeme) → IsBody inner.c ys → IsOperand b (l ∷ xs ++ ys)
        before_ends xs g grouped ys body = subst (λ k. IsOperand k (l ∷ xs ++ ys)) (sym inner.deeper) (from_primary (Primary.grouped_before l f word grouped body.2 refl))

        behind_ends : (xs : List Lexeme) → IsBody inner.c xs → (ys : List Lexeme) (g : Grouping) → Grouped ys g → IsOperand b (l ∷ xs ++ ys)
        behind_ends xs body ys g grouped = subst (λ k. IsOperand k (l ∷ xs ++ ys)) (sym inner.deeper) (from_primary (Primary.grouped_behind l f word body.2 grouped refl))

        word_begins : (ls : List Lexeme) (without : Bool) → grouping_begun ls ≡ Some without → (w : Lexeme) × (ls ≡ w ∷ drop 1 ls) × (grouping_begun (w ∷ []) ≡ Some without)
        word_begins [] without is = no_some _ is
        word_begins (w ∷ ls) without is = (w, refl, is)

        behind_stops : (xs : List Lexeme) → IsBody inner.c xs → (ls : List Lexeme) (o : Option Bool) → grouping_begun ls ≡ o → optional_grouping o end ls ≡ Err (Expected place) → StopsIn (IsOperand b) (l ∷ xs ++ ls)
        behind_stops xs body ls None begun got = no_err _ _ got
        behind_stops xs body ls (Some without) begun got =
            let w = word_begins ls without begun in
            let s = stopping.groupings end without w.0 w.2 place (drop 1 ls) (ap (grouping_at without end) (sym w.1) ∙ got) in
            record {
              front = l ∷ xs ++ w.0 ∷ s.front;
              back = s.back;
              split = ap (λ z. l ∷ xs ++ z) (w.1 ∙ ap (λ z. w.0 ∷ z) s.split) ∙ ap (λ z. l ∷ z) (sym (append_assoc xs (w.0 ∷ s.front) s.back));
              there = s.there;
              begun =
                  Begun.ends s.begun.0
                  (subst (λ z. IsOperand b (l ∷ z)) (sym (append_assoc xs (w.0 ∷ s.front) s.begun.0)) (behind_ends xs body (w.0 ∷ s.front ++ s.begun.0) s.begun.1 s.begun.2));
            }

        grouped_behind_stops : (ls : List Lexeme) → grouped_behind end (read 5) l.at f ls ≡ Err (Expected place) → StopsIn (IsOperand b) (l ∷ ls)
        unfolding grouped_behind
        grouped_behind_stops ls got =
            ⊎_elim
            (λ p.
            stops_behind (IsBody inner.c) (IsOperand b) (l ∷ []) (l ∷ ls) ls refl aggregate_ends (body_stops inner.c (read 5) (inner.sound 5) (inner.halts 5) ls p))
            (λ p.
            let s = body_found end inner.c (read 5) (inner.sound 5) ls p.0.0 p.0.1 p.1 in
            ⊎_elim
            (λ q.
            stops_moved (IsOperand b) (l ∷ ls) (l ∷ s.front ++ p.0.1) (ap (λ z. l ∷ z) s.split)
            (behind_stops s.front (s.es, s.depth, s.body) p.0.1 (grouping_begun p.0.1) refl q))
            (λ q. no_err _ _ q.2)
            (bind_err _ _ _ p.2))
            (bind_err (body_at end (read 5) ls) _ _ got)

        grouped_before_stops : (ls : List Lexeme) (without : Bool) → grouping_begun ls ≡ Some without → grouped_before end (read 5) l.at f without ls ≡ Err (Expected place) → StopsIn (IsOperand b) (l ∷ ls)
        unfolding grouped_before
        grouped_before_stops ls without begun got =
            ⊎_elim
            (λ p.
            let w = word_begins ls without begun in
            let s = stopping.groupings end without w.0 w.2 place (drop 1 ls) (ap (grouping_at without end) (sym w.1) ∙ p) in
            let tail : List Lexeme = open_sign ∷ one ∷ close_sign ∷ [] in
            record {
              front = l ∷ w.0 ∷ s.front;
              back = s.back;
              split = ap (λ z. l ∷ z) (w.1 ∙ ap (λ z. w.0 ∷ z) s.split);
              there = s.there;
              begun =
                  Begun.ends (s.begun.0 ++ tail)
                  (subst (λ z. IsOperand b (l ∷ w.0 ∷ z)) (append_assoc s.front s.begun.0 tail) (before_ends (w.0 ∷ s.front ++ s.begun.0) s.begun.1 s.begun.2 tail (a_body inner.c)));
            })
            (λ p.
            let g = known.groupings end without ls p.0.0 p.0.1 begun p.1 in
            ⊎_elim
            (λ q.
            stops_behind (IsBody inner.c) (IsOperand b) (l ∷ g.front) (l ∷ ls) p.0.1 (ap (λ z. l ∷ z) g.split) (before_ends g.front p.0.0 g.is)
            (body_stops inner.c (read 5) (inner.sound 5) (inner.halts 5) p.0.1 q))
            (λ q. no_err _ _ q.2)
            (bind_err (body_at end (read 5) p.0.1) _ _ p.2))
            (bind_err (grouping_at without end ls) _ _ got)

        grouped_stops : (ls : List Lexeme) (o : Option Bool) → grouping_begun ls ≡ o → grouped end (read 5) l.at f o ls ≡ Err (Expected place) → StopsIn (IsOperand b) (l ∷ ls)
        grouped_stops ls None begun got = grouped_behind_stops ls got
        grouped_stops ls (Some without) begun got = grouped_before_stops ls without begun got

      aggregate_stops : (l : Lexeme) (f : Aggregate) → IsWord (Over f) l → (ls : List Lexeme) → aggregate_at end opens l.at f ls ≡ Err (Expected place) → StopsIn (IsOperand b) (l ∷ ls)
      unfolding aggregate_at
      aggregate_stops l f word ls read =
          opened l.at _ read
          (λ levels inner got. ⊎_elim (λ p. grouped_stops l f word levels inner ls (grouping_begun ls) refl p) (λ p. no_err _ _ p.2) (bind_err (grouped end (levels 5) l.at f (grouping_begun ls) ls) _ _ got))

      -- ---- what begins an operand
      refused_name_or : {Goal : Type 0} (at : ℕ) (name : List ℕ) → refused_at_name end opens at name ≡ Err (Expected place) → Goal
      unfolding refused_at_name
      refused_name_or at name read = opened at _ read (λ levels inner got. let e = same_err {A = Made × List Lexeme} _ _ got in absurd (cc e))

      named_stops : (l : Lexeme) (name : List ℕ) → l.kind ≡ kinds.Name name → (ls : List Lexeme) → named_at end opens l.at name ls ≡ Err (Expected place) → StopsIn (IsOperand b) (l ∷ ls)
      unfolding named_at
      named_stops l name is ls read =
          ⊎_elim (λ p. let u = begins_found LeftParen ls p.0 in stops_moved (IsOperand b) (l ∷ ls) (l ∷ u.0 ∷ drop 1 ls) (ap (λ z. l ∷ z) u.1) (call_stops l u.0 name is u.2 (drop 1 ls) p.1))
          (λ p.
          ⊎_elim (λ q. refused_name_or l.at name q.1) (λ q. metric_stops l name (ap metric_name is) ls q.1) (chosen (begins_grouping ls && is_refused_aggregation name) _ _ _ p.1))
          (chosen (begins LeftParen ls) _ _ _ read)

      -- a lexeme that begins no operand
      none_begins : (l : Lexeme) (ls : List Lexeme) → refused l ≡ Expected place → StopsIn (IsOperand b) (l ∷ ls)
      none_begins l ls there = ended (IsOperand b) [] (l ∷ ls) (l ∷ ls) (one ∷ []) refl there (an_operand b)

      word_refused : (l : Lexeme) (word : Word) (spelling : List ℕ) → l.kind ≡ kinds.Word word spelling → (ls : List Lexeme) → ◌≡◌ {A = Read Made} (Err (Expected l.at)) (Err (Expected place)) → StopsIn (IsOperand b) (l ∷ ls)
      word_refused l word spelling is ls read = none_begins l ls (ap (refused_kind l.at) is ∙ same_err {A = Made × List Lexeme} _ _ read)

      word_stops : (l : Lexeme) (word : Word) (spelling : List ℕ) → l.kind ≡ kinds.Word word spelling → (ls : List Lexeme) → word_at end opens l.at word spelling ls ≡ Err (Expected place) → StopsIn (IsOperand b) (l ∷ ls)
      word_stops l (Over f) spelling is ls read =
          ⊎_elim (λ p. aggregate_stops l f (spelling, is) ls p.1) (λ p. metric_stops l spelling (ap metric_name is) ls p.1) (chosen (begins LeftParen ls || begins_grouping ls) _ _ _ read)
      word_stops l Flag spelling is ls read = word_refused l Flag spelling is ls read
      word_stops l On spelling is ls read = word_refused l On spelling is ls read
      word_stops l Ignoring spelling is ls read = word_refused l Ignoring spelling is ls read
      word_stops l GroupLeft spelling is ls read = word_refused l GroupLeft spelling is ls read
      word_stops l GroupRight spelling is ls read = word_refused l GroupRight spelling is ls read
      word_stops l Atan2 spelling is ls read = word_refused l Atan2 spelling is ls read
      word_stops l _ spelling is ls read = metric_stops l spelling (ap metric_name is) ls read

      paren_ends : (l : Lexeme) → IsSign LeftParen l → (c : ℕ) → b ≡ suc c → (xs : List Lexeme) → IsPhrase c 5 xs → IsOperand b (l ∷ xs ++ close_sign ∷ [])
      paren_ends l sign c deeper xs p = subst (λ k. IsOperand k (l ∷ xs ++ close_sign ∷ [])) (sym deeper) (from_primary (Primary.paren l close_sign sign p.2 refl refl))

      paren_stops : (l : Lexeme) → IsSign LeftParen l → (ls : List Lexeme) → paren_at end opens l.at ls ≡ Err (Expected place) → StopsIn (IsOperand b) (l ∷ ls)
      unfolding paren_at
      paren_stops l sign ls read =
          opened l.at _ read
          (λ levels inner got.
          ⊎_elim
          (λ p.
          stops_within (IsPhrase inner.c 5) (IsOperand b) (l ∷ []) (close_sign ∷ []) (l ∷ ls) ls refl (paren_ends l sign inner.c inner.deeper) (inner.halts 5 ls p))
          (λ p.
          let f = inner.sound 5 ls p.0.0 p.0.1 p.1 in
          ⊎_elim
          (λ q.
          ended (IsOperand b) (l ∷ f.front) (l ∷ ls) p.0.1 (close_sign ∷ []) (ap (λ z. l ∷ z) f.split) (after_stops end place RightParen p.0.1 q)
          (paren_ends l sign inner.c inner.deeper f.front (f.e, f.depth, f.phrase)))
          (λ q. no_err _ _ q.2)
          (bind_err (after end RightParen p.0.1) _ _ p.2))
          (bind_err (levels 5 ls) _ _ got))

      seconds_or : {Goal : Type 0} (at : ℕ) (duration : Ms) (o : Option XFrac) → formed duration.0 1000 ≡ o → seconds_of at duration ≡ Err (Expected place) → Goal
      seconds_or at duration None is read = let h = rw is at read in let e = same_err {A = XFrac} _ _ h in absurd (cc e)
      seconds_or at duration (Some value) is read = let h = rw is at read in no_err _ _ h

      duration_or : {Goal : Type 0} (at : ℕ) (duration : Ms) (ls : List Lexeme) → duration_at end at duration ls ≡ Err (Expected place) → Goal
      unfolding duration_at
      duration_or at duration ls read = ⊎_elim (λ p. seconds_or at duration (formed duration.0 1000) refl p) (λ p. no_err _ _ p.2) (bind_err (seconds_of at duration) _ _ read)

      primary_stops : (l : Lexeme) (k : LexemeKind) → l.kind ≡ k → (ls : List Lexeme) → primary_kind end opens l k ls ≡ Err (Expected place) → StopsIn (IsOperand b) (l ∷ ls)
      primary_stops l (kinds.Number value) is ls read = no_err _ _ read
      primary_stops l (kinds.Duration duration) is ls read = duration_or l.at duration ls read
      primary_stops l (kinds.Quoted text) is ls read = no_err _ _ read
      primary_stops l (kinds.Sign LeftParen) is ls read = paren_stops l is ls read
      primary_stops l (kinds.Sign LeftBrace) is ls read = unnamed_stops l is ls read
      primary_stops l (kinds.Name name) is ls read = named_stops l name is ls read
      primary_stops l (kinds.Word word spelling) is ls read = word_stops l word spelling is ls read
      primary_stops l _ is ls read = none_begins l ls (same_err {A = Made × List Lexeme} _ _ read)

      -- ---- what stands behind an operand
      module _ (all : List Lexeme) where
        abbrev Read_so_far : Made → List Lexeme → Type 0
        Read_so_far made ls = OperandFound b all made ls

        postfix_keeps : (o : Made) (ls : List Lexeme) (next : Made) (rest : List Lexeme) → Read_so_far o ls → postfix_turn end o ls ≡ Ok (true, next, rest) → Read_so_far next rest
        unfolding turns
        postfix_keeps o ls next rest f read =
            let more = postfixes_found known end b (found_inside known end b) 1 f.front f.term f.offset f.fixed f.at f.depth ls next rest f.operand
            (ap (λ r. r >>= λ n. cond n.0 (turns (postfix_turn end) 0 n.1 n.2) (Ok (n.1, n.2))) (ap (λ z. postfix_turn end z ls) (sym f.made_so) ∙ read)) in
            record {
              front = more.front;
              term = more.term;
              offset = more.offset;
              fixed = more.fixed;
              at = more.at;
              depth = more.depth;
              split = f.split ∙ more.split;
              operand = more.operand;
              made_so = more.made_so;
            }

        module _ (l : Lexeme) (ls : List Lexeme) (front : List Lexeme) (term : Term) (offset : Option Ms) (fixed : Option Fixed) (at d : ℕ) (split : all ≡ front ++ l ∷ ls)
            (operand : Operand b term offset fixed front at d) where
          abbrev now : Made
          now = operand_of at term offset fixed d

          -- what stands behind the operand and a lexeme
          behind_it : {P : List Lexeme → Type 0} (s : StopsAt end place P ls) → ((xs : List Lexeme) → P xs → (more : List Lexeme) × IsOperand b (front ++ l ∷ (xs ++ more))) → StopsIn (IsOperand b) all
          behind_it s step =
              let k = step s.front s.begun in record {
                front = front ++ l ∷ s.front;
                back = s.back;
                split = split ∙ ap (λ z. front ++ l ∷ z) s.split ∙ sym (append_assoc front (l ∷ s.front) s.back);
                there = s.there;
                begun = Begun.ends k.0 (subst (IsOperand b) (sym (append_assoc front (l ∷ s.front) k.0)) k.1);
              }

          by_brackets : (xs : List Lexeme) (found : Brackets) → IsBrackets l (is_plain now) xs found → IsOperand b (front ++ l ∷ xs)
          by_brackets xs (brackets.Range length) is = ranged (plain_found at term offset fixed d is.0) operand is.1
            where
              ranged : {t : Term} {o : Option Ms} {x : Option Fixed} → IsPlain t o x → Operand b t o x front at d → RangeBrackets (l ∷ xs) length → IsOperand b (front ++ l ∷ xs)
              ranged (IsPlain.plain rules) selector range = record { term = _; offset = _; fixed = _; at = _; depth = _; is = Operand.range selector range refl }
          by_brackets xs (brackets.Steps length step) is = record { term = _; offset = _; fixed = _; at = _; depth = _; is = Operand.subquery operand is refl }

          bracket_stops : IsSign LeftBracket l → bracket_turn end now ls ≡ Err (Expected place) → StopsIn (IsOperand b) all
          unfolding bracket_turn
          bracket_stops sign read =
              ⊎_elim (λ p. behind_it (stopping.brackets end (is_plain now) l sign place ls p) (λ xs k. (k.0, by_brackets (xs ++ k.0) k.1 k.2))) (λ p. no_err _ _ p.2)
              (bind_err (brackets_at (is_plain now) end ls) _ _ read)

          offset_stops : IsWord Offset l → may_offset now ≡ true → offset_turn end now ls ≡ Err (Expected place) → StopsIn (IsOperand b) all
          unfolding offset_turn
          offset_stops word may read =
              let free = offset_found at term offset fixed d may in
              let before : Operand b term None fixed front at d = subst (λ o. Operand b term o fixed front at d) free.1 operand in
              ⊎_elim
              (λ p.
              behind_it (stopping.offsets end place ls p)
              (λ xs k. (k.0, record { term = _; offset = _; fixed = _; at = _; depth = _; is = Operand.offset before free.0 (OffsetBehind.offset l word k.2) refl })))
              (λ p. no_err _ _ p.2)
              (bind_err (offset_at end ls) _ _ read)

          time_stops : IsSign AtSign l → may_fix now ≡ true → time_turn end now ls ≡ Err (Expected place) → StopsIn (IsOperand b) all
          unfolding time_turn
          time_stops sign may read =
              let free = time_found at term offset fixed d may in
              let before : Operand b term offset None front at d = subst (λ o. Operand b term offset o front at d) free.1 operand in
              ⊎_elim
              (λ p. behind_it (stopping.times end l sign place ls p) (λ xs k. (k.0, record { term = _; offset = _; fixed = _; at = _; depth = _; is = Operand.time before free.0 k.2 refl })))
              (λ p. no_err _ _ p.2)
              (bind_err (when_at end ls) _ _ read)

          kind_stops : (k : LexemeKind) → l.kind ≡ k → postfix_kind end now k (l ∷ ls) ≡ Err (Expected place) → StopsIn (IsOperand b) all
          kind_stops (kinds.Sign LeftBracket) is read = bracket_stops is read
          kind_stops (kinds.Word Offset spelling) is read = ⊎_elim (λ p. offset_stops (spelling, is) p.0 p.1) (λ p. no_err _ _ p.1) (chosen (may_offset now) _ _ _ read)
          kind_stops (kinds.Sign AtSign) is read = ⊎_elim (λ p. time_stops is p.0 p.1) (λ p. no_err _ _ p.1) (chosen (may_fix now) _ _ _ read)
          kind_stops _ is read = no_err _ _ read

        postfix_stops : (o : Made) (ls : List Lexeme) → Read_so_far o ls → postfix_turn end o ls ≡ Err (Expected place) → StopsIn (IsOperand b) all
        postfix_stops o [] f read = no_err _ _ read
        postfix_stops o (l ∷ ls) f read =
            kind_stops l ls f.front f.term f.offset f.fixed f.at f.depth f.split f.operand l.kind refl (ap (λ z. postfix_turn end z (l ∷ ls)) (sym f.made_so) ∙ read)

      operand_stops : (l : Lexeme) (ls : List Lexeme) → operand_at end opens l ls ≡ Err (Expected place) → StopsIn (IsOperand b) (l ∷ ls)
      unfolding operand_at
      operand_stops l ls read =
          ⊎_elim (λ p. primary_stops l l.kind refl ls p)
          (λ p.
          turns_stop (postfix_turn end) place (Read_so_far (l ∷ ls)) (postfix_keeps (l ∷ ls)) (postfix_stops (l ∷ ls)) (suc (length p.0.1)) p.0.0 p.0.1
          (primary_found known end b (found_inside known end b) l l.kind refl ls p.0.0 p.0.1 p.1) p.2)
          (bind_err (primary_at end opens l ls) _ _ read)

      -- ---- operators
      one_apart : (bare : Bool) → begins_labels bare (one ∷ []) ≡ false
      one_apart true = refl
      one_apart false = refl

      -- a right side, which a parenthesis doesn't begin where that would begin labels
      abbrev IsSide : ℕ → ℕ → Bool → List Lexeme → Type 0
      IsSide c level bare xs = IsPhrase c level xs × (begins_labels bare xs ≡ false)

      side_begun : (c level : ℕ) (bare : Bool) (zs back : List Lexeme) → begins_labels bare (zs ++ back) ≡ false → Begun (IsPhrase c level) zs → Begun (IsSide c level bare) zs
      side_begun c level bare [] back apart begun = Begun.ends (one ∷ []) (a_phrase c level, one_apart bare)
      side_begun c level bare (z ∷ zs) back apart (Begun.ends more is) = Begun.ends more (is, apart)
      side_begun c level bare (z ∷ zs) back apart (Begun.hopeless so) = Begun.hopeless so

      module _ (op : BinaryOp) (c level : ℕ) (Q : List Lexeme → Type 0) (all front ls : List Lexeme) (l : Lexeme) (split : all ≡ front ++ l ∷ ls)
          (step : (ys : List Lexeme) (m : Matching) (bare : Bool) → BinModifier op ys m bare → (zs : List Lexeme) → IsSide c level bare zs → Q (front ++ l ∷ (ys ++ zs))) (reader : List Lexeme → Read Built)
          (stops : (ls : List Lexeme) → reader ls ≡ Err (Expected place) → StopsIn (IsPhrase c level) ls) where
        matching_stops : matching_at op end ls ≡ Err (Expected place) → StopsIn Q all
        matching_stops read =
            let s = stopping.matchings op end place ls read in
            let more : List Lexeme = s.begun.more in
            record {
              front = front ++ l ∷ s.front;
              back = s.back;
              split = split ∙ ap (λ z. front ++ l ∷ z) s.split ∙ sym (append_assoc front (l ∷ s.front) s.back);
              there = s.there;
              begun =
                  Begun.ends (more ++ one ∷ [])
                  (subst Q (ap (λ z. front ++ l ∷ z) (append_assoc s.front more (one ∷ [])) ∙ sym (append_assoc front (l ∷ s.front) (more ++ one ∷ [])))
                  (step (s.front ++ more) s.begun.matching s.begun.bare s.begun.is (one ∷ []) (a_phrase c level, one_apart s.begun.bare)));
            }

        right_stops : (m : Matching) (rest : List Lexeme) → matching_at op end ls ≡ Ok (m, rest) → reader rest ≡ Err (Expected place) → StopsIn Q all
        right_stops m rest is read =
            let between = known.matchings op end ls m rest is in
            let ys : List Lexeme = between.found.front in
            let s = stops rest read in
            let side : StopsAt end place (Begun (IsSide c level between.bare)) rest = record {
              front = s.front;
              back = s.back;
              split = s.split;
              there = s.there;
              begun = side_begun c level between.bare s.front s.back (ap (begins_labels between.bare) (sym s.split) ∙ between.apart) s.begun;
            } in
            stops_behind (IsSide c level between.bare) Q (front ++ l ∷ ys) all rest (split ∙ ap (λ z. front ++ l ∷ z) between.found.split ∙ sym (append_assoc front (l ∷ ys) rest))
            (λ xs k. subst Q (sym (append_assoc front (l ∷ ys) xs)) (step ys m between.bare between.found.is xs k)) side

        sides_stop : {B : Type 0} (f : Matching × List Lexeme → Built × List Lexeme → B) → (matching_at op end ls >>= λ m. reader m.1 >>= λ r. Ok (f m r)) ≡ Err (Expected place) → StopsIn Q all
        sides_stop f read =
            ⊎_elim (λ p. matching_stops p) (λ p. ⊎_elim (λ q. right_stops p.0.0 p.0.1 p.1 q) (λ q. no_err _ _ q.2) (bind_err (reader p.0.1) _ _ p.2)) (bind_err (matching_at op end ls) _ _ read)

      -- ---- signs and powers
      module _ (all front : List Lexeme) (o : IsOperand b front) where
        power_ends : (c : ℕ) → b ≡ suc c → (l : Lexeme) → IsSign Caret l → (ys : List Lexeme) (m : Matching) (bare : Bool) → BinModifier (Arith Pow) ys m bare → (zs : List Lexeme) → IsSide c 0 bare zs
            → IsPhrase b 0 (front ++ l ∷ (ys ++ zs))
        power_ends c deeper l sign ys m bare is zs side =
            subst (λ k. IsPhrase k 0 (front ++ l ∷ (ys ++ zs))) (sym deeper)
            (_, _, Phrase.power {xs = front} {ys = ys} {zs = zs} l (subst (λ k. Operand k o.term o.offset o.fixed front o.at o.depth) deeper o.is) sign is side.0.2 side.1 refl)

        exponent_stops : (l : Lexeme) → IsSign Caret l → (base : Built) (ls : List Lexeme) → all ≡ front ++ l ∷ ls → exponent_at end opens l.at base ls ≡ Err (Expected place) → StopsIn (IsPhrase b 0) all
        unfolding exponent_at raised_at
        exponent_stops l sign base ls split read =
            opened l.at _ read
            (λ levels inner got.
            sides_stop (Arith Pow) inner.c 0 (IsPhrase b 0) all front ls l split (power_ends inner.c inner.deeper l sign) (levels 0) (inner.halts 0)
            (λ m r. (binary (Arith Pow) m.0 base r.0, r.1)) got)

        power_kind_stops : (l : Lexeme) (k : LexemeKind) → l.kind ≡ k → (base : Built) (ls : List Lexeme) → all ≡ front ++ l ∷ ls → power_kind end opens l base k ls ≡ Err (Expected place) → StopsIn (IsPhrase b 0) all
        power_kind_stops l (kinds.Sign Caret) is base ls split read = exponent_stops l is base ls split read
        power_kind_stops l (kinds.Word Atan2 spelling) is base ls split read = let e = same_err {A = Built × List Lexeme} _ _ read in absurd (cc e)
        power_kind_stops l _ is base ls split read = no_err _ _ read

        power_behind_stops : (base : Built) (ls : List Lexeme) → all ≡ front ++ ls → power_behind end opens base ls ≡ Err (Expected place) → StopsIn (IsPhrase b 0) all
        power_behind_stops base [] split read = no_err _ _ read
        power_behind_stops base (l ∷ ls) split read = power_kind_stops l l.kind refl base ls split read

      power_stops : (l : Lexeme) (ls : List Lexeme) → power_at end opens l ls ≡ Err (Expected place) → StopsIn (IsPhrase b 0) (l ∷ ls)
      unfolding power_at
      power_stops l ls read =
          ⊎_elim (λ p. stops_as (IsOperand b) (IsPhrase b 0) (l ∷ ls) (λ xs o. operand_phrase o) (operand_stops l ls p))
          (λ p.
          let f = operand_is known end b (found_inside known end b) l ls p.0.0 p.0.1 p.1 in
          let o : IsOperand b f.front = record { term = f.term; offset = f.offset; fixed = f.fixed; at = f.at; depth = f.depth; is = f.operand } in
          power_behind_stops (l ∷ ls) f.front o (operand_built p.0.0) p.0.1 f.split p.2)
          (bind_err (operand_at end opens l ls) _ _ read)

      minus_ends : (l : Lexeme) → IsSign Minus l → (c : ℕ) → b ≡ suc c → (xs : List Lexeme) → IsPhrase c 0 xs → IsPhrase b 0 (l ∷ xs)
      minus_ends l sign c deeper xs p = subst (λ k. IsPhrase k 0 (l ∷ xs)) (sym deeper) (_, _, Phrase.minus l sign p.2)

      plus_ends : (l : Lexeme) → IsSign Plus l → (c : ℕ) → b ≡ suc c → (xs : List Lexeme) → IsPhrase c 0 xs → IsPhrase b 0 (l ∷ xs)
      plus_ends l sign c deeper xs p = subst (λ k. IsPhrase k 0 (l ∷ xs)) (sym deeper) (_, _, Phrase.plus l sign p.2)

      minus_stops : (l : Lexeme) → IsSign Minus l → (ls : List Lexeme) → minus_at end opens l.at ls ≡ Err (Expected place) → StopsIn (IsPhrase b 0) (l ∷ ls)
      unfolding minus_at
      minus_stops l sign ls read =
          opened l.at _ read
          (λ levels inner got.
          ⊎_elim (λ p. stops_behind (IsPhrase inner.c 0) (IsPhrase b 0) (l ∷ []) (l ∷ ls) ls refl (minus_ends l sign inner.c inner.deeper) (inner.halts 0 ls p)) (λ p. no_err _ _ p.2) (bind_err (levels 0 ls) _ _ got))

      plus_stops : (l : Lexeme) → IsSign Plus l → (ls : List Lexeme) → plus_at end opens l.at ls ≡ Err (Expected place) → StopsIn (IsPhrase b 0) (l ∷ ls)
      unfolding plus_at
      plus_stops l sign ls read =
          opened l.at _ read
          (λ levels inner got.
          ⊎_elim (λ p. stops_behind (IsPhrase inner.c 0) (IsPhrase b 0) (l ∷ []) (l ∷ ls) ls refl (plus_ends l sign inner.c inner.deeper) (inner.halts 0 ls p)) (λ p. no_err _ _ p.2) (bind_err (levels 0 ls) _ _ got))

      unary_kind_stops : (l : Lexeme) (k : LexemeKind) → l.kind ≡ k → (ls : List Lexeme) → unary_kind end opens l k ls ≡ Err (Expected place) → StopsIn (IsPhrase b 0) (l ∷ ls)
      unary_kind_stops l (kinds.Sign Minus) is ls read = minus_stops l is ls read
      unary_kind_stops l (kinds.Sign Plus) is ls read = plus_stops l is ls read
      unary_kind_stops l _ is ls read = power_stops l ls read

      unary_stops : (ls : List Lexeme) → unary_at end opens ls ≡ Err (Expected place) → StopsIn (IsPhrase b 0) ls
      unary_stops [] read = ended (IsPhrase b 0) [] [] [] (one ∷ []) refl (same_err {A = Built × List Lexeme} _ _ read) (a_phrase b 0)
      unary_stops (l ∷ ls) read = unary_kind_stops l l.kind refl ls read

      -- ---- levels
      abbrev LevelStops : ℕ → Type 0
      LevelStops level = (ls : List Lexeme) → level_at end opens level ls ≡ Err (Expected place) → StopsIn (IsPhrase b level) ls

      module _ (level : ℕ) (tighter : LevelStops level) (all : List Lexeme) where
        chain_keeps : (made : Built) (ls : List Lexeme) (next : Built) (rest : List Lexeme) → Parsed b (suc level) all made ls → chain_turn end (suc level) (level_at end opens level) made ls ≡ Ok (true, next, rest)
            → Parsed b (suc level) all next rest
        unfolding turns
        chain_keeps made ls next rest f read =
            let inner = found_inside known end b in
            let more = turns_found known end b inner level (levels_found known end b inner level) 1 f.front f.e f.depth ls next rest f.phrase
            (ap (λ r. r >>= λ n. cond n.0 (turns (chain_turn end (suc level) (level_at end opens level)) 0 n.1 n.2) (Ok (n.1, n.2)))
            (ap (λ z. chain_turn end (suc level) (level_at end opens level) z ls) (sym f.made_so) ∙ read)) in
            record { front = more.front; e = more.e; depth = more.depth; split = f.split ∙ more.split; phrase = more.phrase; made_so = more.made_so }

        binary_ends : (made : Built) (rest : List Lexeme) (f : Parsed b (suc level) all made rest) (op : BinaryOp) (l : Lexeme) → op_of (suc level) l.kind ≡ Some op → (ys : List Lexeme) (m : Matching) (bare : Bool)
            → BinModifier op ys m bare → (zs : List Lexeme) → IsSide b level bare zs → IsPhrase b (suc level) (f.front ++ l ∷ (ys ++ zs))
        binary_ends made rest f op l is ys m bare modifier zs side = (_, _, Phrase.binary {xs = f.front} {ys = ys} {zs = zs} l f.phrase is modifier side.0.2 side.1 refl)

        chain_from_stops : (made : Built) (ls : List Lexeme) → Parsed b (suc level) all made ls → (o : Option BinaryOp) → op_at (suc level) ls ≡ o
            → chain_from end (level_at end opens level) made o ls ≡ Err (Expected place) → StopsIn (IsPhrase b (suc level)) all
        unfolding side_at
        chain_from_stops made ls f None is read = no_err _ _ read
        chain_from_stops made ls f (Some op) is read =
            let sign = op_begins known end b (found_inside known end b) level (levels_found known end b (found_inside known end b) level) ls op is in
            sides_stop op b level (IsPhrase b (suc level)) all f.front (drop 1 ls) sign.0 (f.split ∙ ap (λ z. f.front ++ z) sign.1) (binary_ends made ls f op sign.0 sign.2) (level_at end opens level) tighter
            (λ m r. (true, binary op m.0 made r.0, r.1)) read

        chain_stops : (made : Built) (ls : List Lexeme) → Parsed b (suc level) all made ls → chain_turn end (suc level) (level_at end opens level) made ls ≡ Err (Expected place)
            → StopsIn (IsPhrase b (suc level)) all
        chain_stops made ls f read = chain_from_stops made ls f (op_at (suc level) ls) refl read

      looser : (level : ℕ) (xs : List Lexeme) → IsPhrase b level xs → IsPhrase b (suc level) xs
      looser level xs p = (p.0, p.1, Phrase.tighter p.2)

      levels_stop : (level : ℕ) → LevelStops level
      unfolding level_at
      levels_stop zero ls read = unary_stops ls read
      levels_stop (suc level) ls read =
          ⊎_elim (λ p. stops_as (IsPhrase b level) (IsPhrase b (suc level)) ls (looser level) (levels_stop level ls p))
          (λ p.
          let f = levels_found known end b (found_inside known end b) level ls p.0.0 p.0.1 p.1 in
          turns_stop (chain_turn end (suc level) (level_at end opens level)) place (λ made rest. Parsed b (suc level) ls made rest) (chain_keeps level (levels_stop level) ls) (chain_stops level (levels_stop level) ls)
          (suc (length p.0.1)) p.0.0 p.0.1 (record { front = f.front; e = f.e; depth = f.depth; split = f.split; phrase = Phrase.tighter f.phrase; made_so = f.made_so }) p.2)
          (bind_err (level_at end opens level ls) _ _ read)

  module _ (known : Parts) (stopping : Stopping) where
    abbrev AllStop : ℕ → Type 0
    AllStop b = (level : ℕ) (ls : List Lexeme) → level_at end (within end b) level ls ≡ Err (Expected place) → StopsIn (IsPhrase b level) ls

    nothing_inside : Inside known stopping 0
    unfolding within
    nothing_inside at read got = no_ok _ _ got

    inside_next : (b : ℕ) → AllStop b → Inside known stopping (suc b)
    unfolding within
    inside_next b all at read got = record {
      c = b;
      deeper = refl;
      sound = λ level ls made rest is. found known end b level ls made rest (ap (λ (f : Levels). f level ls) (same_ok _ _ got) ∙ is);
      halts = λ level ls is. all level ls (ap (λ (f : Levels). f level ls) (same_ok _ _ got) ∙ is);
    }

    all_stop : (b : ℕ) → AllStop b
    all_stop zero level ls read = levels_stop known stopping 0 nothing_inside level ls read
    all_stop (suc b) level ls read = levels_stop known stopping (suc b) (inside_next b (all_stop b)) level ls read

begun_query : (front : List Lexeme) → Begun (IsPhrase 128 5) front → BeginsAQuery front ⊎ EndsHopeless front
begun_query front (Begun.ends more is) = inl (more, is.0, is.1, is.2)
begun_query front (Begun.hopeless so) = inr so

-- a query with a lexeme behind it
finished_stops : (end place : ℕ) (made : Built) (rest : List Lexeme) → finished end (made, rest) ≡ Err (Expected place) → refused_at end rest ≡ Expected place
finished_stops end place built.Deep [] read = let e = same_err {A = Expr} _ _ read in absurd (cc e)
finished_stops end place (built.Whole e d) [] read = no_err _ _ read
finished_stops end place built.Deep (l ∷ ls) read = same_err {A = Expr} _ _ read
finished_stops end place (built.Whole e d) (l ∷ ls) read = same_err {A = Expr} _ _ read

pub unexpected_is_first : Parts → Stopping → UnexpectedIsFirst
unfolding reading
unexpected_is_first known stopping end place ls read =
    ⊎_elim
    (λ p. behind_part end place (Begun (IsPhrase 128 5)) (λ front. BeginsAQuery front ⊎ EndsHopeless front) [] ls ls refl begun_query (all_stop end place known stopping 128 5 ls p))
    (λ p.
    let f = found known end 128 5 ls p.0.0 p.0.1 p.1 in
    record {
      front = f.front;
      back = p.0.1;
      split = f.split;
      there = finished_stops end place p.0.0 p.0.1 p.2;
      begun = inl ([], f.e, f.depth, subst (λ z. Phrase 128 5 z f.e f.depth) (sym (append-nil f.front)) f.phrase);
    })
    (bind_err (level_at end (within end 128) 5 ls) _ _ read)
