-- What may stand behind an operand or a phrase without going on with it: nothing, a closing parenthesis, a comma, or an
-- operator of a looser level.
use Rattle.std.proofs.Common.{◌≡◌, ◌<◌, ℕ, zero, suc, refl, ap, ◌∙◌, sym, ⊎_elim, false, List, [], ◌∷◌, arith, ne_eqb}
use Rattle.std.proofs.lemmas.Bool.{cond-false, eqb-true}
use Rattle.std.specs.Prelude.{◌==◌, Option, Some, None, Ok}
use Rattle.promql_parse.specs.Reading.{Opens, postfix_kind, postfix_turn, power_behind, power_kind}
use Rattle.promql_parse.specs.declared.build.Built.{Built}
use Rattle.promql_parse.specs.declared.build.Operand.{Operand as Made}
use Rattle.promql_parts.specs.Labels.{grouping_begun, grouping_word}
use Rattle.promql_parts.specs.Operators.{of_level, op_at, op_of, operator_of}
use Rattle.promql_parts.specs.Productions.{IsSign}
use Rattle.promql_parts.specs.Reads.{begins}
use Rattle.promql_parts.specs.Signs.{is_sign}
use Rattle.promql_parts.specs.Steps.{chosen, no_some}
use Rattle.promql_parts.specs.declared.lexeme.Lexeme.{Lexeme}
use Rattle.promql_parts.specs.declared.lexeme.LexemeKind.{LexemeKind}
use Rattle.promql_parts.specs.declared.lexeme.LexemeKind.TheVariants as kinds
use Rattle.promql_parts.specs.declared.lexeme.Sign.TheVariants.{LeftParen, RightParen, LeftBrace, Comma, Plus, Minus, Star, Slash, Percent, Caret, EqualTwice, Unequal, Less, LessEqual, Greater, GreaterEqual}
use Rattle.promql_lex.specs.declared.word.Word.TheVariants.{And, Or, Unless}
use Rattle.promql_parts.specs.declared.operator.BinaryOp.{BinaryOp}

-- behind the first part of an operand
pub record Apart (ls : List Lexeme) : Type 0 where
  pub paren : begins LeftParen ls ≡ false
  pub brace : begins LeftBrace ls ≡ false
  pub group : grouping_begun ls ≡ None

module _ (end : ℕ) where
  -- behind an operand with its powers
  pub record Quiet (ls : List Lexeme) : Type 0 where
    pub apart : Apart ls
    pub postfix : (o : Made) → postfix_turn end o ls ≡ Ok (false, o, ls)
    pub power : (opens : Opens) (base : Built) → power_behind end opens base ls ≡ Ok (base, ls)

  pub quiet_end : Quiet []
  quiet_end = record { apart = record { paren = refl; brace = refl; group = refl }; postfix = λ o. refl; power = λ opens base. refl }

  pub quiet_by : (u : Lexeme) (us : List Lexeme) (k : LexemeKind) → u.kind ≡ k → is_sign LeftParen k ≡ false → is_sign LeftBrace k ≡ false → grouping_word k ≡ None
      → ((o : Made) → postfix_kind end o k (u ∷ us) ≡ Ok (false, o, u ∷ us)) → ((opens : Opens) (base : Built) → power_kind end opens u base k us ≡ Ok (base, u ∷ us)) → Quiet (u ∷ us)
  quiet_by u us k is paren brace group postfix power = record {
    apart = record { paren = ap (is_sign LeftParen) is ∙ paren; brace = ap (is_sign LeftBrace) is ∙ brace; group = ap grouping_word is ∙ group };
    postfix = λ o. ap (λ x. postfix_kind end o x (u ∷ us)) is ∙ postfix o;
    power = λ opens base. ap (λ x. power_kind end opens u base x us) is ∙ power opens base;
  }

  pub quiet_close : (u : Lexeme) (us : List Lexeme) → IsSign RightParen u → Quiet (u ∷ us)
  quiet_close u us is = quiet_by u us (kinds.Sign RightParen) is refl refl refl (λ o. refl) (λ opens base. refl)

  pub quiet_comma : (u : Lexeme) (us : List Lexeme) → IsSign Comma u → Quiet (u ∷ us)
  quiet_comma u us is = quiet_by u us (kinds.Sign Comma) is refl refl refl (λ o. refl) (λ opens base. refl)

  level_of : (o : Option (ℕ × BinaryOp)) (level : ℕ) (op : BinaryOp) → of_level level o ≡ Some op → (other : BinaryOp) × (o ≡ Some (level, other))
  level_of None level op is = no_some _ is
  level_of (Some (other, found)) level op is =
      ⊎_elim (λ p. (found, ap (λ n. Some (n, found)) (eqb-true other level p.0))) (λ p. no_some _ p.1) (chosen (other == level) _ _ _ is)

  no_power_level : (level : ℕ) (op other : BinaryOp) → of_level (suc level) (Some (0, other)) ≡ Some op → ⊥
  no_power_level level op other is = no_some _ (sym (cond-false (0 == suc level) (Some other) None (ne_eqb 0 (suc level) (λ e. omega (arith, e)))) ∙ is)

  quiet_op : (level : ℕ) (u : Lexeme) (us : List Lexeme) (k : LexemeKind) → u.kind ≡ k → (op : BinaryOp) → op_of (suc level) k ≡ Some op → Quiet (u ∷ us)
  quiet_op level u us (kinds.Sign Star) is op of = quiet_by u us _ is refl refl refl (λ o. refl) (λ opens base. refl)
  quiet_op level u us (kinds.Sign Slash) is op of = quiet_by u us _ is refl refl refl (λ o. refl) (λ opens base. refl)
  quiet_op level u us (kinds.Sign Percent) is op of = quiet_by u us _ is refl refl refl (λ o. refl) (λ opens base. refl)
  quiet_op level u us (kinds.Sign Plus) is op of = quiet_by u us _ is refl refl refl (λ o. refl) (λ opens base. refl)
  quiet_op level u us (kinds.Sign Minus) is op of = quiet_by u us _ is refl refl refl (λ o. refl) (λ opens base. refl)
  quiet_op level u us (kinds.Sign EqualTwice) is op of = quiet_by u us _ is refl refl refl (λ o. refl) (λ opens base. refl)
  quiet_op level u us (kinds.Sign Unequal) is op of = quiet_by u us _ is refl refl refl (λ o. refl) (λ opens base. refl)
  quiet_op level u us (kinds.Sign Less) is op of = quiet_by u us _ is refl refl refl (λ o. refl) (λ opens base. refl)
  quiet_op level u us (kinds.Sign LessEqual) is op of = quiet_by u us _ is refl refl refl (λ o. refl) (λ opens base. refl)
  quiet_op level u us (kinds.Sign Greater) is op of = quiet_by u us _ is refl refl refl (λ o. refl) (λ opens base. refl)
  quiet_op level u us (kinds.Sign GreaterEqual) is op of = quiet_by u us _ is refl refl refl (λ o. refl) (λ opens base. refl)
  quiet_op level u us (kinds.Word And spelling) is op of = quiet_by u us _ is refl refl refl (λ o. refl) (λ opens base. refl)
  quiet_op level u us (kinds.Word Unless spelling) is op of = quiet_by u us _ is refl refl refl (λ o. refl) (λ opens base. refl)
  quiet_op level u us (kinds.Word Or spelling) is op of = quiet_by u us _ is refl refl refl (λ o. refl) (λ opens base. refl)
  quiet_op level u us (kinds.Sign Caret) is op of = absurd (no_power_level level op _ of)
  quiet_op level u us _ is op of = no_some _ of

  -- behind a phrase of a level
  abbrev pub Calm : ℕ → List Lexeme → Type 0
  Calm zero ls = Quiet ls
  Calm (suc level) ls = Calm level ls × (op_at (suc level) ls ≡ None)

  pub calm_quiet : (level : ℕ) (ls : List Lexeme) → Calm level ls → Quiet ls
  calm_quiet zero ls calm = calm
  calm_quiet (suc level) ls calm = calm_quiet level ls calm.0

  pub calm_by : (ls : List Lexeme) → Quiet ls → (level : ℕ) → ((k : ℕ) → k < suc level → op_at k ls ≡ None) → Calm level ls
  calm_by ls quiet zero none = quiet
  calm_by ls quiet (suc level) none = (calm_by ls quiet level (λ k lt. none k (omega (arith, lt))), none (suc level) (omega arith))

  pub calm_end : (level : ℕ) → Calm level []
  calm_end level = calm_by [] quiet_end level (λ k lt. refl)

  pub calm_close : (level : ℕ) (u : Lexeme) (us : List Lexeme) → IsSign RightParen u → Calm level (u ∷ us)
  calm_close level u us is = calm_by (u ∷ us) (quiet_close u us is) level (λ k lt. ap (op_of k) is)

  pub calm_comma : (level : ℕ) (u : Lexeme) (us : List Lexeme) → IsSign Comma u → Calm level (u ∷ us)
  calm_comma level u us is = calm_by (u ∷ us) (quiet_comma u us is) level (λ k lt. ap (op_of k) is)

  -- an operator of a looser level
  pub calm_op : (level : ℕ) (u : Lexeme) (us : List Lexeme) (op : BinaryOp) → op_of (suc level) u.kind ≡ Some op → Calm level (u ∷ us)
  calm_op level u us op of =
      let found = level_of (operator_of u.kind) (suc level) op of in
      calm_by (u ∷ us) (quiet_op level u us u.kind refl op of) level
      (λ k lt. ap (of_level k) found.1 ∙ cond-false (suc level == k) _ _ (ne_eqb (suc level) k (λ e. omega (arith, lt, e))))
