-- What stands behind a query and doesn't go on with it is refused.
use Rattle.std.proofs.Common.{◌≡◌, ℕ, suc, refl, ap, ◌∙◌, Bool, true, false, List, ◌∷◌, ◌++◌, append_assoc}
use Rattle.std.specs.Prelude.{Option, Some, None, Ok, Err}
use Rattle.promql_ast.specs.declared.refusal.QueryRefusal.{QueryRefusal}
use Rattle.promql_ast.specs.declared.refusal.QueryRefusal.TheVariants.{RefusedFunction}
use Rattle.promql_ast.specs.declared.tree.Expr.{Expr}
use Rattle.promql_ast.specs.declared.tree.Fixed.{Fixed}
use Rattle.promql_lex.specs.declared.fault.LexFault.TheVariants as faults
use Rattle.promql_lex.specs.declared.word.Word.TheVariants.{On, Ignoring, GroupLeft, GroupRight, Bool as Flag, Start, End, Atan2, Over}
use Rattle.promql_parse.specs.Build.{binary, negate, operand_built, paren}
use Rattle.promql_parse.specs.Grammar.{Operand, Phrase, Term}
use Rattle.promql_parse.specs.Laws.{RefusedBehind, goes_on, refusal_behind}
use Rattle.promql_parse.specs.Reading.{Opens, chain_from, chain_turn, exponent_at, finished, level_at, minus_at, plus_at, postfix_kind, postfix_turn, power_behind, power_kind, raised_at, reading, side_at, unary_at, unary_kind, within}
use Rattle.promql_parse.specs.declared.build.Built.{Built}
use Rattle.promql_parse.specs.declared.build.Built.TheVariants as built
use Rattle.promql_parse.specs.declared.build.Operand.{Operand as Made}
use Rattle.promql_parts.specs.Labels.{grouping_word}
use Rattle.promql_parts.specs.Operators.{op_of}
use Rattle.promql_parts.specs.Productions.{BinModifier, begins_labels, IsSign}
use Rattle.promql_parts.specs.Reads.{Read, ◌>>=◌, all_turns, refused}
use Rattle.promql_parts.specs.Signs.{is_sign}
use Rattle.promql_parts.specs.Steps.{true_false}
use Rattle.promql_parts.specs.Turns.{begun, stops}
use Rattle.promql_parts.specs.declared.lexeme.Lexeme.{Lexeme}
use Rattle.promql_parts.specs.declared.lexeme.LexemeKind.{LexemeKind}
use Rattle.promql_parts.specs.declared.lexeme.LexemeKind.TheVariants as kinds
use Rattle.promql_parts.specs.declared.lexeme.Sign.TheVariants.{LeftParen, RightParen, LeftBrace, RightBrace, RightBracket, Comma, Colon, Equal, Matches, Unmatched, Caret, Minus, Plus}
use Rattle.promql_parts.specs.declared.operator.BinaryOp.{BinaryOp}
use Rattle.promql_parts.specs.declared.operator.BinaryOp.TheVariants.{Arith}
use Rattle.promql_parts.specs.declared.operator.Matching.{Matching}
use Rattle.ticks.specs.declared.moment.Ms.{Ms}
use Rattle.xfrac.specs.declared.value.ArithOp.TheVariants.{Pow}
use Rattle.promql_parse.proofs.Begins.{Begins, begins_phrase}
use Rattle.promql_parse.proofs.Cuts.{cut}
use Rattle.promql_parse.proofs.Found.{Parts}
use Rattle.promql_parse.proofs.Operands.{operand_of}
use Rattle.promql_parse.proofs.PhrasesRead.{Known, behind_end, caret_quiet, modifier_read, operand_reads, phrase_reads, whole}
use Rattle.promql_parse.proofs.Quiet.{Apart, Calm, calm_by, calm_op, quiet_by}

abbrev is_refused_operator : LexemeKind → Bool
is_refused_operator (kinds.Word Atan2 spelling) = true
is_refused_operator _ = false

-- ---- lexemes that go on with nothing

module _ (end : ℕ) where
  still : (u : Lexeme) (us : List Lexeme) (k : LexemeKind) → u.kind ≡ k → is_sign LeftParen k ≡ false → is_sign LeftBrace k ≡ false → grouping_word k ≡ None
      → ((o : Made) → postfix_kind end o k (u ∷ us) ≡ Ok (false, o, u ∷ us)) → ((opens : Opens) (base : Built) → power_kind end opens u base k us ≡ Ok (base, u ∷ us))
      → ((n : ℕ) → op_of n k ≡ None) → (level : ℕ) → Calm end level (u ∷ us)
  still u us k is paren brace group postfix power none level =
      calm_by end (u ∷ us) (quiet_by end u us k is paren brace group postfix power) level (λ n lt. ap (op_of n) is ∙ none n)

  stays : (u : Lexeme) (us : List Lexeme) (k : LexemeKind) → u.kind ≡ k → goes_on k ≡ false → is_refused_operator k ≡ false → (level : ℕ) → Calm end level (u ∷ us)
  stays u us (kinds.Sign RightParen) is idle plain = still u us _ is refl refl refl (λ o. refl) (λ opens base. refl) (λ n. refl)
  stays u us (kinds.Sign RightBrace) is idle plain = still u us _ is refl refl refl (λ o. refl) (λ opens base. refl) (λ n. refl)
  stays u us (kinds.Sign RightBracket) is idle plain = still u us _ is refl refl refl (λ o. refl) (λ opens base. refl) (λ n. refl)
  stays u us (kinds.Sign Comma) is idle plain = still u us _ is refl refl refl (λ o. refl) (λ opens base. refl) (λ n. refl)
  stays u us (kinds.Sign Colon) is idle plain = still u us _ is refl refl refl (λ o. refl) (λ opens base. refl) (λ n. refl)
  stays u us (kinds.Sign Equal) is idle plain = still u us _ is refl refl refl (λ o. refl) (λ opens base. refl) (λ n. refl)
  stays u us (kinds.Sign Matches) is idle plain = still u us _ is refl refl refl (λ o. refl) (λ opens base. refl) (λ n. refl)
  stays u us (kinds.Sign Unmatched) is idle plain = still u us _ is refl refl refl (λ o. refl) (λ opens base. refl) (λ n. refl)
  stays u us (kinds.Sign _) is idle plain = true_false idle
  stays u us (kinds.Word Flag spelling) is idle plain = still u us _ is refl refl refl (λ o. refl) (λ opens base. refl) (λ n. refl)
  stays u us (kinds.Word On spelling) is idle plain = still u us _ is refl refl refl (λ o. refl) (λ opens base. refl) (λ n. refl)
  stays u us (kinds.Word Ignoring spelling) is idle plain = still u us _ is refl refl refl (λ o. refl) (λ opens base. refl) (λ n. refl)
  stays u us (kinds.Word GroupLeft spelling) is idle plain = still u us _ is refl refl refl (λ o. refl) (λ opens base. refl) (λ n. refl)
  stays u us (kinds.Word GroupRight spelling) is idle plain = still u us _ is refl refl refl (λ o. refl) (λ opens base. refl) (λ n. refl)
  stays u us (kinds.Word Start spelling) is idle plain = still u us _ is refl refl refl (λ o. refl) (λ opens base. refl) (λ n. refl)
  stays u us (kinds.Word End spelling) is idle plain = still u us _ is refl refl refl (λ o. refl) (λ opens base. refl) (λ n. refl)
  stays u us (kinds.Word (Over f) spelling) is idle plain = still u us _ is refl refl refl (λ o. refl) (λ opens base. refl) (λ n. refl)
  stays u us (kinds.Word Atan2 spelling) is idle plain = true_false plain
  stays u us (kinds.Word _ spelling) is idle plain = true_false idle
  stays u us (kinds.Name name) is idle plain = still u us _ is refl refl refl (λ o. refl) (λ opens base. refl) (λ n. refl)
  stays u us (kinds.Number value) is idle plain = still u us _ is refl refl refl (λ o. refl) (λ opens base. refl) (λ n. refl)
  stays u us (kinds.Duration duration) is idle plain = still u us _ is refl refl refl (λ o. refl) (λ opens base. refl) (λ n. refl)
  stays u us (kinds.Quoted text) is idle plain = still u us _ is refl refl refl (λ o. refl) (λ opens base. refl) (λ n. refl)
  stays u us (kinds.Pattern id passes_empty) is idle plain = still u us _ is refl refl refl (λ o. refl) (λ opens base. refl) (λ n. refl)
  stays u us (kinds.Bad refusal) is idle plain = still u us _ is refl refl refl (λ o. refl) (λ opens base. refl) (λ n. refl)

  finished_more : (made : Built) (l : Lexeme) (ls : List Lexeme) → finished end (made, l ∷ ls) ≡ Err (refused l)
  finished_more built.Deep l ls = refl
  finished_more (built.Whole e d) l ls = refl

plain_refusal : (l : Lexeme) (k : LexemeKind) → is_refused_operator k ≡ false → refused l ≡ refusal_behind l k
plain_refusal l (kinds.Word Atan2 spelling) plain = true_false plain
plain_refusal l _ plain = refl

-- ---- the operator that is refused by its name

module _ (sound : Parts) (known : Known) (end : ℕ) (l : Lexeme) (more : List Lexeme) (spelling : List ℕ) (is_atan : l.kind ≡ kinds.Word Atan2 spelling) where
  abbrev rest : List Lexeme
  rest = l ∷ more

  abbrev refusal : QueryRefusal
  refusal = RefusedFunction l.at spelling

  apart : Apart rest
  apart = record { paren = ap (is_sign LeftParen) is_atan; brace = ap (is_sign LeftBrace) is_atan; group = ap grouping_word is_atan }

  no_postfix : (o : Made) → postfix_turn end o rest ≡ Ok (false, o, rest)
  no_postfix o = ap (λ k. postfix_kind end o k rest) is_atan

  no_power : (opens : Opens) (base : Built) → power_behind end opens base rest ≡ Err refusal
  no_power opens base = ap (λ k. power_kind end opens l base k more) is_atan

  -- a phrase of a level, with the operator behind it, is refused there
  abbrev Stops : ℕ → ℕ → List Lexeme → Type 0
  Stops b level xs = level_at end (within end b) level (xs ++ rest) ≡ Err refusal

  operand_stops : (b : ℕ) (term : Term) (offset : Option Ms) (fixed : Option Fixed) (xs : List Lexeme) (at d : ℕ) → Operand b term offset fixed xs at d → Stops b 0 xs
  unfolding level_at
  operand_stops b term offset fixed xs at d p =
      operand_reads sound known end p rest apart ∙ behind_end sound known end b (operand_of at term offset fixed d) rest (no_postfix (operand_of at term offset fixed d))
      ∙ no_power (within end b) (operand_built (operand_of at term offset fixed d))

  exponent_stops : (b at : ℕ) (base : Built) (ys zs : List Lexeme) (matching : Matching) (bare : Bool) → BinModifier (Arith Pow) ys matching bare → Begins zs → begins_labels bare zs ≡ false
      → Stops b 0 zs → exponent_at end (within end (suc b)) at base (ys ++ (zs ++ rest)) ≡ Err refusal
  unfolding exponent_at raised_at within
  exponent_stops b at base ys zs matching bare is begins_so apart right =
      ap (λ (q : Read Matching). q >>= λ matching. level_at end (within end b) 0 matching.1 >>= λ right. Ok (binary (Arith Pow) matching.0 base right.0, right.1))
      (modifier_read sound known end (Arith Pow) ys zs matching bare is begins_so apart rest)
      ∙ ap (λ (q : Read Built). q >>= λ right. Ok (binary (Arith Pow) matching base right.0, right.1)) right

  power_stops : (b : ℕ) (term : Term) (offset : Option Ms) (fixed : Option Fixed) (us xs ys zs : List Lexeme) (at m : ℕ) (matching : Matching) (bare : Bool) (caret : Lexeme)
      → Operand (suc b) term offset fixed xs at m → IsSign Caret caret → BinModifier (Arith Pow) ys matching bare → Begins zs → Stops b 0 zs → begins_labels bare zs ≡ false
      → us ≡ xs ++ caret ∷ (ys ++ zs) → Stops (suc b) 0 us
  unfolding level_at
  power_stops b term offset fixed us xs ys zs at m matching bare caret p is between begins_so right apart split =
      let o : Made = operand_of at term offset fixed m in
      let behind_caret : List Lexeme = ys ++ (zs ++ rest) in
      ap (λ z. unary_at end (within end (suc b)) (z ++ rest)) split ∙ ap (unary_at end (within end (suc b))) (append_assoc xs (caret ∷ ys ++ zs) rest ∙ ap (λ z. xs ++ caret ∷ z) (append_assoc ys zs rest))
      ∙ operand_reads sound known end p (caret ∷ behind_caret) (record { paren = ap (is_sign LeftParen) is; brace = ap (is_sign LeftBrace) is; group = ap grouping_word is })
      ∙ behind_end sound known end (suc b) o (caret ∷ behind_caret) (caret_quiet sound known end o caret behind_caret is)
      ∙ ap (λ k. power_kind end (within end (suc b)) caret (operand_built o) k behind_caret) is
      ∙ exponent_stops b caret.at (operand_built o) ys zs matching bare between begins_so apart right

  minus_stops : (b : ℕ) (sign : Lexeme) (xs : List Lexeme) → IsSign Minus sign → Stops b 0 xs → Stops (suc b) 0 (sign ∷ xs)
  unfolding level_at minus_at within
  minus_stops b sign xs is inner =
      ap (λ k. unary_kind end (within end (suc b)) sign k (xs ++ rest)) is ∙ ap (λ (q : Read Built). q >>= λ inner. Ok (negate sign.at inner.0, inner.1)) inner

  plus_stops : (b : ℕ) (sign : Lexeme) (xs : List Lexeme) → IsSign Plus sign → Stops b 0 xs → Stops (suc b) 0 (sign ∷ xs)
  unfolding level_at plus_at within
  plus_stops b sign xs is inner =
      ap (λ k. unary_kind end (within end (suc b)) sign k (xs ++ rest)) is ∙ ap (λ (q : Read Built). q >>= λ inner. Ok (paren sign.at inner.0, inner.1)) inner

  tighter_stops : (b level : ℕ) (xs : List Lexeme) → Stops b level xs → Stops b (suc level) xs
  unfolding level_at
  tighter_stops b level xs inner = ap (λ (q : Read Built). q >>= λ first. all_turns (chain_turn end (suc level) (level_at end (within end b) level)) first.0 first.1) inner

  side_stops : (b level : ℕ) (op : BinaryOp) (a : Built) (ys zs : List Lexeme) (matching : Matching) (bare : Bool) → BinModifier op ys matching bare → Begins zs → begins_labels bare zs ≡ false
      → Stops b level zs → side_at end op (level_at end (within end b) level) a (ys ++ (zs ++ rest)) ≡ Err refusal
  unfolding side_at
  side_stops b level op a ys zs matching bare is begins_so apart right =
      ap (λ (q : Read Matching). q >>= λ matching. level_at end (within end b) level matching.1 >>= λ right. Ok (true, binary op matching.0 a right.0, right.1)) (modifier_read sound known end op ys zs matching bare is begins_so apart rest)
      ∙ ap (λ (q : Read Built). q >>= λ right. Ok (true, binary op matching a right.0, right.1)) right

  binary_stops : (b level : ℕ) (sign : Lexeme) (op : BinaryOp) (us xs ys zs : List Lexeme) (left : Expr) (m : ℕ) (matching : Matching) (bare : Bool) → Phrase b (suc level) xs left m
      → op_of (suc level) sign.kind ≡ Some op → BinModifier op ys matching bare → Begins zs → Stops b level zs → begins_labels bare zs ≡ false → us ≡ xs ++ sign ∷ (ys ++ zs) → Stops b (suc level) us
  binary_stops b level sign op us xs ys zs left m matching bare p is between begins_so right apart split =
      let turn = chain_turn end (suc level) (level_at end (within end b) level) in
      let us' : List Lexeme = sign ∷ ys ++ (zs ++ rest) in
      ap (λ z. level_at end (within end b) (suc level) (z ++ rest)) split
      ∙ ap (level_at end (within end b) (suc level)) (append_assoc xs (sign ∷ ys ++ zs) rest ∙ ap (λ z. xs ++ sign ∷ z) (append_assoc ys zs rest))
      ∙ phrase_reads sound known end p us' (calm_op end level sign (ys ++ (zs ++ rest)) op is)
      ∙ stops turn (cut left m) us' (all_turns turn (cut left m) us') (begun turn (cut left m) us') (faults.Refused refusal)
      (ap (λ o. chain_from end (level_at end (within end b) level) (cut left m) o us') is ∙ side_stops b level op (cut left m) ys zs matching bare between begins_so apart right)

  phrase_stops : {b level d : ℕ} {xs : List Lexeme} {e : Expr} → Phrase b level xs e d → Stops b level xs
  phrase_stops (Phrase.operand {b = b} {at = at} {d = d} {term = term} {offset = offset} {fixed = fixed} {xs = xs} p) = operand_stops b term offset fixed xs at d p
  phrase_stops (Phrase.power {b = b} {at = at} {m = m} {n = n} {term = term} {offset = offset} {fixed = fixed} {us = us} {xs = xs} {ys = ys} {zs = zs} {r = r} {matching = matching} {bare = bare} caret p is between q apart split) =
      power_stops b term offset fixed us xs ys zs at m matching bare caret p is between (begins_phrase q) (phrase_stops q) apart split
  phrase_stops (Phrase.minus {b = b} {d = d} {xs = xs} {e = e} sign is p) = minus_stops b sign xs is (phrase_stops p)
  phrase_stops (Phrase.plus {b = b} {d = d} {xs = xs} {e = e} sign is p) = plus_stops b sign xs is (phrase_stops p)
  phrase_stops (Phrase.tighter {b = b} {level = level} {d = d} {xs = xs} {e = e} p) = tighter_stops b level xs (phrase_stops p)
  phrase_stops (Phrase.binary {b = b} {level = level} {m = m} {n = n} {us = us} {xs = xs} {ys = ys} {zs = zs} {op = op} {l = left} {r = r} {matching = matching} {bare = bare} sign p is between q apart split) =
      binary_stops b level sign op us xs ys zs left m matching bare p is between (begins_phrase q) (phrase_stops q) apart split

module _ (sound : Parts) (known : Known) (end : ℕ) where
  by_name : (ls more : List Lexeme) (e : Expr) (d : ℕ) (l : Lexeme) (spelling : List ℕ) → l.kind ≡ kinds.Word Atan2 spelling → Phrase 128 5 ls e d → reading end (ls ++ l ∷ more) ≡ Err (RefusedFunction l.at spelling)
  unfolding reading
  by_name ls more e d l spelling is p = ap (λ q. q >>= finished end) (phrase_stops sound known end l more spelling is p)

  as_unexpected : (ls more : List Lexeme) (e : Expr) (d : ℕ) (l : Lexeme) → goes_on l.kind ≡ false → is_refused_operator l.kind ≡ false → Phrase 128 5 ls e d → reading end (ls ++ l ∷ more) ≡ Err (refused l)
  unfolding reading
  as_unexpected ls more e d l idle plain p =
      ap (λ q. q >>= finished end) (whole sound known end 128 5 ls e d (phrase_reads sound known end p) (l ∷ more) (stays end l more l.kind refl idle plain 5)) ∙ finished_more end (cut e d) l more

  behind_kind : (ls more : List Lexeme) (e : Expr) (d : ℕ) (l : Lexeme) (k : LexemeKind) → l.kind ≡ k → goes_on k ≡ false → Phrase 128 5 ls e d → reading end (ls ++ l ∷ more) ≡ Err (refusal_behind l k)
  behind_kind ls more e d l (kinds.Word Atan2 spelling) is idle p = by_name ls more e d l spelling is p
  behind_kind ls more e d l k is idle p =
      as_unexpected ls more e d l (ap goes_on is ∙ idle) (ap is_refused_operator is) p ∙ ap Err (plain_refusal l k refl)

pub refused_behind : (sound : Parts) (known : Known) → RefusedBehind
refused_behind sound known end ls more e d l p idle = behind_kind sound known end ls more e d l l.kind refl idle p
