-- The lexemes of a text from a place on, as its pieces are cut; and texts that are read as some lexemes, whatever stands behind them.
use Rattle.std.proofs.Common.{◌≡◌, ◌∙◌, ℕ, zero, suc, ◌+◌, ◌-◌, ◌++◌, Bool, true, false, List, [], ◌∷◌, length, take, drop, refl, ap, sym, subst, arith, append_assoc, length-append}
use Rattle.std.specs.Prelude.{if◌then◌else◌, Option, Some, None}
use Rattle.std.proofs.lemmas.List.{drop-drop}
use Rattle.promql_lex.specs.Pieces.{piece_at, token}
use Rattle.promql_lex.specs.Tokens.{inside_behind, is_bad as is_bad_token, tokens_from, with_kind}
use Rattle.promql_lex.specs.declared.piece.Piece.{Piece}
use Rattle.promql_lex.specs.declared.token.Token.{Token}
use Rattle.promql_lex.specs.declared.token.TokenKind.{TokenKind}
use Rattle.promql_parts.specs.Lexemes.{kind_of, lexemes_of}
use Rattle.promql_parts.specs.Patterned.{Becomes, Kept, Patterned, is_bad, takes_pattern}
use Rattle.promql_parts.specs.declared.lexeme.Lexeme.{Lexeme}
use Rattle.promql_parts.specs.declared.lexeme.LexemeKind.{LexemeKind}

abbrev pub lexeme : ℕ → LexemeKind → Lexeme
lexeme at kind = record { at = at; kind = kind }

abbrev pub lexed : ℕ → ℕ → List ℕ → Option TokenKind → List Lexeme → List Lexeme
lexed at size text None more = more
lexed at size text (Some kind) more = lexeme at (kind_of at (take size text) kind) ∷ (if is_bad_token kind then [] else more)

abbrev pub lexemes_from : ℕ → Bool → ℕ → List ℕ → List Lexeme
lexemes_from wait inside at [] = []
lexemes_from (suc wait) inside at (byte ∷ bytes) = lexemes_from wait inside (at + 1) bytes
lexemes_from zero inside at (byte ∷ bytes) =
    lexed at (piece_at inside at byte bytes).size (byte ∷ bytes) (piece_at inside at byte bytes).kind
    (lexemes_from ((piece_at inside at byte bytes).size - 1) (inside_behind inside byte) (at + 1) bytes)

-- ---- they are those of the text's tokens

unless_bad : (whole : List ℕ) (bad : Bool) (tokens : List Token) (more : List Lexeme) → lexemes_of whole tokens ≡ more → lexemes_of whole (if bad then [] else tokens) ≡ (if bad then [] else more)
unless_bad whole true tokens more h = refl
unless_bad whole false tokens more h = h

lexed_is : (whole : List ℕ) (at size : ℕ) (text : List ℕ) (kind : Option TokenKind) (tokens : List Token) (more : List Lexeme) → text ≡ drop at whole → lexemes_of whole tokens ≡ more
    → lexemes_of whole (with_kind at size kind tokens) ≡ lexed at size text kind more
lexed_is whole at size text None tokens more is h = h
lexed_is whole at size text (Some kind) tokens more is h =
    let e : at + size - at ≡ size = omega arith in
    ap (λ n. lexeme at (kind_of at (take n (drop at whole)) kind) ∷ lexemes_of whole (if is_bad_token kind then [] else tokens)) e
    ∙ ap (λ xs. lexeme at (kind_of at (take size xs) kind) ∷ lexemes_of whole (if is_bad_token kind then [] else tokens)) (sym is)
    ∙ ap (λ ls. lexeme at (kind_of at (take size text) kind) ∷ ls) (unless_bad whole (is_bad_token kind) tokens more h)

next_is : (whole : List ℕ) (at byte : ℕ) (bytes : List ℕ) → byte ∷ bytes ≡ drop at whole → bytes ≡ drop (at + 1) whole
next_is whole at byte bytes is = ap (drop 1) is ∙ drop-drop 1 at whole

pub are_lexemes : (whole : List ℕ) (wait : ℕ) (inside : Bool) (at : ℕ) (text : List ℕ) → text ≡ drop at whole → lexemes_of whole (tokens_from wait inside at text) ≡ lexemes_from wait inside at text
are_lexemes whole zero inside at [] is = refl
are_lexemes whole (suc wait) inside at [] is = refl
are_lexemes whole (suc wait) inside at (byte ∷ bytes) is = are_lexemes whole wait inside (at + 1) bytes (next_is whole at byte bytes is)
are_lexemes whole zero inside at (byte ∷ bytes) is =
    let p = piece_at inside at byte bytes in
    lexed_is whole at p.size (byte ∷ bytes) p.kind (tokens_from (p.size - 1) (inside_behind inside byte) (at + 1) bytes)
    (lexemes_from (p.size - 1) (inside_behind inside byte) (at + 1) bytes) is (are_lexemes whole (p.size - 1) (inside_behind inside byte) (at + 1) bytes (next_is whole at byte bytes is))

-- ---- one piece

passes : (inside : Bool) (at : ℕ) (front rest : List ℕ) → lexemes_from (length front) inside at (front ++ rest) ≡ lexemes_from 0 inside (at + length front) rest
passes inside at [] rest = let e : at ≡ at + 0 = omega arith in ap (λ n. lexemes_from 0 inside n rest) e
passes inside at (b ∷ front) rest =
    let e : at + 1 + length front ≡ at + suc (length front) = omega arith in passes inside (at + 1) front rest ∙ ap (λ n. lexemes_from 0 inside n rest) e

pub take_front : (front rest : List ℕ) → take (length front) (front ++ rest) ≡ front
take_front [] rest = refl
take_front (b ∷ front) rest = ap (λ xs. b ∷ xs) (take_front front rest)

pub one_piece : (inside : Bool) (at byte : ℕ) (bytes rest : List ℕ) (kind : TokenKind) → piece_at inside at byte (bytes ++ rest) ≡ token (suc (length bytes)) kind → is_bad_token kind ≡ false
    → lexemes_from 0 inside at (byte ∷ (bytes ++ rest)) ≡ lexeme at (kind_of at (byte ∷ bytes) kind) ∷ lexemes_from 0 (inside_behind inside byte) (at + suc (length bytes)) rest
one_piece inside at byte bytes rest kind is good =
    let less : suc (length bytes) - 1 ≡ length bytes = omega arith in
    let place : at + 1 + length bytes ≡ at + suc (length bytes) = omega arith in
    ap (λ (p : Piece). lexed at p.size (byte ∷ (bytes ++ rest)) p.kind (lexemes_from (p.size - 1) (inside_behind inside byte) (at + 1) (bytes ++ rest))) is
    ∙ ap (λ (t : Bool). lexeme at (kind_of at (byte ∷ take (length bytes) (bytes ++ rest)) kind) ∷ (if t then [] else lexemes_from (suc (length bytes) - 1) (inside_behind inside byte) (at + 1) (bytes ++ rest))) good
    ∙ ap (λ xs. lexeme at (kind_of at (byte ∷ xs) kind) ∷ lexemes_from (suc (length bytes) - 1) (inside_behind inside byte) (at + 1) (bytes ++ rest)) (take_front bytes rest)
    ∙ ap (λ ls. lexeme at (kind_of at (byte ∷ bytes) kind) ∷ ls)
    (ap (λ n. lexemes_from n (inside_behind inside byte) (at + 1) (bytes ++ rest)) less ∙ passes (inside_behind inside byte) (at + 1) bytes rest
    ∙ ap (λ n. lexemes_from 0 (inside_behind inside byte) n rest) place)

-- ---- texts and lexemes

-- a text at a place is read as some lexemes, with the patterns of its strings, wherever what stands behind it ends it
pub record Reads (kept : Kept) (ends : List ℕ → Bool) (inside behind : Bool) (at : ℕ) (text : List ℕ) (ls : List Lexeme) : Type 0 where
  pub goes : (rest : List ℕ) (more : List Lexeme) → ends rest ≡ true → Patterned false kept (lexemes_from 0 behind (at + length text) rest) kept more
      → Patterned false kept (lexemes_from 0 inside at (text ++ rest)) kept (ls ++ more)

-- whatever stands behind it
abbrev pub always : List ℕ → Bool
always rest = true

module _ {kept : Kept} where
  pub nothing : {ends : List ℕ → Bool} {inside : Bool} {at : ℕ} → Reads kept ends inside inside at [] []
  nothing {inside = inside} {at = at} = record {
    goes = λ rest more ok given. let e : at + 0 ≡ at = omega arith in subst (λ n. Patterned false kept (lexemes_from 0 inside n rest) kept more) e given;
  }

  pub joined : {ends later : List ℕ → Bool} {a b c : Bool} {at : ℕ} {s t : List ℕ} {ls ms : List Lexeme} → Reads kept ends a b at s ls → Reads kept later b c (at + length s) t ms
      → ((rest : List ℕ) → later rest ≡ true → ends (t ++ rest) ≡ true) → Reads kept later a c at (s ++ t) (ls ++ ms)
  joined {a = a} {c = c} {at = at} {s = s} {t = t} {ls = ls} {ms = ms} first second apart = record {
    goes = λ rest more ok given.
        let place : at + length (s ++ t) ≡ at + length s + length t = omega (arith, length-append s t) in
        let front = second.goes rest more ok (subst (λ n. Patterned false kept (lexemes_from 0 c n rest) kept more) place given) in
        subst (λ xs. Patterned false kept (lexemes_from 0 a at xs) kept ((ls ++ ms) ++ more)) (sym (append_assoc s t rest))
        (subst (λ ks. Patterned false kept (lexemes_from 0 a at (s ++ (t ++ rest))) kept ks) (sym (append_assoc ls ms more)) (first.goes (t ++ rest) (ms ++ more) (apart rest ok) front));
  }

  -- the same text, otherwise written
  pub written : {ends : List ℕ → Bool} {a b : Bool} {at : ℕ} {s t : List ℕ} {ls : List Lexeme} → s ≡ t → Reads kept ends a b at s ls → Reads kept ends a b at t ls
  written {ends = ends} {a = a} {b = b} {at = at} {ls = ls} same is = subst (λ xs. Reads kept ends a b at xs ls) same is

  -- where fewer texts end it
  pub weaker : {ends later : List ℕ → Bool} {a b : Bool} {at : ℕ} {s : List ℕ} {ls : List Lexeme} → ((rest : List ℕ) → later rest ≡ true → ends rest ≡ true) → Reads kept ends a b at s ls
      → Reads kept later a b at s ls
  weaker fewer is = record { goes = λ rest more ok given. is.goes rest more (fewer rest ok) given }

  -- a lexeme that is no pattern
  pub alone : {ends : List ℕ → Bool} {a b : Bool} {at : ℕ} {s : List ℕ} (l : Lexeme) → takes_pattern l.kind ≡ false → is_bad l.kind ≡ false
      → ((rest : List ℕ) → ends rest ≡ true → lexemes_from 0 a at (s ++ rest) ≡ l ∷ lexemes_from 0 b (at + length s) rest) → Reads kept ends a b at s (l ∷ [])
  alone {b = b} {at = at} {s = s} l takes good is = record {
    goes = λ rest more ok given.
        subst (λ ls. Patterned false kept ls kept (l ∷ more)) (sym (is rest ok))
        (Patterned.more l l (lexemes_from 0 b (at + length s) rest) more kept kept (Becomes.same l refl) good
        (subst (λ t. Patterned t kept (lexemes_from 0 b (at + length s) rest) kept more) (sym takes) given));
  }

  -- a blank is none
  pub blank : {inside : Bool} {at : ℕ} → Reads kept always inside inside at (32 ∷ []) []
  blank {inside = inside} {at = at} = record { goes = λ rest more ok given. given }
