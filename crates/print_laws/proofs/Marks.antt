-- Texts that are a sign, a string, a pattern or a word.
use Rattle.std.proofs.Common.{◌≡◌, ◌∙◌, ℕ, zero, suc, ◌+◌, ◌<◌, ◌≤◌, ◌++◌, length-append, eqb-true, Bool, true, false, not, List, [], ◌∷◌, length, refl, ap, sym, subst, arith}
use Rattle.std.specs.Prelude.{◌&&◌, ◌||◌, ◌==◌, if◌then◌else◌, Some, None, codes, nat_le}
use Rattle.std.specs.Char.{is_ascii_alphanumeric}
use Rattle.std.specs.Int.{is_in_range}
use Rattle.std.specs.List.{flat_map, list_all}
use Rattle.std.specs.Str.{IsAscii, is_utf8}
use Rattle.std.proofs.lemmas.Bool.{leb-true}
use Rattle.std.proofs.lemmas.Str.{IsUtf8-from_ascii, is_utf8-from_IsUtf8}
use Rattle.label_set.specs.LabelText.{escaped_byte, quoted}
use Rattle.promql_lex.specs.Names.{continues_name, name_kind}
use Rattle.promql_lex.specs.Pieces.{piece_at, token}
use Rattle.promql_lex.specs.Signs.{begins_double, is_double}
use Rattle.promql_lex.specs.Tokens.{inside_behind, is_bad as is_bad_token}
use Rattle.promql_lex.specs.Words.{word_of}
use Rattle.promql_lex.specs.declared.token.TokenKind.TheVariants as tokens
use Rattle.promql_lex.specs.declared.word.Word.{Word}
use Rattle.promql_parts.specs.Lexemes.{kind_of, sign_kind, sign_of, word_kind}
use Rattle.promql_parts.specs.Patterned.{Becomes, IsPattern, Kept, Patterned, is_bad, takes_pattern}
use Rattle.promql_parts.specs.Steps.{true_false}
use Rattle.promql_parts.specs.declared.lexeme.Lexeme.{Lexeme}
use Rattle.promql_parts.specs.declared.lexeme.LexemeKind.{LexemeKind}
use Rattle.promql_parts.specs.declared.lexeme.LexemeKind.TheVariants as kinds
use Rattle.promql_parts.specs.declared.lexeme.Sign.{Sign}
use Rattle.promql_parts.specs.declared.lexeme.Sign.TheVariants.{LeftParen, RightParen, LeftBrace, RightBrace, LeftBracket, RightBracket, Comma, Colon, Plus, Minus, Star, Slash, Percent, Caret, Equal, EqualTwice, Unequal, Less, LessEqual, Greater, GreaterEqual, AtSign}
use Rattle.print_laws.proofs.Bytes.{IsNamed, and_first, and_second, ends_name, ends_sign, name_reads, or_either}
use Rattle.print_laws.proofs.Lexed.{Reads, alone, always, lexeme, lexemes_from, one_piece}
use Rattle.print_laws.proofs.Strings.{string_piece}

-- ---- ASCII

below : (most byte last : ℕ) → last < most → byte ≤ last → byte < most
below most byte last few h = omega (arith, few, h)

pub low : (first last byte : ℕ) → last < 128 → is_in_range first last byte ≡ true → byte < 128
low first last byte few h = below 128 byte last few (leb-true byte last (and_second (nat_le first byte) (nat_le byte last) h))

name_byte_low : (byte : ℕ) → continues_name false byte ≡ true → byte < 128
name_byte_low byte h =
    or_either (is_ascii_alphanumeric byte) (byte == 95 || (byte == 58 && true)) h
    (λ e. or_either (is_in_range 48 57 byte || is_in_range 65 90 byte) (is_in_range 97 122 byte) e
    (λ f. or_either (is_in_range 48 57 byte) (is_in_range 65 90 byte) f (low 48 57 byte (omega arith)) (low 65 90 byte (omega arith))) (low 97 122 byte (omega arith)))
    (λ e. or_either (byte == 95) (byte == 58 && true) e (λ f. let same = eqb-true byte 95 f in omega (arith, same)) (λ f. let same = eqb-true byte 58 (and_first _ _ f) in omega (arith, same)))

ascii : (p : ℕ → Bool) → ((byte : ℕ) → p byte ≡ true → byte < 128) → (s : List ℕ) → list_all p s ≡ true → IsAscii s
ascii p small [] all i = omega arith
ascii p small (c ∷ cs) all zero = omega (arith, small c (and_first (p c) (list_all p cs) all))
ascii p small (c ∷ cs) all (suc i) = ascii p small cs (and_second (p c) (list_all p cs) all) i

pub ascii_text : (p : ℕ → Bool) → ((byte : ℕ) → p byte ≡ true → byte < 128) → (s : List ℕ) → list_all p s ≡ true → is_utf8 s ≡ true
ascii_text p small s all = is_utf8-from_IsUtf8 s (IsUtf8-from_ascii s (ascii p small s all))

pub name_text : (s : List ℕ) → list_all (continues_name false) s ≡ true → is_utf8 s ≡ true
name_text s all = ascii_text (continues_name false) name_byte_low s all

pub named_text : (s : List ℕ) → IsNamed s → is_utf8 s ≡ true
named_text [] named = absurd named
named_text (byte ∷ bytes) named = name_text (byte ∷ bytes) named.1

-- ---- signs

never_double : (byte : ℕ) → ((other : ℕ) → is_double byte other ≡ false) → (rest : List ℕ) → begins_double byte rest ≡ false
never_double byte single [] = refl
never_double byte single (other ∷ rest) = single other

never : (s t : Bool) → ((s && false) || (t && false)) ≡ false
never true true = refl
never true false = refl
never false true = refl
never false false = refl

-- behind `=`
equal_stands : (rest : List ℕ) → ends_sign rest ≡ true → begins_double 61 rest ≡ false
equal_stands [] h = refl
equal_stands (b ∷ rest) h = both (b == 61) (b == 126) h where
  both : (s t : Bool) → not (s || t) ≡ true → ((s && true) || (t && true)) ≡ false
  both true t h = true_false (sym h)
  both false true h = true_false (sym h)
  both false false h = refl

-- behind `<` and `>`
order_stands : (s t : Bool) → not (s || t) ≡ true → ((s && true) || (t && false)) ≡ false
order_stands true t h = true_false (sym h)
order_stands false true h = true_false (sym h)
order_stands false false h = refl

less_stands : (rest : List ℕ) → ends_sign rest ≡ true → begins_double 60 rest ≡ false
less_stands [] h = refl
less_stands (b ∷ rest) h = order_stands (b == 61) (b == 126) h

greater_stands : (rest : List ℕ) → ends_sign rest ≡ true → begins_double 62 rest ≡ false
greater_stands [] h = refl
greater_stands (b ∷ rest) h = order_stands (b == 61) (b == 126) h

double : (at byte second : ℕ) (sign : Sign) → ((rest : List ℕ) → piece_at false at byte (second ∷ rest) ≡ token 2 tokens.Sign) → inside_behind false byte ≡ false
    → sign_of (byte ∷ second ∷ []) ≡ Some sign → (rest : List ℕ) → lexemes_from 0 false at (byte ∷ second ∷ rest) ≡ lexeme at (kinds.Sign sign) ∷ lexemes_from 0 false (at + 2) rest
double at byte second sign is outside known rest =
    one_piece false at byte (second ∷ []) rest tokens.Sign (is rest) refl
    ∙ ap (λ found. lexeme at (sign_kind at found) ∷ lexemes_from 0 (inside_behind false byte) (at + 2) rest) known
    ∙ ap (λ t. lexeme at (kinds.Sign sign) ∷ lexemes_from 0 t (at + 2) rest) outside

string_is : (at : ℕ) (text rest : List ℕ) → is_utf8 text ≡ true → lexemes_from 0 false at (quoted text ++ rest) ≡ lexeme at (kinds.Quoted text) ∷ lexemes_from 0 false (at + length (quoted text)) rest
string_is at text rest utf8 = one_piece false at 34 (flat_map escaped_byte text ++ 34 ∷ []) rest (tokens.Quoted text) (string_piece false at text rest utf8) refl

module _ {kept : Kept} where
  single : {ends : List ℕ → Bool} (inside : Bool) (at byte : ℕ) (sign : Sign) → ((rest : List ℕ) → piece_at inside at byte rest ≡ (if begins_double byte rest then token 2 tokens.Sign else token 1 tokens.Sign))
      → ((rest : List ℕ) → ends rest ≡ true → begins_double byte rest ≡ false) → sign_of (byte ∷ []) ≡ Some sign → takes_pattern (kinds.Sign sign) ≡ false
      → Reads kept ends inside (inside_behind inside byte) at (byte ∷ []) (lexeme at (kinds.Sign sign) ∷ [])
  single inside at byte sign is apart known takes =
      alone (lexeme at (kinds.Sign sign)) takes refl
      (λ rest ends.
      one_piece inside at byte [] rest tokens.Sign (is rest ∙ ap (λ (t : Bool). if t then token 2 tokens.Sign else token 1 tokens.Sign) (apart rest ends)) refl
      ∙ ap (λ found. lexeme at (sign_kind at found) ∷ lexemes_from 0 (inside_behind inside byte) (at + 1) rest) known)

  pub left_paren : (at : ℕ) → Reads kept always false false at (codes "(") (lexeme at (kinds.Sign LeftParen) ∷ [])
  left_paren at = single false at 40 LeftParen (λ rest. refl) (λ rest ok. never_double 40 (λ b. never (b == 61) (b == 126)) rest) refl refl

  pub right_paren : (at : ℕ) → Reads kept always false false at (codes ")") (lexeme at (kinds.Sign RightParen) ∷ [])
  right_paren at = single false at 41 RightParen (λ rest. refl) (λ rest ok. never_double 41 (λ b. never (b == 61) (b == 126)) rest) refl refl

  pub left_brace : (at : ℕ) → Reads kept always false false at (codes "{") (lexeme at (kinds.Sign LeftBrace) ∷ [])
  left_brace at = single false at 123 LeftBrace (λ rest. refl) (λ rest ok. never_double 123 (λ b. never (b == 61) (b == 126)) rest) refl refl

  pub right_brace : (at : ℕ) → Reads kept always false false at (codes "}") (lexeme at (kinds.Sign RightBrace) ∷ [])
  right_brace at = single false at 125 RightBrace (λ rest. refl) (λ rest ok. never_double 125 (λ b. never (b == 61) (b == 126)) rest) refl refl

  pub left_bracket : (at : ℕ) → Reads kept always false true at (codes "[") (lexeme at (kinds.Sign LeftBracket) ∷ [])
  left_bracket at = single false at 91 LeftBracket (λ rest. refl) (λ rest ok. never_double 91 (λ b. never (b == 61) (b == 126)) rest) refl refl

  pub right_bracket : (at : ℕ) → Reads kept always true false at (codes "]") (lexeme at (kinds.Sign RightBracket) ∷ [])
  right_bracket at = single true at 93 RightBracket (λ rest. refl) (λ rest ok. never_double 93 (λ b. never (b == 61) (b == 126)) rest) refl refl

  pub colon : (at : ℕ) → Reads kept always true true at (codes ":") (lexeme at (kinds.Sign Colon) ∷ [])
  colon at = single true at 58 Colon (λ rest. refl) (λ rest ok. never_double 58 (λ b. never (b == 61) (b == 126)) rest) refl refl

  pub comma_sign : (at : ℕ) → Reads kept always false false at (codes ",") (lexeme at (kinds.Sign Comma) ∷ [])
  comma_sign at = single false at 44 Comma (λ rest. refl) (λ rest ok. never_double 44 (λ b. never (b == 61) (b == 126)) rest) refl refl

  pub plus_sign : (at : ℕ) → Reads kept always false false at (codes "+") (lexeme at (kinds.Sign Plus) ∷ [])
  plus_sign at = single false at 43 Plus (λ rest. refl) (λ rest ok. never_double 43 (λ b. never (b == 61) (b == 126)) rest) refl refl

  pub minus_sign : (at : ℕ) → Reads kept always false false at (codes "-") (lexeme at (kinds.Sign Minus) ∷ [])
  minus_sign at = single false at 45 Minus (λ rest. refl) (λ rest ok. never_double 45 (λ b. never (b == 61) (b == 126)) rest) refl refl

  pub star : (at : ℕ) → Reads kept always false false at (codes "*") (lexeme at (kinds.Sign Star) ∷ [])
  star at = single false at 42 Star (λ rest. refl) (λ rest ok. never_double 42 (λ b. never (b == 61) (b == 126)) rest) refl refl

  pub slash : (at : ℕ) → Reads kept always false false at (codes "/") (lexeme at (kinds.Sign Slash) ∷ [])
  slash at = single false at 47 Slash (λ rest. refl) (λ rest ok. never_double 47 (λ b. never (b == 61) (b == 126)) rest) refl refl

  pub percent : (at : ℕ) → Reads kept always false false at (codes "%") (lexeme at (kinds.Sign Percent) ∷ [])
  percent at = single false at 37 Percent (λ rest. refl) (λ rest ok. never_double 37 (λ b. never (b == 61) (b == 126)) rest) refl refl

  pub caret_sign : (at : ℕ) → Reads kept always false false at (codes "^") (lexeme at (kinds.Sign Caret) ∷ [])
  caret_sign at = single false at 94 Caret (λ rest. refl) (λ rest ok. never_double 94 (λ b. never (b == 61) (b == 126)) rest) refl refl

  pub at_sign : (at : ℕ) → Reads kept always false false at (codes "@") (lexeme at (kinds.Sign AtSign) ∷ [])
  at_sign at = single false at 64 AtSign (λ rest. refl) (λ rest ok. never_double 64 (λ b. never (b == 61) (b == 126)) rest) refl refl

  pub equal : (at : ℕ) → Reads kept ends_sign false false at (codes "=") (lexeme at (kinds.Sign Equal) ∷ [])
  equal at = single false at 61 Equal (λ rest. refl) equal_stands refl refl

  pub less : (at : ℕ) → Reads kept ends_sign false false at (codes "<") (lexeme at (kinds.Sign Less) ∷ [])
  less at = single false at 60 Less (λ rest. refl) less_stands refl refl

  pub greater : (at : ℕ) → Reads kept ends_sign false false at (codes ">") (lexeme at (kinds.Sign Greater) ∷ [])
  greater at = single false at 62 Greater (λ rest. refl) greater_stands refl refl

  pub equal_twice : (at : ℕ) → Reads kept always false false at (codes "==") (lexeme at (kinds.Sign EqualTwice) ∷ [])
  equal_twice at = alone (lexeme at (kinds.Sign EqualTwice)) refl refl (λ rest ok. double at 61 61 EqualTwice (λ r. refl) refl refl rest)

  pub unequal : (at : ℕ) → Reads kept always false false at (codes "!=") (lexeme at (kinds.Sign Unequal) ∷ [])
  unequal at = alone (lexeme at (kinds.Sign Unequal)) refl refl (λ rest ok. double at 33 61 Unequal (λ r. refl) refl refl rest)

  pub less_equal : (at : ℕ) → Reads kept always false false at (codes "<=") (lexeme at (kinds.Sign LessEqual) ∷ [])
  less_equal at = alone (lexeme at (kinds.Sign LessEqual)) refl refl (λ rest ok. double at 60 61 LessEqual (λ r. refl) refl refl rest)

  pub greater_equal : (at : ℕ) → Reads kept always false false at (codes ">=") (lexeme at (kinds.Sign GreaterEqual) ∷ [])
  greater_equal at = alone (lexeme at (kinds.Sign GreaterEqual)) refl refl (λ rest ok. double at 62 61 GreaterEqual (λ r. refl) refl refl rest)

  -- ---- strings and patterns

  pub string : (at : ℕ) (text : List ℕ) → is_utf8 text ≡ true → Reads kept always false false at (quoted text) (lexeme at (kinds.Quoted text) ∷ [])
  string at text utf8 = alone (lexeme at (kinds.Quoted text)) refl refl (λ rest ok. string_is at text rest utf8)

  pub pattern : (at byte second : ℕ) (sign : Sign) (text : List ℕ) (kind : LexemeKind) → ((rest : List ℕ) → piece_at false at byte (second ∷ rest) ≡ token 2 tokens.Sign) → inside_behind false byte ≡ false
      → sign_of (byte ∷ second ∷ []) ≡ Some sign → takes_pattern (kinds.Sign sign) ≡ true → is_utf8 text ≡ true → IsPattern (at + 2) text kept kept kind → is_bad kind ≡ false
      → Reads kept always false false at ((byte ∷ second ∷ []) ++ quoted text) (lexeme at (kinds.Sign sign) ∷ lexeme (at + 2) kind ∷ [])
  pattern at byte second sign text kind is outside known takes utf8 kept_is good = record {
    goes = λ rest more ok given.
        let place : at + length ((byte ∷ second ∷ []) ++ quoted text) ≡ at + 2 + length (quoted text) = omega (arith, length-append (byte ∷ second ∷ []) (quoted text)) in
        let l : Lexeme = lexeme at (kinds.Sign sign) in
        let m : Lexeme = lexeme (at + 2) (kinds.Quoted text) in
        let later : List Lexeme = lexemes_from 0 false (at + 2 + length (quoted text)) rest in
        let two : lexemes_from 0 false at (byte ∷ second ∷ (quoted text ++ rest)) ≡ l ∷ (m ∷ later) =
        double at byte second sign is outside known (quoted text ++ rest) ∙ ap (λ ls. l ∷ ls) (string_is (at + 2) text rest utf8) in
        let behind : Patterned (takes_pattern m.kind) kept later kept more = subst (λ n. Patterned false kept (lexemes_from 0 false n rest) kept more) place given in
        let string_first : Patterned true kept (m ∷ later) kept (lexeme (at + 2) kind ∷ more) =
        Patterned.more m (lexeme (at + 2) kind) later more kept kept (Becomes.pattern m (lexeme (at + 2) kind) text kept refl refl refl kept_is) good behind in
        subst (λ ls. Patterned false kept ls kept (l ∷ (lexeme (at + 2) kind ∷ more))) (sym two)
        (Patterned.more l l (m ∷ later) (lexeme (at + 2) kind ∷ more) kept kept (Becomes.same l refl) refl
        (subst (λ t. Patterned t kept (m ∷ later) kept (lexeme (at + 2) kind ∷ more)) (sym takes) string_first));
  }

  -- ---- words and names

  pub word : (at : ℕ) (s : List ℕ) (w : Word) → IsNamed s → name_kind s ≡ tokens.Word → word_of s ≡ Some w → Reads kept ends_name false false at s (lexeme at (kinds.Word w s) ∷ [])
  word at s w named told known =
      name_reads at s (kinds.Word w s) named (ap is_bad_token told)
      (ap (kind_of at s) told ∙ ap (word_kind at s) known ∙ ap (λ (t : Bool). if t then kinds.Word w s else word_kind at s None) (named_text s named)) refl refl

  pub name : (at : ℕ) (s : List ℕ) → IsNamed s → name_kind s ≡ tokens.Name → Reads kept ends_name false false at s (lexeme at (kinds.Name s) ∷ [])
  name at s named told =
      name_reads at s (kinds.Name s) named (ap is_bad_token told)
      (ap (kind_of at s) told ∙ ap (λ (t : Bool). if t then kinds.Name s else word_kind at s None) (named_text s named)) refl refl
