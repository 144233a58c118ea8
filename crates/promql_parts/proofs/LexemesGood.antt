-- A lexeme is refused exactly where its token is: what a token spells is a sign, a word or a name.
use Rattle.std.proofs.Common.{◌≡◌, ◌<◌, ◌+◌, ℕ, Bool, true, false, List, [], ◌∷◌, refl, ap, sym, subst, inl, inr, arith, take, drop, ◌-◌}
use Rattle.std.proofs.lemmas.Bool.{and_parts, cond_both, eqb-true, or_cases}
use Rattle.std.proofs.lemmas.Bool.Decides.{nat_tests}
use Rattle.std.proofs.lemmas.Str.{IsUtf8-from_ascii, is_utf8-from_IsUtf8}
use Rattle.std.proofs.lemmas.Str.Ascii.{IsAscii-cons, IsAscii-nil}
use Rattle.std.specs.List.{list_all}
use Rattle.std.specs.Prelude.{if◌then◌else◌, ◌&&◌, ◌||◌, ◌==◌, codes, is_some, Option, None, Some, Result, Ok, Err}
use Rattle.std.specs.Str.{IsAscii, is_utf8}
use Rattle.frac_text.specs.Readings.{is_word, literal_answer}
use Rattle.frac_text.specs.declared.refusal.NumberRefusal.{NumberRefusal}
use Rattle.frac_text.specs.declared.refusal.NumberRefusal.TheVariants.{BadNumber as NoNumber, NumberRange as OutOfLimits, LeadingZero as ZeroFirst}
use Rattle.promql_ast.specs.declared.refusal.QueryRefusal.TheVariants.{BadDuration, BadNumber, BadToken}
use Rattle.promql_lex.specs.Laws.{IsSpelling, is_sign}
use Rattle.promql_lex.specs.Names.{continues_name, is_query_word, name_kind}
use Rattle.promql_lex.specs.Numbers.{bad_kind, duration_kind, has_units, number_kind, read_kind}
use Rattle.promql_lex.specs.Pieces.{decoded_kind, run_kind, text_kind}
use Rattle.promql_lex.specs.Quoted.{decoded}
use Rattle.promql_lex.specs.Signs.{is_double, is_single}
use Rattle.promql_lex.specs.Tokens.{is_bad as is_bad_token}
use Rattle.promql_lex.specs.Words.{word_of}
use Rattle.promql_lex.specs.declared.token.Token.{Token}
use Rattle.promql_lex.specs.declared.token.TokenKind.{TokenKind}
use Rattle.promql_lex.specs.declared.token.TokenKind.TheVariants as tokens
use Rattle.promql_lex.specs.declared.word.Word.{Word}
use Rattle.ticks.specs.Durations.{duration_answer}
use Rattle.ticks.specs.declared.moment.Ms.{Ms}
use Rattle.ticks.specs.declared.refusal.TickRefusal.{TickRefusal}
use Rattle.ticks.specs.declared.refusal.TickRefusal.TheVariants.{OutOfRange}
use Rattle.xfrac.specs.declared.value.XFrac.{XFrac}
use Rattle.xfrac.specs.declared.value.XFrac.TheVariants.{PosInf, NaN}
use Rattle.promql_parts.specs.Lexemes.{kind_of, lexeme_of, sign_kind, sign_of, spelling_in, word_kind}
use Rattle.promql_parts.specs.Patterned.{is_bad}
use Rattle.promql_parts.specs.declared.lexeme.LexemeKind.TheVariants as kinds
use Rattle.promql_parts.specs.declared.lexeme.Sign.{Sign}

-- ---- signs

or_else : (a b : Bool) (P : Type 0) → (a ≡ true → P) → (b ≡ true → P) → (a || b) ≡ true → P
or_else a b P left right h = elim (or_cases a b h) [ inl e ↦ left e | inr e ↦ right e ]

one_byte : (n : ℕ) → is_some (sign_of (n ∷ [])) ≡ true → (a : ℕ) → (a == n) ≡ true → is_some (sign_of (a ∷ [])) ≡ true
one_byte n known a e = subst (λ x. is_some (sign_of (x ∷ [])) ≡ true) (sym (eqb-true a n e)) known

two_bytes : (m n : ℕ) → is_some (sign_of (m ∷ (n ∷ []))) ≡ true → (a b : ℕ) → (b == n) ≡ true → (a == m) ≡ true → is_some (sign_of (a ∷ (b ∷ []))) ≡ true
two_bytes m n known a b second first =
    subst (λ x. is_some (sign_of (x ∷ (b ∷ []))) ≡ true) (sym (eqb-true a m first)) (subst (λ y. is_some (sign_of (m ∷ (y ∷ []))) ≡ true) (sym (eqb-true b n second)) known)

single_is : (a : ℕ) → is_single a ≡ true → is_some (sign_of (a ∷ [])) ≡ true
single_is a =
    or_else (a == 40) _ _ (one_byte 40 refl a) (or_else (a == 41) _ _ (one_byte 41 refl a) (or_else (a == 123) _ _ (one_byte 123 refl a)
    (or_else (a == 125) _ _ (one_byte 125 refl a) (or_else (a == 91) _ _ (one_byte 91 refl a) (or_else (a == 93) _ _ (one_byte 93 refl a)
    (or_else (a == 44) _ _ (one_byte 44 refl a) (or_else (a == 58) _ _ (one_byte 58 refl a) (or_else (a == 43) _ _ (one_byte 43 refl a)
    (or_else (a == 45) _ _ (one_byte 45 refl a) (or_else (a == 42) _ _ (one_byte 42 refl a) (or_else (a == 47) _ _ (one_byte 47 refl a)
    (or_else (a == 37) _ _ (one_byte 37 refl a) (or_else (a == 94) _ _ (one_byte 94 refl a) (or_else (a == 61) _ _ (one_byte 61 refl a)
    (or_else (a == 60) _ _ (one_byte 60 refl a) (or_else (a == 62) (a == 64) _ (one_byte 62 refl a) (one_byte 64 refl a)))))))))))))))))

double_is : (a b : ℕ) → is_double a b ≡ true → is_some (sign_of (a ∷ (b ∷ []))) ≡ true
double_is a b =
    or_else (b == 61 && (a == 61 || (a == 33 || (a == 60 || a == 62)))) (b == 126 && (a == 61 || a == 33)) _
    (λ h. let both = and_parts (b == 61) (a == 61 || (a == 33 || (a == 60 || a == 62))) h in
    or_else (a == 61) _ _ (two_bytes 61 61 refl a b both.0) (or_else (a == 33) _ _ (two_bytes 33 61 refl a b both.0)
    (or_else (a == 60) (a == 62) _ (two_bytes 60 61 refl a b both.0) (two_bytes 62 61 refl a b both.0))) both.1)
    (λ h. let both = and_parts (b == 126) (a == 61 || a == 33) h in
    or_else (a == 61) (a == 33) _ (two_bytes 61 126 refl a b both.0) (two_bytes 33 126 refl a b both.0) both.1)

sign_is : (s : List ℕ) → is_sign s ≡ true → is_some (sign_of s) ≡ true
sign_is [] h = absurd (cc)
sign_is (a ∷ []) h = single_is a h
sign_is (a ∷ (b ∷ [])) h = double_is a b h
sign_is (a ∷ (b ∷ (c ∷ s))) h = absurd (cc)

-- ---- names

part_ascii : (inside : Bool) (byte : ℕ) → continues_name inside byte ≡ true → byte < 128
part_ascii false byte h = grind (arith, nat_tests)
part_ascii true byte h = grind (arith, nat_tests)

name_ascii : (inside : Bool) (s : List ℕ) → list_all (continues_name inside) s ≡ true → IsAscii s
name_ascii inside [] h = IsAscii-nil
name_ascii inside (byte ∷ s) h =
    let both = and_parts (continues_name inside byte) (list_all (continues_name inside) s) h in
    IsAscii-cons byte s (part_ascii inside byte both.0) (name_ascii inside s both.1)

name_text : (inside : Bool) (s : List ℕ) → list_all (continues_name inside) s ≡ true → is_utf8 s ≡ true
name_text inside s h = is_utf8-from_IsUtf8 s (IsUtf8-from_ascii s (name_ascii inside s h))

-- ---- kinds

module _ (at : ℕ) (s : List ℕ) where
  abbrev IsGood : TokenKind → Type 0
  IsGood kind = is_bad (kind_of at s kind) ≡ is_bad_token kind

  word_good : (o : Option Word) → is_some o ≡ true → is_utf8 s ≡ true → is_bad (word_kind at s o) ≡ false
  word_good None some text = absurd (cc)
  word_good (Some word) some text = ap (λ b. is_bad (if b then kinds.Word word s else kinds.Bad (BadToken at))) text

  sign_good : (o : Option Sign) → is_some o ≡ true → is_bad (sign_kind at o) ≡ false
  sign_good None some = absurd (cc)
  sign_good (Some sign) some = refl

  abbrev worded : TokenKind
  worded = if is_query_word s then tokens.Word else tokens.Name

  abbrev but_infinite : TokenKind
  but_infinite = if is_word s (codes "nan") then tokens.Number NaN else worded

  name_good : is_utf8 s ≡ true → IsGood (name_kind s)
  name_good text =
      cond_both (is_word s (codes "inf")) (tokens.Number PosInf) but_infinite IsGood (λ _. refl)
      (λ _. cond_both (is_word s (codes "nan")) (tokens.Number NaN) worded IsGood (λ _. refl)
      (λ _. cond_both (is_query_word s) tokens.Word tokens.Name IsGood (λ word. word_good (word_of s) word text)
      (λ _. ap (λ b. is_bad (if b then kinds.Name s else kinds.Bad (BadToken at))) text)))

  bad_good : (run : List ℕ) → IsGood (bad_kind at run)
  bad_good run = cond_both (has_units run) (tokens.Bad (BadDuration at)) (tokens.Bad (BadNumber at)) IsGood (λ _. refl) (λ _. refl)

  duration_good : (run : List ℕ) (r : Result Ms TickRefusal) → IsGood (duration_kind at run r)
  duration_good run (Ok duration) = refl
  duration_good run (Err OutOfRange) = refl
  duration_good run (Err other) = bad_good run

  read_good : (run : List ℕ) (r : Result XFrac NumberRefusal) → IsGood (read_kind at run r)
  read_good run (Ok value) = refl
  read_good run (Err OutOfLimits) = refl
  read_good run (Err ZeroFirst) = refl
  read_good run (Err NoNumber) = duration_good run (duration_answer run)

  run_good : (run : List ℕ) → IsGood (run_kind at run)
  run_good run = cond_both (is_utf8 run) (number_kind at run) (tokens.Bad (BadNumber at)) IsGood (λ _. read_good run (literal_answer run)) (λ _. refl)

  text_good : (bytes : List ℕ) → IsGood (text_kind at bytes)
  text_good bytes = cond_both (is_utf8 bytes) (tokens.Quoted bytes) (tokens.Bad (BadToken at)) IsGood (λ _. refl) (λ _. refl)

  decoded_good : (r : Result (List ℕ) ℕ) → IsGood (decoded_kind at r)
  decoded_good (Ok bytes) = text_good bytes
  decoded_good (Err place) = refl

spelling_good : (at : ℕ) (s : List ℕ) (kind : TokenKind) → IsSpelling at s kind → IsGood at s kind
spelling_good at s kind (IsSpelling.named inside t starts all) = name_good at t (name_text inside t all)
spelling_good at s kind (IsSpelling.counted t whole) = run_good at t t
spelling_good at s kind (IsSpelling.quoted quote body t is closes whole) = decoded_good at t (decoded 0 quote (at + 1) body)
spelling_good at s kind (IsSpelling.raw body t closes whole) = text_good at t body
spelling_good at s kind (IsSpelling.unclosed quote body t is opens whole) = refl
spelling_good at s kind (IsSpelling.raw_unclosed body t opens whole) = refl
spelling_good at s kind (IsSpelling.signed t is) = sign_good at t (sign_of t) (sign_is t is)
spelling_good at s kind (IsSpelling.refused byte bytes t begins all whole) = refl

pub lexeme_good : (text : List ℕ) (t : Token) → IsSpelling t.at (take (t.end - t.at) (drop t.at text)) t.kind → is_bad (lexeme_of text t).kind ≡ is_bad_token t.kind
lexeme_good text t spelled = spelling_good t.at (spelling_in text t.at t.end) t.kind spelled
