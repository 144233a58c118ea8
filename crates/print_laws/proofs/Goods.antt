-- What is known of each lexeme of a text, and of the patterns in place of its strings.
use Rattle.std.proofs.Common.{◌≡◌, ℕ, zero, suc, ◌+◌, ◌-◌, ◌*◌, ◌%◌, ◌^◌, ◌<◌, ◌≤◌, ◌++◌, ◌↔◌, inl, inr, Bool, true, false, List, [], ◌∷◌, take, drop, refl, ap, sym, subst, arith, codes, pos}
use Rattle.std.specs.Prelude.{if◌then◌else◌, Option, Some, None, Result, Ok, Err, nat_lt, IsTrue, ⊤}
use Rattle.std.specs.List.{AllByRecursion}
use Rattle.std.specs.Str.{is_utf8}
use Rattle.frac_text.specs.Decimals.{scaled}
use Rattle.frac_text.specs.Digits.{number}
use Rattle.frac_text.specs.Literals.{IsLiteral, IsUnsignedNumber}
use Rattle.frac_text.specs.Readings.{is_word, literal_answer}
use Rattle.frac_text.specs.Spellings.{ends}
use Rattle.frac_text.specs.declared.refusal.NumberRefusal.{NumberRefusal}
use Rattle.frac_text.specs.declared.refusal.NumberRefusal.TheVariants.{BadNumber as NoNumber, NumberRange as OutOfLimits, LeadingZero as ZeroFirst}
use Rattle.promql_lex.specs.Laws.{IsSpelling, first_is}
use Rattle.promql_lex.specs.Names.{is_query_word, starts_name}
use Rattle.promql_lex.specs.Numbers.{duration_kind, has_units, number_kind, read_kind}
use Rattle.promql_lex.specs.Pieces.{decoded_kind}
use Rattle.promql_lex.specs.Quoted.{decoded}
use Rattle.promql_lex.specs.Tokens.{tokens_of}
use Rattle.promql_lex.specs.Words.{word_of}
use Rattle.promql_lex.specs.declared.token.Token.{Token}
use Rattle.promql_lex.specs.declared.token.TokenKind.{TokenKind}
use Rattle.promql_lex.specs.declared.token.TokenKind.TheVariants as tokens
use Rattle.promql_lex.specs.declared.word.Word.{Word}
use Rattle.promql_ast.specs.declared.refusal.QueryRefusal.TheVariants.{BadDuration, BadNumber, BadToken}
use Rattle.promql_parts.specs.Lexemes.{kind_of, lexemes_of, sign_kind, sign_of, spelling_in, word_kind}
use Rattle.promql_parts.specs.Patterned.{Becomes, IsPattern, Kept, Patterned}
use Rattle.promql_parts.specs.Selectors.{is_empty_text}
use Rattle.promql_parts.specs.Steps.{true_false}
use Rattle.promql_parts.specs.declared.lexeme.Lexeme.{Lexeme}
use Rattle.promql_parts.specs.declared.lexeme.LexemeKind.{LexemeKind}
use Rattle.promql_parts.specs.declared.lexeme.LexemeKind.TheVariants as kinds
use Rattle.promql_parts.specs.declared.lexeme.Sign.{Sign}
use Rattle.ticks.specs.Durations.{duration_answer, duration_in, hundred_years, within_years}
use Rattle.ticks.specs.declared.moment.Ms.{Ms}
use Rattle.ticks.specs.declared.refusal.TickRefusal.{TickRefusal}
use Rattle.ticks.specs.declared.refusal.TickRefusal.TheVariants.{BadDuration as NoDuration, OutOfRange, TooManySteps}
use Rattle.xfrac.specs.Fractions.{limit}
use Rattle.xfrac.specs.declared.value.XFrac.{XFrac}
use Rattle.xfrac.specs.declared.value.XFrac.TheVariants.{PosInf, NaN}
use Rattle.print_laws.proofs.Kept.{Grown, IsKeptPattern, grows, lifted, pattern_kept}
use Rattle.print_laws.proofs.Values.{IsWritten, formed_written}

-- a text of a name: in UTF-8, and not empty
abbrev pub IsSome : List ℕ → Type 0
IsSome s = (is_utf8 s ≡ true) × (is_empty_text s ≡ false)

-- a lexeme, apart from its pattern, of which something is known
abbrev pub GoodBut : (Kept → LexemeKind → Type 0) → Kept → LexemeKind → Type 0
GoodBut of_pattern kept (kinds.Number value) = IsWritten value
GoodBut of_pattern kept (kinds.Duration duration) = (n : ℕ) × (duration ≡ record { 0 = pos n }) × (n ≤ hundred_years)
GoodBut of_pattern kept (kinds.Name s) = IsSome s
GoodBut of_pattern kept (kinds.Word w s) = IsSome s
GoodBut of_pattern kept (kinds.Quoted text) = is_utf8 text ≡ true
GoodBut of_pattern kept (kinds.Pattern id passes_empty) = of_pattern kept (kinds.Pattern id passes_empty)
GoodBut of_pattern kept _ = ⊤

abbrev HasKept : Kept → LexemeKind → Type 0
HasKept kept (kinds.Pattern id passes_empty) = IsKeptPattern kept id passes_empty
HasKept kept _ = ⊤

-- what is known of a lexeme where these patterns are kept
abbrev pub Good : Kept → LexemeKind → Type 0
Good = GoodBut HasKept

abbrev pub AreGood : Kept → List Lexeme → Type 0
AreGood kept ls = AllByRecursion (λ (l : Lexeme). Good kept l.kind) ls

-- before patterns stand in place of strings
abbrev pub Raw : LexemeKind → Type 0
Raw = GoodBut (λ kept kind. ⊥) []

-- ---- literals

module _ (decimals : (r d k : ℕ) → 0 < d → d ≤ limit → r * 10 ^ k % d ≡ 0 → IsTrue (ends r d)) (literals : (text : List ℕ) (v : XFrac) → (literal_answer text ≡ Ok v) ↔ IsLiteral text v) where
  ten_some : (k : ℕ) → 0 < 10 ^ k
  ten_some zero = omega arith
  ten_some (suc k) = let less = ten_some k in omega (arith, less)

  scaled_written : (n places : ℕ) (negative : Bool) (size : ℕ) (v : XFrac) → scaled n places negative size ≡ Some v → IsWritten v
  scaled_written n places true size v is = formed_written decimals n (10 ^ (places + size)) (places + size) v (ten_some (places + size)) refl is
  scaled_written n places false size v is = formed_written decimals (n * 10 ^ size) (10 ^ places) places v (ten_some places) refl is

  unsigned_written : (text : List ℕ) (v : XFrac) → IsUnsignedNumber true text v → IsWritten v
  unsigned_written text v (inl is) = subst IsWritten (sym is.1) tt
  unsigned_written text v (inr (inl is)) = subst IsWritten (sym is.1) tt
  unsigned_written text v (inr (inr is)) = scaled_written (number is.1.0.digits) is.1.0.places is.1.0.exponent.negative is.1.0.exponent.size v is.1.2

  literal_written : (text : List ℕ) (v : XFrac) → IsLiteral text v → IsWritten v
  literal_written text v (inl is) = formed_written decimals _ 1 0 v (omega arith) refl is.value
  literal_written text v (inr is) = unsigned_written text v is

  -- ---- tokens

  within_is : (n : ℕ) (t : Bool) (d : Ms) → nat_lt hundred_years n ≡ t → ◌≡◌ {A = Result Ms TickRefusal} (if t then Err OutOfRange else Ok (record { 0 = pos n })) (Ok d) → (m : ℕ) × (d ≡ record { 0 = pos m }) × (m ≤ hundred_years)
  within_is n true d is so = absurd (cc)
  within_is n false d is so = (n, cc, grind (arith, is))

  duration_is : (o : Option ℕ) (d : Ms) → within_years o ≡ Ok d → (m : ℕ) × (d ≡ record { 0 = pos m }) × (m ≤ hundred_years)
  duration_is None d is = absurd (cc)
  duration_is (Some n) d is = within_is n (nat_lt hundred_years n) d refl is

  bad_raw : (at : ℕ) (s : List ℕ) (t : Bool) → Raw (kind_of at s (if t then tokens.Bad (BadDuration at) else tokens.Bad (BadNumber at)))
  bad_raw at s true = tt
  bad_raw at s false = tt

  duration_raw : (at : ℕ) (s : List ℕ) (o : Result Ms TickRefusal) → duration_answer s ≡ o → Raw (kind_of at s (duration_kind at s o))
  duration_raw at s (Ok d) is = duration_is (duration_in s) d is
  duration_raw at s (Err OutOfRange) is = tt
  duration_raw at s (Err NoDuration) is = bad_raw at s (has_units s)
  duration_raw at s (Err TooManySteps) is = bad_raw at s (has_units s)

  read_raw : (at : ℕ) (s : List ℕ) (o : Result XFrac NumberRefusal) → literal_answer s ≡ o → Raw (kind_of at s (read_kind at s o))
  read_raw at s (Ok v) is = literal_written s v ((literals s v).0 is)
  read_raw at s (Err OutOfLimits) is = tt
  read_raw at s (Err ZeroFirst) is = tt
  read_raw at s (Err NoNumber) is = duration_raw at s (duration_answer s) refl

  run_raw : (at : ℕ) (s : List ℕ) (t : Bool) → Raw (kind_of at s (if t then number_kind at s else tokens.Bad (BadNumber at)))
  run_raw at s true = read_raw at s (literal_answer s) refl
  run_raw at s false = tt

  name_if : (at : ℕ) (s : List ℕ) (t : Bool) → is_utf8 s ≡ t → is_empty_text s ≡ false → Raw (if t then kinds.Name s else kinds.Bad (BadToken at))
  name_if at s true is some = (is, some)
  name_if at s false is some = tt

  word_if : (at : ℕ) (s : List ℕ) (w : Word) (t : Bool) → is_utf8 s ≡ t → is_empty_text s ≡ false → Raw (if t then kinds.Word w s else kinds.Bad (BadToken at))
  word_if at s w true is some = (is, some)
  word_if at s w false is some = tt

  word_raw : (at : ℕ) (s : List ℕ) (o : Option Word) → is_empty_text s ≡ false → Raw (word_kind at s o)
  word_raw at s None some = tt
  word_raw at s (Some w) some = word_if at s w (is_utf8 s) refl some

  named_raw : (at : ℕ) (s : List ℕ) (a b c : Bool) → is_empty_text s ≡ false
      → Raw (kind_of at s (if a then tokens.Number PosInf else if b then tokens.Number NaN else if c then tokens.Word else tokens.Name))
  named_raw at s true b c some = tt
  named_raw at s false true c some = tt
  named_raw at s false false true some = word_raw at s (word_of s) some
  named_raw at s false false false some = name_if at s (is_utf8 s) refl some

  text_raw : (at : ℕ) (s bytes : List ℕ) (t : Bool) → is_utf8 bytes ≡ t → Raw (kind_of at s (if t then tokens.Quoted bytes else tokens.Bad (BadToken at)))
  text_raw at s bytes true is = is
  text_raw at s bytes false is = tt

  decoded_raw : (at : ℕ) (s : List ℕ) (o : Result (List ℕ) ℕ) → Raw (kind_of at s (decoded_kind at o))
  decoded_raw at s (Ok bytes) = text_raw at s bytes (is_utf8 bytes) refl
  decoded_raw at s (Err place) = tt

  sign_raw : (at : ℕ) (o : Option Sign) → Raw (sign_kind at o)
  sign_raw at None = tt
  sign_raw at (Some sign) = tt

  some_first : (inside : Bool) (s : List ℕ) → IsTrue (first_is (starts_name inside) s) → is_empty_text s ≡ false
  some_first inside [] is = true_false (sym is)
  some_first inside (b ∷ s) is = refl

  spelled_raw : {at : ℕ} {s : List ℕ} {kind : TokenKind} → IsSpelling at s kind → Raw (kind_of at s kind)
  spelled_raw {at = at} (IsSpelling.named inside s starts all) = named_raw at s (is_word s (codes "inf")) (is_word s (codes "nan")) (is_query_word s) (some_first inside s starts)
  spelled_raw {at = at} (IsSpelling.counted s whole) = run_raw at s (is_utf8 s)
  spelled_raw {at = at} (IsSpelling.quoted quote body s is len same) = decoded_raw at s (decoded 0 quote (at + 1) body)
  spelled_raw {at = at} (IsSpelling.raw body s len same) = text_raw at s body (is_utf8 body) refl
  spelled_raw (IsSpelling.unclosed quote body s is len same) = tt
  spelled_raw (IsSpelling.raw_unclosed body s len same) = tt
  spelled_raw {at = at} (IsSpelling.signed s is) = sign_raw at (sign_of s)
  spelled_raw (IsSpelling.refused byte bytes s no_piece all same) = tt

-- ---- lexemes

abbrev TokensAreSpelled : List ℕ → List Token → Type 0
TokensAreSpelled text ts = (front : List Token) (t : Token) (back : List Token) → ts ≡ front ++ t ∷ back → Raw (kind_of t.at (spelling_in text t.at t.end) t.kind)

all_raw : (text : List ℕ) (ts : List Token) → TokensAreSpelled text ts → AllByRecursion (λ (l : Lexeme). Raw l.kind) (lexemes_of text ts)
all_raw text [] each = tt
all_raw text (t ∷ ts) each = (each [] t ts refl, all_raw text ts (λ front u back is. each (t ∷ front) u back (ap (λ us. t ∷ us) is)))

abbrev pub AllRaw : List Lexeme → Type 0
AllRaw ls = AllByRecursion (λ (l : Lexeme). Raw l.kind) ls

raw_good : (kept : Kept) (kind : LexemeKind) → Raw kind → Good kept kind
raw_good kept (kinds.Number value) is = is
raw_good kept (kinds.Duration duration) is = is
raw_good kept (kinds.Name s) is = is
raw_good kept (kinds.Word w s) is = is
raw_good kept (kinds.Quoted text) is = is
raw_good kept (kinds.Pattern id passes_empty) is = absurd is
raw_good kept (kinds.Sign sign) is = tt
raw_good kept (kinds.Bad refusal) is = tt

good_lifted : (before after : Kept) (kind : LexemeKind) → Grown before after → Good before kind → Good after kind
good_lifted before after (kinds.Number value) grown is = is
good_lifted before after (kinds.Duration duration) grown is = is
good_lifted before after (kinds.Name s) grown is = is
good_lifted before after (kinds.Word w s) grown is = is
good_lifted before after (kinds.Quoted text) grown is = is
good_lifted before after (kinds.Pattern id passes_empty) grown is = lifted before after id passes_empty grown is
good_lifted before after (kinds.Sign sign) grown is = tt
good_lifted before after (kinds.Bad refusal) grown is = tt

pattern_good : {at : ℕ} {text : List ℕ} {before after : Kept} {kind : LexemeKind} → IsPattern at text before after kind → is_utf8 text ≡ true → Good after kind
pattern_good {text = text} {before = before} (IsPattern.kept after id passes readable is few number told) utf8 = pattern_kept text before after id passes utf8 readable is few number told
pattern_good (IsPattern.refused after plain refused is) utf8 = tt
pattern_good (IsPattern.too_many after readable kept full is) utf8 = tt

quoted_text : (kind : LexemeKind) (text : List ℕ) → kind ≡ kinds.Quoted text → Raw kind → is_utf8 text ≡ true
quoted_text kind text is raw = subst Raw is raw

becomes_good : {behind : Bool} {before after : Kept} {l m : Lexeme} → Becomes behind before l after m → Raw l.kind → Good after m.kind
becomes_good {before = before} (Becomes.same l no_sign) raw = raw_good before l.kind raw
becomes_good {before = before} (Becomes.other l no_string) raw = raw_good before l.kind raw
becomes_good (Becomes.pattern l m text after sign string place is) raw = pattern_good is (quoted_text l.kind text string raw)

pub are_good : {behind : Bool} {before after : Kept} {ls ms : List Lexeme} → Patterned behind before ls after ms → AllRaw ls → AreGood after ms
are_good Patterned.done = λ raw. tt
are_good (Patterned.last l m ls after becomes bad) = λ raw. (becomes_good becomes raw.0, tt)
are_good (Patterned.more l m ls ms middle after becomes good later) = λ raw. (good_lifted middle after m.kind (grows later) (becomes_good becomes raw.0), are_good later raw.1)

-- the lexemes of a text whose tokens are spelled as the law says
pub lexemes_are_raw : ((r d k : ℕ) → 0 < d → d ≤ limit → r * 10 ^ k % d ≡ 0 → IsTrue (ends r d)) → ((text : List ℕ) (v : XFrac) → (literal_answer text ≡ Ok v) ↔ IsLiteral text v)
    → (text : List ℕ) → ((front : List Token) (t : Token) (back : List Token) → tokens_of text ≡ front ++ t ∷ back → IsSpelling t.at (take (t.end - t.at) (drop t.at text)) t.kind)
    → AllRaw (lexemes_of text (tokens_of text))
lexemes_are_raw decimals literals text spelled = all_raw text (tokens_of text) (λ front t back split. spelled_raw decimals literals (spelled front t back split))
