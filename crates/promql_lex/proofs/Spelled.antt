-- Each token's kind is that of its span's spelling.
use Rattle.std.proofs.Common.{◌≡◌, ℕ, zero, suc, ◌+◌, ◌-◌, ◌<◌, ◌++◌, ◌∙◌, Bool, true, false, cond, List, [], ◌∷◌, length, take, drop, refl, ap, sym, subst, arith, not, eqb-true}
use Rattle.std.specs.Prelude.{◌&&◌, ◌||◌, ◌==◌, if◌then◌else◌, Option, Some, None, option_map, ⊤}
use Rattle.std.proofs.Math.Seq.{take-length}
use Rattle.std.proofs.lemmas.Bool.{false_from_ne_true}
use Rattle.std.proofs.lemmas.List.{drop-drop}
use Rattle.std.specs.Char.{is_ascii_alphabetic, is_ascii_digit}
use Rattle.std.specs.List.{list_all, prefix_len}
use Rattle.promql_lex.specs.Gaps.{begins_comment, is_blank, is_comment_byte}
use Rattle.promql_lex.specs.Laws.{IsSpelling, begins_piece, first_is, is_quote, is_sign}
use Rattle.promql_lex.specs.Names.{continues_name, name_kind, starts_name}
use Rattle.promql_lex.specs.Numbers.{begins_number, begins_with_digit, run_len}
use Rattle.promql_lex.specs.Pieces.{closed_piece, decoded_kind, gap, piece_at, raw_piece, run_kind, text_kind, token}
use Rattle.promql_lex.specs.Quoted.{body_len, decoded, raw_len}
use Rattle.promql_lex.specs.Signs.{begins_double, character_len, is_continuation, is_single}
use Rattle.promql_lex.specs.Tokens.{inside_behind, is_bad, tokens_from, with_kind}
use Rattle.promql_lex.specs.declared.piece.Piece.{Piece}
use Rattle.promql_lex.specs.declared.token.Token.{Token}
use Rattle.promql_lex.specs.declared.token.TokenKind.{TokenKind}
use Rattle.promql_lex.specs.declared.token.TokenKind.TheVariants.{Sign, Bad}
use Rattle.promql_ast.specs.declared.refusal.QueryRefusal.TheVariants.{BadToken, Unterminated}
use Rattle.promql_lex.proofs.Quotes.{and_second, body_first, none_some, raw_first, some_inner}
use Rattle.promql_lex.proofs.Runs.{whole_run}
use Rattle.promql_lex.proofs.Sizes.{by_piece, if_both, some_name}
use Rattle.promql_lex.proofs.Spans.{and_both}

some_same : (n : ℕ) (k kind : TokenKind) → (token n k).kind ≡ Some kind → k ≡ kind
some_same n k kind h = cc

gap_none : (n : ℕ) (kind : TokenKind) → (gap n).kind ≡ Some kind → ⊥
gap_none n kind h = absurd (cc)

first_of : (p : ℕ → Bool) (n byte : ℕ) (bytes : List ℕ) → 0 < n → p byte ≡ true → first_is p (take n (byte ∷ bytes)) ≡ true
first_of p zero byte bytes some h = absurd (omega (arith, some))
first_of p (suc n) byte bytes some h = h

take_first : (n x : ℕ) (xs : List ℕ) → take (1 + n) (x ∷ xs) ≡ x ∷ take n xs
take_first n x xs = let e : 1 + n ≡ suc n = omega arith in ap (λ k. take k (x ∷ xs)) e

all_step : (p : ℕ → Bool) (c : Bool) (n x : ℕ) (xs : List ℕ) → p x ≡ c → list_all p (take n xs) ≡ true → list_all p (take (cond c (1 + n) 0) (x ∷ xs)) ≡ true
all_step p true n x xs is h = subst (λ ys. list_all p ys ≡ true) (sym (take_first n x xs)) (and_both (p x) (list_all p (take n xs)) is h)
all_step p false n x xs is h = refl

all_front : (p : ℕ → Bool) (xs : List ℕ) → list_all p (take (prefix_len p xs) xs) ≡ true
all_front p [] = refl
all_front p (x ∷ xs) = all_step p (p x) (prefix_len p xs) x xs refl (all_front p xs)

-- where the closing quote stands

close_step : (o : Option ℕ) (quote b n : ℕ) (bs : List ℕ) → ((k : ℕ) → o ≡ Some k → take (k + 1) bs ≡ take k bs ++ quote ∷ []) → option_map (λ k. k + 1) o ≡ Some n
    → take (n + 1) (b ∷ bs) ≡ take n (b ∷ bs) ++ quote ∷ []
close_step None quote b n bs later h = absurd (cc)
close_step (Some k) quote b n bs later h =
    let e : n ≡ suc k = omega (arith, some_inner (k + 1) n h) in
    let f : n + 1 ≡ suc (k + 1) = omega (arith, e) in
    ap (λ m. take m (b ∷ bs)) f ∙ ap (λ xs. b ∷ xs) (later k refl) ∙ sym (ap (λ m. take m (b ∷ bs) ++ quote ∷ []) e)

close_here : (quote b n : ℕ) (bs : List ℕ) → b ≡ quote → Some 0 ≡ Some n → take (n + 1) (b ∷ bs) ≡ take n (b ∷ bs) ++ quote ∷ []
close_here quote b n bs same h =
    let e : 0 ≡ n = cc in
    subst (λ m. take (m + 1) (b ∷ bs) ≡ take m (b ∷ bs) ++ quote ∷ []) e (ap (λ x. x ∷ []) same)

body_closes : (escaped : Bool) (quote n : ℕ) (text : List ℕ) → body_len escaped quote text ≡ Some n → take (n + 1) text ≡ take n text ++ quote ∷ []
body_closes escaped quote n [] h = absurd (none_some n ⊥ h)
body_closes escaped quote n (b ∷ bs) h =
    let P = λ (o : Option ℕ). o ≡ Some n → take (n + 1) (b ∷ bs) ≡ take n (b ∷ bs) ++ quote ∷ [] in
    let later = option_map (λ k. k + 1) (body_len (not escaped && b == 92) quote bs) in
    if_both P (b == 10) None (if (not escaped && b == quote) then Some 0 else later) (λ _ e. none_some n (take (n + 1) (b ∷ bs) ≡ take n (b ∷ bs) ++ quote ∷ []) e)
    (λ _. if_both P (not escaped && b == quote) (Some 0) later (λ is e. close_here quote b n bs (eqb-true b quote (and_second (not escaped) (b == quote) is)) e)
    (λ _ e. close_step (body_len (not escaped && b == 92) quote bs) quote b n bs (λ k f. body_closes (not escaped && b == 92) quote k bs f) e)) h

raw_closes : (n : ℕ) (text : List ℕ) → raw_len text ≡ Some n → take (n + 1) text ≡ take n text ++ 96 ∷ []
raw_closes n [] h = absurd (none_some n ⊥ h)
raw_closes n (b ∷ bs) h =
    let P = λ (o : Option ℕ). o ≡ Some n → take (n + 1) (b ∷ bs) ≡ take n (b ∷ bs) ++ 96 ∷ [] in
    if_both P (b == 96) (Some 0) (option_map (λ k. k + 1) (raw_len bs)) (λ is e. close_here 96 b n bs (eqb-true b 96 is) e)
    (λ _ e. close_step (raw_len bs) 96 b n bs (λ k f. raw_closes k bs f) e) h

closed_text : (quote n : ℕ) (text : List ℕ) → take (n + 1) text ≡ take n text ++ quote ∷ [] → take (n + 2) (quote ∷ text) ≡ quote ∷ take n text ++ quote ∷ []
closed_text quote n text h = let e : n + 2 ≡ suc (n + 1) = omega arith in ap (λ m. take m (quote ∷ text)) e ∙ ap (λ xs. quote ∷ xs) h

-- pieces

abbrev IsTold : ℕ → List ℕ → Piece → Type 0
IsTold at text p = (kind : TokenKind) → p.kind ≡ Some kind → IsSpelling at (take p.size text) kind

told : (at n : ℕ) (text : List ℕ) (k : TokenKind) → IsSpelling at (take n text) k → IsTold at text (token n k)
told at n text k s kind h = subst (IsSpelling at (take n text)) (some_same n k kind h) s

whole_text : (x : ℕ) (xs : List ℕ) → take (1 + length xs) (x ∷ xs) ≡ x ∷ xs
whole_text x xs = take_first (length xs) x xs ∙ ap (λ ys. x ∷ ys) (take-length xs)

closed_told : (quote at : ℕ) (text : List ℕ) (o : Option ℕ) → is_quote quote ≡ true → body_len false quote text ≡ o → IsTold at (quote ∷ text) (closed_piece quote at text o)
closed_told quote at text None is len =
    told at (1 + length text) (quote ∷ text) (Bad (Unterminated at)) (IsSpelling.unclosed quote text (take (1 + length text) (quote ∷ text)) is len (whole_text quote text))
closed_told quote at text (Some n) is len =
    told at (n + 2) (quote ∷ text) (decoded_kind at (decoded 0 quote (at + 1) (take n text)))
    (IsSpelling.quoted quote (take n text) (take (n + 2) (quote ∷ text)) is (body_first false quote n text len) (closed_text quote n text (body_closes false quote n text len)))

raw_told : (byte at : ℕ) (text : List ℕ) (o : Option ℕ) → byte ≡ 96 → raw_len text ≡ o → IsTold at (byte ∷ text) (raw_piece at text o)
raw_told byte at text None is len =
    told at (1 + length text) (byte ∷ text) (Bad (Unterminated at))
    (IsSpelling.raw_unclosed text (take (1 + length text) (byte ∷ text)) len (whole_text byte text ∙ ap (λ x. x ∷ text) is))
raw_told byte at text (Some n) is len =
    told at (n + 2) (byte ∷ text) (text_kind at (take n text))
    (IsSpelling.raw (take n text) (take (n + 2) (byte ∷ text)) (raw_first n text len)
    (subst (λ x. take (n + 2) (x ∷ text) ≡ 96 ∷ take n text ++ 96 ∷ []) (sym is) (closed_text 96 n text (raw_closes n text len))))

double_sign : (a : ℕ) (text : List ℕ) → begins_double a text ≡ true → is_sign (take 2 (a ∷ text)) ≡ true
double_sign a [] h = absurd (cc)
double_sign a (b ∷ text) h = h

-- a character that begins nothing begins nothing alone

or_none : (a b : Bool) → a ≡ false → b ≡ false → (a || b) ≡ false
or_none true b p q = absurd (cc)
or_none false b p q = q

no_digit : (a b c : Bool) → (a || (b && c)) ≡ false → (a || (b && false)) ≡ false
no_digit true b c h = h
no_digit false true c h = refl
no_digit false false c h = refl

number_cut : (k byte : ℕ) (bytes : List ℕ) → begins_number byte bytes ≡ false → begins_number byte (take k bytes) ≡ false
number_cut zero byte bytes h = no_digit (is_ascii_digit byte) (byte == 46) (begins_with_digit bytes) h
number_cut (suc k) byte [] h = h
number_cut (suc k) byte (x ∷ xs) h = h

double_cut : (k byte : ℕ) (bytes : List ℕ) → begins_double byte bytes ≡ false → begins_double byte (take k bytes) ≡ false
double_cut zero byte bytes h = refl
double_cut (suc k) byte [] h = h
double_cut (suc k) byte (x ∷ xs) h = h

no_colon : (byte : ℕ) → is_single byte ≡ false → (byte == 58) ≡ false
no_colon byte single = false_from_ne_true (byte == 58) (λ e. let s : is_single 58 ≡ false = subst (λ x. is_single x ≡ false) (eqb-true byte 58 e) single in absurd (cc))

name_step : (a b c : Bool) → (a || (b || (c && false))) ≡ false → c ≡ false → (a || (b || (c && true))) ≡ false
name_step true b c h e = h
name_step false true c h e = h
name_step false false c h e = ap (λ x. x && true) e

-- outside of brackets too, since a colon is a sign
no_name : (inside : Bool) (byte : ℕ) → starts_name inside byte ≡ false → is_single byte ≡ false → starts_name false byte ≡ false
no_name false byte h single = h
no_name true byte h single = name_step (is_ascii_alphabetic byte) (byte == 95) (byte == 58) h (no_colon byte single)

record IsNoSign (byte : ℕ) (bytes : List ℕ) : Type 0 where
  blank : is_blank byte ≡ false
  comment : begins_comment byte ≡ false
  quote : is_quote byte ≡ false
  raw : (byte == 96) ≡ false
  number : begins_number byte bytes ≡ false

begins_none : (inside : Bool) (byte : ℕ) (bytes : List ℕ) → IsNoSign byte bytes → starts_name inside byte ≡ false → begins_double byte bytes ≡ false → is_single byte ≡ false
    → begins_piece byte (take (prefix_len is_continuation bytes) bytes) ≡ false
begins_none inside byte bytes bare name double single =
    let k = prefix_len is_continuation bytes in
    let cut = take k bytes in
    or_none (is_blank byte) _ bare.blank (or_none (begins_comment byte) _ bare.comment (or_none (is_quote byte) _ bare.quote (or_none (byte == 96) _ bare.raw
    (or_none (begins_number byte cut) _ (number_cut k byte bytes bare.number) (or_none (starts_name false byte) _ (no_name inside byte name single)
    (or_none (begins_double byte cut) (is_single byte) (double_cut k byte bytes double) single))))))

refused_told : (inside : Bool) (at byte : ℕ) (bytes : List ℕ) → IsNoSign byte bytes → starts_name inside byte ≡ false → begins_double byte bytes ≡ false → is_single byte ≡ false
    → IsTold at (byte ∷ bytes) (token (character_len bytes) (Bad (BadToken at)))
refused_told inside at byte bytes bare name double single =
    let k = prefix_len is_continuation bytes in
    told at (character_len bytes) (byte ∷ bytes) (Bad (BadToken at))
    (IsSpelling.refused byte (take k bytes) (take (character_len bytes) (byte ∷ bytes)) (begins_none inside byte bytes bare name double single) (all_front is_continuation bytes) (take_first k byte bytes))

sign_told : (inside : Bool) (at byte : ℕ) (bytes : List ℕ) → IsNoSign byte bytes → starts_name inside byte ≡ false
    → IsTold at (byte ∷ bytes) (if begins_double byte bytes then token 2 Sign else if is_single byte then token 1 Sign else token (character_len bytes) (Bad (BadToken at)))
sign_told inside at byte bytes bare name =
    let P = λ (p : Piece). IsTold at (byte ∷ bytes) p in
    if_both P (begins_double byte bytes) (token 2 Sign) (if is_single byte then token 1 Sign else token (character_len bytes) (Bad (BadToken at)))
    (λ h. told at 2 (byte ∷ bytes) Sign (IsSpelling.signed (take 2 (byte ∷ bytes)) (double_sign byte bytes h)))
    (λ double. if_both P (is_single byte) (token 1 Sign) (token (character_len bytes) (Bad (BadToken at)))
    (λ h. told at 1 (byte ∷ bytes) Sign (IsSpelling.signed (take 1 (byte ∷ bytes)) h))
    (λ single. refused_told inside at byte bytes bare name double single))

piece_told : (inside : Bool) (at byte : ℕ) (bytes : List ℕ) → IsTold at (byte ∷ bytes) (piece_at inside at byte bytes)
piece_told inside at byte bytes =
    let text = byte ∷ bytes in
    let run = run_len text in
    let name = prefix_len (continues_name inside) text in
    by_piece (IsTold at text) inside at byte bytes (λ _ kind h. absurd (gap_none 1 kind h)) (λ _ kind h. absurd (gap_none (1 + prefix_len is_comment_byte bytes) kind h))
    (λ h. closed_told byte at bytes (body_len false byte bytes) h refl) (λ h. raw_told byte at bytes (raw_len bytes) (eqb-true byte 96 h) refl)
    (λ h. told at run text (run_kind at (take run text)) (IsSpelling.counted (take run text) (whole_run byte bytes h)))
    (λ h. told at name text (name_kind (take name text))
    (IsSpelling.named inside (take name text) (first_of (starts_name inside) name byte bytes (some_name inside byte bytes h) h) (all_front (continues_name inside) text)))
    (λ a b c d e f. sign_told inside at byte bytes (record { blank = a; comment = b; quote = c; raw = d; number = e }) f)

-- tokens

abbrev pub IsSpelled : List ℕ → Token → Type 0
IsSpelled whole t = IsSpelling t.at (take (t.end - t.at) (drop t.at whole)) t.kind

abbrev pub AreSpelled : List ℕ → List Token → Type 0
AreSpelled whole [] = ⊤
AreSpelled whole (t ∷ ts) = IsSpelled whole t × AreSpelled whole ts

spelled_if : (whole : List ℕ) (bad : Bool) (more : List Token) → AreSpelled whole more → AreSpelled whole (if bad then [] else more)
spelled_if whole true more h = tt
spelled_if whole false more h = h

spelled_with : (whole : List ℕ) (at size : ℕ) (text : List ℕ) (kind : Option TokenKind) (more : List Token) → text ≡ drop at whole → ((k : TokenKind) → kind ≡ Some k → IsSpelling at (take size text) k)
    → AreSpelled whole more → AreSpelled whole (with_kind at size kind more)
spelled_with whole at size text None more is told h = h
spelled_with whole at size text (Some k) more is told h =
    let e : size ≡ at + size - at = omega arith in
    (subst (λ xs. IsSpelling at (take (at + size - at) xs) k) is (subst (λ m. IsSpelling at (take m text) k) e (told k refl)), spelled_if whole (is_bad k) more h)

next_is : (whole : List ℕ) (at byte : ℕ) (bytes : List ℕ) → byte ∷ bytes ≡ drop at whole → bytes ≡ drop (at + 1) whole
next_is whole at byte bytes is = ap (drop 1) is ∙ drop-drop 1 at whole

pub spelled : (whole : List ℕ) (wait : ℕ) (inside : Bool) (at : ℕ) (text : List ℕ) → text ≡ drop at whole → AreSpelled whole (tokens_from wait inside at text)
spelled whole zero inside at [] is = tt
spelled whole (suc wait) inside at [] is = tt
spelled whole (suc wait) inside at (byte ∷ bytes) is = spelled whole wait inside (at + 1) bytes (next_is whole at byte bytes is)
spelled whole zero inside at (byte ∷ bytes) is =
    let p = piece_at inside at byte bytes in
    spelled_with whole at p.size (byte ∷ bytes) p.kind (tokens_from (p.size - 1) (inside_behind inside byte) (at + 1) bytes) is (piece_told inside at byte bytes)
    (spelled whole (p.size - 1) (inside_behind inside byte) (at + 1) bytes (next_is whole at byte bytes is))

pub spelled_at : (whole : List ℕ) (front : List Token) (t : Token) (back : List Token) → AreSpelled whole (front ++ t ∷ back) → IsSpelled whole t
spelled_at whole [] t back h = h.0
spelled_at whole (u ∷ front) t back h = spelled_at whole front t back h.1
