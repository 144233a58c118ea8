-- A text in quotes is read as the string that stands for it.
use Rattle.std.proofs.Common.{◌≡◌, ℕ, suc, ◌+◌, ◌++◌, ◌∙◌, Bool, true, false, List, [], ◌∷◌, length, take, refl, ap, sym, subst, arith, eqb-true, append_assoc, length-append}
use Rattle.std.specs.Prelude.{◌==◌, if◌then◌else◌, Option, Some, option_map, Ok}
use Rattle.std.specs.List.{flat_map}
use Rattle.std.specs.Str.{is_utf8}
use Rattle.label_set.specs.LabelText.{escaped_byte}
use Rattle.promql_lex.specs.Pieces.{closed_piece, decoded_kind, piece_at, string_at, token}
use Rattle.promql_lex.specs.Quoted.{behind, body_len, decoded}
use Rattle.promql_ast.specs.declared.refusal.QueryRefusal.TheVariants.{BadToken}
use Rattle.promql_lex.specs.declared.token.TokenKind.TheVariants.{Bad, Quoted}
use Rattle.print_laws.proofs.Lexed.{take_front}

-- a byte that is escaped, or one that stands as it is
data Written : ℕ → Type 0 where
  backslash : Written 92
  quote : Written 34
  feed : Written 10
  plain : (b : ℕ) → (b == 92) ≡ false → (b == 34) ≡ false → (b == 10) ≡ false → Written b

by_feed : (b : ℕ) (t : Bool) → (b == 10) ≡ t → (b == 92) ≡ false → (b == 34) ≡ false → Written b
by_feed b true is slash quotes = subst Written (sym (eqb-true b 10 is)) feed
by_feed b false is slash quotes = plain b slash quotes is

by_quote : (b : ℕ) (t : Bool) → (b == 34) ≡ t → (b == 92) ≡ false → Written b
by_quote b true is slash = subst Written (sym (eqb-true b 34 is)) quote
by_quote b false is slash = by_feed b (b == 10) refl slash is

by_slash : (b : ℕ) (t : Bool) → (b == 92) ≡ t → Written b
by_slash b true is = subst Written (sym (eqb-true b 92 is)) backslash
by_slash b false is = by_quote b (b == 34) refl is

written : (b : ℕ) → Written b
written b = by_slash b (b == 92) refl

abbrev body : List ℕ → List ℕ
body text = flat_map escaped_byte text

-- ---- where the body ends

two_more : (n : ℕ) → ◌≡◌ {A = Option ℕ} (Some (n + 1 + 1)) (Some (suc (suc n)))
two_more n = let e : n + 1 + 1 ≡ suc (suc n) = omega arith in ap Some e

abbrev more : Option ℕ → Option ℕ
more o = option_map (λ n. n + 1) o

stands : (b : ℕ) (text : List ℕ) → (b == 92) ≡ false → (b == 34) ≡ false → (b == 10) ≡ false → body (b ∷ text) ≡ b ∷ body text
stands b text slash quotes feeds = rw (slash, quotes, feeds) refl

ends_plain : (b : ℕ) (text rest : List ℕ) → (b == 92) ≡ false → (b == 34) ≡ false → (b == 10) ≡ false
    → body_len false 34 (body text ++ 34 ∷ rest) ≡ Some (length (body text)) → body_len false 34 (b ∷ (body text ++ 34 ∷ rest)) ≡ Some (suc (length (body text)))
ends_plain b text rest slash quotes feeds h =
    let e : length (body text) + 1 ≡ suc (length (body text)) = omega arith in
    rw (slash, quotes, feeds) (ap more h ∙ ap Some e)

ends_step : (b : ℕ) → Written b → (text rest : List ℕ) → body_len false 34 (body text ++ 34 ∷ rest) ≡ Some (length (body text))
    → body_len false 34 (body (b ∷ text) ++ 34 ∷ rest) ≡ Some (length (body (b ∷ text)))
ends_step _ backslash text rest h = ap (λ o. more (more o)) h ∙ two_more (length (body text))
ends_step _ quote text rest h = ap (λ o. more (more o)) h ∙ two_more (length (body text))
ends_step _ feed text rest h = ap (λ o. more (more o)) h ∙ two_more (length (body text))
ends_step b (plain _ slash quotes feeds) text rest h =
    subst (λ xs. body_len false 34 (xs ++ 34 ∷ rest) ≡ Some (length xs)) (sym (stands b text slash quotes feeds)) (ends_plain b text rest slash quotes feeds h)

ends : (text rest : List ℕ) → body_len false 34 (body text ++ 34 ∷ rest) ≡ Some (length (body text))
ends [] rest = refl
ends (b ∷ text) rest = ends_step b (written b) text rest (ends text rest)

-- ---- what it stands for

stands_for_plain : (b at : ℕ) (text : List ℕ) → (b == 92) ≡ false → decoded 0 34 (at + 1) (body text) ≡ Ok text → decoded 0 34 at (b ∷ body text) ≡ Ok (b ∷ text)
stands_for_plain b at text slash h = rw slash (ap (behind (b ∷ [])) h)

stands_for_step : (b : ℕ) → Written b → (text : List ℕ) → ((at : ℕ) → decoded 0 34 at (body text) ≡ Ok text) → (at : ℕ) → decoded 0 34 at (body (b ∷ text)) ≡ Ok (b ∷ text)
unfolding lib.Utf8.encode
stands_for_step _ backslash text h at = ap (behind (92 ∷ [])) (h (at + 1 + 1))
stands_for_step _ quote text h at = ap (behind (34 ∷ [])) (h (at + 1 + 1))
stands_for_step _ feed text h at = ap (behind (10 ∷ [])) (h (at + 1 + 1))
stands_for_step b (plain _ slash quotes feeds) text h at =
    subst (λ xs. decoded 0 34 at xs ≡ Ok (b ∷ text)) (sym (stands b text slash quotes feeds)) (stands_for_plain b at text slash (h (at + 1)))

stands_for : (text : List ℕ) (at : ℕ) → decoded 0 34 at (body text) ≡ Ok text
stands_for [] at = refl
stands_for (b ∷ text) at = stands_for_step b (written b) text (stands_for text) at

-- ---- the token

-- the piece from behind the opening quote
pub string_piece : (inside : Bool) (at : ℕ) (text rest : List ℕ) → is_utf8 text ≡ true
    → piece_at inside at 34 ((body text ++ 34 ∷ []) ++ rest) ≡ token (suc (length (body text ++ 34 ∷ []))) (Quoted text)
string_piece inside at text rest utf8 =
    let joined : (body text ++ 34 ∷ []) ++ rest ≡ body text ++ 34 ∷ rest = append_assoc (body text) (34 ∷ []) rest in
    let cut : take (length (body text)) (body text ++ 34 ∷ rest) ≡ body text = take_front (body text) (34 ∷ rest) in
    let size : length (body text) + 2 ≡ suc (length (body text ++ 34 ∷ [])) = omega (arith, length-append (body text) (34 ∷ [])) in
    ap (λ xs. string_at 34 at xs) joined
    ∙ ap (λ found. closed_piece 34 at (body text ++ 34 ∷ rest) found) (ends text rest)
    ∙ ap (λ xs. token (length (body text) + 2) (decoded_kind at (decoded 0 34 (at + 1) xs))) cut
    ∙ ap (λ r. token (length (body text) + 2) (decoded_kind at r)) (stands_for text (at + 1))
    ∙ ap (λ t. token (length (body text) + 2) (if t then Quoted text else Bad (BadToken at))) utf8
    ∙ ap (λ n. token n (Quoted text)) size
