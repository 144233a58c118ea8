-- A piece that is cut is passed over byte by byte.
use Rattle.std.proofs.Common.{◌≡◌, ℕ, zero, suc, ◌+◌, ◌-◌, ◌<◌, ◌++◌, length, refl, ap, ◌∙◌, sym, Bool, List, [], ◌∷◌, drop, arith}
use Rattle.std.specs.Prelude.{slice_index}
use Rattle.promql_lex.specs.Pieces.{piece_at}
use Rattle.promql_lex.specs.Tokens.{tokens_from, with_kind, inside_behind}
use Rattle.promql_lex.specs.declared.piece.Piece.{Piece}
use Rattle.promql_lex.specs.declared.token.Token.{Token}
use Rattle.promql_lex.specs.Quoted.{decoded}

pub tokens_wait : (wait : ℕ) (inside : Bool) (at : ℕ) (text : List ℕ) → tokens_from wait inside at text ≡ tokens_from 0 inside (at + wait) (drop wait text)
tokens_wait zero inside at [] = refl
tokens_wait (suc wait) inside at [] = refl
tokens_wait zero inside at (byte ∷ bytes) = ap (λ n. tokens_from 0 inside n (byte ∷ bytes)) (omega arith)
tokens_wait (suc wait) inside at (byte ∷ bytes) = tokens_wait wait inside (at + 1) bytes ∙ ap (λ n. tokens_from 0 inside n (drop wait bytes)) (omega arith)

pub decoded_wait : (wait quote at : ℕ) (text : List ℕ) → decoded wait quote at text ≡ decoded 0 quote (at + wait) (drop wait text)
decoded_wait zero quote at [] = refl
decoded_wait (suc wait) quote at [] = refl
decoded_wait zero quote at (byte ∷ bytes) = ap (λ n. decoded 0 quote n (byte ∷ bytes)) (omega arith)
decoded_wait (suc wait) quote at (byte ∷ bytes) = decoded_wait wait quote (at + 1) bytes ∙ ap (λ n. decoded 0 quote n (drop wait bytes)) (omega arith)

pub drop_behind : (n byte : ℕ) (bytes : List ℕ) → 0 < n → drop n (byte ∷ bytes) ≡ drop (n - 1) bytes
drop_behind zero byte bytes some = absurd (omega (arith, some))
drop_behind (suc n) byte bytes some = ap (λ k. drop k bytes) (omega arith)

-- a piece is put and its bytes are passed over
pub piece_put : (out new : List Token) (inside : Bool) (at : ℕ) (p : Piece) (text after : List ℕ) → 0 < length text → p ≡ piece_at inside at (slice_index text 0) (drop 1 text)
    → 0 < p.size → after ≡ drop p.size text → ((rest : List Token) → out ++ with_kind at p.size p.kind rest ≡ new ++ rest)
    → new ++ tokens_from 0 (inside_behind inside (slice_index text 0)) (at + p.size) after ≡ out ++ tokens_from 0 inside at text
piece_put out new inside at p [] after some is size after_is told = absurd (omega (arith, some))
piece_put out new inside at p (byte ∷ bytes) after some is size after_is told =
    ap (λ ts. new ++ tokens_from 0 (inside_behind inside byte) (at + p.size) ts) (after_is ∙ drop_behind p.size byte bytes size)
    ∙ ap (λ n. new ++ tokens_from 0 (inside_behind inside byte) n (drop (p.size - 1) bytes)) (omega (arith, size))
    ∙ ap (λ ts. new ++ ts) (sym (tokens_wait (p.size - 1) (inside_behind inside byte) (at + 1) bytes))
    ∙ sym (told (tokens_from (p.size - 1) (inside_behind inside byte) (at + 1) bytes))
    ∙ ap (λ q. out ++ with_kind at q.size q.kind (tokens_from (q.size - 1) (inside_behind inside byte) (at + 1) bytes)) is
