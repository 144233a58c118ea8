-- A refused spelling is the last token.
use Rattle.std.proofs.Common.{◌≡◌, ℕ, zero, suc, ◌+◌, ◌-◌, ◌++◌, Bool, true, false, List, [], ◌∷◌, ap}
use Rattle.std.specs.Prelude.{if◌then◌else◌, Option, Some, None, ⊤}
use Rattle.promql_lex.specs.Pieces.{piece_at}
use Rattle.promql_lex.specs.Tokens.{inside_behind, is_bad, tokens_from, with_kind}
use Rattle.promql_lex.specs.declared.token.Token.{Token}
use Rattle.promql_lex.specs.declared.token.TokenKind.{TokenKind}

abbrev pub AreEnded : List Token → Type 0
AreEnded [] = ⊤
AreEnded (t ∷ ts) = (is_bad t.kind ≡ true → ts ≡ []) × AreEnded ts

ended_if : (bad : Bool) (more : List Token) → AreEnded more → AreEnded (if bad then [] else more)
ended_if true more h = tt
ended_if false more h = h

ended_with : (at size : ℕ) (kind : Option TokenKind) (more : List Token) → AreEnded more → AreEnded (with_kind at size kind more)
ended_with at size None more h = h
ended_with at size (Some kind) more h = (λ bad. ap (λ b. if b then [] else more) bad, ended_if (is_bad kind) more h)

pub ended : (wait : ℕ) (inside : Bool) (at : ℕ) (text : List ℕ) → AreEnded (tokens_from wait inside at text)
ended zero inside at [] = tt
ended (suc wait) inside at [] = tt
ended (suc wait) inside at (byte ∷ bytes) = ended wait inside (at + 1) bytes
ended zero inside at (byte ∷ bytes) =
    let p = piece_at inside at byte bytes in
    ended_with at p.size p.kind (tokens_from (p.size - 1) (inside_behind inside byte) (at + 1) bytes) (ended (p.size - 1) (inside_behind inside byte) (at + 1) bytes)

pub last_of : (front : List Token) (t : Token) (back : List Token) → AreEnded (front ++ t ∷ back) → is_bad t.kind ≡ true → back ≡ []
last_of [] t back h bad = h.0 bad
last_of (u ∷ front) t back h bad = last_of front t back h.1 bad
