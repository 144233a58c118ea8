-- How the spans of tokens lie in their text.
use Rattle.std.proofs.Common.{◌≡◌, ℕ, zero, suc, ◌+◌, ◌-◌, ◌<◌, ◌≤◌, ◌∙◌, Bool, true, false, cond, List, [], ◌∷◌, length, take, drop, refl, ap, sym, subst, arith, length-drop, not, eqb-true}
use Rattle.std.proofs.Math.Seq.{take-nil}
use Rattle.std.specs.Prelude.{◌&&◌, ◌==◌, if◌then◌else◌, Option, Some, None}
use Rattle.std.proofs.lemmas.Bool.{false_from_ne_true, true_from_ne_false}
use Rattle.std.proofs.lemmas.List.{drop-drop}
use Rattle.std.specs.List.{prefix_len}
use Rattle.promql_lex.specs.Gaps.{begins_comment, is_blank, is_comment_byte}
use Rattle.promql_lex.specs.Laws.{AreLaidOut, is_gap}
use Rattle.promql_lex.specs.Pieces.{closed_piece, piece_at, raw_piece, run_kind, token}
use Rattle.promql_lex.specs.Names.{continues_name, name_kind}
use Rattle.promql_lex.specs.Numbers.{run_len}
use Rattle.promql_lex.specs.Signs.{character_len}
use Rattle.promql_lex.specs.declared.token.TokenKind.TheVariants.{Sign, Bad}
use Rattle.promql_ast.specs.declared.refusal.QueryRefusal.TheVariants.{BadToken}
use Rattle.promql_lex.specs.Quoted.{body_len, raw_len}
use Rattle.promql_lex.specs.Tokens.{inside_behind, is_bad, token_of, tokens_from, with_kind}
use Rattle.promql_lex.specs.declared.piece.Piece.{Piece}
use Rattle.promql_lex.specs.declared.token.Token.{Token}
use Rattle.promql_lex.specs.declared.token.TokenKind.{TokenKind}
use Rattle.promql_lex.proofs.Sizes.{by_piece, by_sign, piece_fits}
use Rattle.promql_lex.proofs.Waits.{drop_behind}

pub and_both : (a b : Bool) → a ≡ true → b ≡ true → (a && b) ≡ true
and_both true b p q = q
and_both false b p q = absurd (cc)

and_last : (a b : Bool) → (a && b) ≡ true → b ≡ true
and_last true b h = h
and_last false b h = absurd (cc)

-- a gap of so many bytes may stand before another one
pub record Joins (n : ℕ) (text : List ℕ) : Type 0 where
  pub all : is_gap false (drop n text) ≡ true → is_gap false text ≡ true
  pub part : (k : ℕ) → is_gap false (take k (drop n text)) ≡ true → is_gap false (take (n + k) text) ≡ true

drop_next : (n byte : ℕ) (bytes : List ℕ) → drop (1 + n) (byte ∷ bytes) ≡ drop n bytes
drop_next n byte bytes = let e : 1 + n ≡ suc n = omega arith in ap (λ k. drop k (byte ∷ bytes)) e

take_next : (n k byte : ℕ) (bytes : List ℕ) → take (1 + n + k) (byte ∷ bytes) ≡ byte ∷ take (n + k) bytes
take_next n k byte bytes = let e : 1 + n + k ≡ suc (n + k) = omega arith in ap (λ m. take m (byte ∷ bytes)) e

-- a line feed ends a comment and is blank
is_feed : (byte : ℕ) → is_comment_byte byte ≡ false → byte ≡ 10
is_feed byte h = eqb-true byte 10 (true_from_ne_false (byte == 10) (λ e. let f : not (byte == 10) ≡ true = ap not e in absurd (cc)))

behind_feed : (byte : ℕ) (bytes : List ℕ) → is_comment_byte byte ≡ false → is_gap false (byte ∷ bytes) ≡ true → is_gap false bytes ≡ true
behind_feed byte bytes feed h = subst (λ x. is_gap false (x ∷ bytes) ≡ true) (is_feed byte feed) h

comment_all_step : (c : Bool) (byte : ℕ) (bytes : List ℕ) → is_comment_byte byte ≡ c → (is_gap false (drop (prefix_len is_comment_byte bytes) bytes) ≡ true → is_gap true bytes ≡ true)
    → is_gap false (drop (cond c (1 + prefix_len is_comment_byte bytes) 0) (byte ∷ bytes)) ≡ true → is_gap c bytes ≡ true
comment_all_step true byte bytes is later h = later (subst (λ xs. is_gap false xs ≡ true) (drop_next (prefix_len is_comment_byte bytes) byte bytes) h)
comment_all_step false byte bytes is later h = behind_feed byte bytes is h

comment_all : (bytes : List ℕ) → is_gap false (drop (prefix_len is_comment_byte bytes) bytes) ≡ true → is_gap true bytes ≡ true
comment_all [] h = refl
comment_all (byte ∷ bytes) h = comment_all_step (is_comment_byte byte) byte bytes refl (comment_all bytes) h

cut_feed : (k byte : ℕ) (bytes : List ℕ) → is_comment_byte byte ≡ false → is_gap false (take k (byte ∷ bytes)) ≡ true → is_gap true (take k (byte ∷ bytes)) ≡ true
cut_feed zero byte bytes feed h = refl
cut_feed (suc k) byte bytes feed h = subst (λ c. is_gap c (take k bytes) ≡ true) (sym feed) (behind_feed byte (take k bytes) feed h)

comment_part_step : (c : Bool) (k byte : ℕ) (bytes : List ℕ) → is_comment_byte byte ≡ c
    → (is_gap false (take k (drop (prefix_len is_comment_byte bytes) bytes)) ≡ true → is_gap true (take (prefix_len is_comment_byte bytes + k) bytes) ≡ true)
    → is_gap false (take k (drop (cond c (1 + prefix_len is_comment_byte bytes) 0) (byte ∷ bytes))) ≡ true
    → is_gap true (take (cond c (1 + prefix_len is_comment_byte bytes) 0 + k) (byte ∷ bytes)) ≡ true
comment_part_step true k byte bytes is later h =
    let n = prefix_len is_comment_byte bytes in
    let inner : is_gap true (take (n + k) bytes) ≡ true = later (subst (λ xs. is_gap false (take k xs) ≡ true) (drop_next n byte bytes) h) in
    subst (λ xs. is_gap true xs ≡ true) (sym (take_next n k byte bytes)) (subst (λ c. is_gap c (take (n + k) bytes) ≡ true) (sym is) inner)
comment_part_step false k byte bytes is later h =
    let e : k ≡ 0 + k = omega arith in
    subst (λ m. is_gap true (take m (byte ∷ bytes)) ≡ true) e (cut_feed k byte bytes is h)

comment_part : (k : ℕ) (bytes : List ℕ) → is_gap false (take k (drop (prefix_len is_comment_byte bytes) bytes)) ≡ true → is_gap true (take (prefix_len is_comment_byte bytes + k) bytes) ≡ true
comment_part k [] h = ap (is_gap true) (take-nil (0 + k))
comment_part k (byte ∷ bytes) h = comment_part_step (is_comment_byte byte) k byte bytes refl (comment_part k bytes) h

-- a comment, and a blank

opens : (byte : ℕ) (bytes : List ℕ) → begins_comment byte ≡ true → is_gap true bytes ≡ true → is_gap false (byte ∷ bytes) ≡ true
opens byte bytes hash h = ap (λ b. if b then is_gap true bytes else (is_blank byte && is_gap false bytes)) hash ∙ h

comment_joins : (byte : ℕ) (bytes : List ℕ) → begins_comment byte ≡ true → Joins (1 + prefix_len is_comment_byte bytes) (byte ∷ bytes)
comment_joins byte bytes hash =
    let n = prefix_len is_comment_byte bytes in
    record {
      all = λ h. opens byte bytes hash (comment_all bytes (subst (λ xs. is_gap false xs ≡ true) (drop_next n byte bytes) h));
      part = λ k h.
          subst (λ xs. is_gap false xs ≡ true) (sym (take_next n k byte bytes))
          (opens byte (take (n + k) bytes) hash (comment_part k bytes (subst (λ xs. is_gap false (take k xs) ≡ true) (drop_next n byte bytes) h)));
    }

no_comment : (byte : ℕ) → is_blank byte ≡ true → begins_comment byte ≡ false
no_comment byte blank = false_from_ne_true (begins_comment byte) (λ h. let e : is_blank 35 ≡ true = subst (λ x. is_blank x ≡ true) (eqb-true byte 35 h) blank in absurd (cc))

passes : (byte : ℕ) (bytes : List ℕ) → is_blank byte ≡ true → is_gap false bytes ≡ true → is_gap false (byte ∷ bytes) ≡ true
passes byte bytes blank h =
    ap (λ b. if b then is_gap true bytes else (is_blank byte && is_gap false bytes)) (no_comment byte blank) ∙ and_both (is_blank byte) (is_gap false bytes) blank h

blank_joins : (byte : ℕ) (bytes : List ℕ) → is_blank byte ≡ true → Joins 1 (byte ∷ bytes)
blank_joins byte bytes blank = record {
  all = λ h. passes byte bytes blank h;
  part = λ k h.
      let e : suc k ≡ 1 + k = omega arith in
      subst (λ m. is_gap false (take m (byte ∷ bytes)) ≡ true) e (passes byte (take k bytes) blank h);
}

-- the pieces that are no tokens are gaps

closed_some : (quote at : ℕ) (text : List ℕ) (o : Option ℕ) → (closed_piece quote at text o).kind ≡ None → ⊥
closed_some quote at text None h = absurd (cc)
closed_some quote at text (Some n) h = absurd (cc)

raw_some : (at : ℕ) (text : List ℕ) (o : Option ℕ) → (raw_piece at text o).kind ≡ None → ⊥
raw_some at text None h = absurd (cc)
raw_some at text (Some n) h = absurd (cc)

token_some : (n : ℕ) (kind : TokenKind) → (token n kind).kind ≡ None → ⊥
token_some n kind h = absurd (cc)

gap_joins : (inside : Bool) (at byte : ℕ) (bytes : List ℕ) → (piece_at inside at byte bytes).kind ≡ None → Joins (piece_at inside at byte bytes).size (byte ∷ bytes)
gap_joins inside at byte bytes =
    let P = λ (p : Piece). p.kind ≡ None → Joins p.size (byte ∷ bytes) in
    by_piece P inside at byte bytes (λ blank _. blank_joins byte bytes blank) (λ hash _. comment_joins byte bytes hash)
    (λ _ h. absurd (closed_some byte at bytes (body_len false byte bytes) h)) (λ _ h. absurd (raw_some at bytes (raw_len bytes) h))
    (λ _ h. absurd (token_some (run_len (byte ∷ bytes)) (run_kind at (take (run_len (byte ∷ bytes)) (byte ∷ bytes))) h))
    (λ _ h. absurd (token_some (prefix_len (continues_name inside) (byte ∷ bytes)) (name_kind (take (prefix_len (continues_name inside) (byte ∷ bytes)) (byte ∷ bytes))) h))
    (λ _ _ _ _ _ _. by_sign P at byte bytes (λ _ h. absurd (token_some 2 Sign h)) (λ h. absurd (token_some 1 Sign h)) (λ h. absurd (token_some (character_len bytes) (Bad (BadToken at)) h)))

-- the tokens behind a gap, and behind a token

behind_gap : (n at : ℕ) (text : List ℕ) (ts : List Token) → Joins n text → n ≤ length text → AreLaidOut (at + n) (drop n text) ts → AreLaidOut at text ts
behind_gap n at text [] joins fits h = joins.all h
behind_gap n at text (t ∷ ts) joins fits h =
    let before : at ≤ t.at = omega (arith, h.0) in
    let up : n + (t.at - (at + n)) ≡ t.at - at = omega (arith, h.0) in
    let over : n + (t.end - (at + n)) ≡ t.end - at = omega (arith, h.0, h.1) in
    let ends : t.end ≤ at + length text = omega (arith, h.2, length-drop n text, fits) in (
      before,
      h.1,
      ends,
      subst (λ m. is_gap false (take m text) ≡ true) up (joins.part (t.at - (at + n)) h.3),
      h.4,
      λ good. subst (λ xs. AreLaidOut t.end xs ts) (drop-drop (t.end - (at + n)) n text ∙ ap (λ m. drop m text) over) (h.5 good),
    )

behind_token : (n at : ℕ) (text : List ℕ) (kind : TokenKind) (ts : List Token) → 0 < n → n ≤ length text → AreLaidOut (at + n) (drop n text) ts
    → AreLaidOut at text (token_of at n kind ∷ (if is_bad kind then [] else ts))
behind_token n at text kind ts some fits h =
    let none : 0 ≡ at - at = omega arith in
    let over : n ≡ at + n - at = omega arith in (
      omega arith,
      omega (arith, some),
      omega (arith, fits),
      subst (λ m. is_gap false (take m text) ≡ true) none refl,
      λ bad. ap (λ b. if b then [] else ts) bad,
      λ good. subst (λ xs. AreLaidOut (at + n) xs (if is_bad kind then [] else ts)) (ap (λ m. drop m text) over)
          (subst (λ b. AreLaidOut (at + n) (drop n text) (if b then [] else ts)) (sym good) h),
    )

behind_piece : (n at : ℕ) (text : List ℕ) (kind : Option TokenKind) (ts : List Token) → 0 < n → n ≤ length text → (kind ≡ None → Joins n text) → AreLaidOut (at + n) (drop n text) ts
    → AreLaidOut at text (with_kind at n kind ts)
behind_piece n at text None ts some fits joins h = behind_gap n at text ts (joins refl) fits h
behind_piece n at text (Some kind) ts some fits joins h = behind_token n at text kind ts some fits h

long : (n byte : ℕ) (bytes : List ℕ) → n ≤ 1 + length bytes → n ≤ length (byte ∷ bytes)
long n byte bytes h = omega (arith, h)

pub laid_out : (wait : ℕ) (inside : Bool) (at : ℕ) (text : List ℕ) → AreLaidOut (at + wait) (drop wait text) (tokens_from wait inside at text)
laid_out zero inside at [] = refl
laid_out (suc wait) inside at [] = refl
laid_out (suc wait) inside at (byte ∷ bytes) =
    let e : at + 1 + wait ≡ at + suc wait = omega arith in
    subst (λ m. AreLaidOut m (drop wait bytes) (tokens_from wait inside (at + 1) bytes)) e (laid_out wait inside (at + 1) bytes)
laid_out zero inside at (byte ∷ bytes) =
    let p = piece_at inside at byte bytes in
    let fits = piece_fits inside at byte bytes in
    let later = tokens_from (p.size - 1) (inside_behind inside byte) (at + 1) bytes in
    let e : at + 1 + (p.size - 1) ≡ at + p.size = omega (arith, fits.0) in
    let h : AreLaidOut (at + p.size) (drop p.size (byte ∷ bytes)) later =
    subst (λ xs. AreLaidOut (at + p.size) xs later) (sym (drop_behind p.size byte bytes fits.0))
    (subst (λ m. AreLaidOut m (drop (p.size - 1) bytes) later) e (laid_out (p.size - 1) (inside_behind inside byte) (at + 1) bytes)) in
    let z : at ≡ at + 0 = omega arith in
    subst (λ m. AreLaidOut m (byte ∷ bytes) (with_kind at p.size p.kind later)) z
    (behind_piece p.size at (byte ∷ bytes) p.kind later fits.0 (long p.size byte bytes fits.1) (gap_joins inside at byte bytes) h)
