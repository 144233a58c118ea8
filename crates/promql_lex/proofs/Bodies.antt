-- The body of a string.
use Rattle.std.proofs.Common.{◌≡◌, ℕ, ◌+◌, ◌<◌, refl, ap, ◌∙◌, sym, true, false, cond, eqb, List, [], ◌∷◌, ◌++◌, append_assoc, length, drop, arith}
use Rattle.std.specs.Prelude.{slice_index_or, encode_utf8, Some, None, Result, Ok, Err}
use Rattle.promql_lex.specs.Quoted.{decoded, escape_at, behind, after_escape}
use Rattle.promql_lex.specs.declared.escape.Escape.{Escape}
use Rattle.promql_lex.proofs.Waits.{decoded_wait}

behind_twice : (out mid : List ℕ) (r : Result (List ℕ) ℕ) → behind (out ++ mid) r ≡ behind out (behind mid r)
behind_twice out mid (Ok bytes) = ap Ok (append_assoc out mid bytes)
behind_twice out mid (Err place) = refl

pub after_plain : (quote at : ℕ) (out text : List ℕ) → 0 < length text → eqb (slice_index_or text 0 0) 92 ≡ false
    → behind (out ++ slice_index_or text 0 0 ∷ []) (decoded 0 quote (at + 1) (drop 1 text)) ≡ behind out (decoded 0 quote at text)
after_plain quote at out [] some plain = absurd (omega (arith, some))
after_plain quote at out (byte ∷ bytes) some plain =
    behind_twice out (byte ∷ []) _ ∙ ap (λ b. behind out (cond b (after_escape at (escape_at quote bytes) (λ n. decoded n quote (at + 1) bytes)) (behind (byte ∷ []) (decoded 0 quote (at + 1) bytes)))) (sym plain)

pub after_bad : (quote at : ℕ) (text : List ℕ) → 0 < length text → eqb (slice_index_or text 0 0) 92 ≡ true → escape_at quote (drop 1 text) ≡ None
    → decoded 0 quote at text ≡ Err at
after_bad quote at [] some slash none = absurd (omega (arith, some))
after_bad quote at (byte ∷ bytes) some slash none =
    ap (λ b. cond b (after_escape at (escape_at quote bytes) (λ n. decoded n quote (at + 1) bytes)) (behind (byte ∷ []) (decoded 0 quote (at + 1) bytes))) slash
    ∙ ap (λ e. after_escape at e (λ n. decoded n quote (at + 1) bytes)) none

pub after_good : (quote at : ℕ) (out text : List ℕ) (e : Escape) → 0 < length text → eqb (slice_index_or text 0 0) 92 ≡ true → escape_at quote (drop 1 text) ≡ Some e
    → behind (out ++ encode_utf8 e.stands_for) (decoded 0 quote (at + 1 + e.size) (drop e.size (drop 1 text))) ≡ behind out (decoded 0 quote at text)
after_good quote at out [] e some slash is = absurd (omega (arith, some))
after_good quote at out (byte ∷ bytes) e some slash is =
    behind_twice out (encode_utf8 e.stands_for) _
    ∙ ap (λ r. behind out (behind (encode_utf8 e.stands_for) r)) (sym (decoded_wait e.size quote (at + 1) bytes))
    ∙ ap (λ o. behind out (after_escape at o (λ n. decoded n quote (at + 1) bytes))) (sym is)
    ∙ ap (λ b. behind out (cond b (after_escape at (escape_at quote bytes) (λ n. decoded n quote (at + 1) bytes)) (behind (byte ∷ []) (decoded 0 quote (at + 1) bytes)))) (sym slash)

-- as the loop has it
pub step_plain : (quote at : ℕ) (out text new after : List ℕ) → 0 < length text → eqb (slice_index_or text 0 0) 92 ≡ false
    → new ≡ out ++ slice_index_or text 0 0 ∷ [] → after ≡ drop 1 text → behind new (decoded 0 quote (at + 1) after) ≡ behind out (decoded 0 quote at text)
step_plain quote at out text new after some plain pushed rest = rw (pushed, rest) (after_plain quote at out text some plain)

pub step_good : (quote at : ℕ) (out text : List ℕ) (e : Escape) (new behind_slash after : List ℕ) → 0 < length text → eqb (slice_index_or text 0 0) 92 ≡ true
    → Some e ≡ escape_at quote behind_slash → new ≡ out ++ encode_utf8 e.stands_for → behind_slash ≡ drop 1 text → after ≡ drop e.size behind_slash
    → behind new (decoded 0 quote (at + 1 + e.size) after) ≡ behind out (decoded 0 quote at text)
step_good quote at out text e new behind_slash after some slash is pushed rest left =
    rw (pushed, left, rest) (after_good quote at out text e some slash (ap (escape_at quote) (sym rest) ∙ sym is))
