-- Which bytes end a piece, and texts that are a name or a sign.
use Rattle.std.proofs.Common.{◌≡◌, ◌∙◌, ℕ, suc, ◌+◌, ◌++◌, Bool, true, false, cond, not, List, [], ◌∷◌, length, take, refl, ap, sym, subst, arith, eqb-true}
use Rattle.std.specs.Prelude.{◌&&◌, ◌||◌, ◌==◌}
use Rattle.std.specs.Char.{is_ascii_alphanumeric}
use Rattle.std.specs.List.{list_all, prefix_len}
use Rattle.std.proofs.lemmas.Bool.{false_from_ne_true}
use Rattle.promql_lex.specs.Names.{continues_name, name_kind}
use Rattle.promql_lex.specs.Numbers.{is_word_byte}
use Rattle.promql_lex.specs.Pieces.{name_at, piece_at, token}
use Rattle.promql_lex.specs.Tokens.{inside_behind, is_bad as is_bad_token}
use Rattle.promql_parts.specs.Lexemes.{kind_of}
use Rattle.promql_parts.specs.Patterned.{Kept, is_bad, takes_pattern}
use Rattle.promql_parts.specs.Steps.{true_false}
use Rattle.promql_parts.specs.declared.lexeme.LexemeKind.{LexemeKind}
use Rattle.print_laws.proofs.Lexed.{Reads, alone, lexeme, lexemes_from, one_piece, take_front}

-- ---- truths

pub and_first : (a b : Bool) → (a && b) ≡ true → a ≡ true
and_first true b h = refl
and_first false b h = true_false (sym h)

pub and_second : (a b : Bool) → (a && b) ≡ true → b ≡ true
and_second true b h = h
and_second false b h = true_false (sym h)

pub and_both : (a b : Bool) → a ≡ true → b ≡ true → (a && b) ≡ true
and_both true b p q = q
and_both false b p q = true_false (sym p)

pub not_true : (a : Bool) → not a ≡ true → a ≡ false
not_true true h = true_false (sym h)
not_true false h = refl

pub or_first : (a b : Bool) → (a || b) ≡ false → a ≡ false
or_first true b h = true_false h
or_first false b h = refl

pub or_second : (a b : Bool) → (a || b) ≡ false → b ≡ false
or_second true b h = true_false h
or_second false b h = h

pub first_fails : (a b : Bool) → not (a || b) ≡ true → not a ≡ true
first_fails true b h = true_false (sym h)
first_fails false b h = refl

pub or_none : (a b : Bool) → a ≡ false → b ≡ false → (a || b) ≡ false
or_none true b p q = true_false p
or_none false b p q = q

pub or_either : {P : Type 0} (a b : Bool) → (a || b) ≡ true → (a ≡ true → P) → (b ≡ true → P) → P
or_either true b h one other = one refl
or_either false b h one other = other h

pub or_left : (a b : Bool) → a ≡ true → (a || b) ≡ true
or_left true b h = refl
or_left false b h = true_false (sym h)

pub or_right : (a b : Bool) → b ≡ true → (a || b) ≡ true
or_right true b h = refl
or_right false b h = h

pub and_none : (a b : Bool) → b ≡ false → (a && b) ≡ false
and_none true b h = h
and_none false b h = refl

-- a byte of a kind isn't one that is not of it
pub differs : (p : ℕ → Bool) (byte other : ℕ) → p byte ≡ true → p other ≡ false → (byte == other) ≡ false
differs p byte other is fails =
    false_from_ne_true (byte == other) (λ same. true_false (sym (subst (λ b. p b ≡ true) (eqb-true byte other same) is) ∙ fails))

-- ---- ends

-- what stands behind a number or a duration
abbrev pub ends_number : List ℕ → Bool
ends_number [] = true
ends_number (byte ∷ bytes) = not (is_word_byte byte || byte == 46)

-- behind a name
abbrev pub ends_name : List ℕ → Bool
ends_name [] = true
ends_name (byte ∷ bytes) = not (is_word_byte byte || (byte == 46 || byte == 58))

-- behind a sign that a second byte may go on with
abbrev pub ends_sign : List ℕ → Bool
ends_sign [] = true
ends_sign (byte ∷ bytes) = not (byte == 61 || byte == 126)

abbrev pub fails_first : (ℕ → Bool) → List ℕ → Bool
fails_first p [] = true
fails_first p (byte ∷ bytes) = not (p byte)

run_here : (t : Bool) (n : ℕ) → not t ≡ true → cond t n 0 ≡ 0
run_here true n h = true_false (sym h)
run_here false n h = refl

pub run : (p : ℕ → Bool) (s rest : List ℕ) → list_all p s ≡ true → fails_first p rest ≡ true → prefix_len p (s ++ rest) ≡ length s
run p [] [] all ends = refl
run p [] (b ∷ rest) all ends = run_here (p b) (1 + prefix_len p rest) ends
run p (b ∷ s) rest all ends =
    let more = run p s rest (and_second (p b) (list_all p s) all) ends in
    ap (λ t. cond t (1 + prefix_len p (s ++ rest)) 0) (and_first (p b) (list_all p s) all) ∙ omega (arith, more)

-- ---- names

no_name_byte : (a b c d : Bool) → not ((a || b) || (c || d)) ≡ true → not (a || (b || (d && true))) ≡ true
no_name_byte true b c d h = true_false (sym h)
no_name_byte false true c d h = true_false (sym h)
no_name_byte false false true d h = true_false (sym h)
no_name_byte false false false true h = true_false (sym h)
no_name_byte false false false false h = refl

name_ends : (rest : List ℕ) → ends_name rest ≡ true → fails_first (continues_name false) rest ≡ true
name_ends [] h = refl
name_ends (b ∷ rest) h = no_name_byte (is_ascii_alphanumeric b) (b == 95) (b == 46) (b == 58) h

number_ends_step : (a b c : Bool) → not (a || (b || c)) ≡ true → not (a || b) ≡ true
number_ends_step true b c h = h
number_ends_step false true c h = h
number_ends_step false false c h = refl

-- what ends a name ends a number
pub name_ends_number : (rest : List ℕ) → ends_name rest ≡ true → ends_number rest ≡ true
name_ends_number [] h = refl
name_ends_number (b ∷ rest) h = number_ends_step (is_word_byte b) (b == 46) (b == 58) h

-- a byte that begins a name, outside of brackets
pub record BeginsName (byte : ℕ) : Type 0 where
  pub piece : (at : ℕ) (rest : List ℕ) → piece_at false at byte rest ≡ name_at false (byte ∷ rest)
  pub outside : inside_behind false byte ≡ false

-- a text that is a name or a word as a whole
abbrev pub IsNamed : List ℕ → Type 0
IsNamed [] = ⊥
IsNamed (byte ∷ bytes) = BeginsName byte × (list_all (continues_name false) (byte ∷ bytes) ≡ true)

module _ {kept : Kept} where
  pub name_reads : (at : ℕ) (s : List ℕ) (kind : LexemeKind) → IsNamed s → is_bad_token (name_kind s) ≡ false → kind_of at s (name_kind s) ≡ kind → takes_pattern kind ≡ false → is_bad kind ≡ false
      → Reads kept ends_name false false at s (lexeme at kind ∷ [])
  name_reads at [] kind named told is takes good = absurd named
  name_reads at (byte ∷ bytes) kind named told is takes good =
      alone (lexeme at kind) takes good
      (λ rest ends.
      let size : prefix_len (continues_name false) (byte ∷ (bytes ++ rest)) ≡ suc (length bytes) = run (continues_name false) (byte ∷ bytes) rest named.1 (name_ends rest ends) in
      let cut : take (suc (length bytes)) (byte ∷ (bytes ++ rest)) ≡ byte ∷ bytes = take_front (byte ∷ bytes) rest in
      let piece : piece_at false at byte (bytes ++ rest) ≡ token (suc (length bytes)) (name_kind (byte ∷ bytes)) =
      named.0.piece at (bytes ++ rest) ∙ ap (λ n. token n (name_kind (take n (byte ∷ (bytes ++ rest))))) size ∙ ap (λ xs. token (suc (length bytes)) (name_kind xs)) cut in
      one_piece false at byte bytes rest (name_kind (byte ∷ bytes)) piece told
      ∙ ap (λ k. lexeme at k ∷ lexemes_from 0 (inside_behind false byte) (at + suc (length bytes)) rest) is
      ∙ ap (λ t. lexeme at kind ∷ lexemes_from 0 t (at + suc (length bytes)) rest) named.0.outside)
