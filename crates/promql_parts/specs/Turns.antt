-- A loop of turns, for proofs: the turns that are left lead to what all of them give.
use Rattle.std.proofs.Common.{◌≡◌, ℕ, zero, suc, ◌-◌, ◌<◌, refl, ap, ◌∙◌, sym, Bool, true, false, cond, List, length, arith}
use Rattle.std.specs.Prelude.{Result, Ok, Err}
use Rattle.promql_ast.specs.declared.refusal.QueryRefusal.{QueryRefusal}
use Rattle.promql_parts.specs.declared.lexeme.Lexeme.{Lexeme}
use Rattle.promql_parts.specs.Reads.{Read, Turn, ◌>>=◌, turns, all_turns, Fails}
use Rattle.promql_lex.specs.declared.fault.LexFault.{LexFault}
use Rattle.promql_lex.specs.declared.fault.LexFault.TheVariants as faults

-- the turns that are left lead to the whole; there is room for as many as lexemes are left
pub record Going {A : Type 0} (turn : Turn A) (a : A) (ts : List Lexeme) (whole : Read A) : Type 0 where
  pub room : ℕ
  pub enough : length ts < room
  pub same : turns turn room a ts ≡ whole

module _ {A : Type 0} (turn : Turn A) where
  pub begun : (a : A) (ts : List Lexeme) → Going turn a ts (all_turns turn a ts)
  begun a ts = record { room = suc (length ts); enough = omega arith; same = refl }

  one_turn : (room : ℕ) (a : A) (ts : List Lexeme) → 0 < room → turns turn room a ts ≡ (turn a ts >>= λ next. cond next.0 (turns turn (room - 1) next.1 next.2) (Ok (next.1, next.2)))
  unfolding turns
  one_turn zero a ts some = absurd (omega (arith, some))
  one_turn (suc n) a ts some = ap (λ k. turn a ts >>= λ next. cond next.0 (turns turn k next.1 next.2) (Ok (next.1, next.2))) (omega arith)

  module _ (a : A) (ts : List Lexeme) (whole : Read A) (going : Going turn a ts whole) where
    stepped : (turn a ts >>= λ next. cond next.0 (turns turn (going.room - 1) next.1 next.2) (Ok (next.1, next.2))) ≡ whole
    stepped = sym (one_turn going.room a ts (omega (arith, going.enough))) ∙ going.same

    pub goes_on : (more : Bool) (b : A) (rest : List Lexeme) → turn a ts ≡ Ok (more, b, rest) → more ≡ true → length rest < length ts → Going turn b rest whole
    goes_on more b rest is another less = record {
      room = going.room - 1;
      enough = omega (arith, going.enough, less);
      same = sym (ap (λ r. r >>= λ next. cond next.0 (turns turn (going.room - 1) next.1 next.2) (Ok (next.1, next.2))) is ∙ ap (λ m. cond m (turns turn (going.room - 1) b rest) (Ok (b, rest))) another) ∙ stepped;
    }

    pub ends : (more : Bool) (b : A) (rest : List Lexeme) → turn a ts ≡ Ok (more, b, rest) → more ≡ false → whole ≡ Ok (b, rest)
    ends more b rest is last =
        sym stepped ∙ ap (λ r. r >>= λ next. cond next.0 (turns turn (going.room - 1) next.1 next.2) (Ok (next.1, next.2))) is ∙ ap (λ m. cond m (turns turn (going.room - 1) b rest) (Ok (b, rest))) last

    pub stops : (e : LexFault) → Fails e (turn a ts) → Fails e whole
    stops faults.Memory is = tt
    stops (faults.Refused r) is = sym stepped ∙ ap (λ q. q >>= λ next. cond next.0 (turns turn (going.room - 1) next.1 next.2) (Ok (next.1, next.2))) is

-- turns that read a lexeme each, but the last: one turn, and then all of them again
module _ {A : Type 0} (turn : Turn A) (shrinks : (a : A) (ls : List Lexeme) (b : A) (rest : List Lexeme) → turn a ls ≡ Ok (true, b, rest) → length rest < length ls) where
  abbrev next_turns : ℕ → Result (Bool × A × List Lexeme) QueryRefusal → Read A
  next_turns n r = r >>= λ next. cond next.0 (turns turn n next.1 next.2) (Ok (next.1, next.2))

  abbrev Enough : ℕ → Type 0
  Enough n = (m : ℕ) (a : A) (ls : List Lexeme) → length ls < n → length ls < m → turns turn n a ls ≡ turns turn m a ls

  same_next : (n m : ℕ) → Enough n → (a : A) (ls : List Lexeme) → length ls < suc n → length ls < suc m → (r : Result (Bool × A × List Lexeme) QueryRefusal) → turn a ls ≡ r → next_turns n r ≡ next_turns m r
  same_next n m more a ls lt less (Err e) is = refl
  same_next n m more a ls lt less (Ok (true, b, rest)) is = let s = shrinks a ls b rest is in more m b rest (omega (arith, s, lt)) (omega (arith, s, less))
  same_next n m more a ls lt less (Ok (false, b, rest)) is = refl

  enough : (n : ℕ) → Enough n
  unfolding turns
  enough zero m a ls lt less = absurd (omega (arith, lt))
  enough (suc n) zero a ls lt less = absurd (omega (arith, less))
  enough (suc n) (suc m) a ls lt less = same_next n m (enough n) a ls lt less (turn a ls) refl

  pub all_on : (a : A) (ls : List Lexeme) (b : A) (rest : List Lexeme) → turn a ls ≡ Ok (true, b, rest) → all_turns turn a ls ≡ all_turns turn b rest
  unfolding turns
  all_on a ls b rest is = let s = shrinks a ls b rest is in ap (next_turns (length ls)) is ∙ enough (length ls) (suc (length rest)) b rest s (omega arith)

  pub all_end : (a : A) (ls : List Lexeme) (b : A) (rest : List Lexeme) → turn a ls ≡ Ok (false, b, rest) → all_turns turn a ls ≡ Ok (b, rest)
  unfolding turns
  all_end a ls b rest is = ap (next_turns (length ls)) is
