-- Reading from left to right, up to the first lexeme that fits no rule.
use Rattle.std.specs.Prelude.{◌≡◌, ℕ, zero, suc, Bool, false, if◌then◌else◌, List, [], ◌∷◌, length, drop, Result, Ok, Err}
use Rattle.promql_ast.specs.declared.refusal.QueryRefusal.{QueryRefusal}
use Rattle.promql_ast.specs.declared.refusal.QueryRefusal.TheVariants.{Expected}
use Rattle.promql_lex.specs.declared.fault.LexFault.{LexFault}
use Rattle.promql_lex.specs.declared.fault.LexFault.TheVariants as faults
use Rattle.promql_parts.specs.declared.lexeme.Sign.{Sign}
use Rattle.promql_parts.specs.declared.lexeme.Lexeme.{Lexeme}
use Rattle.promql_parts.specs.declared.lexeme.LexemeKind.{LexemeKind}
use Rattle.promql_parts.specs.declared.lexeme.LexemeKind.TheVariants as kinds
use Rattle.promql_parts.specs.Signs.{is_sign}

-- what is read at the front of some lexemes, and the lexemes behind it; or the refusal of the first that fits no rule
abbrev pub Read : Type 0 → Type 0
Read X = Result (X × List Lexeme) QueryRefusal

infixl 10 ◌>>=◌
abbrev pub ◌>>=◌ : {A B : Type 0} → Result A QueryRefusal → (A → Result B QueryRefusal) → Result B QueryRefusal
(Ok x) >>= f = f x
(Err e) >>= f = Err e

-- the same refusal, unless memory ran out
abbrev pub Fails : {Y : Type 0} → LexFault → Result Y QueryRefusal → Type 0
Fails faults.Memory read = Unit {0}
Fails (faults.Refused r) read = read ≡ Err r

-- what a function returned, seen by view, is what reading gives, unless memory ran out
abbrev pub Gives : {X Y : Type 0} → (X → Y) → Result X LexFault → Result Y QueryRefusal → Type 0
Gives view (Ok x) read = read ≡ Ok (view x)
Gives view (Err e) read = Fails e read

-- a fault is this refusal, unless memory ran out
abbrev pub IsRefusal : LexFault → QueryRefusal → Type 0
IsRefusal faults.Memory refusal = Unit {0}
IsRefusal (faults.Refused r) refusal = r ≡ refusal

-- a bad spelling or pattern is refused as such, any other lexeme that fits no rule as unexpected
abbrev pub refused_kind : ℕ → LexemeKind → QueryRefusal
refused_kind at (kinds.Bad refusal) = refusal
refused_kind at _ = Expected at

abbrev pub refused : Lexeme → QueryRefusal
refused l = refused_kind l.at l.kind

-- the text's length at its end
abbrev pub refused_at : ℕ → List Lexeme → QueryRefusal
refused_at end [] = Expected end
refused_at end (l ∷ ls) = refused l

-- a sign stands at the front
abbrev pub begins : Sign → List Lexeme → Bool
begins sign [] = false
begins sign (l ∷ ls) = is_sign sign l.kind

-- what stands behind a sign
abbrev pub after : ℕ → Sign → List Lexeme → Result (List Lexeme) QueryRefusal
after end sign ls = if begins sign ls then Ok (drop 1 ls) else Err (refused_at end ls)

-- one turn of a loop, from what is read so far and the lexemes that are left; and whether another turn follows
abbrev pub Turn : Type 0 → Type 0
Turn A = A → List Lexeme → Result (Bool × A × List Lexeme) QueryRefusal

-- turns, as many as follow; each but the last reads a lexeme, and the number bounds them
unfoldable pub turns : {A : Type 0} → Turn A → ℕ → A → List Lexeme → Read A
turns turn zero a ls = Ok (a, ls)
turns turn (suc n) a ls = turn a ls >>= λ next. if next.0 then turns turn n next.1 next.2 else Ok (next.1, next.2)

abbrev pub all_turns : {A : Type 0} → Turn A → A → List Lexeme → Read A
all_turns turn a ls = turns turn (suc (length ls)) a ls
