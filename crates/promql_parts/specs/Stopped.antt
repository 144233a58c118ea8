-- Steps of readings that stop since something else was expected, for proofs.
use Rattle.std.proofs.Common.{◌≡◌, ◌⊎◌, ℕ, arith, false, refl, ap, ◌∙◌, sym, subst, ⊎_elim, Bool, inl, inr, List, [], ◌++◌, append_assoc}
use Rattle.std.specs.Prelude.{Result, Ok, Err}
use Rattle.promql_ast.specs.declared.refusal.QueryRefusal.{QueryRefusal}
use Rattle.promql_ast.specs.declared.refusal.QueryRefusal.TheVariants.{Expected}
use Rattle.promql_parts.specs.Labels.{item_behind}
use Rattle.promql_parts.specs.Productions.{IsAmount, IsLength}
use Rattle.promql_parts.specs.Reads.{◌>>=◌, after, begins, refused_at}
use Rattle.promql_parts.specs.Spans.{ms}
use Rattle.promql_parts.specs.Steps.{chosen}
use Rattle.promql_parts.specs.Stops.{StopsAt}
use Rattle.promql_parts.specs.declared.lexeme.Lexeme.{Lexeme}
use Rattle.promql_parts.specs.declared.lexeme.LexemeKind.TheVariants as kinds
use Rattle.promql_parts.specs.declared.lexeme.Sign.{Sign}
use Rattle.promql_parts.specs.declared.lexeme.Sign.TheVariants.{Comma}
use Rattle.ticks.specs.Durations.{hundred_years}

abbrev IsAnErr : {A : Type 0} → Result A QueryRefusal → Type 0
IsAnErr (Ok x) = ⊥
IsAnErr (Err e) = Unit {0}

pub no_err : {A : Type 0} {Goal : Type 0} (x : A) (e : QueryRefusal) → ◌≡◌ {A = Result A QueryRefusal} (Ok x) (Err e) → Goal
no_err x e is = absurd (subst IsAnErr (sym is) tt)

abbrev err_or : {A : Type 0} → QueryRefusal → Result A QueryRefusal → QueryRefusal
err_or d (Ok x) = d
err_or d (Err e) = e

pub same_err : {A : Type 0} (d e : QueryRefusal) → ◌≡◌ {A = Result A QueryRefusal} (Err d) (Err e) → d ≡ e
same_err d e is = ap (err_or d) is

pub bind_err : {A B : Type 0} (r : Result A QueryRefusal) (f : A → Result B QueryRefusal) (e : QueryRefusal) → (r >>= f) ≡ Err e → (r ≡ Err e) ⊎ ((x : A) × (r ≡ Ok x) × (f x ≡ Err e))
bind_err {A} {B} (Ok x) f e is = inr (x, refl, is)
bind_err {A} {B} (Err d) f e is = inl (ap Err (same_err {A = B} d e is))

pub after_stops : (end place : ℕ) (sign : Sign) (ls : List Lexeme) → after end sign ls ≡ Err (Expected place) → refused_at end ls ≡ Expected place
after_stops end place sign ls read = ⊎_elim (λ p. no_err _ _ p.1) (λ p. same_err {A = List Lexeme} _ _ p.1) (chosen (begins sign ls) _ _ _ read)

pub item_stops : (end place : ℕ) (close : Sign) (ls : List Lexeme) → item_behind end close ls ≡ Err (Expected place) → refused_at end ls ≡ Expected place
unfolding item_behind
item_stops end place close ls read =
    ⊎_elim (λ p. no_err _ _ p.1) (λ p. ⊎_elim (λ q. no_err _ _ q.1) (λ q. same_err {A = Bool × List Lexeme} _ _ q.1) (chosen (begins close ls) _ _ _ p.1)) (chosen (begins Comma ls) _ _ _ read)

-- where a reader stops behind lexemes that are read
pub behind_part : (end place : ℕ) (Inner Outer : List Lexeme → Type 0) (pre ls tail : List Lexeme) → ls ≡ pre ++ tail → ((front : List Lexeme) → Inner front → Outer (pre ++ front)) → StopsAt end place Inner tail
    → StopsAt end place Outer ls
behind_part end place Inner Outer pre ls tail split step s = record {
  front = pre ++ s.front;
  back = s.back;
  split = split ∙ ap (λ x. pre ++ x) s.split ∙ sym (append_assoc pre s.front s.back);
  there = s.there;
  begun = step s.front s.begun;
}

-- where it stops at once
pub stops_here : (end place : ℕ) (Begun : List Lexeme → Type 0) (ls : List Lexeme) → refused_at end ls ≡ Expected place → Begun [] → StopsAt end place Begun ls
stops_here end place Begun ls there begun = record { front = []; back = ls; split = refl; there = there; begun = begun }

-- lexemes that end what is begun: a sign, and a second
abbrev pub lexeme_of_sign : Sign → Lexeme
lexeme_of_sign sign = record { at = 0; kind = kinds.Sign sign }

abbrev pub second : Lexeme
second = record { at = 0; kind = kinds.Duration (ms false 1000) }

pub second_is : (most : ℕ) → IsAmount most second 1000
second_is most = refl

pub a_second : IsLength second (ms false 1000)
a_second = record { n = 1000; amount = second_is hundred_years; positive = omega arith; is = refl }
