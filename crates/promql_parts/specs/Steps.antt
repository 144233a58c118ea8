-- Steps of readings, for proofs: what a reading that gives something has read, and what is read of some lexemes.
use Rattle.std.proofs.Common.{◌≡◌, ◌⊎◌, ℕ, refl, ap, ◌∙◌, sym, subst, ⊎_elim, Bool, true, false, cond, inl, inr, List, [], ◌∷◌, drop}
use Rattle.std.proofs.lemmas.Bool.{cond-true, cond-false, eqb-true, eq-eqb}
use Rattle.std.specs.Prelude.{◌==◌, Option, Some, None, Result, Ok, Err, if◌then◌else◌}
use Rattle.promql_ast.specs.declared.refusal.QueryRefusal.{QueryRefusal}
use Rattle.promql_parts.specs.Labels.{item_behind}
use Rattle.promql_parts.specs.Productions.{IsSign}
use Rattle.promql_parts.specs.Reads.{◌>>=◌, after, begins}
use Rattle.promql_parts.specs.Signs.{is_sign, number}
use Rattle.promql_parts.specs.declared.lexeme.Lexeme.{Lexeme}
use Rattle.promql_parts.specs.declared.lexeme.LexemeKind.{LexemeKind}
use Rattle.promql_parts.specs.declared.lexeme.LexemeKind.TheVariants as kinds
use Rattle.promql_parts.specs.declared.lexeme.Sign.{Sign}
use Rattle.promql_parts.specs.declared.lexeme.Sign.TheVariants.{LeftParen, RightParen, LeftBrace, RightBrace, LeftBracket, RightBracket, Comma, Colon, Plus, Minus, Star, Slash, Percent, Caret, Equal, EqualTwice, Unequal, Matches, Unmatched, Less, LessEqual, Greater, GreaterEqual, AtSign}

abbrev IsOkay : {A : Type 0} → Result A QueryRefusal → Type 0
IsOkay (Ok x) = Unit {0}
IsOkay (Err e) = ⊥

pub no_ok : {A : Type 0} {Goal : Type 0} (e : QueryRefusal) (x : A) → ◌≡◌ {A = Result A QueryRefusal} (Err e) (Ok x) → Goal
no_ok e x is = absurd (subst IsOkay (sym is) tt)

abbrev ok_or : {A : Type 0} → A → Result A QueryRefusal → A
ok_or d (Ok x) = x
ok_or d (Err e) = d

pub same_ok : {A : Type 0} (x y : A) → ◌≡◌ {A = Result A QueryRefusal} (Ok x) (Ok y) → x ≡ y
same_ok x y is = ap (ok_or x) is

abbrev some_or : {A : Type 0} → A → Option A → A
some_or d None = d
some_or d (Some x) = x

pub same_some : {A : Type 0} (x y : A) → ◌≡◌ {A = Option A} (Some x) (Some y) → x ≡ y
same_some x y is = ap (some_or x) is

abbrev IsThere : {A : Type 0} → Option A → Type 0
IsThere None = ⊥
IsThere (Some x) = Unit {0}

pub no_some : {A : Type 0} {Goal : Type 0} (x : A) → ◌≡◌ {A = Option A} None (Some x) → Goal
no_some x is = absurd (subst IsThere (sym is) tt)

abbrev IsFalse : Bool → Type 0
IsFalse true = ⊥
IsFalse false = Unit {0}

pub true_false : {Goal : Type 0} → true ≡ false → Goal
true_false is = absurd (subst IsFalse (sym is) tt)

pub bind_ok : {A B : Type 0} (r : Result A QueryRefusal) (f : A → Result B QueryRefusal) (y : B) → (r >>= f) ≡ Ok y → (x : A) × (r ≡ Ok x) × (f x ≡ Ok y)
bind_ok (Ok x) f y is = (x, refl, is)
bind_ok (Err e) f y is = no_ok e y is

pub chosen : {A : Type 0} (b : Bool) (x y z : A) → cond b x y ≡ z → ((b ≡ true) × (x ≡ z)) ⊎ ((b ≡ false) × (y ≡ z))
chosen true x y z is = inl (refl, is)
chosen false x y z is = inr (refl, is)

abbrev numbered : ℕ → Sign
numbered n =
    if n == 1 then LeftParen else if n == 2 then RightParen else if n == 3 then LeftBrace else if n == 4 then RightBrace else if n == 5 then LeftBracket
    else if n == 6 then RightBracket else if n == 7 then Comma else if n == 8 then Colon else if n == 9 then Plus else if n == 10 then Minus else if n == 11 then Star
    else if n == 12 then Slash else if n == 13 then Percent else if n == 14 then Caret else if n == 15 then Equal else if n == 16 then EqualTwice else if n == 17 then Unequal
    else if n == 18 then Matches else if n == 19 then Unmatched else if n == 20 then Less else if n == 21 then LessEqual else if n == 22 then Greater
    else if n == 23 then GreaterEqual else AtSign

number_of : (s : Sign) → numbered (number s) ≡ s
number_of LeftParen = refl
number_of RightParen = refl
number_of LeftBrace = refl
number_of RightBrace = refl
number_of LeftBracket = refl
number_of RightBracket = refl
number_of Comma = refl
number_of Colon = refl
number_of Plus = refl
number_of Minus = refl
number_of Star = refl
number_of Slash = refl
number_of Percent = refl
number_of Caret = refl
number_of Equal = refl
number_of EqualTwice = refl
number_of Unequal = refl
number_of Matches = refl
number_of Unmatched = refl
number_of Less = refl
number_of LessEqual = refl
number_of Greater = refl
number_of GreaterEqual = refl
number_of AtSign = refl

same_sign : (s t : Sign) → (number s == number t) ≡ true → s ≡ t
same_sign s t is = sym (number_of s) ∙ ap numbered (eqb-true (number s) (number t) is) ∙ number_of t

pub sign_found : (s : Sign) (k : LexemeKind) → is_sign s k ≡ true → k ≡ kinds.Sign s
sign_found s (kinds.Sign t) is = ap kinds.Sign (sym (same_sign s t is))
sign_found s _ is = true_false (sym is)

pub sign_is : (s : Sign) (k : LexemeKind) → k ≡ kinds.Sign s → is_sign s k ≡ true
sign_is s k is = ap (is_sign s) is ∙ eq-eqb (number s) (number s) refl

pub begins_found : (s : Sign) (ls : List Lexeme) → begins s ls ≡ true → (u : Lexeme) × (ls ≡ u ∷ drop 1 ls) × IsSign s u
begins_found s [] is = true_false (sym is)
begins_found s (u ∷ us) is = (u, refl, sign_found s u.kind is)

pub after_found : (end : ℕ) (s : Sign) (ls rest : List Lexeme) → after end s ls ≡ Ok rest → (u : Lexeme) × (ls ≡ u ∷ rest) × IsSign s u
after_found end s ls rest read =
    ⊎_elim (λ p. let u = begins_found s ls p.0 in (u.0, u.1 ∙ ap (λ x. u.0 ∷ x) (same_ok _ _ p.1), u.2)) (λ p. no_ok _ _ p.1) (chosen (begins s ls) _ _ _ read)

-- behind an item of a list: a comma, or the sign that closes the list
pub item_found : (end : ℕ) (close : Sign) (ls : List Lexeme) (another : Bool) (rest : List Lexeme) → item_behind end close ls ≡ Ok (another, rest)
    → ((another ≡ true) × ((u : Lexeme) × (ls ≡ u ∷ rest) × IsSign Comma u)) ⊎ ((another ≡ false) × (ls ≡ rest) × (begins close ls ≡ true))
unfolding item_behind
item_found end close ls another rest read =
    ⊎_elim
    (λ p. let u = begins_found Comma ls p.0 in let ends = same_ok _ _ p.1 in inl (sym (ap (λ x. x.0) ends), (u.0, u.1 ∙ ap (λ x. u.0 ∷ x) (ap (λ x. x.1) ends), u.2)))
    (λ p. ⊎_elim (λ q. let ends = same_ok _ _ q.1 in inr (sym (ap (λ x. x.0) ends), ap (λ x. x.1) ends, q.0)) (λ q. no_ok _ _ q.1) (chosen (begins close ls) _ _ _ p.1))
    (chosen (begins Comma ls) _ _ _ read)

pub after_read : (end : ℕ) (s : Sign) (u : Lexeme) (us : List Lexeme) → IsSign s u → after end s (u ∷ us) ≡ Ok us
after_read end s u us is = cond-true (is_sign s u.kind) _ _ (sign_is s u.kind is)

pub comma_read : (end : ℕ) (close : Sign) (c : Lexeme) (us : List Lexeme) → IsSign Comma c → item_behind end close (c ∷ us) ≡ Ok (true, us)
unfolding item_behind
comma_read end close c us is = cond-true (is_sign Comma c.kind) _ _ (ap (is_sign Comma) is)

pub close_read : (end : ℕ) (close : Sign) (u : Lexeme) (us : List Lexeme) → is_sign Comma (kinds.Sign close) ≡ false → IsSign close u → item_behind end close (u ∷ us) ≡ Ok (false, u ∷ us)
unfolding item_behind
close_read end close u us apart is =
    cond-false (is_sign Comma u.kind) _ _ (ap (is_sign Comma) is ∙ apart) ∙ cond-true (is_sign close u.kind) _ _ (sign_is close u.kind is)
