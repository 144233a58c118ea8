-- Steps that end well: what they took.
use Rattle.std.proofs.Common.{◌≡◌, ℕ, ◌+◌, Bool, true, false, cond, List, [], ◌∷◌, length, Result, Ok, Err, Option, Some, None, option_map, refl, arith}
use Rattle.std.proofs.lemmas.Bool.{eqb-true}
use Rattle.std.specs.Prelude.{bytes_eq}
use Rattle.std.proofs.lemmas.Slice.Eq.{bytes_eq-Decides}
use Rattle.script_read.specs.Lines.{is_empty}
use Rattle.script_read.specs.Outcomes.{then_give, then_try}

pub same_ok : {X E : Type 0} (r : Result X E) (x y : X) → r ≡ Ok x → r ≡ Ok y → x ≡ y
same_ok r x y h k = cc

pub try_ok : {X Y E : Type 0} (r : Result X E) (make : X → Result Y E) (y : Y) → then_try r make ≡ Ok y → (x : X) × (r ≡ Ok x) × (make x ≡ Ok y)
try_ok (Ok x) make y h = (x, refl, h)
try_ok (Err e) make y h = absurd (cc)

pub give_ok : {X Y E : Type 0} (r : Result X E) (make : X → Y) (y : Y) → then_give r make ≡ Ok y → (x : X) × (r ≡ Ok x) × (make x ≡ y)
give_ok (Ok x) make y h = (x, refl, cc)
give_ok (Err e) make y h = absurd (cc)

pub if_ok : {X E : Type 0} (b : Bool) (r : Result X E) (e : E) (x : X) → cond b r (Err e) ≡ Ok x → (b ≡ true) × (r ≡ Ok x)
if_ok true r e x h = (refl, h)
if_ok false r e x h = absurd (cc)

pub unless_ok : {X E : Type 0} (b : Bool) (r : Result X E) (e : E) (x : X) → cond b (Err e) r ≡ Ok x → (b ≡ false) × (r ≡ Ok x)
unless_ok true r e x h = absurd (cc)
unless_ok false r e x h = (refl, h)

-- by the cases of a test
pub by_test : {X P : Type 0} (b : Bool) (r s y : X) → cond b r s ≡ y → (b ≡ true → r ≡ y → P) → (b ≡ false → s ≡ y → P) → P
by_test true r s y h k l = k refl h
by_test false r s y h k l = l refl h

pub same_bytes : (a b : List ℕ) → bytes_eq a b ≡ true → a ≡ b
same_bytes a b h = (bytes_eq-Decides a b).0 h

pub bytes_same : (a b : List ℕ) → a ≡ b → bytes_eq a b ≡ true
bytes_same a b h = (bytes_eq-Decides a b).1 h

pub map_some : (o : Option ℕ) (place : ℕ) → option_map (λ p. p + 1) o ≡ Some place → (p : ℕ) × (o ≡ Some p) × (p + 1 ≡ place)
map_some (Some p) place h = (p, refl, cc)
map_some None place h = absurd (cc)

pub no_element : {X : Type 0} (xs : List X) → is_empty xs ≡ true → xs ≡ []
no_element [] h = refl
no_element (x ∷ xs) h = absurd (omega (arith, eqb-true (length (x ∷ xs)) 0 h))

pub some_element : {X : Type 0} (x : X) (xs : List X) → is_empty (x ∷ xs) ≡ false
some_element x xs = by (is_empty (x ∷ xs)) refl
  where
    by : (b : Bool) → is_empty (x ∷ xs) ≡ b → b ≡ false
    by true h = absurd (omega (arith, eqb-true (length (x ∷ xs)) 0 h))
    by false h = refl
