-- Steps of refusals that stand, for proofs.
use Rattle.std.proofs.Common.{◌≡◌, ◌⊎◌, ◌<◌, ℕ, zero, suc, refl, ap, sym, subst, ⊎_elim, Bool, true, false, cond, List, [], ◌∷◌, ◌++◌, length, length-append, arith}
use Rattle.std.specs.Prelude.{Result, Ok, Err}
use Rattle.promql_ast.specs.declared.refusal.QueryRefusal.{QueryRefusal}
use Rattle.promql_ast.specs.declared.refusal.QueryRefusal.TheVariants.{Expected}
use Rattle.promql_parts.specs.Labels.{item_behind}
use Rattle.promql_parts.specs.Reads.{Read, Turn, ◌>>=◌, after, all_turns, refused_at, turns}
use Rattle.promql_parts.specs.Signs.{is_sign}
use Rattle.promql_parts.specs.Stands.{Stands, pair}
use Rattle.promql_parts.specs.declared.lexeme.Lexeme.{Lexeme}
use Rattle.promql_parts.specs.declared.lexeme.Sign.{Sign}
use Rattle.promql_parts.specs.declared.lexeme.Sign.TheVariants.{Comma}

-- what is read of no lexemes: a value, or more is expected
pub data Ended {X B : Type 0} (Put : X → List Lexeme → B) (end : ℕ) : Result B QueryRefusal → Type 0 where
  there : (x : X) → Ended Put end (Ok (Put x []))
  wanted : Ended Put end (Err (Expected end))

-- what is left alone
abbrev pub left : Unit {0} → List Lexeme → List Lexeme
left u ls = ls

-- what a turn gives
abbrev pub turned : {A : Type 0} → Bool × A → List Lexeme → Bool × A × List Lexeme
turned x ls = (x.0, x.1, ls)

module _ {X B : Type 0} (Put : X → List Lexeme → B) (end : ℕ) (more : List Lexeme) where
  pub ended_stands : {r : Result B QueryRefusal} → Ended Put end r → (other : Result B QueryRefusal) → Stands Put end more r other
  ended_stands (Ended.there x) other = Stands.all x other
  ended_stands Ended.wanted other = Stands.wants other

  pub here : (x : X) (ls : List Lexeme) → Stands Put end more (Ok (Put x ls)) (Ok (Put x (ls ++ more)))
  here x [] = Stands.all x _
  here x (l ∷ ls) = Stands.goes x l ls

  pub refuses : (other : ℕ) (ls : List Lexeme) → Stands Put end more (Err (refused_at end ls)) (Err (refused_at other (ls ++ more)))
  refuses other [] = Stands.wants _
  refuses other (l ∷ ls) = Stands.stops _

  pub choice_stands : (b : Bool) (r s q t : Result B QueryRefusal) → Stands Put end more r s → Stands Put end more q t → Stands Put end more (cond b r q) (cond b s t)
  choice_stands true r s q t first second = first
  choice_stands false r s q t first second = second

  pub pure_stands : {A : Type 0} (r : Result A QueryRefusal) (f g : A → Result B QueryRefusal) → ((a : A) → Stands Put end more (f a) (g a)) → Stands Put end more (r >>= f) (r >>= g)
  pure_stands (Ok a) f g steps = steps a
  pure_stands (Err refusal) f g steps = Stands.stops refusal

module _ {X B Y C : Type 0} (Put : X → List Lexeme → B) (Then : Y → List Lexeme → C) (end : ℕ) (more : List Lexeme) (f g : B → Result C QueryRefusal) (ended : (x : X) → Ended Then end (f (Put x []))) where
  pub bind_ended : {r : Result B QueryRefusal} → Ended Put end r → Ended Then end (r >>= f)
  bind_ended (Ended.there x) = ended x
  bind_ended Ended.wanted = Ended.wanted

  pub bind_stands : ((x : X) (l : Lexeme) (ls : List Lexeme) → Stands Then end more (f (Put x (l ∷ ls))) (g (Put x (l ∷ ls ++ more)))) → {r s : Result B QueryRefusal} → Stands Put end more r s
      → Stands Then end more (r >>= f) (s >>= g)
  bind_stands steps (Stands.goes x l ls) = steps x l ls
  bind_stands steps (Stands.all x other) = ended_stands Then end more (ended x) (other >>= g)
  bind_stands steps (Stands.stops refusal) = Stands.stops refusal
  bind_stands steps (Stands.wants other) = Stands.wants (other >>= g)

-- a value is put together of what was read
module _ {X Y C : Type 0} (Then : Y → List Lexeme → C) (end : ℕ) (more : List Lexeme) (make : X → Y) where
  pub map_stands : {r s : Read X} → Stands pair end more r s → Stands Then end more (r >>= λ x. Ok (Then (make x.0) x.1)) (s >>= λ x. Ok (Then (make x.0) x.1))
  map_stands is = bind_stands pair Then end more (λ x. Ok (Then (make x.0) x.1)) (λ x. Ok (Then (make x.0) x.1)) (λ x. Ended.there (make x)) (λ x l ls. Stands.goes (make x) l ls) is

  pub map_ended : {r : Read X} → Ended pair end r → Ended Then end (r >>= λ x. Ok (Then (make x.0) x.1))
  map_ended is = bind_ended pair Then end more (λ x. Ok (Then (make x.0) x.1)) (λ x. Ok (Then (make x.0) x.1)) (λ x. Ended.there (make x)) is

module _ (end other : ℕ) (more : List Lexeme) where
  pub after_stands : (s : Sign) (ls : List Lexeme) → Stands left end more (after end s ls) (after other s (ls ++ more))
  after_stands s [] = Stands.wants _
  after_stands s (l ∷ ls) = choice_stands left end more (is_sign s l.kind) _ _ _ _ (here left end more tt ls) (Stands.stops _)

  pub item_stands : (close : Sign) (ls : List Lexeme) → Stands pair end more (item_behind end close ls) (item_behind other close (ls ++ more))
  unfolding item_behind
  item_stands close [] = Stands.wants _
  item_stands close (l ∷ ls) =
      choice_stands pair end more (is_sign Comma l.kind) _ _ _ _ (here pair end more true ls) (choice_stands pair end more (is_sign close l.kind) _ _ _ _ (Stands.goes false l ls) (Stands.stops _))

  pub item_ended : (close : Sign) → Ended pair end (item_behind end close [])
  unfolding item_behind
  item_ended close = Ended.wanted

  -- what is closed by a sign
  pub close_stands : {Y : Type 0} (s : Sign) (y : Y) (ls : List Lexeme) → Stands pair end more (after end s ls >>= λ rest. Ok (y, rest)) (after other s (ls ++ more) >>= λ rest. Ok (y, rest))
  close_stands s y ls = bind_stands left pair end more (λ rest. Ok (y, rest)) (λ rest. Ok (y, rest)) (λ x. Ended.there y) (λ x l ls. Stands.goes y l ls) (after_stands s ls)

-- ---- turns
module _ {A : Type 0} (one two : Turn A) (end : ℕ) (more : List Lexeme) (at_end : (a : A) → (one a [] ≡ Ok (false, a, [])) ⊎ (one a [] ≡ Err (Expected end)))
    (steps : (a : A) (l : Lexeme) (ls : List Lexeme) → Stands turned end more (one a (l ∷ ls)) (two a (l ∷ ls ++ more)))
    (shrinks : (a : A) (ls : List Lexeme) (b : A) (rest : List Lexeme) → one a ls ≡ Ok (true, b, rest) → length rest < length ls) where
  abbrev next : Turn A → ℕ → Bool × A × List Lexeme → Read A
  next turn n x = cond x.0 (turns turn n x.1 x.2) (Ok (x.1, x.2))

  turns_ended : (n : ℕ) (a : A) → Ended pair end (turns one n a [])
  unfolding turns
  turns_ended zero a = Ended.there a
  turns_ended (suc n) a =
      ⊎_elim (λ is. subst (Ended pair end) (sym (ap (λ (r : Result (Bool × A × List Lexeme) QueryRefusal). r >>= next one n) is)) (Ended.there a))
      (λ is. subst (Ended pair end) (sym (ap (λ (r : Result (Bool × A × List Lexeme) QueryRefusal). r >>= next one n) is)) Ended.wanted) (at_end a)

  abbrev AllStand : ℕ → Type 0
  AllStand n = (m : ℕ) (a : A) (ls : List Lexeme) → length ls < n → length (ls ++ more) < m → Stands pair end more (turns one n a ls) (turns two m a (ls ++ more))

  next_stands : (n : ℕ) → AllStand n → (m : ℕ) (a : A) (ls : List Lexeme) → length ls < suc n → length (ls ++ more) < suc m → (r s : Result (Bool × A × List Lexeme) QueryRefusal) → one a ls ≡ r
      → Stands turned end more r s → Stands pair end more (r >>= next one n) (s >>= next two m)
  next_stands n others m a ls lt less r s is (Stands.goes (true, b) u us) =
      let fewer = shrinks a ls b (u ∷ us) is in
      let sizes = length-append ls more in
      let left_sizes = length-append (u ∷ us) more in
      others m b (u ∷ us) (omega (arith, fewer, lt)) (omega (arith, fewer, less, sizes, left_sizes))
  next_stands n others m a ls lt less r s is (Stands.goes (false, b) u us) = Stands.goes b u us
  next_stands n others m a ls lt less r s is (Stands.all (true, b) other) = ended_stands pair end more (turns_ended n b) (other >>= next two m)
  next_stands n others m a ls lt less r s is (Stands.all (false, b) other) = Stands.all b (other >>= next two m)
  next_stands n others m a ls lt less r s is (Stands.stops refusal) = Stands.stops refusal
  next_stands n others m a ls lt less r s is (Stands.wants other) = Stands.wants (other >>= next two m)

  turns_stand : (n : ℕ) → AllStand n
  unfolding turns
  turns_stand zero m a ls lt less = absurd (omega (arith, lt))
  turns_stand (suc n) zero a ls lt less = absurd (omega (arith, less))
  turns_stand (suc n) (suc m) a [] lt less = ended_stands pair end more (turns_ended (suc n) a) _
  turns_stand (suc n) (suc m) a (l ∷ ls) lt less = next_stands n (turns_stand n) m a (l ∷ ls) lt less (one a (l ∷ ls)) (two a (l ∷ ls ++ more)) refl (steps a l ls)

  pub all_turns_stand : (a : A) (ls : List Lexeme) → Stands pair end more (all_turns one a ls) (all_turns two a (ls ++ more))
  all_turns_stand a ls = turns_stand (suc (length ls)) (suc (length (ls ++ more))) a ls (omega arith) (omega arith)

  pub all_turns_ended : (a : A) → Ended pair end (all_turns one a [])
  all_turns_ended a = turns_ended (suc (length {A = Lexeme} [])) a
