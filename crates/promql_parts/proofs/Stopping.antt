-- Steps of readings that stop since something else was expected.
use Rattle.std.proofs.Common.{◌≡◌, ◌⊎◌, ◌<◌, ℕ, zero, suc, refl, ap, ◌∙◌, sym, subst, ⊎_elim, Bool, cond, List, [], ◌∷◌, ◌++◌, append_assoc, length, arith}
use Rattle.std.specs.Prelude.{Result, Ok, Err}
use Rattle.promql_ast.specs.declared.refusal.QueryRefusal.{QueryRefusal}
use Rattle.promql_ast.specs.declared.refusal.QueryRefusal.TheVariants.{Expected}
use Rattle.promql_parts.specs.Labels.{item_behind}
use Rattle.promql_parts.specs.Laws.{Sound}
use Rattle.promql_parts.specs.Productions.{IsSign}
use Rattle.promql_parts.specs.Reads.{Read, ◌>>=◌, begins, turns}
use Rattle.promql_parts.specs.Steps.{bind_ok, chosen, item_found, same_ok}
use Rattle.promql_parts.specs.Stops.{Stops, StopsAt}
use Rattle.promql_parts.specs.Stopped.{bind_err, no_err, item_stops, behind_part}
use Rattle.promql_parts.specs.declared.lexeme.Lexeme.{Lexeme}
use Rattle.promql_parts.specs.declared.lexeme.Sign.{Sign}
use Rattle.promql_parts.specs.declared.lexeme.Sign.TheVariants.{Comma}
use Rattle.promql_parts.proofs.Lists.{Before, added, list_turn, shorter}

-- a list that isn't closed: an item is begun, or one has just ended
pub data Open {X : Type 0} (Items : List Lexeme → List X → Type 0) (Begun : List Lexeme → Type 0) : List Lexeme → Type 0 where
  within : {us xs ys : List Lexeme} {items : List X} → Before Items xs items → Begun ys → us ≡ xs ++ ys → Open Items Begun us
  behind : {us : List Lexeme} {items : List X} → Items us items → Open Items Begun us

module _ {X : Type 0} (One : List Lexeme → X → Type 0) (Items : List Lexeme → List X → Type 0) (single : (xs : List Lexeme) (x : X) → One xs x → Items xs (x ∷ []))
    (longer : (us xs ys : List Lexeme) (items : List X) (x : X) (c : Lexeme) → Items xs items → IsSign Comma c → One ys x → us ≡ xs ++ c ∷ ys → Items us (items ++ x ∷ []))
    (end : ℕ) (close : Sign) (item : List Lexeme → Read X) (sound : Sound item One) (Begun : List Lexeme → Type 0) (stops : Stops end item Begun) (place : ℕ) where
  abbrev OpenBehind : List Lexeme → List Lexeme → Type 0
  OpenBehind us front = Open Items Begun (us ++ front)

  abbrev TurnsStop : ℕ → Type 0
  TurnsStop n = (us : List Lexeme) (items : List X) (ls : List Lexeme) → Before Items us items → length ls < n
      → turns (list_turn end close item) n items ls ≡ Err (Expected place) → StopsAt end place (OpenBehind us) ls

  -- behind an item that is followed by a comma
  next_stops : (n : ℕ) → TurnsStop n → (us front ls mid : List Lexeme) (all : List X) → ls ≡ front ++ mid → Items (us ++ front) all → length ls < suc n → (another : Bool) (tail : List Lexeme)
      → item_behind end close mid ≡ Ok (another, tail)
      → cond another (turns (list_turn end close item) n all tail) (Ok (all, tail)) ≡ Err (Expected place) → StopsAt end place (OpenBehind us) ls
  next_stops n more us front ls mid all split is room another tail read go =
      ⊎_elim
      (λ q.
      let pre : List Lexeme = front ++ q.1.0 ∷ [] in
      let whole : ls ≡ front ++ q.1.0 ∷ tail = split ∙ ap (λ x. front ++ x) q.1.1 in
      behind_part end place (OpenBehind (us ++ pre)) (OpenBehind us) pre ls tail (whole ∙ sym (append_assoc front (q.1.0 ∷ []) tail))
      (λ z begun. subst (Open Items Begun) (append_assoc us pre z) begun)
      (more (us ++ pre) all tail (Before.behind q.1.0 is q.1.2 (sym (append_assoc us front (q.1.0 ∷ [])))) (shorter One Items single longer end close item sound n ls front tail q.1.0 whole room)
      (sym (ap (λ b. cond b (turns (list_turn end close item) n all tail) (Ok (all, tail))) q.0) ∙ go)))
      (λ q. no_err _ _ (sym (ap (λ b. cond b (turns (list_turn end close item) n all tail) (Ok (all, tail))) q.0) ∙ go))
      (item_found end close mid another tail read)

  pub list_stops : (n : ℕ) → TurnsStop n
  unfolding turns
  list_stops zero us items ls before room read = absurd (omega (arith, room))
  list_stops (suc n) us items ls before room read =
      ⊎_elim
      (λ p. no_err _ _ (ap (λ (r : Result (Bool × List X × List Lexeme) QueryRefusal). r >>= λ next. cond next.0 (turns (list_turn end close item) n next.1 next.2) (Ok (next.1, next.2))) p.1 ∙ read))
      (λ p.
      ⊎_elim
      (λ q.
      ⊎_elim
      (λ r.
      let s = stops place ls r in
      record { front = s.front; back = s.back; split = s.split; there = s.there; begun = Open.within before s.begun refl })
      (λ r.
      let f = sound ls r.0.0 r.0.1 r.1 in
      ⊎_elim
      (λ i. record {
        front = f.front;
        back = r.0.1;
        split = f.split;
        there = item_stops end place close r.0.1 i;
        begun = Open.behind (added One Items single longer before f.front r.0.0 f.is);
      })
      (λ i. no_err _ _ i.2)
      (bind_err (item_behind end close r.0.1) _ _ r.2))
      (bind_err (item ls) _ _ (p.1 ∙ q)))
      (λ q.
      let r = bind_ok (item ls) _ _ (p.1 ∙ q.1) in
      let i = bind_ok (item_behind end close r.0.1) _ _ r.2 in
      let f = sound ls r.0.0 r.0.1 r.1 in
      next_stops n (list_stops n) us f.front ls r.0.1 (items ++ r.0.0 ∷ []) f.split (added One Items single longer before f.front r.0.0 f.is) room i.0.0 i.0.1 i.1
      (ap (λ x. cond x.0 (turns (list_turn end close item) n x.1 x.2) (Ok (x.1, x.2))) (same_ok _ _ i.2) ∙ q.2))
      (bind_err (list_turn end close item items ls) _ _ read))
      (chosen (begins close ls) _ _ _ refl)
