-- Lists in brackets, with commas between their items and maybe behind the last: what is read is such a list.
use Rattle.std.proofs.Common.{◌≡◌, ◌<◌, ℕ, zero, suc, ◌+◌, refl, ap, ◌∙◌, sym, subst, ⊎_elim, Bool, true, false, cond, List, [], ◌∷◌, ◌++◌, append_assoc, append-nil, length, length-append, arith}
use Rattle.std.specs.Prelude.{Result, Ok, if◌then◌else◌}
use Rattle.promql_ast.specs.declared.refusal.QueryRefusal.{QueryRefusal}
use Rattle.promql_parts.specs.Labels.{item_behind}
use Rattle.promql_parts.specs.Laws.{Sound}
use Rattle.promql_parts.specs.Productions.{IsSign}
use Rattle.promql_parts.specs.Reads.{Read, Turn, ◌>>=◌, begins, turns}
use Rattle.promql_parts.specs.Steps.{bind_ok, chosen, item_found, same_ok}
use Rattle.promql_parts.specs.declared.lexeme.Lexeme.{Lexeme}
use Rattle.promql_parts.specs.declared.lexeme.Sign.{Sign}
use Rattle.promql_parts.specs.declared.lexeme.Sign.TheVariants.{Comma}

-- what stands in the brackets: nothing, items, or items and a last comma
pub data Inside {X : Type 0} (Items : List Lexeme → List X → Type 0) : List Lexeme → List X → Type 0 where
  none : Inside Items [] []
  some : {xs : List Lexeme} {items : List X} → Items xs items → Inside Items xs items
  comma : {us xs : List Lexeme} {items : List X} (c : Lexeme) → Items xs items → IsSign Comma c → us ≡ xs ++ c ∷ [] → Inside Items us items

-- what stands before an item: nothing, or items and a comma
pub data Before {X : Type 0} (Items : List Lexeme → List X → Type 0) : List Lexeme → List X → Type 0 where
  start : Before Items [] []
  behind : {us xs : List Lexeme} {items : List X} (c : Lexeme) → Items xs items → IsSign Comma c → us ≡ xs ++ c ∷ [] → Before Items us items

-- one more item, up to the sign that closes the list
abbrev pub list_turn : {X : Type 0} → ℕ → Sign → (List Lexeme → Read X) → Turn (List X)
list_turn end close item sofar ls = if begins close ls then Ok (false, sofar, ls) else (do
  x ← item ls
  next ← item_behind end close x.1
  Ok (next.0, sofar ++ x.0 ∷ [], next.1))

pub closing : {X : Type 0} {Items : List Lexeme → List X → Type 0} {us : List Lexeme} {items : List X} → Before Items us items → Inside Items us items
closing Before.start = Inside.none
closing (Before.behind c is is_comma split) = Inside.comma c is is_comma split

module _ {X : Type 0} (One : List Lexeme → X → Type 0) (Items : List Lexeme → List X → Type 0) (single : (xs : List Lexeme) (x : X) → One xs x → Items xs (x ∷ []))
    (longer : (us xs ys : List Lexeme) (items : List X) (x : X) (c : Lexeme) → Items xs items → IsSign Comma c → One ys x → us ≡ xs ++ c ∷ ys → Items us (items ++ x ∷ [])) where
  pub added : {us : List Lexeme} {items : List X} → Before Items us items → (ys : List Lexeme) (x : X) → One ys x → Items (us ++ ys) (items ++ x ∷ [])
  added Before.start ys x one = single ys x one
  added (Before.behind {us = us} {xs = xs} {items = items} c is is_comma split) ys x one =
      longer (us ++ ys) xs ys items x c is is_comma one (ap (λ z. z ++ ys) split ∙ append_assoc xs (c ∷ []) ys)

  module _ (end : ℕ) (close : Sign) (item : List Lexeme → Read X) (sound : Sound item One) where
    pub record Listed (us ls : List Lexeme) (found : List X) (rest : List Lexeme) : Type 0 where
      pub mid : List Lexeme
      pub split : ls ≡ mid ++ rest
      pub inside : Inside Items (us ++ mid) found
      pub closes : begins close rest ≡ true

    abbrev next_turns : ℕ → Result (Bool × List X × List Lexeme) QueryRefusal → Read (List X)
    next_turns n r = r >>= λ next. if next.0 then turns (list_turn end close item) n next.1 next.2 else Ok (next.1, next.2)

    stopped : (us : List Lexeme) (items : List X) (ls : List Lexeme) (found : List X) (rest : List Lexeme) → Before Items us items → items ≡ found → ls ≡ rest → begins close ls ≡ true → Listed us ls found rest
    stopped us items ls found rest before so ends closes = record {
      mid = [];
      split = ends;
      inside = subst (Inside Items (us ++ [])) so (subst (λ v. Inside Items v items) (sym (append-nil us)) (closing before));
      closes = ap (begins close) (sym ends) ∙ closes;
    }

    at_close : (us ls front mid rest : List Lexeme) (items found : List X) → ls ≡ front ++ mid → mid ≡ rest → Items (us ++ front) items → items ≡ found → begins close mid ≡ true → Listed us ls found rest
    at_close us ls front mid rest items found split ends is so closes = record {
      mid = front;
      split = split ∙ ap (λ x. front ++ x) ends;
      inside = subst (Inside Items (us ++ front)) so (Inside.some is);
      closes = ap (begins close) (sym ends) ∙ closes;
    }

    after_comma : (us ls front mid rest : List Lexeme) (u : Lexeme) (found : List X) → ls ≡ front ++ u ∷ mid → Listed (us ++ (front ++ u ∷ [])) mid found rest → Listed us ls found rest
    after_comma us ls front mid rest u found split next = record {
      mid = front ++ u ∷ next.mid;
      split = split ∙ ap (λ x. front ++ u ∷ x) next.split ∙ sym (append_assoc front (u ∷ next.mid) rest);
      inside = subst (λ v. Inside Items v found) (append_assoc us (front ++ u ∷ []) next.mid ∙ ap (λ x. us ++ x) (append_assoc front (u ∷ []) next.mid)) next.inside;
      closes = next.closes;
    }

    pub shorter : (n : ℕ) (ls front mid : List Lexeme) (u : Lexeme) → ls ≡ front ++ u ∷ mid → length ls < suc n → length mid < n
    shorter n ls front mid u split room = let sizes : length ls ≡ length front + length (u ∷ mid) = ap length split ∙ length-append front (u ∷ mid) in omega (arith, sizes, room)

    abbrev TurnsFound : ℕ → Type 0
    TurnsFound n = (us : List Lexeme) (items : List X) (ls : List Lexeme) (found : List X) (rest : List Lexeme) → Before Items us items → length ls < n
        → turns (list_turn end close item) n items ls ≡ Ok (found, rest) → Listed us ls found rest

    -- behind an item
    item_next : (n : ℕ) → TurnsFound n → (us front ls mid : List Lexeme) (all : List X) → ls ≡ front ++ mid → Items (us ++ front) all → length ls < suc n → (another : Bool) (tail : List Lexeme)
        → item_behind end close mid ≡ Ok (another, tail) → (found : List X) (rest : List Lexeme)
        → cond another (turns (list_turn end close item) n all tail) (Ok (all, tail)) ≡ Ok (found, rest) → Listed us ls found rest
    item_next n more us front ls mid all split is room another tail read found rest go =
        ⊎_elim
        (λ q.
        let whole : ls ≡ front ++ q.1.0 ∷ tail = split ∙ ap (λ x. front ++ x) q.1.1 in
        after_comma us ls front tail rest q.1.0 found whole
        (more (us ++ (front ++ q.1.0 ∷ [])) all tail found rest (Before.behind q.1.0 is q.1.2 (sym (append_assoc us front (q.1.0 ∷ [])))) (shorter n ls front tail q.1.0 whole room)
        (sym (ap (λ b. cond b (turns (list_turn end close item) n all tail) (Ok (all, tail))) q.0) ∙ go)))
        (λ q.
        let ends = same_ok (all, tail) (found, rest) (sym (ap (λ b. cond b (turns (list_turn end close item) n all tail) (Ok (all, tail))) q.0) ∙ go) in
        at_close us ls front mid rest all found split (q.1 ∙ ap (λ x. x.1) ends) is (ap (λ x. x.0) ends) q.2)
        (item_found end close mid another tail read)

    pub turns_found : (n : ℕ) → TurnsFound n
    unfolding turns
    turns_found zero us items ls found rest before room read = absurd (omega (arith, room))
    turns_found (suc n) us items ls found rest before room read =
        ⊎_elim
        (λ p.
        let ends = same_ok (items, ls) (found, rest) (ap (next_turns n) p.1 ∙ read) in
        stopped us items ls found rest before (ap (λ x. x.0) ends) (ap (λ x. x.1) ends) p.0)
        (λ p.
        let turned = bind_ok (list_turn end close item items ls) _ _ read in
        let r = bind_ok (item ls) _ _ (p.1 ∙ turned.1) in
        let i = bind_ok (item_behind end close r.0.1) _ _ r.2 in
        let f = sound ls r.0.0 r.0.1 r.1 in
        item_next n (turns_found n) us f.front ls r.0.1 (items ++ r.0.0 ∷ []) f.split (added before f.front r.0.0 f.is) room i.0.0 i.0.1 i.1 found rest
        (ap (λ x. cond x.0 (turns (list_turn end close item) n x.1 x.2) (Ok (x.1, x.2))) (same_ok _ _ i.2) ∙ turned.2))
        (chosen (begins close ls) _ _ _ refl)
