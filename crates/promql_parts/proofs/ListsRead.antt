-- Lists in brackets: what is such a list is read.
use Rattle.std.proofs.Common.{◌≡◌, ◌<◌, ℕ, suc, ◌+◌, ap, ◌∙◌, sym, ⊎_elim, Bool, true, false, List, [], ◌∷◌, ◌++◌, append_assoc, length, length-append, arith}
use Rattle.std.proofs.lemmas.Bool.{cond-true, cond-false}
use Rattle.std.specs.Prelude.{Result, Ok}
use Rattle.promql_ast.specs.declared.refusal.QueryRefusal.{QueryRefusal}
use Rattle.promql_parts.specs.Labels.{item_behind}
use Rattle.promql_parts.specs.Laws.{Sound}
use Rattle.promql_parts.specs.Productions.{IsSign}
use Rattle.promql_parts.specs.Reads.{Read, ◌>>=◌, all_turns, begins}
use Rattle.promql_parts.specs.Signs.{is_sign}
use Rattle.promql_parts.specs.Steps.{bind_ok, chosen, close_read, comma_read, item_found, same_ok, sign_is, true_false}
use Rattle.promql_parts.specs.Turns.{all_end, all_on}
use Rattle.promql_parts.specs.declared.lexeme.Lexeme.{Lexeme}
use Rattle.promql_parts.specs.declared.lexeme.LexemeKind.TheVariants as kinds
use Rattle.promql_parts.specs.declared.lexeme.Sign.{Sign}
use Rattle.promql_parts.specs.declared.lexeme.Sign.TheVariants.{Comma}
use Rattle.promql_parts.proofs.Lists.{Inside, list_turn}

module _ {X : Type 0} (One : List Lexeme → X → Type 0) (end : ℕ) (close : Sign) (apart : is_sign Comma (kinds.Sign close) ≡ false) (item : List Lexeme → Read X) (sound : Sound item One)
    (reads : (xs : List Lexeme) (x : X) → One xs x → (u : Lexeme) (us : List Lexeme) → IsSign close u → item (xs ++ u ∷ us) ≡ Ok (x, u ∷ us))
    (reads_comma : (xs : List Lexeme) (x : X) → One xs x → (u : Lexeme) (us : List Lexeme) → IsSign Comma u → item (xs ++ u ∷ us) ≡ Ok (x, u ∷ us))
    (first : (xs : List Lexeme) (x : X) → One xs x → (us : List Lexeme) → begins close (xs ++ us) ≡ false) where
  abbrev turn : List X → List Lexeme → Result (Bool × List X × List Lexeme) QueryRefusal
  turn = list_turn end close item

  abbrev with_item : List X → Read X → Result (Bool × List X × List Lexeme) QueryRefusal
  with_item sofar q = q >>= λ x. item_behind end close x.1 >>= λ next. Ok (next.0, sofar ++ x.0 ∷ [], next.1)

  abbrev with_next : List X → Read Bool → Result (Bool × List X × List Lexeme) QueryRefusal
  with_next all q = q >>= λ next. Ok (next.0, all, next.1)

  shrinks : (items : List X) (ls : List Lexeme) (b : List X) (rest : List Lexeme) → turn items ls ≡ Ok (true, b, rest) → length rest < length ls
  shrinks items ls b rest got =
      ⊎_elim (λ p. true_false (sym (ap (λ x. x.0) (same_ok _ _ p.1))))
      (λ p.
      let r = bind_ok (item ls) _ _ p.1 in
      let i = bind_ok (item_behind end close r.0.1) _ _ r.2 in
      let f = sound ls r.0.0 r.0.1 r.1 in
      let ends = same_ok _ _ i.2 in
      let sizes : length ls ≡ length f.front + length r.0.1 = ap length f.split ∙ length-append f.front r.0.1 in
      let same : i.0.1 ≡ rest = ap (λ x. x.2) ends in
      ⊎_elim
      (λ q. let less : length r.0.1 ≡ suc (length i.0.1) = ap length q.1.1 in let last : length i.0.1 ≡ length rest = ap length same in omega (arith, sizes, less, last))
      (λ q. true_false (sym (ap (λ x. x.0) ends) ∙ q.0))
      (item_found end close r.0.1 i.0.0 i.0.1 i.1))
      (chosen (begins close ls) _ _ _ got)

  one_comma : (items : List X) (ys : List Lexeme) (x : X) (c : Lexeme) (us : List Lexeme) → One ys x → IsSign Comma c
      → all_turns turn items (ys ++ c ∷ us) ≡ all_turns turn (items ++ x ∷ []) us
  one_comma items ys x c us one is =
      all_on turn shrinks items (ys ++ c ∷ us) (items ++ x ∷ []) us
      (cond-false (begins close (ys ++ c ∷ us)) _ _ (first ys x one (c ∷ us)) ∙ ap (with_item items) (reads_comma ys x one c us is) ∙ ap (with_next (items ++ x ∷ [])) (comma_read end close c us is))

  one_close : (items : List X) (ys : List Lexeme) (x : X) (u : Lexeme) (us : List Lexeme) → One ys x → IsSign close u
      → all_turns turn items (ys ++ u ∷ us) ≡ Ok (items ++ x ∷ [], u ∷ us)
  one_close items ys x u us one is =
      all_end turn shrinks items (ys ++ u ∷ us) (items ++ x ∷ []) (u ∷ us)
      (cond-false (begins close (ys ++ u ∷ us)) _ _ (first ys x one (u ∷ us)) ∙ ap (with_item items) (reads ys x one u us is)
      ∙ ap (with_next (items ++ x ∷ [])) (close_read end close u us apart is))

  ends_here : (items : List X) (u : Lexeme) (us : List Lexeme) → IsSign close u → all_turns turn items (u ∷ us) ≡ Ok (items, u ∷ us)
  ends_here items u us is = all_end turn shrinks items (u ∷ us) items (u ∷ us) (cond-true (is_sign close u.kind) _ _ (sign_is close u.kind is))

  -- items that are read up to a comma, and up to the sign that closes the list
  pub record ItemsRead (xs : List Lexeme) (items : List X) : Type 0 where
    pub goes : (c : Lexeme) (us : List Lexeme) → IsSign Comma c → all_turns turn [] (xs ++ c ∷ us) ≡ all_turns turn items us
    pub stops : (u : Lexeme) (us : List Lexeme) → IsSign close u → all_turns turn [] (xs ++ u ∷ us) ≡ Ok (items, u ∷ us)

  pub single_read : (xs : List Lexeme) (x : X) → One xs x → ItemsRead xs (x ∷ [])
  single_read xs x one = record { goes = λ c us is. one_comma [] xs x c us one is; stops = λ u us is. one_close [] xs x u us one is }

  pub longer_read : (us xs ys : List Lexeme) (items : List X) (x : X) (c : Lexeme) → ItemsRead xs items → IsSign Comma c → One ys x → us ≡ xs ++ c ∷ ys → ItemsRead us (items ++ x ∷ [])
  longer_read us xs ys items x c before comma one split = record {
    goes = λ d tail is. ap (λ z. all_turns turn [] (z ++ d ∷ tail)) split ∙ ap (all_turns turn []) (append_assoc xs (c ∷ ys) (d ∷ tail)) ∙ before.goes c (ys ++ d ∷ tail) comma ∙ one_comma items ys x d tail one is;
    stops = λ u tail is. ap (λ z. all_turns turn [] (z ++ u ∷ tail)) split ∙ ap (all_turns turn []) (append_assoc xs (c ∷ ys) (u ∷ tail)) ∙ before.goes c (ys ++ u ∷ tail) comma ∙ one_close items ys x u tail one is;
  }

  pub inside_read : {Items : List Lexeme → List X → Type 0} → ((xs : List Lexeme) (items : List X) → Items xs items → ItemsRead xs items) → {xs : List Lexeme} {items : List X} → Inside Items xs items
      → (u : Lexeme) (us : List Lexeme) → IsSign close u → all_turns turn [] (xs ++ u ∷ us) ≡ Ok (items, u ∷ us)
  inside_read each Inside.none u us is = ends_here [] u us is
  inside_read each (Inside.some {xs = xs} {items = items} list) u us is = (each xs items list).stops u us is
  inside_read each (Inside.comma {us = ws} {xs = xs} {items = items} c list comma split) u us is =
      ap (λ z. all_turns turn [] (z ++ u ∷ us)) split ∙ ap (all_turns turn []) (append_assoc xs (c ∷ []) (u ∷ us)) ∙ (each xs items list).goes c (u ∷ us) comma ∙ ends_here items u us is
