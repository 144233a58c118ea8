-- A turn of a list in brackets that another follows reads a lexeme at least.
use Rattle.std.proofs.Common.{◌≡◌, ◌<◌, ℕ, suc, ◌+◌, ap, ◌∙◌, sym, ⊎_elim, true, List, length, length-append, arith}
use Rattle.std.specs.Prelude.{Ok}
use Rattle.promql_parts.specs.Labels.{item_behind}
use Rattle.promql_parts.specs.Laws.{Sound}
use Rattle.promql_parts.specs.Reads.{Read, begins}
use Rattle.promql_parts.specs.Steps.{bind_ok, chosen, item_found, same_ok, true_false}
use Rattle.promql_parts.specs.declared.lexeme.Lexeme.{Lexeme}
use Rattle.promql_parts.specs.declared.lexeme.Sign.{Sign}
use Rattle.promql_parts.proofs.Lists.{list_turn}

pub list_shrinks : {X : Type 0} (One : List Lexeme → X → Type 0) (end : ℕ) (close : Sign) (item : List Lexeme → Read X) → Sound item One
    → (items : List X) (ls : List Lexeme) (b : List X) (rest : List Lexeme) → list_turn end close item items ls ≡ Ok (true, b, rest) → length rest < length ls
list_shrinks One end close item sound items ls b rest got =
    ⊎_elim (λ p. true_false (sym (ap (λ x. x.0) (same_ok _ _ p.1))))
    (λ p.
    let r = bind_ok (item ls) _ _ p.1 in
    let i = bind_ok (item_behind end close r.0.1) _ _ r.2 in
    let f = sound ls r.0.0 r.0.1 r.1 in
    let ends = same_ok _ _ i.2 in
    let sizes : length ls ≡ length f.front + length r.0.1 = ap length f.split ∙ length-append f.front r.0.1 in
    let same : i.0.1 ≡ rest = ap (λ x. x.2) ends in
    ⊎_elim
    (λ q. let less : length r.0.1 ≡ suc (length i.0.1) = ap length q.1.1 in let last : length i.0.1 ≡ length rest = ap length same in omega (arith, sizes, less, last))
    (λ q. true_false (sym (ap (λ x. x.0) ends) ∙ q.0))
    (item_found end close r.0.1 i.0.0 i.0.1 i.1))
    (chosen (begins close ls) _ _ _ got)
