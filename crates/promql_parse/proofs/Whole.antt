-- The tree that is read is that of a query.
use Rattle.std.proofs.Common.{◌≡◌, ◌≤◌, ℕ, refl, ap, ◌∙◌, sym, subst, ⊎_elim, List, [], ◌∷◌, ◌++◌, append-nil}
use Rattle.std.proofs.lemmas.Bool.{cases_lt}
use Rattle.std.specs.Prelude.{Ok}
use Rattle.promql_ast.specs.declared.tree.Expr.{Expr}
use Rattle.promql_parse.specs.Grammar.{Phrase}
use Rattle.promql_parse.specs.Laws.{DeepIsRefused, InGrammarIsRead, OneTree, ReadIsInGrammar}
use Rattle.promql_parse.specs.Reading.{finished, level_at, reading, within}
use Rattle.promql_parse.specs.declared.build.Built.{Built}
use Rattle.promql_parse.specs.declared.build.Built.TheVariants as built
use Rattle.promql_parts.specs.Reads.{◌>>=◌}
use Rattle.promql_parts.specs.Steps.{bind_ok, no_ok, same_ok}
use Rattle.promql_parts.specs.declared.lexeme.Lexeme.{Lexeme}
use Rattle.promql_parse.proofs.Cuts.{cut, is_cut, is_whole}
use Rattle.promql_parse.proofs.Found.{Parts, found}
use Rattle.promql_parse.proofs.PhrasesRead.{Known, phrase_reads, whole}
use Rattle.promql_parse.proofs.Quiet.{calm_end}

abbrev IsWhole : Built → Type 0
IsWhole built.Deep = ⊥
IsWhole (built.Whole e d) = Unit {0}

abbrev tree_or : Expr → Built → Expr
tree_or e built.Deep = e
tree_or e (built.Whole f d) = f

whole_cut : (f : Expr) (d : ℕ) (e : Expr) (k : ℕ) → cut f d ≡ built.Whole e k → (d ≤ 128) × (f ≡ e)
whole_cut f d e k is =
    ⊎_elim (λ lt. absurd (subst IsWhole (sym (sym (is_cut f d lt) ∙ is)) tt)) (λ le. (le, ap (tree_or e) (sym (is_whole f d le) ∙ is))) (cases_lt 128 d)

record Finished (made : Built) (rest : List Lexeme) (e : Expr) : Type 0 where
  pub depth : ℕ
  pub is : made ≡ built.Whole e depth
  pub ends : rest ≡ []

finished_whole : (end : ℕ) (made : Built) (rest : List Lexeme) (e : Expr) → finished end (made, rest) ≡ Ok e → Finished made rest e
finished_whole end built.Deep [] e read = no_ok _ _ read
finished_whole end (built.Whole f d) [] e read = record { depth = d; is = ap (λ x. built.Whole x d) (same_ok _ _ read); ends = refl }
finished_whole end built.Deep (l ∷ ls) e read = no_ok _ _ read
finished_whole end (built.Whole f d) (l ∷ ls) e read = no_ok _ _ read

pub read_is_in_grammar : Parts → ReadIsInGrammar
unfolding reading
read_is_in_grammar known end ls e read =
    let o = bind_ok (level_at end (within end 128) 5 ls) _ _ read in
    let w = finished_whole end o.0.0 o.0.1 e o.2 in
    let p = found known end 128 5 ls o.0.0 o.0.1 o.1 in
    let same = whole_cut p.e p.depth e w.depth (sym p.made_so ∙ w.is) in
    let all : ls ≡ p.front = p.split ∙ ap (λ x. p.front ++ x) w.ends ∙ append-nil p.front in
    (p.depth, same.0, subst (λ x. Phrase 128 5 x e p.depth) (sym all) (subst (λ x. Phrase 128 5 p.front x p.depth) same.1 p.phrase))

module _ (sound : Parts) (known : Known) where
  all_of : (end : ℕ) (ls : List Lexeme) (e : Expr) (d : ℕ) → Phrase 128 5 ls e d → reading end ls ≡ finished end (cut e d, [])
  unfolding reading
  all_of end ls e d p =
      ap (λ x. level_at end (within end 128) 5 x >>= finished end) (sym (append-nil ls))
      ∙ ap (λ q. q >>= finished end) (whole sound known end 128 5 ls e d (phrase_reads sound known end p) [] (calm_end end 5))

  pub in_grammar_is_read : InGrammarIsRead
  in_grammar_is_read end ls e d p le = all_of end ls e d p ∙ ap (λ b. finished end (b, [])) (is_whole e d le)

  pub deep_is_refused : DeepIsRefused
  deep_is_refused end ls e d p lt = all_of end ls e d p ∙ ap (λ b. finished end (b, [])) (is_cut e d lt)

  pub one_tree : OneTree
  one_tree ls e f m n p q le =
      ⊎_elim (λ lt. no_ok _ _ (sym (deep_is_refused 0 ls f n q lt) ∙ in_grammar_is_read 0 ls e m p le))
      (λ less. same_ok _ _ (sym (in_grammar_is_read 0 ls e m p le) ∙ in_grammar_is_read 0 ls f n q less)) (cases_lt 128 n)
