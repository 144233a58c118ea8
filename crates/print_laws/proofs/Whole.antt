-- A text, its tree, and the canonical text that is read as that tree.
use Rattle.std.proofs.Common.{List, [], ap, false, length, refl, subst, sym, ℕ, ◌++◌, ◌∙◌, ◌≡◌, ◌≤◌}
use Rattle.std.specs.Prelude.{Result, Ok}
use Rattle.func_table.specs.Naming.{FoundNamesAreTheirs}
use Rattle.promql_ast.specs.declared.refusal.QueryRefusal.{QueryRefusal}
use Rattle.promql_ast.specs.declared.tree.Expr.{Expr}
use Rattle.promql_lex.specs.Tokens.{tokens_of}
use Rattle.promql_parse.specs.Laws.{InGrammarIsRead, ReadIsInGrammar}
use Rattle.promql_parse.specs.Parsing.{Parses, most_bytes}
use Rattle.promql_parts.specs.Lexemes.{lexemes_of}
use Rattle.promql_parts.specs.Patterned.{Kept, Patterned}
use Rattle.promql_parts.specs.Steps.{no_ok}
use Rattle.promql_print.specs.Canonical.{canonical}
use Rattle.print_laws.proofs.Again.{IsPhrase, Spanned, Told, phrase_told}
use Rattle.print_laws.proofs.Anew.{Follows, anew, follows}
use Rattle.print_laws.proofs.Goods.{AllRaw, are_good}
use Rattle.print_laws.proofs.Items.{append_nil}
use Rattle.print_laws.proofs.Lexed.{are_lexemes, lexemes_from}
use Rattle.print_laws.proofs.Numbered.{numbers, numbers_in, query_numbers}
use Rattle.print_laws.proofs.Values.{Spelled}
use Rattle.print_laws.specs.Same.{unplaced}

-- each lexeme of a text, before patterns stand in place of its strings, is as its spelling says
abbrev pub AreRaw : Type 0
AreRaw = (text : List ℕ) → AllRaw (lexemes_of text (tokens_of text))

module _ (spelled : Spelled) (alone : FoundNamesAreTheirs) (spanned : Spanned) (raw : AreRaw) (in_grammar : ReadIsInGrammar) (is_read : InGrammarIsRead) where
  -- the canonical text gives the same tree over the patterns of its text, and over those before that
  abbrev Again : Kept → Kept → Expr → Type 0
  Again before kept e = ((f : Expr) × Parses (canonical kept e) kept kept (Ok f) × (unplaced f ≡ unplaced e)) × ((f : Expr) × Parses (canonical kept e) before kept (Ok f) × (unplaced f ≡ unplaced e))

  of_phrase : (before kept : Kept) (e : Expr) (d : ℕ) → d ≤ 128 → length (canonical kept e) ≤ most_bytes → Follows before (numbers_in (unplaced e)) kept → Told kept (IsPhrase 128 5 d) 0 e
      → Again before kept e
  of_phrase before kept e d shallow short follow told =
      let text : List ℕ = canonical kept e in
      let goes : Patterned false kept (lexemes_from 0 false 0 (canonical kept e)) kept told.ls =
      subst (λ xs. Patterned false kept (lexemes_from 0 false 0 xs) kept told.ls) (append_nil text)
      (subst (λ ls. Patterned false kept (lexemes_from 0 false 0 (text ++ [])) kept ls) (append_nil told.ls) (told.reads.goes [] [] refl Patterned.done)) in
      let patterned : Patterned false kept (lexemes_of text (tokens_of text)) kept told.ls = subst (λ ls. Patterned false kept ls kept told.ls) (sym (are_lexemes text 0 false 0 text refl)) goes in
      let same : numbers_in (unplaced e) ≡ numbers told.ls = ap numbers_in (sym told.same) ∙ sym (query_numbers told.ls told.tree d told.is) in
      let other : Patterned false before (lexemes_of text (tokens_of text)) kept told.ls = anew patterned (raw text) before (subst (λ ns. Follows before ns kept) same follow) in
      let reads = is_read (length text) told.ls told.tree d told.is shallow in (
        (told.tree, Parses.read kept told.ls (Ok told.tree) short patterned reads, told.same),
        (told.tree, Parses.read kept told.ls (Ok told.tree) short other reads, told.same),
      )

  pub again : (text : List ℕ) (before : Kept) {kept : Kept} {answer : Result Expr QueryRefusal} → Parses text before kept answer → (e : Expr) → answer ≡ Ok e → length (canonical kept e) ≤ most_bytes
      → Again before kept e
  again text before (Parses.too_long long) = λ e is short. no_ok _ e is
  again text before (Parses.read kept ls answer fits patterned reads) =
      λ e is short.
      let query = in_grammar (length text) ls e (reads ∙ is) in
      let follow : Follows before (numbers_in (unplaced e)) kept = subst (λ ns. Follows before ns kept) (query_numbers ls e query.0 query.2) (follows patterned (raw text)) in
      of_phrase before kept e query.0 query.1 short follow (phrase_told spelled alone spanned kept query.2 (are_good patterned (raw text)) 0)
