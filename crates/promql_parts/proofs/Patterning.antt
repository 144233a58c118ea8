-- Patterns in place of strings: what is done so far and what is still to come make the whole.
use Rattle.std.proofs.Common.{◌≡◌, ◌∙◌, ap, refl, sym, subst, ℕ, suc, ◌+◌, ◌<◌, length, map, drop, arith, Bool, true, false, cond, List, [], ◌∷◌, ◌++◌, append_assoc}
use Rattle.std.proofs.Math.ListN.{get_or}
use Rattle.std.proofs.Math.Seq.{drop-cons}
use Rattle.std.proofs.lemmas.List.{append-nil}
use Rattle.std.proofs.lemmas.Option.{slice_get_within}
use Rattle.std.specs.Option.{option_map}
use Rattle.std.specs.Prelude.{Option, None, Some, slice_get}
use Rattle.std.specs.Str.{is_utf8}
use Rattle.match_rule.specs.Gains.{Gains}
use Rattle.match_rule.specs.Patterns.{IsWholeId}
use Rattle.label_set.specs.Entries.{recursion_map}
use Rattle.promql_ast.specs.declared.refusal.QueryRefusal.TheVariants.{BadToken}
use Rattle.promql_lex.specs.declared.token.Token.{Token}
use Rattle.promql_lex.specs.declared.token.TokenKind.{TokenKind}
use Rattle.promql_lex.specs.declared.token.TokenKind.TheVariants as tokens
use Rattle.holders.specs.Joins.{both_of}
use Rattle.promql_parts.specs.Lexemes.{kind_of, lexeme_of, sign_kind, sign_of, spelling_in, word_kind}
use Rattle.promql_lex.specs.Words.{word_of}
use Rattle.promql_parts.specs.Patterned.{Becomes, HasPattern, HavePatterns, Kept, Patterned, is_bad, is_string, takes_pattern}
use Rattle.promql_parts.specs.Patterned.Patterned.{done, last, more}
use Rattle.promql_parts.specs.declared.lexeme.Lexeme.{Lexeme}
use Rattle.promql_parts.specs.declared.lexeme.LexemeKind.{LexemeKind}
use Rattle.promql_parts.specs.declared.lexeme.LexemeKind.TheVariants as kinds
use Rattle.promql_parts.specs.declared.lexeme.Sign.{Sign}
use Rattle.promql_lex.specs.declared.word.Word.{Word}

-- whatever the lexemes that are left become, it stands behind what is found
abbrev pub Leads : Bool → Kept → List Lexeme → Kept → List Lexeme → List Lexeme → Type 0
Leads behind kept ls before all found = (after : Kept) (ms : List Lexeme) → Patterned behind kept ls after ms → Patterned false before all after (found ++ ms)

module _ (behind : Bool) (before kept then : Kept) (all ls rest found grown : List Lexeme) (l m : Lexeme) (leads : Leads behind kept ls before all found)
    (split : ls ≡ l ∷ rest) (becomes : Becomes behind kept l then m) (is : grown ≡ found ++ m ∷ []) where
  pub goes_on : is_bad m.kind ≡ false → Leads (takes_pattern l.kind) then rest before all grown
  goes_on fine after ms later =
      subst (λ x. Patterned false before all after x) (sym (ap (λ x. x ++ ms) is ∙ append_assoc found (m ∷ []) ms))
      (leads after (m ∷ ms) (subst (λ x. Patterned behind kept x after (m ∷ ms)) (sym split) (more l m rest ms then after becomes fine later)))

  pub stops : is_bad m.kind ≡ true → Patterned false before all then grown
  stops bad = subst (λ x. Patterned false before all then x) (sym is) (leads then (m ∷ []) (subst (λ x. Patterned behind kept x then (m ∷ [])) (sym split) (last l m rest then becomes bad)))

pub ends : (behind : Bool) (before kept : Kept) (all ls found : List Lexeme) → Leads behind kept ls before all found → ls ≡ [] → Patterned false before all kept found
ends behind before kept all ls found leads none =
    subst (λ x. Patterned false before all kept x) (append-nil found) (leads kept [] (subst (λ x. Patterned behind kept x kept []) (sym none) done))

pub no_string : (kind : LexemeKind) → ((text : List ℕ) → kind ≡ kinds.Quoted text → ⊥) → is_string kind ≡ false
no_string (kinds.Quoted text) none = absurd (none text refl)
no_string (kinds.Sign sign) none = refl
no_string (kinds.Word word spelling) none = refl
no_string (kinds.Name name) none = refl
no_string (kinds.Number value) none = refl
no_string (kinds.Duration duration) none = refl
no_string (kinds.Pattern id passes_empty) none = refl
no_string (kinds.Bad refusal) none = refl

-- what is left of a list, from an item on
pub from_item : {A B : Type 0} (f : A → B) (xs : List A) (i : ℕ) (d x : A) (y : B) → i < length xs → x ≡ get_or xs i d → y ≡ f x → map f (drop i xs) ≡ y ∷ map f (drop (i + 1) xs)
from_item f xs i d x y less is made =
    let next : suc i ≡ i + 1 = omega arith in
    ap (map f) (drop-cons xs i d less) ∙ ap (λ k. f (get_or xs i d) ∷ map f (drop k xs)) next ∙ ap (λ z. z ∷ map f (drop (i + 1) xs)) (sym (made ∙ ap f is))

-- ---- lexemes that have their patterns

still_whole : (before after : Kept) (id : ℕ) → Gains before after → IsWholeId before id → IsWholeId after id
still_whole before after id gains is = ap (option_map (λ p. p.0)) (gains.earlier id (there (slice_get before id) refl is)) ∙ is
  where
    there : (o : Option (Bool × List ℕ)) → slice_get before id ≡ o → option_map (λ p. p.0) o ≡ Some true → id < length before
    there None at none = absurd (cc)
    there (Some p) at some = slice_get_within before id p at

still_has : (before after : Kept) (k : LexemeKind) → Gains before after → HasPattern before k → HasPattern after k
still_has before after (kinds.Pattern id passes_empty) gains has = still_whole before after id.0 gains has
still_has before after _ gains has = tt

one_more : (before after : Kept) (found grown : List Lexeme) (m : Lexeme) → Gains before after → HavePatterns before found → HasPattern after m.kind → grown ≡ found ++ m ∷ []
    → HavePatterns after grown
one_more before after found grown m gains all has is =
    subst (HavePatterns after) (sym is)
    (both_of (λ l. HasPattern after l.kind) found (m ∷ []) (recursion_map (λ l. HasPattern before l.kind) (λ l. HasPattern after l.kind) (λ l. still_has before after l.kind gains) found all) ((has, tt)))

-- no token is a pattern
token_has : (kept : Kept) (at : ℕ) (spelling : List ℕ) (k : TokenKind) → HasPattern kept (kind_of at spelling k)
token_has kept at spelling tokens.Name = elim (is_utf8 spelling) as (λ b. HasPattern kept (cond b (kinds.Name spelling) (kinds.Bad (BadToken at)))) [ true ↦ tt | false ↦ tt ]
token_has kept at spelling tokens.Word = word_has (word_of spelling)
  where
    word_has : (o : Option Word) → HasPattern kept (word_kind at spelling o)
    word_has None = tt
    word_has (Some word) = elim (is_utf8 spelling) as (λ b. HasPattern kept (cond b (kinds.Word word spelling) (kinds.Bad (BadToken at)))) [ true ↦ tt | false ↦ tt ]
token_has kept at spelling tokens.Sign = sign_has (sign_of spelling)
  where
    sign_has : (o : Option Sign) → HasPattern kept (sign_kind at o)
    sign_has None = tt
    sign_has (Some sign) = tt
token_has kept at spelling (tokens.Number value) = tt
token_has kept at spelling (tokens.Duration duration) = tt
token_has kept at spelling (tokens.Quoted bytes) = tt
token_has kept at spelling (tokens.Bad refusal) = tt

lexed_has : (kept : Kept) (text : List ℕ) (t : Token) (l : Lexeme) → l ≡ lexeme_of text t → HasPattern kept l.kind
lexed_has kept text t l is = subst (λ x. HasPattern kept x.kind) (sym is) (token_has kept t.at (spelling_in text t.at t.end) t.kind)

-- one more lexeme of a token, with its pattern
pub grown_have : (before after : Kept) (text : List ℕ) (t : Token) (found grown : List Lexeme) (l m : Lexeme) → l ≡ lexeme_of text t → (HasPattern before l.kind → HasPattern after m.kind)
    → Gains before after → HavePatterns before found → grown ≡ found ++ m ∷ [] → HavePatterns after grown
grown_have before after text t found grown l m lexed has gains all is = one_more before after found grown m gains all (has (lexed_has before text t l lexed)) is
