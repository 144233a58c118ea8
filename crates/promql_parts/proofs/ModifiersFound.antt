-- What is read between an operator and its right side is in the grammar.
use Rattle.std.proofs.Common.{◌≡◌, ℕ, refl, ap, ◌∙◌, sym, subst, ⊎_elim, Bool, true, false, cond, List, [], ◌∷◌, ◌++◌, append_assoc, drop}
use Rattle.std.specs.Prelude.{Option, Some, None, Ok}
use Rattle.label_set.specs.declared.rules.Card.{Card}
use Rattle.label_set.specs.declared.rules.Pairing.{Pairing}
use Rattle.promql_parts.specs.Labels.{labels_at}
use Rattle.promql_parts.specs.Laws.{Found, MatchingsAreModifiers, Sound}
use Rattle.promql_parts.specs.Operators.{extra_at, flag_at, group_at, group_begun, group_kind, group_word, is_comparison, is_flag, is_set_operator, listed_at, matching_at, matching_begun, matching_word, pairing_kind, pairing_of}
use Rattle.promql_parts.specs.Productions.{BinModifier, BoolModifier, begins_labels, GroupModifiers, Labels}
use Rattle.promql_parts.specs.Reads.{begins}
use Rattle.promql_parts.specs.Steps.{bind_ok, chosen, no_ok, no_some, same_ok, true_false}
use Rattle.promql_parts.specs.declared.lexeme.Lexeme.{Lexeme}
use Rattle.promql_parts.specs.declared.lexeme.LexemeKind.{LexemeKind}
use Rattle.promql_parts.specs.declared.lexeme.LexemeKind.TheVariants as kinds
use Rattle.promql_parts.specs.declared.lexeme.Sign.TheVariants.{LeftParen}
use Rattle.promql_lex.specs.declared.word.Word.TheVariants.{Bool as Flag}
use Rattle.promql_parts.specs.declared.operator.BinaryOp.{BinaryOp}
use Rattle.promql_parts.proofs.LabelsFound.{labels_found}

flag_word : (k : LexemeKind) → is_flag k ≡ true → (spelling : List ℕ) × (k ≡ kinds.Word Flag spelling)
flag_word (kinds.Word Flag spelling) is = (spelling, refl)
flag_word _ is = true_false (sym is)

module _ (op : BinaryOp) (end : ℕ) where
  pub flag_found : Sound (flag_at op end) (BoolModifier op)
  flag_found [] flag rest read =
      let ends = same_ok _ _ read in
      record { front = []; split = ap (λ x. x.1) ends; is = subst (BoolModifier op []) (ap (λ x. x.0) ends) BoolModifier.none }
  flag_found (l ∷ ls) flag rest read =
      ⊎_elim
      (λ p. ⊎_elim
      (λ q.
      let ends = same_ok _ _ q.1 in
      record {
        front = l ∷ [];
        split = ap (λ x. l ∷ x) (ap (λ x. x.1) ends);
        is = subst (BoolModifier op (l ∷ [])) (ap (λ x. x.0) ends) (BoolModifier.flag l (flag_word l.kind p.0) q.0);
      })
      (λ q. no_ok _ _ q.1)
      (chosen (is_comparison op) _ _ _ p.1))
      (λ p. let ends = same_ok _ _ p.1 in record { front = []; split = ap (λ x. x.1) ends; is = subst (BoolModifier op []) (ap (λ x. x.0) ends) BoolModifier.none })
      (chosen (is_flag l.kind) _ _ _ read)

  -- the group modifiers in front, and whether they end in a group word, behind which no parenthesis stands
  pub record Paired (ls : List Lexeme) (pairing : Pairing) (rest : List Lexeme) : Type 0 where
    pub bare : Bool
    pub found : Found (λ xs p. GroupModifiers op xs p bare) ls pairing rest
    pub apart : begins_labels bare rest ≡ false

  pub group_begins : (ls : List Lexeme) (card : Card) → group_begun ls ≡ Some card → (u : Lexeme) × (ls ≡ u ∷ drop 1 ls) × (group_word u.kind ≡ Some card)
  group_begins [] card is = no_some _ is
  group_begins (u ∷ ls) card is = (u, refl, is)

  module _ (word : Lexeme) (on : Bool) (is_word : matching_word word.kind ≡ Some on) (xs : List Lexeme) (names : List (List ℕ)) (listed : Labels [] xs names) where
    group_found : (ls : List Lexeme) (card : Card) → group_begun ls ≡ Some card → is_set_operator op ≡ false → (pairing : Pairing) (rest : List Lexeme)
        → group_at on names card end (drop 1 ls) ≡ Ok (pairing, rest) → Paired (word ∷ xs ++ ls) pairing rest
    unfolding group_at extra_at
    group_found ls card begun no_set pairing rest read =
        let r = bind_ok _ _ _ read in
        let ends = same_ok _ _ r.2 in
        let u = group_begins ls card begun in
        ⊎_elim
        (λ p.
        let f = labels_found (cond on names []) end (drop 1 ls) r.0.0 r.0.1 p.1 in
        record {
          bare = false;
          found = record {
            front = word ∷ xs ++ u.0 ∷ f.front;
            split =
                ap (λ x. word ∷ xs ++ x) (u.1 ∙ ap (λ x. u.0 ∷ x) (f.split ∙ ap (λ x. f.front ++ x) (ap (λ x. x.1) ends)))
                ∙ ap (λ x. word ∷ x) (sym (append_assoc xs (u.0 ∷ f.front) rest));
            is = subst (λ p. GroupModifiers op (word ∷ xs ++ u.0 ∷ f.front) p false) (ap (λ x. x.0) ends) (GroupModifiers.grouped_with word u.0 on card is_word listed u.2 no_set f.is refl);
          };
          apart = refl;
        })
        (λ p.
        let none = same_ok _ _ p.1 in
        let same : drop 1 ls ≡ rest = ap (λ x. x.1) none ∙ ap (λ x. x.1) ends in
        record {
          bare = true;
          found = record {
            front = word ∷ xs ++ u.0 ∷ [];
            split = ap (λ x. word ∷ xs ++ x) (u.1 ∙ ap (λ x. u.0 ∷ x) same) ∙ ap (λ x. word ∷ x) (sym (append_assoc xs (u.0 ∷ []) rest));
            is =
                subst (λ p. GroupModifiers op (word ∷ xs ++ u.0 ∷ []) p true) (ap (pairing_of on names card) (ap (λ x. x.0) none) ∙ ap (λ x. x.0) ends)
                (GroupModifiers.grouped word u.0 on card is_word listed u.2 no_set refl);
          };
          apart = ap (begins LeftParen) (sym same) ∙ p.0;
        })
        (chosen (begins LeftParen (drop 1 ls)) _ _ _ r.1)

    kind_found : (ls : List Lexeme) (o : Option Card) → group_begun ls ≡ o → (pairing : Pairing) (rest : List Lexeme) → group_kind op on names o end ls ≡ Ok (pairing, rest)
        → Paired (word ∷ xs ++ ls) pairing rest
    kind_found ls None begun pairing rest read =
        let ends = same_ok _ _ read in
        record {
          bare = false;
          found = record {
            front = word ∷ xs;
            split = ap (λ x. word ∷ xs ++ x) (ap (λ x. x.1) ends);
            is = subst (λ p. GroupModifiers op (word ∷ xs) p false) (ap (λ x. x.0) ends) (GroupModifiers.listed word on is_word listed);
          };
          apart = refl;
        }
    kind_found ls (Some card) begun pairing rest read =
        ⊎_elim (λ p. no_ok _ _ p.1) (λ p. group_found ls card begun p.0 pairing rest p.1) (chosen (is_set_operator op) _ _ _ read)

  pub word_begins : (ls : List Lexeme) (on : Bool) → matching_begun ls ≡ Some on → (u : Lexeme) × (ls ≡ u ∷ drop 1 ls) × (matching_word u.kind ≡ Some on)
  word_begins [] on is = no_some _ is
  word_begins (u ∷ ls) on is = (u, refl, is)

  moved : (ls us : List Lexeme) (pairing : Pairing) (rest : List Lexeme) → ls ≡ us → Paired us pairing rest → Paired ls pairing rest
  moved ls us pairing rest same p = record { bare = p.bare; found = record { front = p.found.front; split = same ∙ p.found.split; is = p.found.is }; apart = p.apart }

  pairing_found : (ls : List Lexeme) (o : Option Bool) → matching_begun ls ≡ o → (pairing : Pairing) (rest : List Lexeme) → pairing_kind op o end ls ≡ Ok (pairing, rest) → Paired ls pairing rest
  unfolding listed_at
  pairing_found ls None begun pairing rest read =
      let ends = same_ok _ _ read in
      record {
        bare = false;
        found = record { front = []; split = ap (λ x. x.1) ends; is = subst (λ p. GroupModifiers op [] p false) (ap (λ x. x.0) ends) GroupModifiers.none };
        apart = refl;
      }
  pairing_found ls (Some on) begun pairing rest read =
      let r = bind_ok (labels_at [] end (drop 1 ls)) _ _ read in
      let f = labels_found [] end (drop 1 ls) r.0.0 r.0.1 r.1 in
      let u = word_begins ls on begun in
      moved ls (u.0 ∷ f.front ++ r.0.1) pairing rest (u.1 ∙ ap (λ x. u.0 ∷ x) f.split) (kind_found u.0 on u.2 f.front r.0.0 f.is r.0.1 (group_begun r.0.1) refl pairing rest r.2)

pub matchings_are_modifiers : MatchingsAreModifiers
unfolding matching_at
matchings_are_modifiers op end ls matching rest read =
    let r = bind_ok (flag_at op end ls) _ _ read in
    let q = bind_ok _ _ _ r.2 in
    let ends = same_ok _ _ q.2 in
    let f = flag_found op end ls r.0.0 r.0.1 r.1 in
    let p = pairing_found op end r.0.1 (matching_begun r.0.1) refl q.0.0 q.0.1 q.1 in
    let same : q.0.1 ≡ rest = ap (λ x. x.1) ends in
    record {
      bare = p.bare;
      found = record {
        front = f.front ++ p.found.front;
        split = f.split ∙ ap (λ x. f.front ++ x) (p.found.split ∙ ap (λ x. p.found.front ++ x) same) ∙ sym (append_assoc f.front p.found.front rest);
        is = subst (λ m. BinModifier op (f.front ++ p.found.front) m p.bare) (ap (λ x. x.0) ends) (BinModifier.modifier f.is p.found.is refl);
      };
      apart = ap (begins_labels p.bare) (sym same) ∙ p.apart;
    }
