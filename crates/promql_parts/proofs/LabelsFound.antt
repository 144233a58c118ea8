-- Labels and groupings that are read are in the grammar.
use Rattle.std.proofs.Common.{◌≡◌, ℕ, suc, refl, ap, ◌∙◌, sym, subst, ⊎_elim, Bool, false, List, [], ◌∷◌, ◌++◌, append_assoc, length, arith}
use Rattle.std.specs.Prelude.{Option, Some, None, Ok}
use Rattle.promql_parts.specs.Labels.{grouping_at, grouping_of, grouping_word, is_among, judged, label_at, label_kind, label_of, labels_at, labels_turn}
use Rattle.promql_parts.specs.Laws.{GroupingsAreGrouped, Sound}
use Rattle.promql_parts.specs.Productions.{Grouped, IsLabel, IsSign, LabelList, Labels}
use Rattle.promql_parts.specs.Selectors.{is_empty_text}
use Rattle.promql_parts.specs.Steps.{after_found, bind_ok, chosen, no_ok, no_some, same_ok, same_some}
use Rattle.promql_parts.specs.declared.lexeme.Lexeme.{Lexeme}
use Rattle.promql_parts.specs.declared.lexeme.LexemeKind.{LexemeKind}
use Rattle.promql_parts.specs.declared.lexeme.LexemeKind.TheVariants as kinds
use Rattle.promql_parts.specs.declared.lexeme.Sign.TheVariants.{LeftParen, RightParen, Comma}
use Rattle.promql_lex.specs.declared.word.Word.TheVariants.{By, Without}
use Rattle.promql_parts.proofs.Lists.{Before, Inside, turns_found}

module _ (taken : List (List ℕ)) where
  abbrev pub OneLabel : List Lexeme → List ℕ → Type 0
  OneLabel xs label = (l : Lexeme) × (xs ≡ l ∷ []) × IsLabel taken l label

  pub single : (xs : List Lexeme) (label : List ℕ) → OneLabel xs label → LabelList taken xs (label ∷ [])
  single xs label one = subst (λ z. LabelList taken z (label ∷ [])) (sym one.1) (LabelList.one one.0 label one.2)

  pub longer : (us xs ys : List Lexeme) (labels : List (List ℕ)) (label : List ℕ) (c : Lexeme) → LabelList taken xs labels → IsSign Comma c → OneLabel ys label → us ≡ xs ++ c ∷ ys
      → LabelList taken us (labels ++ label ∷ [])
  longer us xs ys labels label c list comma one split = LabelList.more c one.0 label list comma one.2 (split ∙ ap (λ z. xs ++ c ∷ z) one.1)

  judged_found : (at : ℕ) (label found : List ℕ) → judged taken at label ≡ Ok found → (is_empty_text label ≡ false) × (is_among taken label ≡ false) × (label ≡ found)
  judged_found at [] found read = no_ok _ _ read
  judged_found at (byte ∷ bytes) found read = ⊎_elim (λ p. no_ok _ _ p.1) (λ p. (refl, p.0, same_ok _ _ p.1)) (chosen (is_among taken (byte ∷ bytes)) _ _ _ read)

  kind_found : (l : Lexeme) (o : Option (List ℕ)) → label_of l.kind ≡ o → (label : List ℕ) → label_kind taken l o ≡ Ok label → IsLabel taken l label
  kind_found l None is label read = no_ok _ _ read
  kind_found l (Some x) is label read = let j = judged_found l.at x label read in subst (IsLabel taken l) j.2 (record { named = is; some = j.0; fresh = j.1 })

  module _ (end : ℕ) where
    pub label_found : Sound (label_at taken end) OneLabel
    label_found [] label rest read = no_ok _ _ read
    label_found (l ∷ ls) label rest read =
        let r = bind_ok (label_kind taken l (label_of l.kind)) _ _ read in
        let ends = same_ok _ _ r.2 in
        record {
          front = l ∷ [];
          split = ap (λ x. l ∷ x) (ap (λ x. x.1) ends);
          is = (l, refl, subst (IsLabel taken l) (ap (λ x. x.0) ends) (kind_found l (label_of l.kind) refl r.0 r.1));
        }

    pub in_parens : (begin close : Lexeme) → IsSign LeftParen begin → IsSign RightParen close → {xs : List Lexeme} {labels : List (List ℕ)} → Inside (LabelList taken) xs labels
        → Labels taken (begin ∷ xs ++ close ∷ []) labels
    in_parens begin close opens closes Inside.none = Labels.none begin close opens closes
    in_parens begin close opens closes (Inside.some list) = Labels.listed begin close opens list closes refl
    in_parens begin close opens closes (Inside.comma {us = us} {xs = xs} c list comma split) =
        Labels.last_comma begin c close opens list comma closes (ap (λ z. begin ∷ z ++ close ∷ []) split ∙ ap (λ z. begin ∷ z) (append_assoc xs (c ∷ []) (close ∷ [])))

    pub labels_found : Sound (labels_at taken end) (Labels taken)
    unfolding labels_at labels_turn
    labels_found ls labels rest read =
        let a = bind_ok _ _ _ read in
        let t = bind_ok _ _ _ a.2 in
        let c = bind_ok _ _ _ t.2 in
        let begin = after_found end LeftParen ls a.0 a.1 in
        let close = after_found end RightParen t.0.1 c.0 c.1 in
        let ends = same_ok _ _ c.2 in
        let all = turns_found OneLabel (LabelList taken) single longer end RightParen (label_at taken end) label_found (suc (length a.0)) [] [] a.0 t.0.0 t.0.1 Before.start (omega arith) t.1 in
        record {
          front = begin.0 ∷ all.mid ++ close.0 ∷ [];
          split =
              begin.1
              ∙ ap (λ x. begin.0 ∷ x) (all.split ∙ ap (λ x. all.mid ++ x) (close.1 ∙ ap (λ x. close.0 ∷ x) (ap (λ x. x.1) ends)) ∙ sym (append_assoc all.mid (close.0 ∷ []) rest));
          is = subst (Labels taken (begin.0 ∷ all.mid ++ close.0 ∷ [])) (ap (λ x. x.0) ends) (in_parens begin.0 close.0 begin.2 close.2 all.inside);
        }

pub word_grouped : (l : Lexeme) (k : LexemeKind) → l.kind ≡ k → (without : Bool) → grouping_word k ≡ Some without → {xs : List Lexeme} {labels : List (List ℕ)} → Labels [] xs labels
    → Grouped (l ∷ xs) (grouping_of without labels)
word_grouped l (kinds.Word By spelling) is without word {xs} {labels} list =
    subst (λ w. Grouped (l ∷ xs) (grouping_of w labels)) (same_some _ _ word) (Grouped.by l (spelling, is) list)
word_grouped l (kinds.Word Without spelling) is without word {xs} {labels} list =
    subst (λ w. Grouped (l ∷ xs) (grouping_of w labels)) (same_some _ _ word) (Grouped.without l (spelling, is) list)
word_grouped l _ is without word list = no_some _ word

pub groupings_are_grouped : GroupingsAreGrouped
unfolding grouping_at
groupings_are_grouped end without [] g rest begun read = no_some _ begun
groupings_are_grouped end without (l ∷ ls) g rest begun read =
    let r = bind_ok (labels_at [] end ls) _ _ read in
    let ends = same_ok _ _ r.2 in
    let f = labels_found [] end ls r.0.0 r.0.1 r.1 in
    record {
      front = l ∷ f.front;
      split = ap (λ x. l ∷ x) (f.split ∙ ap (λ x. f.front ++ x) (ap (λ x. x.1) ends));
      is = subst (Grouped (l ∷ f.front)) (ap (λ x. x.0) ends) (word_grouped l l.kind refl without begun f.is);
    }
