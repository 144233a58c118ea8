-- Matchers in braces that are read are in the grammar.
use Rattle.std.proofs.Common.{◌≡◌, ℕ, suc, refl, ap, ◌∙◌, sym, subst, ⊎_elim, true, List, [], ◌∷◌, ◌++◌, append_assoc, drop, length, arith}
use Rattle.std.specs.Prelude.{◌&&◌, Option, Some, None, is_some, Ok}
use Rattle.std.specs.List.{list_all}
use Rattle.label_set.specs.declared.rules.Rule.{Rule}
use Rattle.promql_parts.specs.Labels.{label_of}
use Rattle.promql_parts.specs.Laws.{BracesAreMatchers, Found, Sound}
use Rattle.promql_parts.specs.Productions.{IsLabel, IsSelector, IsSign, MatcherList, Matchers, OneMatcher}
use Rattle.promql_parts.specs.Reads.{begins}
use Rattle.promql_parts.specs.Selectors.{alone_at, braces_at, closed_at, is_empty_text, labelled_at, match_op, match_op_at, matcher_at, matcher_kind, matcher_or, matchers_turn, names_twice, refuses_nothing, rule_behind, rules_of, value_at}
use Rattle.promql_parts.specs.Steps.{begins_found, bind_ok, chosen, no_ok, no_some, same_ok, same_some}
use Rattle.promql_parts.specs.declared.lexeme.Lexeme.{Lexeme}
use Rattle.promql_parts.specs.declared.lexeme.LexemeKind.{LexemeKind}
use Rattle.promql_parts.specs.declared.lexeme.LexemeKind.TheVariants as kinds
use Rattle.promql_parts.specs.declared.lexeme.Sign.{Sign}
use Rattle.promql_parts.specs.declared.lexeme.Sign.TheVariants.{LeftBrace, RightBrace, Comma, Equal, Unequal, Matches, Unmatched}
use Rattle.promql_parts.specs.declared.selector.MatchOp.{MatchOp}
use Rattle.promql_parts.specs.declared.selector.MatchOp.TheVariants as ops
use Rattle.promql_parts.specs.declared.selector.Matcher.{Matcher}
use Rattle.promql_parts.proofs.Lists.{Before, Inside, turns_found}

pub longer : (us xs ys : List Lexeme) (matchers : List Matcher) (m : Matcher) (c : Lexeme) → MatcherList xs matchers → IsSign Comma c → OneMatcher ys m → us ≡ xs ++ c ∷ ys
    → MatcherList us (matchers ++ m ∷ [])
longer us xs ys matchers m c list comma one split = MatcherList.more c list comma one split

abbrev pub op_sign : MatchOp → Sign
op_sign ops.Equals = Equal
op_sign ops.Differs = Unequal
op_sign ops.Passes = Matches
op_sign ops.Fails = Unmatched

op_found : (k : LexemeKind) (op : MatchOp) → match_op k ≡ Some op → k ≡ kinds.Sign (op_sign op)
op_found (kinds.Sign Equal) op is = ap (λ x. kinds.Sign (op_sign x)) (same_some _ _ is)
op_found (kinds.Sign Unequal) op is = ap (λ x. kinds.Sign (op_sign x)) (same_some _ _ is)
op_found (kinds.Sign Matches) op is = ap (λ x. kinds.Sign (op_sign x)) (same_some _ _ is)
op_found (kinds.Sign Unmatched) op is = ap (λ x. kinds.Sign (op_sign x)) (same_some _ _ is)
op_found _ op is = no_some _ is

value_kind : (l o v : Lexeme) (label : List ℕ) → IsLabel [] l label → (op : MatchOp) → IsSign (op_sign op) o → (k : LexemeKind) → v.kind ≡ k → (m : Matcher) → matcher_kind label op k ≡ Some m
    → OneMatcher (l ∷ o ∷ v ∷ []) m
value_kind l o v label named ops.Equals sign (kinds.Quoted text) is m found = subst (OneMatcher (l ∷ o ∷ v ∷ [])) (same_some _ _ found) (OneMatcher.equals l o v label text named sign is)
value_kind l o v label named ops.Differs sign (kinds.Quoted text) is m found = subst (OneMatcher (l ∷ o ∷ v ∷ [])) (same_some _ _ found) (OneMatcher.differs l o v label text named sign is)
value_kind l o v label named ops.Passes sign (kinds.Pattern id empty) is m found = subst (OneMatcher (l ∷ o ∷ v ∷ [])) (same_some _ _ found) (OneMatcher.passes l o v label id empty named sign is)
value_kind l o v label named ops.Fails sign (kinds.Pattern id empty) is m found = subst (OneMatcher (l ∷ o ∷ v ∷ [])) (same_some _ _ found) (OneMatcher.fails l o v label id empty named sign is)
value_kind l o v label named _ sign _ is m found = no_some _ found

or_found : (v : Lexeme) (o : Option Matcher) (vs : List Lexeme) (m : Matcher) (rest : List Lexeme) → matcher_or v o vs ≡ Ok (m, rest) → (o ≡ Some m) × (vs ≡ rest)
or_found v None vs m rest read = no_ok _ _ read
or_found v (Some x) vs m rest read = (ap (λ x. Some x.0) (same_ok _ _ read), ap (λ x. x.1) (same_ok _ _ read))

module _ (end : ℕ) where
  value_found : (l o : Lexeme) (label : List ℕ) → IsLabel [] l label → (op : MatchOp) → IsSign (op_sign op) o → (ls : List Lexeme) (m : Matcher) (rest : List Lexeme)
      → value_at end label op ls ≡ Ok (m, rest) → Found OneMatcher (l ∷ o ∷ ls) m rest
  value_found l o label named op sign [] m rest read = no_ok _ _ read
  value_found l o label named op sign (v ∷ vs) m rest read =
      let p = or_found v (matcher_kind label op v.kind) vs m rest read in
      record { front = l ∷ o ∷ v ∷ []; split = ap (λ x. l ∷ o ∷ v ∷ x) p.1; is = value_kind l o v label named op sign v.kind refl m p.0 }

  alone_found : (l : Lexeme) (k : LexemeKind) → l.kind ≡ k → (ls : List Lexeme) (m : Matcher) (rest : List Lexeme) → alone_at end k ls ≡ Ok (m, rest) → Found OneMatcher (l ∷ ls) m rest
  alone_found l (kinds.Quoted text) is ls m rest read =
      let ends = same_ok _ _ read in
      record { front = l ∷ []; split = ap (λ x. l ∷ x) (ap (λ x. x.1) ends); is = subst (OneMatcher (l ∷ [])) (ap (λ x. x.0) ends) (OneMatcher.quoted_name l text is) }
  alone_found l _ is ls m rest read = no_ok _ _ read

  pub op_begins : (ls : List Lexeme) (op : MatchOp) → match_op_at ls ≡ Some op → (o : Lexeme) × (ls ≡ o ∷ drop 1 ls) × IsSign (op_sign op) o
  op_begins [] op is = no_some _ is
  op_begins (o ∷ ls) op is = (o, refl, op_found o.kind op is)

  moved : (ls us : List Lexeme) (m : Matcher) (rest : List Lexeme) → ls ≡ us → Found OneMatcher us m rest → Found OneMatcher ls m rest
  moved ls us m rest same f = record { front = f.front; split = same ∙ f.split; is = f.is }

  rule_found : (l : Lexeme) (label : List ℕ) → label_of l.kind ≡ Some label → (ls : List Lexeme) (o : Option MatchOp) → match_op_at ls ≡ o → (m : Matcher) (rest : List Lexeme)
      → rule_behind end l label o ls ≡ Ok (m, rest) → Found OneMatcher (l ∷ ls) m rest
  rule_found l label named ls None is m rest read = alone_found l l.kind refl ls m rest read
  rule_found l label named ls (Some op) is m rest read =
      ⊎_elim (λ p. no_ok _ _ p.1)
      (λ p.
      let o = op_begins ls op is in
      moved (l ∷ ls) (l ∷ o.0 ∷ drop 1 ls) m rest (ap (λ x. l ∷ x) o.1)
      (value_found l o.0 label (record { named = named; some = p.0; fresh = refl }) op o.2 (drop 1 ls) m rest p.1))
      (chosen (is_empty_text label) _ _ _ read)

  labelled_found : (l : Lexeme) (o : Option (List ℕ)) → label_of l.kind ≡ o → (ls : List Lexeme) (m : Matcher) (rest : List Lexeme) → labelled_at end l o ls ≡ Ok (m, rest)
      → Found OneMatcher (l ∷ ls) m rest
  labelled_found l None is ls m rest read = no_ok _ _ read
  labelled_found l (Some label) is ls m rest read = rule_found l label is ls (match_op_at ls) refl m rest read

  pub matcher_found : Sound (matcher_at end) OneMatcher
  matcher_found [] m rest read = no_ok _ _ read
  matcher_found (l ∷ ls) m rest read = labelled_found l (label_of l.kind) refl ls m rest read

  pub in_braces : (begin close : Lexeme) → IsSign LeftBrace begin → IsSign RightBrace close → {xs : List Lexeme} {matchers : List Matcher} → Inside MatcherList xs matchers
      → Matchers (begin ∷ xs ++ close ∷ []) matchers
  in_braces begin close opens closes Inside.none = Matchers.none begin close opens closes
  in_braces begin close opens closes (Inside.some list) = Matchers.listed begin close opens list closes refl
  in_braces begin close opens closes (Inside.comma {us = us} {xs = xs} c list comma split) =
      Matchers.last_comma begin c close opens list comma closes (ap (λ z. begin ∷ z ++ close ∷ []) split ∙ ap (λ z. begin ∷ z) (append_assoc xs (c ∷ []) (close ∷ [])))

  rules_found : (at : ℕ) (name : Option (List ℕ)) (matchers : List Matcher) (rules : List Rule) → rules_of at name matchers ≡ Ok rules → IsSelector name matchers rules
  rules_found at name matchers rules read =
      ⊎_elim (λ p. no_ok _ _ p.1)
      (λ p. ⊎_elim (λ q. no_ok _ _ q.1) (λ q. record { some = p.0; once = q.0; all = sym (same_ok _ _ q.1) }) (chosen (names_twice (is_some name) matchers) _ _ _ p.1))
      (chosen (refuses_nothing name && list_all (λ m. m.passes_empty) matchers) _ _ _ read)

  pub record Closed (name : Option (List ℕ)) (matchers : List Matcher) (ls : List Lexeme) (rules : List Rule) (rest : List Lexeme) : Type 0 where
    pub close : Lexeme
    pub split : ls ≡ close ∷ rest
    pub closes : IsSign RightBrace close
    pub is : IsSelector name matchers rules

  closed_found : (name : Option (List ℕ)) (matchers : List Matcher) (ls : List Lexeme) (rules : List Rule) (rest : List Lexeme) → begins RightBrace ls ≡ true
      → closed_at end name matchers ls ≡ Ok (rules, rest) → Closed name matchers ls rules rest
  closed_found name matchers [] rules rest closes read = no_ok _ _ read
  closed_found name matchers (l ∷ ls) rules rest closes read =
      let r = bind_ok (rules_of l.at name matchers) _ _ read in
      let ends = same_ok _ _ r.2 in
      let u = begins_found RightBrace (l ∷ ls) closes in
      record {
        close = u.0;
        split = u.1 ∙ ap (λ x. u.0 ∷ x) (ap (λ x. x.1) ends);
        closes = u.2;
        is = rules_found l.at name matchers rules (r.1 ∙ ap Ok (ap (λ x. x.0) ends));
      }

pub braces_are_matchers : BracesAreMatchers
unfolding braces_at matchers_turn
braces_are_matchers end name begin opens ls rules rest read =
    let t = bind_ok _ _ _ read in
    let all = turns_found OneMatcher MatcherList (λ xs m one. MatcherList.one one) longer end RightBrace (matcher_at end) (matcher_found end) (suc (length ls)) [] [] ls t.0.0 t.0.1 Before.start (omega arith) t.1 in
    let close = closed_found end name t.0.0 t.0.1 rules rest all.closes t.2 in
    record {
      front = all.mid ++ close.close ∷ [];
      split = all.split ∙ ap (λ x. all.mid ++ x) close.split ∙ sym (append_assoc all.mid (close.close ∷ []) rest);
      is = (t.0.0, in_braces end begin close.close opens close.closes all.inside, close.is);
    }
