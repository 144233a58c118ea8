-- Parts of the grammar are read: labels and groupings, matchers, ranges, offsets and times.
use Rattle.std.proofs.Common.{◌≡◌, ◌<◌, ℕ, zero, suc, refl, ap, ◌∙◌, sym, Bool, true, false, cond, List, [], ◌∷◌, ◌++◌, append_assoc, drop, length, arith}
use Rattle.std.proofs.lemmas.Bool.{cond-true, cond-false}
use Rattle.std.specs.Prelude.{◌&&◌, Option, Some, None, is_some, Result, Ok}
use Rattle.std.specs.List.{list_all}
use Rattle.frac_text.specs.Times.{time_limit}
use Rattle.label_set.specs.declared.rules.Rule.{Rule}
use Rattle.promql_ast.specs.declared.refusal.QueryRefusal.{QueryRefusal}
use Rattle.promql_ast.specs.declared.tree.Fixed.{Fixed}
use Rattle.promql_ast.specs.declared.tree.Fixed.TheVariants as fixed
use Rattle.promql_parts.specs.Labels.{grouping_at, grouping_of, grouping_word, is_among, judged, label_at, label_kind, label_of, labels_at, labels_turn}
use Rattle.promql_parts.specs.Laws.{BracedIsRead, BracketsAreRead, GroupedIsRead, OffsetIsRead, TimeIsRead}
use Rattle.promql_parts.specs.Productions.{Grouped, IsAmount, IsLabel, IsLength, IsSelector, IsSign, LabelList, Labels, MatcherList, Matchers, OneMatcher, RangeBrackets, Signed, StepBrackets, TimeBehind}
use Rattle.promql_parts.specs.Reads.{Read, ◌>>=◌, after, all_turns, begins}
use Rattle.promql_parts.specs.Selectors.{alone_at, braces_at, closed_at, is_empty_text, labelled_at, match_op, match_op_at, matcher_at, matcher_kind, matcher_or, matchers_turn, name_matcher, names_twice, refuses_nothing, rule_behind, rules_of}
use Rattle.promql_parts.specs.Signs.{is_sign}
use Rattle.promql_parts.specs.Spans.{amount_at, amount_kind, brackets_at, called_at, instant_at, length_at, minute, ms, positive, preprocessor, preprocessor_at, range_behind, signed_at, step_at, when_at, when_kind}
use Rattle.promql_parts.specs.Steps.{after_read, no_ok, no_some, true_false}
use Rattle.promql_parts.specs.declared.lexeme.Lexeme.{Lexeme}
use Rattle.promql_parts.specs.declared.lexeme.LexemeKind.{LexemeKind}
use Rattle.promql_parts.specs.declared.lexeme.LexemeKind.TheVariants as kinds
use Rattle.promql_parts.specs.declared.lexeme.Sign.{Sign}
use Rattle.promql_parts.specs.declared.lexeme.Sign.TheVariants.{LeftParen, RightParen, RightBrace, RightBracket, Comma, Colon, Plus, Minus}
use Rattle.promql_parts.specs.declared.selector.MatchOp.{MatchOp}
use Rattle.promql_parts.specs.declared.selector.MatchOp.TheVariants as ops
use Rattle.promql_parts.specs.declared.selector.Matcher.{Matcher}
use Rattle.promql_parts.specs.declared.span.Brackets.{Brackets}
use Rattle.promql_parts.specs.declared.span.Brackets.TheVariants as brackets
use Rattle.ticks.specs.declared.moment.Ms.{Ms}
use Rattle.ticks.specs.Durations.{hundred_years}
use Rattle.promql_parts.proofs.Lists.{Inside}
use Rattle.promql_parts.proofs.ListsRead.{ItemsRead, inside_read, longer_read, single_read}
use Rattle.promql_parts.proofs.LabelsFound.{OneLabel, label_found}
use Rattle.promql_parts.proofs.MatchersFound.{matcher_found}

-- ---- labels
label_no_sign : (s : Sign) (k : LexemeKind) (label : List ℕ) → label_of k ≡ Some label → is_sign s k ≡ false
label_no_sign s (kinds.Sign t) label is = no_some _ is
label_no_sign s _ label is = refl

module _ (taken : List (List ℕ)) (end : ℕ) where
  judged_read : (at : ℕ) (label : List ℕ) → is_empty_text label ≡ false → is_among taken label ≡ false → judged taken at label ≡ Ok label
  judged_read at [] some fresh = true_false some
  judged_read at (byte ∷ bytes) some fresh = cond-false (is_among taken (byte ∷ bytes)) _ _ fresh

  label_read : (l : Lexeme) (label : List ℕ) (us : List Lexeme) → IsLabel taken l label → label_at taken end (l ∷ us) ≡ Ok (label, us)
  label_read l label us is =
      ap (λ o. label_kind taken l o >>= λ label. Ok (label, us)) is.named ∙ ap (λ (q : Result (List ℕ) QueryRefusal). q >>= λ label. Ok (label, us)) (judged_read l.at label is.some is.fresh)

  one_read : (xs : List Lexeme) (label : List ℕ) → OneLabel taken xs label → (s : Sign) (u : Lexeme) (us : List Lexeme) → IsSign s u → label_at taken end (xs ++ u ∷ us) ≡ Ok (label, u ∷ us)
  one_read xs label one s u us is = ap (λ z. label_at taken end (z ++ u ∷ us)) one.1 ∙ label_read one.0 label (u ∷ us) one.2

  one_first : (xs : List Lexeme) (label : List ℕ) → OneLabel taken xs label → (us : List Lexeme) → begins RightParen (xs ++ us) ≡ false
  one_first xs label one us = ap (λ z. begins RightParen (z ++ us)) one.1 ∙ label_no_sign RightParen one.0.kind label one.2.named

  abbrev Read_labels : List Lexeme → List (List ℕ) → Type 0
  Read_labels = ItemsRead (OneLabel taken) end RightParen refl (label_at taken end) (label_found taken end) (λ xs x one u us is. one_read xs x one RightParen u us is) (λ xs x one u us is. one_read xs x one Comma u us is) one_first

  list_read : (xs : List Lexeme) (labels : List (List ℕ)) → LabelList taken xs labels → Read_labels xs labels
  list_read xs labels (LabelList.one l label is) =
      single_read (OneLabel taken) end RightParen refl (label_at taken end) (label_found taken end) (λ xs x one u us is. one_read xs x one RightParen u us is) (λ xs x one u us is. one_read xs x one Comma u us is) one_first
      (l ∷ []) label (l, refl, is)
  list_read us labels (LabelList.more {xs = xs} {labels = before} c l label list comma is split) =
      longer_read (OneLabel taken) end RightParen refl (label_at taken end) (label_found taken end) (λ xs x one u us is. one_read xs x one RightParen u us is) (λ xs x one u us is. one_read xs x one Comma u us is) one_first
      us xs (l ∷ []) before label c (list_read xs before list) comma (l, refl, is) split

  parens_read : (begin close : Lexeme) → IsSign LeftParen begin → IsSign RightParen close → {xs : List Lexeme} {labels : List (List ℕ)} → Inside (LabelList taken) xs labels → (us : List Lexeme)
      → labels_at taken end (begin ∷ xs ++ close ∷ us) ≡ Ok (labels, us)
  unfolding labels_at labels_turn
  parens_read begin close opens closes {xs} {labels} inside us =
      ap (λ (q : Result (List Lexeme) QueryRefusal). q >>= λ inside. all_turns (labels_turn taken end) [] inside >>= λ labels. after end RightParen labels.1 >>= λ rest. Ok (labels.0, rest)) (after_read end LeftParen begin (xs ++ close ∷ us) opens)
      ∙ ap (λ (q : Read (List (List ℕ))). q >>= λ labels. after end RightParen labels.1 >>= λ rest. Ok (labels.0, rest))
      (inside_read (OneLabel taken) end RightParen refl (label_at taken end) (label_found taken end) (λ xs x one u us is. one_read xs x one RightParen u us is) (λ xs x one u us is. one_read xs x one Comma u us is) one_first
      list_read inside close us closes)
      ∙ ap (λ (q : Result (List Lexeme) QueryRefusal). q >>= λ rest. Ok (labels, rest)) (after_read end RightParen close us closes)

  pub labels_read : {xs : List Lexeme} {labels : List (List ℕ)} → Labels taken xs labels → (rest : List Lexeme) → labels_at taken end (xs ++ rest) ≡ Ok (labels, rest)
  labels_read (Labels.none begin close opens closes) rest = parens_read begin close opens closes Inside.none rest
  labels_read (Labels.listed {us = us} {xs = xs} begin close opens list closes split) rest =
      ap (λ z. labels_at taken end (z ++ rest)) split ∙ ap (λ z. labels_at taken end (begin ∷ z)) (append_assoc xs (close ∷ []) rest) ∙ parens_read begin close opens closes (Inside.some list) rest
  labels_read (Labels.last_comma {us = us} {xs = xs} begin comma close opens list is_comma closes split) rest =
      ap (λ z. labels_at taken end (z ++ rest)) split ∙ ap (λ z. labels_at taken end (begin ∷ z)) (append_assoc xs (comma ∷ close ∷ []) rest ∙ sym (append_assoc xs (comma ∷ []) (close ∷ rest)))
      ∙ parens_read begin close opens closes (Inside.comma comma list is_comma refl) rest

pub grouped_is_read : GroupedIsRead
unfolding grouping_at
grouped_is_read end xs g (Grouped.by word is list) rest =
    (false, ap grouping_word is.1, ap (λ (q : Read (List (List ℕ))). q >>= λ names. Ok (grouping_of false names.0, names.1)) (labels_read [] end list rest))
grouped_is_read end xs g (Grouped.without word is list) rest =
    (true, ap grouping_word is.1, ap (λ (q : Read (List (List ℕ))). q >>= λ names. Ok (grouping_of true names.0, names.1)) (labels_read [] end list rest))

-- ---- matchers
module _ (end : ℕ) where
  abbrev with_label : Lexeme → List Lexeme → Option (List ℕ) → Read Matcher
  with_label l us o = labelled_at end l o us

  abbrev with_op : Lexeme → List ℕ → List Lexeme → Option MatchOp → Read Matcher
  with_op l label us o = rule_behind end l label o us

  compared_read : (l o v : Lexeme) (label : List ℕ) (op : MatchOp) (k : LexemeKind) (m : Matcher) (us : List Lexeme) → IsLabel [] l label → match_op o.kind ≡ Some op → v.kind ≡ k → matcher_kind label op k ≡ Some m
      → matcher_at end (l ∷ o ∷ v ∷ us) ≡ Ok (m, us)
  compared_read l o v label op k m us is is_op is_value is_matcher =
      ap (with_label l (o ∷ v ∷ us)) is.named ∙ ap (with_op l label (o ∷ v ∷ us)) is_op ∙ cond-false (is_empty_text label) _ _ is.some
      ∙ ap (λ z. matcher_or v z us) (ap (matcher_kind label op) is_value ∙ is_matcher)

  alone_read : (l : Lexeme) (text : List ℕ) (us : List Lexeme) → l.kind ≡ kinds.Quoted text → match_op_at us ≡ None → matcher_at end (l ∷ us) ≡ Ok (name_matcher text true, us)
  alone_read l text us is none =
      ap (λ k. labelled_at end l (label_of k) us) is ∙ ap (with_op l text us) none ∙ ap (λ k. alone_at end k us) is

  matcher_read : (xs : List Lexeme) (m : Matcher) → OneMatcher xs m → (u : Lexeme) (us : List Lexeme) → match_op u.kind ≡ None → matcher_at end (xs ++ u ∷ us) ≡ Ok (m, u ∷ us)
  matcher_read xs m (OneMatcher.equals l o v label text named sign value) u us none = compared_read l o v label ops.Equals (kinds.Quoted text) m (u ∷ us) named (ap match_op sign) value refl
  matcher_read xs m (OneMatcher.differs l o v label text named sign value) u us none = compared_read l o v label ops.Differs (kinds.Quoted text) m (u ∷ us) named (ap match_op sign) value refl
  matcher_read xs m (OneMatcher.passes l o v label id empty named sign value) u us none = compared_read l o v label ops.Passes (kinds.Pattern id empty) m (u ∷ us) named (ap match_op sign) value refl
  matcher_read xs m (OneMatcher.fails l o v label id empty named sign value) u us none = compared_read l o v label ops.Fails (kinds.Pattern id empty) m (u ∷ us) named (ap match_op sign) value refl
  matcher_read xs m (OneMatcher.quoted_name l text is) u us none = alone_read l text (u ∷ us) is none

  matcher_first : (xs : List Lexeme) (m : Matcher) → OneMatcher xs m → (us : List Lexeme) → begins RightBrace (xs ++ us) ≡ false
  matcher_first xs m (OneMatcher.equals l o v label text named sign value) us = label_no_sign RightBrace l.kind label named.named
  matcher_first xs m (OneMatcher.differs l o v label text named sign value) us = label_no_sign RightBrace l.kind label named.named
  matcher_first xs m (OneMatcher.passes l o v label id empty named sign value) us = label_no_sign RightBrace l.kind label named.named
  matcher_first xs m (OneMatcher.fails l o v label id empty named sign value) us = label_no_sign RightBrace l.kind label named.named
  matcher_first xs m (OneMatcher.quoted_name l text is) us = ap (is_sign RightBrace) is

  abbrev Read_matchers : List Lexeme → List Matcher → Type 0
  Read_matchers = ItemsRead OneMatcher end RightBrace refl (matcher_at end) (matcher_found end) (λ xs m one u us is. matcher_read xs m one u us (ap match_op is)) (λ xs m one u us is. matcher_read xs m one u us (ap match_op is)) matcher_first

  matchers_read : (xs : List Lexeme) (matchers : List Matcher) → MatcherList xs matchers → Read_matchers xs matchers
  matchers_read xs matchers (MatcherList.one {m = m} one) =
      single_read OneMatcher end RightBrace refl (matcher_at end) (matcher_found end) (λ xs m one u us is. matcher_read xs m one u us (ap match_op is)) (λ xs m one u us is. matcher_read xs m one u us (ap match_op is)) matcher_first xs m one
  matchers_read us matchers (MatcherList.more {xs = xs} {ys = ys} {matchers = before} {m = m} c list comma one split) =
      longer_read OneMatcher end RightBrace refl (matcher_at end) (matcher_found end) (λ xs m one u us is. matcher_read xs m one u us (ap match_op is)) (λ xs m one u us is. matcher_read xs m one u us (ap match_op is)) matcher_first
      us xs ys before m c (matchers_read xs before list) comma one split

  rules_read : (at : ℕ) (name : Option (List ℕ)) (matchers : List Matcher) (rules : List Rule) → IsSelector name matchers rules → rules_of at name matchers ≡ Ok rules
  rules_read at name matchers rules is =
      cond-false (refuses_nothing name && list_all (λ m. m.passes_empty) matchers) _ _ is.some ∙ cond-false (names_twice (is_some name) matchers) _ _ is.once ∙ ap Ok (sym is.all)

  in_braces : (name : Option (List ℕ)) (close : Lexeme) → IsSign RightBrace close → {xs : List Lexeme} {matchers : List Matcher} {rules : List Rule} → Inside MatcherList xs matchers → IsSelector name matchers rules
      → (us : List Lexeme) → braces_at end name (xs ++ close ∷ us) ≡ Ok (rules, us)
  unfolding braces_at matchers_turn
  in_braces name close closes {xs} {matchers} {rules} inside is us =
      ap (λ (q : Read (List Matcher)). q >>= λ found. closed_at end name found.0 found.1)
      (inside_read OneMatcher end RightBrace refl (matcher_at end) (matcher_found end) (λ xs m one u us is. matcher_read xs m one u us (ap match_op is)) (λ xs m one u us is. matcher_read xs m one u us (ap match_op is)) matcher_first
      matchers_read inside close us closes)
      ∙ ap (λ (q : Result (List Rule) QueryRefusal). q >>= λ rules. Ok (rules, us)) (rules_read close.at name matchers rules is)

  braced_by : (name : Option (List ℕ)) (begin : Lexeme) (xs us : List Lexeme) (matchers : List Matcher) (rules : List Rule) → us ≡ begin ∷ xs → Matchers us matchers → IsSelector name matchers rules
      → (rest : List Lexeme) → braces_at end name (xs ++ rest) ≡ Ok (rules, rest)
  braced_by name begin xs us matchers rules all (Matchers.none first close opens closes) is rest =
      ap (λ z. braces_at end name (drop 1 z ++ rest)) (sym all) ∙ in_braces name close closes Inside.none is rest
  braced_by name begin xs us matchers rules all (Matchers.listed {xs = ys} first close opens list closes split) is rest =
      ap (λ z. braces_at end name (drop 1 z ++ rest)) (sym all ∙ split) ∙ ap (braces_at end name) (append_assoc ys (close ∷ []) rest) ∙ in_braces name close closes (Inside.some list) is rest
  braced_by name begin xs us matchers rules all (Matchers.last_comma {xs = ys} first comma close opens list is_comma closes split) is rest =
      ap (λ z. braces_at end name (drop 1 z ++ rest)) (sym all ∙ split) ∙ ap (braces_at end name) (append_assoc ys (comma ∷ close ∷ []) rest ∙ sym (append_assoc ys (comma ∷ []) (close ∷ rest)))
      ∙ in_braces name close closes (Inside.comma comma list is_comma refl) is rest

pub braced_is_read : BracedIsRead
braced_is_read end name begin xs rules is rest = braced_by end name begin xs (begin ∷ xs) is.0 rules refl is.1 is.2 rest

-- ---- ranges, offsets and times
amount_no_sign : (s : Sign) (most : ℕ) (l : Lexeme) (k : LexemeKind) (n : ℕ) → amount_kind most l k ≡ Ok n → is_sign s k ≡ false
amount_no_sign s most l (kinds.Sign t) n is = no_ok _ _ is
amount_no_sign s most l _ n is = refl

positive_read : (at n : ℕ) → 0 < n → positive at n ≡ Ok (ms false n)
positive_read at zero some = absurd (omega (arith, some))
positive_read at (suc n) some = refl

module _ (end : ℕ) where
  length_read : (l : Lexeme) (length : Ms) (us : List Lexeme) → IsLength l length → length_at end (l ∷ us) ≡ Ok (length, us)
  length_read l length us is =
      ap (λ (q : Result ℕ QueryRefusal). (q >>= positive l.at) >>= λ length. Ok (length, us)) is.amount
      ∙ ap (λ (q : Result Ms QueryRefusal). q >>= λ length. Ok (length, us)) (positive_read l.at is.n is.positive ∙ ap Ok (sym is.is))

  abbrev with_range : Bool → Read Ms → Read Brackets
  with_range plain q = q >>= λ range. range_behind plain end range.0 range.1

  range_read : (l close : Lexeme) (length : Ms) (us : List Lexeme) → IsLength l length → IsSign RightBracket close → brackets_at true end (l ∷ close ∷ us) ≡ Ok (brackets.Range length, us)
  unfolding brackets_at
  range_read l close length us is closes = ap (with_range true) (length_read l length (close ∷ us) is) ∙ cond-true (is_sign RightBracket close.kind) _ _ (ap (is_sign RightBracket) closes)

  and_false : (x y : Bool) → y ≡ false → (x && y) ≡ false
  and_false true y is = is
  and_false false y is = refl

  colon_read : (plain : Bool) (l colon : Lexeme) (length : Ms) (us : List Lexeme) → IsLength l length → IsSign Colon colon → brackets_at plain end (l ∷ colon ∷ us) ≡ step_at end length us
  unfolding brackets_at
  colon_read plain l colon length us is is_colon =
      ap (with_range plain) (length_read l length (colon ∷ us) is)
      ∙ cond-false (plain && is_sign RightBracket colon.kind) _ _ (and_false plain (is_sign RightBracket colon.kind) (ap (is_sign RightBracket) is_colon))
      ∙ ap (λ (q : Result (List Lexeme) QueryRefusal). q >>= λ rest. step_at end length rest) (after_read end Colon colon us is_colon)

  no_step : (length : Ms) (close : Lexeme) (us : List Lexeme) → IsSign RightBracket close → step_at end length (close ∷ us) ≡ Ok (brackets.Steps length minute, us)
  unfolding step_at
  no_step length close us closes = cond-true (is_sign RightBracket close.kind) _ _ (ap (is_sign RightBracket) closes)

  step_read : (length step : Ms) (s close : Lexeme) (us : List Lexeme) → IsLength s step → IsSign RightBracket close → step_at end length (s ∷ close ∷ us) ≡ Ok (brackets.Steps length step, us)
  unfolding step_at
  step_read length step s close us is closes =
      cond-false (is_sign RightBracket s.kind) _ _ (amount_no_sign RightBracket hundred_years s s.kind is.n is.amount)
      ∙ ap (λ (q : Read Ms). q >>= λ step. after end RightBracket step.1 >>= λ rest. Ok (brackets.Steps length step.0, rest)) (length_read s step (close ∷ us) is)
      ∙ ap (λ (q : Result (List Lexeme) QueryRefusal). q >>= λ rest. Ok (brackets.Steps length step, rest)) (after_read end RightBracket close us closes)

  range_by : (begin : Lexeme) (xs us : List Lexeme) (length : Ms) → us ≡ begin ∷ xs → RangeBrackets us length → (rest : List Lexeme) → brackets_at true end (xs ++ rest) ≡ Ok (brackets.Range length, rest)
  range_by begin xs us length all (RangeBrackets.range first l close _ opens is closes) rest = ap (λ z. brackets_at true end (drop 1 z ++ rest)) (sym all) ∙ range_read l close length rest is closes

  steps_by : (plain : Bool) (begin : Lexeme) (xs us : List Lexeme) (length step : Ms) → us ≡ begin ∷ xs → StepBrackets us length step → (rest : List Lexeme)
      → brackets_at plain end (xs ++ rest) ≡ Ok (brackets.Steps length step, rest)
  steps_by plain begin xs us length step all (StepBrackets.without_step first l colon close _ opens is is_colon closes) rest =
      ap (λ z. brackets_at plain end (drop 1 z ++ rest)) (sym all) ∙ colon_read plain l colon length (close ∷ rest) is is_colon ∙ no_step length close rest closes
  steps_by plain begin xs us length step all (StepBrackets.with_step first l colon s close _ _ opens is is_colon is_step closes) rest =
      ap (λ z. brackets_at plain end (drop 1 z ++ rest)) (sym all) ∙ colon_read plain l colon length (s ∷ close ∷ rest) is is_colon ∙ step_read length step s close rest is_step closes

pub brackets_are_read : BracketsAreRead
brackets_are_read end plain begin xs (brackets.Range length) is rest = ap (λ p. brackets_at p end (xs ++ rest)) is.0 ∙ range_by end begin xs (begin ∷ xs) length refl is.1 rest
brackets_are_read end plain begin xs (brackets.Steps length step) is rest = steps_by end plain begin xs (begin ∷ xs) length step refl is rest

module _ (most end : ℕ) where
  amount_read : (l : Lexeme) (n : ℕ) (us : List Lexeme) → IsAmount most l n → amount_at most end (l ∷ us) ≡ Ok (n, us)
  amount_read l n us is = ap (λ (q : Result ℕ QueryRefusal). q >>= λ n. Ok (n, us)) is

  abbrev by_signs : Bool → Bool → List Lexeme → Read Ms
  by_signs minus plus ls = amount_at most end (cond minus (drop 1 ls) (cond plus (drop 1 ls) ls)) >>= λ n. Ok (ms minus n.0, n.1)

  signed_read : {xs : List Lexeme} {time : Ms} → Signed most xs time → (rest : List Lexeme) → signed_at most end (xs ++ rest) ≡ Ok (time, rest)
  unfolding signed_at
  signed_read (Signed.unsigned l n is) rest =
      ap (λ m. by_signs m (is_sign Plus l.kind) (l ∷ rest)) (amount_no_sign Minus most l l.kind n is) ∙ ap (λ p. by_signs false p (l ∷ rest)) (amount_no_sign Plus most l l.kind n is)
      ∙ ap (λ (q : Read ℕ). q >>= λ n. Ok (ms false n.0, n.1)) (amount_read l n rest is)
  signed_read (Signed.plus sign l n plus is) rest =
      ap (λ m. by_signs m (is_sign Plus sign.kind) (sign ∷ l ∷ rest)) (ap (is_sign Minus) plus) ∙ ap (λ p. by_signs false p (sign ∷ l ∷ rest)) (ap (is_sign Plus) plus)
      ∙ ap (λ (q : Read ℕ). q >>= λ n. Ok (ms false n.0, n.1)) (amount_read l n rest is)
  signed_read (Signed.minus sign l n minus is) rest =
      ap (λ m. by_signs m (is_sign Plus sign.kind) (sign ∷ l ∷ rest)) (ap (is_sign Minus) minus) ∙ ap (λ (q : Read ℕ). q >>= λ n. Ok (ms true n.0, n.1)) (amount_read l n rest is)

pub offset_is_read : OffsetIsRead
offset_is_read end xs time is rest = signed_read hundred_years end is rest

module _ (end : ℕ) where
  amount_no_edge : (most : ℕ) (l : Lexeme) (k : LexemeKind) (n : ℕ) → amount_kind most l k ≡ Ok n → preprocessor k ≡ None
  amount_no_edge most l (kinds.Word word spelling) n is = no_ok _ _ is
  amount_no_edge most l _ n is = refl

  signed_no_edge : {most : ℕ} {xs : List Lexeme} {time : Ms} → Signed most xs time → (rest : List Lexeme) → preprocessor_at (xs ++ rest) ≡ None
  signed_no_edge {most = most} (Signed.unsigned l n is) rest = amount_no_edge most l l.kind n is
  signed_no_edge (Signed.plus sign l n plus is) rest = ap preprocessor plus
  signed_no_edge (Signed.minus sign l n minus is) rest = ap preprocessor minus

  edge_read : (time : Fixed) (u begin close : Lexeme) (us : List Lexeme) → IsSign LeftParen begin → IsSign RightParen close → preprocessor u.kind ≡ Some time → when_at end (u ∷ begin ∷ close ∷ us) ≡ Ok (time, us)
  unfolding called_at
  edge_read time u begin close us opens closes is =
      ap (λ o. when_kind end o (u ∷ begin ∷ close ∷ us)) is
      ∙ ap (λ (q : Result (List Lexeme) QueryRefusal). q >>= λ inside. after end RightParen inside >>= λ rest. Ok (time, rest)) (after_read end LeftParen begin (close ∷ us) opens)
      ∙ ap (λ (q : Result (List Lexeme) QueryRefusal). q >>= λ rest. Ok (time, rest)) (after_read end RightParen close us closes)

  instant_read : {xs : List Lexeme} {time : Ms} → Signed time_limit xs time → (rest : List Lexeme) → when_at end (xs ++ rest) ≡ Ok (fixed.At time, rest)
  unfolding instant_at
  instant_read {xs} {time} is rest =
      ap (λ o. when_kind end o (xs ++ rest)) (signed_no_edge is rest) ∙ ap (λ (q : Read Ms). q >>= λ time. Ok (fixed.At time.0, time.1)) (signed_read time_limit end is rest)

  time_by : (sign : Lexeme) (xs us : List Lexeme) (time : Fixed) → us ≡ sign ∷ xs → TimeBehind us time → (rest : List Lexeme) → when_at end (xs ++ rest) ≡ Ok (time, rest)
  time_by sign xs us time all (TimeBehind.time at is_at is) rest = ap (λ z. when_at end (drop 1 z ++ rest)) (sym all) ∙ instant_read is rest
  time_by sign xs us time all (TimeBehind.start at word begin close is_at is opens closes) rest =
      ap (λ z. when_at end (drop 1 z ++ rest)) (sym all) ∙ edge_read fixed.Start word begin close rest opens closes (ap preprocessor is.1)
  time_by sign xs us time all (TimeBehind.end at word begin close is_at is opens closes) rest =
      ap (λ z. when_at end (drop 1 z ++ rest)) (sym all) ∙ edge_read fixed.End word begin close rest opens closes (ap preprocessor is.1)

pub time_is_read : TimeIsRead
time_is_read end sign xs time is rest = time_by end sign xs (sign ∷ xs) time refl is rest
