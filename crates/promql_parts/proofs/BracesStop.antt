-- Where the reader of rules in braces stops.
use Rattle.std.proofs.Common.{◌≡◌, ◌⊎◌, ℕ, suc, refl, ap, ◌∙◌, sym, subst, ⊎_elim, Bool, true, false, List, [], ◌∷◌, ◌++◌, append_assoc, append-nil, drop, length, arith}
use Rattle.std.proofs.lemmas.List.Elements.{filter-append}
use Rattle.std.proofs.lemmas.List.Folds.{list_all-append, list_any-append}
use Rattle.std.specs.Prelude.{◌&&◌, ◌||◌, if◌then◌else◌, nat_lt, bytes_eq, filter, map, Option, Some, None, is_some, Err}
use Rattle.std.specs.List.{list_all, list_any}
use Rattle.label_set.specs.declared.rules.Rule.{Rule}
use Rattle.label_set.specs.declared.rules.RuleKind.TheVariants.{Eq}
use Rattle.promql_ast.specs.declared.refusal.QueryRefusal.TheVariants.{Expected}
use Rattle.promql_parts.specs.Labels.{label_of}
use Rattle.promql_parts.specs.Laws.{IsBraced}
use Rattle.promql_parts.specs.Productions.{IsLabel, IsSign, MatcherList, Matchers, OneMatcher}
use Rattle.promql_parts.specs.Reads.{begins, refused, refused_at}
use Rattle.promql_parts.specs.Selectors.{alone_at, braces_at, closed_at, is_empty_text, is_on_name, labelled_at, match_op_at, matcher_at, matcher_kind, matcher_of, matcher_or, matchers_turn, metric_label, named_rules, names_twice, refuses_nothing, rule_behind, rules_of, value_at}
use Rattle.promql_parts.specs.Steps.{chosen, true_false}
use Rattle.promql_parts.specs.Stops.{Begins, BracesStop, IsHopeless, OrHopeless, RuleBegins, StopsAt, is_quoted}
use Rattle.promql_parts.specs.Stopped.{bind_err, no_err, same_err, behind_part, lexeme_of_sign, stops_here}
use Rattle.promql_parts.specs.declared.lexeme.Lexeme.{Lexeme}
use Rattle.promql_parts.specs.declared.lexeme.LexemeKind.{LexemeKind}
use Rattle.promql_parts.specs.declared.lexeme.LexemeKind.TheVariants as kinds
use Rattle.promql_parts.specs.declared.lexeme.Sign.TheVariants.{LeftBrace, RightBrace, Comma, Equal}
use Rattle.promql_parts.specs.declared.selector.MatchOp.{MatchOp}
use Rattle.promql_parts.specs.declared.selector.MatchOp.TheVariants as ops
use Rattle.promql_parts.specs.declared.selector.Matcher.{Matcher}
use Rattle.promql_parts.proofs.Lists.{Before, added, turns_found}
use Rattle.promql_parts.proofs.MatchersFound.{longer, matcher_found, op_begins, op_sign}
use Rattle.promql_parts.proofs.Stopping.{Open, list_stops}

single : (xs : List Lexeme) (m : Matcher) → OneMatcher xs m → MatcherList xs (m ∷ [])
single xs m one = MatcherList.one one

-- what is read of a rule that isn't read whole: nothing, or a label and maybe a sign, which a value ends; or a name without a letter
data RuleBegun : List Lexeme → Type 0 where
  nothing : RuleBegun []
  labelled : (l : Lexeme) (label : List ℕ) (ys more : List Lexeme) (m : Matcher) → label_of l.kind ≡ Some label → OneMatcher (l ∷ ys ++ more) m → m.quoted ≡ false → m.rule.label ≡ label
      → RuleBegun (l ∷ ys)
  nameless : (l : Lexeme) → label_of l.kind ≡ Some [] → is_quoted l.kind ≡ false → RuleBegun (l ∷ [])

abbrev quoted_as : LexemeKind → Lexeme
quoted_as kind = record { at = 0; kind = kind }

module _ (l o : Lexeme) (label : List ℕ) (named : IsLabel [] l label) where
  -- behind a label and a sign
  signed_begun : (op : MatchOp) → IsSign (op_sign op) o → RuleBegun (l ∷ o ∷ [])
  signed_begun ops.Equals sign =
      RuleBegun.labelled l label (o ∷ []) (quoted_as (kinds.Quoted []) ∷ []) _ named.named (OneMatcher.equals l o (quoted_as (kinds.Quoted [])) label [] named sign refl) refl refl
  signed_begun ops.Differs sign =
      RuleBegun.labelled l label (o ∷ []) (quoted_as (kinds.Quoted []) ∷ []) _ named.named (OneMatcher.differs l o (quoted_as (kinds.Quoted [])) label [] named sign refl) refl refl
  signed_begun ops.Passes sign =
      RuleBegun.labelled l label (o ∷ []) (quoted_as (kinds.Pattern (record { 0 = 0 }) false) ∷ []) _ named.named
      (OneMatcher.passes l o (quoted_as (kinds.Pattern (record { 0 = 0 }) false)) label (record { 0 = 0 }) false named sign refl) refl refl
  signed_begun ops.Fails sign =
      RuleBegun.labelled l label (o ∷ []) (quoted_as (kinds.Pattern (record { 0 = 0 }) false) ∷ []) _ named.named
      (OneMatcher.fails l o (quoted_as (kinds.Pattern (record { 0 = 0 }) false)) label (record { 0 = 0 }) false named sign refl) refl refl

label_begun : (l : Lexeme) (label : List ℕ) → label_of l.kind ≡ Some label → is_quoted l.kind ≡ false → RuleBegun (l ∷ [])
label_begun l [] named bare = RuleBegun.nameless l named bare
label_begun l (byte ∷ bytes) named bare =
    let equal : Lexeme = lexeme_of_sign Equal in
    let text : Lexeme = quoted_as (kinds.Quoted []) in
    RuleBegun.labelled l (byte ∷ bytes) [] (equal ∷ text ∷ []) _ named
    (OneMatcher.equals l equal text (byte ∷ bytes) [] (record { named = named; some = refl; fresh = refl }) refl refl) refl refl

module _ (end place : ℕ) where
  or_stops : (v : Lexeme) (o : Option Matcher) (vs : List Lexeme) → matcher_or v o vs ≡ Err (Expected place) → refused v ≡ Expected place
  or_stops v None vs read = same_err {A = Matcher × List Lexeme} _ _ read
  or_stops v (Some m) vs read = no_err _ _ read

  value_stops : (label : List ℕ) (op : MatchOp) (ls : List Lexeme) → value_at end label op ls ≡ Err (Expected place) → refused_at end ls ≡ Expected place
  value_stops label op [] read = same_err {A = Matcher × List Lexeme} _ _ read
  value_stops label op (v ∷ vs) read = or_stops v (matcher_kind label op v.kind) vs read

  alone_stops : (k : LexemeKind) (ls : List Lexeme) → alone_at end k ls ≡ Err (Expected place) → refused_at end ls ≡ Expected place
  alone_stops (kinds.Quoted text) ls read = no_err _ _ read
  alone_stops _ ls read = same_err {A = Matcher × List Lexeme} _ _ read

  alone_bare : (k : LexemeKind) (ls : List Lexeme) → alone_at end k ls ≡ Err (Expected place) → is_quoted k ≡ false
  alone_bare (kinds.Quoted text) ls read = no_err _ _ read
  alone_bare _ ls read = refl

  rule_stops : (l : Lexeme) (label : List ℕ) → label_of l.kind ≡ Some label → (ls : List Lexeme) (o : Option MatchOp) → match_op_at ls ≡ o → rule_behind end l label o ls ≡ Err (Expected place)
      → StopsAt end place RuleBegun (l ∷ ls)
  rule_stops l label named ls None is read = record { front = l ∷ []; back = ls; split = refl; there = alone_stops l.kind ls read; begun = label_begun l label named (alone_bare l.kind ls read) }
  rule_stops l label named ls (Some op) is read =
      ⊎_elim (λ p. let e = same_err {A = Matcher × List Lexeme} _ _ p.1 in absurd (cc e))
      (λ p.
      let o = op_begins end ls op is in
      record {
        front = l ∷ o.0 ∷ [];
        back = drop 1 ls;
        split = ap (λ x. l ∷ x) o.1;
        there = value_stops label op (drop 1 ls) p.1;
        begun = signed_begun l o.0 label (record { named = named; some = p.0; fresh = refl }) op o.2;
      })
      (chosen (is_empty_text label) _ _ _ read)

  labelled_stops : (l : Lexeme) (o : Option (List ℕ)) → label_of l.kind ≡ o → (ls : List Lexeme) → labelled_at end l o ls ≡ Err (Expected place) → StopsAt end place RuleBegun (l ∷ ls)
  labelled_stops l None is ls read = stops_here end place RuleBegun (l ∷ ls) (same_err {A = Matcher × List Lexeme} _ _ read) RuleBegun.nothing
  labelled_stops l (Some label) is ls read = rule_stops l label is ls (match_op_at ls) refl read

  matcher_stops : (ls : List Lexeme) → matcher_at end ls ≡ Err (Expected place) → StopsAt end place RuleBegun ls
  matcher_stops [] read = stops_here end place RuleBegun [] (same_err {A = Matcher × List Lexeme} _ _ read) RuleBegun.nothing
  matcher_stops (l ∷ ls) read = labelled_stops l (label_of l.kind) refl ls read

-- ---- a last rule that passes no empty text and is on no name: b="c"
abbrev last_label : Lexeme
last_label = quoted_as (kinds.Name (98 ∷ []))

abbrev last_lexemes : List Lexeme
last_lexemes = last_label ∷ lexeme_of_sign Equal ∷ quoted_as (kinds.Quoted (99 ∷ [])) ∷ []

abbrev last_matcher : Matcher
last_matcher = matcher_of (98 ∷ []) (Eq (99 ∷ [])) false false

last_is : OneMatcher last_lexemes last_matcher
last_is =
    OneMatcher.equals last_label (lexeme_of_sign Equal) (quoted_as (kinds.Quoted (99 ∷ []))) (98 ∷ []) (99 ∷ []) (record { named = refl; some = refl; fresh = refl }) refl refl

and_false : (x : Bool) → (x && false) ≡ false
and_false true = refl
and_false false = refl

once_more : (named on two other : Bool) → ((named && on) || two) ≡ false → (named && other) ≡ false → ((named && (on || (other || false))) || two) ≡ false
once_more false on two other is off = is
once_more true true two other is off = true_false is
once_more true false two true is off = true_false off
once_more true false two false is off = is

unquoted : (m : Matcher) → m.quoted ≡ false → filter (λ (x : Matcher). x.quoted) (m ∷ []) ≡ []
unquoted m is = ap (λ b. if b then m ∷ [] else []) is

-- a rule without quotes that is on no name, or on one that stands alone
names_once : (named : Bool) (ms : List Matcher) (m : Matcher) → names_twice named ms ≡ false → m.quoted ≡ false → (named && is_on_name m) ≡ false → names_twice named (ms ++ m ∷ []) ≡ false
names_once named ms m once plain off =
    let quoted : filter (λ (x : Matcher). x.quoted) (ms ++ m ∷ []) ≡ filter (λ (x : Matcher). x.quoted) ms =
    filter-append (λ (x : Matcher). x.quoted) ms (m ∷ []) ∙ ap (λ z. filter (λ (x : Matcher). x.quoted) ms ++ z) (unquoted m plain) ∙ append-nil (filter (λ (x : Matcher). x.quoted) ms) in
    ap (λ b. (named && b) || nat_lt 1 (length (filter (λ (x : Matcher). x.quoted) (ms ++ m ∷ [])))) (list_any-append is_on_name ms (m ∷ []))
    ∙ ap (λ z. (named && (list_any is_on_name ms || (is_on_name m || false))) || nat_lt 1 (length z)) quoted
    ∙ once_more named (list_any is_on_name ms) (nat_lt 1 (length (filter (λ (x : Matcher). x.quoted) ms))) (is_on_name m) once off

both_true : (x y : Bool) → (x && y) ≡ true → (x ≡ true) × (y ≡ true)
both_true true y is = (refl, is)
both_true false y is = true_false (sym is)

rule_begins : {xs : List Lexeme} {ms : List Matcher} → Before MatcherList xs ms → RuleBegins xs
rule_begins Before.start = RuleBegins.first
rule_begins (Before.behind c list comma split) = RuleBegins.next c list comma split

module _ (name : Option (List ℕ)) (begin : Lexeme) (opens : IsSign LeftBrace begin) where
  abbrev Closes : List Lexeme → Type 0
  Closes = Begins (IsBraced begin name)

  abbrev close : Lexeme
  close = lexeme_of_sign RightBrace

  -- with a last rule, which refuses the empty text
  closes_so : (front more : List Lexeme) (ms : List Matcher) → MatcherList (front ++ more) (ms ++ last_matcher ∷ []) → names_twice (is_some name) ms ≡ false → Closes front
  closes_so front more ms list once = (
    more ++ close ∷ [],
    named_rules name ++ map (λ (m : Matcher). m.rule) (ms ++ last_matcher ∷ []),
    (
      ms ++ last_matcher ∷ [],
      Matchers.listed begin close opens list refl (ap (λ z. begin ∷ z) (sym (append_assoc front more (close ∷ [])))),
      record {
        some =
            ap (λ b. refuses_nothing name && b) (list_all-append (λ (m : Matcher). m.passes_empty) ms (last_matcher ∷ []) ∙ and_false (list_all (λ (m : Matcher). m.passes_empty) ms))
            ∙ and_false (refuses_nothing name);
        once = names_once (is_some name) ms last_matcher once refl (and_false (is_some name));
        all = refl;
      },
    ),
  )

  -- behind rules
  behind_rules : (front more : List Lexeme) (ms : List Matcher) → MatcherList (front ++ more) ms → names_twice (is_some name) ms ≡ false → Closes front
  behind_rules front more ms list once =
      let comma : Lexeme = lexeme_of_sign Comma in
      closes_so front (more ++ comma ∷ last_lexemes) ms (MatcherList.more comma list refl last_is (sym (append_assoc front more (comma ∷ last_lexemes)))) once

  never_twice : (named : Bool) → names_twice named [] ≡ false
  never_twice true = refl
  never_twice false = refl

  -- the rules before one that is begun
  rules_before : {xs : List Lexeme} {ms : List Matcher} → Before MatcherList xs ms → (ys : List Lexeme) → names_twice (is_some name) ms ≡ true → IsHopeless (is_some name) (xs ++ ys)
  rules_before Before.start ys twice = true_false (sym twice ∙ never_twice (is_some name))
  rules_before (Before.behind {xs = zs} c list comma split) ys twice =
      IsHopeless.named_twice (c ∷ ys) list twice (ap (λ z. z ++ ys) split ∙ append_assoc zs (c ∷ []) ys)

  nothing_begun : {xs : List Lexeme} {ms : List Matcher} → Before MatcherList xs ms → names_twice (is_some name) ms ≡ false → Closes xs
  nothing_begun Before.start once = closes_so [] last_lexemes [] (MatcherList.one last_is) once
  nothing_begun (Before.behind {us = us} {xs = zs} {items = ms} c list comma split) once =
      closes_so us last_lexemes ms (MatcherList.more c list comma last_is (ap (λ z. z ++ last_lexemes) split ∙ append_assoc zs (c ∷ []) last_lexemes)) once

  rule_ends : {xs ys : List Lexeme} {ms : List Matcher} → Before MatcherList xs ms → RuleBegun ys → names_twice (is_some name) ms ≡ false → OrHopeless (is_some name) Closes (xs ++ ys)
  rule_ends {xs = xs} before RuleBegun.nothing once = OrHopeless.begins (subst Closes (sym (append-nil xs)) (nothing_begun before once))
  rule_ends {xs = xs} {ms = ms} before (RuleBegun.labelled l label ys more m named one plain so) once =
      ⊎_elim
      (λ p.
      let both = both_true (is_some name) (is_on_name m) p.0 in
      OrHopeless.hopeless (IsHopeless.named_again l label ys both.0 (rule_begins before) named (ap (λ z. bytes_eq z metric_label) (sym so) ∙ both.1) refl))
      (λ p.
      OrHopeless.begins
      (behind_rules (xs ++ l ∷ ys) more (ms ++ m ∷ [])
      (subst (λ z. MatcherList z (ms ++ m ∷ [])) (sym (append_assoc xs (l ∷ ys) more)) (added OneMatcher MatcherList single longer before (l ∷ ys ++ more) m one))
      (names_once (is_some name) ms m once plain p.0)))
      (chosen (is_some name && is_on_name m) true false _ refl)
  rule_ends before (RuleBegun.nameless l named bare) once = OrHopeless.hopeless (IsHopeless.nameless l (rule_begins before) named bare refl)

  braces_end : (front : List Lexeme) → Open MatcherList RuleBegun front → OrHopeless (is_some name) Closes front
  braces_end front (Open.within {xs = xs} {ys = ys} {items = ms} before begun split) =
      subst (OrHopeless (is_some name) Closes) (sym split)
      (⊎_elim (λ p. OrHopeless.hopeless (rules_before before ys p.0)) (λ p. rule_ends before begun p.0) (chosen (names_twice (is_some name) ms) true false _ refl))
  braces_end front (Open.behind {items = ms} list) =
      ⊎_elim (λ p. OrHopeless.hopeless (IsHopeless.named_twice [] list p.0 (sym (append-nil front))))
      (λ p. OrHopeless.begins (behind_rules front [] ms (subst (λ z. MatcherList z ms) (sym (append-nil front)) list) p.0)) (chosen (names_twice (is_some name) ms) true false _ refl)

rules_go_on : {Goal : Type 0} (place at : ℕ) (name : Option (List ℕ)) (ms : List Matcher) → rules_of at name ms ≡ Err (Expected place) → Goal
rules_go_on place at name ms read =
    ⊎_elim (λ p. let e = same_err {A = List Rule} _ _ p.1 in absurd (cc e))
    (λ p. ⊎_elim (λ q. let e = same_err {A = List Rule} _ _ q.1 in absurd (cc e)) (λ q. no_err _ _ q.1) (chosen (names_twice (is_some name) ms) _ _ _ p.1))
    (chosen (refuses_nothing name && list_all (λ m. m.passes_empty) ms) _ _ _ read)

closed_goes_on : {Goal : Type 0} (end place : ℕ) (name : Option (List ℕ)) (ms : List Matcher) (ls : List Lexeme) → begins RightBrace ls ≡ true → closed_at end name ms ls ≡ Err (Expected place) → Goal
closed_goes_on end place name ms [] closes read = true_false (sym closes)
closed_goes_on end place name ms (l ∷ ls) closes read = ⊎_elim (λ p. rules_go_on place l.at name ms p) (λ p. no_err _ _ p.2) (bind_err (rules_of l.at name ms) _ _ read)

pub braces_stop : BracesStop
unfolding braces_at matchers_turn
braces_stop end name begin opens place ls read =
    ⊎_elim
    (λ p.
    behind_part end place (Open MatcherList RuleBegun) (OrHopeless (is_some name) (Begins (IsBraced begin name))) [] ls ls refl (braces_end name begin opens)
    (list_stops OneMatcher MatcherList single longer end RightBrace (matcher_at end) (matcher_found end) RuleBegun (λ at. matcher_stops end at) place (suc (length ls)) [] [] ls Before.start (omega arith) p))
    (λ p.
    let all = turns_found OneMatcher MatcherList single longer end RightBrace (matcher_at end) (matcher_found end) (suc (length ls)) [] [] ls p.0.0 p.0.1 Before.start (omega arith) p.1 in
    closed_goes_on end place name p.0.0 p.0.1 all.closes p.2)
    (bind_err _ _ _ read)
