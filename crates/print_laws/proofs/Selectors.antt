-- The text of a selector is read as its rules.
use Rattle.std.proofs.Common.{◌≡◌, ◌∙◌, ℕ, ◌+◌, ◌++◌, Bool, true, false, not, List, [], ◌∷◌, length, map, filter, refl, ap, ap₂, sym, subst, codes}
use Rattle.std.specs.Prelude.{◌&&◌, ◌||◌, if◌then◌else◌, nat_lt, Option, Some, None}
use Rattle.std.specs.List.{AllByRecursion, list_all, list_any}
use Rattle.std.specs.Str.{is_utf8}
use Rattle.std.proofs.lemmas.Slice.Eq.{bytes_eq-Decides}
use Rattle.holders.specs.Joins.{back_of, both_of, front_of}
use Rattle.label_set.specs.LabelText.{is_metric_name, quoted}
use Rattle.label_set.specs.declared.rules.PatternId.{PatternId}
use Rattle.label_set.specs.declared.rules.Rule.{Rule}
use Rattle.label_set.specs.declared.rules.RuleKind.{RuleKind}
use Rattle.label_set.specs.declared.rules.RuleKind.TheVariants.{Eq, Ne, Re as Matching, Nre}
use Rattle.match_rule.specs.Patterns.{passes_at, passes_by}
use Rattle.promql_lex.specs.declared.word.Word.TheVariants as words
use Rattle.promql_parts.specs.Labels.{label_of}
use Rattle.promql_parts.specs.Patterned.{Kept}
use Rattle.promql_parts.specs.Productions.{IsLabel, IsSelector, MatcherList, Matchers, OneMatcher, Selected, metric_name}
use Rattle.promql_parts.specs.Selectors.{is_empty_text, is_on_name, matcher_of, metric_label, named_rules, names_twice}
use Rattle.promql_parts.specs.Steps.{no_some, same_some, true_false}
use Rattle.promql_parts.specs.declared.lexeme.Lexeme.{Lexeme}
use Rattle.promql_parts.specs.declared.lexeme.LexemeKind.{LexemeKind}
use Rattle.promql_parts.specs.declared.lexeme.LexemeKind.TheVariants as kinds
use Rattle.promql_parts.specs.declared.lexeme.Sign.TheVariants.{Equal, LeftBrace, Matches, RightBrace, Unequal, Unmatched}
use Rattle.promql_parts.specs.declared.selector.Matcher.{Matcher}
use Rattle.promql_print.specs.Labels.{braced_rules, braces_unless_none, equal_text, front_name, is_bare_name, is_on_metric, kind_text, label_text, name_if, parted, pattern_text, rule_text, rules_text, text_or_empty}
use Rattle.promql_print.specs.Labels.{named_rules as printed_rules}
use Rattle.print_laws.proofs.Bytes.{and_first, and_second, ends_name, not_true, or_none}
use Rattle.print_laws.proofs.Goods.{AreGood, Good, IsSome}
use Rattle.print_laws.proofs.Items.{ItemTold, append_nil, list_told}
use Rattle.print_laws.proofs.Kept.{IsKeptPattern, pattern_again, pattern_text_is}
use Rattle.print_laws.proofs.LabelsRead.{bare_name, label_told}
use Rattle.print_laws.proofs.Lexed.{Reads, always, joined, lexeme, weaker, written}
use Rattle.print_laws.proofs.Marks.{equal, left_brace, name_text, pattern, right_brace, string, unequal}

-- ---- what is known of rules

-- whether a test passes the empty text
abbrev passes_empty : Kept → RuleKind → Bool
passes_empty kept (Eq text) = is_empty_text text
passes_empty kept (Ne text) = not (is_empty_text text)
passes_empty kept (Matching id) = passes_at kept id.0 []
passes_empty kept (Nre id) = not (passes_at kept id.0 [])

abbrev IsGoodKind : Kept → RuleKind → Type 0
IsGoodKind kept (Eq text) = is_utf8 text ≡ true
IsGoodKind kept (Ne text) = is_utf8 text ≡ true
IsGoodKind kept (Matching id) = (passes : Bool) × IsKeptPattern kept id passes
IsGoodKind kept (Nre id) = (passes : Bool) × IsKeptPattern kept id passes

abbrev IsGoodRule : Kept → Rule → Type 0
IsGoodRule kept rule = IsSome rule.label × IsGoodKind kept rule.kind

abbrev rule_passes : Kept → Rule → Bool
rule_passes kept rule = passes_empty kept rule.kind

-- each rule is good, and one refuses the empty text
pub record AreGoodRules (kept : Kept) (rules : List Rule) : Type 0 where
  pub all : AllByRecursion (IsGoodRule kept) rules
  pub some : list_all (rule_passes kept) rules ≡ false

-- ---- they are known of a selector that was read

module _ (kept : Kept) where
  pattern_passes_is : (id : PatternId) (passes : Bool) → IsKeptPattern kept id passes → passes ≡ passes_at kept id.0 []
  pattern_passes_is id passes is = is.told ∙ sym (ap (λ found. passes_by found []) (pattern_text_is kept id passes is))

  abbrev IsGoodMatcher : Matcher → Type 0
  IsGoodMatcher m = IsGoodRule kept m.rule × (m.passes_empty ≡ rule_passes kept m.rule)

  label_good : (kind : LexemeKind) (label : List ℕ) → label_of kind ≡ Some label → is_empty_text label ≡ false → Good kept kind → IsSome label
  label_good (kinds.Name s) label is some good = by_colon (list_any _ s) is where
    by_colon : (t : Bool) → ◌≡◌ {A = Option (List ℕ)} (if t then None else Some s) (Some label) → IsSome label
    by_colon true is = no_some label is
    by_colon false is = subst IsSome (same_some s label is) good
  label_good (kinds.Word w s) label is some good = subst IsSome (same_some s label is) good
  label_good (kinds.Quoted text) label is some good = let same : text ≡ label = same_some text label is in (subst (λ s. is_utf8 s ≡ true) same good, some)
  label_good (kinds.Number value) label is some good = no_some label is
  label_good (kinds.Duration duration) label is some good = no_some label is
  label_good (kinds.Pattern id passes) label is some good = no_some label is
  label_good (kinds.Sign sign) label is some good = no_some label is
  label_good (kinds.Bad refusal) label is some good = no_some label is

  pub good_label : (taken : List (List ℕ)) (l : Lexeme) (label : List ℕ) → IsLabel taken l label → Good kept l.kind → IsSome label
  good_label taken l label is good = label_good l.kind label is.named is.some good

  text_good : (l : Lexeme) (text : List ℕ) → l.kind ≡ kinds.Quoted text → Good kept l.kind → is_utf8 text ≡ true
  text_good l text is good = subst (Good kept) is good

  pattern_good : (l : Lexeme) (id : PatternId) (passes : Bool) → l.kind ≡ kinds.Pattern id passes → Good kept l.kind → IsKeptPattern kept id passes
  pattern_good l id passes is good = subst (Good kept) is good

  metric_some : IsSome metric_label
  metric_some = (name_text metric_label refl, refl)

  matcher_good : {xs : List Lexeme} {m : Matcher} → OneMatcher xs m → AreGood kept xs → IsGoodMatcher m
  matcher_good (OneMatcher.equals l op v label text is sign value) = λ good. ((good_label [] l label is good.0, text_good v text value good.1.1.0), refl)
  matcher_good (OneMatcher.differs l op v label text is sign value) = λ good. ((good_label [] l label is good.0, text_good v text value good.1.1.0), refl)
  matcher_good (OneMatcher.passes l op v label id passes is sign value) =
      λ good. let of = pattern_good v id passes value good.1.1.0 in ((good_label [] l label is good.0, (passes, of)), pattern_passes_is id passes of)
  matcher_good (OneMatcher.fails l op v label id passes is sign value) =
      λ good. let of = pattern_good v id passes value good.1.1.0 in ((good_label [] l label is good.0, (passes, of)), ap not (pattern_passes_is id passes of))
  matcher_good (OneMatcher.quoted_name l text value) = λ good. ((metric_some, text_good l text value good.0), refl)

  abbrev Has : Lexeme → Type 0
  Has l = Good kept l.kind

  pub front_good : (us xs ys : List Lexeme) → us ≡ xs ++ ys → AreGood kept us → AreGood kept xs
  front_good us xs ys split all = front_of Has xs ys (subst (AreGood kept) split all)

  pub back_good : (us xs ys : List Lexeme) → us ≡ xs ++ ys → AreGood kept us → AreGood kept ys
  back_good us xs ys split all = back_of Has xs ys (subst (AreGood kept) split all)

  abbrev AreGoodMatchers : List Matcher → Type 0
  AreGoodMatchers ms = AllByRecursion IsGoodMatcher ms

  matchers_good : {xs : List Lexeme} {ms : List Matcher} → MatcherList xs ms → AreGood kept xs → AreGoodMatchers ms
  matchers_good (MatcherList.one m) = λ good. (matcher_good m good, tt)
  matchers_good (MatcherList.more {us = us} {xs = xs} {ys = ys} {matchers = ms} {m = m} comma list sign one split) =
      λ good. both_of IsGoodMatcher ms (m ∷ []) (matchers_good list (front_good us xs (comma ∷ ys) split good)) (matcher_good one (back_good us xs (comma ∷ ys) split good).1, tt)

  braces_good : {xs : List Lexeme} {ms : List Matcher} → Matchers xs ms → AreGood kept xs → AreGoodMatchers ms
  braces_good (Matchers.none begin close opens closes) = λ good. tt
  braces_good (Matchers.listed {us = us} {xs = xs} begin close opens list closes split) =
      λ good. matchers_good list (front_good (xs ++ close ∷ []) xs (close ∷ []) refl (subst (AreGood kept) split good).1)
  braces_good (Matchers.last_comma {us = us} {xs = xs} begin comma close opens list sign closes split) =
      λ good. matchers_good list (front_good (xs ++ comma ∷ close ∷ []) xs (comma ∷ close ∷ []) refl (subst (AreGood kept) split good).1)

  rules_all : (ms : List Matcher) → AreGoodMatchers ms → AllByRecursion (IsGoodRule kept) (map (λ m. m.rule) ms)
  rules_all [] all = tt
  rules_all (m ∷ ms) all = (all.0.0, rules_all ms all.1)

  passes_all : (ms : List Matcher) → AreGoodMatchers ms → list_all (λ m. m.passes_empty) ms ≡ list_all (rule_passes kept) (map (λ m. m.rule) ms)
  passes_all [] all = refl
  passes_all (m ∷ ms) all = ap₂ (λ s t. s && t) all.0.1 (passes_all ms all.1)

  name_good : (kind : LexemeKind) (name : List ℕ) → metric_name kind ≡ Some name → Good kept kind → IsSome name
  name_good (kinds.Name s) name is good = subst IsSome (same_some s name is) good
  name_good (kinds.Word words.Bool s) name is good = no_some name is
  name_good (kinds.Word words.On s) name is good = no_some name is
  name_good (kinds.Word words.Ignoring s) name is good = no_some name is
  name_good (kinds.Word words.GroupLeft s) name is good = no_some name is
  name_good (kinds.Word words.GroupRight s) name is good = no_some name is
  name_good (kinds.Word words.Atan2 s) name is good = no_some name is
  name_good (kinds.Word words.And s) name is good = subst IsSome (same_some s name is) good
  name_good (kinds.Word words.Or s) name is good = subst IsSome (same_some s name is) good
  name_good (kinds.Word words.Unless s) name is good = subst IsSome (same_some s name is) good
  name_good (kinds.Word words.By s) name is good = subst IsSome (same_some s name is) good
  name_good (kinds.Word words.Without s) name is good = subst IsSome (same_some s name is) good
  name_good (kinds.Word words.Offset s) name is good = subst IsSome (same_some s name is) good
  name_good (kinds.Word words.Start s) name is good = subst IsSome (same_some s name is) good
  name_good (kinds.Word words.End s) name is good = subst IsSome (same_some s name is) good
  name_good (kinds.Word (words.Over f) s) name is good = subst IsSome (same_some s name is) good
  name_good (kinds.Quoted text) name is good = no_some name is
  name_good (kinds.Number value) name is good = no_some name is
  name_good (kinds.Duration duration) name is good = no_some name is
  name_good (kinds.Pattern id passes) name is good = no_some name is
  name_good (kinds.Sign sign) name is good = no_some name is
  name_good (kinds.Bad refusal) name is good = no_some name is

  pub selector_good : {xs : List Lexeme} {at : ℕ} {rules : List Rule} → Selected xs at rules → AreGood kept xs → AreGoodRules kept rules
  selector_good (Selected.named l name is) =
      λ good. let some = name_good l.kind name is good.0 in record { all = ((metric_some, some.0), tt); some = ap (λ t. t && true) some.1 }
  selector_good (Selected.named_braces {matchers = ms} {rules = rules} l name is braces selector) =
      λ good.
      let some = name_good l.kind name is good.0 in
      let all = braces_good braces good.1 in
      record {
        all = subst (AllByRecursion (IsGoodRule kept)) (sym selector.all) ((metric_some, some.0), rules_all ms all);
        some = ap (list_all (rule_passes kept)) selector.all ∙ ap (λ t. is_empty_text name && t) (sym (passes_all ms all)) ∙ selector.some;
      }
  selector_good (Selected.braces {matchers = ms} {rules = rules} l braces selector) =
      λ good.
      let all = braces_good braces good in
      record {
        all = subst (AllByRecursion (IsGoodRule kept)) (sym selector.all) (rules_all ms all);
        some = ap (list_all (rule_passes kept)) selector.all ∙ sym (passes_all ms all) ∙ selector.some;
      }

-- ---- rules that are told

module _ (kept : Kept) where
  abbrev matcher : Rule → Matcher
  matcher rule = matcher_of rule.label rule.kind (rule_passes kept rule) false

  record KindTold (at : ℕ) (kind : RuleKind) : Type 0 where
    sign : Lexeme
    value : Lexeme
    reads : Reads kept always false false at (kind_text kept kind) (sign ∷ value ∷ [])
    is : (l : Lexeme) (label : List ℕ) → IsLabel [] l label → OneMatcher (l ∷ sign ∷ value ∷ []) (matcher_of label kind (passes_empty kept kind) false)

  kept_text : (id : PatternId) (passes : Bool) (front : List ℕ) → (is : IsKeptPattern kept id passes) → front ++ quoted is.text ≡ front ++ quoted (pattern_text kept id)
  kept_text id passes front is = ap (λ found. front ++ quoted (text_or_empty found)) (sym (pattern_text_is kept id passes is))

  kind_told : (at : ℕ) (kind : RuleKind) → IsGoodKind kept kind → KindTold at kind
  kind_told at (Eq text) good = record {
    sign = lexeme at (kinds.Sign Equal);
    value = lexeme (at + 1) (kinds.Quoted text);
    reads = joined (equal at) (string (at + 1) text good) (λ rest ok. refl);
    is = λ l label is. OneMatcher.equals l (lexeme at (kinds.Sign Equal)) (lexeme (at + 1) (kinds.Quoted text)) label text is refl refl;
  }
  kind_told at (Ne text) good = record {
    sign = lexeme at (kinds.Sign Unequal);
    value = lexeme (at + 2) (kinds.Quoted text);
    reads = joined (unequal at) (string (at + 2) text good) (λ rest ok. refl);
    is = λ l label is. OneMatcher.differs l (lexeme at (kinds.Sign Unequal)) (lexeme (at + 2) (kinds.Quoted text)) label text is refl refl;
  }
  kind_told at (Matching id) (passes, of) =
      let v : Lexeme = lexeme (at + 2) (kinds.Pattern id passes) in
      record {
        sign = lexeme at (kinds.Sign Matches);
        value = v;
        reads = written (kept_text id passes (codes "=~") of) (pattern at 61 126 Matches of.text (kinds.Pattern id passes) (λ rest. refl) refl refl refl of.utf8 (pattern_again kept id passes (at + 2) of) refl);
        is = λ l label is.
            subst (λ t. OneMatcher (l ∷ lexeme at (kinds.Sign Matches) ∷ v ∷ []) (matcher_of label (Matching id) t false)) (pattern_passes_is kept id passes of)
            (OneMatcher.passes l (lexeme at (kinds.Sign Matches)) v label id passes is refl refl);
      }
  kind_told at (Nre id) (passes, of) =
      let v : Lexeme = lexeme (at + 2) (kinds.Pattern id passes) in
      record {
        sign = lexeme at (kinds.Sign Unmatched);
        value = v;
        reads = written (kept_text id passes (codes "!~") of) (pattern at 33 126 Unmatched of.text (kinds.Pattern id passes) (λ rest. refl) refl refl refl of.utf8 (pattern_again kept id passes (at + 2) of) refl);
        is = λ l label is.
            subst (λ t. OneMatcher (l ∷ lexeme at (kinds.Sign Unmatched) ∷ v ∷ []) (matcher_of label (Nre id) (not t) false)) (pattern_passes_is kept id passes of)
            (OneMatcher.fails l (lexeme at (kinds.Sign Unmatched)) v label id passes is refl refl);
      }

  abbrev IsRuleList : List Lexeme → List Rule → Type 0
  IsRuleList ls rules = MatcherList ls (map matcher rules)

  map_more : (rules : List Rule) (rule : Rule) → map matcher (rules ++ rule ∷ []) ≡ map matcher rules ++ matcher rule ∷ []
  map_more [] rule = refl
  map_more (other ∷ rules) rule = ap (λ ms. matcher other ∷ ms) (map_more rules rule)

  kind_starts : (kind : RuleKind) (rest : List ℕ) → ends_name (kind_text kept kind ++ rest) ≡ true
  kind_starts (Eq text) rest = refl
  kind_starts (Ne text) rest = refl
  kind_starts (Matching id) rest = refl
  kind_starts (Nre id) rest = refl

  rule_told : (at : ℕ) (rule : Rule) → IsGoodRule kept rule → ItemTold kept IsRuleList (rule_text kept) at rule
  rule_told at rule good =
      let label = label_told at rule.label good.0 in
      let l : Lexeme = lexeme at label.kind in
      let kind = kind_told (at + length (label_text rule.label)) rule.kind good.1 in
      let is : OneMatcher (l ∷ kind.sign ∷ kind.value ∷ []) (matcher rule) = kind.is l rule.label (record { named = label.is; some = good.0.1; fresh = refl }) in
      record {
        ls = l ∷ kind.sign ∷ kind.value ∷ [];
        reads = joined label.reads (weaker (λ rest ok. refl) kind.reads) (λ rest ok. kind_starts rule.kind rest);
        alone = MatcherList.one is;
        behind = λ sign comma xs rules list. subst (MatcherList (xs ++ sign ∷ (l ∷ kind.sign ∷ kind.value ∷ []))) (sym (map_more rules rule)) (MatcherList.more sign list comma is refl);
      }

  record BracesTold (at : ℕ) (rules : List Rule) : Type 0 where
    ls : List Lexeme
    is : Matchers (lexeme at (kinds.Sign LeftBrace) ∷ ls) (map matcher rules)
    reads : Reads kept always false false at (braced_rules kept rules) (lexeme at (kinds.Sign LeftBrace) ∷ ls)

  braces_told : (at : ℕ) (rule : Rule) (rules : List Rule) → IsGoodRule kept rule → AllByRecursion (IsGoodRule kept) rules → BracesTold at (rule ∷ rules)
  braces_told at rule rules one all =
      let told = list_told IsRuleList (rule_text kept) (IsGoodRule kept) rule_told (at + 1) rule rules one all in
      let begin : Lexeme = lexeme at (kinds.Sign LeftBrace) in
      let place : ℕ = at + 1 + length (parted false (map (rule_text kept) (rule ∷ rules))) in
      let close : Lexeme = lexeme place (kinds.Sign RightBrace) in
      record {
        ls = told.ls ++ close ∷ [];
        is = Matchers.listed begin close refl told.is refl refl;
        reads = joined (left_brace at) (joined told.reads (right_brace place) (λ rest ok. refl)) (λ rest ok. refl);
      }

  -- ---- selectors that are told

  all_rules : (rules : List Rule) → rules ≡ map (λ m. m.rule) (map matcher rules)
  all_rules [] = refl
  all_rules (rule ∷ rules) = ap (λ rs. rule ∷ rs) (all_rules rules)

  no_quoted : (rules : List Rule) → filter (λ (m : Matcher). m.quoted) (map matcher rules) ≡ []
  no_quoted [] = refl
  no_quoted (rule ∷ rules) = no_quoted rules

  same_passes : (rules : List Rule) → list_all (λ (m : Matcher). m.passes_empty) (map matcher rules) ≡ list_all (rule_passes kept) rules
  same_passes [] = refl
  same_passes (rule ∷ rules) = ap (λ t. rule_passes kept rule && t) (same_passes rules)

  same_metric : (rules : List Rule) → list_any is_on_name (map matcher rules) ≡ list_any is_on_metric rules
  same_metric [] = refl
  same_metric (rule ∷ rules) = ap (λ t. is_on_metric rule || t) (same_metric rules)

  not_twice : (named : Bool) (rules : List Rule) → (named && list_any is_on_name (map matcher rules)) ≡ false → names_twice named (map matcher rules) ≡ false
  not_twice named rules none = or_none (named && list_any is_on_name (map matcher rules)) _ none (ap (λ (ms : List Matcher). nat_lt 1 (length ms)) (no_quoted rules))

  pub record SelectorTold (at : ℕ) (rules : List Rule) : Type 0 where
    pub ls : List Lexeme
    pub is : Selected ls at rules
    pub reads : Reads kept ends_name false false at (rules_text kept rules) ls

  in_braces : (at : ℕ) (rules : List Rule) → AreGoodRules kept rules → (ls : List Lexeme) × Selected ls at rules × Reads kept ends_name false false at (braced_rules kept rules) ls
  in_braces at [] good = true_false good.some
  in_braces at (rule ∷ rules) good =
      let told = braces_told at rule rules good.all.0 good.all.1 in
      let is : IsSelector None (map matcher (rule ∷ rules)) (rule ∷ rules) =
      record { some = same_passes (rule ∷ rules) ∙ good.some; once = not_twice false (rule ∷ rules) refl; all = all_rules (rule ∷ rules) } in
      (lexeme at (kinds.Sign LeftBrace) ∷ told.ls, Selected.braces (lexeme at (kinds.Sign LeftBrace)) told.is is, weaker (λ rest ok. refl) told.reads)

  some_name : (s : List ℕ) → is_metric_name s ≡ true → is_empty_text s ≡ false
  some_name [] is = true_false (sym is)
  some_name (b ∷ s) is = refl

  behind_name : (at : ℕ) (name : List ℕ) (rules : List Rule) → is_bare_name name ≡ true → list_any is_on_metric rules ≡ false → AllByRecursion (IsGoodRule kept) rules
      → (ls : List Lexeme) × Selected ls at (named_rules (Some name) ++ rules) × Reads kept ends_name false false at (name ++ braces_unless_none kept rules) ls
  behind_name at name [] bare none all =
      (lexeme at (kinds.Name name) ∷ [], Selected.named (lexeme at (kinds.Name name)) name refl, written (sym (append_nil name)) (bare_name at name bare))
  behind_name at name (rule ∷ rules) bare none all =
      let told = braces_told (at + length name) rule rules all.0 all.1 in
      let is : IsSelector (Some name) (map matcher (rule ∷ rules)) (named_rules (Some name) ++ (rule ∷ rules)) =
      record {
        some = ap (λ t. t && list_all (λ (m : Matcher). m.passes_empty) (map matcher (rule ∷ rules))) (some_name name (and_first (is_metric_name name) _ bare));
        once = not_twice true (rule ∷ rules) (same_metric (rule ∷ rules) ∙ none);
        all = ap (λ rs. named_rules (Some name) ++ rs) (all_rules (rule ∷ rules));
      } in (
        lexeme at (kinds.Name name) ∷ (lexeme (at + length name) (kinds.Sign LeftBrace) ∷ told.ls),
        Selected.named_braces (lexeme at (kinds.Name name)) name refl told.is is,
        joined (bare_name at name bare) (weaker (λ rest ok. refl) told.reads) (λ rest ok. refl),
      )

  name_there : (alone : Bool) (o : Option (List ℕ)) (name : List ℕ) → name_if alone o ≡ Some name → (alone ≡ true) × (o ≡ Some name) × (is_bare_name name ≡ true)
  name_there alone None name is = no_some name is
  name_there true (Some s) name is = by_bare (is_bare_name s) refl is where
    by_bare : (t : Bool) → is_bare_name s ≡ t → ◌≡◌ {A = Option (List ℕ)} (if t then Some s else None) (Some name) → (true ≡ true) × (Some s ≡ Some name) × (is_bare_name name ≡ true)
    by_bare true bare is = (refl, is, subst (λ x. is_bare_name x ≡ true) (same_some s name is) bare)
    by_bare false bare is = no_some name is
  name_there false (Some s) name is = no_some name is

  equal_there : (kind : RuleKind) (name : List ℕ) → equal_text kind ≡ Some name → kind ≡ Eq name
  equal_there (Eq s) name is = ap Eq (same_some s name is)
  equal_there (Ne s) name is = no_some name is
  equal_there (Matching id) name is = no_some name is
  equal_there (Nre id) name is = no_some name is

  abbrev Told : ℕ → List Rule → List ℕ → Type 0
  Told at rules text = (ls : List Lexeme) × Selected ls at rules × Reads kept ends_name false false at text ls

  by_front : (at : ℕ) (rule : Rule) (rules : List Rule) (o : Option (List ℕ)) → AreGoodRules kept (rule ∷ rules) → front_name (rule ∷ rules) ≡ o → Told at (rule ∷ rules) (printed_rules kept o (rule ∷ rules))
  by_front at rule rules None good is = in_braces at (rule ∷ rules) good
  by_front at rule rules (Some name) good is =
      let found = name_there (is_on_metric rule && not (list_any is_on_metric rules)) (equal_text rule.kind) name is in
      let label : rule.label ≡ metric_label = (bytes_eq-Decides rule.label metric_label).0 (and_first (is_on_metric rule) _ found.0) in
      let same : named_rules (Some name) ++ rules ≡ rule ∷ rules = ap₂ (λ s k. record { label = s; kind = k } ∷ rules) (sym label) (sym (equal_there rule.kind name found.1)) in
      subst (λ rs. Told at rs (name ++ braces_unless_none kept rules)) same (behind_name at name rules found.2 (not_true (list_any is_on_metric rules) (and_second (is_on_metric rule) _ found.0)) good.all.1)

  pub selector_told : (at : ℕ) (rules : List Rule) → AreGoodRules kept rules → SelectorTold at rules
  selector_told at [] good = true_false good.some
  selector_told at (rule ∷ rules) good = let told = by_front at rule rules (front_name (rule ∷ rules)) good refl in record { ls = told.0; is = told.1; reads = told.2 }
