-- Parts lie within the limits.
use Rattle.std.proofs.Common.{◌≡◌, ◌≤◌, ℕ, subst, sym, ⊎_elim, List, [], ◌∷◌, ◌++◌, map, arith}
use Rattle.std.proofs.lemmas.Bool.{ltb-false}
use Rattle.std.proofs.lemmas.Int.{ints}
use Rattle.std.specs.List.{AllByRecursion}
use Rattle.std.specs.Prelude.{nat_lt, unsigned_abs, Option, None, Some, Ok}
use Rattle.frac_text.specs.Times.{milliseconds_of, time_limit}
use Rattle.label_set.specs.declared.rules.Rule.{Rule}
use Rattle.match_rule.specs.Patterns.{HasItsPattern, HaveTheirPatterns}
use Rattle.promql_ast.specs.Parts.{IsAtMost, IsFixedWithin}
use Rattle.promql_ast.specs.declared.tree.Fixed.{Fixed}
use Rattle.holders.specs.Joins.{back_of, both_of, front_of}
use Rattle.promql_parts.specs.Limits.{IsLengthWithin, OffsetsAreWithin, RangesAreWithin, RulesHaveTheirs, StepsAreWithin, TimesAreWithin}
use Rattle.promql_parts.specs.Patterned.{HasPattern, HavePatterns, Kept}
use Rattle.promql_parts.specs.Productions.{IsLength, MatcherList, Matchers, OffsetBehind, OneMatcher, RangeBrackets, Selected, Signed, StepBrackets, TimeBehind}
use Rattle.promql_parts.specs.Selectors.{named_rules}
use Rattle.promql_parts.specs.Spans.{amount_kind, seconds_up_to, up_to}
use Rattle.promql_parts.specs.Steps.{chosen, no_ok, same_ok}
use Rattle.promql_parts.specs.declared.lexeme.Lexeme.{Lexeme}
use Rattle.promql_parts.specs.declared.lexeme.LexemeKind.{LexemeKind}
use Rattle.promql_parts.specs.declared.lexeme.LexemeKind.TheVariants as kinds
use Rattle.promql_parts.specs.declared.selector.Matcher.{Matcher}
use Rattle.ticks.specs.Durations.{hundred_years}
use Rattle.ticks.specs.declared.moment.Ms.{Ms}

-- ---- lengths and times

most_of : (at most n m : ℕ) → up_to at most n ≡ Ok m → m ≤ most
most_of at most n m is = ⊎_elim (λ p. no_ok _ _ p.1) (λ p. subst (λ k. k ≤ most) (same_ok _ _ p.1) (ltb-false most n p.0)) (chosen (nat_lt most n) _ _ _ is)

most_seconds : (at most : ℕ) (n : Option ℕ) (m : ℕ) → seconds_up_to at most n ≡ Ok m → m ≤ most
most_seconds at most None m is = no_ok _ _ is
most_seconds at most (Some n) m is = most_of at most n m is

most_amount : (most : ℕ) (l : Lexeme) (k : LexemeKind) (m : ℕ) → hundred_years ≤ most → amount_kind most l k ≡ Ok m → m ≤ most
most_amount most l (kinds.Duration duration) m le is = let h = most_of l.at hundred_years (unsigned_abs duration.0) m is in omega (arith, h, le)
most_amount most l (kinds.Number value) m le is = most_seconds l.at most (milliseconds_of value) m is
most_amount most l _ m le is = no_ok _ _ is

length_within : (l : Lexeme) (length : Ms) → IsLength l length → IsLengthWithin length
length_within l length is =
    let most = most_amount hundred_years l l.kind is.n (omega arith) is.amount in
    let some = is.positive in
    subst IsLengthWithin (sym is.is) ((omega (arith, ints, some), omega (arith, ints, most)))

signed_within : (most : ℕ) → hundred_years ≤ most → {us : List Lexeme} {time : Ms} → Signed most us time → IsAtMost most time
signed_within most le (Signed.unsigned l n is) = let h = most_amount most l l.kind n le is in (omega (arith, ints), omega (arith, ints, h))
signed_within most le (Signed.plus sign l n is_sign is) = let h = most_amount most l l.kind n le is in (omega (arith, ints), omega (arith, ints, h))
signed_within most le (Signed.minus sign l n is_sign is) = let h = most_amount most l l.kind n le is in (omega (arith, ints, h), omega (arith, ints))

range_within : {us : List Lexeme} {range : Ms} → RangeBrackets us range → IsLengthWithin range
range_within (RangeBrackets.range begin l close range opens is closes) = length_within l range is

steps_within : {us : List Lexeme} {range step : Ms} → StepBrackets us range step → IsLengthWithin range × IsLengthWithin step
steps_within (StepBrackets.without_step begin l colon close range opens is is_colon closes) = (length_within l range is, (omega (arith, ints), omega (arith, ints)))
steps_within (StepBrackets.with_step begin l colon s close range step opens is is_colon is_step closes) = (length_within l range is, length_within s step is_step)

offset_within : {us : List Lexeme} {by : Ms} → OffsetBehind us by → IsAtMost hundred_years by
offset_within (OffsetBehind.offset word is signed) = signed_within hundred_years (omega arith) signed

time_within : {us : List Lexeme} {time : Fixed} → TimeBehind us time → IsFixedWithin time_limit (Some time)
time_within (TimeBehind.time sign is signed) = signed_within time_limit (omega arith) signed
time_within (TimeBehind.start sign word begin close is is_word opens closes) = tt
time_within (TimeBehind.end sign word begin close is is_word opens closes) = tt

pub ranges_are_within : RangesAreWithin
ranges_are_within ls range is = range_within is

pub steps_are_within : StepsAreWithin
steps_are_within ls range step is = steps_within is

pub offsets_are_within : OffsetsAreWithin
offsets_are_within ls by is = offset_within is

pub times_are_within : TimesAreWithin
times_are_within ls time is = time_within is

-- ---- rules

module _ (kept : Kept) where
  abbrev Has : Lexeme → Type 0
  Has l = HasPattern kept l.kind

  abbrev HasRule : Matcher → Type 0
  HasRule m = HasItsPattern kept m.rule.kind

  one_has : {us : List Lexeme} {m : Matcher} → OneMatcher us m → HavePatterns kept us → HasRule m
  one_has (OneMatcher.equals l op v label text is_label is_op is) all = tt
  one_has (OneMatcher.differs l op v label text is_label is_op is) all = tt
  one_has (OneMatcher.passes l op v label id passes_empty is_label is_op is) all = subst (HasPattern kept) is all.1.1.0
  one_has (OneMatcher.fails l op v label id passes_empty is_label is_op is) all = subst (HasPattern kept) is all.1.1.0
  one_has (OneMatcher.quoted_name l text is) all = tt

  list_has : {us : List Lexeme} {matchers : List Matcher} → MatcherList us matchers → HavePatterns kept us → AllByRecursion HasRule matchers
  list_has (MatcherList.one is) all = (one_has is all, tt)
  list_has (MatcherList.more {xs = xs} {ys = ys} {matchers = matchers} {m = m} comma list is_comma is split) all =
      let both = subst (HavePatterns kept) split all in
      both_of HasRule matchers (m ∷ []) (list_has list (front_of Has xs (comma ∷ ys) both)) ((one_has is (back_of Has xs (comma ∷ ys) both).1, tt))

  matchers_have : {us : List Lexeme} {matchers : List Matcher} → Matchers us matchers → HavePatterns kept us → AllByRecursion HasRule matchers
  matchers_have (Matchers.none begin close opens closes) all = tt
  matchers_have (Matchers.listed {xs = xs} begin close opens list closes split) all = list_has list (front_of Has xs (close ∷ []) (subst (HavePatterns kept) split all).1)
  matchers_have (Matchers.last_comma {xs = xs} begin comma close opens list is_comma closes split) all =
      list_has list (front_of Has xs (comma ∷ close ∷ []) (subst (HavePatterns kept) split all).1)

  rules_in : (matchers : List Matcher) → AllByRecursion HasRule matchers → HaveTheirPatterns kept (map (λ m. m.rule) matchers)
  rules_in [] all = tt
  rules_in (m ∷ matchers) all = (all.0, rules_in matchers all.1)

  behind_name : (name : Option (List ℕ)) (rules : List Rule) → HaveTheirPatterns kept rules → HaveTheirPatterns kept (named_rules name ++ rules)
  behind_name None rules all = all
  behind_name (Some name) rules all = (tt, all)

  selected_have : {us : List Lexeme} {at : ℕ} {rules : List Rule} → HavePatterns kept us → Selected us at rules → HaveTheirPatterns kept rules
  selected_have all (Selected.named l name is) = (tt, tt)
  selected_have all (Selected.named_braces {matchers = matchers} l name is list selector) =
      subst (HaveTheirPatterns kept) (sym selector.all) (behind_name (Some name) (map (λ m. m.rule) matchers) (rules_in matchers (matchers_have list all.1)))
  selected_have all (Selected.braces {matchers = matchers} l list selector) =
      subst (HaveTheirPatterns kept) (sym selector.all) (behind_name None (map (λ m. m.rule) matchers) (rules_in matchers (matchers_have list all)))

pub rules_have_theirs : RulesHaveTheirs
rules_have_theirs kept ls at rules all is = selected_have kept all is
