-- The parts of a query lie within limits: ranges and steps are positive and at most 100 years, offsets are at most 100 years and
-- fixed times at most 10^14 milliseconds from 0, and each rule with a pattern has it kept. (The limits are this project's own.)
use Rattle.std.specs.Prelude.{ℕ, pos, ◌<ℤ◌, ◌≤ℤ◌, List, Some}
use Rattle.frac_text.specs.Times.{time_limit}
use Rattle.label_set.specs.declared.rules.Rule.{Rule}
use Rattle.match_rule.specs.Patterns.{HaveTheirPatterns}
use Rattle.promql_ast.specs.Parts.{IsAtMost, IsFixedWithin}
use Rattle.promql_ast.specs.declared.tree.Fixed.{Fixed}
use Rattle.promql_parts.specs.Patterned.{HavePatterns, Kept}
use Rattle.promql_parts.specs.Productions.{OffsetBehind, RangeBrackets, Selected, StepBrackets, TimeBehind}
use Rattle.promql_parts.specs.declared.lexeme.Lexeme.{Lexeme}
use Rattle.ticks.specs.Durations.{hundred_years}
use Rattle.ticks.specs.declared.moment.Ms.{Ms}

abbrev pub IsLengthWithin : Ms → Type 0
IsLengthWithin length = (pos 0 <ℤ length.0) × (length.0 ≤ℤ pos hundred_years)

abbrev pub RangesAreWithin : Type 0
RangesAreWithin = (ls : List Lexeme) (range : Ms) → RangeBrackets ls range → IsLengthWithin range

abbrev pub StepsAreWithin : Type 0
StepsAreWithin = (ls : List Lexeme) (range step : Ms) → StepBrackets ls range step → IsLengthWithin range × IsLengthWithin step

abbrev pub OffsetsAreWithin : Type 0
OffsetsAreWithin = (ls : List Lexeme) (by : Ms) → OffsetBehind ls by → IsAtMost hundred_years by

abbrev pub TimesAreWithin : Type 0
TimesAreWithin = (ls : List Lexeme) (time : Fixed) → TimeBehind ls time → IsFixedWithin time_limit (Some time)

-- of lexemes that have their patterns
abbrev pub RulesHaveTheirs : Type 0
RulesHaveTheirs = (kept : Kept) (ls : List Lexeme) (at : ℕ) (rules : List Rule) → HavePatterns kept ls → Selected ls at rules → HaveTheirPatterns kept rules
