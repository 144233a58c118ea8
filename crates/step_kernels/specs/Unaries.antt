-- Kernels that are fed one part of a query. (Prometheus querying, "Functions" and "Aggregation operators": the rules are those
-- of the kernels.)
use Rattle.std.specs.Prelude.{ℤ, Bool, true, false, not, IsTrue, ⊤}
use Rattle.op_aggregate.specs.Rules.{aggregated_step, is_grouped}
use Rattle.op_element.specs.Rules.{element_step, reads_first}
use Rattle.op_labels.specs.Rules.{HasPatterns, IsMadeBy, Kept, relabelled_step}
use Rattle.op_small.specs.Rules.{small}
use Rattle.op_small.specs.declared.rule.SmallRule.{SmallRule}
use Rattle.op_small.specs.declared.rule.SmallRule.TheVariants as small
use Rattle.step_batch.specs.Lent.{Lent}
use Rattle.step_table.specs.Timed.{StepAt}
use Rattle.step_table.specs.declared.step.Step.{Step}
use Rattle.step_kernels.specs.declared.unary.Unary.{Unary}
use Rattle.step_kernels.specs.declared.unary.Unary.TheVariants as kernel
use Rattle.step_kernels.specs.declared.unary.UnaryRule.{UnaryRule}
use Rattle.step_kernels.specs.declared.unary.UnaryRule.TheVariants.{Small, Apply, Group, Relabel}

-- ---- the rule

-- what a rule makes of the step at an instant; a function of rows reads no scalar
abbrev pub unary_step : Kept → UnaryRule → ℤ → Step → Step
unary_step kept (Small rule) t step = small rule t step
unary_step kept (Apply rule) t step = element_step rule step step step
unary_step kept (Group f by) t step = aggregated_step f by step
unary_step kept (Relabel rule) t step = relabelled_step kept rule step

abbrev pub unary_at : Kept → UnaryRule → StepAt → StepAt
unary_at kept rule s = record { at = s.at; step = unary_step kept rule s.at.0 s.step }

-- a number and the time read the instants alone
abbrev pub reads_rows : SmallRule → Bool
reads_rows (small.Number value) = false
reads_rows small.Time = false
reads_rows rule = true

-- whether a rule reads the rows of one part, and nothing beside them
abbrev pub is_unary : UnaryRule → Bool
is_unary (Small rule) = reads_rows rule
is_unary (Apply rule) = not (reads_first rule)
is_unary (Group f by) = is_grouped f
is_unary (Relabel rule) = true

-- the patterns that a rule names are kept
abbrev pub KeepsPatterns : Kept → UnaryRule → Type 0
KeepsPatterns kept (Relabel rule) = HasPatterns kept rule
KeepsPatterns kept rule = ⊤

-- ---- a kernel

abbrev pub unary_rule : Unary → UnaryRule
unary_rule (kernel.Small k) = Small k.rule
unary_rule (kernel.Elements k) = Apply k.rule
unary_rule (kernel.Groups k) = Group k.f k.by
unary_rule (kernel.Labels k) = Relabel k.rule

-- what is lent
abbrev pub unary_lent : Unary → Lent
unary_lent (kernel.Small k) = k.lent
unary_lent (kernel.Elements k) = k.lent
unary_lent (kernel.Groups k) = k.lent
unary_lent (kernel.Labels k) = k.lent

-- a kernel may be fed with patterns: it reads rows and nothing beside them, and the labels that it keeps were made with these patterns
abbrev pub CanFeedUnary : Kept → Unary → Type 0
CanFeedUnary kept (kernel.Small k) = IsTrue (reads_rows k.rule)
CanFeedUnary kept (kernel.Elements k) = IsTrue (not (reads_first k.rule))
CanFeedUnary kept (kernel.Groups k) = ⊤
CanFeedUnary kept (kernel.Labels k) = HasPatterns kept k.rule × IsMadeBy kept k
