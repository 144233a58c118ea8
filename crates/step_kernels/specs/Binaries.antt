-- Kernels that are fed two parts of a query at the same instants. (Prometheus querying, "Functions" and "Operators": the rules are
-- those of the meaning, that of a ratio is that of plans.)
use Rattle.std.specs.Prelude.{Bool, true, false, List, [], ◌∷◌}
use Rattle.logical_plan.specs.PlanRules.{ratio}
use Rattle.op_element.specs.Rules.{element_step, reads_first}
use Rattle.op_rank.specs.Rules.{is_ranking}
use Rattle.promql_meaning.specs.Buckets.{bucket_quantiles}
use Rattle.promql_meaning.specs.Givens.{with_scalar}
use Rattle.promql_meaning.specs.Meaning.{aggregated_with}
use Rattle.step_batch.specs.Lent.{Lent}
use Rattle.step_table.specs.Matching.{paired}
use Rattle.step_table.specs.Sets.{combined}
use Rattle.step_table.specs.Timed.{StepAt}
use Rattle.step_table.specs.declared.step.Step.{Step}
use Rattle.step_kernels.specs.declared.binary.Binary.{Binary}
use Rattle.step_kernels.specs.declared.binary.Binary.TheVariants as kernel
use Rattle.step_kernels.specs.declared.binary.BinaryRule.{BinaryRule}
use Rattle.step_kernels.specs.declared.binary.BinaryRule.TheVariants.{Apply, Join, Combine, Buckets, Rank, Ratio}

-- ---- the rule

-- what a rule makes of the step of a part and of the step beside it
abbrev pub binary_step : BinaryRule → Step → Step → Step
binary_step (Apply rule) rows beside = element_step rule beside beside rows
binary_step (Join op pairing) rows beside = paired rows beside op pairing
binary_step (Combine op pairing) rows beside = combined rows beside op pairing
binary_step Buckets rows beside = with_scalar bucket_quantiles beside rows
binary_step (Rank f by label) rows beside = aggregated_with f by label beside rows
binary_step Ratio rows beside = ratio rows beside

-- what is lent of what is fed: of each step and the step beside it what the rule makes of them, at the step's instant
abbrev pub binaries : BinaryRule → List StepAt → List StepAt → List StepAt
binaries rule (r ∷ rows) (b ∷ beside) = record { at = r.at; step = binary_step rule r.step b.step } ∷ binaries rule rows beside
binaries rule _ _ = []

-- whether there is a kernel of a rule
abbrev pub is_binary : BinaryRule → Bool
is_binary (Rank f by label) = is_ranking f
is_binary rule = true

-- whether what stands beside the rows is read as a scalar
abbrev pub takes_scalar : BinaryRule → Bool
takes_scalar (Apply rule) = reads_first rule
takes_scalar (Join op pairing) = false
takes_scalar (Combine op pairing) = false
takes_scalar Buckets = true
takes_scalar (Rank f by label) = true
takes_scalar Ratio = false

-- ---- a kernel

abbrev pub binary_rule : Binary → BinaryRule
binary_rule (kernel.Elements k) = Apply k.rule
binary_rule (kernel.Joins k) = Join k.op k.pairing
binary_rule (kernel.Sets k) = Combine k.op k.pairing
binary_rule (kernel.Quantiles k) = Buckets
binary_rule (kernel.Ranks k) = Rank k.rule.f k.rule.by k.rule.label
binary_rule (kernel.Ratios k) = Ratio

-- what is lent
abbrev pub binary_lent : Binary → Lent
binary_lent (kernel.Elements k) = k.lent
binary_lent (kernel.Joins k) = k.lent
binary_lent (kernel.Sets k) = k.lent
binary_lent (kernel.Quantiles k) = k
binary_lent (kernel.Ranks k) = k.lent
binary_lent (kernel.Ratios k) = k
