-- Lists of steps that are made of one part or of two, and their instants.
use Rattle.std.proofs.Common.{◌≡◌, ◌∙◌, List, [], ◌∷◌, length, map, refl, sym, ap}
use Rattle.std.specs.Prelude.{ℤ, IsTrue}
use Rattle.std.proofs.lemmas.List.{length-map}
use Rattle.func_table.specs.declared.table.Element.{Element}
use Rattle.func_table.specs.declared.table.Element.TheVariants.{Clamp}
use Rattle.func_table.specs.declared.table.SetOp.{SetOp}
use Rattle.label_set.specs.declared.rules.Pairing.{Pairing}
use Rattle.op_buckets.specs.Rules.{all_quantiles}
use Rattle.op_element.specs.Rules.{elements, reads_first, reads_second}
use Rattle.op_element.specs.declared.formula.ElementRule.{ElementRule}
use Rattle.op_element.specs.declared.formula.ElementRule.TheVariants as element
use Rattle.op_labels.specs.Rules.{Kept}
use Rattle.op_match.specs.Joins.{AreTogether, instants, joined}
use Rattle.op_rank.specs.Rules.{Ranking, all_ranked}
use Rattle.op_ratio.specs.Ratios.{all_ratios}
use Rattle.op_set.specs.Combining.{all_combined}
use Rattle.op_small.specs.Rules.{smalls}
use Rattle.op_small.specs.declared.rule.SmallRule.{SmallRule}
use Rattle.op_small.specs.declared.rule.SmallRule.TheVariants as small
use Rattle.step_batch.specs.Lent.{Lent, stage_of, stages}
use Rattle.step_batch.specs.declared.steps.PlacedStep.{PlacedStep}
use Rattle.step_table.specs.Groups.{Names}
use Rattle.step_table.specs.Timed.{StepAt, steps_over}
use Rattle.step_table.specs.declared.step.Step.{Step}
use Rattle.ticks.specs.declared.moment.Ms.{Ms}
use Rattle.xfrac.specs.declared.value.PairOp.{PairOp}
use Rattle.step_kernels.specs.Binaries.{binaries, binary_step}
use Rattle.step_kernels.specs.Unaries.{reads_rows, unary_at, unary_step}
use Rattle.step_kernels.specs.declared.binary.BinaryRule.{BinaryRule}
use Rattle.step_kernels.specs.declared.binary.BinaryRule.TheVariants.{Apply, Join, Combine, Buckets, Rank, Ratio}
use Rattle.step_kernels.specs.declared.unary.UnaryRule.{UnaryRule}
use Rattle.step_kernels.specs.declared.unary.UnaryRule.TheVariants as unary

-- ---- one part

pub smalls_are : (kept : Kept) (rule : SmallRule) (rows : List StepAt) → IsTrue (reads_rows rule) → smalls rule [] rows ≡ map (unary_at kept (unary.Small rule)) rows
smalls_are kept (small.Number value) rows h = absurd (cc)
smalls_are kept small.Time rows h = absurd (cc)
smalls_are kept (small.Stamp own) rows h = refl
smalls_are kept small.Scalar rows h = refl
smalls_are kept small.Vector rows h = refl
smalls_are kept (small.Absent labels) rows h = refl

pub elements_alone : (kept : Kept) (rule : ElementRule) (rows : List StepAt) → elements rule rows rows rows ≡ map (unary_at kept (unary.Apply rule)) rows
elements_alone kept rule [] = refl
elements_alone kept rule (r ∷ rows) = ap (λ (ss : List StepAt). unary_at kept (unary.Apply rule) r ∷ ss) (elements_alone kept rule rows)

-- ---- two parts

abbrev made : BinaryRule → StepAt → StepAt → StepAt
made rule r b = record { at = r.at; step = binary_step rule r.step b.step }

pub elements_are : (rule : ElementRule) (rows beside : List StepAt) → elements rule beside beside rows ≡ binaries (Apply rule) rows beside
elements_are rule [] [] = refl
elements_are rule [] (b ∷ beside) = refl
elements_are rule (r ∷ rows) [] = refl
elements_are rule (r ∷ rows) (b ∷ beside) = ap (λ (ss : List StepAt). made (Apply rule) r b ∷ ss) (elements_are rule rows beside)

pub joined_are : (op : PairOp) (p : Pairing) (rows beside : List StepAt) → joined op p rows beside ≡ binaries (Join op p) rows beside
joined_are op p [] beside = refl
joined_are op p (r ∷ rows) [] = refl
joined_are op p (r ∷ rows) (b ∷ beside) = ap (λ (ss : List StepAt). made (Join op p) r b ∷ ss) (joined_are op p rows beside)

pub combined_are : (op : SetOp) (p : Pairing) (rows beside : List StepAt) → all_combined op p rows beside ≡ binaries (Combine op p) rows beside
combined_are op p [] beside = refl
combined_are op p (r ∷ rows) [] = refl
combined_are op p (r ∷ rows) (b ∷ beside) = ap (λ (ss : List StepAt). made (Combine op p) r b ∷ ss) (combined_are op p rows beside)

pub quantiles_are : (rows beside : List StepAt) → all_quantiles beside rows ≡ binaries Buckets rows beside
quantiles_are [] [] = refl
quantiles_are [] (b ∷ beside) = refl
quantiles_are (r ∷ rows) [] = refl
quantiles_are (r ∷ rows) (b ∷ beside) = ap (λ (ss : List StepAt). made Buckets r b ∷ ss) (quantiles_are rows beside)

pub ranked_are : (rule : Ranking) (rows beside : List StepAt) → all_ranked rule beside rows ≡ binaries (Rank rule.f rule.by rule.label) rows beside
ranked_are rule [] [] = refl
ranked_are rule [] (b ∷ beside) = refl
ranked_are rule (r ∷ rows) [] = refl
ranked_are rule (r ∷ rows) (b ∷ beside) = ap (λ (ss : List StepAt). made (Rank rule.f rule.by rule.label) r b ∷ ss) (ranked_are rule rows beside)

pub ratios_are : (rows beside : List StepAt) → all_ratios rows beside ≡ binaries Ratio rows beside
ratios_are [] beside = refl
ratios_are (r ∷ rows) [] = refl
ratios_are (r ∷ rows) (b ∷ beside) = ap (λ (ss : List StepAt). made Ratio r b ∷ ss) (ratios_are rows beside)

-- a rule that reads the second scalar reads the first
pub first_too : (rule : ElementRule) → IsTrue (reads_second rule) → IsTrue (reads_first rule)
first_too (element.Apply f) h = clamps f h
  where
    clamps : (f : Element) → IsTrue (reads_second (element.Apply f)) → IsTrue (reads_first (element.Apply f))
    clamps Clamp h = refl
    clamps f h = absurd (cc)
first_too (element.WithScalar op scalar_left) h = absurd (cc)

-- ---- instants

pub as_many : (rows beside : Lent) → AreTogether rows beside → length beside.steps ≡ length rows.steps
as_many rows beside e =
    sym (length-map beside.steps (λ (s : PlacedStep). s.at)) ∙ ap length (sym e) ∙ length-map rows.steps (λ (s : PlacedStep). s.at)

instants_lent : (labels : List Names) (steps : List PlacedStep) → map (λ (s : StepAt). s.at) (map (stage_of labels) steps) ≡ map (λ (s : PlacedStep). s.at) steps
instants_lent labels [] = refl
instants_lent labels (s ∷ steps) = ap (λ (ts : List Ms). s.at ∷ ts) (instants_lent labels steps)

instants_over : (f : ℤ → Step) (at : List Ms) → map (λ (s : StepAt). s.at) (steps_over f at) ≡ at
instants_over f [] = refl
instants_over f (t ∷ at) = ap (λ (ts : List Ms). t ∷ ts) (instants_over f at)

instants_are : (lent : Lent) (f : ℤ → Step) (at : List Ms) → stages lent ≡ steps_over f at → instants lent ≡ at
instants_are lent f at e = sym (instants_lent lent.labels lent.steps) ∙ ap (map (λ (s : StepAt). s.at)) e ∙ instants_over f at

pub sides_are_together : (rows beside : Lent) (f g : ℤ → Step) (at : List Ms) → stages rows ≡ steps_over f at → stages beside ≡ steps_over g at → AreTogether rows beside
sides_are_together rows beside f g at e h = instants_are rows f at e ∙ sym (instants_are beside g at h)

pub unaries_go_over : (kept : Kept) (rule : UnaryRule) (f : ℤ → Step) (at : List Ms) → map (unary_at kept rule) (steps_over f at) ≡ steps_over (λ t. unary_step kept rule t (f t)) at
unaries_go_over kept rule f [] = refl
unaries_go_over kept rule f (t ∷ at) = ap (λ (ss : List StepAt). record { at = t; step = unary_step kept rule t.0 (f t.0) } ∷ ss) (unaries_go_over kept rule f at)

pub binaries_go_over : (rule : BinaryRule) (f g : ℤ → Step) (at : List Ms) → binaries rule (steps_over f at) (steps_over g at) ≡ steps_over (λ t. binary_step rule (f t) (g t)) at
binaries_go_over rule f g [] = refl
binaries_go_over rule f g (t ∷ at) = ap (λ (ss : List StepAt). record { at = t; step = binary_step rule (f t.0) (g t.0) } ∷ ss) (binaries_go_over rule f g at)
