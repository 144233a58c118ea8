use Rattle.std.proofs.Common.{◌≡◌, ◌∙◌, Some, ap}
use Rattle.std.specs.Prelude.{◌-ℤ◌, slice_get}
use Rattle.std.specs.List.{filter_map}
use Rattle.std.proofs.lemmas.Result.{IfOk-weaker}
use Rattle.sample_store.specs.Samples.{Names, Samples, later_than}
use Rattle.promql_meaning.specs.Selecting.{fresh_sample, sample_times, sample_values, window}
use Rattle.plain_eval.specs.Numbered.{fresh_until}
use Rattle.plain_eval.specs.declared.selecting.Columns.{Columns}
use Rattle.plain_eval.proofs.Newest.{of_range}
use Rattle.plain_eval.proofs.selecting.samples_at.Goals as goal

pub returns-clause-times : goal.returns-clause-times
returns-clause-times g c =
    let m = c.args.m.0 in
    IfOk-weaker c.fresh_until.result
    (λ (read : Columns). read.times ≡ sample_times (fresh_until m c.seek-cursor.result.rest))
    (λ (read : Columns). (one : Names × Samples) → slice_get c.args.store.now c.args.s ≡ Some one → read.times ≡ sample_times (window c.args.closed m c.args.range.0 one.1))
    (λ read is one there.
    is ∙ ap (λ ss. sample_times (fresh_until m ss)) (c.seek-cursor.ensures.later one there ∙ ap (λ e. later_than e one.1) c.before_range.ensures)
    ∙ ap (λ ss. sample_times (filter_map fresh_sample ss)) (of_range c.args.closed (m -ℤ c.args.range.0) m one.1))
    c.fresh_until.ensures.times

pub returns-clause-values : goal.returns-clause-values
returns-clause-values g c =
    let m = c.args.m.0 in
    IfOk-weaker c.fresh_until.result
    (λ (read : Columns). read.values ≡ sample_values (fresh_until m c.seek-cursor.result.rest))
    (λ (read : Columns). (one : Names × Samples) → slice_get c.args.store.now c.args.s ≡ Some one → read.values ≡ sample_values (window c.args.closed m c.args.range.0 one.1))
    (λ read is one there.
    is ∙ ap (λ ss. sample_values (fresh_until m ss)) (c.seek-cursor.ensures.later one there ∙ ap (λ e. later_than e one.1) c.before_range.ensures)
    ∙ ap (λ ss. sample_values (filter_map fresh_sample ss)) (of_range c.args.closed (m -ℤ c.args.range.0) m one.1))
    c.fresh_until.ensures.values
