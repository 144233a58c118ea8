use Rattle.std.proofs.Common.{◌∙◌, ap, rules}
use Rattle.indexmap.proofs.CallerLemmas.{filter-RetainsPairs}
use Rattle.step_batch.specs.LentWindows.{windows_of}
use Rattle.step_batch.proofs.Rows.{windows_left}
use Rattle.step_batch.proofs.window_buffer.drop_empty.Goals as goal

pub returns-clause-windows : goal.returns-clause-windows
returns-clause-windows c = ap windows_of (filter-RetainsPairs _ _ _ (λ k v b w g call. search rules) _ _ c.retain.ensures.filtered) ∙ windows_left c.args.rows.now.entries
