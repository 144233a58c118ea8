-- A gather of no engine.
use Rattle.std.proofs.Common.{◌≡◌, ◌∙◌, ℕ, true, List, [], ◌∷◌, ap, Some}
use Rattle.std.specs.Prelude.{Option, ◌&&◌, is_some}
use Rattle.std.specs.List.{AllZip, list_all}
use Rattle.step_batch.specs.Lent.{Lent}
use Rattle.step_batch.specs.LentWindows.{WindowsAt}
use Rattle.step_table.specs.Groups.{gathered}
use Rattle.step_table.specs.declared.cells.PartKind.{PartKind}
use Rattle.step_table.specs.declared.cells.PartKind.TheVariants as part
use Rattle.ticks.specs.declared.moment.Ms.{Ms}
use Rattle.op_gather.specs.declared.queue.Queue.{Queue}
use Rattle.op_gather.specs.Histories.{QueueStands, steps_at}
use Rattle.op_gather.specs.Joined.{LendsJoined}
use Rattle.op_gather.specs.Laws.{LendsNothing, NoEngineGivesNothing}
use Rattle.op_gather.specs.Queues.{head_of}

are_ready : (all : List Ms) (taken : ℕ) (t : Ms) (next : Option Ms) (qs : List Queue) → next ≡ Some t → AllZip (QueueStands all taken) [] qs → (is_some next && list_all (λ (q : Queue). is_some (head_of q)) qs) ≡ true
are_ready all taken t next [] e a = ap (λ (n : Option Ms). is_some n && true) e
are_ready all taken t next (q ∷ qs) e a = absurd a

lends_nothing : (kind : PartKind) (taken : ℕ) (t : Ms) (lent : Lent) (windows : WindowsAt) → LendsJoined kind t (steps_at taken []) lent windows → LendsNothing kind t lent windows
unfolding gathered
lends_nothing part.Rows taken t lent windows h = h
lends_nothing part.Windows taken t lent windows h = h
lends_nothing (part.Partial f by) taken t lent windows h = h

pub no_engine : NoEngineGivesNothing
no_engine g all taken t s e = (are_ready all taken t g.next g.queues (s.next ∙ e) s.queues, lends_nothing g.ask.kind taken t)
