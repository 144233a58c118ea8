use Rattle.std.proofs.Common.{◌≡◌, ◌<◌, ◌^◌, ℕ, List, [], length, replicate, slice_get, sym, subst, arith}
use Rattle.std.specs.Prelude.{IfSome}
use Rattle.std.specs.List.{AllByRecursion, AllZip}
use Rattle.ticks.specs.Listed.{IsListed}
use Rattle.ticks.specs.Walks.{IsInstant}
use Rattle.ticks.specs.declared.moment.Ms.{Ms}
use Rattle.remote_api.specs.Strays.{AsksInTimes}
use Rattle.remote_api.specs.declared.asks.Ask.{Ask}
use Rattle.op_gather.specs.Histories.{IsQueueOf, QueueStands}
use Rattle.op_gather.specs.Queues.{nothing_of}
use Rattle.op_gather.specs.declared.queue.Queue.{Queue}
use Rattle.op_gather.proofs.Sound.{as_long, nothing_sound}
use Rattle.op_gather.proofs.Standing.{all_fresh}
use Rattle.op_gather.proofs.gather.Gather.new.Goals as goal

pub returns-clause-stands : goal.returns-clause-stands
returns-clause-stands c all listed =
    let first : c.first-first.result ≡ slice_get all 0 =
    c.walks_are_listed.ensures.first c.args.walk.now all c.first-first.result listed (record { instant = c.first-first.ensures.instant; least = c.first-first.ensures.least; none = c.first-first.ensures.none }) in
    record {
      listed = subst (λ (a : Ask). IsListed a.walk all) (sym c.in_ok-ask.ensures) listed;
      next = first;
      queues = subst (AllZip (QueueStands all 0) (replicate c.args.engines [])) (sym c.in_ok-queues.ensures) (all_fresh all c.first-first.result c.args.engines first);
    }

pub invariant_of-result : goal.invariant_of-result
invariant_of-result c =
    let asked : AsksInTimes c.in_ok-ask.ask = subst AsksInTimes (sym c.in_ok-ask.ensures) c.requires in
    let first : IfSome c.first-first.result (λ (t : Ms). IsInstant c.in_ok-ask.ask.walk t.0) =
    subst (λ (a : Ask). IfSome c.first-first.result (λ (t : Ms). IsInstant a.walk t.0)) (sym c.in_ok-ask.ensures) c.first-first.ensures.instant in
    record {
      times = asked;
      few = subst (λ (qs : List Queue). length qs < 2 ^ 32) (sym c.in_ok-queues.ensures) (subst (λ (n : ℕ). n < 2 ^ 32) (sym (as_long (nothing_of c.first-first.result) c.args.engines)) (omega arith));
      each = subst (AllByRecursion (IsQueueOf c.in_ok-ask.ask)) (sym c.in_ok-queues.ensures) (nothing_sound c.in_ok-ask.ask c.first-first.result first c.args.engines);
    }
