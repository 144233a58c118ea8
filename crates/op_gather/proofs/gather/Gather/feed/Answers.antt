use Rattle.std.proofs.Common.{◌≡◌, ◌∙◌, ◌<◌, ◌++◌, ◌+◌, List, length, drop, slice_get, slice_set, sym, ap, subst, None, true}
use Rattle.std.specs.Prelude.{Option, Err, Ok, IfSome}
use Rattle.std.specs.List.{AllZip}
use Rattle.ticks.specs.Walks.{IsInstant}
use Rattle.ticks.specs.declared.moment.Ms.{Ms}
use Rattle.remote_api.specs.Strays.{stray_of}
use Rattle.remote_api.specs.declared.frame.Stray.{Stray}
use Rattle.op_gather.specs.Histories.{Gathering, IsQueueOf, QueueStands, Refuses, Stands}
use Rattle.op_gather.specs.Queues.{fed, has_room}
use Rattle.op_gather.specs.declared.gather.GatherRefusal.{GatherRefusal}
use Rattle.op_gather.specs.declared.queue.Queue.{Queue}
use Rattle.op_gather.proofs.Refusing.{none_found, none_out_of_step, refused, some_steps}
use Rattle.op_gather.proofs.Sound.{fed_sound, holds_at, set_sound, some_at}
use Rattle.op_gather.proofs.Standing.{fed_stands, zip_at, zip_set}
use Rattle.op_gather.proofs.gather.Gather.feed.Goals as goal

pub check-requires-clause-next : goal.check-requires-clause-next
check-requires-clause-next c =
    let qs = c.self.inside.queues in
    let i = c.args.engine in
    let there = some_at qs i (subst (λ (g : Gathering). i < length g.queues) (sym c.self.view_is) c.requires.inside) in
    let next : c.next_of-next.result ≡ there.0.next = c.next_of-next.ensures there.0 (ap (λ (z : List Queue). slice_get z i) c.as_slice.ensures ∙ there.1) in
    subst (λ (o : Option Ms). IfSome o (λ (t : Ms). IsInstant c.self.inside.ask.walk t.0)) (sym next) (holds_at (IsQueueOf c.self.inside.ask) qs i there.0 there.1 c.self.invariant.each).coming

pub returns-in-Err-clause-exact : goal.returns-in-Err-clause-exact
returns-in-Err-clause-exact c all dones taken done s here =
    let ask = c.self.inside.ask in
    let qs = c.self.inside.queues in
    let i = c.args.engine in
    let steps = c.args.frame.steps in
    let st : Stands _ all dones taken = subst (λ (g : Gathering). Stands g all dones taken) (sym c.self.view_is) s in
    let there = some_at qs i (subst (λ (g : Gathering). i < length g.queues) (sym c.self.view_is) c.requires.inside) in
    let next : c.next_of-next.result ≡ slice_get all (length done) =
    c.next_of-next.ensures there.0 (ap (λ (z : List Queue). slice_get z i) c.as_slice.ensures ∙ there.1) ∙ (zip_at (QueueStands all taken) dones qs i done there.0 here there.1 st.queues).coming in
    subst (λ (g : Gathering). Refuses (stray_of g.ask (drop (length done) all) steps) (Err c.of.result)) c.self.view_is
    (subst (λ (r : GatherRefusal). Refuses (stray_of ask (drop (length done) all) steps) (Err r)) (sym c.of.ensures)
    (refused (stray_of ask (drop (length done) all) steps) c.check.result c.in-Err.fault c.in-Err.is (c.check.ensures.stray all (length done) st.listed next)))

pub invariant_of-self-2 : goal.invariant_of-self-2
invariant_of-self-2 c =
    let ask = c.self.inside.ask in
    let qs = c.self.inside.queues in
    let i = c.args.engine in
    let there = some_at qs i (subst (λ (g : Gathering). i < length g.queues) (sym c.self.view_is) c.requires.inside) in
    set_sound ask qs c.keep.new.queues i (fed there.0 c.args.frame.steps c.in-Ok.behind) c.self.invariant
    (fed_sound ask there.0 c.args.frame.steps c.in-Ok.behind c.in-Ok.ensures.well c.in-Ok.ensures.instant (holds_at (IsQueueOf ask) qs i there.0 there.1 c.self.invariant.each))
    (c.in-Ok-keep.ensures.ok there.0 there.1)

pub returns-clause-exact : goal.returns-clause-exact
returns-clause-exact c all dones taken done s here =
    let ask = c.self.inside.ask in
    let qs = c.self.inside.queues in
    let i = c.args.engine in
    let steps = c.args.frame.steps in
    let st : Stands _ all dones taken = subst (λ (g : Gathering). Stands g all dones taken) (sym c.self.view_is) s in
    let there = some_at qs i (subst (λ (g : Gathering). i < length g.queues) (sym c.self.view_is) c.requires.inside) in
    let next : c.next_of-next.result ≡ slice_get all (length done) =
    c.next_of-next.ensures there.0 (ap (λ (z : List Queue). slice_get z i) c.as_slice.ensures ∙ there.1) ∙ (zip_at (QueueStands all taken) dones qs i done there.0 here there.1 st.queues).coming in
    let none : stray_of ask (drop (length done) all) steps ≡ None = none_found (stray_of ask (drop (length done) all) steps) c.check.result c.in-Ok.behind c.in-Ok.is (c.check.ensures.stray all (length done) st.listed next) in
    subst (λ (g : Gathering). Refuses (stray_of g.ask (drop (length done) all) steps) (Ok tt)) c.self.view_is (subst (λ (o : Option Stray). Refuses o (Ok tt)) (sym none) tt)

pub returns-clause-stands : goal.returns-clause-stands
returns-clause-stands c all dones taken done s here =
    let ask = c.self.inside.ask in
    let qs = c.self.inside.queues in
    let i = c.args.engine in
    let steps = c.args.frame.steps in
    let behind = c.in-Ok.behind in
    let st : Stands _ all dones taken = subst (λ (g : Gathering). Stands g all dones taken) (sym c.self.view_is) s in
    let there = some_at qs i (subst (λ (g : Gathering). i < length g.queues) (sym c.self.view_is) c.requires.inside) in
    let q : Queue = there.0 in
    let next : c.next_of-next.result ≡ slice_get all (length done) =
    c.next_of-next.ensures q (ap (λ (z : List Queue). slice_get z i) c.as_slice.ensures ∙ there.1) ∙ (zip_at (QueueStands all taken) dones qs i done q here there.1 st.queues).coming in
    let none : stray_of ask (drop (length done) all) steps ≡ None = none_found (stray_of ask (drop (length done) all) steps) c.check.result behind c.in-Ok.is (c.check.ensures.stray all (length done) st.listed next) in
    let room : has_room q ≡ true = c.requires.room q (ap (λ (g : Gathering). slice_get g.queues i) (sym c.self.view_is) ∙ there.1) in
    let on : behind ≡ slice_get all (length done + length steps) = c.in-Ok.ensures.behind all (length done) st.listed next in
    record {
      listed = st.listed;
      next = st.next;
      queues = subst (AllZip (QueueStands all taken) (slice_set dones i (done ++ steps))) (sym (c.in-Ok-keep.ensures.ok q there.1))
          (zip_set (QueueStands all taken) dones qs i done (done ++ steps) q (fed q steps behind) here there.1
          (λ r. fed_stands all taken done q steps behind room (some_steps ask (drop (length done) all) steps none) (none_out_of_step ask (drop (length done) all) steps none) on r) st.queues);
    }
