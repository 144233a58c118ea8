use Rattle.std.proofs.Common.{◌≡◌, ◌∙◌, ◌<◌, List, length, slice_get, refl, sym, ap, subst, Some, None, true, false}
use Rattle.std.specs.Prelude.{Option, is_some}
use Rattle.std.specs.List.{AllZip}
use Rattle.op_gather.specs.Histories.{Gathering, IsQueueOf, QueueStands, Stands}
use Rattle.op_gather.specs.Queues.{ended}
use Rattle.op_gather.specs.declared.queue.Queue.{Queue}
use Rattle.op_gather.proofs.Refusing.{end_refused, end_taken}
use Rattle.op_gather.proofs.Sound.{ended_sound, holds_at, set_sound, some_at}
use Rattle.op_gather.proofs.Standing.{ended_stands, zip_at, zip_set_right}
use Rattle.op_gather.proofs.gather.Gather.finish.Goals as goal

is_none : {X : Type 0} (o : Option X) → is_some o ≡ false → o ≡ None
is_none None e = refl
is_none (Some x) e = absurd (cc)

pub returns-then-is_some-clause-exact : goal.returns-then-is_some-clause-exact
returns-then-is_some-clause-exact c all dones taken done s here =
    let st : Stands _ all dones taken = subst (λ g. Stands g all dones taken) (sym c.self.view_is) s in
    let there = some_at c.self.inside.queues c.args.engine (subst (λ (g : Gathering). c.args.engine < length g.queues) (sym c.self.view_is) c.requires.inside) in
    let next = c.next_of-next.ensures there.0 (ap (λ (qs : List Queue). slice_get qs c.args.engine) c.as_slice.ensures ∙ there.1) in
    end_refused all (length done) c.next_of-next.result (sym c.is_some.ensures ∙ c.if-is_some.true) (next ∙ (zip_at (QueueStands all taken) dones c.self.inside.queues c.args.engine done there.0 here there.1 st.queues).coming)

pub invariant_of-self-2 : goal.invariant_of-self-2
invariant_of-self-2 c =
    let ask = c.self.inside.ask in
    let qs = c.self.inside.queues in
    let there = some_at qs c.args.engine (subst (λ (g : Gathering). c.args.engine < length g.queues) (sym c.self.view_is) c.requires.inside) in
    set_sound ask qs _ c.args.engine (ended there.0) c.self.invariant (ended_sound ask there.0 (holds_at (IsQueueOf ask) qs c.args.engine there.0 there.1 c.self.invariant.each)) (c.end.ensures there.0 there.1)

pub returns-clause-exact : goal.returns-clause-exact
returns-clause-exact c all dones taken done s here =
    let st : Stands _ all dones taken = subst (λ g. Stands g all dones taken) (sym c.self.view_is) s in
    let there = some_at c.self.inside.queues c.args.engine (subst (λ (g : Gathering). c.args.engine < length g.queues) (sym c.self.view_is) c.requires.inside) in
    let next = c.next_of-next.ensures there.0 (ap (λ (qs : List Queue). slice_get qs c.args.engine) c.as_slice.ensures ∙ there.1) in
    let none : c.next_of-next.result ≡ None = is_none c.next_of-next.result (sym c.is_some.ensures ∙ c.if-is_some.false) in
    end_taken all (length done) (sym none ∙ next ∙ (zip_at (QueueStands all taken) dones c.self.inside.queues c.args.engine done there.0 here there.1 st.queues).coming)

pub returns-clause-stands : goal.returns-clause-stands
returns-clause-stands c all dones taken s =
    let st : Stands _ all dones taken = subst (λ g. Stands g all dones taken) (sym c.self.view_is) s in
    let there = some_at c.self.inside.queues c.args.engine (subst (λ (g : Gathering). c.args.engine < length g.queues) (sym c.self.view_is) c.requires.inside) in
    let q : Queue = there.0 in
    let here : slice_get c.self.inside.queues c.args.engine ≡ Some q = there.1 in
    let none : q.next ≡ None = sym (c.next_of-next.ensures q (ap (λ (qs : List Queue). slice_get qs c.args.engine) c.as_slice.ensures ∙ here)) ∙ is_none c.next_of-next.result (sym c.is_some.ensures ∙ c.if-is_some.false) in
    record {
      listed = st.listed;
      next = st.next;
      queues = subst (AllZip (QueueStands all taken) dones) (sym (c.end.ensures q here)) (zip_set_right (QueueStands all taken) dones c.self.inside.queues c.args.engine q (ended q) here (λ d r. ended_stands all taken d q none r) st.queues);
    }
