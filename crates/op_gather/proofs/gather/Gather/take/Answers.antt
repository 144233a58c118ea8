use Rattle.std.proofs.Common.{◌≡◌, ◌∙◌, ◌<◌, ◌≤◌, ◌^◌, ◌+◌, List, length, map, sym, ap, subst, arith, true, Some}
use Rattle.std.specs.Prelude.{is_some}
use Rattle.std.specs.List.{AllZip, filter_map, list_all}
use Rattle.step_table.specs.declared.cells.PartKind.{PartKind}
use Rattle.step_table.specs.declared.cells.PartKind.TheVariants.{Windows}
use Rattle.step_table.specs.declared.cells.StepCells.{StepCells}
use Rattle.ticks.specs.declared.moment.Ms.{Ms}
use Rattle.op_gather.specs.Histories.{AreWell, Gathering, QueueStands, Stands, is_ready, steps_at}
use Rattle.op_gather.specs.Joined.{AreInside, LendsJoined}
use Rattle.op_gather.specs.Queues.{head_of, popped}
use Rattle.op_gather.specs.declared.queue.Queue.{Queue}
use Rattle.op_gather.proofs.Inside.{StandAt, lent_inside, taken_stand}
use Rattle.op_gather.proofs.Sound.{heads_few, heads_well, popped_all_sound}
use Rattle.op_gather.proofs.Standing.{all_popped, both_true, heads_are}
use Rattle.op_gather.proofs.gather.Gather.take.Goals as goal

pub invariant_of-self-in_err-join : goal.invariant_of-self-in_err-join
invariant_of-self-in_err-join c = popped_all_sound c.self.inside.ask c.self.inside.queues c.in_ok-heads.rest c.self.invariant (c.in_ok-heads.ensures.rest ∙ ap (map popped) c.replace-queues.ensures.value)

pub invariant_of-self-2 : goal.invariant_of-self-2
invariant_of-self-2 c = popped_all_sound c.self.inside.ask c.self.inside.queues c.in_ok-heads.rest c.self.invariant (c.in_ok-heads.ensures.rest ∙ ap (map popped) c.replace-queues.ensures.value)

pub join-requires-clause-few : goal.join-requires-clause-few
join-requires-clause-few c =
    let heads : c.in_ok-heads.heads ≡ filter_map head_of c.self.inside.queues = c.in_ok-heads.ensures.heads ∙ ap (filter_map head_of) c.replace-queues.ensures.value in
    let few : length (filter_map head_of c.self.inside.queues) ≤ length c.self.inside.queues = heads_few c.self.inside.queues in
    let most : length c.self.inside.queues < 2 ^ 32 = c.self.invariant.few in
    subst (λ (hs : List StepCells). length hs < 2 ^ 32) (sym heads) (omega (arith, few, most))

pub join-requires-clause-well : goal.join-requires-clause-well
join-requires-clause-well c =
    let heads : c.in_ok-heads.heads ≡ filter_map head_of c.self.inside.queues = c.in_ok-heads.ensures.heads ∙ ap (filter_map head_of) c.replace-queues.ensures.value in
    subst (AreWell c.self.inside.ask) (sym heads) (heads_well c.self.inside.ask c.self.inside.queues c.self.invariant.each)

pub returns-clause-joined : goal.returns-clause-joined
returns-clause-joined c all dones taken t s here =
    let st : Stands _ all dones taken = subst (λ g. Stands g all dones taken) (sym c.self.view_is) s in
    let heads : c.in_ok-heads.heads ≡ steps_at taken dones =
    c.in_ok-heads.ensures.heads ∙ ap (filter_map head_of) c.replace-queues.ensures.value ∙ heads_are all taken dones c.self.inside.queues st.queues in
    let same : c.in-Some.at ≡ t = some_is c.in-Some.at t (sym c.in-Some.is ∙ st.next ∙ here) in
    subst (λ (g : Gathering). LendsJoined g.ask.kind t (steps_at taken dones) c.join.new.buffer c.join.new.windows) c.self.view_is
    (subst (λ (u : Ms). LendsJoined c.self.inside.ask.kind u (steps_at taken dones) c.join.new.buffer c.join.new.windows) same
    (subst (λ (hs : List StepCells). LendsJoined c.self.inside.ask.kind c.in-Some.at hs c.join.new.buffer c.join.new.windows) heads c.in_ok-join.ensures))
  where
    some_is : {X : Type 0} (x y : X) → Some x ≡ Some y → x ≡ y
    some_is x y e = cc

pub returns-clause-stands : goal.returns-clause-stands
returns-clause-stands c all dones taken s =
    let st : Stands _ all dones taken = subst (λ g. Stands g all dones taken) (sym c.self.view_is) s in
    let both = both_true (is_some c.self.inside.next) (list_all (λ (q : Queue). is_some (head_of q)) c.self.inside.queues) (subst (λ g. is_ready g ≡ true) (sym c.self.view_is) c.requires.ready) in
    let rest : c.in_ok-heads.rest ≡ map popped c.self.inside.queues = c.in_ok-heads.ensures.rest ∙ ap (map popped) c.replace-queues.ensures.value in
    record {
      listed = st.listed;
      next = c.walks_are_listed.ensures.next c.self.inside.ask.walk all taken c.in-Some.at c.after-self-inside.result st.listed (sym st.next ∙ c.in-Some.is)
          (record { instant = c.after-self-inside.ensures.instant; later = c.after-self-inside.ensures.later; least = c.after-self-inside.ensures.least; none = c.after-self-inside.ensures.none });
      queues = subst (AllZip (QueueStands all (taken + 1)) dones) (sym rest) (all_popped all taken dones c.self.inside.queues both.1 st.queues);
    }

pub returns-clause-inside : goal.returns-clause-inside
returns-clause-inside c all dones taken s kind =
    let st : Stands _ all dones taken = subst (λ g. Stands g all dones taken) (sym c.self.view_is) s in
    let own : c.in_ok-heads.heads ≡ filter_map head_of c.self.inside.queues = c.in_ok-heads.ensures.heads ∙ ap (filter_map head_of) c.replace-queues.ensures.value in
    let heads : c.in_ok-heads.heads ≡ steps_at taken dones = own ∙ heads_are all taken dones c.self.inside.queues st.queues in
    let asked : c.self.inside.ask.kind ≡ Windows = ap (λ (g : Gathering). g.ask.kind) c.self.view_is ∙ kind in
    let well : AreWell c.self.inside.ask c.in_ok-heads.heads = subst (AreWell c.self.inside.ask) (sym own) (heads_well c.self.inside.ask c.self.inside.queues c.self.invariant.each) in
    let at : StandAt c.in-Some.at c.in_ok-heads.heads = subst (StandAt c.in-Some.at) (sym heads) (taken_stand c.in-Some.at all taken (sym st.next ∙ c.in-Some.is) dones c.self.inside.queues st.queues) in
    let lent = subst (λ (k : PartKind). LendsJoined k c.in-Some.at c.in_ok-heads.heads c.join.new.buffer c.join.new.windows) asked c.in_ok-join.ensures in
    subst (λ (g : Gathering). AreInside g.ask c.join.new.windows) c.self.view_is (lent_inside c.in-Some.at c.self.inside.ask c.in_ok-heads.heads c.join.new.windows asked well at lent)
