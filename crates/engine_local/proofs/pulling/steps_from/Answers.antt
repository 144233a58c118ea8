use Rattle.std.proofs.Common.{◌≡◌, ◌∙◌, ◌+◌, ◌<◌, ◌≤◌, [], ◌∷◌, List, length, None, ap, sym, subst, refl, arith, length-append}
use Rattle.std.specs.Prelude.{Option}
use Rattle.remote_api.specs.Strays.{wrong_cell}
use Rattle.step_table.specs.declared.cells.StepCells.{StepCells}
use Rattle.ticks.specs.declared.moment.Ms.{Ms}
use Rattle.engine_local.specs.Local.{asked_of}
use Rattle.engine_local.proofs.Fronts.{IsNextOf, behind_all, gives_owed, head, is_instant, next_behind, none_yet, one_at_least, one_more, to_come}
use Rattle.engine_local.proofs.Well.{more_well}
use Rattle.engine_local.proofs.pulling.steps_from.Goals as goal

pub loop-alloc-init : goal.loop-alloc-init
loop-alloc-init g c =
    let one = c.args.one.now in
    let store = c.args.store.now in
    let none = c.new-steps.ensures in
    let long : length c.new-steps.result ≡ 0 = ap length none in
    record {
      front = none_yet (asked_of store one) one.part (to_come store one) c.new-steps.result one.next none (head store one c.requires.allowed);
      few = omega (arith, long);
      well = ap (wrong_cell one.ask) none;
      same = refl;
    }

pub step_at-requires-clause-kept : goal.step_at-requires-clause-kept
step_at-requires-clause-kept g c = c.requires.kept ∙ sym c.loop-alloc.invariant.same

pub step_at-requires-clause-here : goal.step_at-requires-clause-here
step_at-requires-clause-here g c = is_instant c.args.store.now c.args.one.now c.requires.allowed c.loop-alloc.steps c.loop-alloc.next c.in-Some.t c.loop-alloc.invariant.front c.in-Some.is

pub loop-alloc-preserved : goal.loop-alloc-preserved
loop-alloc-preserved g c =
    let one = c.args.one.now in
    let store = c.args.store.now in
    let so_far = c.loop-alloc.invariant in
    let steps = c.loop-alloc.steps in
    let after = c.after-next.ensures in
    let is = c.in_ok-push.ensures.ok in
    let step = c.in_ok-step.step in
    let behind = next_behind store one c.requires.allowed c.walks_are_listed.ensures.next steps c.loop-alloc.next c.after-next.result c.in-Some.t so_far.front c.in-Some.is
    (record { instant = after.instant; later = after.later; least = after.least; none = after.none }) in
    let front = one_more (asked_of store one) one.part (to_come store one) steps c.push.new.self step c.in-Some.t c.after-next.result
    (subst (λ (o : Option Ms). IsNextOf store one steps o) c.in-Some.is so_far.front) is c.in_ok-step.ensures.owed behind in
    let test = c.loop-alloc-test.true in
    let now : length c.as_slice.result.now ≡ length steps = ap length c.as_slice.ensures in
    let long : length c.push.new.self ≡ length steps + 1 = ap length is ∙ length-append steps (step ∷ []) in
    record {
      front = front;
      few = omega (arith, test, now, long);
      well = subst (λ (all : List StepCells). wrong_cell one.ask all ≡ None) (sym is) (more_well one.ask steps step so_far.well c.in_ok-step.ensures.well);
      same = c.step_at.ensures.same ∙ so_far.same;
    }

pub loop-alloc-smaller : goal.loop-alloc-smaller
loop-alloc-smaller g c =
    let test = c.loop-alloc-test.true in
    let now : length c.as_slice.result.now ≡ length c.loop-alloc.steps = ap length c.as_slice.ensures in
    let long : length c.push.new.self ≡ length c.loop-alloc.steps + 1 = ap length c.in_ok-push.ensures.ok ∙ length-append c.loop-alloc.steps (c.in_ok-step.step ∷ []) in
    omega (arith, test, now, long)

-- none is to come

pub returns-in_default-clause-owed : goal.returns-in_default-clause-owed
returns-in_default-clause-owed g c =
    let one = c.args.one.now in
    let store = c.args.store.now in
    let so_far = c.loop-alloc.invariant in
    let ended = subst (λ (o : Option Ms). IsNextOf store one c.loop-alloc.steps o) c.in_default.is so_far.front in
    let some = one_at_least (asked_of store one) one.part (to_come store one) one.next c.loop-alloc.steps c.requires.left (head store one c.requires.allowed) ended in
    gives_owed store one c.args.most c.loop-alloc.steps c.loop-alloc.next so_far.front some so_far.few

pub returns-in_default-clause-behind : goal.returns-in_default-clause-behind
returns-in_default-clause-behind g c = behind_all c.args.store.now c.args.one.now c.loop-alloc.steps c.loop-alloc.next c.loop-alloc.invariant.front

-- there are so many as were wanted

pub returns-clause-owed : goal.returns-clause-owed
returns-clause-owed g c =
    let so_far = c.loop-alloc.invariant in
    let test = c.loop-alloc-test.false in
    let some = c.requires.some in
    let now : length c.as_slice.result.now ≡ length c.loop-alloc.steps = ap length c.as_slice.ensures in
    gives_owed c.args.store.now c.args.one.now c.args.most c.loop-alloc.steps c.loop-alloc.next so_far.front (omega (arith, test, some, now)) so_far.few

pub returns-clause-behind : goal.returns-clause-behind
returns-clause-behind g c = behind_all c.args.store.now c.args.one.now c.loop-alloc.steps c.loop-alloc.next c.loop-alloc.invariant.front
