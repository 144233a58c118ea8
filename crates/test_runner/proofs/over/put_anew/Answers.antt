use Rattle.std.proofs.Common.{◌≡◌, List, [], length, map, refl, subst, sym, take}
use Rattle.std.specs.Prelude.{OnOk, ⊤}
use Rattle.exchange.specs.Calls.{Each}
use Rattle.remote_api.specs.Seen.{KeepsStrays}
use Rattle.script_read.specs.Series.{LabelList}
use Rattle.test_runner.specs.Boxes.{AllTell, AreSound, Carry, LeavesServing, RunFaulted}
use Rattle.test_runner.specs.Loads.{left_by_all}
use Rattle.test_runner.specs.Parts.{HoldParts}
use Rattle.test_runner.proofs.Engines.{calm_on, held_left}
use Rattle.test_runner.proofs.Serving.{faulted_since, leaves_since, sound_since, tell_since, written_over}
use Rattle.test_runner.proofs.over.put_anew.Goals as goal

pub change_over_by_all-requires : goal.change_over_by_all-requires
change_over_by_all-requires g c =
    ([], subst (λ bs. HoldParts c.args.declared.now (map (λ b. (goal.Engine-dyn g (b.vtable, b.value)).seen b.value) bs) []) (sym c.as_mut_slice.ensures.value) (subst (λ (l : List LabelList). HoldParts l (map (λ b. (goal.Engine-dyn g (b.vtable, b.value)).seen b.value) c.drop_before.new.engines.items) []) c.as_slice.ensures c.drop_before.ensures.empty), c.requires.taken)

pub returns-clause-held : goal.returns-clause-held
returns-clause-held g c =
    held_left c.change_over_by_all.result c.args.declared.now (map (λ b. (goal.Engine-dyn g (b.vtable, b.value)).seen b.value) c.drop_before.new.engines.items) _ (left_by_all c.args.declared.now c.args.commands.now) (subst (λ (l : List LabelList). HoldParts l (map (λ b. (goal.Engine-dyn g (b.vtable, b.value)).seen b.value) c.drop_before.new.engines.items) []) c.as_slice.ensures c.drop_before.ensures.empty) c.requires.taken
    (written_over (λ b. (goal.Engine-dyn g (b.vtable, b.value)).seen b.value) (λ es fs. OnOk c.change_over_by_all.result (Carry c.args.declared.now es fs (left_by_all c.args.declared.now c.args.commands.now))) _ c.drop_before.new.engines.items c.as_mut_slice.result.now c.change_over_by_all.new.engines _ ⊤ c.change_over_by_all.result c.args.declared.now c.change_over_by_all.new.declared c.as_mut_slice.ensures.value c.as_mut_slice.ensures.len c.change_over_by_all.ensures.boxes c.change_over_by_all.ensures.carried)

pub returns-clause-boxes : goal.returns-clause-boxes
returns-clause-boxes g c =
    leaves_since (map (λ b. (goal.Engine-dyn g (b.vtable, b.value)).seen b.value) c.args.engines.now.items) (map (λ b. (goal.Engine-dyn g (b.vtable, b.value)).seen b.value) c.drop_before.new.engines.items) c.drop_before.ensures.many c.drop_before.ensures.stays ⊤ c.change_over_by_all.result c.args.declared.now c.args.declared.now c.change_over_by_all.new.declared _ refl
    (written_over (λ b. (goal.Engine-dyn g (b.vtable, b.value)).seen b.value) (λ es fs. LeavesServing c.change_over_by_all.result c.args.declared.now c.change_over_by_all.new.declared es fs) _ c.drop_before.new.engines.items c.as_mut_slice.result.now c.change_over_by_all.new.engines _ ⊤ c.change_over_by_all.result c.args.declared.now c.change_over_by_all.new.declared c.as_mut_slice.ensures.value c.as_mut_slice.ensures.len c.change_over_by_all.ensures.boxes c.change_over_by_all.ensures.boxes)

pub returns-clause-faulted : goal.returns-clause-faulted
returns-clause-faulted g c =
    faulted_since (map (λ b. (goal.Engine-dyn g (b.vtable, b.value)).seen b.value) c.args.engines.now.items) (map (λ b. (goal.Engine-dyn g (b.vtable, b.value)).seen b.value) c.drop_before.new.engines.items) c.drop_before.ensures.many c.drop_before.ensures.stays ⊤ c.change_over_by_all.result _
    (written_over (λ b. (goal.Engine-dyn g (b.vtable, b.value)).seen b.value) (λ es fs. RunFaulted c.change_over_by_all.result es fs) _ c.drop_before.new.engines.items c.as_mut_slice.result.now c.change_over_by_all.new.engines _ ⊤ c.change_over_by_all.result c.args.declared.now c.change_over_by_all.new.declared c.as_mut_slice.ensures.value c.as_mut_slice.ensures.len c.change_over_by_all.ensures.boxes c.change_over_by_all.ensures.faulted)

pub returns-clause-calm : goal.returns-clause-calm
returns-clause-calm g c =
    calm_on c.change_over_by_all.result (map (λ b. (goal.Engine-dyn g (b.vtable, b.value)).seen b.value) c.args.engines.now.items) (map (λ b. (goal.Engine-dyn g (b.vtable, b.value)).seen b.value) c.drop_before.new.engines.items) _ c.drop_before.ensures.stays
    (written_over (λ b. (goal.Engine-dyn g (b.vtable, b.value)).seen b.value) (λ es fs. OnOk c.change_over_by_all.result (Each KeepsStrays es fs)) _ c.drop_before.new.engines.items c.as_mut_slice.result.now c.change_over_by_all.new.engines _ ⊤ c.change_over_by_all.result c.args.declared.now c.change_over_by_all.new.declared c.as_mut_slice.ensures.value c.as_mut_slice.ensures.len c.change_over_by_all.ensures.boxes c.change_over_by_all.ensures.calm)

pub returns-clause-sure : goal.returns-clause-sure
returns-clause-sure g c = λ tell sound.
    c.change_over_by_all.ensures.sure
    (subst (λ bs. AllTell (length c.args.declared.now) (map (λ b. (goal.Engine-dyn g (b.vtable, b.value)).seen b.value) bs)) (sym c.as_mut_slice.ensures.value) (tell_since (map (λ b. (goal.Engine-dyn g (b.vtable, b.value)).seen b.value) c.args.engines.now.items) (map (λ b. (goal.Engine-dyn g (b.vtable, b.value)).seen b.value) c.drop_before.new.engines.items) c.drop_before.ensures.many c.drop_before.ensures.stays (length c.args.declared.now) tell))
    (subst (λ bs. AreSound (take (length c.args.declared.now) (map (λ b. (goal.Engine-dyn g (b.vtable, b.value)).seen b.value) bs))) (sym c.as_mut_slice.ensures.value) (sound_since (map (λ b. (goal.Engine-dyn g (b.vtable, b.value)).seen b.value) c.args.engines.now.items) (map (λ b. (goal.Engine-dyn g (b.vtable, b.value)).seen b.value) c.drop_before.new.engines.items) c.drop_before.ensures.many c.drop_before.ensures.stays (length c.args.declared.now) sound))
