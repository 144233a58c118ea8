use Rattle.std.proofs.Common.{◌≡◌, ◌<◌, ◌≤◌, ◌^◌, List, [], ap, arith, length, map, subst, sym, take}
use Rattle.std.proofs.lemmas.List.{length-map}
use Rattle.script_read.specs.Series.{LabelList}
use Rattle.test_runner.specs.Boxes.{AllTell, AreSound}
use Rattle.test_runner.specs.Parts.{HoldParts}
use Rattle.test_runner.proofs.Engines.{calm_on, idle_still}
use Rattle.test_runner.proofs.Serving.{all_still, faulted_since, leaves_since, sound_since, tell_since}
use Rattle.test_runner.proofs.answering.answer_loaded.Goals as goal

pub evaluate_over-requires-clause-some : goal.evaluate_over-requires-clause-some
evaluate_over-requires-clause-some g c = subst (λ (l : List LabelList). 0 < length l) (sym c.in-Ok.ensures.boxes.labels) c.requires.some

pub evaluate_over-requires-clause-few : goal.evaluate_over-requires-clause-few
evaluate_over-requires-clause-few g c =
    let now = length-map c.put_anew.new.engines.items (λ b. (goal.Engine-dyn g (b.vtable, b.value)).seen b.value) in
    omega (arith, now, c.in-Ok.ensures.boxes.many, c.requires.ready.few)

pub evaluate_over-requires-clause-many : goal.evaluate_over-requires-clause-many
evaluate_over-requires-clause-many g c =
    let now = length-map c.put_anew.new.engines.items (λ b. (goal.Engine-dyn g (b.vtable, b.value)).seen b.value) in
    let same = ap length c.in-Ok.ensures.boxes.labels in
    omega (arith, now, same, c.in-Ok.ensures.boxes.many, c.requires.ready.boxes)

pub returns-in-Ok-clause-answered : goal.returns-in-Ok-clause-answered
returns-in-Ok-clause-answered g c = λ tell series left.
    let put = c.in-Ok.ensures in
    let stays = all_still (map (λ b. (goal.Engine-dyn g (b.vtable, b.value)).seen b.value) c.args.engines.now.items) (map (λ b. (goal.Engine-dyn g (b.vtable, b.value)).seen b.value) c.put_anew.new.engines.items) put.boxes.boxes put.calm in
    c.evaluate_over.ensures.outcome series (subst (λ (l : List LabelList). HoldParts l (map (λ b. (goal.Engine-dyn g (b.vtable, b.value)).seen b.value) c.put_anew.new.engines.items) series) (sym put.boxes.labels) (put.held series left))
    (subst (λ (l : List LabelList). AllTell (length l) (map (λ b. (goal.Engine-dyn g (b.vtable, b.value)).seen b.value) c.put_anew.new.engines.items)) (sym put.boxes.labels) (tell_since (map (λ b. (goal.Engine-dyn g (b.vtable, b.value)).seen b.value) c.args.engines.now.items) (map (λ b. (goal.Engine-dyn g (b.vtable, b.value)).seen b.value) c.put_anew.new.engines.items) put.boxes.many stays (length c.args.declared.now) tell))

pub returns-in-Ok-clause-boxes : goal.returns-in-Ok-clause-boxes
returns-in-Ok-clause-boxes g c =
    let put = c.in-Ok.ensures in
    leaves_since (map (λ b. (goal.Engine-dyn g (b.vtable, b.value)).seen b.value) c.args.engines.now.items) (map (λ b. (goal.Engine-dyn g (b.vtable, b.value)).seen b.value) c.put_anew.new.engines.items) put.boxes.many (all_still (map (λ b. (goal.Engine-dyn g (b.vtable, b.value)).seen b.value) c.args.engines.now.items) (map (λ b. (goal.Engine-dyn g (b.vtable, b.value)).seen b.value) c.put_anew.new.engines.items) put.boxes.boxes put.calm) _ c.evaluate_over.result c.args.declared.now c.put_anew.new.declared c.evaluate_over.new.declared (map (λ b. (goal.Engine-dyn g (b.vtable, b.value)).seen b.value) c.evaluate_over.new.engines.items) put.boxes.labels c.evaluate_over.ensures.boxes

pub returns-in-Ok-clause-faulted : goal.returns-in-Ok-clause-faulted
returns-in-Ok-clause-faulted g c =
    let put = c.in-Ok.ensures in
    faulted_since (map (λ b. (goal.Engine-dyn g (b.vtable, b.value)).seen b.value) c.args.engines.now.items) (map (λ b. (goal.Engine-dyn g (b.vtable, b.value)).seen b.value) c.put_anew.new.engines.items) put.boxes.many (all_still (map (λ b. (goal.Engine-dyn g (b.vtable, b.value)).seen b.value) c.args.engines.now.items) (map (λ b. (goal.Engine-dyn g (b.vtable, b.value)).seen b.value) c.put_anew.new.engines.items) put.boxes.boxes put.calm) _ c.evaluate_over.result (map (λ b. (goal.Engine-dyn g (b.vtable, b.value)).seen b.value) c.evaluate_over.new.engines.items) c.evaluate_over.ensures.faulted

pub returns-in-Ok-clause-calm : goal.returns-in-Ok-clause-calm
returns-in-Ok-clause-calm g c = let put = c.in-Ok.ensures in calm_on c.evaluate_over.result (map (λ b. (goal.Engine-dyn g (b.vtable, b.value)).seen b.value) c.args.engines.now.items) (map (λ b. (goal.Engine-dyn g (b.vtable, b.value)).seen b.value) c.put_anew.new.engines.items) (map (λ b. (goal.Engine-dyn g (b.vtable, b.value)).seen b.value) c.evaluate_over.new.engines.items) (all_still (map (λ b. (goal.Engine-dyn g (b.vtable, b.value)).seen b.value) c.args.engines.now.items) (map (λ b. (goal.Engine-dyn g (b.vtable, b.value)).seen b.value) c.put_anew.new.engines.items) put.boxes.boxes put.calm) c.evaluate_over.ensures.calm

pub returns-in-Ok-clause-sure : goal.returns-in-Ok-clause-sure
returns-in-Ok-clause-sure g c = λ tell sound.
    let put = c.in-Ok.ensures in
    let stays = all_still (map (λ b. (goal.Engine-dyn g (b.vtable, b.value)).seen b.value) c.args.engines.now.items) (map (λ b. (goal.Engine-dyn g (b.vtable, b.value)).seen b.value) c.put_anew.new.engines.items) put.boxes.boxes put.calm in
    c.evaluate_over.ensures.sure (subst (λ (l : List LabelList). AllTell (length l) (map (λ b. (goal.Engine-dyn g (b.vtable, b.value)).seen b.value) c.put_anew.new.engines.items)) (sym put.boxes.labels) (tell_since (map (λ b. (goal.Engine-dyn g (b.vtable, b.value)).seen b.value) c.args.engines.now.items) (map (λ b. (goal.Engine-dyn g (b.vtable, b.value)).seen b.value) c.put_anew.new.engines.items) put.boxes.many stays (length c.args.declared.now) tell))
    (subst (λ (l : List LabelList). AreSound (take (length l) (map (λ b. (goal.Engine-dyn g (b.vtable, b.value)).seen b.value) c.put_anew.new.engines.items))) (sym put.boxes.labels) (sound_since (map (λ b. (goal.Engine-dyn g (b.vtable, b.value)).seen b.value) c.args.engines.now.items) (map (λ b. (goal.Engine-dyn g (b.vtable, b.value)).seen b.value) c.put_anew.new.engines.items) put.boxes.many stays (length c.args.declared.now) sound))

pub returns-in-Err-clause-unmoved : goal.returns-in-Err-clause-unmoved
returns-in-Err-clause-unmoved g c = idle_still c.args.work.now

pub returns-in-Err-clause-faulted : goal.returns-in-Err-clause-faulted
returns-in-Err-clause-faulted g c = c.in-Err.ensures.faulted

pub returns-in-Err-clause-sure : goal.returns-in-Err-clause-sure
returns-in-Err-clause-sure g c = λ tell sound. c.in-Err.ensures.sure tell sound
