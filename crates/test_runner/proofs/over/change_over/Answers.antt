use Rattle.std.proofs.Common.{◌≡◌, ◌<◌, ◌≤◌, List, ap, arith, false, length, map, subst, sym, take}
use Rattle.std.specs.Prelude.{IfSome, ⊤}
use Rattle.std.proofs.lemmas.List.{length-map}
use Rattle.script_read.specs.Series.{LabelList}
use Rattle.test_runner.specs.Boxes.{AreSound, Carry, lost_by}
use Rattle.test_runner.specs.Loading.{MayPut}
use Rattle.test_runner.specs.Loads.{left_by}
use Rattle.test_runner.specs.Parts.{HoldParts, MayBeLoaded}
use Rattle.test_runner.proofs.Engines.{put_carries}
use Rattle.test_runner.proofs.Serving.{all_calm, gone_faulted, gone_leaves, gone_named, gone_serves, gone_sure, named_within, own_fault, seen_moved}
use Rattle.test_runner.proofs.over.change_over.Goals as goal

pub carry_out_one-requires : goal.carry_out_one-requires
carry_out_one-requires g c = subst (λ (d : List LabelList). MayPut false (HoldParts d (map (λ b. (goal.Engine-dyn g (b.vtable, b.value)).seen b.value) c.args.engines.now)) (left_by d c.args.what.now)) (sym c.as_slice.ensures) c.requires

pub returns-in-Ok-clause-carried : goal.returns-in-Ok-clause-carried
returns-in-Ok-clause-carried g c =
    subst (λ (d : List LabelList). Carry d (map (λ b. (goal.Engine-dyn g (b.vtable, b.value)).seen b.value) c.args.engines.now) (map (λ b. (goal.Engine-dyn g (b.vtable, b.value)).seen b.value) c.carry_out_one.new.engines) (left_by d c.args.what.now)) c.as_slice.ensures
    (put_carries ⊤ tt c.as_slice.result.now (map (λ b. (goal.Engine-dyn g (b.vtable, b.value)).seen b.value) c.args.engines.now) (map (λ b. (goal.Engine-dyn g (b.vtable, b.value)).seen b.value) c.carry_out_one.new.engines) (left_by c.as_slice.result.now c.args.what.now) c.in-Ok.ensures.put)

pub returns-in-Ok-clause-boxes : goal.returns-in-Ok-clause-boxes
returns-in-Ok-clause-boxes g c = gone_serves ⊤ ⊤ (length c.as_slice.result.now) tt tt c.args.declared.now (map (λ b. (goal.Engine-dyn g (b.vtable, b.value)).seen b.value) c.args.engines.now) (map (λ b. (goal.Engine-dyn g (b.vtable, b.value)).seen b.value) c.carry_out_one.new.engines) c.in-Ok.ensures.gone

pub returns-in-Ok-clause-calm : goal.returns-in-Ok-clause-calm
returns-in-Ok-clause-calm g c = all_calm (map (λ b. (goal.Engine-dyn g (b.vtable, b.value)).seen b.value) c.args.engines.now) (map (λ b. (goal.Engine-dyn g (b.vtable, b.value)).seen b.value) c.carry_out_one.new.engines) c.in-Ok.ensures.gone.each

pub lose-requires-clause-named : goal.lose-requires-clause-named
lose-requires-clause-named g c = subst (λ (d : List LabelList). IfSome (lost_by c.in-Err.fault) (λ i. i < length d)) c.as_slice.ensures (gone_named ⊤ (length c.as_slice.result.now) (map (λ b. (goal.Engine-dyn g (b.vtable, b.value)).seen b.value) c.args.engines.now) (map (λ b. (goal.Engine-dyn g (b.vtable, b.value)).seen b.value) c.carry_out_one.new.engines) c.in-Err.fault c.in-Err.ensures.gone)

pub lose-requires-clause-boxes : goal.lose-requires-clause-boxes
lose-requires-clause-boxes g c =
    let many = c.requires.1.boxes.many in
    let size = length-map c.args.engines.now (λ b. (goal.Engine-dyn g (b.vtable, b.value)).seen b.value) in
    let now = length-map c.carry_out_one.new.engines (λ b. (goal.Engine-dyn g (b.vtable, b.value)).seen b.value) in
    named_within (lost_by c.in-Err.fault) (length c.args.declared.now) (length c.carry_out_one.new.engines) (omega (arith, many, size, now, c.in-Err.ensures.gone.many))
    (subst (λ (d : List LabelList). IfSome (lost_by c.in-Err.fault) (λ i. i < length d)) c.as_slice.ensures (gone_named ⊤ (length c.as_slice.result.now) (map (λ b. (goal.Engine-dyn g (b.vtable, b.value)).seen b.value) c.args.engines.now) (map (λ b. (goal.Engine-dyn g (b.vtable, b.value)).seen b.value) c.carry_out_one.new.engines) c.in-Err.fault c.in-Err.ensures.gone))

pub returns-in-Err-clause-own : goal.returns-in-Err-clause-own
returns-in-Err-clause-own g c =
    own_fault ⊤ (length c.as_slice.result.now) (map (λ b. (goal.Engine-dyn g (b.vtable, b.value)).seen b.value) c.args.engines.now) (map (λ b. (goal.Engine-dyn g (b.vtable, b.value)).seen b.value) c.carry_out_one.new.engines) c.in-Err.fault (HoldParts c.as_slice.result.now (map (λ b. (goal.Engine-dyn g (b.vtable, b.value)).seen b.value) c.args.engines.now)) (MayBeLoaded c.as_slice.result.now (map (λ b. (goal.Engine-dyn g (b.vtable, b.value)).seen b.value) c.carry_out_one.new.engines)) (left_by c.as_slice.result.now c.args.what.now)
    (subst (λ (d : List LabelList). MayPut false (HoldParts d (map (λ b. (goal.Engine-dyn g (b.vtable, b.value)).seen b.value) c.args.engines.now)) (left_by d c.args.what.now)) (sym c.as_slice.ensures) c.requires) c.in-Err.ensures.put

pub returns-in-Err-clause-boxes : goal.returns-in-Err-clause-boxes
returns-in-Err-clause-boxes g c =
    let many = c.requires.1.boxes.many in
    let same = ap length c.as_slice.ensures in
    gone_leaves ⊤ (length c.as_slice.result.now) (map (λ b. (goal.Engine-dyn g (b.vtable, b.value)).seen b.value) c.args.engines.now) (map (λ b. (goal.Engine-dyn g (b.vtable, b.value)).seen b.value) c.carry_out_one.new.engines) (map (λ b. (goal.Engine-dyn g (b.vtable, b.value)).seen b.value) c.lose.new.engines) c.args.declared.now c.lose.new.declared c.in-Err.fault c.in-Err.ensures.gone same (omega (arith, many, same)) c.lose.ensures.labels
    (seen_moved (λ b. (goal.Engine-dyn g (b.vtable, b.value)).seen b.value) (lost_by c.in-Err.fault) c.carry_out_one.new.engines c.lose.new.engines c.lose.ensures.boxes)

pub returns-in-Err-clause-faulted : goal.returns-in-Err-clause-faulted
returns-in-Err-clause-faulted g c =
    gone_faulted ⊤ (length c.as_slice.result.now) (map (λ b. (goal.Engine-dyn g (b.vtable, b.value)).seen b.value) c.args.engines.now) (map (λ b. (goal.Engine-dyn g (b.vtable, b.value)).seen b.value) c.carry_out_one.new.engines) (map (λ b. (goal.Engine-dyn g (b.vtable, b.value)).seen b.value) c.lose.new.engines) c.args.declared.now c.lose.new.declared c.in-Err.fault c.in-Err.ensures.gone
    (seen_moved (λ b. (goal.Engine-dyn g (b.vtable, b.value)).seen b.value) (lost_by c.in-Err.fault) c.carry_out_one.new.engines c.lose.new.engines c.lose.ensures.boxes)

pub returns-in-Err-clause-sure : goal.returns-in-Err-clause-sure
returns-in-Err-clause-sure g c = λ tell sound.
    gone_sure ⊤ (length c.as_slice.result.now) (map (λ b. (goal.Engine-dyn g (b.vtable, b.value)).seen b.value) c.args.engines.now) (map (λ b. (goal.Engine-dyn g (b.vtable, b.value)).seen b.value) c.carry_out_one.new.engines) c.in-Err.fault c.in-Err.ensures.gone (subst (λ (d : List LabelList). AreSound (take (length d) (map (λ b. (goal.Engine-dyn g (b.vtable, b.value)).seen b.value) c.args.engines.now))) (sym c.as_slice.ensures) sound)
