use Rattle.std.proofs.Common.{arith, length, map}
use Rattle.std.proofs.lemmas.List.{length-map}
use Rattle.test_runner.proofs.Gone.{begun_gone, cleared_gone, gone_then}
use Rattle.test_runner.proofs.Parts.{begun_boxes, begun_told, begun_unasked, cleared_all}
use Rattle.test_runner.proofs.boxes.drop_all.Goals as goal

pub returns-clause-empty : goal.returns-clause-empty
returns-clause-empty g c =
    let declared = c.args.declared.now in
    let es = (map (λ b. (goal.Engine-dyn g (b.vtable, b.value)).seen b.value) c.args.engines.now) in
    let ds = (map (λ b. (goal.Engine-dyn g (b.vtable, b.value)).seen b.value) c.begin_each.new.engines) in
    cleared_all declared ds (map (λ b. (goal.Engine-dyn g (b.vtable, b.value)).seen b.value) c.clear_each.new.engines) c.clear_each.ensures (begun_boxes declared es ds c.begin_each.ensures c.requires.boxes) c.requires.declared
    (begun_told declared es ds c.begin_each.ensures c.requires.told) (begun_unasked declared es ds c.begin_each.ensures) c.puts_stay_parted.ensures.nothing

pub returns-clause-gone : goal.returns-clause-gone
returns-clause-gone g c =
    let es = (map (λ b. (goal.Engine-dyn g (b.vtable, b.value)).seen b.value) c.args.engines.now) in
    let ds = (map (λ b. (goal.Engine-dyn g (b.vtable, b.value)).seen b.value) c.begin_each.new.engines) in
    let fs = map (λ b. (goal.Engine-dyn g (b.vtable, b.value)).seen b.value) c.clear_each.new.engines in
    gone_then _ _ es ds (begun_gone _ es ds c.begin_each.ensures) _ _ fs (cleared_gone _ ds fs c.clear_each.ensures)

pub begin_each-requires : goal.begin_each-requires
begin_each-requires g c =
    let many = c.requires.boxes.many in
    let size = length-map c.args.engines.now (λ b. (goal.Engine-dyn g (b.vtable, b.value)).seen b.value) in
    omega (arith, many, size)

pub clear_each-requires-clause-inside : goal.clear_each-requires-clause-inside
clear_each-requires-clause-inside g c =
    let many = c.requires.boxes.many in
    let same = c.begin_each.ensures.many in
    let size = length-map c.begin_each.new.engines (λ b. (goal.Engine-dyn g (b.vtable, b.value)).seen b.value) in
    omega (arith, many, same, size)

pub clear_each-requires-clause-unasked : goal.clear_each-requires-clause-unasked
clear_each-requires-clause-unasked g c = begun_unasked c.args.declared.now (map (λ b. (goal.Engine-dyn g (b.vtable, b.value)).seen b.value) c.args.engines.now) (map (λ b. (goal.Engine-dyn g (b.vtable, b.value)).seen b.value) c.begin_each.new.engines) c.begin_each.ensures
