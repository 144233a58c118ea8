use Rattle.std.proofs.Common.{arith, map}
use Rattle.std.proofs.lemmas.List.{length-map}
use Rattle.test_runner.proofs.Gone.{cleared_gone}
use Rattle.test_runner.proofs.Parts.{loaded_cleared}
use Rattle.test_runner.proofs.boxes.clear_loaded.Goals as goal

pub returns-clause-empty : goal.returns-clause-empty
returns-clause-empty g c = loaded_cleared c.args.declared.now (map (λ b. (goal.Engine-dyn g (b.vtable, b.value)).seen b.value) c.args.engines.now) (map (λ b. (goal.Engine-dyn g (b.vtable, b.value)).seen b.value) c.clear_each.new.engines) c.clear_each.ensures c.requires.0 c.requires.1 c.puts_stay_parted.ensures.nothing

pub returns-clause-gone : goal.returns-clause-gone
returns-clause-gone g c = cleared_gone _ (map (λ b. (goal.Engine-dyn g (b.vtable, b.value)).seen b.value) c.args.engines.now) (map (λ b. (goal.Engine-dyn g (b.vtable, b.value)).seen b.value) c.clear_each.new.engines) c.clear_each.ensures

pub clear_each-requires-clause-inside : goal.clear_each-requires-clause-inside
clear_each-requires-clause-inside g c =
    let many = c.requires.1.parts.boxes.many in
    let size = length-map c.args.engines.now (λ b. (goal.Engine-dyn g (b.vtable, b.value)).seen b.value) in
    omega (arith, many, size)

pub clear_each-requires-clause-unasked : goal.clear_each-requires-clause-unasked
clear_each-requires-clause-unasked g c = c.requires.1.unasked
