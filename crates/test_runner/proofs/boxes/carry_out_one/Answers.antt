use Rattle.std.proofs.Common.{arith, map}
use Rattle.std.proofs.lemmas.List.{length-map}
use Rattle.test_runner.specs.Loads.{left_by}
use Rattle.test_runner.specs.Parts.{MayBeLoaded}
use Rattle.test_runner.proofs.Gone.{begun_gone, gone_then}
use Rattle.test_runner.proofs.Parts.{begun_may, begun_put}
use Rattle.test_runner.proofs.boxes.carry_out_one.Goals as goal

pub load_one_of-requires : goal.load_one_of-requires
load_one_of-requires g c = begun_may c.args.declared.now (map (λ b. (goal.Engine-dyn g (b.vtable, b.value)).seen b.value) c.args.engines.now) (map (λ b. (goal.Engine-dyn g (b.vtable, b.value)).seen b.value) c.begin_each.new.engines) (left_by c.args.declared.now c.args.what.now) c.begin_each.ensures c.requires

pub returns-clause-put : goal.returns-clause-put
returns-clause-put g c =
    begun_put _ c.args.declared.now (map (λ b. (goal.Engine-dyn g (b.vtable, b.value)).seen b.value) c.args.engines.now) (map (λ b. (goal.Engine-dyn g (b.vtable, b.value)).seen b.value) c.begin_each.new.engines) (MayBeLoaded c.args.declared.now (map (λ b. (goal.Engine-dyn g (b.vtable, b.value)).seen b.value) c.load_one_of.new.engines)) (left_by c.args.declared.now c.args.what.now) c.load_one_of.result c.begin_each.ensures c.load_one_of.ensures.put

pub returns-clause-gone : goal.returns-clause-gone
returns-clause-gone g c =
    let es = (map (λ b. (goal.Engine-dyn g (b.vtable, b.value)).seen b.value) c.args.engines.now) in
    let ds = (map (λ b. (goal.Engine-dyn g (b.vtable, b.value)).seen b.value) c.begin_each.new.engines) in
    gone_then _ _ es ds (begun_gone _ es ds c.begin_each.ensures) _ _ (map (λ b. (goal.Engine-dyn g (b.vtable, b.value)).seen b.value) c.load_one_of.new.engines) c.load_one_of.ensures.gone

pub begin_each-requires : goal.begin_each-requires
begin_each-requires g c =
    let many = c.requires.1.boxes.many in
    let size = length-map c.args.engines.now (λ b. (goal.Engine-dyn g (b.vtable, b.value)).seen b.value) in
    omega (arith, many, size)
