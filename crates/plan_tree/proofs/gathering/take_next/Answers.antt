use Rattle.plan_tree.proofs.Numbers.{map_length}
use Rattle.plan_tree.proofs.Taking.{may_take, taken_on}
use Rattle.plan_tree.proofs.gathering.take_next.Goals as goal

pub advance-requires : goal.advance-requires
advance-requires g c = may_take c.args.patterns.now _ c.args.exchange.now.places c.args.place c.requires.0 c.requires.1

pub returns-clause-taken : goal.returns-clause-taken
returns-clause-taken g c =
    let e = c.advance.ensures in
    taken_on c.unions_are_sets.ensures.set c.steps_are_well_formed.ensures.settled c.steps_are_well_formed.ensures.taken c.args.patterns.now _ _ c.args.exchange.now.places c.advance.new.self.places c.args.place
    (map_length (λ b. (goal.Engine-dyn g (b.vtable, b.value)).seen b.value) c.advance.new.engines c.args.engines.now e.len) e.grown c.advance.result e.stand e.lent e.told e.inside e.same_ask

pub returns-clause-run : goal.returns-clause-run
returns-clause-run g c =
    let e = c.advance.ensures in
    record { gone = record { many = map_length (λ b. (goal.Engine-dyn g (b.vtable, b.value)).seen b.value) c.advance.new.engines c.args.engines.now e.len; grown = e.grown; calm = e.calm; fault = e.fault }; asked = e.asked }
