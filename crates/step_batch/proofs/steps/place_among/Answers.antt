use Rattle.std.proofs.Common.{get_or, ◌<◌, ◌≤◌, ◌-◌, arith, rules}
use Rattle.step_batch.proofs.Slots.{insert_there, one_more_behind, all_earlier, here_is, none_behind}
use Rattle.step_batch.proofs.steps.place_among.Goals as goal

pub loop-i-init : goal.loop-i-init
loop-i-init c = record {
  within = search rules;
  behind = λ j s l h. absurd (none_behind c.args.slots.now j s (search rules) h);
}

pub returns-then-slots-i-clause-there : goal.returns-then-slots-i-clause-there
returns-then-slots-i-clause-there c = λ value.
    let w : 0 < c.loop-i.i = c.loop-i-test.true in
    let at = here_is c.args.slots.now (c.loop-i.i - 1) c.index-slots-i.result (let h = c.loop-i.invariant.within in omega arith) in
    insert_there c.args.slots.now c.loop-i.i c.args.place value c.loop-i.invariant.within c.loop-i.invariant.behind
    (all_earlier c.requires.rising.0 c.args.slots.now c.loop-i.i c.args.place (get_or c.args.slots.now (c.loop-i.i - 1) c.index-slots-i.result) c.requires.rising.1 w at c.if-slots-i.true)

pub loop-i-preserved : goal.loop-i-preserved
loop-i-preserved c =
    let w : 0 < c.loop-i.i = c.loop-i-test.true in
    let at = here_is c.args.slots.now (c.loop-i.i - 1) c.index-slots-i.result (let h = c.loop-i.invariant.within in omega arith) in
    record {
      within = let h = c.loop-i.invariant.within in omega arith;
      behind = one_more_behind c.args.slots.now c.loop-i.i c.args.place (get_or c.args.slots.now (c.loop-i.i - 1) c.index-slots-i.result) w at c.if-slots-i.false c.loop-i.invariant.behind;
    }

pub returns-clause-there : goal.returns-clause-there
returns-clause-there c = λ value.
    insert_there c.args.slots.now c.loop-i.i c.args.place value c.loop-i.invariant.within c.loop-i.invariant.behind (λ j s l h. let z : c.loop-i.i ≤ 0 = c.loop-i-test.false in absurd (omega arith))
