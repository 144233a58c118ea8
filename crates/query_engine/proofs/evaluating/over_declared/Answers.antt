use Rattle.std.proofs.Common.{◌<◌, ◌≤◌, ap, length, map, refl, subst, sym, take}
use Rattle.std.specs.Prelude.{Err, IfSome, Ok}
use Rattle.promql_meaning.specs.declared.answer.Outcome.{Outcome}
use Rattle.query_engine.specs.Engines.{AreSoundAndTell, named_by}
use Rattle.query_engine.proofs.Boxes.{map_size}
use Rattle.query_engine.proofs.Lost.{all_calm, all_faulted, all_grown, as_many, lost, lost_last, named_boxes, named_inside, none_at_fault, none_lost, seen_moved}
use Rattle.query_engine.proofs.evaluating.over_declared.Goals as goal

pub returns-in-Ok-clause-outcome : goal.returns-in-Ok-clause-outcome
returns-in-Ok-clause-outcome g c = λ samples stand. c.in-Ok.ensures.outcome c.args.declared.now samples (sym (ap length c.as_slice-count.ensures)) stand

pub returns-in-Ok-clause-kept : goal.returns-in-Ok-clause-kept
returns-in-Ok-clause-kept g c =
    let es = map (λ b. (goal.Engine-dyn g (b.vtable, b.value)).seen b.value) c.args.engines.now in
    let fs = map (λ b. (goal.Engine-dyn g (b.vtable, b.value)).seen b.value) c.over_first.new.engines in
    none_lost es fs
    (as_many (λ b. (goal.Engine-dyn g (b.vtable, b.value)).seen b.value) (length c.as_slice-count.result.now) c.args.engines.now c.over_first.new.engines c.over_first.result c.over_first.ensures.run c.over_first.ensures.rest c.over_first.ensures.many)
    (all_grown (λ b. (goal.Engine-dyn g (b.vtable, b.value)).seen b.value) (length c.as_slice-count.result.now) c.args.engines.now c.over_first.new.engines c.over_first.result c.over_first.ensures.run c.over_first.ensures.rest c.over_first.ensures.many)
    c.args.declared.now c.args.declared.now refl

pub lose-requires-clause-named : goal.lose-requires-clause-named
lose-requires-clause-named g c =
    subst (λ n. IfSome (named_by c.in-Err.fault) (λ i. i < n)) (ap length c.as_slice-count.ensures) (named_inside (λ b. (goal.Engine-dyn g (b.vtable, b.value)).seen b.value) (length c.as_slice-count.result.now) c.args.engines.now c.over_first.new.engines (Err c.in-Err.fault) c.in-Err.ensures.run)

pub lose-requires-clause-boxes : goal.lose-requires-clause-boxes
lose-requires-clause-boxes g c =
    named_boxes c.in-Err.fault (length c.args.declared.now) (length c.over_first.new.engines) (subst (λ n. length c.args.declared.now ≤ n) (sym c.over_first.ensures.many) c.requires.boxes)
    (subst (λ n. IfSome (named_by c.in-Err.fault) (λ i. i < n)) (ap length c.as_slice-count.ensures) (named_inside (λ b. (goal.Engine-dyn g (b.vtable, b.value)).seen b.value) (length c.as_slice-count.result.now) c.args.engines.now c.over_first.new.engines (Err c.in-Err.fault) c.in-Err.ensures.run))

pub returns-in-Err-clause-kept : goal.returns-in-Err-clause-kept
returns-in-Err-clause-kept g c =
    let es = map (λ b. (goal.Engine-dyn g (b.vtable, b.value)).seen b.value) c.args.engines.now in
    let fs = map (λ b. (goal.Engine-dyn g (b.vtable, b.value)).seen b.value) c.over_first.new.engines in
    let gs = map (λ b. (goal.Engine-dyn g (b.vtable, b.value)).seen b.value) c.lose.new.engines in
    lost es fs
    (as_many (λ b. (goal.Engine-dyn g (b.vtable, b.value)).seen b.value) (length c.as_slice-count.result.now) c.args.engines.now c.over_first.new.engines (Err c.in-Err.fault) c.in-Err.ensures.run c.over_first.ensures.rest c.over_first.ensures.many)
    (all_grown (λ b. (goal.Engine-dyn g (b.vtable, b.value)).seen b.value) (length c.as_slice-count.result.now) c.args.engines.now c.over_first.new.engines (Err c.in-Err.fault) c.in-Err.ensures.run c.over_first.ensures.rest c.over_first.ensures.many)
    c.in-Err.fault c.args.declared.now c.lose.new.declared gs (subst (λ n. length c.args.declared.now ≤ n) (sym (map_size (λ b. (goal.Engine-dyn g (b.vtable, b.value)).seen b.value) c.args.engines.now)) c.requires.boxes)
    (subst (λ n. IfSome (named_by c.in-Err.fault) (λ i. i < n)) (ap length c.as_slice-count.ensures) (named_inside (λ b. (goal.Engine-dyn g (b.vtable, b.value)).seen b.value) (length c.as_slice-count.result.now) c.args.engines.now c.over_first.new.engines (Err c.in-Err.fault) c.in-Err.ensures.run))
    c.lose.ensures.labels (seen_moved (λ b. (goal.Engine-dyn g (b.vtable, b.value)).seen b.value) (named_by c.in-Err.fault) c.over_first.new.engines c.lose.new.engines c.lose.ensures.boxes)

pub returns-in-Err-clause-faulted : goal.returns-in-Err-clause-faulted
returns-in-Err-clause-faulted g c =
    let es = map (λ b. (goal.Engine-dyn g (b.vtable, b.value)).seen b.value) c.args.engines.now in
    let fs = map (λ b. (goal.Engine-dyn g (b.vtable, b.value)).seen b.value) c.over_first.new.engines in
    let gs = map (λ b. (goal.Engine-dyn g (b.vtable, b.value)).seen b.value) c.lose.new.engines in
    lost_last es fs
    (as_many (λ b. (goal.Engine-dyn g (b.vtable, b.value)).seen b.value) (length c.as_slice-count.result.now) c.args.engines.now c.over_first.new.engines (Err c.in-Err.fault) c.in-Err.ensures.run c.over_first.ensures.rest c.over_first.ensures.many)
    (all_grown (λ b. (goal.Engine-dyn g (b.vtable, b.value)).seen b.value) (length c.as_slice-count.result.now) c.args.engines.now c.over_first.new.engines (Err c.in-Err.fault) c.in-Err.ensures.run c.over_first.ensures.rest c.over_first.ensures.many)
    Outcome c.in-Err.fault gs (seen_moved (λ b. (goal.Engine-dyn g (b.vtable, b.value)).seen b.value) (named_by c.in-Err.fault) c.over_first.new.engines c.lose.new.engines c.lose.ensures.boxes)
    (all_faulted (λ b. (goal.Engine-dyn g (b.vtable, b.value)).seen b.value) (length c.as_slice-count.result.now) c.args.engines.now c.over_first.new.engines (Err c.in-Err.fault) c.in-Err.ensures.run c.over_first.ensures.rest c.over_first.ensures.many)

pub returns-in-Err-clause-never : goal.returns-in-Err-clause-never
returns-in-Err-clause-never g c = λ good.
    let es = map (λ b. (goal.Engine-dyn g (b.vtable, b.value)).seen b.value) c.args.engines.now in
    none_at_fault (λ b. (goal.Engine-dyn g (b.vtable, b.value)).seen b.value) (length c.as_slice-count.result.now) c.args.engines.now c.over_first.new.engines (Err c.in-Err.fault) c.in-Err.ensures.run
    (subst (λ n. AreSoundAndTell (take n es)) (sym (ap length c.as_slice-count.ensures)) good)

pub returns-in-Ok-clause-calm : goal.returns-in-Ok-clause-calm
returns-in-Ok-clause-calm g c =
    all_calm (λ b. (goal.Engine-dyn g (b.vtable, b.value)).seen b.value) (length c.as_slice-count.result.now) c.args.engines.now c.over_first.new.engines (Ok c.in-Ok.outcome) c.in-Ok.ensures.run c.over_first.ensures.rest c.over_first.ensures.many
