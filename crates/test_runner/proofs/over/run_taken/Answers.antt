use Rattle.std.proofs.Common.{◌≡◌, ◌≤◌, [], ap, arith, drop, length, map, refl, rules, subst, sym, take}
use Rattle.std.specs.List.{AllByRecursion}
use Rattle.std.proofs.lemmas.List.{length-map}
use Rattle.script_read.specs.declared.script.Command.{Command}
use Rattle.test_runner.specs.Loads.{left_by_all}
use Rattle.test_runner.specs.Verdicts.{IsNoEvaluation}
use Rattle.test_runner.proofs.Beginning.{quiet_carried}
use Rattle.test_runner.proofs.Engines.{calm_on, idle_still, is_left}
use Rattle.test_runner.proofs.Serving.{all_calm, all_serve, all_stay, faulted_since, leaves_since, sound_since, tell_since}
use Rattle.test_runner.proofs.over.run_taken.Goals as goal

pub returns-then-count-eq0-clause-ran : goal.returns-then-count-eq0-clause-ran
returns-then-count-eq0-clause-ran g c = λ tell.
    let none : c.count_to_last-count.result ≡ 0 = search rules in
    let left = is_left (left_by_all c.args.declared.now c.args.commands.now []) c.requires.taken in
    quiet_carried _ _ _ _ c.args.commands.now [] left.0 _ _ (subst (λ n. AllByRecursion (λ (one : Command). IsNoEvaluation one.what) (drop n c.args.commands.now)) none c.count_to_last-count.ensures.quiet) left.1 refl refl

pub returns-then-count-eq0-clause-unmoved : goal.returns-then-count-eq0-clause-unmoved
returns-then-count-eq0-clause-unmoved g c = idle_still c.args.work.now

pub returns-then-count-eq0-clause-boxes : goal.returns-then-count-eq0-clause-boxes
returns-then-count-eq0-clause-boxes g c = record { labels = refl; many = refl; boxes = all_serve (map (λ b. (goal.Engine-dyn g (b.vtable, b.value)).seen b.value) c.args.engines.now.items) (map (λ b. (goal.Engine-dyn g (b.vtable, b.value)).seen b.value) c.args.engines.now.items) (all_stay (map (λ b. (goal.Engine-dyn g (b.vtable, b.value)).seen b.value) c.args.engines.now.items)) }

pub returns-then-count-eq0-clause-calm : goal.returns-then-count-eq0-clause-calm
returns-then-count-eq0-clause-calm g c = all_calm (map (λ b. (goal.Engine-dyn g (b.vtable, b.value)).seen b.value) c.args.engines.now.items) (map (λ b. (goal.Engine-dyn g (b.vtable, b.value)).seen b.value) c.args.engines.now.items) (all_stay (map (λ b. (goal.Engine-dyn g (b.vtable, b.value)).seen b.value) c.args.engines.now.items))

pub run_commands_over-requires-clause-few : goal.run_commands_over-requires-clause-few
run_commands_over-requires-clause-few g c =
    let now = length-map c.drop_before.new.engines.items (λ b. (goal.Engine-dyn g (b.vtable, b.value)).seen b.value) in
    omega (arith, now, c.drop_before.ensures.many, c.requires.ready.few)

pub run_commands_over-requires-clause-many : goal.run_commands_over-requires-clause-many
run_commands_over-requires-clause-many g c =
    let now = length-map c.drop_before.new.engines.items (λ b. (goal.Engine-dyn g (b.vtable, b.value)).seen b.value) in
    omega (arith, now, c.drop_before.ensures.many, c.requires.ready.boxes)

pub returns-clause-ran : goal.returns-clause-ran
returns-clause-ran g c = λ tell. c.run_commands_over.ensures.ran (tell_since (map (λ b. (goal.Engine-dyn g (b.vtable, b.value)).seen b.value) c.args.engines.now.items) (map (λ b. (goal.Engine-dyn g (b.vtable, b.value)).seen b.value) c.drop_before.new.engines.items) c.drop_before.ensures.many c.drop_before.ensures.stays (length c.args.declared.now) tell)

pub returns-clause-cut : goal.returns-clause-cut
returns-clause-cut g c = λ tell. c.run_commands_over.ensures.cut (tell_since (map (λ b. (goal.Engine-dyn g (b.vtable, b.value)).seen b.value) c.args.engines.now.items) (map (λ b. (goal.Engine-dyn g (b.vtable, b.value)).seen b.value) c.drop_before.new.engines.items) c.drop_before.ensures.many c.drop_before.ensures.stays (length c.args.declared.now) tell)

pub returns-clause-stopped : goal.returns-clause-stopped
returns-clause-stopped g c = λ tell. c.run_commands_over.ensures.stopped (tell_since (map (λ b. (goal.Engine-dyn g (b.vtable, b.value)).seen b.value) c.args.engines.now.items) (map (λ b. (goal.Engine-dyn g (b.vtable, b.value)).seen b.value) c.drop_before.new.engines.items) c.drop_before.ensures.many c.drop_before.ensures.stays (length c.args.declared.now) tell)

pub returns-clause-boxes : goal.returns-clause-boxes
returns-clause-boxes g c = leaves_since (map (λ b. (goal.Engine-dyn g (b.vtable, b.value)).seen b.value) c.args.engines.now.items) (map (λ b. (goal.Engine-dyn g (b.vtable, b.value)).seen b.value) c.drop_before.new.engines.items) c.drop_before.ensures.many c.drop_before.ensures.stays _ c.run_commands_over.result c.args.declared.now c.args.declared.now c.run_commands_over.new.declared (map (λ b. (goal.Engine-dyn g (b.vtable, b.value)).seen b.value) c.run_commands_over.new.engines.items) refl c.run_commands_over.ensures.boxes

pub returns-clause-faulted : goal.returns-clause-faulted
returns-clause-faulted g c = faulted_since (map (λ b. (goal.Engine-dyn g (b.vtable, b.value)).seen b.value) c.args.engines.now.items) (map (λ b. (goal.Engine-dyn g (b.vtable, b.value)).seen b.value) c.drop_before.new.engines.items) c.drop_before.ensures.many c.drop_before.ensures.stays _ c.run_commands_over.result (map (λ b. (goal.Engine-dyn g (b.vtable, b.value)).seen b.value) c.run_commands_over.new.engines.items) c.run_commands_over.ensures.faulted

pub returns-clause-calm : goal.returns-clause-calm
returns-clause-calm g c = calm_on c.run_commands_over.result (map (λ b. (goal.Engine-dyn g (b.vtable, b.value)).seen b.value) c.args.engines.now.items) (map (λ b. (goal.Engine-dyn g (b.vtable, b.value)).seen b.value) c.drop_before.new.engines.items) (map (λ b. (goal.Engine-dyn g (b.vtable, b.value)).seen b.value) c.run_commands_over.new.engines.items) c.drop_before.ensures.stays c.run_commands_over.ensures.calm

pub returns-clause-sure : goal.returns-clause-sure
returns-clause-sure g c = λ tell sound.
    c.run_commands_over.ensures.sure (tell_since (map (λ b. (goal.Engine-dyn g (b.vtable, b.value)).seen b.value) c.args.engines.now.items) (map (λ b. (goal.Engine-dyn g (b.vtable, b.value)).seen b.value) c.drop_before.new.engines.items) c.drop_before.ensures.many c.drop_before.ensures.stays (length c.args.declared.now) tell) (sound_since (map (λ b. (goal.Engine-dyn g (b.vtable, b.value)).seen b.value) c.args.engines.now.items) (map (λ b. (goal.Engine-dyn g (b.vtable, b.value)).seen b.value) c.drop_before.new.engines.items) c.drop_before.ensures.many c.drop_before.ensures.stays (length c.args.declared.now) sound)
