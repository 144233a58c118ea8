use Rattle.std.proofs.Common.{◌≡◌, ◌∙◌, ◌<◌, ◌≤◌, ◌+◌, ◌^◌, List, [], ◌∷◌, ap, arith, drop, false, length, map, refl, rules, subst, sym, take}
use Rattle.std.specs.Prelude.{Err, IsOk, ⊤}
use Rattle.std.specs.List.{AllByRecursion}
use Rattle.std.proofs.lemmas.List.{length-map}
use Rattle.script_check.specs.Verdicts.{HasItsPatterns, PatternList}
use Rattle.script_read.specs.Series.{LabelList}
use Rattle.script_read.specs.declared.script.Command.{Command}
use Rattle.test_runner.specs.Boxes.{AllTell, AreSound, Carry}
use Rattle.test_runner.specs.Loading.{MayPut}
use Rattle.test_runner.specs.Loads.{left_by}
use Rattle.test_runner.specs.Verdicts.{IsNoEvaluation}
use Rattle.test_runner.specs.Parts.{HoldParts}
use Rattle.test_runner.specs.Running.{CarriedOut, IfCut, WasCutOff}
use Rattle.test_runner.proofs.Beginning.{quiet_carried}
use Rattle.test_runner.proofs.Carrying.{at_drop}
use Rattle.test_runner.proofs.Engines.{carried_more, idle_still, idle_then, ran_cut, ran_more, ran_stopped, ran_whole, taken_next}
use Rattle.test_runner.proofs.Serving.{all_calm, all_on, all_serve, all_stay, all_still, faulted_since, leaves_since, sound_since, tell_since}
use Rattle.test_runner.proofs.over.run_commands_over.Goals as goal

pub loop-i-init : goal.loop-i-init
loop-i-init g c = record {
  many = refl;
  stays = all_stay (map (λ b. (goal.Engine-dyn g (b.vtable, b.value)).seen b.value) c.args.engines.now.items);
  labels = refl;
  mid = ([], c.requires.empty, refl);
  ran = λ tell. quiet_carried _ _ _ _ [] [] [] _ _ tt refl refl refl;
  few = omega arith;
  rests = λ _. refl;
  kept = c.requires.kept;
  same = refl;
  later = omega arith;
  sound = λ s. s;
  unmoved = idle_still c.args.work.now;
}

pub run_command_over-requires-clause-kept : goal.run_command_over-requires-clause-kept
run_command_over-requires-clause-kept g c =
    let all = c.args.commands.now in
    let i = c.loop-i.i in
    let command = c.index-commands-i.result in
    let within = c.requires.within in
    let going = c.loop-i-test.true in
    let lt : i < length all = omega (arith, within, going) in
    let is = c.index-commands-i.is in
    let inv = c.loop-i.invariant in
    let mid = inv.mid.0 in
    let d = c.args.declared.now in
    let has = subst (AllByRecursion (λ (one : Command). HasItsPatterns c.args.searches.now one.what)) (at_drop all i command lt is) inv.kept in
    subst (λ (k : PatternList). HasItsPatterns k command.what) (sym inv.same) has.0

pub run_command_over-requires-clause-some : goal.run_command_over-requires-clause-some
run_command_over-requires-clause-some g c = subst (λ (l : List LabelList). 0 < length l) (sym c.loop-i.invariant.labels) c.requires.some

pub run_command_over-requires-clause-few : goal.run_command_over-requires-clause-few
run_command_over-requires-clause-few g c =
    let was = length-map c.args.engines.now.items (λ b. (goal.Engine-dyn g (b.vtable, b.value)).seen b.value) in
    let now = length-map c.loop-i.engines.items (λ b. (goal.Engine-dyn g (b.vtable, b.value)).seen b.value) in
    omega (arith, was, now, c.loop-i.invariant.many, c.requires.few)

pub run_command_over-requires-clause-many : goal.run_command_over-requires-clause-many
run_command_over-requires-clause-many g c =
    let was = length-map c.args.engines.now.items (λ b. (goal.Engine-dyn g (b.vtable, b.value)).seen b.value) in
    let now = length-map c.loop-i.engines.items (λ b. (goal.Engine-dyn g (b.vtable, b.value)).seen b.value) in
    let same = ap length c.loop-i.invariant.labels in
    omega (arith, was, now, same, c.loop-i.invariant.many, c.requires.many)

pub run_command_over-requires-clause-may : goal.run_command_over-requires-clause-may
run_command_over-requires-clause-may g c =
    let all = c.args.commands.now in
    let i = c.loop-i.i in
    let command = c.index-commands-i.result in
    let within = c.requires.within in
    let going = c.loop-i-test.true in
    let lt : i < length all = omega (arith, within, going) in
    let is = c.index-commands-i.is in
    let inv = c.loop-i.invariant in
    let mid = inv.mid.0 in
    let d = c.args.declared.now in
    (mid, (subst (λ (l : List LabelList). HoldParts l (map (λ b. (goal.Engine-dyn g (b.vtable, b.value)).seen b.value) c.loop-i.engines.items) mid) (sym inv.labels) inv.mid.1), (subst (λ (l : List LabelList). IsOk (left_by l command.what mid)) (sym inv.labels) (taken_next d all i command mid lt is c.requires.taken inv.mid.2)))

pub plus-totals-requires-clause-passed : goal.plus-totals-requires-clause-passed
plus-totals-requires-clause-passed g c = omega (arith, c.loop-i.invariant.few, c.in-Ok.ensures.few, c.loop-i-test.true, c.requires.within, c.requires.short)

pub plus-totals-requires-clause-failed : goal.plus-totals-requires-clause-failed
plus-totals-requires-clause-failed g c = omega (arith, c.loop-i.invariant.few, c.in-Ok.ensures.few, c.loop-i-test.true, c.requires.within, c.requires.short)

pub loop-i-preserved : goal.loop-i-preserved
loop-i-preserved g c =
    let all = c.args.commands.now in
    let i = c.loop-i.i in
    let command = c.index-commands-i.result in
    let within = c.requires.within in
    let going = c.loop-i-test.true in
    let lt : i < length all = omega (arith, within, going) in
    let is = c.index-commands-i.is in
    let inv = c.loop-i.invariant in
    let mid = inv.mid.0 in
    let d = c.args.declared.now in
    let has = subst (AllByRecursion (λ (one : Command). HasItsPatterns c.args.searches.now one.what)) (at_drop all i command lt is) inv.kept in
    let sum = c.plus-totals.ensures in
    record {
      many = c.in-Ok.ensures.boxes.many ∙ inv.many;
      stays = all_on (map (λ b. (goal.Engine-dyn g (b.vtable, b.value)).seen b.value) c.args.engines.now.items) (map (λ b. (goal.Engine-dyn g (b.vtable, b.value)).seen b.value) c.loop-i.engines.items) (map (λ b. (goal.Engine-dyn g (b.vtable, b.value)).seen b.value) c.run_command_over.new.engines.items) inv.stays (all_still (map (λ b. (goal.Engine-dyn g (b.vtable, b.value)).seen b.value) c.loop-i.engines.items) (map (λ b. (goal.Engine-dyn g (b.vtable, b.value)).seen b.value) c.run_command_over.new.engines.items) c.in-Ok.ensures.boxes.boxes c.in-Ok.ensures.calm);
      labels = c.in-Ok.ensures.boxes.labels ∙ inv.labels;
      mid = carried_more d all i command (map (λ b. (goal.Engine-dyn g (b.vtable, b.value)).seen b.value) c.loop-i.engines.items) (map (λ b. (goal.Engine-dyn g (b.vtable, b.value)).seen b.value) c.run_command_over.new.engines.items) lt is c.requires.taken inv.mid (subst (λ (l : List LabelList). Carry l (map (λ b. (goal.Engine-dyn g (b.vtable, b.value)).seen b.value) c.loop-i.engines.items) (map (λ b. (goal.Engine-dyn g (b.vtable, b.value)).seen b.value) c.run_command_over.new.engines.items) (left_by l command.what)) inv.labels c.in-Ok.ensures.carried);
      ran = λ tell. ran_more all i command mid (g.S.Sink.written c.run_command_over.new.out) c.in-Ok.more c.plus-totals.result lt is (inv.ran tell) inv.mid.2 (subst (λ (k : PatternList). CarriedOut c.args.options.now.closed d k c.args.path.now mid (command ∷ []) (g.S.Sink.written c.loop-i.out) (g.S.Sink.written c.run_command_over.new.out) c.in-Ok.more) inv.same (subst (λ (l : List LabelList). CarriedOut c.args.options.now.closed l c.loop-i.searches c.args.path.now mid (command ∷ []) (g.S.Sink.written c.loop-i.out) (g.S.Sink.written c.run_command_over.new.out) c.in-Ok.more) inv.labels (c.in-Ok.ensures.ran mid (subst (λ (l : List LabelList). HoldParts l (map (λ b. (goal.Engine-dyn g (b.vtable, b.value)).seen b.value) c.loop-i.engines.items) mid) (sym inv.labels) inv.mid.1) (subst (λ (l : List LabelList). AllTell (length l) (map (λ b. (goal.Engine-dyn g (b.vtable, b.value)).seen b.value) c.loop-i.engines.items)) (sym inv.labels) (tell_since (map (λ b. (goal.Engine-dyn g (b.vtable, b.value)).seen b.value) c.args.engines.now.items) (map (λ b. (goal.Engine-dyn g (b.vtable, b.value)).seen b.value) c.loop-i.engines.items) inv.many inv.stays (length d) tell)) (subst (λ (l : List LabelList). IsOk (left_by l command.what mid)) (sym inv.labels) (taken_next d all i command mid lt is c.requires.taken inv.mid.2))))) sum.passed sum.failed;
      few = omega (arith, inv.few, c.in-Ok.ensures.few, sum.passed, sum.failed);
      rests = λ none. c.in-Ok.ensures.rests (omega (arith, sum.passed, sum.failed, none)) ∙ inv.rests (omega (arith, sum.passed, sum.failed, none));
      kept = has.1;
      same = c.in-Ok.ensures.same ∙ inv.same;
      later = omega (arith, inv.later, c.in-Ok.ensures.cause.later);
      sound = λ s. c.in-Ok.ensures.sound (inv.sound s);
      unmoved = idle_then c.args.work.now c.loop-i.work c.run_command_over.new.work inv.unmoved c.run_command_over.ensures.unmoved;
    }

pub returns-clause-ran : goal.returns-clause-ran
returns-clause-ran g c = λ tell.
    let inv = c.loop-i.invariant in
    let end : c.loop-i.i ≡ c.args.count = omega arith in
    ran_whole c.args.commands.now c.loop-i.i inv.mid.0 (inv.ran tell) inv.mid.2
    (subst (λ n. AllByRecursion (λ (one : Command). IsNoEvaluation one.what) (drop n c.args.commands.now)) (sym end) c.requires.quiet) c.requires.taken

pub returns-clause-boxes : goal.returns-clause-boxes
returns-clause-boxes g c = record { labels = c.loop-i.invariant.labels; many = c.loop-i.invariant.many; boxes = all_serve (map (λ b. (goal.Engine-dyn g (b.vtable, b.value)).seen b.value) c.args.engines.now.items) (map (λ b. (goal.Engine-dyn g (b.vtable, b.value)).seen b.value) c.loop-i.engines.items) c.loop-i.invariant.stays }

pub returns-clause-calm : goal.returns-clause-calm
returns-clause-calm g c = all_calm (map (λ b. (goal.Engine-dyn g (b.vtable, b.value)).seen b.value) c.args.engines.now.items) (map (λ b. (goal.Engine-dyn g (b.vtable, b.value)).seen b.value) c.loop-i.engines.items) c.loop-i.invariant.stays

pub returns-in-Err-clause-cut : goal.returns-in-Err-clause-cut
returns-in-Err-clause-cut g c = λ tell.
    let all = c.args.commands.now in
    let i = c.loop-i.i in
    let command = c.index-commands-i.result in
    let within = c.requires.within in
    let going = c.loop-i-test.true in
    let lt : i < length all = omega (arith, within, going) in
    let is = c.index-commands-i.is in
    let inv = c.loop-i.invariant in
    let mid = inv.mid.0 in
    let d = c.args.declared.now in
    ran_cut all i command mid (g.S.Sink.written c.run_command_over.new.out) c.in-Err.fault lt is (inv.ran tell) inv.mid.2 (subst (λ (k : PatternList). IfCut c.in-Err.fault (WasCutOff c.args.options.now.closed d k c.args.path.now mid (command ∷ []) (g.S.Sink.written c.loop-i.out) (g.S.Sink.written c.run_command_over.new.out))) inv.same (subst (λ (l : List LabelList). IfCut c.in-Err.fault (WasCutOff c.args.options.now.closed l c.loop-i.searches c.args.path.now mid (command ∷ []) (g.S.Sink.written c.loop-i.out) (g.S.Sink.written c.run_command_over.new.out))) inv.labels (c.in-Err.ensures.cut mid (subst (λ (l : List LabelList). HoldParts l (map (λ b. (goal.Engine-dyn g (b.vtable, b.value)).seen b.value) c.loop-i.engines.items) mid) (sym inv.labels) inv.mid.1) (subst (λ (l : List LabelList). AllTell (length l) (map (λ b. (goal.Engine-dyn g (b.vtable, b.value)).seen b.value) c.loop-i.engines.items)) (sym inv.labels) (tell_since (map (λ b. (goal.Engine-dyn g (b.vtable, b.value)).seen b.value) c.args.engines.now.items) (map (λ b. (goal.Engine-dyn g (b.vtable, b.value)).seen b.value) c.loop-i.engines.items) inv.many inv.stays (length d) tell)))))

pub returns-in-Err-clause-stopped : goal.returns-in-Err-clause-stopped
returns-in-Err-clause-stopped g c = λ tell. ran_stopped c.args.commands.now ⊤ ⊤ c.loop-i.i (g.S.Sink.written c.run_command_over.new.out) c.in-Err.fault (c.loop-i.invariant.ran tell) c.in-Err.ensures.stopped

pub returns-in-Err-clause-unmoved : goal.returns-in-Err-clause-unmoved
returns-in-Err-clause-unmoved g c = idle_then c.args.work.now c.loop-i.work c.run_command_over.new.work c.loop-i.invariant.unmoved c.run_command_over.ensures.unmoved

pub returns-in-Err-clause-boxes : goal.returns-in-Err-clause-boxes
returns-in-Err-clause-boxes g c =
    let inv = c.loop-i.invariant in
    leaves_since (map (λ b. (goal.Engine-dyn g (b.vtable, b.value)).seen b.value) c.args.engines.now.items) (map (λ b. (goal.Engine-dyn g (b.vtable, b.value)).seen b.value) c.loop-i.engines.items) inv.many inv.stays ⊤ (Err c.in-Err.fault) c.args.declared.now c.loop-i.declared c.run_command_over.new.declared (map (λ b. (goal.Engine-dyn g (b.vtable, b.value)).seen b.value) c.run_command_over.new.engines.items) inv.labels c.in-Err.ensures.boxes

pub returns-in-Err-clause-faulted : goal.returns-in-Err-clause-faulted
returns-in-Err-clause-faulted g c = let inv = c.loop-i.invariant in faulted_since (map (λ b. (goal.Engine-dyn g (b.vtable, b.value)).seen b.value) c.args.engines.now.items) (map (λ b. (goal.Engine-dyn g (b.vtable, b.value)).seen b.value) c.loop-i.engines.items) inv.many inv.stays ⊤ (Err c.in-Err.fault) (map (λ b. (goal.Engine-dyn g (b.vtable, b.value)).seen b.value) c.run_command_over.new.engines.items) c.in-Err.ensures.faulted

pub returns-in-Err-clause-sure : goal.returns-in-Err-clause-sure
returns-in-Err-clause-sure g c = λ tell sound.
    let inv = c.loop-i.invariant in
    let d = c.args.declared.now in
    c.in-Err.ensures.sure (subst (λ (l : List LabelList). AllTell (length l) (map (λ b. (goal.Engine-dyn g (b.vtable, b.value)).seen b.value) c.loop-i.engines.items)) (sym inv.labels) (tell_since (map (λ b. (goal.Engine-dyn g (b.vtable, b.value)).seen b.value) c.args.engines.now.items) (map (λ b. (goal.Engine-dyn g (b.vtable, b.value)).seen b.value) c.loop-i.engines.items) inv.many inv.stays (length d) tell)) (subst (λ (l : List LabelList). AreSound (take (length l) (map (λ b. (goal.Engine-dyn g (b.vtable, b.value)).seen b.value) c.loop-i.engines.items))) (sym inv.labels) (sound_since (map (λ b. (goal.Engine-dyn g (b.vtable, b.value)).seen b.value) c.args.engines.now.items) (map (λ b. (goal.Engine-dyn g (b.vtable, b.value)).seen b.value) c.loop-i.engines.items) inv.many inv.stays (length d) sound))
