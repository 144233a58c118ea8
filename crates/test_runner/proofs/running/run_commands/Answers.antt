use Rattle.std.proofs.Common.{◌≡◌, ◌+◌, List, [], ◌∷◌, ap, drop, take, take-append-drop, length, subst, sym, ◌∙◌, refl, Ok, Err, arith, rules}
use Rattle.std.proofs.lemmas.List.{length-take}
use Rattle.std.proofs.lemmas.Result.{err_from_is_err_and}
use Rattle.std.specs.List.{AllByRecursion}
use Rattle.script_check.specs.Verdicts.{HasItsPatterns, PatternList}
use Rattle.script_read.specs.declared.script.Command.{Command}
use Rattle.test_runner.specs.Begun.{HasBegun}
use Rattle.test_runner.specs.Loads.{left_by, left_by_all}
use Rattle.test_runner.specs.Running.{CarriedOut, IfCut, WasCutOff}
use Rattle.test_runner.specs.Spending.{CommandsSpend, ended, further}
use Rattle.test_runner.proofs.Carrying.{at_drop, at_take, carried_join, cut_join, cut_on, explained_on, few_counted, left_more, left_refused, parted}
use Rattle.test_runner.proofs.Beginning.{quiet_carried, quiet_spend, rest_holds}
use Rattle.test_runner.proofs.Spending.{cut_there}
use Rattle.test_runner.proofs.running.run_commands.Goals as goal

pub loop-i-init : goal.loop-i-init
loop-i-init g c =
    let all = c.as_slice-commands.result.now in
    let done = c.args.begun.done in
    let begun : HasBegun all c.args.begun.store done = subst (λ (cs : List Command). HasBegun cs c.args.begun.store done) (sym c.as_slice-commands.ensures) c.requires.begun in
    record {
      ran = quiet_carried _ [] _ _ (take done all) [] c.args.begun.store _ _ begun.quiet begun.left refl refl;
      left = begun.left;
      rests = λ _. refl;
      kept = rest_holds (λ (one : Command). HasItsPatterns c.args.searches.now one.what) done all (subst (AllByRecursion (λ (one : Command). HasItsPatterns c.args.searches.now one.what)) (sym c.as_slice-commands.ensures) c.requires.kept);
      same = search rules;
      later = search rules;
      sound = search rules;
      spent = λ after more. subst (λ (cs : List Command). CommandsSpend c.args.options.now [] cs c.args.work.now after) (take-append-drop done all)
          (quiet_spend c.args.options.now (take done all) (drop done all) [] c.args.begun.store c.args.work.now after begun.quiet begun.left more);
    }

pub run_command-requires-clause-kept : goal.run_command-requires-clause-kept
run_command-requires-clause-kept g c =
    let command = c.index-commands-i.result in
    let kept = c.args.searches.now in
    let front = at_drop c.as_slice-commands.result.now c.loop-i.i command c.loop-i-test.true c.index-commands-i.is in
    let has = subst (AllByRecursion (λ (one : Command). HasItsPatterns kept one.what)) front c.loop-i.invariant.kept in
    subst (λ (k : PatternList). HasItsPatterns k command.what) (sym c.loop-i.invariant.same) has.0

pub plus-totals-requires-clause-passed : goal.plus-totals-requires-clause-passed
plus-totals-requires-clause-passed g c =
    let sofar = few_counted c.loop-i.invariant.ran in
    let one = few_counted c.in_ok-more.ensures.ran in
    let size = length-take c.loop-i.i c.as_slice-commands.result.now in
    let all = ap length c.as_slice-commands.ensures in
    omega (arith, sofar, one, size, all, c.requires.few, c.loop-i-test.true)

pub plus-totals-requires-clause-failed : goal.plus-totals-requires-clause-failed
plus-totals-requires-clause-failed g c =
    let sofar = few_counted c.loop-i.invariant.ran in
    let one = few_counted c.in_ok-more.ensures.ran in
    let size = length-take c.loop-i.i c.as_slice-commands.result.now in
    let all = ap length c.as_slice-commands.ensures in
    omega (arith, sofar, one, size, all, c.requires.few, c.loop-i-test.true)

pub loop-i-preserved : goal.loop-i-preserved
loop-i-preserved g c =
    let all = c.as_slice-commands.result.now in
    let i = c.loop-i.i in
    let command = c.index-commands-i.result in
    let kept = c.args.searches.now in
    let path = c.args.path.now in
    let mid = c.loop-i.store in
    let sofar = c.loop-i.invariant in
    let between = g.S.Sink.written c.loop-i.out in
    let now = g.S.Sink.written c.run_command.new.out in
    let to = at_take all i command c.loop-i-test.true c.index-commands-i.is in
    let has = subst (AllByRecursion (λ (one : Command). HasItsPatterns kept one.what)) (at_drop all i command c.loop-i-test.true c.index-commands-i.is) sofar.kept in
    let more = subst (λ (k : PatternList). CarriedOut c.args.options.now.closed [] k path mid (command ∷ []) between now c.in_ok-more.more) sofar.same c.in_ok-more.ensures.ran in
    let both = carried_join [] mid (take i all) sofar.ran sofar.left (command ∷ []) c.in_ok-more.more c.plus-totals.result more c.plus-totals.ensures.passed c.plus-totals.ensures.failed in
    record {
      ran = subst (λ (cs : List Command). CarriedOut c.args.options.now.closed [] kept path [] cs (g.S.Sink.written c.args.out.now) now c.plus-totals.result) to both;
      left = subst (λ (cs : List Command). left_by_all [] cs [] ≡ Ok c.run_command.new.store) to (left_more [] (take i all) command [] mid sofar.left c.run_command.new.store c.in_ok-more.ensures.left);
      rests = λ none. c.in_ok-more.ensures.rests (omega (arith, c.plus-totals.ensures.passed, c.plus-totals.ensures.failed, none)) ∙ sofar.rests (omega (arith, c.plus-totals.ensures.passed, c.plus-totals.ensures.failed, none));
      kept = has.1;
      same = c.in_ok-more.ensures.same ∙ sofar.same;
      later = omega (arith, sofar.later, c.in_ok-more.ensures.cause.later);
      sound = λ s. c.in_ok-more.ensures.sound (sofar.sound s);
      spent = λ after rest. sofar.spent after (subst (λ (cs : List Command). CommandsSpend c.args.options.now mid cs c.loop-i.work after) (sym (at_drop all i command c.loop-i-test.true c.index-commands-i.is))
          (further mid c.run_command.new.store command (drop (i + 1) all) c.loop-i.work c.run_command.new.work after c.run_command.ensures.bounded c.in_ok-more.ensures.left rest));
    }

pub returns-in_err-more-clause-bounded : goal.returns-in_err-more-clause-bounded
returns-in_err-more-clause-bounded g c =
    let all = c.as_slice-commands.result.now in
    let i = c.loop-i.i in
    let command = c.index-commands-i.result in
    let options = c.args.options.now in
    let mid = c.loop-i.store in
    let now = c.run_command.new.work in
    let here = cut_there options mid command (drop (i + 1) all) c.loop-i.work now c.run_command.ensures.bounded in
    let rest = subst (λ (cs : List Command). CommandsSpend options mid cs c.loop-i.work now) (sym (at_drop all i command c.loop-i-test.true c.index-commands-i.is)) here in
    subst (λ (cs : List Command). CommandsSpend options [] cs c.args.work.now now) c.as_slice-commands.ensures (c.loop-i.invariant.spent now rest)

pub returns-clause-bounded : goal.returns-clause-bounded
returns-clause-bounded g c =
    let all = c.as_slice-commands.result.now in
    let now = c.loop-i.work in
    subst (λ (cs : List Command). CommandsSpend c.args.options.now [] cs c.args.work.now now) c.as_slice-commands.ensures
    (c.loop-i.invariant.spent now (ended c.loop-i.store (drop c.loop-i.i all) now))

pub returns-in_err-more-clause-cut : goal.returns-in_err-more-clause-cut
returns-in_err-more-clause-cut g c =
    let all = c.as_slice-commands.result.now in
    let i = c.loop-i.i in
    let command = c.index-commands-i.result in
    let kept = c.args.searches.now in
    let path = c.args.path.now in
    let mid = c.loop-i.store in
    let sofar = c.loop-i.invariant in
    let before = g.S.Sink.written c.args.out.now in
    let between = g.S.Sink.written c.loop-i.out in
    let now = g.S.Sink.written c.run_command.new.out in
    let fault = c.in_err-more.field-0.0 in
    let p = err_from_is_err_and c.from_residual.result c.from_residual.ensures.1 in
    let here = subst (λ (k : PatternList). IfCut fault (WasCutOff c.args.options.now.closed [] k path mid (command ∷ []) between now)) sofar.same c.in_err-more.ensures.cut in
    let whole = parted all i command c.loop-i-test.true c.index-commands-i.is ∙ c.as_slice-commands.ensures in
    rw (p.1, p.2) (cut_on fault (WasCutOff c.args.options.now.closed [] kept path mid (command ∷ []) between now) (WasCutOff c.args.options.now.closed [] kept path [] c.args.script.now.commands before now) here
    (λ cut. subst (λ (cs : List Command). WasCutOff c.args.options.now.closed [] kept path [] cs before now) whole (cut_join [] mid (take i all) sofar.ran sofar.left (command ∷ []) (drop (i + 1) all) cut)))

pub returns-in_err-more-clause-explained : goal.returns-in_err-more-clause-explained
returns-in_err-more-clause-explained g c =
    let all = c.as_slice-commands.result.now in
    let i = c.loop-i.i in
    let command = c.index-commands-i.result in
    let mid = c.loop-i.store in
    let fault = c.in_err-more.field-0.0 in
    let p = err_from_is_err_and c.from_residual.result c.from_residual.ensures.1 in
    let whole = parted all i command c.loop-i-test.true c.index-commands-i.is ∙ c.as_slice-commands.ensures in
    rw (p.1, p.2) (explained_on (left_by [] command.what mid) (left_by_all [] c.args.script.now.commands []) fault c.in_err-more.ensures.explained
    (λ h. subst (λ (cs : List Command). left_by_all [] cs [] ≡ Err fault) whole (left_refused [] (take i all) command [] mid c.loop-i.invariant.left (drop (i + 1) all) fault h)))

pub returns-in_err-more-clause-sure : goal.returns-in_err-more-clause-sure
returns-in_err-more-clause-sure g c =
    let p = err_from_is_err_and c.from_residual.result c.from_residual.ensures.1 in
    rw (p.1, p.2) c.in_err-more.ensures.sure
