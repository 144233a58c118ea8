-- Commands carried out one after another.
use Rattle.std.proofs.Common.{◌≡◌, ◌⊎◌, ⊎_elim, ◌<◌, ◌≤◌, ℕ, ◌+◌, Bool, true, false, cond, not, List, [], ◌∷◌, ◌++◌, map, drop, take, get_or, length, Option, Result, Ok, Err, IfErr, refl, sym, ap, ◌∙◌, subst, append_assoc, take-append-drop, arith}
use Rattle.std.specs.List.{filter}
use Rattle.std.proofs.lemmas.List.{append-nil, drop_more, take_more, length-map}
use Rattle.std.proofs.lemmas.List.Concat.{flat_map-append}
use Rattle.std.proofs.lemmas.List.Filters.{length-filter_both}
use Rattle.std.proofs.lemmas.List.Sums.{count_by-le-length, length-filter, sum_by-append, sum_by-cons}
use Rattle.edge_io.specs.Written.{appended, WroteFront}
use Rattle.sample_store.specs.Samples.{AllSeries}
use Rattle.script_check.specs.Verdicts.{PatternList}
use Rattle.ticks.specs.declared.grid.Grid.{Grid}
use Rattle.ticks.specs.declared.moment.Ms.{Ms}
use Rattle.script_read.specs.Outcomes.{then_try}
use Rattle.script_read.specs.Series.{LabelList}
use Rattle.script_read.specs.declared.script.Command.{Command}
use Rattle.script_read.specs.declared.script.Expectations.{Expectations}
use Rattle.script_read.specs.declared.script.SeriesLine.{SeriesLine}
use Rattle.script_read.specs.declared.script.What.{What}
use Rattle.script_read.specs.declared.script.What.TheVariants.{Clear, Load, Eval}
use Rattle.test_runner.specs.Lines.{failed_in, has_passed, lines_text, passed_in, verdict_text}
use Rattle.test_runner.specs.Loads.{left_by, left_by_all}
use Rattle.test_runner.specs.Running.{CarriedOut, IfCut, IfOfLoads, WasCutOff}
use Rattle.test_runner.specs.Steps.{IsLine, WroteLess, WroteLine, nothing, partly}
use Rattle.test_runner.specs.Verdicts.{AreVerdicts, IsJudgement, IsNoEvaluation, Judged, ended, changed, evaluated, evaluation_lines, is_evaluation}
use Rattle.test_runner.specs.declared.fault.RunnerFault.{RunnerFault}
use Rattle.test_runner.specs.declared.fault.RunnerFault.TheVariants.{Refused, Range, Run, Write, Memory}
use Rattle.test_runner.specs.declared.totals.Totals.{Totals}
use Rattle.edge_io.specs.Fronts.{appended-appended, appended-nil, front_last, front_none}
use Rattle.holders.specs.Answers.{on_err}

-- ---- what commands leave

tried : (r : Result AllSeries RunnerFault) (f g h : AllSeries → Result AllSeries RunnerFault) → ((s : AllSeries) → f s ≡ then_try (g s) h) → then_try r f ≡ then_try (then_try r g) h
tried (Err fault) f g h same = refl
tried (Ok s) f g h same = same s

pub left_join : (declared : List LabelList) (xs ys : List Command) (series : AllSeries) → left_by_all declared (xs ++ ys) series ≡ then_try (left_by_all declared xs series) (left_by_all declared ys)
left_join declared [] ys series = refl
left_join declared (x ∷ xs) ys series = tried (left_by declared x.what series) (left_by_all declared (xs ++ ys)) (left_by_all declared xs) (left_by_all declared ys) (left_join declared xs ys)

module _ (declared : List LabelList) (xs : List Command) (x : Command) (series mid : AllSeries) (left : left_by_all declared xs series ≡ Ok mid) where
  -- one command more
  pub left_more : (now : AllSeries) → left_by declared x.what mid ≡ Ok now → left_by_all declared (xs ++ x ∷ []) series ≡ Ok now
  left_more now h = left_join declared xs (x ∷ []) series ∙ ap (λ (r : Result AllSeries RunnerFault). then_try r (left_by_all declared (x ∷ []))) left ∙ ap (λ (r : Result AllSeries RunnerFault). then_try r (left_by_all declared [])) h

  -- a command that is refused
  pub left_refused : (ys : List Command) (fault : RunnerFault) → left_by declared x.what mid ≡ Err fault → left_by_all declared (xs ++ x ∷ ys) series ≡ Err fault
  left_refused ys fault h = left_join declared xs (x ∷ ys) series ∙ ap (λ (r : Result AllSeries RunnerFault). then_try r (left_by_all declared (x ∷ ys))) left ∙ ap (λ (r : Result AllSeries RunnerFault). then_try r (left_by_all declared ys)) h

-- ---- verdicts

module _ {closed : Bool} {declared : List LabelList} {kept : PatternList} {mid : AllSeries} {ys : List Command} {ws : List Judged} (later : AreVerdicts closed declared kept mid ys ws) where
  -- the verdicts of commands, and of those behind them
  pub verdicts_join : (series : AllSeries) (xs : List Command) (vs : List Judged) → AreVerdicts closed declared kept series xs vs → left_by_all declared xs series ≡ Ok mid → AreVerdicts closed declared kept series (xs ++ ys) (vs ++ ws)
  verdicts_join series xs vs (ended s) left =
      let same : mid ≡ s = cc in
      subst (λ (z : AllSeries). AreVerdicts closed declared kept z ys ws) same later
  verdicts_join series xs vs (changed s now c cs v none put rest) left =
      changed s now c (cs ++ ys) (v ++ ws) none put
      (verdicts_join now cs v rest (ap (λ (r : Result AllSeries RunnerFault). then_try r (left_by_all declared cs)) (sym put) ∙ left))
  verdicts_join series xs vs (evaluated s c grid instant text expected judged cs v what is rest) left =
      evaluated s c grid instant text expected judged (cs ++ ys) (v ++ ws) what is
      (verdicts_join s cs v rest (ap (λ (w : What). then_try (left_by declared w s) (left_by_all declared cs)) (sym what) ∙ left))

-- ---- a verdict for each evaluation

no_evaluation : (what : What) → IsNoEvaluation what → is_evaluation what ≡ false
no_evaluation Clear none = refl
no_evaluation (Load interval lines) none = refl
no_evaluation (Eval grid instant text expected) none = absurd none

abbrev lines_of : Bool → Command → List Command → List ℕ
lines_of b command commands = map (λ (c : Command). c.line) (cond b (command ∷ filter (λ (c : Command). is_evaluation c.what) commands) (filter (λ (c : Command). is_evaluation c.what) commands))

pub verdict_lines : (closed : Bool) (declared : List LabelList) (kept : PatternList) (series : AllSeries) (commands : List Command) (verdicts : List Judged) → AreVerdicts closed declared kept series commands verdicts
    → map (λ (judged : Judged). judged.line) verdicts ≡ evaluation_lines commands
verdict_lines closed declared kept series commands verdicts (ended s) = refl
verdict_lines closed declared kept series commands verdicts (changed s now c cs v none put rest) =
    verdict_lines closed declared kept now cs v rest ∙ ap (λ b. lines_of b c cs) (sym (no_evaluation c.what none))
verdict_lines closed declared kept series commands verdicts (evaluated s c grid instant text expected judged cs v what is rest) =
    let line : judged.line ≡ c.line = ap (λ (one : Judged). one.line) is.is in
    ap (λ n. n ∷ map (λ (one : Judged). one.line) v) line
    ∙ ap (λ ns. c.line ∷ ns) (verdict_lines closed declared kept s cs v rest)
    ∙ ap (λ b. lines_of b c cs) (sym (ap is_evaluation what))

pub passed_or_failed : (verdicts : List Judged) → passed_in verdicts + failed_in verdicts ≡ length verdicts
passed_or_failed verdicts =
    let passed = length-filter (λ (judged : Judged). has_passed judged) verdicts in
    let failed = length-filter (λ (judged : Judged). not (has_passed judged)) verdicts in
    let both = length-filter_both (λ (judged : Judged). has_passed judged) (λ (judged : Judged). not (has_passed judged)) (λ judged. refl) verdicts in
    omega (arith, passed, failed, both)

module _ (closed : Bool) (declared : List LabelList) (kept : PatternList) (series : AllSeries) (commands : List Command) (verdicts : List Judged) (are : AreVerdicts closed declared kept series commands verdicts) where
  pub verdicts_number : passed_in verdicts + failed_in verdicts ≡ length (evaluation_lines commands)
  verdicts_number =
      passed_or_failed verdicts ∙ sym (length-map verdicts (λ (judged : Judged). judged.line)) ∙ ap length (verdict_lines closed declared kept series commands verdicts are)

  -- no more than there are commands
  pub verdicts_few : passed_in verdicts + failed_in verdicts ≤ length commands
  verdicts_few =
      let lines = length-map (filter (λ (c : Command). is_evaluation c.what) commands) (λ (c : Command). c.line) in
      let some = length-filter (λ (c : Command). is_evaluation c.what) commands in
      let few = count_by-le-length (λ (c : Command). is_evaluation c.what) commands in
      omega (arith, verdicts_number, lines, some, few)

-- ---- commands carried out

one_passed : (judged : Judged) → cond (has_passed judged) 1 0 ≡ passed_in (judged ∷ [])
one_passed judged = let e = sum_by-cons (λ (one : Judged). cond (has_passed one) 1 0) judged [] in omega (arith, e)

counted_not : (b : Bool) → ◌≡◌ {A = ℕ} (cond b 0 1) (cond (not b) 1 0)
counted_not true = refl
counted_not false = refl

one_failed : (judged : Judged) → cond (has_passed judged) 0 1 ≡ failed_in (judged ∷ [])
one_failed judged = let e = sum_by-cons (λ (one : Judged). cond (not (has_passed one)) 1 0) judged [] in counted_not (has_passed judged) ∙ omega (arith, e)

passed_join : (vs ws : List Judged) → passed_in (vs ++ ws) ≡ passed_in vs + passed_in ws
passed_join vs ws = sum_by-append (λ (judged : Judged). cond (has_passed judged) 1 0) vs ws

failed_join : (vs ws : List Judged) → failed_in (vs ++ ws) ≡ failed_in vs + failed_in ws
failed_join vs ws = sum_by-append (λ (judged : Judged). cond (not (has_passed judged)) 1 0) vs ws

lines_join : (path : List ℕ) (vs ws : List Judged) → lines_text path (vs ++ ws) ≡ lines_text path vs ++ lines_text path ws
lines_join path vs ws = flat_map-append (verdict_text path) vs ws

pub cut_none : (closed : Bool) (declared : List LabelList) (kept : PatternList) (path : List ℕ) (series : AllSeries) (commands : List Command) (before : Option (List ℕ)) → WasCutOff closed declared kept path series commands before before
cut_none closed declared kept path series commands before = record { done = []; left = commands; parts = refl; verdicts = []; are = ended series; front = front_none before [] }

module _ {closed : Bool} {declared : List LabelList} {kept : PatternList} {path : List ℕ} {before between now : Option (List ℕ)} {sofar : Totals} (series mid : AllSeries) (xs : List Command)
    (ran : CarriedOut closed declared kept path series xs before between sofar) (left : left_by_all declared xs series ≡ Ok mid) where
  -- and so were those behind them
  pub carried_join : (ys : List Command) (more all : Totals) → CarriedOut closed declared kept path mid ys between now more
      → all.passed ≡ sofar.passed + more.passed → all.failed ≡ sofar.failed + more.failed → CarriedOut closed declared kept path series (xs ++ ys) before now all
  carried_join ys more all then passed failed = record {
    verdicts = ran.verdicts ++ then.verdicts;
    are = verdicts_join then.are series xs ran.verdicts ran.are left;
    written = then.written ∙ ap (λ w. appended w (lines_text path then.verdicts)) ran.written
        ∙ appended-appended before (lines_text path ran.verdicts) (lines_text path then.verdicts)
        ∙ ap (appended before) (sym (lines_join path ran.verdicts then.verdicts));
    passed = let e = passed_join ran.verdicts then.verdicts in omega (arith, e, passed, ran.passed, then.passed);
    failed = let e = failed_join ran.verdicts then.verdicts in omega (arith, e, failed, ran.failed, then.failed);
  }

  -- or they were cut off
  pub cut_join : (ys zs : List Command) → WasCutOff closed declared kept path mid ys between now → WasCutOff closed declared kept path series (xs ++ (ys ++ zs)) before now
  cut_join ys zs cut = record {
    done = xs ++ cut.done;
    left = cut.left ++ zs;
    parts = append_assoc xs cut.done (cut.left ++ zs) ∙ ap (λ l. xs ++ l) (sym (append_assoc cut.done cut.left zs) ∙ ap (λ l. l ++ zs) cut.parts);
    verdicts = ran.verdicts ++ cut.verdicts;
    are = verdicts_join cut.are series xs ran.verdicts ran.are left;
    front = subst (WroteFront before now) (sym (lines_join path ran.verdicts cut.verdicts)) (front_last (lines_text path ran.verdicts) (lines_text path cut.verdicts) ran.written cut.front);
  }

-- no more are counted than there are commands
pub few_counted : {closed : Bool} {declared : List LabelList} {kept : PatternList} {path : List ℕ} {series : AllSeries} {commands : List Command} {before now : Option (List ℕ)} {totals : Totals}
    → CarriedOut closed declared kept path series commands before now totals → totals.passed + totals.failed ≤ length commands
few_counted {closed} {declared} {kept} {path} {series} {commands} ran =
    let few = verdicts_few closed declared kept series commands ran.verdicts ran.are in
    omega (arith, few, ran.passed, ran.failed)

-- ---- a script's commands, parted at one of them

module _ (commands : List Command) (i : ℕ) (command : Command) (lt : i < length commands) (is : command ≡ get_or commands i command) where
  -- the first of what is left
  pub at_drop : drop i commands ≡ command ∷ drop (i + 1) commands
  at_drop = drop_more commands i command lt ∙ ap (λ c. c ∷ drop (i + 1) commands) (sym is)

  pub at_take : take i commands ++ command ∷ [] ≡ take (i + 1) commands
  at_take = ap (λ c. take i commands ++ c ∷ []) is ∙ sym (take_more commands i command lt)

  pub parted : take i commands ++ command ∷ drop (i + 1) commands ≡ commands
  parted = ap (λ l. take i commands ++ l) (sym at_drop) ∙ take-append-drop i commands

-- ---- faults

pub cut_by_any : (fault : RunnerFault) (Cut : Type 0) → Cut → IfCut fault Cut
cut_by_any (Refused refusal) Cut h = tt
cut_by_any (Range at) Cut h = tt
cut_by_any (Run fault) Cut h = tt
cut_by_any Write Cut h = h
cut_by_any Memory Cut h = h

pub when_cut : {R : Type 0} (r : Result R RunnerFault) (Cut : Type 0) → Cut → IfErr r (λ fault. IfCut fault Cut)
when_cut (Ok x) Cut h = tt
when_cut (Err fault) Cut h = cut_by_any fault Cut h

pub cut_on : (fault : RunnerFault) (Cut More : Type 0) → IfCut fault Cut → (Cut → More) → IfCut fault More
cut_on (Refused refusal) Cut More h goes = tt
cut_on (Range at) Cut More h goes = tt
cut_on (Run fault) Cut More h goes = tt
cut_on Write Cut More h goes = goes h
cut_on Memory Cut More h goes = goes h

pub explained_on : (said all : Result AllSeries RunnerFault) (fault : RunnerFault) → IfOfLoads said fault → (said ≡ Err fault → all ≡ Err fault) → IfOfLoads all fault
explained_on said all (Refused refusal) h goes = goes h
explained_on said all (Range at) h goes = goes h
explained_on said all (Run fault) h goes = tt
explained_on said all Write h goes = tt
explained_on said all Memory h goes = tt

-- ---- one command

pub is_change : (what : What) → (what ≡ Clear) ⊎ ((interval : Ms) × (lines : List SeriesLine) × what ≡ Load interval lines) → IsNoEvaluation what
is_change what change = ⊎_elim (λ clear. subst IsNoEvaluation (sym clear) tt) (λ load. subst IsNoEvaluation (sym load.2) tt) change

-- a command that is no evaluation
pub carried_change : (closed : Bool) (declared : List LabelList) (kept : PatternList) (path : List ℕ) (series left : AllSeries) (command : Command) (before : Option (List ℕ)) (totals : Totals) → IsNoEvaluation command.what → left_by declared command.what series ≡ Ok left
    → totals.passed ≡ 0 → totals.failed ≡ 0 → CarriedOut closed declared kept path series (command ∷ []) before before totals
carried_change closed declared kept path series left command before totals none put passed failed = record {
  verdicts = [];
  are = changed series left command [] [] none put (ended left);
  written = sym (appended-nil before);
  passed = passed;
  failed = failed;
}

one_line : (path : List ℕ) (judged : Judged) → verdict_text path judged ≡ lines_text path (judged ∷ [])
one_line path judged = sym (append-nil (verdict_text path judged))

module _ (closed : Bool) (declared : List LabelList) (kept : PatternList) (path : List ℕ) (series : AllSeries) (command : Command) (grid : Grid) (instant : Bool) (text : List ℕ) (expected : Expectations) (what : command.what ≡ Eval grid instant text expected)
    (before now : Option (List ℕ)) where
  one_verdict : (judged : Judged) → IsJudgement closed kept series command.line text grid instant expected judged → AreVerdicts closed declared kept series (command ∷ []) (judged ∷ [])
  one_verdict judged such = evaluated series command grid instant text expected judged [] [] what such (ended series)

  -- an evaluation
  pub carried_evaluation : (passed : Bool) (totals : Totals) → WroteLine path (IsJudgement closed kept series command.line text grid instant expected) before now passed
      → totals.passed ≡ cond passed 1 0 → totals.failed ≡ cond passed 0 1 → CarriedOut closed declared kept path series (command ∷ []) before now totals
  carried_evaluation passed totals wrote some none =
      let line = wrote.is_line in
      let judged = line.judged in
      record {
        verdicts = judged ∷ [];
        are = one_verdict judged line.such;
        written = wrote.written ∙ ap (appended before) (line.told ∙ one_line path judged);
        passed = some ∙ ap (λ b. cond b 1 0) line.decided ∙ one_passed judged;
        failed = none ∙ ap (λ b. cond b 0 1) line.decided ∙ one_failed judged;
      }

  -- an evaluation that was cut off
  pub cut_evaluation : WroteLess path (IsJudgement closed kept series command.line text grid instant expected) before now → WasCutOff closed declared kept path series (command ∷ []) before now
  cut_evaluation (nothing same) = subst (λ (w : Option (List ℕ)). WasCutOff closed declared kept path series (command ∷ []) before w) (sym same) (cut_none closed declared kept path series (command ∷ []) before)
  cut_evaluation (partly piece passed line front) = record {
    done = command ∷ [];
    left = [];
    parts = refl;
    verdicts = line.judged ∷ [];
    are = one_verdict line.judged line.such;
    front = subst (WroteFront before now) (line.told ∙ one_line path line.judged) front;
  }

pub less_written : {E R : Type 0} {path : List ℕ} {IsSuch : Judged → Type 0} {before now : Option (List ℕ)} (text piece : List ℕ) (passed : Bool) (r : Result R E)
    → IsLine path IsSuch text passed → piece ≡ text → WroteFront before now piece → IfErr r (λ _. WroteLess path IsSuch before now)
less_written {before = before} {now = now} text piece passed r line same front = on_err r _ (partly text passed line (subst (WroteFront before now) same front))
