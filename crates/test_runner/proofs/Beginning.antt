-- Commands in front of a script that evaluate nothing.
use Rattle.std.proofs.Common.{◌≡◌, ◌∙◌, ◌<◌, ◌≤◌, ◌+◌, ◌++◌, ℕ, zero, suc, Bool, true, false, List, [], ◌∷◌, drop, take, get_or, length, Result, Ok, Err, Option, refl, sym, ap, subst, take-append-drop, arith, rules}
use Rattle.std.proofs.lemmas.List.{take_all}
use Rattle.std.specs.Prelude.{◌&&◌}
use Rattle.std.specs.List.{AllByRecursion, list_all}
use Rattle.edge_io.specs.Fronts.{appended-nil}
use Rattle.query_engine.specs.declared.options.Options.{Options}
use Rattle.sample_store.specs.Samples.{AllSeries}
use Rattle.script_check.specs.Verdicts.{PatternList}
use Rattle.script_read.specs.Outcomes.{then_try}
use Rattle.script_read.specs.Series.{LabelList}
use Rattle.script_read.specs.declared.script.Command.{Command}
use Rattle.script_read.specs.declared.script.What.{What}
use Rattle.script_read.specs.declared.script.What.TheVariants.{Clear, Load, Eval}
use Rattle.ticks.specs.Works.{Counts}
use Rattle.test_runner.specs.Begun.{ChangesStandInFront, HasBegun}
use Rattle.test_runner.specs.Loads.{left_by, left_by_all}
use Rattle.test_runner.specs.Running.{CarriedOut}
use Rattle.test_runner.specs.Spending.{CommandsSpend, further}
use Rattle.test_runner.specs.Verdicts.{AreVerdicts, IsNoEvaluation, changed, ended, is_evaluation}
use Rattle.test_runner.specs.declared.fault.RunnerFault.{RunnerFault}
use Rattle.test_runner.specs.declared.totals.Totals.{Totals}
use Rattle.test_runner.proofs.Carrying.{left_join}
use Rattle.test_runner.proofs.Spending.{change_spends}

abbrev AreQuiet : List Command → Type 0
AreQuiet commands = AllByRecursion (λ (one : Command). IsNoEvaluation one.what) commands

no_answer : (fault : RunnerFault) (series : AllSeries) → ◌≡◌ {A = Result AllSeries RunnerFault} (Err fault) (Ok series) → ⊥
no_answer fault series e = cc

-- ---- they have no verdicts

quiet_verdicts : (closed : Bool) (declared : List LabelList) (kept : PatternList) (commands : List Command) (series left : AllSeries) → AreQuiet commands → left_by_all declared commands series ≡ Ok left → AreVerdicts closed declared kept series commands []
quiet_verdicts closed declared kept [] series left quiet is = ended series
quiet_verdicts closed declared kept (c ∷ cs) series left quiet is = by_first (λ now rest. quiet_verdicts closed declared kept cs now left quiet.1 rest) (left_by declared c.what series) refl is
  where
    by_first : ((now : AllSeries) → left_by_all declared cs now ≡ Ok left → AreVerdicts closed declared kept now cs []) → (r : Result AllSeries RunnerFault) → left_by declared c.what series ≡ r → then_try r (left_by_all declared cs) ≡ Ok left
        → AreVerdicts closed declared kept series (c ∷ cs) []
    by_first later (Ok now) put rest = changed series now c cs [] quiet.0 put (later now rest)
    by_first later (Err fault) put rest = absurd (no_answer fault left rest)

pub quiet_carried : (closed : Bool) (declared : List LabelList) (kept : PatternList) (path : List ℕ) (commands : List Command) (series left : AllSeries) (before : Option (List ℕ)) (totals : Totals) → AreQuiet commands → left_by_all declared commands series ≡ Ok left
    → totals.passed ≡ 0 → totals.failed ≡ 0 → CarriedOut closed declared kept path series commands before before totals
quiet_carried closed declared kept path commands series left before totals quiet is passed failed = record {
  verdicts = [];
  are = quiet_verdicts closed declared kept commands series left quiet is;
  written = sym (appended-nil before);
  passed = passed;
  failed = failed;
}

-- ---- they spend nothing

pub quiet_spend : (options : Options) (commands rest : List Command) (series left : AllSeries) (now after : Counts) → AreQuiet commands → left_by_all [] commands series ≡ Ok left → CommandsSpend options left rest now after
    → CommandsSpend options series (commands ++ rest) now after
quiet_spend options [] rest series left now after quiet is spends = subst (λ (s : AllSeries). CommandsSpend options s rest now after) (sym (same is)) spends
  where
    same : ◌≡◌ {A = Result AllSeries RunnerFault} (Ok series) (Ok left) → series ≡ left
    same e = cc
quiet_spend options (c ∷ cs) rest series left now after quiet is spends = by_first (λ mid more. quiet_spend options cs rest mid left now after quiet.1 more spends) (left_by [] c.what series) refl is
  where
    by_first : ((mid : AllSeries) → left_by_all [] cs mid ≡ Ok left → CommandsSpend options mid (cs ++ rest) now after) → (r : Result AllSeries RunnerFault) → left_by [] c.what series ≡ r → then_try r (left_by_all [] cs) ≡ Ok left
        → CommandsSpend options series (c ∷ (cs ++ rest)) now after
    by_first later (Ok mid) put more = further series mid c (cs ++ rest) now now after (change_spends options series c.what now quiet.0) put (later mid more)
    by_first later (Err fault) put more = absurd (no_answer fault left more)

-- ---- how far they go

not_evaluation : (what : What) → is_evaluation what ≡ false → IsNoEvaluation what
not_evaluation Clear e = tt
not_evaluation (Load interval lines) e = tt
not_evaluation (Eval grid instant text expected) e = absurd (cc)

evaluation_leaves : (what : What) (series : AllSeries) → is_evaluation what ≡ true → left_by [] what series ≡ Ok series
evaluation_leaves Clear series e = absurd (cc)
evaluation_leaves (Load interval lines) series e = absurd (cc)
evaluation_leaves (Eval grid instant text expected) series e = refl

pub one_quiet_more : (i : ℕ) (commands : List Command) (one : Command) → i < length commands → one ≡ get_or commands i one → AreQuiet (take i commands) → is_evaluation one.what ≡ false → AreQuiet (take (i + 1) commands)
one_quiet_more i [] one lt is quiet none = absurd (omega (arith, lt))
one_quiet_more zero (c ∷ cs) one lt is quiet none = (subst (λ (z : Command). IsNoEvaluation z.what) is (not_evaluation one.what none), tt)
one_quiet_more (suc i) (c ∷ cs) one lt is quiet none =
    let more : suc (i + 1) ≡ suc i + 1 = omega arith in
    subst (λ (n : ℕ). AreQuiet (take n (c ∷ cs))) more (quiet.0, one_quiet_more i cs one (omega (arith, lt)) is quiet.1 none)

-- all of them are those at the front
pub quiet_all : (commands : List Command) (i n : ℕ) → AreQuiet (take i commands) → length commands ≤ i → n ≡ length commands → AreQuiet (take n commands)
quiet_all commands i n quiet past is =
    let whole : take i commands ≡ commands = take_all i commands past in
    let same : take n commands ≡ commands = take_all n commands (omega (arith, is)) in
    subst (λ (cs : List Command). AreQuiet cs) (whole ∙ sym same) quiet

abbrev are_evaluations : List Command → Bool
are_evaluations commands = list_all (λ (one : Command). is_evaluation one.what) commands

both : (a b : Bool) → a && b ≡ true → (a ≡ true) × (b ≡ true)
both true b e = (refl, e)
both false b e = absurd (cc)

settled : (commands : List Command) → are_evaluations commands ≡ true → (series : AllSeries) → left_by_all [] commands series ≡ Ok series
settled [] e series = refl
settled (c ∷ cs) e series =
    let each = both (is_evaluation c.what) (are_evaluations cs) e in
    ap (λ (r : Result AllSeries RunnerFault). then_try r (left_by_all [] cs)) (evaluation_leaves c.what series each.0) ∙ settled cs each.1 series

pub settled_rest : (rest : List Command) (all : Bool) → all ≡ are_evaluations rest → all ≡ true → (series : AllSeries) → left_by_all [] rest series ≡ Ok series
settled_rest rest all are holds series = settled rest (sym are ∙ holds) series

-- ---- what they leave, where those behind them change nothing

pub front_begun : (commands given : List Command) (front : ℕ) (series : AllSeries) → given ≡ commands → ChangesStandInFront given front → left_by_all [] commands [] ≡ Ok series → HasBegun commands series front
front_begun commands given front series same stand is =
    let stands = subst (λ (cs : List Command). ChangesStandInFront cs front) same stand in
    record {
      within = stands.within;
      quiet = stands.quiet;
      left = by_front stands (left_by_all [] (take front commands) []) (sym (left_join [] (take front commands) (drop front commands) []) ∙ ap (λ (cs : List Command). left_by_all [] cs []) (take-append-drop front commands) ∙ is);
    }
  where
    by_front : ChangesStandInFront commands front → (r : Result AllSeries RunnerFault) → then_try r (left_by_all [] (drop front commands)) ≡ Ok series → r ≡ Ok series
    by_front stands (Ok mid) h = sym (stands.settled mid) ∙ h
    by_front stands (Err fault) h = h

pub none_begun : (commands : List Command) (series : AllSeries) → series ≡ [] → HasBegun commands series 0
none_begun commands series none = record { within = search rules; quiet = tt; left = ap (λ (s : AllSeries). Ok s) (sym none) }

-- ---- and the others

-- what holds of all holds of those that are left
pub rest_holds : (P : Command → Type 0) (i : ℕ) (commands : List Command) → AllByRecursion P commands → AllByRecursion P (drop i commands)
rest_holds P zero commands all = all
rest_holds P (suc i) [] all = tt
rest_holds P (suc i) (c ∷ cs) all = rest_holds P i cs all.1
