-- Commands that are carried out over engines.
use Rattle.std.proofs.Common.{◌≡◌, ◌∙◌, ◌⊎◌, inl, inr, ℕ, ◌+◌, ◌<◌, ◌≤◌, ◌-◌, Bool, true, false, cond, List, [], ◌∷◌, ◌++◌, drop, get_or, length, take, slice_get, suc, zero, Option, Some, None, Result, Ok, Err, IfErr, IfOk, refl, sym, ap, subst, arith, take-append-drop}
use Rattle.std.specs.Prelude.{IfSome, IsErrOf, IsOk, OnErr, OnOk, is_some, ⊤}
use Rattle.std.specs.List.{AllByRecursion}
use Rattle.std.specs.Option.{option_map}
use Rattle.edge_io.specs.Written.{appended, WroteFront}
use Rattle.exchange.specs.Calls.{Each, Grows}
use Rattle.exchange.specs.Standing.{Tells}
use Rattle.parting_laws.specs.Parted.{Engine, declared_to}
use Rattle.query_engine.specs.Engines.{AreHeldBy, DoNotRise, StandAt}
use Rattle.remote_api.specs.Seen.{EngineSeen, Holding, KeepsStrays}
use Rattle.sample_store.specs.Samples.{AllSeries}
use Rattle.script_check.specs.Verdicts.{PatternList}
use Rattle.script_read.specs.Outcomes.{then_try}
use Rattle.script_read.specs.Series.{LabelList}
use Rattle.script_read.specs.declared.script.Command.{Command}
use Rattle.script_read.specs.declared.script.Expectations.{Expectations}
use Rattle.script_read.specs.declared.script.What.{What}
use Rattle.script_read.specs.declared.script.What.TheVariants.{Clear, Load, Eval}
use Rattle.edge_io.specs.declared.sink.SinkFail.{SinkFail}
use Rattle.edge_io.specs.declared.sink.SinkFail.TheVariants.{Failed, Memory as NoMemory}
use Rattle.test_runner.specs.Boxes.{AllTell, AreReady, Carry, IfRun, IsNoLoadFault, IsNoRun, IsOwnFault, KeepsServing, LeavesServing, RunFaulted, StoodBy}
use Rattle.test_runner.specs.Lines.{lines_text}
use Rattle.test_runner.specs.Loading.{HasPut, MayPut}
use Rattle.test_runner.specs.Loads.{left_by, left_by_all}
use Rattle.test_runner.specs.Parts.{HaveBoxes, HoldParts, IsHeldBy, MayBeLoaded, Stays}
use Rattle.test_runner.specs.Running.{AnswersLoads, CarriedOut, IfCut, IfOfLoads, WasCutOff, cut_by}
use Rattle.test_runner.specs.Steps.{IsLine, WroteCounted}
use Rattle.test_runner.specs.Verdicts.{IsNoEvaluation, Judged, is_evaluation}
use Rattle.test_runner.specs.declared.fault.RunnerFault.{RunnerFault}
use Rattle.test_runner.specs.declared.fault.RunnerFault.TheVariants.{Refused, Range, Run, Write, Memory}
use Rattle.test_runner.specs.declared.totals.Totals.{Totals}
use Rattle.test_runner.proofs.Beginning.{quiet_carried}
use Rattle.test_runner.proofs.Carrying.{at_drop, at_take, carried_join, cut_by_any, cut_join, cut_on, left_join, left_more, parted}
use Rattle.test_runner.proofs.Moving.{before_each, get_within}
use Rattle.test_runner.proofs.Serving.{all_serve, all_stay, get_taken, own_none_loaded, own_unwritten, stopped_by}
use Rattle.ticks.specs.Works.{Counts}
use Rattle.ticks.specs.declared.grid.Grid.{Grid}

-- ---- samples stand at engines that tell

told_samples : (one : Engine) (o : Option Holding) → is_some o ≡ true → IfSome o (λ h. (h.declared ≡ Some one.declared) × (h.samples ≡ one.samples)) → option_map (λ (h : Holding). h.samples) o ≡ Some one.samples
told_samples one None tells h = absurd (cc)
told_samples one (Some x) tells h = ap (λ (s : AllSeries). Some s) h.1

held_by : (declared : List LabelList) (es : List EngineSeen) (engines : List Engine) → declared_to engines ≡ declared → length declared ≤ length es
    → ((k : ℕ) (one : Engine) (e : EngineSeen) → slice_get engines k ≡ Some one → slice_get es k ≡ Some e → IsHeldBy one e)
    → ((k : ℕ) (e : EngineSeen) → k < length declared → slice_get es k ≡ Some e → Tells e) → AreHeldBy declared es engines
held_by [] es [] are many held tell = tt
held_by [] es (x ∷ xs) are many held tell = absurd (cc)
held_by (names ∷ declared) [] engines are many held tell = absurd (omega (arith, many))
held_by (names ∷ declared) (e ∷ es) [] are many held tell = absurd (cc)
held_by (names ∷ declared) (e ∷ es) (x ∷ xs) are many held tell =
    let first : x.declared ≡ names = cc in
    let others : declared_to xs ≡ declared = cc in (
      record { declared = first; tells = told_samples x e.holding (tell 0 e (omega arith) refl) (held 0 x e refl refl) },
      held_by declared es xs others (omega (arith, many)) (λ k one f at_one at_f. held (suc k) one f at_one at_f) (λ k f l at_f. tell (suc k) f (omega (arith, l)) at_f),
    )

pub stand_at : (declared : List LabelList) (es : List EngineSeen) (series : AllSeries) → HoldParts declared es series → AllTell (length declared) es → StandAt declared es series
stand_at declared es series h tell = record {
  sets = h.sets;
  engines = h.engines;
  held = held_by declared es h.engines h.are h.boxes.many h.held (λ k e l at. tell k e (get_taken es (length declared) k e l at));
  parted = h.parted;
}

-- engines that hold what they held
pub parts_grown : (declared : List LabelList) (es fs : List EngineSeen) → length fs ≡ length es → Each Grows es fs → (series : AllSeries) → HoldParts declared es series → HoldParts declared fs series
parts_grown declared es fs many each series h = record {
  sets = h.sets;
  boxes = record { some = h.boxes.some; many = omega (arith, h.boxes.many, many); few = h.boxes.few };
  engines = h.engines;
  are = h.are;
  parted = h.parted;
  fits = h.fits;
  held = λ k one f at_one at_f.
      let o = before_each Grows es fs k f many each at_f in
      subst (λ (x : Option Holding). IfSome x (λ y. (y.declared ≡ Some one.declared) × (y.samples ≡ one.samples))) (sym o.2.holding) (h.held k one o.0 at_one o.1);
}

-- ---- one line

pub line_on : {path : List ℕ} {A B : Judged → Type 0} {text : List ℕ} {passed : Bool} → ((judged : Judged) → A judged → B judged) → IsLine path A text passed → IsLine path B text passed
line_on goes line = record { judged = line.judged; such = goes line.judged line.such; told = line.told; decided = line.decided }

pub ok_on : {X E : Type 0} (r : Result X E) (P Q : X → Type 0) → ((x : X) → P x → Q x) → IfOk r P → IfOk r Q
ok_on (Ok x) P Q goes h = goes x h
ok_on (Err e) P Q goes h = tt

-- a front of a line is what a cut leaves
pub cut_so : {X : Type 0} (r : Result X RunnerFault) (Front Less : Type 0) → (Front → Less) → OnErr r Front → IfErr r (λ fault. IfCut fault Less)
cut_so (Ok x) Front Less goes h = tt
cut_so (Err fault) Front Less goes h = cut_by_any fault Less (goes h)

pub on_ok : {X E : Type 0} (r : Result X E) (P : Type 0) → P → OnOk r P
on_ok (Ok x) P h = h
on_ok (Err e) P h = tt

-- a line that was written and counted
pub counted : {path text : List ℕ} {IsSuch : Judged → Type 0} {passed : Bool} (before now : Option (List ℕ)) (r : Result Totals RunnerFault) → IsLine path IsSuch text passed → OnOk r (now ≡ appended before text)
    → IfOk r (λ totals. (totals.passed ≡ cond passed 1 0) × (totals.failed ≡ cond passed 0 1)) → IfOk r (WroteCounted path IsSuch before now)
counted {text = text} {passed = passed} before now (Ok totals) line written counts = record { passed = passed; line = record { text = text; is_line = line; written = written }; some = counts.0; none = counts.1 }
counted before now (Err fault) line written counts = tt

pub counted_one : (r : Result Totals RunnerFault) (passed : Bool) → IfOk r (λ totals. (totals.passed ≡ cond passed 1 0) × (totals.failed ≡ cond passed 0 1)) → IfOk r (λ totals. totals.passed + totals.failed ≡ 1)
counted_one (Ok totals) true counts = omega (arith, counts.0, counts.1)
counted_one (Ok totals) false counts = omega (arith, counts.0, counts.1)
counted_one (Err fault) passed counts = tt

-- ---- what loads leave of what engines hold

pub put_carries : (X : Type 0) (x : X) (declared : List LabelList) (es fs : List EngineSeen) (put : AllSeries → Result AllSeries RunnerFault) → HasPut {X = X} false (HoldParts declared es) (MayBeLoaded declared fs) put (Ok x) → Carry declared es fs put
put_carries X x declared es fs put has = λ series held ok. let got = has series held ok in (got.0, got.1.parts, got.2)

pub same_carried : (declared : List LabelList) (es fs : List EngineSeen) (what : What) (put : What) → what ≡ put → Carry declared es fs (left_by declared put) → Carry declared es fs (left_by declared what)
same_carried declared es fs what put is carried = subst (λ (w : What). Carry declared es fs (left_by declared w)) (sym is) carried

-- ---- commands that are taken

no_ok : (fault : RunnerFault) → IsOk {T = AllSeries} (Err fault) → ⊥
no_ok fault ok = cc

ok_front : (r : Result AllSeries RunnerFault) (f : AllSeries → Result AllSeries RunnerFault) → IsOk (then_try r f) → (mid : AllSeries) × (r ≡ Ok mid) × IsOk (f mid)
ok_front (Ok mid) f ok = (mid, refl, ok)
ok_front (Err fault) f ok = absurd (no_ok fault ok)

pub is_left : (r : Result AllSeries RunnerFault) → IsOk r → (left : AllSeries) × (r ≡ Ok left)
is_left (Ok s) ok = (s, refl)
is_left (Err fault) ok = absurd (no_ok fault ok)

-- what the first of commands leave is taken, and so is the next
pub taken_next : (declared : List LabelList) (commands : List Command) (i : ℕ) (command : Command) (series : AllSeries) → i < length commands → command ≡ get_or commands i command → IsOk (left_by_all declared commands [])
    → left_by_all declared (take i commands) [] ≡ Ok series → IsOk (left_by declared command.what series)
taken_next declared commands i command series lt is taken left =
    let whole : left_by_all declared commands [] ≡ then_try (left_by_all declared (take i commands) []) (left_by_all declared (command ∷ drop (i + 1) commands)) =
    ap (λ (cs : List Command). left_by_all declared cs []) (sym (parted commands i command lt is)) ∙ left_join declared (take i commands) (command ∷ drop (i + 1) commands) [] in
    let front = ok_front (left_by_all declared (take i commands) []) (left_by_all declared (command ∷ drop (i + 1) commands)) (subst (λ r. IsOk r) whole taken) in
    let same : front.0 ≡ series = (let a = front.1 in cc) in
    let next = ok_front (left_by declared command.what front.0) (left_by_all declared (drop (i + 1) commands)) front.2 in
    subst (λ (s : AllSeries). IsOk (left_by declared command.what s)) same (subst (λ r. IsOk r) (sym next.1) refl)

-- and so are those behind them
pub taken_rest : (declared : List LabelList) (commands : List Command) (i : ℕ) (series : AllSeries) → IsOk (left_by_all declared commands []) → left_by_all declared (take i commands) [] ≡ Ok series
    → (left : AllSeries) × (left_by_all declared (drop i commands) series ≡ Ok left)
taken_rest declared commands i series taken left =
    let whole : left_by_all declared commands [] ≡ then_try (left_by_all declared (take i commands) []) (left_by_all declared (drop i commands)) =
    ap (λ (cs : List Command). left_by_all declared cs []) (sym (take-append-drop i commands)) ∙ left_join declared (take i commands) (drop i commands) [] in
    let front = ok_front (left_by_all declared (take i commands) []) (left_by_all declared (drop i commands)) (subst (λ r. IsOk r) whole taken) in
    let same : front.0 ≡ series = (let a = front.1 in cc) in
    is_left (left_by_all declared (drop i commands) series) (subst (λ (s : AllSeries). IsOk (left_by_all declared (drop i commands) s)) same front.2)

-- ---- where the last evaluation stands

not_evaluation : (what : What) → is_evaluation what ≡ false → IsNoEvaluation what
not_evaluation Clear e = tt
not_evaluation (Load interval lines) e = tt
not_evaluation (Eval grid instant text expected) e = absurd (cc)

pub quiet_behind : (commands : List Command) (last : ℕ) (one : Command) → last < length commands → one ≡ get_or commands last one → is_evaluation one.what ≡ false
    → AllByRecursion (λ (c : Command). IsNoEvaluation c.what) (drop (last + 1) commands) → AllByRecursion (λ (c : Command). IsNoEvaluation c.what) (drop last commands)
quiet_behind commands last one lt is none quiet =
    subst (λ (cs : List Command). AllByRecursion (λ (c : Command). IsNoEvaluation c.what) cs) (sym (at_drop commands last one lt is)) (not_evaluation one.what none, quiet)

abbrev AreQuiet : List Command → Type 0
AreQuiet commands = AllByRecursion (λ (c : Command). IsNoEvaluation c.what) commands

pub quiet_more : (commands : List Command) (count k last : ℕ) (one : Command) → count ≡ length commands → k < count → last ≡ count - 1 - k → one ≡ get_or commands last one → is_evaluation one.what ≡ false
    → AreQuiet (drop (count - k) commands) → AreQuiet (drop (count - (k + 1)) commands)
quiet_more commands count k last one size lt at is none quiet =
    let here : count - (k + 1) ≡ last = omega (arith, lt, at) in
    let next : count - k ≡ last + 1 = omega (arith, lt, at) in
    let within : last < length commands = omega (arith, lt, at, size) in
    subst (λ (n : ℕ). AreQuiet (drop n commands)) (sym here) (quiet_behind commands last one within is none (subst (λ (n : ℕ). AreQuiet (drop n commands)) next quiet))

pub quiet_there : (commands : List Command) (count k last n : ℕ) → k < count → last ≡ count - 1 - k → n ≡ last + 1 → AreQuiet (drop (count - k) commands) → AreQuiet (drop n commands)
quiet_there commands count k last n lt at is quiet =
    let same : count - k ≡ n = omega (arith, lt, at, is) in
    subst (λ (m : ℕ). AreQuiet (drop m commands)) same quiet

pub quiet_whole : (commands : List Command) (count k : ℕ) → count ≤ k → AreQuiet (drop (count - k) commands) → AreQuiet (drop 0 commands)
quiet_whole commands count k le quiet =
    let none : count - k ≡ 0 = omega (arith, le) in
    subst (λ (m : ℕ). AreQuiet (drop m commands)) none quiet

pub quiet_none : (commands : List Command) (count : ℕ) → length commands ≤ count → AreQuiet (drop count commands)
quiet_none [] zero le = tt
quiet_none [] (suc n) le = tt
quiet_none (c ∷ cs) zero le = absurd (omega (arith, le))
quiet_none (c ∷ cs) (suc n) le = quiet_none cs n (omega (arith, le))

-- ---- what one command comes to

pub ok_all : {X E : Type 0} (r : Result X E) (P : X → Type 0) → ((x : X) → P x) → IfOk r P
ok_all (Ok x) P h = h x
ok_all (Err e) P h = tt

pub err_cut_on : {X : Type 0} (r : Result X RunnerFault) (Less Off : Type 0) → (Less → Off) → IfErr r (λ f. IfCut f Less) → IfErr r (λ f. IfCut f Off)
err_cut_on (Ok x) Less Off goes h = tt
err_cut_on (Err fault) Less Off goes h = cut_on fault Less Off h goes

pub held_carries : (declared : List LabelList) (es fs : List EngineSeen) (what : What) (grid : Grid) (instant : Bool) (text : List ℕ) (expected : Expectations) → what ≡ Eval grid instant text expected
    → ((series : AllSeries) → HoldParts declared es series → HoldParts declared fs series) → Carry declared es fs (left_by declared what)
held_carries declared es fs what grid instant text expected is held = λ series parts ok. (series, held series parts, ap (λ (w : What). left_by declared w series) is)

pub run_all : {X : Type 0} (r : Result X RunnerFault) (P : Type 0) → P → IfRun r P
run_all (Ok x) P h = tt
run_all {X} (Err fault) P h = stopped_by X fault P h

pub own_all : {X : Type 0} (r : Result X RunnerFault) → IfErr r IsOwnFault → IfErr r IsNoLoadFault
own_all (Ok x) own = tt
own_all (Err fault) own = own_none_loaded fault own

pub err_written : {X : Type 0} (fault : RunnerFault) → ◌≡◌ {A = Result X RunnerFault} (Err fault) (Err Write) → fault ≡ Write
err_written fault is = cc

pub own_never : {X : Type 0} (r : Result X RunnerFault) → IfErr r IsOwnFault → IsErrOf r Write → ⊥
own_never (Ok x) own is = cc
own_never (Err fault) own is = own_unwritten fault own (err_written fault is)

pub idle_still : (now : Counts) → DoNotRise now now
idle_still now = record { fetched = omega arith; probed = omega arith; tested = omega arith }

pub idle_then : (a b c : Counts) → DoNotRise a b → DoNotRise b c → DoNotRise a c
idle_then a b c x y = record { fetched = omega (arith, x.fetched, y.fetched); probed = omega (arith, x.probed, y.probed); tested = omega (arith, x.tested, y.tested) }

-- ---- how a run goes on

module _ {closed : Bool} {declared : List LabelList} {kept : PatternList} {path : List ℕ} {before between : Option (List ℕ)} {sofar : Totals} (commands : List Command) where
  -- the commands behind the last evaluation
  pub ran_whole : (count : ℕ) (series : AllSeries) → CarriedOut closed declared kept path [] (take count commands) before between sofar → left_by_all declared (take count commands) [] ≡ Ok series
      → AllByRecursion (λ (c : Command). IsNoEvaluation c.what) (drop count commands) → IsOk (left_by_all declared commands []) → CarriedOut closed declared kept path [] commands before between sofar
  ran_whole count series ran left quiet taken =
      let rest = taken_rest declared commands count series taken left in
      let none : Totals = record { passed = 0; failed = 0 } in
      let later : CarriedOut closed declared kept path series (drop count commands) between between none = quiet_carried closed declared kept path (drop count commands) series rest.0 between none quiet rest.1 refl refl in
      subst (λ (cs : List Command). CarriedOut closed declared kept path [] cs before between sofar) (take-append-drop count commands)
      (carried_join [] series (take count commands) ran left (drop count commands) none sofar later (omega arith) (omega arith))

  -- one command more
  pub ran_more : (i : ℕ) (command : Command) (series : AllSeries) (now : Option (List ℕ)) (more all : Totals) → i < length commands → command ≡ get_or commands i command
      → CarriedOut closed declared kept path [] (take i commands) before between sofar → left_by_all declared (take i commands) [] ≡ Ok series
      → CarriedOut closed declared kept path series (command ∷ []) between now more → all.passed ≡ sofar.passed + more.passed → all.failed ≡ sofar.failed + more.failed
      → CarriedOut closed declared kept path [] (take (i + 1) commands) before now all
  ran_more i command series now more all lt is ran left then passed failed =
      subst (λ (cs : List Command). CarriedOut closed declared kept path [] cs before now all) (at_take commands i command lt is)
      (carried_join [] series (take i commands) ran left (command ∷ []) more all then passed failed)

  -- a command was cut off
  pub ran_cut : (i : ℕ) (command : Command) (series : AllSeries) (now : Option (List ℕ)) (fault : RunnerFault) → i < length commands → command ≡ get_or commands i command
      → CarriedOut closed declared kept path [] (take i commands) before between sofar → left_by_all declared (take i commands) [] ≡ Ok series
      → IfCut fault (WasCutOff closed declared kept path series (command ∷ []) between now) → IfCut fault (WasCutOff closed declared kept path [] commands before now)
  ran_cut i command series now fault lt is ran left cut =
      cut_on fault (WasCutOff closed declared kept path series (command ∷ []) between now) (WasCutOff closed declared kept path [] commands before now) cut
      (λ c. subst (λ (cs : List Command). WasCutOff closed declared kept path [] cs before now) (parted commands i command lt is) (cut_join [] series (take i commands) ran left (command ∷ []) (drop (i + 1) commands) c))

  -- an engine stopped a command
  pub ran_stopped : (T U : Type 0) (i : ℕ) (now : Option (List ℕ)) (fault : RunnerFault) → CarriedOut closed declared kept path [] (take i commands) before between sofar
      → IfRun {T = T} (Err fault) (now ≡ between) → IfRun {T = U} (Err fault) (StoodBy closed declared kept path commands before now)
  ran_stopped T U i now fault ran stopped = by fault stopped
    where
      stood : now ≡ between → StoodBy closed declared kept path commands before now
      stood same = record { done = take i commands; left = drop i commands; parts = take-append-drop i commands; verdicts = ran.verdicts; are = ran.are; written = same ∙ ran.written }

      by : (f : RunnerFault) → IfRun {T = T} (Err f) (now ≡ between) → IfRun {T = U} (Err f) (StoodBy closed declared kept path commands before now)
      by (Refused refusal) h = tt
      by (Range line) h = tt
      by (Run x) h = stood h
      by Write h = tt
      by Memory h = tt

-- what the first commands leave, and one more
pub carried_more : (declared : List LabelList) (commands : List Command) (i : ℕ) (command : Command) (es fs : List EngineSeen) → i < length commands → command ≡ get_or commands i command → IsOk (left_by_all declared commands [])
    → (series : AllSeries) × HoldParts declared es series × (left_by_all declared (take i commands) [] ≡ Ok series) → Carry declared es fs (left_by declared command.what)
    → (series : AllSeries) × HoldParts declared fs series × (left_by_all declared (take (i + 1) commands) [] ≡ Ok series)
carried_more declared commands i command es fs lt is taken mid carry =
    let now = carry mid.0 mid.1 (taken_next declared commands i command mid.0 lt is taken mid.2) in
    (now.0, now.1, ap (λ (cs : List Command). left_by_all declared cs []) (sym (at_take commands i command lt is)) ∙ left_more declared (take i commands) command [] mid.0 mid.2 now.0 now.2)

-- no engine has strayed, before and behind
pub calm_on : {X : Type 0} (r : Result X RunnerFault) (es ds fs : List EngineSeen) → Each Stays es ds → OnOk r (Each KeepsStrays ds fs) → OnOk r (Each KeepsStrays es fs)
calm_on (Ok x) es ds fs stays calm = λ i e at. let o = stays i e at in let p = calm i o.0 o.1 in (p.0, p.1, record { strays = p.2.strays ∙ o.2.strays.strays; stray = p.2.stray ∙ o.2.strays.stray })
calm_on (Err fault) es ds fs stays calm = tt

-- what the loads of all commands leave is held
pub held_left : {X : Type 0} (r : Result X RunnerFault) (declared : List LabelList) (es fs : List EngineSeen) (put : AllSeries → Result AllSeries RunnerFault) → HoldParts declared es [] → IsOk (put []) → OnOk r (Carry declared es fs put)
    → OnOk r ((series : AllSeries) → put [] ≡ Ok series → HoldParts declared fs series)
held_left (Ok x) declared es fs put empty taken carry = λ series left.
    let now = carry [] empty taken in
    let same : now.0 ≡ series = (let a = now.2 in cc) in
    subst (λ (s : AllSeries). HoldParts declared fs s) same now.1
held_left (Err fault) declared es fs put empty taken carry = tt

-- ---- answers

pub answers_as : (X Y : Type 0) (said : Result AllSeries RunnerFault) (fault : RunnerFault) → AnswersLoads {X = X} said (Err fault) → AnswersLoads {X = Y} said (Err fault)
answers_as X Y (Ok series) fault h = tt
answers_as X Y (Err f) fault (inl e) = inl (let same : fault ≡ f = cc in ap (λ (x : RunnerFault). Err x) same)
answers_as X Y (Err f) fault (inr e) = inr (let same : fault ≡ Memory = cc in ap (λ (x : RunnerFault). Err x) same)

pub no_run_by : (T : Type 0) (cause : SinkFail) → IsNoRun {T = T} (Err (cut_by cause))
no_run_by T Failed = tt
no_run_by T NoMemory = tt

-- ---- loads that are taken, or refused

pub answers_ok : (X : Type 0) (said : Result AllSeries RunnerFault) (r : Result X RunnerFault) → IsOk said → AnswersLoads said r
answers_ok X (Ok series) r ok = tt
answers_ok X (Err fault) r ok = absurd (no_ok fault ok)

of_loads : (said : Result AllSeries RunnerFault) (fault : RunnerFault) → IsNoLoadFault fault → IfOfLoads said fault
of_loads said (Refused refusal) none = absurd none
of_loads said (Range line) none = absurd none
of_loads said (Run fault) none = tt
of_loads said Write none = tt
of_loads said Memory none = tt

pub explained_none : (X : Type 0) (said : Result AllSeries RunnerFault) (r : Result X RunnerFault) → IfErr r IsNoLoadFault → IfErr r (IfOfLoads said)
explained_none X said (Ok x) none = tt
explained_none X said (Err fault) none = of_loads said fault none

pub err_none : (said : Result AllSeries RunnerFault) (P : Type 0) → IsOk said → IfErr said (λ _. P)
err_none (Ok series) P ok = tt
err_none (Err fault) P ok = absurd (no_ok fault ok)

pub err_all : (said : Result AllSeries RunnerFault) (P : Type 0) → P → IfErr said (λ _. P)
err_all (Ok series) P h = tt
err_all (Err fault) P h = h

pub err_map : (said : Result AllSeries RunnerFault) (P Q : Type 0) → (P → Q) → IfErr said (λ _. P) → IfErr said (λ _. Q)
err_map (Ok series) P Q goes h = tt
err_map (Err fault) P Q goes h = goes h

pub explained_own : (X : Type 0) (said : Result AllSeries RunnerFault) (r : Result X RunnerFault) → IfErr r IsOwnFault → IfErr r (IfOfLoads said)
explained_own X said (Ok x) own = tt
explained_own X said (Err fault) own = of_loads said fault (own_none_loaded fault own)

pub own_never_is : (X : Type 0) (r : Result X RunnerFault) → IfErr r IsOwnFault → IfErr r (λ fault. fault ≡ Write → ⊥)
own_never_is X (Ok x) own = tt
own_never_is X (Err fault) own = own_unwritten fault own

-- ---- no engine's fault

module _ (T : Type 0) where
  pub run_none : (P : Type 0) (fault : RunnerFault) → IsNoRun {T = T} (Err fault) → IfRun {T = T} (Err fault) P
  run_none P (Refused refusal) none = tt
  run_none P (Range line) none = tt
  run_none P (Run fault) none = absurd none
  run_none P Write none = tt
  run_none P Memory none = tt

  pub none_stopped : (r : Result T RunnerFault) (P : Type 0) → IsNoRun r → IfRun r P
  none_stopped (Ok x) P none = tt
  none_stopped (Err fault) P none = run_none P fault none

  module _ (declared : List LabelList) (es : List EngineSeen) where
    kept_all : KeepsServing declared declared es es
    kept_all = record { labels = refl; many = refl; boxes = all_serve es es (all_stay es) }

    pub none_leaves : (r : Result T RunnerFault) → IsNoRun r → LeavesServing r declared declared es es
    none_leaves (Ok x) none = kept_all
    none_leaves (Err (Refused refusal)) none = kept_all
    none_leaves (Err (Range line)) none = kept_all
    none_leaves (Err (Run fault)) none = absurd none
    none_leaves (Err Write) none = kept_all
    none_leaves (Err Memory) none = kept_all

    pub none_faulted : (r : Result T RunnerFault) → IsNoRun r → RunFaulted r es es
    none_faulted (Ok x) none = tt
    none_faulted (Err (Refused refusal)) none = tt
    none_faulted (Err (Range line)) none = tt
    none_faulted (Err (Run fault)) none = absurd none
    none_faulted (Err Write) none = tt
    none_faulted (Err Memory) none = tt

-- ---- before the first command

pub ready_boxes : (declared : List LabelList) (es : List EngineSeen) → 0 < length declared → AreReady declared es → HaveBoxes declared es
ready_boxes declared es some ready = record { some = some; many = ready.boxes; few = omega (arith, ready.boxes, ready.few) }
