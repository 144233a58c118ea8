-- What calls of engines leave, one after another.
use Rattle.std.proofs.Common.{◌≡◌, ◌∙◌, ℕ, zero, suc, ◌<◌, ◌≤◌, true, List, [], ◌∷◌, length, slice_get, Some, Result, Ok, Err, refl, sym, ap, subst, arith, ◌⊎◌, inl, inr, ⊎_elim}
use Rattle.edge_io.specs.Causes.{Rose}
use Rattle.exchange.specs.Faults.{HasFailed}
use Rattle.exchange.specs.declared.fault.RunFault.{RunFault}
use Rattle.exchange.specs.declared.fault.RunFault.TheVariants as run
use Rattle.exchange.specs.Calls.{Each, IsCalled}
use Rattle.remote_api.specs.Seen.{EngineSeen, HasFaults, HasLoaded, Holding, IsBegun, IsCleared, KeepsStrays, cleared, loaded_with}
use Rattle.std.specs.Option.{option_map}
use Rattle.remote_api.specs.declared.engine.EngineFail.{EngineFail}
use Rattle.remote_api.specs.declared.engine.EngineFail.TheVariants as fail
use Rattle.script_read.specs.Series.{LabelList}
use Rattle.std.proofs.lemmas.Bool.{cases_eq}
use Rattle.ticks.specs.declared.moment.Ms.{Ms}
use Rattle.xfrac.specs.declared.value.Held.{Held}
use Rattle.sample_store.specs.Samples.{AllSeries, refusal_of, with_sample}
use Rattle.sample_store.specs.declared.refusal.StoreRefusal.{StoreRefusal}
use Rattle.std.specs.Prelude.{Option, None, IsErrOf, ⊤}
use Rattle.test_runner.specs.Loading.{Leaves}
use Rattle.test_runner.specs.Loads.{sample_put, unless_refused}
use Rattle.test_runner.specs.Parts.{AreCalled, FaultsBy, HasGone, Stays}
use Rattle.test_runner.specs.declared.fault.RunnerFault.{RunnerFault}
use Rattle.test_runner.specs.declared.fault.RunnerFault.TheVariants.{Refused, Range, Run, Write, Memory}

abbrev Answer : Type 0 → Type 0
Answer X = Result X RunnerFault

stays_same : (e : EngineSeen) → Stays e e
stays_same e = record { strays = record { strays = refl; stray = refl }; tells = refl; declared = refl; faults = omega arith; sound = λ s. s }

stays_on : (e d f : EngineSeen) → Stays e d → Stays d f → Stays e f
stays_on e d f a b = record {
  strays = record { strays = b.strays.strays ∙ a.strays.strays; stray = b.strays.stray ∙ a.strays.stray };
  tells = b.tells ∙ a.tells;
  declared = b.declared ∙ a.declared;
  faults = omega (arith, a.faults, b.faults);
  sound = λ s. b.sound (a.sound s);
}

pub gone_same : {n : ℕ} (X : Type 0) (result : Answer X) (es : List EngineSeen) → FaultsBy n result es es → HasGone n result es es
gone_same X result es fault = record { many = refl; each = λ i e at. (e, at, stays_same e); fault = fault }

pub gone_none : {n : ℕ} (X : Type 0) (x : X) (es : List EngineSeen) → HasGone {X = X} n (Ok x) es es
gone_none X x es = gone_same X (Ok x) es tt

within_get : {X : Type 0} (xs : List X) (i : ℕ) → i < length xs → (x : X) × (slice_get xs i ≡ Some x)
within_get [] i l = absurd (omega arith)
within_get (x ∷ xs) zero l = (x, refl)
within_get (x ∷ xs) (suc i) l = within_get xs i (omega arith)

get_within : {X : Type 0} (xs : List X) (i : ℕ) (x : X) → slice_get xs i ≡ Some x → i < length xs
get_within [] i x e = absurd (cc)
get_within (y ∷ xs) zero x e = omega arith
get_within (y ∷ xs) (suc i) x e = let l : i < length xs = get_within xs i x e in omega arith

some_same : {X : Type 0} (a b : X) → Some a ≡ Some b → a ≡ b
some_same a b e = cc

rose_before : (a b c : ℕ) → a ≤ b → Rose b c → Rose a c
rose_before a b c l r = omega (arith, l, r)

module _ {n : ℕ} (X : Type 0) (x : X) (es ds : List EngineSeen) (before : HasGone {X = X} n (Ok x) es ds) where
  failed_before : (i : ℕ) (fs : List EngineSeen) → HasFailed i ds fs → HasFailed i es fs
  failed_before i fs h =
      let l = get_within ds i h.e h.e_at in
      let e = within_get es i (omega (arith, l, before.many)) in
      let g = before.each i e.0 e.1 in
      let stays : Stays e.0 h.e = subst (λ (d : EngineSeen). Stays e.0 d) (some_same g.0 h.e (sym g.1 ∙ h.e_at)) g.2 in
      record { e = e.0; f = h.f; e_at = e.1; f_at = h.f_at; rose = rose_before e.0.faults h.e.faults h.f.faults stays.faults h.rose; unsound = λ s. h.unsound (stays.sound s) }

  faults_before : (Y : Type 0) (result : Answer Y) (fs : List EngineSeen) → FaultsBy n result ds fs → FaultsBy n result es fs
  faults_before Y (Ok y) fs h = tt
  faults_before Y (Err (Refused refusal)) fs h = tt
  faults_before Y (Err (Range line)) fs h = tt
  faults_before Y (Err Write) fs h = tt
  faults_before Y (Err Memory) fs h = tt
  faults_before Y (Err (Run (run.EngineFault i))) fs h = (h.0, failed_before i fs h.1)
  faults_before Y (Err (Run (run.OutOfStep i expected got))) fs h = h
  faults_before Y (Err (Run (run.WrongCell i at))) fs h = h
  faults_before Y (Err (Run run.Memory)) fs h = h

  -- calls, and others behind them
  pub gone_then : (Y : Type 0) (result : Answer Y) (fs : List EngineSeen) → HasGone {X = Y} n result ds fs → HasGone {X = Y} n result es fs
  gone_then Y result fs later = record {
    many = later.many ∙ before.many;
    each = λ i e at. let a = before.each i e at in let b = later.each i a.0 a.1 in (b.0, b.1, stays_on e a.0 b.0 a.2 b.2);
    fault = faults_before Y result fs later.fault;
  }

  -- calls, and a number that is outside the limits
  pub gone_ended : (Y : Type 0) (result : Answer Y) → FaultsBy n result es ds → HasGone {X = Y} n result es ds
  gone_ended Y result fault = record { many = before.many; each = before.each; fault = fault }

  pub gone_ok : (Y : Type 0) (y : Y) → HasGone {X = Y} n (Ok y) es ds
  gone_ok Y y = gone_ended Y (Ok y) tt

faults_as : (n : ℕ) (X Y : Type 0) (fault : RunnerFault) (es fs : List EngineSeen) → FaultsBy {X = X} n (Err fault) es fs → FaultsBy {X = Y} n (Err fault) es fs
faults_as n X Y (Refused refusal) es fs h = tt
faults_as n X Y (Range line) es fs h = tt
faults_as n X Y Write es fs h = tt
faults_as n X Y Memory es fs h = tt
faults_as n X Y (Run (run.EngineFault i)) es fs h = h
faults_as n X Y (Run (run.OutOfStep i expected got)) es fs h = h
faults_as n X Y (Run (run.WrongCell i at)) es fs h = h
faults_as n X Y (Run run.Memory) es fs h = h

pub gone_err : {n : ℕ} (X Y : Type 0) (fault : RunnerFault) (es fs : List EngineSeen) → HasGone {X = X} n (Err fault) es fs → HasGone {X = Y} n (Err fault) es fs
gone_err {n} X Y fault es fs h = record { many = h.many; each = h.each; fault = faults_as n X Y fault es fs h.fault }

-- ---- a store has no engines

no_fault : (n : ℕ) (X : Type 0) (result : Answer X) (new : AllSeries) (line : ℕ) (r : Option StoreRefusal) (taken : AllSeries) → Leaves result new (unless_refused line r taken) → FaultsBy {X = X} n result [] []
no_fault n X (Ok x) new line r taken h = tt
no_fault n X (Err (Refused refusal)) new line r taken h = tt
no_fault n X (Err (Range at)) new line r taken h = tt
no_fault n X (Err Write) new line r taken h = tt
no_fault n X (Err Memory) new line r taken h = tt
no_fault n X (Err (Run fault)) new line None taken h = absurd (cc)
no_fault n X (Err (Run fault)) new line (Some refusal) taken h = absurd (cc)

pub store_gone : {n : ℕ} (X : Type 0) (result : Answer X) (new old : AllSeries) (line : ℕ) (labels : LabelList) (at : Ms) (held : Held) → Leaves result new (sample_put line labels at held old) → HasGone {X = X} n result [] []
store_gone {n} X result new old line labels at held h = gone_same X result [] (no_fault n X result new line (refusal_of old labels at held) (with_sample old labels at held) h)

-- an engine that isn't there can't have failed
pub no_engine : {n : ℕ} (X : Type 0) (fault : RunFault) → HasGone {X = X} n (Err (Run fault)) [] [] → ⊥
no_engine X (run.EngineFault i) h = let l = get_within [] i h.fault.1.e h.fault.1.e_at in omega (arith, l)
no_engine X (run.OutOfStep i expected got) h = h.fault
no_engine X (run.WrongCell i at) h = h.fault
no_engine X run.Memory h = h.fault

-- ---- calls of engines

served : (failed : Type 0) (e f : EngineSeen) → HasFaults failed e f → KeepsStrays e f → option_map (λ (h : Holding). h.declared) f.holding ≡ option_map (λ (h : Holding). h.declared) e.holding → Stays e f
served failed e f faults strays declared = record { strays = strays; tells = faults.tells; declared = declared; faults = faults.cause.later; sound = faults.sound }

-- what is declared to an engine
abbrev declared_in : Option Holding → Option (Option LabelList)
declared_in holding = option_map (λ (h : Holding). h.declared) holding

still_loaded : (labels : LabelList) (at : Ms) (held : Held) (o : Option Holding) → declared_in (option_map (loaded_with labels at held) o) ≡ declared_in o
still_loaded labels at held None = refl
still_loaded labels at held (Some h) = refl

still_cleared : (o : Option Holding) → declared_in (option_map cleared o) ≡ declared_in o
still_cleared None = refl
still_cleared (Some h) = refl

module _ (labels : LabelList) (at : Ms) (held : Held) (i : ℕ) (es fs : List EngineSeen) (many : length fs ≡ length es) where
  declared_so : (result : Result ⊤ EngineFail) (e f : EngineSeen) → HasLoaded labels at held result e f → declared_in f.holding ≡ declared_in e.holding
  declared_so (Ok u) e f h = ap declared_in h.loaded ∙ still_loaded labels at held e.holding
  declared_so (Err fault) e f h = ap declared_in h.unchanged

  called_stays : (result : Result ⊤ EngineFail) → IsCalled i (HasLoaded labels at held result) es fs → Each Stays es fs
  called_stays result called k e at_e = ⊎_elim
      (λ s. let o = called.one e (ap (λ n. slice_get es n) (sym s) ∙ at_e) in (o.0, ap (λ n. slice_get fs n) s ∙ o.1, served (IsErrOf result fail.Failed) e o.0 o.2.faults o.2.strays (declared_so result e o.0 o.2)))
      (λ n. (e, called.others k n ∙ at_e, stays_same e))
      (cases_eq k i)

  pub loaded_gone : {n : ℕ} (X : Type 0) (answer : Answer X) (result : Result ⊤ EngineFail) → IsCalled i (HasLoaded labels at held result) es fs → FaultsBy n answer es fs → HasGone n answer es fs
  loaded_gone X answer result called fault = record { many = many; each = called_stays result called; fault = fault }

  pub loaded_failed : (result : Result ⊤ EngineFail) → result ≡ Err fail.Failed → i < length es → IsCalled i (HasLoaded labels at held result) es fs → HasFailed i es fs
  loaded_failed result failed within calls =
      let called = subst (λ (r : Result ⊤ EngineFail). IsCalled i (HasLoaded labels at held r) es fs) failed calls in
      let e = within_get es i within in
      let o = called.one e.0 e.1 in
      record { e = e.0; f = o.0; e_at = e.1; f_at = o.1; rose = o.2.faults.cause.rose refl; unsound = λ s. o.2.faults.never s refl }

lt_or_le : (a b : ℕ) → (a < b) ⊎ (b ≤ a)
lt_or_le zero zero = inr (omega arith)
lt_or_le zero (suc b) = inl (omega arith)
lt_or_le (suc a) zero = inr (omega arith)
lt_or_le (suc a) (suc b) = ⊎_elim (λ l. inl (omega (arith, l))) (λ l. inr (omega (arith, l))) (lt_or_le a b)

calls_gone : {n : ℕ} (count : ℕ) (R : EngineSeen → EngineSeen → Type 0) (es fs : List EngineSeen) → ((e f : EngineSeen) → R e f → Stays e f) → AreCalled count R es fs → HasGone {X = ⊤} n (Ok tt) es fs
calls_gone count R es fs stays calls = record { many = calls.many; each = each; fault = tt }
  where
    each : Each Stays es fs
    each k e at_e = ⊎_elim
        (λ l. let o = calls.one k e l at_e in (o.0, o.1, stays e o.0 o.2))
        (λ l. (e, calls.others k l ∙ at_e, stays_same e))
        (lt_or_le k count)

pub cleared_gone : {n : ℕ} (count : ℕ) (es fs : List EngineSeen) → AreCalled count IsCleared es fs → HasGone {X = ⊤} n (Ok tt) es fs
cleared_gone count es fs calls = calls_gone count IsCleared es fs (λ e f h. served ⊥ e f h.faults h.strays (ap declared_in h.holding ∙ still_cleared e.holding)) calls

pub begun_gone : {n : ℕ} (count : ℕ) (es fs : List EngineSeen) → AreCalled count IsBegun es fs → HasGone {X = ⊤} n (Ok tt) es fs
begun_gone count es fs calls = calls_gone count IsBegun es fs (λ e f h. served ⊥ e f h.faults h.strays (ap declared_in h.holding)) calls
