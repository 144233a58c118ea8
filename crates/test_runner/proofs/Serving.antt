-- What becomes of engines that a script is run over.
use Rattle.std.proofs.Common.{◌≡◌, ◌∙◌, ℕ, ◌-◌, ◌<◌, ◌≤◌, true, false, List, [], ◌∷◌, ◌++◌, length, map, suc, zero, take, slice_get, Option, Some, None, Result, Ok, Err, refl, sym, ap, subst, arith}
use Rattle.std.specs.Prelude.{IfErr, IfSome, IsOk, MatchOption, OnOk, is_some, remove, ⊤}
use Rattle.std.specs.Option.{option_map}
use Rattle.std.proofs.lemmas.List.{length-map}
use Rattle.edge_io.specs.Causes.{Rose}
use Rattle.exchange.specs.Calls.{Each, Grows}
use Rattle.exchange.specs.Faults.{HasFailed, HasStrayed}
use Rattle.exchange.specs.Standing.{Tells}
use Rattle.exchange.specs.declared.fault.RunFault.{RunFault}
use Rattle.exchange.specs.declared.fault.RunFault.TheVariants as run
use Rattle.query_engine.specs.Engines.{AreSoundAndTell, FaultedLast, IsNoFault, Leaves, last_place, moved_last}
use Rattle.remote_api.specs.Seen.{EngineSeen, Holding, KeepsStrays}
use Rattle.remote_api.specs.declared.frame.Stray.{Stray}
use Rattle.sample_store.specs.Samples.{AllSeries}
use Rattle.script_read.specs.Series.{LabelList}
use Rattle.test_runner.specs.Boxes.{AllTell, AreSound, IfRun, IsCutFault, IsNoLoadFault, IsNoRun, IsOwnFault, KeepsServing, LeavesServing, LosesServing, RunFaulted, Serves, ServesBut, lost_by, ran_into}
use Rattle.test_runner.specs.Loading.{Allowed, HasPut, Leaves as Puts, MayPut, UnlessFailed}
use Rattle.test_runner.specs.Parts.{HasGone, Stays}
use Rattle.test_runner.specs.declared.fault.RunnerFault.{RunnerFault}
use Rattle.test_runner.specs.declared.fault.RunnerFault.TheVariants.{Refused, Range, Run, Write, Memory}
use Rattle.test_runner.proofs.Moving.{before_each, each_moved, map_moved, moved_many, moved_size, moved_there, some_same, take_get, take_inside, within_get, get_within}

-- ---- one engine

stays_itself : (e : EngineSeen) → Stays e e
stays_itself e = record { strays = record { strays = refl; stray = refl }; tells = refl; declared = refl; faults = omega arith; sound = λ s. s }

serves_of : (e f : EngineSeen) → Stays e f → Serves e f
serves_of e f s = record { tells = s.tells; declared = s.declared; faults = s.faults; sound = s.sound }

grown_serves : (e f : EngineSeen) → Grows e f → Serves e f
grown_serves e f g = record { tells = ap (λ (o : Option Holding). is_some o) g.holding; declared = ap (λ (o : Option Holding). option_map (λ (h : Holding). h.declared) o) g.holding; faults = g.faults; sound = g.sound }

serves_then : (e d f : EngineSeen) → Stays e d → Serves d f → Serves e f
serves_then e d f a b = record { tells = b.tells ∙ a.tells; declared = b.declared ∙ a.declared; faults = omega (arith, a.faults, b.faults); sound = λ s. b.sound (a.sound s) }

stays_then : (e d f : EngineSeen) → Stays e d → Stays d f → Stays e f
stays_then e d f a b = record {
  strays = record { strays = b.strays.strays ∙ a.strays.strays; stray = b.strays.stray ∙ a.strays.stray };
  tells = b.tells ∙ a.tells;
  declared = b.declared ∙ a.declared;
  faults = omega (arith, a.faults, b.faults);
  sound = λ s. b.sound (a.sound s);
}

-- ---- all of them

pub all_stay : (es : List EngineSeen) → Each Stays es es
all_stay es i e at = (e, at, stays_itself e)

pub all_serve : (es fs : List EngineSeen) → Each Stays es fs → Each Serves es fs
all_serve es fs each i e at = let o = each i e at in (o.0, o.1, serves_of e o.0 o.2)

pub all_calm : (es fs : List EngineSeen) → Each Stays es fs → Each KeepsStrays es fs
all_calm es fs each i e at = let o = each i e at in (o.0, o.1, o.2.strays)

all_grown : (es fs : List EngineSeen) → Each Grows es fs → Each Serves es fs
all_grown es fs each i e at = let o = each i e at in (o.0, o.1, grown_serves e o.0 o.2)

-- engines that serve and haven't strayed
pub all_still : (es fs : List EngineSeen) → Each Serves es fs → Each KeepsStrays es fs → Each Stays es fs
all_still es fs serve calm i e at =
    let o = serve i e at in
    let c = calm i e at in
    let strays : KeepsStrays e o.0 = subst (KeepsStrays e) (some_same c.0 o.0 (sym c.1 ∙ o.1)) c.2 in
    (o.0, o.1, record { strays = strays; tells = o.2.tells; declared = o.2.declared; faults = o.2.faults; sound = o.2.sound })

all_then : (es ds fs : List EngineSeen) → Each Stays es ds → Each Serves ds fs → Each Serves es fs
all_then es ds fs a b i e at = let o = a i e at in let p = b i o.0 o.1 in (p.0, p.1, serves_then e o.0 p.0 o.2 p.2)

pub all_on : (es ds fs : List EngineSeen) → Each Stays es ds → Each Stays ds fs → Each Stays es fs
all_on es ds fs a b i e at = let o = a i e at in let p = b i o.0 o.1 in (p.0, p.1, stays_then e o.0 p.0 o.2 p.2)

-- ---- behind calls that none has failed

pub get_taken : {X : Type 0} (xs : List X) (n k : ℕ) (x : X) → k < n → slice_get xs k ≡ Some x → slice_get (take n xs) k ≡ Some x
get_taken xs zero k x l e = absurd (omega (arith, l))
get_taken [] (suc n) k x l e = e
get_taken (y ∷ xs) (suc n) zero x l e = e
get_taken (y ∷ xs) (suc n) (suc k) x l e = get_taken xs n k x (omega (arith, l)) e

module _ (es ds : List EngineSeen) (many : length ds ≡ length es) (stays : Each Stays es ds) where
  before : (n k : ℕ) (d : EngineSeen) → slice_get (take n ds) k ≡ Some d → (e : EngineSeen) × (slice_get (take n es) k ≡ Some e) × Stays e d
  before n k d at =
      let o = before_each Stays es ds k d many stays (take_get ds n k d at) in
      (o.0, get_taken es n k o.0 (take_inside ds n k d at) o.1, o.2)

  pub tell_since : (n : ℕ) → AllTell n es → AllTell n ds
  tell_since n tell k d at = let o = before n k d at in o.2.tells ∙ tell k o.0 o.1

  pub sound_since : (n : ℕ) → AreSound (take n es) → AreSound (take n ds)
  sound_since n sound k d at = let o = before n k d at in o.2.sound (sound k o.0 o.1)

  loses_since : (named : Option ℕ) (d0 d1 d2 : List LabelList) (fs : List EngineSeen) → d1 ≡ d0 → ServesBut named d1 d2 ds fs → ServesBut named d0 d2 es fs
  loses_since None d0 d1 d2 fs same h = record { labels = h.labels ∙ same; many = h.many ∙ many; boxes = all_then es ds fs stays h.boxes }
  loses_since (Some i) d0 d1 d2 fs same h = record {
    one = subst (λ (d : List LabelList). i < length d) same h.one;
    labels = h.labels ∙ ap (λ (d : List LabelList). remove d i) same;
    many = h.many ∙ many;
    boxes = all_then (moved_last i es) (moved_last i ds) fs (each_moved Stays i es ds many stays) h.boxes;
  }

  pub leaves_since : (T : Type 0) (r : Result T RunnerFault) (d0 d1 d2 : List LabelList) (fs : List EngineSeen) → d1 ≡ d0 → LeavesServing r d1 d2 ds fs → LeavesServing r d0 d2 es fs
  leaves_since T (Ok x) d0 d1 d2 fs same h = loses_since None d0 d1 d2 fs same h
  leaves_since T (Err fault) d0 d1 d2 fs same h = loses_since (lost_by fault) d0 d1 d2 fs same h

  -- the box that was moved, as it was before
  module _ (i : ℕ) where
    earlier : (k : ℕ) (d : EngineSeen) → slice_get (moved_last i ds) k ≡ Some d → (e : EngineSeen) × (slice_get (moved_last i es) k ≡ Some e) × Stays e d
    earlier k d at = before_each Stays (moved_last i es) (moved_last i ds) k d (moved_many Stays i es ds many stays) (each_moved Stays i es ds many stays) at

    failed_since : (fs : List EngineSeen) → HasFailed (last_place ds) (moved_last i ds) fs → HasFailed (last_place es) (moved_last i es) fs
    failed_since fs h =
        let o = earlier (last_place ds) h.e h.e_at in
        let place : length ds - 1 ≡ length es - 1 = ap (λ (n : ℕ). n - 1) many in
        let rose : Rose o.0.faults h.f.faults = omega (arith, o.2.faults, h.rose) in
        record { e = o.0; f = h.f; e_at = ap (slice_get (moved_last i es)) (sym place) ∙ o.1; f_at = ap (slice_get fs) (sym place) ∙ h.f_at; rose = rose; unsound = λ s. h.unsound (o.2.sound s) }

    strayed_since : (one : Stray) (fs : List EngineSeen) → HasStrayed (last_place ds) one (moved_last i ds) fs → HasStrayed (last_place es) one (moved_last i es) fs
    strayed_since one fs h =
        let o = earlier (last_place ds) h.e h.e_at in
        let place : length ds - 1 ≡ length es - 1 = ap (λ (n : ℕ). n - 1) many in
        let was = o.2.strays.strays in
        record { e = o.0; f = h.f; e_at = ap (slice_get (moved_last i es)) (sym place) ∙ o.1; f_at = ap (slice_get fs) (sym place) ∙ h.f_at; rose = subst (λ (n : ℕ). Rose n h.f.strays) was h.rose; last = h.last; untold = λ tells. h.untold (o.2.tells ∙ tells) }

  pub faulted_since : (T : Type 0) (r : Result T RunnerFault) (fs : List EngineSeen) → RunFaulted r ds fs → RunFaulted r es fs
  faulted_since T (Ok x) fs h = tt
  faulted_since T (Err (Refused refusal)) fs h = tt
  faulted_since T (Err (Range line)) fs h = tt
  faulted_since T (Err Write) fs h = tt
  faulted_since T (Err Memory) fs h = tt
  faulted_since T (Err (Run run.Memory)) fs h = h
  faulted_since T (Err (Run (run.EngineFault i))) fs h = failed_since i fs h
  faulted_since T (Err (Run (run.OutOfStep i expected got))) fs h = strayed_since i _ fs h
  faulted_since T (Err (Run (run.WrongCell i at))) fs h = strayed_since i _ fs h

-- ---- a write that failed, and want of memory

module _ (T : Type 0) where
  pub memory_cut : (r : Result T RunnerFault) → IfErr r (λ f. f ≡ Memory) → IfErr r IsCutFault
  memory_cut (Ok x) h = tt
  memory_cut (Err fault) h = subst IsCutFault (sym h) tt

  pub memory_own : (r : Result T RunnerFault) → IfErr r (λ f. f ≡ Memory) → IfErr r IsOwnFault
  memory_own (Ok x) h = tt
  memory_own (Err fault) h = subst IsOwnFault (sym h) tt

  pub cut_leaves : (U : Type 0) (y : U) (r : Result T RunnerFault) (before now : List LabelList) (es fs : List EngineSeen) → IfErr r IsCutFault → LeavesServing {T = U} (Ok y) before now es fs → LeavesServing r before now es fs
  cut_leaves U y (Ok x) before now es fs c h = h
  cut_leaves U y (Err (Refused refusal)) before now es fs c h = absurd c
  cut_leaves U y (Err (Range line)) before now es fs c h = absurd c
  cut_leaves U y (Err (Run fault)) before now es fs c h = absurd c
  cut_leaves U y (Err Write) before now es fs c h = h
  cut_leaves U y (Err Memory) before now es fs c h = h

  pub cut_faulted : (r : Result T RunnerFault) (es fs : List EngineSeen) → IfErr r IsCutFault → RunFaulted r es fs
  cut_faulted (Ok x) es fs c = tt
  cut_faulted (Err (Refused refusal)) es fs c = tt
  cut_faulted (Err (Range line)) es fs c = tt
  cut_faulted (Err (Run fault)) es fs c = absurd c
  cut_faulted (Err Write) es fs c = tt
  cut_faulted (Err Memory) es fs c = tt

  pub cut_stopped : (r : Result T RunnerFault) (P : Type 0) → IfErr r IsCutFault → IfRun r P
  cut_stopped (Ok x) P c = tt
  cut_stopped (Err (Refused refusal)) P c = tt
  cut_stopped (Err (Range line)) P c = tt
  cut_stopped (Err (Run fault)) P c = absurd c
  cut_stopped (Err Write) P c = tt
  cut_stopped (Err Memory) P c = tt

  pub cut_none_loaded : (r : Result T RunnerFault) → IfErr r IsCutFault → IfErr r IsNoLoadFault
  cut_none_loaded (Ok x) c = tt
  cut_none_loaded (Err (Refused refusal)) c = absurd c
  cut_none_loaded (Err (Range line)) c = absurd c
  cut_none_loaded (Err (Run fault)) c = tt
  cut_none_loaded (Err Write) c = tt
  cut_none_loaded (Err Memory) c = tt

  pub stopped_by : (fault : RunnerFault) (P : Type 0) → P → IfRun {T = T} (Err fault) P
  stopped_by (Refused refusal) P h = tt
  stopped_by (Range line) P h = tt
  stopped_by (Run fault) P h = h
  stopped_by Write P h = tt
  stopped_by Memory P h = tt

pub own_none_loaded : (fault : RunnerFault) → IsOwnFault fault → IsNoLoadFault fault
own_none_loaded (Refused refusal) own = absurd own
own_none_loaded (Range line) own = absurd own
own_none_loaded (Run fault) own = tt
own_none_loaded Write own = tt
own_none_loaded Memory own = tt

pub own_unwritten : (fault : RunnerFault) → IsOwnFault fault → fault ≡ Write → ⊥
own_unwritten fault own is = subst IsOwnFault is own

-- ---- what evaluations leave

module _ (T U : Type 0) (fault : RunFault) (es fs : List EngineSeen) where
  pub ran_leaves : (before now : List LabelList) → Leaves {T = T} (Err fault) before now es fs → LeavesServing {T = U} (Err (ran_into fault)) before now es fs
  ran_leaves before now h = by fault h
    where
      by : (x : RunFault) → Leaves {T = T} (Err x) before now es fs → LeavesServing {T = U} (Err (ran_into x)) before now es fs
      by run.Memory h = record { labels = h.labels; many = h.many; boxes = all_grown es fs h.boxes }
      by (run.EngineFault i) h = record { one = h.one; labels = h.labels; many = h.many; boxes = all_grown (moved_last i es) fs h.boxes }
      by (run.OutOfStep i expected got) h = record { one = h.one; labels = h.labels; many = h.many; boxes = all_grown (moved_last i es) fs h.boxes }
      by (run.WrongCell i at) h = record { one = h.one; labels = h.labels; many = h.many; boxes = all_grown (moved_last i es) fs h.boxes }

  pub ran_faulted : FaultedLast {T = T} (Err fault) es fs → RunFaulted {T = U} (Err (ran_into fault)) es fs
  ran_faulted h = by fault h
    where
      by : (x : RunFault) → FaultedLast {T = T} (Err x) es fs → RunFaulted {T = U} (Err (ran_into x)) es fs
      by run.Memory h = tt
      by (run.EngineFault i) h = h
      by (run.OutOfStep i expected got) h = h
      by (run.WrongCell i at) h = h

  pub ran_sure : IsNoFault {T = T} (Err fault) → IsNoRun {T = U} (Err (ran_into fault))
  ran_sure h = by fault h
    where
      by : (x : RunFault) → IsNoFault {T = T} (Err x) → IsNoRun {T = U} (Err (ran_into x))
      by run.Memory h = tt
      by (run.EngineFault i) h = h
      by (run.OutOfStep i expected got) h = h
      by (run.WrongCell i at) h = h

  pub ran_own : IsOwnFault (ran_into fault)
  ran_own = by fault
    where
      by : (x : RunFault) → IsOwnFault (ran_into x)
      by run.Memory = tt
      by (run.EngineFault i) = tt
      by (run.OutOfStep i expected got) = tt
      by (run.WrongCell i at) = tt

pub kept_leaves : (T U : Type 0) (x : T) (y : U) (before now : List LabelList) (es fs : List EngineSeen) → Leaves {T = T} (Ok x) before now es fs → LeavesServing {T = U} (Ok y) before now es fs
kept_leaves T U x y before now es fs h = record { labels = h.labels; many = h.many; boxes = all_grown es fs h.boxes }

pub sound_tell : (n : ℕ) (es : List EngineSeen) → AllTell n es → AreSound (take n es) → AreSoundAndTell (take n es)
sound_tell n es tell sound i e at = (sound i e at, tell i e at)

-- ---- what loads leave

no_ok : (fault : RunnerFault) (r : Result AllSeries RunnerFault) → IsOk r → r ≡ Err fault → ⊥
no_ok fault (Ok s) ok e = cc
no_ok fault (Err f) ok e = cc

module _ (X : Type 0) (n : ℕ) (es ds : List EngineSeen) where
  -- a fault of loads that are taken is one of an engine, or want of memory
  pub own_fault : (fault : RunnerFault) (Held Holds : AllSeries → Type 0) (put : AllSeries → Result AllSeries RunnerFault) → MayPut false Held put → HasPut {X = X} false Held Holds put (Err fault) → IsOwnFault fault
  own_fault fault Held Holds put may has = let got = has may.0 may.1 may.2 in by fault (put may.0) may.2 got.0 got.2
    where
      by : (f : RunnerFault) (r : Result AllSeries RunnerFault) → IsOk r → (now : AllSeries) → UnlessFailed {X = X} (Err f) (Puts {X = X} (Err f) now r) → IsOwnFault f
      by (Refused refusal) r ok now left = no_ok (Refused refusal) r ok left
      by (Range line) r ok now left = no_ok (Range line) r ok left
      by (Run x) r ok now left = tt
      by Write r ok now left = left
      by Memory r ok now left = tt

  -- the engine that is named is one of the first
  pub gone_named : (fault : RunnerFault) → HasGone {X = X} n (Err fault) es ds → IfSome (lost_by fault) (λ i. i < n)
  gone_named (Refused refusal) gone = tt
  gone_named (Range line) gone = tt
  gone_named Write gone = tt
  gone_named Memory gone = tt
  gone_named (Run run.Memory) gone = tt
  gone_named (Run (run.EngineFault i)) gone = gone.fault.0
  gone_named (Run (run.OutOfStep i expected got)) gone = absurd gone.fault
  gone_named (Run (run.WrongCell i at)) gone = absurd gone.fault

  pub gone_sure : (fault : RunnerFault) → HasGone {X = X} n (Err fault) es ds → AreSound (take n es) → IsNoRun {T = X} (Err fault)
  gone_sure (Refused refusal) gone sound = tt
  gone_sure (Range line) gone sound = tt
  gone_sure Write gone sound = tt
  gone_sure Memory gone sound = tt
  gone_sure (Run run.Memory) gone sound = gone.fault
  gone_sure (Run (run.EngineFault i)) gone sound = gone.fault.1.unsound (sound i gone.fault.1.e (get_taken es n i gone.fault.1.e gone.fault.0 gone.fault.1.e_at))
  gone_sure (Run (run.OutOfStep i expected got)) gone sound = gone.fault
  gone_sure (Run (run.WrongCell i at)) gone sound = gone.fault

  module _ (gs : List EngineSeen) (before now : List LabelList) where
    lost_one : (i : ℕ) → length ds ≡ length es → Each Stays es ds → i < length before → i < length es → now ≡ remove before i → gs ≡ moved_last i ds → LosesServing i before now es gs
    lost_one i many each inside within labels moved = record {
      one = inside;
      labels = labels;
      many = ap length moved ∙ moved_size i ds (omega (arith, within, many)) ∙ many;
      boxes = subst (Each Serves (moved_last i es)) (sym moved) (all_serve (moved_last i es) (moved_last i ds) (each_moved Stays i es ds many each));
    }

    none_lost : length ds ≡ length es → Each Stays es ds → now ≡ before → gs ≡ ds → KeepsServing before now es gs
    none_lost many each labels same = record { labels = labels; many = ap length same ∙ many; boxes = subst (Each Serves es) (sym same) (all_serve es ds each) }

    -- the engine that failed is lost
    pub gone_leaves : (fault : RunnerFault) → HasGone {X = X} n (Err fault) es ds → n ≡ length before → n ≤ length es
        → MatchOption (lost_by fault) (now ≡ before) (λ i. now ≡ remove before i) → MatchOption (lost_by fault) (gs ≡ ds) (λ i. gs ≡ moved_last i ds) → LeavesServing {T = X} (Err fault) before now es gs
    gone_leaves fault gone size within labels moved = by (lost_by fault) (gone_named fault gone) labels moved
      where
        by : (named : Option ℕ) → IfSome named (λ i. i < n) → MatchOption named (now ≡ before) (λ i. now ≡ remove before i) → MatchOption named (gs ≡ ds) (λ i. gs ≡ moved_last i ds) → ServesBut named before now es gs
        by None inside labels moved = none_lost gone.many gone.each labels moved
        by (Some i) inside labels moved = lost_one i gone.many gone.each (omega (arith, inside, size)) (omega (arith, inside, within)) labels moved

    failed_last : (i : ℕ) → length ds ≡ length es → gs ≡ moved_last i ds → HasFailed i es ds → HasFailed (last_place es) (moved_last i es) gs
    failed_last i many moved h = record {
      e = h.e;
      f = h.f;
      e_at = moved_there i (length es) es h.e refl h.e_at;
      f_at = ap (λ (l : List EngineSeen). slice_get l (length es - 1)) moved ∙ moved_there i (length es) ds h.f (sym many) h.f_at;
      rose = h.rose;
      unsound = h.unsound;
    }

    pub gone_faulted : (fault : RunnerFault) → HasGone {X = X} n (Err fault) es ds → MatchOption (lost_by fault) (gs ≡ ds) (λ i. gs ≡ moved_last i ds) → RunFaulted {T = X} (Err fault) es gs
    gone_faulted (Refused refusal) gone moved = tt
    gone_faulted (Range line) gone moved = tt
    gone_faulted Write gone moved = tt
    gone_faulted Memory gone moved = tt
    gone_faulted (Run run.Memory) gone moved = gone.fault
    gone_faulted (Run (run.EngineFault i)) gone moved = failed_last i gone.many moved gone.fault.1
    gone_faulted (Run (run.OutOfStep i expected got)) gone moved = absurd gone.fault
    gone_faulted (Run (run.WrongCell i at)) gone moved = absurd gone.fault

-- a number among those of the first is one of a box
pub named_within : (named : Option ℕ) (n m : ℕ) → n ≤ m → IfSome named (λ i. i < n) → IfSome named (λ i. i < m)
named_within None n m l h = tt
named_within (Some i) n m l h = omega (arith, l, h)

pub gone_serves : (X T : Type 0) (n : ℕ) (x : X) (y : T) (labels : List LabelList) (es ds : List EngineSeen) → HasGone {X = X} n (Ok x) es ds → LeavesServing {T = T} (Ok y) labels labels es ds
gone_serves X T n x y labels es ds gone = record { labels = refl; many = gone.many; boxes = all_serve es ds gone.each }

-- boxes that were moved, as they are seen
pub seen_moved : {B : Type 0} (f : B → EngineSeen) (named : Option ℕ) (bs cs : List B) → MatchOption named (cs ≡ bs) (λ i. cs ≡ moved_last i bs) → MatchOption named (map f cs ≡ map f bs) (λ i. map f cs ≡ moved_last i (map f bs))
seen_moved f None bs cs is = ap (map f) is
seen_moved f (Some i) bs cs is = ap (map f) is ∙ map_moved f i bs

-- ---- boxes that were written over as a whole

leaves_many : {T : Type 0} (r : Result T RunnerFault) (before now : List LabelList) (es fs : List EngineSeen) → LeavesServing r before now es fs → length fs ≡ length es
leaves_many (Ok x) before now es fs h = h.many
leaves_many (Err fault) before now es fs h = by (lost_by fault) h
  where
    by : (named : Option ℕ) → ServesBut named before now es fs → length fs ≡ length es
    by None h = h.many
    by (Some i) h = h.many

take_front : {X : Type 0} (ys zs : List X) (n : ℕ) → length ys ≡ n → take n (ys ++ zs) ≡ ys
take_front [] zs zero size = refl
take_front [] zs (suc n) size = absurd (omega (arith, size))
take_front (y ∷ ys) zs zero size = absurd (omega (arith, size))
take_front (y ∷ ys) zs (suc n) size = ap (λ (l : List _). y ∷ l) (take_front ys zs n (omega (arith, size)))

pub written_over : {B : Type 0} (f : B → EngineSeen) (P : List EngineSeen → List EngineSeen → Type 0) (n : ℕ) (bs ds cs zs : List B) (T : Type 0) (r : Result T RunnerFault) (before now : List LabelList) → ds ≡ bs → length ds ≡ n
    → LeavesServing r before now (map f ds) (map f cs) → P (map f ds) (map f cs) → P (map f bs) (map f (take n (cs ++ zs)))
written_over f P n bs ds cs zs T r before now same size leaves h =
    let many : length cs ≡ n = sym (length-map cs f) ∙ leaves_many r before now (map f ds) (map f cs) leaves ∙ length-map ds f ∙ size in
    subst (λ (xs : List _). P (map f bs) (map f xs)) (sym (take_front cs zs n many)) (subst (λ (xs : List _). P (map f xs) (map f cs)) same h)
