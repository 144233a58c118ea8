-- What calls leave as it was.
use Rattle.std.proofs.Common.{◌≡◌, ◌∙◌, ℕ, ◌<◌, ◌≤◌, true, List, length, map, slice_get, slice_set, refl, sym, ap, subst, arith, Some, None, ⊎_elim, get_or}
use Rattle.std.specs.Prelude.{Option, Ok, Err, Result, IfSome, is_some}
use Rattle.std.proofs.lemmas.Bool.{cases_eq, false≢true}
use Rattle.std.proofs.lemmas.List.{map-set}
use Rattle.std.proofs.lemmas.Option.{slice_get_read}
use Rattle.edge_io.specs.Causes.{Rose}
use Rattle.remote_api.specs.Seen.{EngineSeen, HasFaults, KeepsStrays}
use Rattle.exchange.specs.declared.place.Asking.{Asking}
use Rattle.exchange.specs.declared.fault.RunFault.{RunFault}
use Rattle.exchange.specs.declared.fault.RunFault.TheVariants as run
use Rattle.exchange.specs.Calls.{AskStays, Each, Grows, HasSameAsks, IsCalled, StaysAt}
use Rattle.exchange.specs.Faults.{Blames, Faulted, HasFailed, HasStrayed, IsNoStray}
use Rattle.exchange.proofs.Lists.{get_map, get_set_other, get_set_same, get_within, map_length, some_same, within_get}

-- ---- lists of engines

pub each_refl : (R : EngineSeen → EngineSeen → Type 0) (es : List EngineSeen) → ((e : EngineSeen) → R e e) → Each R es es
each_refl R es h i e at = (e, at, h e)

pub each_trans : (R : EngineSeen → EngineSeen → Type 0) (es fs gs : List EngineSeen) → ((e f g : EngineSeen) → R e f → R f g → R e g) → Each R es fs → Each R fs gs → Each R es gs
each_trans R es fs gs h a b i e at =
    let one = a i e at in
    let two = b i one.0 one.1 in
    (two.0, two.1, h e one.0 two.0 one.2 two.2)

pub called_each : (i : ℕ) (R S : EngineSeen → EngineSeen → Type 0) (es fs : List EngineSeen) → ((e f : EngineSeen) → R e f → S e f) → ((e : EngineSeen) → S e e) → IsCalled i R es fs → Each S es fs
called_each i R S es fs h r c k e at = ⊎_elim
    (λ s. let o = c.one e (ap (slice_get es) (sym s) ∙ at) in (o.0, ap (slice_get fs) s ∙ o.1, h e o.0 o.2))
    (λ n. (e, c.others k n ∙ at, r e))
    (cases_eq k i)

pub called_one : {B : Type 0} (f : B → EngineSeen) (bs : List B) (i : ℕ) (R : EngineSeen → EngineSeen → Type 0) (b c : B) → i < length bs → b ≡ get_or bs i b → R (f (get_or bs i b)) (f c) → IsCalled i R (map f bs) (map f (slice_set bs i c))
called_one f bs i R b c l e h =
    let here : slice_get (map f bs) i ≡ Some (f b) = get_map f bs i b (slice_get_read bs (length bs) i b refl l e) in
    record {
      others = λ k n. ap (λ l. slice_get l k) (map-set f bs i c) ∙ get_set_other (map f bs) i k (f c) n;
      one = λ x at. (f c, ap (λ l. slice_get l i) (map-set f bs i c) ∙ get_set_same (map f bs) i (f c) (get_within (map f bs) i x at), subst (λ z. R z (f c)) (ap f (sym e) ∙ some_same (f b) x (sym here ∙ at)) h);
    }

pub before_each : (R : EngineSeen → EngineSeen → Type 0) (es fs : List EngineSeen) (k : ℕ) (f : EngineSeen) → length fs ≡ length es → Each R es fs → slice_get fs k ≡ Some f → (e : EngineSeen) × (slice_get es k ≡ Some e) × R e f
before_each R es fs k f l g at =
    let n : k < length fs = get_within fs k f at in
    let x = within_get es k (omega arith) in
    let y = g k x.0 x.1 in
    (x.0, x.1, subst (R x.0) (some_same y.0 f (sym y.1 ∙ at)) y.2)

-- ---- what an engine keeps

pub grows_refl : (e : EngineSeen) → Grows e e
grows_refl e = record { holding = refl; faults = omega arith; sound = λ s. s }

pub grows_trans : (e f g : EngineSeen) → Grows e f → Grows f g → Grows e g
grows_trans e f g a b = record { holding = b.holding ∙ a.holding; faults = let x = a.faults in let y = b.faults in omega arith; sound = λ s. b.sound (a.sound s) }

pub grown_refl : (es : List EngineSeen) → Each Grows es es
grown_refl es = each_refl Grows es grows_refl

pub grown_trans : (es fs gs : List EngineSeen) → Each Grows es fs → Each Grows fs gs → Each Grows es gs
grown_trans es fs gs a b = each_trans Grows es fs gs grows_trans a b

pub grows_by : (failed : Type 0) (e f : EngineSeen) → f.holding ≡ e.holding → HasFaults failed e f → Grows e f
grows_by failed e f holding h = record { holding = holding; faults = h.cause.later; sound = h.sound }

pub strays_refl : (e : EngineSeen) → KeepsStrays e e
strays_refl e = record { strays = refl; stray = refl }

pub strays_trans : (e f g : EngineSeen) → KeepsStrays e f → KeepsStrays f g → KeepsStrays e g
strays_trans e f g a b = record { strays = b.strays ∙ a.strays; stray = b.stray ∙ a.stray }

pub calm_refl : (es : List EngineSeen) → Each KeepsStrays es es
calm_refl es = each_refl KeepsStrays es strays_refl

pub calm_trans : (es fs gs : List EngineSeen) → Each KeepsStrays es fs → Each KeepsStrays fs gs → Each KeepsStrays es gs
calm_trans es fs gs a b = each_trans KeepsStrays es fs gs strays_trans a b

pub same_asks_trans : (es fs gs : List EngineSeen) → Each HasSameAsks es fs → Each HasSameAsks fs gs → Each HasSameAsks es gs
same_asks_trans es fs gs a b = each_trans HasSameAsks es fs gs (λ e f g h k. k ∙ h) a b

pub stays_refl : (place : ℕ) (e : EngineSeen) → StaysAt place e e
stays_refl place e = record { ask = refl; holding = refl; spent = refl }

pub ask_stays_refl : (b : Asking) (es : List EngineSeen) → AskStays b es es
ask_stays_refl b es e at = (e, at, stays_refl b.place e)

pub ask_stays_trans : (b : Asking) (es fs gs : List EngineSeen) → AskStays b es fs → AskStays b fs gs → AskStays b es gs
ask_stays_trans b es fs gs k l e at =
    let one = k e at in
    let two = l one.0 one.1 in
    (two.0, two.1, record { ask = two.2.ask ∙ one.2.ask; holding = two.2.holding ∙ one.2.holding; spent = two.2.spent ∙ one.2.spent })

-- ---- faults

pub rose_before : (a b c : ℕ) → a ≤ b → Rose b c → Rose a c
rose_before a b c l r = omega arith

pub failed_before : (i : ℕ) (es fs gs : List EngineSeen) → length fs ≡ length es → Each Grows es fs → HasFailed i fs gs → HasFailed i es gs
failed_before i es fs gs l g h =
    let y = before_each Grows es fs i h.e l g h.e_at in
    record { e = y.0; f = h.f; e_at = y.1; f_at = h.f_at; rose = rose_before y.0.faults h.e.faults h.f.faults y.2.faults h.rose; unsound = λ s. h.unsound (y.2.sound s) }

strayed_before : (i : ℕ) (one : _) (es fs gs : List EngineSeen) → length fs ≡ length es → Each Grows es fs → Each KeepsStrays es fs → HasStrayed i one fs gs → HasStrayed i one es gs
strayed_before i one es fs gs l g c h =
    let y = before_each KeepsStrays es fs i h.e l c h.e_at in
    let z = g i y.0 y.1 in
    let same : z.0 ≡ h.e = some_same z.0 h.e (sym z.1 ∙ h.e_at) in
    record { e = y.0; f = h.f; e_at = y.1; f_at = h.f_at; rose = subst (λ n. Rose n h.f.strays) y.2.strays h.rose; last = h.last; untold = λ t. h.untold (ap (λ (x : EngineSeen). is_some x.holding) (sym same) ∙ ap is_some z.2.holding ∙ t) }

pub faulted_before : {T : Type 0} (r : Result T RunFault) (es fs gs : List EngineSeen) → length fs ≡ length es → Each Grows es fs → Each KeepsStrays es fs → Faulted r fs gs → Faulted r es gs
faulted_before (Ok x) es fs gs l g c h = h
faulted_before (Err run.Memory) es fs gs l g c h = h
faulted_before (Err (run.EngineFault j)) es fs gs l g c h = failed_before j es fs gs l g h
faulted_before (Err (run.OutOfStep j expected got)) es fs gs l g c h = strayed_before j _ es fs gs l g c h
faulted_before (Err (run.WrongCell j at)) es fs gs l g c h = strayed_before j _ es fs gs l g c h

pub faulted_from : {B T : Type 0} (f : B → EngineSeen) (bs cs ds : List B) (r : Result T RunFault) → length cs ≡ length bs → Each Grows (map f bs) (map f cs) → Each KeepsStrays (map f bs) (map f cs) → Faulted r (map f cs) (map f ds) → Faulted r (map f bs) (map f ds)
faulted_from f bs cs ds r l g c h = faulted_before r (map f bs) (map f cs) (map f ds) (map_length f cs bs l) g c h

-- ---- what an engine tells

pub if_tells : {X : Type 0} (o : Option X) (P : Type 0) → IfSome o (λ _. P) → is_some o ≡ true → P
if_tells None P h e = absurd (false≢true e)
if_tells (Some x) P h e = h

-- what is known of the engine at a place is known of its box
pub known_of : {B : Type 0} (f : B → EngineSeen) (P : EngineSeen → Type 0) (bs : List B) (i : ℕ) (b : B) → i < length bs → b ≡ get_or bs i b → ((e : EngineSeen) → slice_get (map f bs) i ≡ Some e → P e) → P (f (get_or bs i b))
known_of f P bs i b l e h = subst (λ x. P (f x)) e (h (f b) (get_map f bs i b (slice_get_read bs (length bs) i b refl l e)))

pub failed_from : {B : Type 0} (f : B → EngineSeen) (bs cs ds : List B) (i : ℕ) → length cs ≡ length bs → Each Grows (map f bs) (map f cs) → HasFailed i (map f cs) (map f ds) → HasFailed i (map f bs) (map f ds)
failed_from f bs cs ds i l g h = failed_before i (map f bs) (map f cs) (map f ds) (map_length f cs bs l) g h

-- ---- a fault of a call, in the result of another

pub faulted_as : (S T : Type 0) (fault : RunFault) (es fs : List EngineSeen) → Faulted {T = S} (Err fault) es fs → Faulted {T = T} (Err fault) es fs
faulted_as S T run.Memory es fs h = tt
faulted_as S T (run.EngineFault i) es fs h = h
faulted_as S T (run.OutOfStep i expected got) es fs h = h
faulted_as S T (run.WrongCell i at) es fs h = h

pub blames_other : (S T : Type 0) (P Q : ℕ → Type 0) (fault : RunFault) → ((i : ℕ) → P i → Q i) → Blames {T = S} P (Err fault) → Blames {T = T} Q (Err fault)
blames_other S T P Q run.Memory f h = tt
blames_other S T P Q (run.EngineFault i) f h = f i h
blames_other S T P Q (run.OutOfStep i expected got) f h = f i h
blames_other S T P Q (run.WrongCell i at) f h = f i h

pub no_stray_as : (S T : Type 0) (fault : RunFault) → IsNoStray {T = S} (Err fault) → IsNoStray {T = T} (Err fault)
no_stray_as S T run.Memory h = tt
no_stray_as S T (run.EngineFault i) h = tt
no_stray_as S T (run.OutOfStep i expected got) h = h
no_stray_as S T (run.WrongCell i at) h = h
