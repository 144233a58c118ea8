-- What calls one after another make of engines.
use Rattle.std.proofs.Common.{◌≡◌, ◌∙◌, ℕ, ◌<◌, ◌≤◌, true, List, Option, length, slice_get, refl, ap, subst, sym, arith, Some}
use Rattle.std.specs.Prelude.{Ok, Err, Result, IfErr, OnOk, IsErrAnd, is_some, ⊤}
use Rattle.edge_io.specs.Causes.{Rose}
use Rattle.exchange.specs.Calls.{Each, Grows, HasSameAsks}
use Rattle.exchange.specs.Exchanging.{Exchanging}
use Rattle.exchange.specs.Faults.{Faulted, HasFailed, HasStrayed}
use Rattle.exchange.specs.Standing.{Tells}
use Rattle.exchange.specs.declared.fault.RunFault.{RunFault}
use Rattle.exchange.specs.declared.fault.RunFault.TheVariants as run
use Rattle.exchange.specs.declared.place.Place.{Place}
use Rattle.op_labels.specs.Rules.{Kept}
use Rattle.remote_api.specs.Seen.{EngineSeen, KeepsStrays}
use Rattle.remote_api.specs.declared.frame.Stray.{Stray}
use Rattle.sample_store.specs.Samples.{AllSeries}
use Rattle.ticks.specs.declared.moment.Ms.{Ms}
use Rattle.plan_tree.specs.Feeding.{HasFed, HasGone, HasRun}
use Rattle.plan_tree.specs.Runs.{as_run}
use Rattle.plan_tree.specs.declared.node.Node.{Node}
use Rattle.plan_tree.specs.declared.turns.Fed.{Fed}
use Rattle.plan_tree.proofs.Numbers.{get_within, some_same, within_get}

each_refl : (R : EngineSeen → EngineSeen → Type 0) (es : List EngineSeen) → ((e : EngineSeen) → R e e) → Each R es es
each_refl R es h i e at = (e, at, h e)

each_trans : (R : EngineSeen → EngineSeen → Type 0) (es fs gs : List EngineSeen) → ((e f g : EngineSeen) → R e f → R f g → R e g) → Each R es fs → Each R fs gs → Each R es gs
each_trans R es fs gs h a b i e at =
    let one = a i e at in
    let two = b i one.0 one.1 in
    (two.0, two.1, h e one.0 two.0 one.2 two.2)

pub before_each : (R : EngineSeen → EngineSeen → Type 0) (es fs : List EngineSeen) (k : ℕ) (f : EngineSeen) → length fs ≡ length es → Each R es fs → slice_get fs k ≡ Some f → (e : EngineSeen) × (slice_get es k ≡ Some e) × R e f
before_each R es fs k f l g at =
    let n : k < length fs = get_within fs k f at in
    let x = within_get es k (omega arith) in
    let y = g k x.0 x.1 in
    (x.0, x.1, subst (R x.0) (some_same y.0 f (sym y.1 ∙ at)) y.2)

grows_trans : (e f g : EngineSeen) → Grows e f → Grows f g → Grows e g
grows_trans e f g a b = record { holding = b.holding ∙ a.holding; faults = let x = a.faults in let y = b.faults in omega arith; sound = λ s. b.sound (a.sound s) }

grown_trans : (es fs gs : List EngineSeen) → Each Grows es fs → Each Grows fs gs → Each Grows es gs
grown_trans es fs gs a b = each_trans Grows es fs gs grows_trans a b

calm_trans : (es fs gs : List EngineSeen) → Each KeepsStrays es fs → Each KeepsStrays fs gs → Each KeepsStrays es gs
calm_trans es fs gs a b = each_trans KeepsStrays es fs gs (λ e f g x y. record { strays = y.strays ∙ x.strays; stray = y.stray ∙ x.stray }) a b

asks_trans : (es fs gs : List EngineSeen) → Each HasSameAsks es fs → Each HasSameAsks fs gs → Each HasSameAsks es gs
asks_trans es fs gs a b = each_trans HasSameAsks es fs gs (λ e f g h k. k ∙ h) a b

rose_before : (a b c : ℕ) → a ≤ b → Rose b c → Rose a c
rose_before a b c l r = omega arith

failed_before : (i : ℕ) (es fs gs : List EngineSeen) → length fs ≡ length es → Each Grows es fs → HasFailed i fs gs → HasFailed i es gs
failed_before i es fs gs l g h =
    let y = before_each Grows es fs i h.e l g h.e_at in
    record { e = y.0; f = h.f; e_at = y.1; f_at = h.f_at; rose = rose_before y.0.faults h.e.faults h.f.faults y.2.faults h.rose; unsound = λ s. h.unsound (y.2.sound s) }

strayed_before : (i : ℕ) (one : Stray) (es fs gs : List EngineSeen) → length fs ≡ length es → Each Grows es fs → Each KeepsStrays es fs → HasStrayed i one fs gs → HasStrayed i one es gs
strayed_before i one es fs gs l g c h =
    let y = before_each KeepsStrays es fs i h.e l c h.e_at in
    let z = g i y.0 y.1 in
    let same : z.0 ≡ h.e = some_same z.0 h.e (sym z.1 ∙ h.e_at) in
    record { e = y.0; f = h.f; e_at = y.1; f_at = h.f_at; rose = subst (λ n. Rose n h.f.strays) y.2.strays h.rose; last = h.last; untold = λ t. h.untold (ap (λ (x : EngineSeen). is_some x.holding) (sym same) ∙ ap is_some z.2.holding ∙ t) }

faulted_before : {T : Type 0} (r : Result T RunFault) (es fs gs : List EngineSeen) → length fs ≡ length es → Each Grows es fs → Each KeepsStrays es fs → Faulted r fs gs → Faulted r es gs
faulted_before (Ok x) es fs gs l g c h = h
faulted_before (Err run.Memory) es fs gs l g c h = h
faulted_before (Err (run.EngineFault j)) es fs gs l g c h = failed_before j es fs gs l g h
faulted_before (Err (run.OutOfStep j expected got)) es fs gs l g c h = strayed_before j _ es fs gs l g c h
faulted_before (Err (run.WrongCell j at)) es fs gs l g c h = strayed_before j _ es fs gs l g c h

-- ---- a run

none_gone : {T E : Type 0} (r : Result T E) (es : List EngineSeen) → HasGone (as_run r) es es
none_gone (Ok x) es = record { many = refl; grown = each_refl Grows es (λ e. record { holding = refl; faults = omega arith; sound = λ s. s }); calm = each_refl KeepsStrays es (λ e. record { strays = refl; stray = refl }); fault = tt }
none_gone (Err x) es = record { many = refl; grown = each_refl Grows es (λ e. record { holding = refl; faults = omega arith; sound = λ s. s }); calm = tt; fault = tt }

-- a call after which all is as it was, which tells of no engine
run_none : {T E : Type 0} (r : Result T E) (es : List EngineSeen) → HasRun (as_run r) es es
run_none {T} {E} (Ok x) es = record { gone = none_gone {E = E} (Ok x) es; asked = each_refl HasSameAsks es (λ e. refl) }
run_none {T} {E} (Err x) es = record { gone = none_gone {T = T} (Err x) es; asked = tt }

-- one call behind another, which was made
pub gone_then : {S T : Type 0} (x : S) (r : Result T RunFault) (es fs gs : List EngineSeen) → HasGone {T = S} (Ok x) es fs → HasGone r fs gs → HasGone r es gs
gone_then x (Ok y) es fs gs a b = record { many = b.many ∙ a.many; grown = grown_trans es fs gs a.grown b.grown; calm = calm_trans es fs gs a.calm b.calm; fault = tt }
gone_then {S} {T} x (Err y) es fs gs a b = record { many = b.many ∙ a.many; grown = grown_trans es fs gs a.grown b.grown; calm = tt; fault = faulted_before {T = T} (Err y) es fs gs a.many a.grown a.calm b.fault }

pub run_then : {S T : Type 0} (x : S) (r : Result T RunFault) (es fs gs : List EngineSeen) → HasRun {T = S} (Ok x) es fs → HasRun r fs gs → HasRun r es gs
run_then x (Ok y) es fs gs a b = record { gone = gone_then x (Ok y) es fs gs a.gone b.gone; asked = asks_trans es fs gs a.asked b.asked }
run_then x (Err y) es fs gs a b = record { gone = gone_then x (Err y) es fs gs a.gone b.gone; asked = tt }

-- a kernel's call behind another
gone_memory : {S T E : Type 0} (x : S) (r : Result T E) (es fs : List EngineSeen) → HasGone {T = S} (Ok x) es fs → HasGone (as_run r) es fs
gone_memory x (Ok y) es fs a = record { many = a.many; grown = a.grown; calm = a.calm; fault = tt }
gone_memory x (Err y) es fs a = record { many = a.many; grown = a.grown; calm = tt; fault = tt }

run_memory : {S T E : Type 0} (x : S) (r : Result T E) (es fs : List EngineSeen) → HasRun {T = S} (Ok x) es fs → HasRun (as_run r) es fs
run_memory {S} {T} {E} x (Ok y) es fs a = record { gone = gone_memory {E = E} x (Ok y) es fs a.gone; asked = a.asked }
run_memory {S} {T} {E} x (Err y) es fs a = record { gone = gone_memory {T = T} x (Err y) es fs a.gone; asked = tt }

-- a fault of a call, in the result of another
gone_as : (S T : Type 0) (fault : RunFault) (es fs : List EngineSeen) → HasGone {T = S} (Err fault) es fs → HasGone {T = T} (Err fault) es fs
gone_as S T run.Memory es fs h = record { many = h.many; grown = h.grown; calm = tt; fault = tt }
gone_as S T (run.EngineFault i) es fs h = record { many = h.many; grown = h.grown; calm = tt; fault = h.fault }
gone_as S T (run.OutOfStep i expected got) es fs h = record { many = h.many; grown = h.grown; calm = tt; fault = h.fault }
gone_as S T (run.WrongCell i at) es fs h = record { many = h.many; grown = h.grown; calm = tt; fault = h.fault }

-- the fault of a call is that of the whole
pub gone_fault : {S T : Type 0} (fault : RunFault) (r : Result T RunFault) (es fs : List EngineSeen) → IsErrAnd r (λ e. e ≡ fault) → HasGone {T = S} (Err fault) es fs → HasGone r es fs
gone_fault fault (Ok x) es fs e h = absurd e
gone_fault {S} {T} fault (Err x) es fs e h = subst (λ (z : RunFault). HasGone {T = T} (Err z) es fs) (sym e) (gone_as S T fault es fs h)

pub run_fault : {S T : Type 0} (fault : RunFault) (r : Result T RunFault) (es fs : List EngineSeen) → IsErrAnd r (λ e. e ≡ fault) → HasRun {T = S} (Err fault) es fs → HasRun r es fs
run_fault fault (Ok x) es fs e h = absurd e
run_fault fault (Err x) es fs e h = record { gone = gone_fault fault (Err x) es fs e h.gone; asked = tt }

-- an answer without a fault
abbrev pub done : Result ⊤ RunFault
done = Ok tt

pub done_none : (es : List EngineSeen) → HasRun done es es
done_none es = run_none {E = RunFault} done es

pub gone_ok_as : {S T : Type 0} (x : S) (y : T) (es fs : List EngineSeen) → HasGone {T = S} (Ok x) es fs → HasGone {T = T} (Ok y) es fs
gone_ok_as x y es fs h = record { many = h.many; grown = h.grown; calm = h.calm; fault = tt }

-- a call that was made, as one without a fault
pub run_done : {S : Type 0} (x : S) (es fs : List EngineSeen) → HasRun {T = S} (Ok x) es fs → HasRun done es fs
run_done x es fs h = record { gone = gone_ok_as x tt es fs h.gone; asked = h.asked }

pub run_ok_as : {T : Type 0} (x : T) (es fs : List EngineSeen) → HasRun done es fs → HasRun {T = T} (Ok x) es fs
run_ok_as x es fs h = record { gone = gone_ok_as tt x es fs h.gone; asked = h.asked }

-- an answer of a kernel, in a run
pub ran : {T E P Q : Type 0} (made : Result T E) (r : Result T RunFault) → r ≡ as_run made → OnOk made P → (P → Q) → OnOk r Q
ran {T} {E} {P} {Q} made r e h f = subst (λ (z : Result T RunFault). OnOk z Q) (sym e) (by made h)
  where
    by : (made : Result T E) → OnOk made P → OnOk (as_run made) Q
    by (Ok x) h = f h
    by (Err x) h = tt

-- what holds of an answer together
pub on_both : {T E : Type 0} (P Q : Type 0) (r : Result T E) → OnOk r P → OnOk r Q → OnOk r (P × Q)
on_both P Q (Ok x) p q = (p, q)
on_both P Q (Err x) p q = tt

pub on_five : {T E : Type 0} (A B C D F : Type 0) (r : Result T E) → OnOk r A → OnOk r B → OnOk r C → OnOk r D → OnOk r F → OnOk r (A × B × C × D × F)
on_five A B C D F (Ok x) a b c d f = (a, b, c, d, f)
on_five A B C D F (Err x) a b c d f = tt

-- over engines and an exchange that end as equal ones do
pub run_as : {T : Type 0} (r : Result T RunFault) (es fs gs : List EngineSeen) → gs ≡ fs → HasRun r es fs → HasRun r es gs
run_as r es fs gs e h = subst (HasRun r es) (sym e) h

pub fed_where : {T : Type 0} (r : Result T RunFault) (store : AllSeries) (kept : Kept) (es fs gs : List EngineSeen) (places : List Place) (now later : Exchanging) (fed : Option Fed) (at : List Ms) (old new : Node) → gs ≡ fs → later ≡ now
    → OnOk r (HasFed store kept es fs places now.places fed at old new) → OnOk r (HasFed store kept es gs places later.places fed at old new)
fed_where r store kept es fs gs places now later fed at old new e f h =
    subst (λ (x : List EngineSeen). OnOk r (HasFed store kept es x places later.places fed at old new)) (sym e) (subst (λ (x : Exchanging). OnOk r (HasFed store kept es fs places x.places fed at old new)) (sym f) h)

-- engines that tell go on doing so
pub tell_on : (es fs : List EngineSeen) → length fs ≡ length es → Each Grows es fs → ((i : ℕ) (e : EngineSeen) → slice_get es i ≡ Some e → Tells e) → (i : ℕ) (f : EngineSeen) → slice_get fs i ≡ Some f → Tells f
tell_on es fs l g tell i f at =
    let y = before_each Grows es fs i f l g at in
    subst (λ o. is_some o ≡ true) (sym y.2.holding) (tell i y.0 y.1)

-- a kernel's call alone, and behind a call that was made
pub kernel_runs : {T E : Type 0} (made : Result T E) (r : Result T RunFault) (es : List EngineSeen) → r ≡ as_run made → HasRun r es es
kernel_runs made r es e = subst (λ z. HasRun z es es) (sym e) (run_none made es)

pub kernel_behind : {S T E : Type 0} (x : S) (made : Result T E) (r : Result T RunFault) (es fs : List EngineSeen) → r ≡ as_run made → HasRun {T = S} (Ok x) es fs → HasRun r es fs
kernel_behind x made r es fs e h = subst (λ z. HasRun z es fs) (sym e) (run_memory x made es fs h)

-- ---- answers

pub run_at : {T : Type 0} (r q : Result T RunFault) (es fs : List EngineSeen) → r ≡ q → HasRun r es fs → HasRun q es fs
run_at r q es fs e h = subst (λ z. HasRun z es fs) e h

-- a call that was made
abbrev pub IsMade : {T E : Type 0} → Result T E → Type 0
IsMade (Ok x) = ⊤
IsMade (Err x) = ⊥

pub ok_of : {T E : Type 0} (made : Result T E) (r : Result T RunFault) (x : T) → r ≡ as_run made → r ≡ Ok x → IsMade made
ok_of (Ok y) r x e was = tt
ok_of {T} (Err y) r x e was = not_ok x (sym e ∙ was)
  where
    not_ok : (x : T) → Err run.Memory ≡ Ok x → ⊥
    not_ok x h = cc

pub was_ok : {T E P : Type 0} (r : Result T E) → IsMade r → OnOk r P → P
was_ok (Ok x) m p = p
was_ok (Err x) m p = absurd m

-- want of memory tells of no engine
pub memory_gone : {T : Type 0} (r : Result T RunFault) (fault : RunFault) (es : List EngineSeen) → IsErrAnd r (λ e. e ≡ fault) → fault ≡ run.Memory → HasGone r es es
memory_gone (Ok x) fault es e m = absurd e
memory_gone {T} (Err x) fault es e m = subst (λ (z : RunFault). HasGone {T = T} (Err z) es es) (sym (e ∙ m)) (none_gone {T = T} {E = RunFault} (Err x) es)

-- a call behind another, whose only error is want of memory
pub own_behind : {S T : Type 0} (x : S) (r : Result T RunFault) (es fs : List EngineSeen) → IfErr r (λ e. e ≡ run.Memory) → HasRun {T = S} (Ok x) es fs → HasRun r es fs
own_behind x (Ok y) es fs m h = record { gone = gone_ok_as x y es fs h.gone; asked = h.asked }
own_behind {S} {T} x (Err e) es fs m h =
    subst (λ (z : RunFault). HasRun {T = T} (Err z) es fs) (sym m) (record { gone = record { many = h.gone.many; grown = h.gone.grown; calm = tt; fault = tt }; asked = tt })

pub memory_behind : {S T : Type 0} (x : S) (r : Result T RunFault) (fault : RunFault) (es fs : List EngineSeen) → IsErrAnd r (λ e. e ≡ fault) → fault ≡ run.Memory → HasRun {T = S} (Ok x) es fs → HasRun r es fs
memory_behind x (Ok y) fault es fs e m h = absurd e
memory_behind {S} {T} x (Err y) fault es fs e m h =
    subst (λ (z : RunFault). HasRun {T = T} (Err z) es fs) (sym (e ∙ m)) (record { gone = record { many = h.gone.many; grown = h.gone.grown; calm = tt; fault = tt }; asked = tt })

pub fault_memory : {T : Type 0} (r : Result T RunFault) (fault : RunFault) → IsErrAnd r (λ e. e ≡ fault) → fault ≡ run.Memory → IfErr r (λ e. e ≡ run.Memory)
fault_memory (Ok x) fault e m = absurd e
fault_memory (Err x) fault e m = e ∙ m

pub own_memory : {T E : Type 0} (made : Result T E) (r : Result T RunFault) → r ≡ as_run made → IfErr r (λ e. e ≡ run.Memory)
own_memory {T} made r e = subst (λ (z : Result T RunFault). IfErr z (λ e. e ≡ run.Memory)) (sym e) (by made)
  where
    by : {E : Type 0} (made : Result T E) → IfErr (as_run made) (λ e. e ≡ run.Memory)
    by (Ok x) = tt
    by (Err x) = refl
