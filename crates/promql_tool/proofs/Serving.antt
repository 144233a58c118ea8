-- What a script leaves of boxes, as a run sees it.
use Rattle.std.proofs.Common.{◌≡◌, ◌∙◌, ℕ, zero, suc, ◌-◌, ◌<◌, ◌≤◌, List, [], ◌∷◌, ◌++◌, length, map, slice_get, take, refl, sym, ap, subst, arith, Option, None, Some}
use Rattle.std.specs.Prelude.{Result, Ok, Err, IfErr, IfSome, OnOk, ◌^◌, false, ⊤}
use Rattle.std.specs.List.{AllByRecursion}
use Rattle.std.specs.Map.{keys_of}
use Rattle.std.specs.Option.{option_map}
use Rattle.exchange.specs.Calls.{Each}
use Rattle.exchange.specs.Faults.{HasFailed, HasStrayed}
use Rattle.exchange.specs.declared.fault.RunFault.{RunFault}
use Rattle.exchange.specs.declared.fault.RunFault.TheVariants as run
use Rattle.label_set.specs.Labels.{is_named, metric_name}
use Rattle.parting_laws.specs.Parted.{MayBeDeclared, names_of_first as parts_first}
use Rattle.query_engine.specs.Engines.{last_place, moved_last, named_by}
use Rattle.remote_api.specs.Seen.{EngineSeen, Holding, KeepsStrays}
use Rattle.remote_api.specs.declared.frame.Stray.{Stray}
use Rattle.step_table.specs.Groups.{Names}
use Rattle.test_runner.specs.Boxes.{AllTell, AreReady, AreSound, FaultedBy, Serves, ServesBut}
use Rattle.test_runner.specs.declared.fault.RunnerFault.TheVariants as runner
use Rattle.tool_words.specs.Asked.{Wish, asked}
use Rattle.tool_words.specs.Engines.{AreDeclarable, AreDeclaredTo, Labels, names_of_first as words_first}
use Rattle.promql_tool.specs.Boxes.{DeclaredSound, IfNames, IsToBlame, KeepsBoxes, KeepsCalm, Lasts, LeavesBoxes, LeavesBut, cut_of}
use Rattle.promql_tool.specs.declared.fault.Cut.{Cut}
use Rattle.promql_tool.specs.Declaring.{HoldDeclared}
use Rattle.promql_tool.specs.Chosen.{DeclaredTell, declared_of, terms_asked}
use Rattle.promql_tool.proofs.BoxLists.{get_taken, map_size, moved_size, still_itself, stood, take_get, take_inside}

-- a box that serves lasts
serves_lasts : (e f : EngineSeen) → Serves e f → Lasts e f
serves_lasts e f s = record { tells = s.tells; faults = s.faults; sound = s.sound }

each_lasts : (es fs : List EngineSeen) → Each Serves es fs → Each Lasts es fs
each_lasts es fs each i e at = let o = each i e at in (o.0, o.1, serves_lasts e o.0 o.2)

pub all_kept : (es fs : List EngineSeen) → length fs ≡ length es → Each Serves es fs → KeepsBoxes es fs
all_kept es fs many each = record { many = many; boxes = each_lasts es fs each }

-- and where none has strayed
pub all_still : (es fs : List EngineSeen) → length fs ≡ length es → Each Serves es fs → Each KeepsStrays es fs → KeepsCalm es fs
all_still es fs many each calm = record { kept = all_kept es fs many each; calm = calm }

-- what holds of a refusal
pub when_err : {X Y : Type 0} (r : Result X Y) (y : Y) (P : Type 0) → IfErr r (λ _. P) → r ≡ Err y → P
when_err {X} {Y} r y P h e = subst (λ (r : Result X Y). IfErr r (λ _. P)) e h

-- boxes that weren't touched
pub untouched_still : (es fs : List EngineSeen) → fs ≡ es → KeepsCalm es fs
untouched_still es fs e = subst (KeepsCalm es) (sym e) (still_itself es)

-- the place at which blame falls
blamed_failed : (i : ℕ) (es fs : List EngineSeen) → i < length es → HasFailed (last_place es) (moved_last i es) fs → IsToBlame None (moved_last i es) fs
blamed_failed i es fs inside h = subst (λ (n : ℕ). HasFailed n (moved_last i es) fs) (ap (λ n. n - 1) (sym (moved_size i es inside))) h

blamed_strayed : (i : ℕ) (one : Stray) (es fs : List EngineSeen) → i < length es → HasStrayed (last_place es) one (moved_last i es) fs → IsToBlame (Some one) (moved_last i es) fs
blamed_strayed i one es fs inside h = subst (λ (n : ℕ). HasStrayed n one (moved_last i es) fs) (ap (λ n. n - 1) (sym (moved_size i es inside))) h

-- an engine's fault
module _ (before now : List Names) (es fs : List EngineSeen) (few : length before ≤ length es) where
  pub fault_leaves : (fault : RunFault) → ServesBut (named_by fault) before now es fs → FaultedBy (runner.Run fault) es fs → LeavesBut (cut_of fault) es fs
  fault_leaves run.Memory h blame = all_kept es fs h.many h.boxes
  fault_leaves (run.EngineFault i) h blame =
      let inside : i < length es = omega (arith, h.one, few) in
      record { one = inside; many = h.many; boxes = each_lasts (moved_last i es) fs h.boxes; blamed = blamed_failed i es fs inside blame }
  fault_leaves (run.OutOfStep i expected got) h blame =
      let inside : i < length es = omega (arith, h.one, few) in
      record { one = inside; many = h.many; boxes = each_lasts (moved_last i es) fs h.boxes; blamed = blamed_strayed i _ es fs inside blame }
  fault_leaves (run.WrongCell i at) h blame =
      let inside : i < length es = omega (arith, h.one, few) in
      record { one = inside; many = h.many; boxes = each_lasts (moved_last i es) fs h.boxes; blamed = blamed_strayed i _ es fs inside blame }

-- ---- boxes are ready for what comes next

declared_so : (labels : Names) (was now : Option Holding) → option_map (λ (h : Holding). h.declared) now ≡ option_map (λ (h : Holding). h.declared) was → IfSome was (λ h. h.declared ≡ Some labels) → IfSome now (λ h. h.declared ≡ Some labels)
declared_so labels None None same h = tt
declared_so labels None (Some x) same h = absurd (cc)
declared_so labels (Some w) None same h = tt
declared_so labels (Some w) (Some x) same h = let d : x.declared ≡ w.declared = cc in d ∙ h

pub ready_on : (declared : List Names) (es fs : List EngineSeen) → length fs ≡ length es → Each Serves es fs → AreReady declared es → AreReady declared fs
ready_on declared es fs many each ready = record {
  boxes = omega (arith, many, ready.boxes);
  few = omega (arith, many, ready.few);
  sets = ready.sets;
  theirs = λ k labels f named at. (let o = came k f at in declared_so labels o.0.holding f.holding o.2.declared (ready.theirs k labels o.0 named o.1));
}
  where
    came : (k : ℕ) (f : EngineSeen) → slice_get fs k ≡ Some f → (e : EngineSeen) × (slice_get es k ≡ Some e) × Serves e f
    came k f at = stood Serves es fs k f many each at

-- ---- boxes that tell

pub tell_on : (n : ℕ) (es fs : List EngineSeen) → KeepsCalm es fs → AllTell n es → AllTell n fs
tell_on n es fs a tell i f at =
    let o = stood Lasts es fs i f a.kept.many a.kept.boxes (take_get fs n i f at) in
    o.2.tells ∙ tell i o.0 (get_taken es n i o.0 (take_inside fs n i f at) o.1)

pub none_tell : (es : List EngineSeen) → AllTell 0 es
none_tell es i e at = absurd (cc)

pub none_sound : (es : List EngineSeen) → AreSound (take 0 es)
none_sound es i e at = absurd (cc)

-- ---- what words declare

module _ (boxes : ℕ) (words : List (List ℕ)) (wish : Option Wish) (is : asked boxes words ≡ wish) where
  declared_by : declared_of boxes words ≡ (terms_asked wish).declared
  declared_by = ap (λ (w : Option Wish). (terms_asked w).declared) is

  pub tell_by : (es : List EngineSeen) → DeclaredTell boxes words es → AllTell (length (terms_asked wish).declared) es
  tell_by es tell = subst (λ (l : List Labels). AllTell (length l) es) declared_by tell

  pub sound_by : (es : List EngineSeen) → DeclaredSound boxes words es → AreSound (take (length (terms_asked wish).declared) es)
  sound_by es sound = subst (λ (l : List Labels). AreSound (take (length l) es)) declared_by sound

  pub none_by_words : declared_of boxes words ≡ [] → (terms_asked wish).declared ≡ []
  none_by_words none = sym declared_by ∙ none

  pub some_by_words : 0 < length (declared_of boxes words) → 0 < length (terms_asked wish).declared
  some_by_words some = subst (λ (l : List Labels). 0 < length l) declared_by some

  -- where none is declared each tells, and each is sound
  pub alone_tell : (es : List EngineSeen) → (terms_asked wish).declared ≡ [] → DeclaredTell boxes words es
  alone_tell es none = subst (λ (l : List Labels). AllTell (length l) es) (sym (declared_by ∙ none)) (none_tell es)

  pub alone_sound : (es : List EngineSeen) → (terms_asked wish).declared ≡ [] → DeclaredSound boxes words es
  alone_sound es none = subst (λ (l : List Labels). AreSound (take (length l) es)) (sym (declared_by ∙ none)) (none_sound es)

-- what is known where an engine's fault is told
pub when_named : (fault : RunFault) (P : Type 0) → P → IfNames (cut_of fault) (λ _. P)
when_named run.Memory P p = tt
when_named (run.EngineFault i) P p = p
when_named (run.OutOfStep i expected got) P p = p
when_named (run.WrongCell i at) P p = p

-- a fact beside others of a refusal
pub first_if_err : {X Y : Type 0} (r : Result X Y) (P Q R : Type 0) → IfErr r (λ _. P × Q × R) → IfErr r (λ _. P)
first_if_err (Ok x) P Q R h = tt
first_if_err (Err e) P Q R h = h.0

-- ---- boxes that labels were declared to

names_alike : (all : List Labels) → words_first all ≡ parts_first all
names_alike [] = refl
names_alike (labels ∷ others) = refl

may_be : (all : List Labels) → AreDeclarable all → MayBeDeclared all
may_be all d = record {
  names = subst (λ (names : List (List ℕ)). AllByRecursion (λ (labels : Labels). keys_of labels ≡ names) all) (names_alike all) d.names;
  unnamed = subst (λ (names : List (List ℕ)). is_named names metric_name ≡ false) (names_alike all) d.unnamed;
  values = d.values;
}

pub ready_of : (boxes : ℕ) (declared : List Labels) (es fs : List EngineSeen) → boxes ≡ length es → boxes < 2 ^ 32 → AreDeclaredTo boxes declared → KeepsBoxes es fs → HoldDeclared declared fs → AreReady declared fs
ready_of boxes declared es fs size few to kept hold = record {
  boxes = omega (arith, size, to.few, kept.many);
  few = omega (arith, size, few, kept.many);
  sets = λ some. may_be declared (to.declarable some);
  theirs = hold;
}

take_front : {B : Type 0} (cs zs : List B) (n : ℕ) → length cs ≡ n → take n (cs ++ zs) ≡ cs
take_front [] zs zero e = refl
take_front [] zs (suc n) e = absurd (omega (arith, e))
take_front (c ∷ cs) zs zero e = absurd (omega (arith, e))
take_front (c ∷ cs) zs (suc n) e = ap (λ ds. c ∷ ds) (take_front cs zs n (omega (arith, e)))

-- boxes that were written over as a whole
pub ready_whole : {B : Type 0} (f : B → EngineSeen) (n : ℕ) (bs ds cs zs : List B) (declared : List Labels) (r : Result ⊤ Cut) → ds ≡ bs → length ds ≡ n → length bs < 2 ^ 32 → AreDeclaredTo (length bs) declared → LeavesBoxes r (map f ds) (map f cs)
    → OnOk r (HoldDeclared declared (map f cs)) → OnOk r (AreReady declared (map f (take n (cs ++ zs))))
ready_whole {B} f n bs ds cs zs declared (Ok x) same size few to still hold =
    let es = map_size f ds in
    let fs = map_size f cs in
    let many = still.kept.many in
    let front : take n (cs ++ zs) ≡ cs = take_front cs zs n (omega (arith, es, fs, many, size)) in
    let bss = map_size f bs in
    let kept : KeepsBoxes (map f bs) (map f cs) = subst (λ (l : List B). KeepsBoxes (map f l) (map f cs)) same still.kept in
    subst (λ (l : List B). AreReady declared (map f l)) (sym front) (ready_of (length bs) declared (map f bs) (map f cs) (sym bss) few to kept hold)
ready_whole f n bs ds cs zs declared (Err why) same size few to still hold = tt
