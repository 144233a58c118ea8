-- Labels that were declared to boxes, one by one.
use Rattle.std.proofs.Common.{◌≡◌, ◌∙◌, ℕ, ◌+◌, ◌-◌, ◌<◌, ◌≤◌, List, length, slice_get, take, refl, sym, ap, subst, arith, Option, Some, None, ⊎_elim}
use Rattle.std.specs.Prelude.{Result, Ok, Err, IfSome, ⊤}
use Rattle.std.specs.Option.{option_map}
use Rattle.std.proofs.lemmas.Bool.{cases_eq}
use Rattle.exchange.specs.Calls.{Each, IsCalled}
use Rattle.query_engine.specs.Engines.{moved_last}
use Rattle.test_runner.specs.Boxes.{AreSound}
use Rattle.remote_api.specs.Seen.{EngineSeen, HasDeclared, Holding, KeepsStrays, declared_with}
use Rattle.remote_api.specs.declared.engine.EngineFail.{EngineFail}
use Rattle.remote_api.specs.declared.engine.EngineFail.TheVariants as fail
use Rattle.tool_words.specs.Engines.{Labels}
use Rattle.promql_tool.specs.Boxes.{AreFresh, HasLost, KeepsBoxes, KeepsCalm, Lasts}
use Rattle.promql_tool.specs.Declaring.{AreUndeclaredFrom, HasItsLabels, HoldDeclared, HoldDeclaredTo, IsDeclared}
use Rattle.promql_tool.proofs.BoxLists.{calm_itself, each_moved, get_taken, get_within, lasts_itself, moved_size, moved_there, some_same, still_itself, still_on, within_get}

-- ---- one call

called_lasts : (labels : Labels) (r : Result ⊤ EngineFail) (e f : EngineSeen) → HasDeclared labels r e f → Lasts e f
called_lasts labels r e f h = record { tells = h.faults.tells; faults = h.faults.cause.later; sound = h.faults.sound }

has_labels : (labels : Labels) (was now : Option Holding) → now ≡ option_map (declared_with labels) was → IfSome now (λ h. h.declared ≡ Some labels)
has_labels labels None now is = subst (λ (o : Option Holding). IfSome o (λ h. h.declared ≡ Some labels)) (sym is) tt
has_labels labels (Some h) now is = subst (λ (o : Option Holding). IfSome o (λ x. x.declared ≡ Some labels)) (sym is) refl

declared_one : (labels : Labels) (e f : EngineSeen) → HasDeclared labels (Ok tt) e f → IsDeclared labels e f
declared_one labels e f h = record { lasts = called_lasts labels (Ok tt) e f h; strays = h.strays; labels_are = has_labels labels e.holding f.holding h.declared }

pub called_ok : (i : ℕ) (labels : Labels) (es fs : List EngineSeen) → IsCalled i (HasDeclared labels (Ok tt)) es fs → IsCalled i (IsDeclared labels) es fs
called_ok i labels es fs c = record { others = c.others; one = λ e at. (let o = c.one e at in (o.0, o.1, declared_one labels e o.0 o.2)) }

-- the boxes last
pub called_keeps : (i : ℕ) (labels : Labels) (r : Result ⊤ EngineFail) (es fs : List EngineSeen) → length fs ≡ length es → IsCalled i (HasDeclared labels r) es fs → KeepsBoxes es fs
called_keeps i labels r es fs many c = record {
  many = many;
  boxes = λ k e at. ⊎_elim (λ same. here k e same at) (λ other. (e, c.others k other ∙ at, lasts_itself e)) (cases_eq k i);
}
  where
    here : (k : ℕ) (e : EngineSeen) → k ≡ i → slice_get es k ≡ Some e → (f : EngineSeen) × (slice_get fs k ≡ Some f) × Lasts e f
    here k e same at =
        let o = c.one e (ap (slice_get es) (sym same) ∙ at) in
        (o.0, ap (slice_get fs) same ∙ o.1, called_lasts labels r e o.0 o.2)

-- the same of a call that was taken, after which none has strayed
one_keeps : (i : ℕ) (labels : Labels) (es fs : List EngineSeen) → length fs ≡ length es → IsCalled i (IsDeclared labels) es fs → KeepsCalm es fs
one_keeps i labels es fs many c = record {
  kept = record { many = many; boxes = λ k e at. ⊎_elim (λ same. lasts k e same at) (λ other. (e, c.others k other ∙ at, lasts_itself e)) (cases_eq k i) };
  calm = λ k e at. ⊎_elim (λ same. calm k e same at) (λ other. (e, c.others k other ∙ at, calm_itself e)) (cases_eq k i);
}
  where
    lasts : (k : ℕ) (e : EngineSeen) → k ≡ i → slice_get es k ≡ Some e → (f : EngineSeen) × (slice_get fs k ≡ Some f) × Lasts e f
    lasts k e same at =
        let o = c.one e (ap (slice_get es) (sym same) ∙ at) in
        (o.0, ap (slice_get fs) same ∙ o.1, o.2.lasts)

    calm : (k : ℕ) (e : EngineSeen) → k ≡ i → slice_get es k ≡ Some e → (f : EngineSeen) × (slice_get fs k ≡ Some f) × KeepsStrays e f
    calm k e same at =
        let o = c.one e (ap (slice_get es) (sym same) ∙ at) in
        (o.0, ap (slice_get fs) same ∙ o.1, o.2.strays)

pub called_calm : (i : ℕ) (labels : Labels) (es fs : List EngineSeen) → length fs ≡ length es → IsCalled i (HasDeclared labels (Ok tt)) es fs → KeepsCalm es fs
called_calm i labels es fs many c = one_keeps i labels es fs many (called_ok i labels es fs c)

-- the box that failed was lost
pub called_lost : (i : ℕ) (labels : Labels) (es fs gs : List EngineSeen) → i < length es → length fs ≡ length es → IsCalled i (HasDeclared labels (Err fail.Failed)) es fs → gs ≡ moved_last i fs
    → HasLost (record { engine = i; stray = None }) es gs
called_lost i labels es fs gs inside many c moved =
    let kept = called_keeps i labels (Err fail.Failed) es fs many c in
    let e = within_get es i inside in
    let o = c.one e.0 e.1 in
    let size : length (moved_last i es) ≡ length es = moved_size i es inside in
    record {
      one = inside;
      many = ap length moved ∙ moved_size i fs (omega (arith, inside, many)) ∙ many;
      boxes = subst (Each Lasts (moved_last i es)) (sym moved) (each_moved Lasts i es fs many kept.boxes);
      blamed = record {
        e = e.0;
        f = o.0;
        e_at = moved_there i (length (moved_last i es)) es e.0 size e.1;
        f_at = ap (λ (l : List EngineSeen). slice_get l (length (moved_last i es) - 1)) moved ∙ moved_there i (length (moved_last i es)) fs o.0 (size ∙ sym many) o.1;
        rose = o.2.faults.cause.rose refl;
        unsound = λ s. o.2.faults.never s refl;
      };
    }

-- which wasn't sound
pub called_sound : (i : ℕ) (labels : Labels) (es fs : List EngineSeen) → i < length es → IsCalled i (HasDeclared labels (Err fail.Failed)) es fs → AreSound (take (i + 1) es) → ⊥
called_sound i labels es fs inside c sound =
    let e = within_get es i inside in
    let o = c.one e.0 e.1 in
    o.2.faults.never (sound i e.0 (get_taken es (i + 1) i e.0 (omega arith) e.1)) refl

-- ---- one call behind another

-- labels were declared to so many boxes
pub record DeclaredSo (i : ℕ) (declared : List Labels) (es fs : List EngineSeen) : Type 0 where
  pub kept : KeepsCalm es fs
  pub below : HoldDeclaredTo i declared fs
  pub above : (k : ℕ) → i ≤ k → slice_get fs k ≡ slice_get es k

pub none_declared : (declared : List Labels) (es : List EngineSeen) → DeclaredSo 0 declared es es
none_declared declared es = record { kept = still_itself es; below = λ k labels e l at there. absurd (omega (arith, l)); above = λ k l. refl }

pub undeclared : (i : ℕ) (declared : List Labels) (es fs : List EngineSeen) → AreFresh es → DeclaredSo i declared es fs → AreUndeclaredFrom i fs
undeclared i declared es fs fresh so k f l at = (fresh k f (sym (so.above k l) ∙ at)).undeclared

pub one_declared : (i : ℕ) (declared : List Labels) (labels : Labels) (es fs gs : List EngineSeen) → slice_get declared i ≡ Some labels → i < length es → length gs ≡ length fs → DeclaredSo i declared es fs → IsCalled i (IsDeclared labels) fs gs
    → DeclaredSo (i + 1) declared es gs
one_declared i declared labels es fs gs its inside many so c = record {
  kept = still_on es fs gs so.kept (one_keeps i labels fs gs many c);
  below = λ k names g l at there. ⊎_elim (λ same. here k names g same at there) (λ other. so.below k names g (omega (arith, l, other)) at (sym (c.others k other) ∙ there)) (cases_eq k i);
  above = λ k l. c.others k (λ same. absurd (omega (arith, l, same))) ∙ so.above k (omega (arith, l));
}
  where
    here : (k : ℕ) (names : Labels) (g : EngineSeen) → k ≡ i → slice_get declared k ≡ Some names → slice_get gs k ≡ Some g → HasItsLabels names g
    here k names g same at there =
        let f = within_get fs i (omega (arith, inside, so.kept.kept.many)) in
        let o = c.one f.0 f.1 in
        let one : o.0 ≡ g = some_same o.0 g (sym o.1 ∙ ap (slice_get gs) (sym same) ∙ there) in
        let its_own : labels ≡ names = some_same labels names (sym its ∙ ap (slice_get declared) (sym same) ∙ at) in
        subst (λ (n : Labels). HasItsLabels n g) its_own (subst (HasItsLabels labels) one o.2.labels_are)

pub all_declared : (i : ℕ) (declared : List Labels) (es fs : List EngineSeen) → length declared ≤ i → DeclaredSo i declared es fs → HoldDeclared declared fs
all_declared i declared es fs l so k labels f at there = let inside : k < length declared = get_within declared k labels at in so.below k labels f (omega (arith, inside, l)) at there
