-- What calls make of an engine that tells nothing, with the asks of another, and faults and strays of its own.
use Rattle.std.proofs.Common.{◌≡◌, ◌∙◌, ℕ, ◌+◌, ◌-◌, ◌≤◌, ◌^◌, min, true, false, List, [], ◌∷◌, ◌++◌, length, drop, get_or, slice_get, slice_set, refl, sym, ap, subst, Some, None, Ok, Err, arith}
use Rattle.std.specs.Prelude.{ℤ, Bool, Option, Result, IfOk, OnErr, IsErrOf, if◌then◌else◌}
use Rattle.std.specs.Ordering.{int_eq}
use Rattle.std.proofs.lemmas.Bool.Decides.{Decides-int_eq}
use Rattle.edge_io.specs.Causes.{counted}
use Rattle.engine_local.specs.Local.{Local, seen_of}
use Rattle.promql_type.specs.Replacements.{Kept}
use Rattle.remote_api.specs.Seen.{AskSeen, CountsStray, EngineSeen, HasAsked, HasDeclared, HasFaults, HasGiven, HasLoaded, HasPulled, Holding, IsAsked, IsBegun, IsCleared, MayAsk, MayPull}
use Rattle.remote_api.specs.Strays.{or_wrong_cell, out_of_step, stray_of}
use Rattle.remote_api.specs.declared.asks.Ask.{Ask}
use Rattle.remote_api.specs.declared.asks.Part.{Part}
use Rattle.remote_api.specs.declared.engine.EngineFail.{EngineFail}
use Rattle.remote_api.specs.declared.engine.EngineFail.TheVariants as fail
use Rattle.remote_api.specs.declared.engine.Pulled.{Pulled}
use Rattle.remote_api.specs.declared.engine.Pulled.TheVariants as pulled
use Rattle.remote_api.specs.declared.frame.Stray.{Stray}
use Rattle.remote_api.specs.declared.frame.Stray.TheVariants.{OutOfStep}
use Rattle.step_table.specs.Groups.{Names}
use Rattle.step_table.specs.declared.cells.StepCells.{StepCells}
use Rattle.ticks.specs.Listed.{IsListed}
use Rattle.ticks.specs.declared.grid.Grid.{Grid}
use Rattle.ticks.specs.declared.moment.Ms.{Ms}
use Rattle.ticks.specs.declared.walk.Walk.{Walk}
use Rattle.xfrac.specs.declared.value.Held.{Held}
use Rattle.written_engines.specs.Untold.{IsLate, seen_untold}

-- ---- no fault more

calm : (P : Type 0) (e f : Local) (faults strays others : ℕ) (stray other : Option Stray) → (P → ⊥) → HasFaults P (seen_untold e faults strays stray) (seen_untold f faults others other)
calm P e f faults strays others stray other never = record {
  tells = refl;
  cause = record { later = omega arith; rose = λ p. absurd (never p) };
  sound = λ s. s;
  never = λ _ p. never p;
}

no_error : {T : Type 0} (x : T) (e : EngineFail) → IsErrOf (Ok x) e → ⊥
no_error x e h = absurd (cc)

on_err : {T E : Type 0} (P : Type 0) (result : Result T E) → P → OnErr result P
on_err P (Ok x) p = tt
on_err P (Err e) p = p

-- ---- a step at another instant

late_strays : (ask : Ask) (times : List Ms) (step late : StepCells) (steps : List StepCells) → stray_of ask times (step ∷ steps) ≡ None → int_eq step.at.0 late.at.0 ≡ false
    → stray_of ask times (late ∷ steps) ≡ Some (OutOfStep (Some step.at) (Some late.at))
late_strays ask [] step late steps none is_other = absurd (cc (none))
late_strays ask (t ∷ times) step late steps none is_other = by (int_eq t.0 step.at.0) refl none
  where
    same_time : t.0 ≡ step.at.0 → t ≡ step.at
    same_time e = λ i. record { 0 = e i }

    by : (b : Bool) → int_eq t.0 step.at.0 ≡ b → or_wrong_cell ask (step ∷ steps) (if b then out_of_step times steps else Some (OutOfStep (Some t) (Some step.at))) ≡ None
        → stray_of ask (t ∷ times) (late ∷ steps) ≡ Some (OutOfStep (Some step.at) (Some late.at))
    by true e h =
        let here : t.0 ≡ step.at.0 = (Decides-int_eq t.0 step.at.0).0 e in
        let off : int_eq t.0 late.at.0 ≡ false = ap (λ (z : ℤ). int_eq z late.at.0) here ∙ is_other in
        ap (λ (b : Bool). or_wrong_cell ask (late ∷ steps) (if b then out_of_step times steps else Some (OutOfStep (Some t) (Some late.at)))) off
        ∙ ap (λ (u : Ms). Some (OutOfStep (Some u) (Some late.at))) (same_time here)
    by false e h = absurd (cc (h))

-- ---- the calls that change nothing that is seen

module _ (e : Local) (faults strays : ℕ) (stray : Option Stray) where
  abbrev it : EngineSeen
  it = seen_untold e faults strays stray

  pub declared : (labels : Names) → HasDeclared labels (Ok tt) it it
  declared labels = record {
    faults = calm _ e e faults strays strays stray stray (no_error tt fail.Failed);
    declared = refl;
    unchanged = tt;
    asks = record { asks = refl; spent = refl };
    strays = record { strays = refl; stray = refl };
  }

  pub loaded : (labels : Names) (at : Ms) (held : Held) → HasLoaded labels at held (Ok tt) it it
  loaded labels at held = record {
    faults = calm _ e e faults strays strays stray stray (no_error tt fail.Failed);
    loaded = refl;
    unchanged = tt;
    asks = record { asks = refl; spent = refl };
    strays = record { strays = refl; stray = refl };
  }

  pub cleared_all : IsCleared it it
  cleared_all = record {
    faults = calm ⊥ e e faults strays strays stray stray (λ p. p);
    holding = refl;
    asks = record { asks = refl; spent = refl };
    strays = record { strays = refl; stray = refl };
  }

  pub begun : (f : Local) → IsBegun (seen_of e) (seen_of f) → IsBegun it (seen_untold f faults strays stray)
  begun f h = record {
    faults = calm ⊥ e f faults strays strays stray stray (λ p. p);
    holding = refl;
    forgotten = h.forgotten;
    going = h.going;
    strays = record { strays = refl; stray = refl };
  }

  -- ---- asks

  module _ (part : Part) (walk : Walk) (span : Grid) (kept : Kept) where
    pub may_ask : MayAsk part walk span kept it → MayAsk part walk span kept (seen_of e)
    may_ask may = record { going = may.going; form = may.form; needs = may.needs; times = may.times }

    -- an ask that was put behind the others
    abbrev IsAdded : Option Holding → Local → ℕ → Type 0
    IsAdded holding f place =
        (place ≡ length (seen_of e).asks) × (one : AskSeen) × ((seen_of f).asks ≡ (seen_of e).asks ++ one ∷ []) × IsAsked part walk span kept holding one

    added_untold : (f : Local) (r : Result ℕ EngineFail) → IfOk r (IsAdded (seen_of e).holding f) → IfOk r (IsAdded None f)
    added_untold f (Ok place) a = (a.0, a.1, a.2, record { part_is = a.3.part_is; ask = a.3.ask; kept_are = a.3.kept_are; given = a.3.given; left = tt })
    added_untold f (Err x) a = tt

    pub asked : (f : Local) (result : Result ℕ EngineFail) → HasAsked part walk span kept result (seen_of e) (seen_of f) → HasAsked part walk span kept result it (seen_untold f faults strays stray)
    asked f result h = record {
      faults = calm _ e f faults strays strays stray stray (h.faults.never refl);
      holding = refl;
      strays = record { strays = refl; stray = refl };
      asked = added_untold f result h.asked;
      going = h.going;
      failed = λ p. absurd (h.faults.never refl p);
      spent = h.spent;
    }

  -- ---- pulls

  module _ (place most : ℕ) where
    -- an engine that would tell gives no stray
    none_counted : (f : Local) (s : Option Stray) → CountsStray s (seen_of e) (seen_of f) → s ≡ None
    none_counted f None h = refl
    none_counted f (Some s) h = absurd (cc (h.1))

    given_untold : (f : Local) (pull : Pulled) (steps : List StepCells) (one : AskSeen) → HasGiven place most pull steps (seen_of e) (seen_of f) one
        → HasGiven place most pull steps it (seen_untold f faults strays stray) one
    given_untold f pull steps one h = record {
      asks = h.asks;
      going = h.going;
      gives = tt;
      stray = λ all listed. subst (λ (s : Option Stray). CountsStray s it (seen_untold f faults strays stray)) (sym (none_counted f _ (h.stray all listed))) (record { strays = refl; stray = refl });
      true_to_form = tt;
    }

    -- what comes of a pull of the other engine
    pub passed_on : (f : Local) (steps : List StepCells) (result : Result Pulled EngineFail) → HasPulled place most steps result (seen_of e) (seen_of f)
        → HasPulled place most steps result it (seen_untold f faults strays stray)
    passed_on f steps result h = record {
      faults = calm _ e f faults strays strays stray stray (h.faults.never refl);
      holding = refl;
      given = untold result h.given;
      unstrayed = on_err _ result (record { strays = refl; stray = refl });
      failed = λ p. absurd (h.faults.never refl p);
      spent = h.spent;
    }
      where
        untold : (r : Result Pulled EngineFail) → IfOk r (λ pull. (one : AskSeen) → slice_get (seen_of e).asks place ≡ Some one → HasGiven place most pull steps (seen_of e) (seen_of f) one)
            → IfOk r (λ pull. (one : AskSeen) → slice_get (seen_of e).asks place ≡ Some one → HasGiven place most pull steps it (seen_untold f faults strays stray) one)
        untold (Ok pull) g = λ one there. given_untold f pull steps one (g one there)
        untold (Err x) g = tt

    -- a fault
    pub failed : (more : ℕ) → more ≡ counted faults → faults ≤ 2 ^ 64 - 1 → HasPulled place most [] (Err fail.Failed) it (seen_untold e more strays stray)
    failed more is few = record {
      faults = record { tells = refl; cause = record { later = omega (arith, is, few); rose = λ _. omega (arith, is) }; sound = λ s. s; never = λ s p. absurd (cc (s)) };
      holding = refl;
      given = tt;
      unstrayed = record { strays = refl; stray = refl };
      failed = λ p. (record { asks = refl; spent = refl }, refl);
      spent = λ p. absurd (cc (p));
    }

    -- a stray
    pub strayed : (f : Local) (old new : List StepCells) (more : ℕ) (other : Option Stray) → IsLate old new strays more other → HasPulled place most old (Ok pulled.Frame) (seen_of e) (seen_of f)
        → HasPulled place most new (Ok pulled.Frame) it (seen_untold f faults more other)
    strayed f old new more other late h = record {
      faults = calm _ e f faults strays more stray other (no_error pulled.Frame fail.Failed);
      holding = refl;
      given = λ one there.
          subst (λ (steps : List StepCells). HasGiven place most pulled.Frame steps it (seen_untold f faults more other) one) (sym late.is)
          (off one (subst (λ (steps : List StepCells). HasGiven place most pulled.Frame steps (seen_of e) (seen_of f) one) late.was (h.given one there)));
      unstrayed = tt;
      failed = λ p. absurd (no_error pulled.Frame fail.Failed p);
      spent = λ p. absurd (no_error pulled.Frame fail.Memory p);
    }
      where
        off : (one : AskSeen) → HasGiven place most pulled.Frame (late.step ∷ late.rest) (seen_of e) (seen_of f) one
            → HasGiven place most pulled.Frame (late.late ∷ late.rest) it (seen_untold f faults more other) one
        off one g = record {
          asks = g.asks;
          going = g.going;
          gives = tt;
          stray = λ all listed.
              subst (λ (s : Option Stray). CountsStray s it (seen_untold f faults more other))
              (sym (late_strays one.ask (drop one.given all) late.step late.late late.rest (none_counted f _ (g.stray all listed)) late.other))
              (let n = late.counts in omega (arith, n), late.told);
          true_to_form = tt;
        }

    -- the same where all else stays
    pub strayed_as : (f g : Local) (old new : List StepCells) (more others : ℕ) (other : Option Stray) → IsLate old new strays more other → g ≡ f → others ≡ faults
        → HasPulled place most old (Ok pulled.Frame) (seen_of e) (seen_of f) → HasPulled place most new (Ok pulled.Frame) it (seen_untold g others more other)
    strayed_as f g old new more others other late same as_many h =
        subst (λ (x : Local). HasPulled place most new (Ok pulled.Frame) it (seen_untold x others more other)) (sym same)
        (subst (λ (n : ℕ). HasPulled place most new (Ok pulled.Frame) it (seen_untold f n more other)) (sym as_many) (strayed f old new more other late h))

    -- a frame has a step
    pub some_given : (f : Local) (kept : Kept) (steps : List StepCells) → MayPull place kept (seen_of e) → HasPulled place most steps (Ok pulled.Frame) (seen_of e) (seen_of f) → 1 ≤ length steps
    some_given f kept steps may h = (h.given may.1 may.2).gives.1

-- ---- how the first step is replaced

pub head_is : (steps : List StepCells) (step other : StepCells) → slice_get steps 0 ≡ Some step → other ≡ get_or steps 0 other → other.at ≡ step.at
head_is [] step other there is = absurd (cc)
head_is (s ∷ steps) step other there is = let same : s ≡ step = cc in ap (λ (x : StepCells). x.at) (is ∙ same)

pub late_is : (old new : List StepCells) (was late : StepCells) (at got : Ms) (before now : ℕ) (stray : Option Stray) → slice_get old 0 ≡ Some was → new ≡ slice_set old 0 late → at ≡ was.at → late.at ≡ got
    → int_eq at.0 got.0 ≡ false → now ≡ counted before → stray ≡ Some (OutOfStep (Some at) (Some got)) → IsLate old new before now stray
late_is [] new was late at got before now stray there is at_is got_is off counts told = absurd (cc)
late_is (s ∷ rest) new was late at got before now stray there is at_is got_is off counts told =
    let same : s ≡ was = cc in
    record {
      step = was;
      late = late;
      rest = rest;
      was = ap (λ (x : StepCells). x ∷ rest) same;
      is = is;
      other = ap (λ (t : Ms). int_eq t.0 late.at.0) (sym at_is) ∙ (ap (λ (t : Ms). int_eq at.0 t.0) got_is ∙ off);
      counts = counts;
      told = told ∙ (ap (λ (t : Ms). Some (OutOfStep (Some t) (Some got))) at_is ∙ ap (λ (t : Ms). Some (OutOfStep (Some was.at) (Some t))) (sym got_is));
    }
