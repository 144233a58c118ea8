-- What a check answers is what is refused, and what is taken is as it was asked.
use Rattle.std.proofs.Common.{◌≡◌, ℕ, zero, suc, ◌≤◌, true, List, [], ◌∷◌, length, drop, slice_get, refl, ap, subst, Some, None, arith}
use Rattle.std.specs.Prelude.{Option, Result, Ok, Err, is_some}
use Rattle.step_table.specs.declared.cells.StepCells.{StepCells}
use Rattle.ticks.specs.declared.moment.Ms.{Ms}
use Rattle.remote_api.specs.Strays.{Answers, early_end, or_wrong_cell, out_of_step, stray_of}
use Rattle.remote_api.specs.declared.asks.Ask.{Ask}
use Rattle.remote_api.specs.declared.checking.CheckFault.{CheckFault}
use Rattle.remote_api.specs.declared.checking.CheckFault.TheVariants as fault
use Rattle.remote_api.specs.declared.frame.Stray.{Stray}
use Rattle.remote_api.specs.declared.frame.Stray.TheVariants as stray
use Rattle.op_gather.specs.Histories.{Refuses, refusal_of_fault}
use Rattle.op_gather.specs.declared.gather.GatherRefusal.TheVariants.{OutOfStep}

refused_by : (T : Type 0) (found : Option Stray) (f : CheckFault) → Answers {T = T} found (Err f) → Refuses found (Err (refusal_of_fault f))
refused_by T found fault.Memory h = tt
refused_by T None (fault.Strayed one) h = absurd h
refused_by T (Some found) (fault.Strayed (stray.OutOfStep expected got)) h = ap (λ (s : Stray). refusal_of_fault (fault.Strayed s)) h
refused_by T (Some found) (fault.Strayed (stray.WrongCell at)) h = ap (λ (s : Stray). refusal_of_fault (fault.Strayed s)) h

pub refused : {T : Type 0} (found : Option Stray) (answer : Result T CheckFault) (f : CheckFault) → answer ≡ Err f → Answers found answer → Refuses found (Err (refusal_of_fault f))
refused {T} found answer f e h = refused_by T found f (subst (Answers found) e h)

pub none_found : {T : Type 0} (found : Option Stray) (answer : Result T CheckFault) (x : T) → answer ≡ Ok x → Answers found answer → found ≡ None
none_found None answer x e h = refl
none_found (Some found) answer x e h = absurd (subst (Answers (Some found)) e h)

-- steps that are no stray stand at the instants that are to come, and there is at least one
pub none_out_of_step : (ask : Ask) (times : List Ms) (steps : List StepCells) → stray_of ask times steps ≡ None → out_of_step times steps ≡ None
none_out_of_step ask times [] e = refl
none_out_of_step ask times (step ∷ steps) e = by (out_of_step times (step ∷ steps)) e
  where
    by : (o : Option Stray) → or_wrong_cell ask (step ∷ steps) o ≡ None → o ≡ None
    by None f = refl
    by (Some found) f = absurd (cc)

pub some_steps : (ask : Ask) (times : List Ms) (steps : List StepCells) → stray_of ask times steps ≡ None → 1 ≤ length steps
some_steps ask times [] e = absurd (cc)
some_steps ask times (step ∷ steps) e = omega arith

-- ---- an end

pub end_refused : (all : List Ms) (k : ℕ) (next : Option Ms) → is_some next ≡ true → next ≡ slice_get all k → Refuses (early_end (drop k all)) (Err (OutOfStep next None))
end_refused [] zero None h e = absurd (cc)
end_refused [] (suc k) None h e = absurd (cc)
end_refused (t ∷ all) zero None h e = absurd (cc)
end_refused (t ∷ all) (suc k) None h e = end_refused all k None h e
end_refused [] k (Some u) h e = absurd (cc)
end_refused (t ∷ all) zero (Some u) h e = ap (λ (o : Option Ms). OutOfStep o None) e
end_refused (t ∷ all) (suc k) (Some u) h e = end_refused all k (Some u) h e

pub end_taken : (all : List Ms) (k : ℕ) → None ≡ slice_get all k → Refuses (early_end (drop k all)) (Ok tt)
end_taken [] zero e = tt
end_taken [] (suc k) e = tt
end_taken (t ∷ all) zero e = absurd (cc)
end_taken (t ∷ all) (suc k) e = end_taken all k e
