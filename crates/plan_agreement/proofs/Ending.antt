-- Evaluations of plans that agree come to the same.
use Rattle.std.proofs.Common.{List, [], ◌∷◌, refl}
use Rattle.std.specs.Prelude.{ℤ}
use Rattle.std.specs.List.{AllZip}
use Rattle.step_table.specs.Timed.{steps_over}
use Rattle.step_table.specs.WellFormed.{AreSets}
use Rattle.step_table.specs.declared.step.Step.{Step}
use Rattle.step_cells.specs.CellLaws.{Agree}
use Rattle.ticks.specs.declared.moment.Ms.{Ms}
use Rattle.parting_laws.specs.Agreeing.{AgreeAt, AgreeingEndAlike}
use Rattle.logical_plan.specs.PlanMeaning.{plan_meant, plan_step}
use Rattle.plan_agreement.specs.AgreementLaws.{AgreeingMeaningsAgree, AgreeingPlansEndAlike, PlansHaveSets}
use Rattle.plan_agreement.proofs.Agreeing.{steps_agree}

all_at : (f g : ℤ → Step) (times : List Ms) → ((t : ℤ) → Agree (f t) (g t)) → ((t : ℤ) → AreSets (f t).marks) → ((t : ℤ) → AreSets (g t).marks) → AllZip AgreeAt (steps_over f times) (steps_over g times)
all_at f g [] h l r = tt
all_at f g (t ∷ times) h l r = (record { at = refl; step = h t.0; left = l t.0; right = r t.0 }, all_at f g times h l r)

pub plans_end_alike : AgreeingEndAlike → PlansHaveSets → AgreeingPlansEndAlike
plans_end_alike alike sets asked instant e p q times h =
    alike instant e (steps_over (plan_step asked p) times) (steps_over (plan_step asked q) times) (all_at (plan_step asked p) (plan_step asked q) times h (sets asked p) (sets asked q))

pub meanings_agree : AgreeingMeaningsAgree
meanings_agree asked p q h t = steps_agree ((plan_meant asked p).gives t) ((plan_meant asked q).gives t) (h.gives t)
