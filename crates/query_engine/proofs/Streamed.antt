-- The steps of a tree that gives what a plan means are those that the query's expression means.
use Rattle.std.proofs.Common.{◌≡◌, ◌∙◌, zero, suc, Bool, List, [], ◌∷◌, Option, refl, sym, ap, ap₂, subst, arith}
use Rattle.std.specs.Prelude.{ℤ, Result, Ok, Err, IfErr, IfOk, IsErrAnd, ⊤}
use Rattle.std.specs.List.{AllByRecursion, Contains}
use Rattle.std.proofs.lemmas.List.Elements.{All-contains_itself, recursion_from_All}
use Rattle.exchange.specs.declared.fault.RunFault.{RunFault}
use Rattle.exchange.specs.declared.fault.RunFault.TheVariants as run
use Rattle.label_set.specs.Entries.{recursion_map}
use Rattle.logical_plan.specs.PlanMeaning.{plan_meaning, plan_step}
use Rattle.logical_plan.specs.Placements.{TellApart}
use Rattle.logical_plan.specs.Shown.{shown}
use Rattle.logical_plan.specs.declared.nodes.Plan.{Plan}
use Rattle.promql_ast.specs.declared.tree.Expr.{Expr}
use Rattle.promql_meaning.specs.Givens.{step_of}
use Rattle.promql_meaning.specs.Meaning.{meaning, meaning_step}
use Rattle.promql_meaning.specs.Orders.{ByValue}
use Rattle.promql_meaning.specs.Results.{gives_scalar, grid_times, judged, order_asked, result_of}
use Rattle.promql_meaning.specs.declared.answer.Answer.{Answer}
use Rattle.promql_meaning.specs.declared.answer.Outcome.{Outcome}
use Rattle.promql_meaning.specs.declared.answer.Outcome.TheVariants as outcome
use Rattle.promql_meaning.specs.Selecting.{AllSeries, Asked, asked_over}
use Rattle.promql_meaning.specs.declared.given.Given.{Given}
use Rattle.promql_meaning.specs.declared.given.Given.TheVariants as given
use Rattle.plan_parts.specs.declared.unbuilt.Unbuilt.{Unbuilt}
use Rattle.plan_parts.specs.declared.unbuilt.Unbuilt.TheVariants.{Invalid, Memory}
use Rattle.plan_tree.specs.Feeding.{HasGone}
use Rattle.promql_type.specs.Replacements.{Kept}
use Rattle.promql_type.specs.declared.replace.Replacement.{Replacement}
use Rattle.query_places.specs.Apart.{StandApart}
use Rattle.remote_api.specs.Seen.{EngineSeen}
use Rattle.result_rows.specs.Judged.{CollectedIsJudged}
use Rattle.result_rows.specs.Taken.{HasTaken, Kept as Taken, ordered_answer}
use Rattle.step_table.specs.Timed.{StepAt, steps_over}
use Rattle.step_table.specs.declared.step.Step.{Step}
use Rattle.ticks.specs.Listed.{IsListed}
use Rattle.ticks.specs.Walks.{IsInstant}
use Rattle.ticks.specs.declared.grid.Grid.{Grid}
use Rattle.ticks.specs.declared.moment.Ms.{Ms}
use Rattle.ticks.specs.declared.walk.Walk.{Grid as GridWalk}
use Rattle.tree_results.specs.Drained.{IsDrained}
use Rattle.tree_results.specs.declared.draining.Drained.TheVariants.{Stopped}

-- ---- places of calls

member_of : (P : Replacement → Type 0) (rs : List Replacement) → AllByRecursion P rs → (r : Replacement) → Contains rs r → P r
member_of P [] all r (k, h, e) = absurd (omega arith)
member_of P (s ∷ rs) all r (zero, h, e) = subst P e all.0
member_of P (s ∷ rs) all r (suc k, h, e) = member_of P rs all.1 r (k, omega arith, e)

-- calls that stand apart are told apart by their places
pub told_apart : (calls : List Replacement) → StandApart calls → TellApart calls
told_apart [] apart r s (k, h, e) there same = absurd (omega arith)
told_apart (c ∷ cs) apart r s (zero, h, e) (zero, i, f) same = ap (λ (x : Replacement). x.text) (sym e ∙ f)
told_apart (c ∷ cs) apart r s (zero, h, e) (suc j, i, f) same =
    absurd (member_of (λ (x : Replacement). c.at ≡ x.at → ⊥) cs apart.0 s (j, omega arith, f) (ap (λ (x : Replacement). x.at) e ∙ same))
told_apart (c ∷ cs) apart r s (suc k, h, e) (zero, i, f) same =
    absurd (member_of (λ (x : Replacement). c.at ≡ x.at → ⊥) cs apart.0 r (k, omega arith, e) (ap (λ (x : Replacement). x.at) f ∙ sym same))
told_apart (c ∷ cs) apart r s (suc k, h, e) (suc j, i, f) same = told_apart cs apart.1 r s (k, omega arith, e) (j, omega arith, f) same

-- ---- steps

same_steps : (f g : ℤ → Step) (times : List Ms) → AllByRecursion (λ (t : Ms). f t.0 ≡ g t.0) times → steps_over f times ≡ steps_over g times
same_steps f g [] all = refl
same_steps f g (t ∷ times) all = ap₂ (λ (s : Step) (rest : List StepAt). record { at = t; step = s } ∷ rest) all.0 (same_steps f g times all.1)

shown_step : (g : Given) → step_of (shown g) ≡ step_of g
shown_step (given.Scalar step) = refl
shown_step (given.Vector step) = refl
shown_step (given.Selected selection) = refl
shown_step (given.Windows windows) = refl
shown_step (given.Words text) = refl

-- what gives a plan's steps at the instants of a grid gives there the steps of the expression that the plan means
pub steps_are_meant : (asked : Asked) (grid : Grid) (p : Plan) (e : Expr) (rule : ℤ → Step) → IsListed (GridWalk grid) (grid_times grid)
    → ((t : ℤ) → IsInstant (GridWalk grid) t → rule t ≡ plan_step asked p t) → ((t : ℤ) → plan_meaning asked p t ≡ shown (meaning asked e t))
    → steps_over rule (grid_times grid) ≡ steps_over (meaning_step asked e) (grid_times grid)
steps_are_meant asked grid p e rule listed gives means =
    same_steps rule (meaning_step asked e) (grid_times grid)
    (recursion_map (Contains (grid_times grid)) (λ (t : Ms). rule t.0 ≡ meaning_step asked e t.0) each (grid_times grid)
    (recursion_from_All (Contains (grid_times grid)) (grid_times grid) (All-contains_itself (grid_times grid))))
  where
    each : (t : Ms) → Contains (grid_times grid) t → rule t.0 ≡ meaning_step asked e t.0
    each t there = gives t.0 ((listed.instants t).0 there) ∙ ap step_of (means t.0) ∙ shown_step (meaning asked e t.0)

-- ---- trees

-- a fault of which it is known that it is want of memory is no other one
abbrev IsInvalid : Unbuilt → Type 0
IsInvalid Invalid = ⊤
IsInvalid Memory = ⊥

pub never_invalid : (fault : Unbuilt) → fault ≡ Invalid → fault ≡ Memory → ⊥
never_invalid fault invalid memory = subst IsInvalid memory (subst IsInvalid (sym invalid) tt)

-- ---- results

-- over patterns that stayed as they were
pub over_kept : {E : Type 0} (samples : AllSeries) (kept now : Kept) (e : Expr) (grid : Grid) (instant : Bool) (result : Result Outcome E) → now ≡ kept
    → IfOk result (λ o. o ≡ result_of (asked_over samples now grid) e grid instant) → IfOk result (λ o. o ≡ result_of (asked_over samples kept grid) e grid instant)
over_kept samples kept now e grid instant result same is =
    subst (λ (k : Kept). IfOk result (λ o. o ≡ result_of (asked_over samples k grid) e grid instant)) same is

-- the outcome of steps that end early, which are those of an expression, is its result
pub by_stop : (instant : Bool) (e : Expr) (steps meant : List StepAt) (o : Outcome) → IsDrained steps (Stopped o) → steps ≡ meant → o ≡ judged instant e meant
by_stop instant e steps meant o stops same = stops instant e ∙ ap (λ (ss : List StepAt). judged instant e ss) same

-- what is collected of steps that are those of an expression comes to its result
pub by_answer : (instant : Bool) (e : Expr) (kept : Taken) (steps meant : List StepAt) (answer : Answer) (scalar : Bool) (order : Option ByValue) → CollectedIsJudged
    → HasTaken kept steps → answer ≡ ordered_answer scalar order steps → scalar ≡ gives_scalar e → order ≡ order_asked instant e → steps ≡ meant
    → outcome.Answer answer ≡ judged instant e meant
by_answer instant e kept steps meant answer scalar order judges taken is scalar_is order_is same =
    ap outcome.Answer (is ∙ ap (λ (s : Bool). ordered_answer s order steps) scalar_is ∙ ap (λ (o : Option ByValue). ordered_answer (gives_scalar e) o steps) order_is)
    ∙ judges instant e kept steps taken ∙ ap (λ (ss : List StepAt). judged instant e ss) same

-- ---- engines

-- what is known of a result that is told
pub ok_at : {X E : Type 0} (P : X → Type 0) (r : Result X E) (x : X) → r ≡ Ok x → IfOk r P → P x
ok_at P r x e h = subst (λ z. IfOk z P) e h

-- a result of which more is known
pub then_judged : {X E : Type 0} {P Q : X → Type 0} (r : Result X E) → IfOk r P → ((x : X) → P x → Q x) → IfOk r Q
then_judged (Ok x) h f = f x h
then_judged (Err e) h f = h

-- what a call makes of engines, whatever it gives
pub gone_given : {S T : Type 0} (x : S) (y : T) (es fs : List EngineSeen) → HasGone {T = S} (Ok x) es fs → HasGone {T = T} (Ok y) es fs
gone_given x y es fs h = record { many = h.many; grown = h.grown; calm = h.calm; fault = tt }

gone_as : (S T : Type 0) (fault : RunFault) (es fs : List EngineSeen) → HasGone {T = S} (Err fault) es fs → HasGone {T = T} (Err fault) es fs
gone_as S T run.Memory es fs h = record { many = h.many; grown = h.grown; calm = tt; fault = tt }
gone_as S T (run.EngineFault i) es fs h = record { many = h.many; grown = h.grown; calm = tt; fault = h.fault }
gone_as S T (run.OutOfStep i expected got) es fs h = record { many = h.many; grown = h.grown; calm = tt; fault = h.fault }
gone_as S T (run.WrongCell i at) es fs h = record { many = h.many; grown = h.grown; calm = tt; fault = h.fault }

pub gone_fault : {S T : Type 0} (fault : RunFault) (r : Result T RunFault) (es fs : List EngineSeen) → IsErrAnd r (λ e. e ≡ fault) → HasGone {T = S} (Err fault) es fs → HasGone r es fs
gone_fault fault (Ok x) es fs e h = absurd e
gone_fault {S} {T} fault (Err x) es fs e h = subst (λ (z : RunFault). HasGone {T = T} (Err z) es fs) (sym e) (gone_as S T fault es fs h)

-- want of memory behind it tells of no engine
pub gone_on : {S T : Type 0} (x : S) (r : Result T RunFault) (es fs : List EngineSeen) → IfErr r (λ e. e ≡ run.Memory) → HasGone {T = S} (Ok x) es fs → HasGone r es fs
gone_on x (Ok y) es fs m h = gone_given x y es fs h
gone_on {S} {T} x (Err e) es fs m h = subst (λ (z : RunFault). HasGone {T = T} (Err z) es fs) (sym m) (record { many = h.many; grown = h.grown; calm = tt; fault = tt })
