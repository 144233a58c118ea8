-- What each rewrite keeps is kept by those that are chosen, one after another.
use Rattle.std.proofs.Common.{◌≡◌, ◌∙◌, ℕ, Bool, true, false, List, ap, refl, subst, sym}
use Rattle.logical_plan.specs.PlanTypes.{IsTyped}
use Rattle.logical_plan.specs.Steadiness.{OncesAreSteady}
use Rattle.logical_plan.specs.Validity.{IsValid}
use Rattle.logical_plan.specs.declared.nodes.Plan.{Plan}
use Rattle.plan_rewrite.specs.Rebuilding.{rebuilt}
use Rattle.plan_serving.specs.Serving.{IsServed}
use Rattle.promql_type.specs.Replacements.{Kept}
use Rattle.opt_matchers.specs.Handing.{hand_rules}
use Rattle.opt_matchers.specs.RuleOrder.{order_rules}
use Rattle.opt_selects.specs.Trimming.{trim}
use Rattle.opt_split_avg.specs.Averages.{split_average}
use Rattle.rewrite_laws.specs.Keeping.{KeepsOnces, KeepsServing, KeepsTypes, KeepsValidity, StaysTyped}
use Rattle.plan_rewrites.specs.Rewriting.{chosen, merged, rewrites}
use Rattle.plan_rewrites.specs.declared.choosing.Choices.{Choices}

-- ---- one rewrite, chosen or not

types_kept : (b : Bool) (rewrite : Plan → Plan) (p q : Plan) → KeepsTypes rewrite → q ≡ chosen b rewrite p → IsTyped p → StaysTyped p q
types_kept true rewrite p q keeps is typed = subst (StaysTyped p) (sym is) (keeps p typed)
types_kept false rewrite p q keeps is typed = subst (StaysTyped p) (sym is) (record { typed = typed; kind = refl })

validity_kept : (b : Bool) (rewrite : Plan → Plan) (p q : Plan) (longest latest : ℕ) → KeepsValidity rewrite → q ≡ chosen b rewrite p → IsValid longest latest p → IsValid longest latest q
validity_kept true rewrite p q longest latest keeps is valid = subst (IsValid longest latest) (sym is) (keeps longest latest p valid)
validity_kept false rewrite p q longest latest keeps is valid = subst (IsValid longest latest) (sym is) valid

onces_kept : (b : Bool) (rewrite : Plan → Plan) (p q : Plan) → KeepsOnces rewrite → q ≡ chosen b rewrite p → OncesAreSteady p → OncesAreSteady q
onces_kept true rewrite p q keeps is steady = subst OncesAreSteady (sym is) (keeps p steady)
onces_kept false rewrite p q keeps is steady = subst OncesAreSteady (sym is) steady

serving_kept : (b : Bool) (rewrite : Plan → Plan) (p q : Plan) (patterns : Kept) → KeepsServing rewrite → q ≡ chosen b rewrite p → IsServed patterns p → IsServed patterns q
serving_kept true rewrite p q patterns keeps is served = subst (IsServed patterns) (sym is) (keeps patterns p served)
serving_kept false rewrite p q patterns keeps is served = subst (IsServed patterns) (sym is) served

stays_on : (p q r : Plan) → StaysTyped p q → StaysTyped q r → StaysTyped p r
stays_on p q r first second = record { typed = second.typed; kind = second.kind ∙ first.kind }

-- ---- all of them

-- the plans behind one rewrite after another
pub record Steps (choices : Choices) (kept : List (Bool × List ℕ)) (p q : Plan) : Type 0 where
  pub ordered : Plan
  pub handed : Plan
  pub joined : Plan
  pub bare : Plan
  pub ordered_is : ordered ≡ chosen choices.sort (rebuilt (order_rules kept)) p
  pub handed_is : handed ≡ chosen choices.propagate (rebuilt hand_rules) ordered
  pub joined_is : joined ≡ chosen choices.merge merged handed
  pub bare_is : bare ≡ chosen choices.trim trim joined
  pub split_is : q ≡ chosen choices.avg (rebuilt split_average) bare

module _ (choices : Choices) (kept : List (Bool × List ℕ)) (p q : Plan) (s : Steps choices kept p q) where
  pub all_is : q ≡ rewrites choices kept p
  all_is =
      s.split_is ∙ ap (chosen choices.avg (rebuilt split_average)) (s.bare_is ∙ ap (chosen choices.trim trim) (s.joined_is ∙ ap (chosen choices.merge merged) (s.handed_is ∙ ap (chosen choices.propagate (rebuilt hand_rules)) s.ordered_is)))

  module _ (orders : KeepsTypes (rebuilt (order_rules kept))) (hands : KeepsTypes (rebuilt hand_rules)) (merges : KeepsTypes merged) where
    -- a typed plan is typed before its sorts go
    pub joined_typed : IsTyped p → StaysTyped p s.joined
    joined_typed typed =
        let first = types_kept choices.sort (rebuilt (order_rules kept)) p s.ordered orders s.ordered_is typed in
        let second = types_kept choices.propagate (rebuilt hand_rules) s.ordered s.handed hands s.handed_is first.typed in
        let third = types_kept choices.merge merged s.handed s.joined merges s.joined_is second.typed in
        stays_on p s.handed s.joined (stays_on p s.ordered s.handed first second) third

    pub all_typed : KeepsTypes trim → KeepsTypes (rebuilt split_average) → IsTyped p → StaysTyped p q
    all_typed trims splits typed =
        let third = joined_typed typed in
        let fourth = types_kept choices.trim trim s.joined s.bare trims s.bare_is third.typed in
        let last = types_kept choices.avg (rebuilt split_average) s.bare q splits s.split_is fourth.typed in
        stays_on p s.bare q (stays_on p s.joined s.bare third fourth) last

  pub all_valid : KeepsValidity (rebuilt (order_rules kept)) → KeepsValidity (rebuilt hand_rules) → KeepsValidity merged → KeepsValidity trim → KeepsValidity (rebuilt split_average)
      → (longest latest : ℕ) → IsValid longest latest p → IsValid longest latest q
  all_valid orders hands merges trims splits longest latest valid =
      validity_kept choices.avg (rebuilt split_average) s.bare q longest latest splits s.split_is
      (validity_kept choices.trim trim s.joined s.bare longest latest trims s.bare_is
      (validity_kept choices.merge merged s.handed s.joined longest latest merges s.joined_is
      (validity_kept choices.propagate (rebuilt hand_rules) s.ordered s.handed longest latest hands s.handed_is
      (validity_kept choices.sort (rebuilt (order_rules kept)) p s.ordered longest latest orders s.ordered_is valid))))

  pub all_steady : KeepsOnces (rebuilt (order_rules kept)) → KeepsOnces (rebuilt hand_rules) → KeepsOnces merged → KeepsOnces trim → KeepsOnces (rebuilt split_average)
      → OncesAreSteady p → OncesAreSteady q
  all_steady orders hands merges trims splits steady =
      onces_kept choices.avg (rebuilt split_average) s.bare q splits s.split_is
      (onces_kept choices.trim trim s.joined s.bare trims s.bare_is
      (onces_kept choices.merge merged s.handed s.joined merges s.joined_is
      (onces_kept choices.propagate (rebuilt hand_rules) s.ordered s.handed hands s.handed_is
      (onces_kept choices.sort (rebuilt (order_rules kept)) p s.ordered orders s.ordered_is steady))))

  pub all_served : KeepsServing (rebuilt (order_rules kept)) → KeepsServing (rebuilt hand_rules) → KeepsServing merged → KeepsServing trim → KeepsServing (rebuilt split_average)
      → (patterns : Kept) → IsServed patterns p → IsServed patterns q
  all_served orders hands merges trims splits patterns served =
      serving_kept choices.avg (rebuilt split_average) s.bare q patterns splits s.split_is
      (serving_kept choices.trim trim s.joined s.bare patterns trims s.bare_is
      (serving_kept choices.merge merged s.handed s.joined patterns merges s.joined_is
      (serving_kept choices.propagate (rebuilt hand_rules) s.ordered s.handed patterns hands s.handed_is
      (serving_kept choices.sort (rebuilt (order_rules kept)) p s.ordered patterns orders s.ordered_is served))))
