-- What stays true of a plan in which parts are replaced: what it means, its types, its limits, and what stands under its Once nodes. (This
-- project's own.)
use Rattle.std.specs.Prelude.{◌≡◌, ◌≤◌, ℕ, true, None, Some, Contains, ⊤}
use Rattle.std.specs.List.{AllByRecursion}
use Rattle.label_set.specs.declared.rules.PatternId.{PatternId}
use Rattle.promql_ast.specs.Parts.{AreWithin}
use Rattle.promql_meaning.specs.Selecting.{Asked}
use Rattle.logical_plan.specs.PlanMeaning.{plan_meant}
use Rattle.logical_plan.specs.PlanTypes.{IsTyped, typing}
use Rattle.logical_plan.specs.Steadiness.{OncesAreSteady, checked}
use Rattle.logical_plan.specs.Validity.{HasOnePattern, IsValid, children, deepest, measured}
use Rattle.logical_plan.specs.declared.nodes.Plan.{Plan}
use Rattle.logical_plan.specs.declared.nodes.PlanNode.TheViews.{out-PlanNode}
use Rattle.plan_agreement.specs.Agreements.{AgreeMeants}
use Rattle.plan_agreement.specs.Descents.{Replacing, descended}

-- ---- types

-- a typed plan that gives what another one gives, a scalar, a vector or windows, and is no selector
pub record FitsIn (q p : Plan) : Type 0 where
  pub typed : (typing q).typed ≡ true
  pub kind : (typing q).kind ≡ (typing p).kind
  pub no_selector : (typing q).select ≡ None

-- what is put in the place of a typed plan fits in there
abbrev pub ReplacesTyped : Replacing → Type 0
ReplacesTyped f = (p q : Plan) → f p ≡ Some q → (typing p).typed ≡ true → FitsIn q p

-- so a typed plan stays typed, and gives what it gave
abbrev pub DescentsKeepTypes : Type 0
DescentsKeepTypes = (f : Replacing) (p : Plan) → ReplacesTyped f → IsTyped p → IsTyped (descended f p) × ((typing (descended f p)).kind ≡ (typing p).kind)

-- ---- parts of valid plans

-- a plan that is valid but for that it may be a selector with a stamp, whose label_replace nodes are among those of a whole plan
pub record IsValidPart (longest latest : ℕ) (whole p : Plan) : Type 0 where
  pub typed : (typing p).typed ≡ true
  pub within : AreWithin (λ rules. ⊤) longest latest (measured p).parts
  pub patterns : HasOnePattern (measured p).replaced
  pub few : (measured p).few 1 ≡ true
  pub shallow : (measured p).depth ≤ deepest
  pub among : (replaced : ℕ × PatternId) → Contains (measured p).replaced replaced → Contains (measured whole).replaced replaced

-- the children of such a plan are such plans; and a valid plan is one, with its own label_replace nodes
abbrev pub PartsOfValidAreValid : Type 0
PartsOfValidAreValid =
    (longest latest : ℕ) (whole p : Plan) → IsValidPart longest latest whole p → AllByRecursion (IsValidPart longest latest whole) (children (out-PlanNode p.node))

abbrev pub ValidIsValidPart : Type 0
ValidIsValidPart = (longest latest : ℕ) (p : Plan) → IsValid longest latest p → IsValidPart longest latest p p

-- what is put in the place of such plans is related to them
abbrev pub ReplacesValid : ℕ → ℕ → Plan → Replacing → (Plan → Plan → Type 0) → Type 0
ReplacesValid longest latest whole f R = (p q : Plan) → f p ≡ Some q → IsValidPart longest latest whole p → R q p

-- ---- agreement

-- where what is put in the place of such plans agrees with them, a valid plan agrees with what it was
abbrev pub ValidDescentsKeepAgreement : Type 0
ValidDescentsKeepAgreement =
    (asked : Asked) (longest latest : ℕ) (f : Replacing) (p : Plan)
    → ReplacesValid longest latest p f (λ r q. AgreeMeants (plan_meant asked r) (plan_meant asked q))
    → IsValid longest latest p
    → AgreeMeants (plan_meant asked (descended f p)) (plan_meant asked p)

-- ---- limits

-- a plan within the limits that another one is within, without a further pattern, with as few points, and no deeper
pub record IsNoMore (q p : Plan) : Type 0 where
  pub within : (longest latest : ℕ) → AreWithin (λ rules. ⊤) longest latest (measured p).parts → AreWithin (λ rules. ⊤) longest latest (measured q).parts
  pub patterns : (replaced : ℕ × PatternId) → Contains (measured q).replaced replaced → Contains (measured p).replaced replaced
  pub few : (around : ℕ) → (measured p).few around ≡ true → (measured q).few around ≡ true
  pub shallow : (measured q).depth ≤ (measured p).depth

-- where what is put in the place of such plans fits in there and is no more than these, a valid plan stays valid, and gives what it gave
abbrev pub DescentsKeepValidity : Type 0
DescentsKeepValidity =
    (longest latest : ℕ) (f : Replacing) (p : Plan)
    → ReplacesValid longest latest p f (λ r q. FitsIn r q × IsNoMore r q)
    → IsValid longest latest p
    → IsValid longest latest (descended f p) × ((typing (descended f p)).kind ≡ (typing p).kind)

-- ---- Once nodes

-- a plan is as steady as another one: fixed where that is, still where that is, the samples' own times where that is, and its Once nodes
-- stand over steady plans where those of the other one do
pub record IsAsSteady (q p : Plan) : Type 0 where
  pub fixed : (checked p).facts.fixed ≡ true → (checked q).facts.fixed ≡ true
  pub still : (checked p).facts.still ≡ true → (checked q).facts.still ≡ true
  pub own : (checked p).facts.own ≡ true → (checked q).facts.own ≡ true
  pub good : (checked p).good ≡ true → (checked q).good ≡ true

-- where what is put in the place of such plans is as steady as these, what stands under Once nodes stays the same at each instant
abbrev pub DescentsKeepOnces : Type 0
DescentsKeepOnces =
    (longest latest : ℕ) (f : Replacing) (p : Plan)
    → ReplacesValid longest latest p f IsAsSteady
    → IsValid longest latest p
    → OncesAreSteady p
    → OncesAreSteady (descended f p)
