-- What a fold makes of a plan and of what becomes of it, and when a relation between both follows from one between their parts.
use Rattle.std.proofs.Common.{ℕ, List, [], ◌∷◌, ◌++◌, map, Bool, false}
use Rattle.std.specs.Prelude.{⊤}
use Rattle.std.specs.List.{AllByRecursion}
use Rattle.func_table.specs.declared.table.Aggregate.TheVariants as aggregate
use Rattle.label_set.specs.declared.rules.Grouping.{Grouping}
use Rattle.label_set.specs.declared.rules.Pairing.{Pairing}
use Rattle.label_set.specs.declared.rules.Rule.{Rule}
use Rattle.promql_ast.specs.declared.tree.Moment.{Moment}
use Rattle.ticks.specs.declared.moment.Ms.{Ms}
use Rattle.xfrac.specs.declared.value.PairOp.{PairOp}
use Rattle.logical_plan.specs.declared.nodes.PlanNode.TheOpen.{PlanNode-F, Plan-F}
use Rattle.logical_plan.specs.declared.nodes.PlanNode.TheFolds.{map-PlanNode}
use Rattle.opt_matchers.specs.Handing.{Operand}

-- what a fold makes of a child, of what becomes of it where a sort that it begins with goes, and where that stays
pub record Child (B : Type 0) (Loose Kept : B → B → Type 0) : Type 0 where
  pub before : B
  pub bare : B
  pub whole : B
  pub loose : Loose before bare
  pub kept : Kept before whole

abbrev pub befores : {B : Type 0} {Loose Kept : B → B → Type 0} → List (Child B Loose Kept) → List B
befores {B} {Loose} {Kept} cs = map (λ (c : Child B Loose Kept). c.before) cs

abbrev pub bares : {B : Type 0} {Loose Kept : B → B → Type 0} → List (Child B Loose Kept) → List B
bares {B} {Loose} {Kept} cs = map (λ (c : Child B Loose Kept). c.bare) cs

abbrev pub before_of : {A B : Type 0} {Loose Kept : B → B → Type 0} → PlanNode-F A (Child B Loose Kept) → PlanNode-F A B
before_of {A} {B} {Loose} {Kept} = map-PlanNode A (Child B Loose Kept) A B (λ a. a) (λ (c : Child B Loose Kept). c.before)

abbrev pub bare_of : {A B : Type 0} {Loose Kept : B → B → Type 0} → PlanNode-F A (Child B Loose Kept) → PlanNode-F A B
bare_of {A} {B} {Loose} {Kept} = map-PlanNode A (Child B Loose Kept) A B (λ a. a) (λ (c : Child B Loose Kept). c.bare)

-- the argument of a timestamp and that of a Once node keep their sorts
abbrev pub after_of : {A B : Type 0} {Loose Kept : B → B → Type 0} → PlanNode-F A (Child B Loose Kept) → PlanNode-F A B
after_of (PlanNode-F.Stamp c) = PlanNode-F.Stamp c.whole
after_of (PlanNode-F.Once c) = PlanNode-F.Once c.whole
after_of y = bare_of y

-- whatever is known of each rule, and where nothing is
abbrev pub AreGood : (Rule → Type 0) → List Rule → Type 0
AreGood Good rules = AllByRecursion Good rules

abbrev pub Any : Rule → Type 0
Any rule = ⊤

pub all_any : (rules : List Rule) → AreGood Any rules
all_any [] = tt
all_any (rule ∷ rules) = (tt, all_any rules)

-- what a fold makes of a side of an operator with these rules
abbrev pub side_of : {A B : Type 0} (node_step : PlanNode-F A B → A) (plan_step : Plan-F A B → B) → Operand → List Rule → B
side_of node_step plan_step a rules = plan_step (record { at = a.at; node = node_step (PlanNode-F.Select rules a.moment false) })

-- Two relations between what a fold makes of plans before and after a rewrite, where a sort may go and where it stays: what they have to
-- be for every rewrite. Where something is known of each rule that was there, it is known of each that comes.
pub record Follows (A B : Type 0) (node_step : PlanNode-F A B → A) (plan_step : Plan-F A B → B) (Good : Rule → Type 0) (Loose Kept : B → B → Type 0) : Type 0 where
  pub itself : (b : B) → Kept b b
  pub joined : (a b c : B) → Kept a b → Kept b c → Kept a c
  pub loosely : (a b : B) → Kept a b → Loose a b
  -- a node over children that are related
  pub levels : (at : ℕ) (y : PlanNode-F A (Child B Loose Kept)) → Kept (plan_step (record { at = at; node = node_step (before_of y) })) (plan_step (record { at = at; node = node_step (after_of y) }))
  -- selectors of other rules
  pub select : (at : ℕ) (rules more : List Rule) (moment : Moment) (stamped : Bool) → (AreGood Good rules → AreGood Good more)
      → Kept (plan_step (record { at = at; node = node_step (PlanNode-F.Select rules moment stamped) })) (plan_step (record { at = at; node = node_step (PlanNode-F.Select more moment stamped) }))
  pub range : (at : ℕ) (rules more : List Rule) (moment : Moment) (length : Ms) → (AreGood Good rules → AreGood Good more)
      → Kept (plan_step (record { at = at; node = node_step (PlanNode-F.Range rules moment length) })) (plan_step (record { at = at; node = node_step (PlanNode-F.Range more moment length) }))
  -- a filter over a selector of other rules
  pub filtered_select : (at : ℕ) (rules base more : List Rule) (moment : Moment) → AreGood Good base → (AreGood Good rules → AreGood Good more)
      → Kept (plan_step (record { at = at; node = node_step (PlanNode-F.Select rules moment false) }))
      (plan_step (record { at = at; node = node_step (PlanNode-F.Filter (plan_step (record { at = at; node = node_step (PlanNode-F.Select base moment false) })) more) }))
  pub filtered_range : (at : ℕ) (rules base more : List Rule) (moment : Moment) (length : Ms) → AreGood Good base → (AreGood Good rules → AreGood Good more)
      → Kept (plan_step (record { at = at; node = node_step (PlanNode-F.Range rules moment length) }))
      (plan_step (record { at = at; node = node_step (PlanNode-F.Filter (plan_step (record { at = at; node = node_step (PlanNode-F.Range base moment length) })) more) }))
  -- an operator between selectors, each with rules of both
  pub pair : (at : ℕ) (op : PairOp) (a b : Operand) (more other : List Rule) (pairing : Pairing) → (AreGood Good a.rules → AreGood Good b.rules → AreGood Good more)
      → (AreGood Good b.rules → AreGood Good a.rules → AreGood Good other)
      → Kept (plan_step (record { at = at; node = node_step (PlanNode-F.Pair op (side_of node_step plan_step a a.rules) (side_of node_step plan_step b b.rules) pairing) }))
      (plan_step (record { at = at; node = node_step (PlanNode-F.Pair op (side_of node_step plan_step a more) (side_of node_step plan_step b other) pairing) }))
  -- a sum divided by a count
  pub ratio : (at : ℕ) (grouping : Grouping) (arguments : List B) (label : List ℕ)
      → Kept (plan_step (record { at = at; node = node_step (PlanNode-F.Group aggregate.Avg grouping arguments label) }))
      (plan_step (record {
        at = at;
        node = node_step (PlanNode-F.Ratio
            (plan_step (record { at = at; node = node_step (PlanNode-F.Group aggregate.Sum grouping arguments label) }))
            (plan_step (record { at = at; node = node_step (PlanNode-F.Group aggregate.Count grouping arguments label) })));
      }))
  -- a sort that goes, and a Once node over one
  pub bare_sort : (at : ℕ) (down : Bool) (c : Child B Loose Kept) → Loose (plan_step (record { at = at; node = node_step (PlanNode-F.Sort down c.before) })) c.bare
  pub bare_once : (at : ℕ) (c : Child B Loose Kept)
      → Loose (plan_step (record { at = at; node = node_step (PlanNode-F.Once c.before) })) (plan_step (record { at = at; node = node_step (PlanNode-F.Once c.bare) }))

-- what the relation has to be where filters go into selectors
pub record Pushes (A B : Type 0) (node_step : PlanNode-F A B → A) (plan_step : Plan-F A B → B) (Kept : B → B → Type 0) : Type 0 where
  pub select : (at below : ℕ) (rules more : List Rule) (moment : Moment)
      → Kept (plan_step (record { at = at; node = node_step (PlanNode-F.Filter (plan_step (record { at = below; node = node_step (PlanNode-F.Select rules moment false) })) more) }))
      (plan_step (record { at = at; node = node_step (PlanNode-F.Select (rules ++ more) moment false) }))
  pub range : (at below : ℕ) (rules more : List Rule) (moment : Moment) (length : Ms)
      → Kept (plan_step (record { at = at; node = node_step (PlanNode-F.Filter (plan_step (record { at = below; node = node_step (PlanNode-F.Range rules moment length) })) more) }))
      (plan_step (record { at = at; node = node_step (PlanNode-F.Range (rules ++ more) moment length) }))
