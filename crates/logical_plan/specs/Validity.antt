-- Which plans are valid: typed, within the limits of the language, and at most so deep. What is made of a query is valid, and so is
-- what rewrites and engines take. (The limits are this project's own.)
use Rattle.std.specs.Prelude.{◌≡◌, ◌≤◌, ℕ, ◌+◌, ◌*◌, nat_lt, Bool, true, not, ◌&&◌, List, [], ◌∷◌, ◌++◌, map, ⊤, Contains}
use Rattle.label_set.specs.declared.rules.PatternId.{PatternId}
use Rattle.label_set.specs.declared.rules.Relabel.TheVariants as relabel
use Rattle.match_rule.specs.Patterns.{HaveTheirPatterns}
use Rattle.promql_ast.specs.Depth.{depth, greatest}
use Rattle.promql_ast.specs.Parts.{AreWithin, Part, all_of, parts_of}
use Rattle.promql_ast.specs.declared.tree.Expr.{Expr}
use Rattle.promql_type.specs.Answers.{refusals_of}
use Rattle.promql_type.specs.Points.{crowded, most_points, points}
use Rattle.promql_type.specs.Replacements.{Kept}
use Rattle.promql_type.specs.Settled.{settled}
use Rattle.logical_plan.specs.declared.nodes.Plan.{Plan}
use Rattle.logical_plan.specs.declared.nodes.PlanNode.TheOpen.{PlanNode-F}
use Rattle.logical_plan.specs.declared.nodes.PlanNode.TheFolds.{fold-Plan}
use Rattle.logical_plan.specs.Onces.{with_onces}
use Rattle.logical_plan.specs.PlanTypes.{IsTyped, has_none}

-- The rules, moments and lengths of time of a plan; the patterns of its label_replace nodes, each with the node's place; whether its
-- subqueries have few enough points inside of subqueries that have so many together; and how deep it is.
pub record Measure : Type 0 where
  pub parts : List Part
  pub replaced : List (ℕ × PatternId)
  pub few : ℕ → Bool
  pub depth : ℕ

abbrev pub children : {A B : Type 0} → PlanNode-F A B → List B
children (PlanNode-F.Number value) = []
children PlanNode-F.Time = []
children (PlanNode-F.Select rules moment stamped) = []
children (PlanNode-F.Range rules moment range) = []
children (PlanNode-F.Subquery inner range step moment) = inner ∷ []
children (PlanNode-F.Element f inner arguments) = inner ∷ arguments
children (PlanNode-F.Stamp inner) = inner ∷ []
children (PlanNode-F.Window f inner arguments) = inner ∷ arguments
children (PlanNode-F.Absent labels inner) = inner ∷ []
children (PlanNode-F.Buckets quantile inner) = quantile ∷ inner ∷ []
children (PlanNode-F.Relabel rule inner) = inner ∷ []
children (PlanNode-F.Sort down inner) = inner ∷ []
children (PlanNode-F.ScalarOf inner) = inner ∷ []
children (PlanNode-F.VectorOf inner) = inner ∷ []
children (PlanNode-F.Group f by arguments label) = arguments
children (PlanNode-F.Pair op left right pairing) = left ∷ right ∷ []
children (PlanNode-F.Set op left right pairing) = left ∷ right ∷ []
children (PlanNode-F.Filter base rules) = base ∷ []
children (PlanNode-F.Ratio sum count) = sum ∷ count ∷ []
children (PlanNode-F.Once inner) = inner ∷ []
children (PlanNode-F.Gather expr kind engines) = []

-- ---- what a node has of its own

abbrev pub own_parts : {A B : Type 0} → PlanNode-F A B → List Part
own_parts (PlanNode-F.Select rules moment stamped) = Part.of_rules rules ∷ Part.of_moment moment ∷ []
own_parts (PlanNode-F.Range rules moment range) = Part.of_rules rules ∷ Part.of_moment moment ∷ Part.of_length range ∷ []
own_parts (PlanNode-F.Subquery inner range step moment) = Part.of_moment moment ∷ Part.of_length range ∷ Part.of_length step ∷ []
own_parts (PlanNode-F.Gather expr kind engines) = parts_of expr
own_parts _ = []

abbrev pub own_replaced : {A B : Type 0} → PlanNode-F A B → ℕ → List (ℕ × PatternId)
own_replaced (PlanNode-F.Relabel (relabel.Replace target template source pattern) inner) at = (at, pattern) ∷ []
own_replaced _ at = []

-- ---- the measure of a plan

abbrev pub all_replaced : List Measure → List (ℕ × PatternId)
all_replaced [] = []
all_replaced (m ∷ ms) = m.replaced ++ all_replaced ms

abbrev pub all_parts : List Measure → List Part
all_parts ms = all_of (map (λ (m : Measure). m.parts) ms)

abbrev pub are_few : List Measure → ℕ → Bool
are_few [] around = true
are_few (m ∷ ms) around = m.few around && are_few ms around

-- a subquery has its points for each of those around it, also in an expression that engines are asked for
abbrev pub node_few : {A : Type 0} → PlanNode-F A Measure → ℕ → Bool
node_few (PlanNode-F.Subquery inner range step moment) around =
    not (nat_lt most_points (around * points range step)) && inner.few (around * points range step)
node_few (PlanNode-F.Gather expr kind engines) around = has_none (crowded expr around)
node_few y around = are_few (children y) around

-- filters, ratios and Once nodes aren't counted, and a gather is as deep as its expression
abbrev pub node_depth : {A : Type 0} → PlanNode-F A Measure → ℕ
node_depth (PlanNode-F.Filter base rules) = base.depth
node_depth (PlanNode-F.Ratio sum count) = greatest (sum.depth ∷ count.depth ∷ [])
node_depth (PlanNode-F.Once inner) = inner.depth
node_depth (PlanNode-F.Gather expr kind engines) = depth expr
node_depth y = 1 + greatest (map (λ (m : Measure). m.depth) (children y))

abbrev pub node_measure : {A : Type 0} → PlanNode-F A Measure → ℕ → Measure
node_measure (PlanNode-F.Once inner) at = inner
node_measure y at = record {
  parts = own_parts y ++ all_parts (children y);
  replaced = own_replaced y at ++ all_replaced (children y);
  few = node_few y;
  depth = node_depth y;
}

abbrev pub measured : Plan → Measure
measured = fold-Plan (ℕ → Measure) Measure node_measure (λ p. p.node p.at)

-- ---- valid plans

-- label_replace nodes of one place have the same pattern
abbrev pub HasOnePattern : List (ℕ × PatternId) → Type 0
HasOnePattern replaced = (a b : ℕ × PatternId) → Contains replaced a → Contains replaced b → a.0 ≡ b.0 → a.1 ≡ b.1

abbrev pub deepest : ℕ
deepest = 256

-- a plan is valid for a longest length of time and a latest fixed time, in milliseconds
pub record IsValid (longest latest : ℕ) (p : Plan) : Type 0 where
  pub typed : IsTyped p
  pub within : AreWithin (λ rules. ⊤) longest latest (measured p).parts
  pub patterns : HasOnePattern (measured p).replaced
  pub few : (measured p).few 1 ≡ true
  pub shallow : (measured p).depth ≤ deepest

-- a typed tree within these limits, as a query is that was read and typed
pub record IsWithinLimits (longest latest : ℕ) (e : Expr) : Type 0 where
  pub within : AreWithin (λ rules. ⊤) longest latest (parts_of e)
  pub few : crowded e 1 ≡ []
  pub shallow : depth e ≤ 128

-- with its Once nodes a plan is valid where it is valid without them
abbrev pub OncesKeepValidity : Type 0
OncesKeepValidity = (longest latest : ℕ) (p : Plan) → IsValid longest latest p → IsValid longest latest (with_onces p)

-- what reading and checking tell of a tree: the typed tree of one without refusals, within the limits and at most 128 deep, is such
-- a tree
abbrev pub CheckedTreesAreWithinLimits : Type 0
CheckedTreesAreWithinLimits =
    (kept : Kept) (longest latest : ℕ) (e typed : Expr) → typed ≡ settled e → refusals_of e ≡ [] → parts_of typed ≡ parts_of e → depth typed ≡ depth e
    → AreWithin (HaveTheirPatterns kept) longest latest (parts_of e) → depth e ≤ 128 → IsWithinLimits longest latest typed
