-- A plan without the sorts that order nothing that is seen is related to what it was.
use Rattle.std.proofs.Common.{◌≡◌, ℕ, List, [], ◌∷◌, map, ap, sym, refl, subst, Bool, true, false}
use Rattle.label_set.specs.declared.rules.Rule.{Rule}
use Rattle.logical_plan.specs.declared.nodes.Plan.{Plan}
use Rattle.logical_plan.specs.declared.nodes.PlanNode.{PlanNode}
use Rattle.logical_plan.specs.declared.nodes.PlanNode.TheOpen.{PlanNode-F, Plan-F}
use Rattle.logical_plan.specs.declared.nodes.PlanNode.TheViews.{roll-PlanNode, roll-Plan}
use Rattle.logical_plan.specs.declared.nodes.PlanNode.TheFolds.{ind-Plan, map-PlanNode}
use Rattle.logical_plan.specs.Lowering.{planned}
use Rattle.logical_plan.specs.PlanFolds.{of-Number, of-Time, of-Select, of-Range, of-Subquery, of-Element, of-Stamp, of-Window, of-Absent, of-Buckets, of-Relabel, of-Sort, of-ScalarOf, of-VectorOf, of-Group, of-Pair, of-Set, of-Filter, of-Ratio, of-Once, of-Gather}
use Rattle.opt_selects.specs.Trimming.{trim, trim_node, trimmed}
use Rattle.rewrite_laws.proofs.Follows.{Child, Follows, bares, befores}
use Rattle.rewrite_laws.proofs.Rebuilt.{folded, made, of, over_lists, rolled}

module _ {A B : Type 0} {Good : Rule → Type 0} (node_step : PlanNode-F A B → A) (plan_step : Plan-F A B → B) (Loose Kept : B → B → Type 0)
    (follows : Follows A B node_step plan_step Good Loose Kept) where
  abbrev F : Plan → B
  F = of node_step plan_step

  abbrev M : ℕ → PlanNode-F A B → B
  M = made node_step plan_step

  -- a plan that begins with its sort, and without it
  record Both (before : B) (trims : Bool → Plan) : Type 0 where
    loose : Loose before (F (trims false))
    kept : Kept before (F (trims true))

  abbrev IsFine : Plan → Type 0
  IsFine p = Both (F p) (trimmed p)

  abbrev IsFineNode : PlanNode → Type 0
  IsFineNode n = (at : ℕ) → IsFine (planned at n)

  abbrev Part : Type 0
  Part = (p : Plan) × IsFine p

  abbrev Layer : Type 0
  Layer = PlanNode-F ((n : PlanNode) × IsFineNode n) Part

  abbrev plans : Layer → PlanNode-F PlanNode Plan
  plans = map-PlanNode ((n : PlanNode) × IsFineNode n) Part PlanNode Plan (λ e. e.0) (λ e. e.0)

  abbrev trims : Layer → PlanNode-F (ℕ → Bool → Plan) (Bool → Plan)
  trims y = folded trim_node (λ p. p.node p.at) (plans y)

  abbrev C : Type 0
  C = Child B Loose Kept

  abbrev child : Part → C
  child p = record { before = F p.0; bare = F (trimmed p.0 false); whole = F (trimmed p.0 true); loose = p.1.loose; kept = p.1.kept }

  abbrev parts_in : List Part → List Plan
  parts_in ps = map (λ (p : Part). p.0) ps

  abbrev without_sorts : List Part → List Plan
  without_sorts ps = map (λ (of : Bool → Plan). of false) (map trimmed (parts_in ps))

  befores_are : (ps : List Part) → befores (map child ps) ≡ map F (parts_in ps)
  befores_are [] = refl
  befores_are (p ∷ ps) = ap (λ bs. F p.0 ∷ bs) (befores_are ps)

  bares_are : (ps : List Part) → bares (map child ps) ≡ map F (without_sorts ps)
  bares_are [] = refl
  bares_are (p ∷ ps) = ap (λ bs. F (trimmed p.0 false) ∷ bs) (bares_are ps)

  -- one plan in both cases
  one : (before : B) (q : Plan) (after : B) → F q ≡ after → Kept before after → Both before (λ keeps. q)
  one before q after e k =
      let kept : Kept before (F q) = subst (Kept before) (sym e) k in
      record { loose = follows.loosely before (F q) kept; kept = kept }

  level : (at : ℕ) (y : Layer) → Both (M at (folded node_step plan_step (plans y))) (trim_node (trims y) at)
  level at (PlanNode-F.Number value) = one _ _ _ (of-Number node_step plan_step at value) (follows.levels at (PlanNode-F.Number value))
  level at PlanNode-F.Time = one _ _ _ (of-Time node_step plan_step at) (follows.levels at PlanNode-F.Time)
  level at (PlanNode-F.Select rules moment stamped) = one _ _ _ (of-Select node_step plan_step at rules moment stamped) (follows.levels at (PlanNode-F.Select rules moment stamped))
  level at (PlanNode-F.Range rules moment range) = one _ _ _ (of-Range node_step plan_step at rules moment range) (follows.levels at (PlanNode-F.Range rules moment range))
  level at (PlanNode-F.Subquery c range step moment) =
      one _ _ _ (of-Subquery node_step plan_step at (trimmed c.0 false) range step moment) (follows.levels at (PlanNode-F.Subquery (child c) range step moment))
  level at (PlanNode-F.Element f c cs) =
      one _ _ _ (of-Element node_step plan_step at f (trimmed c.0 false) (without_sorts cs))
      (over_lists Kept (λ bs. M at (PlanNode-F.Element f (F c.0) bs)) (λ bs. M at (PlanNode-F.Element f (F (trimmed c.0 false)) bs))
      _ _ _ _ (befores_are cs) (bares_are cs) (follows.levels at (PlanNode-F.Element f (child c) (map child cs))))
  level at (PlanNode-F.Stamp c) = one _ _ _ (of-Stamp node_step plan_step at (trimmed c.0 true)) (follows.levels at (PlanNode-F.Stamp (child c)))
  level at (PlanNode-F.Window f c cs) =
      one _ _ _ (of-Window node_step plan_step at f (trimmed c.0 false) (without_sorts cs))
      (over_lists Kept (λ bs. M at (PlanNode-F.Window f (F c.0) bs)) (λ bs. M at (PlanNode-F.Window f (F (trimmed c.0 false)) bs))
      _ _ _ _ (befores_are cs) (bares_are cs) (follows.levels at (PlanNode-F.Window f (child c) (map child cs))))
  level at (PlanNode-F.Absent labels c) = one _ _ _ (of-Absent node_step plan_step at labels (trimmed c.0 false)) (follows.levels at (PlanNode-F.Absent labels (child c)))
  level at (PlanNode-F.Buckets c d) = one _ _ _ (of-Buckets node_step plan_step at (trimmed c.0 false) (trimmed d.0 false)) (follows.levels at (PlanNode-F.Buckets (child c) (child d)))
  level at (PlanNode-F.Relabel rule c) = one _ _ _ (of-Relabel node_step plan_step at rule (trimmed c.0 false)) (follows.levels at (PlanNode-F.Relabel rule (child c)))
  level at (PlanNode-F.Sort down c) = record {
    loose = follows.bare_sort at down (child c);
    kept = subst (Kept (M at (PlanNode-F.Sort down (F c.0)))) (sym (of-Sort node_step plan_step at down (trimmed c.0 false))) (follows.levels at (PlanNode-F.Sort down (child c)));
  }
  level at (PlanNode-F.ScalarOf c) = one _ _ _ (of-ScalarOf node_step plan_step at (trimmed c.0 false)) (follows.levels at (PlanNode-F.ScalarOf (child c)))
  level at (PlanNode-F.VectorOf c) = one _ _ _ (of-VectorOf node_step plan_step at (trimmed c.0 false)) (follows.levels at (PlanNode-F.VectorOf (child c)))
  level at (PlanNode-F.Group f grouping cs label) =
      one _ _ _ (of-Group node_step plan_step at f grouping (without_sorts cs) label)
      (over_lists Kept (λ bs. M at (PlanNode-F.Group f grouping bs label)) (λ bs. M at (PlanNode-F.Group f grouping bs label))
      _ _ _ _ (befores_are cs) (bares_are cs) (follows.levels at (PlanNode-F.Group f grouping (map child cs) label)))
  level at (PlanNode-F.Pair op c d pairing) =
      one _ _ _ (of-Pair node_step plan_step at op (trimmed c.0 false) (trimmed d.0 false) pairing) (follows.levels at (PlanNode-F.Pair op (child c) (child d) pairing))
  level at (PlanNode-F.Set op c d pairing) =
      one _ _ _ (of-Set node_step plan_step at op (trimmed c.0 false) (trimmed d.0 false) pairing) (follows.levels at (PlanNode-F.Set op (child c) (child d) pairing))
  level at (PlanNode-F.Filter c rules) = one _ _ _ (of-Filter node_step plan_step at (trimmed c.0 false) rules) (follows.levels at (PlanNode-F.Filter (child c) rules))
  level at (PlanNode-F.Ratio c d) = one _ _ _ (of-Ratio node_step plan_step at (trimmed c.0 false) (trimmed d.0 false)) (follows.levels at (PlanNode-F.Ratio (child c) (child d)))
  level at (PlanNode-F.Once c) = record {
    loose = subst (Loose (M at (PlanNode-F.Once (F c.0)))) (sym (of-Once node_step plan_step at (trimmed c.0 false))) (follows.bare_once at (child c));
    kept = subst (Kept (M at (PlanNode-F.Once (F c.0)))) (sym (of-Once node_step plan_step at (trimmed c.0 true))) (follows.levels at (PlanNode-F.Once (child c)));
  }
  level at (PlanNode-F.Gather expr kind engines) = one _ _ _ (of-Gather node_step plan_step at expr kind engines) (follows.levels at (PlanNode-F.Gather expr kind engines))

  node_fine : (y : Layer) → IsFineNode (roll-PlanNode (plans y))
  node_fine y at =
      subst (λ (b : B). Both b (trimmed (planned at (roll-PlanNode (plans y))))) (sym (rolled node_step plan_step at (plans y)))
      (subst (Both (M at (folded node_step plan_step (plans y)))) (sym (rolled trim_node (λ p. p.node p.at) at (plans y))) (level at y))

  every : (p : Plan) → IsFine p
  every = ind-Plan IsFineNode IsFine
      (λ x y is. subst (λ z. IsFineNode (roll-PlanNode z)) is (node_fine y))
      (λ x y is. subst (λ z. IsFine (roll-Plan z)) is (y.node.1 y.at))

  pub trimmed_follows : (p : Plan) → Kept (F p) (F (trim p))
  trimmed_follows p = (every p).kept
