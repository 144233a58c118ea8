-- Of a typed plan no selector is left beside the parts that engines are asked for.
use Rattle.std.proofs.Common.{◌≡◌, ◌∙◌, ℕ, List, [], ◌∷◌, map, ap, sym, refl, subst, Bool, true, false, cond, Some, None}
use Rattle.std.specs.Prelude.{◌&&◌, ◌||◌, Option}
use Rattle.promql_meaning.specs.Steadiness.{all_hold}
use Rattle.promql_type.specs.Kinds.{is_kind}
use Rattle.promql_type.specs.Replacements.{Kept}
use Rattle.promql_type.specs.declared.kind.Kind.{Kind}
use Rattle.promql_type.specs.declared.kind.Kind.TheVariants.{Scalar, Vector, Windows}
use Rattle.step_table.specs.declared.cells.PartKind.{PartKind}
use Rattle.step_table.specs.declared.cells.PartKind.TheVariants as part
use Rattle.logical_plan.specs.declared.nodes.Plan.{Plan}
use Rattle.logical_plan.specs.declared.nodes.PlanNode.{PlanNode}
use Rattle.logical_plan.specs.declared.nodes.PlanNode.TheVariants as node
use Rattle.logical_plan.specs.declared.nodes.PlanNode.TheOpen.{PlanNode-F}
use Rattle.logical_plan.specs.declared.nodes.PlanNode.TheViews.{out-PlanNode, roll-PlanNode, roll-Plan, out-roll-PlanNode}
use Rattle.logical_plan.specs.declared.nodes.PlanNode.TheFolds.{fold-PlanNode, fold-roll-PlanNode, fold-roll-Plan, ind-Plan, map-PlanNode}
use Rattle.logical_plan.specs.Lowering.{planned}
use Rattle.logical_plan.specs.PartExprs.{expression_of}
use Rattle.logical_plan.specs.PlanFolds.{of-Gather, of-Once, of-Stamp}
use Rattle.logical_plan.specs.PlanFolds.{rolled as by_place}
use Rattle.logical_plan.specs.PlanTypes.{Typing, are_sound, is_element, is_group, is_of, is_pair, is_relabel, is_sound, is_stamped, is_unstamped, is_window, kinds_of, node_typing, typing}
use Rattle.plan_rewrite.specs.Rebuilding.{Change, changed, rebuilt}
use Rattle.opt_remote.specs.Gathering.{gather, gather_selector, is_stamped_selector}
use Rattle.opt_remote.specs.Laws.{NoSelectorIsLeft}
use Rattle.opt_remote.specs.Parts.{is_gathered, node_gathered}
use Rattle.opt_remote.proofs.Ands.{and, left, right}
use Rattle.opt_remote.proofs.Rebuilt.{folded, rolled}

abbrev G : Plan → Bool
G = is_gathered

-- no selector is left in what a plan became, and of a selector whose own times are read it is one
record IsDone (t : Typing) (q : Plan) : Type 0 where
  gathered : is_unstamped t.select ≡ true → G q ≡ true
  stamped : t.select ≡ Some true → is_stamped_selector (out-PlanNode q.node) ≡ true

abbrev IsDoneIfTyped : Typing → Plan → Type 0
IsDoneIfTyped t q = t.typed ≡ true → IsDone t q

no_stamp : None ≡ Some true → ⊥
no_stamp e = cc

other_stamp : Some false ≡ Some true → ⊥
other_stamp e = cc

not_true : false ≡ true → ⊥
not_true e = cc

one : (b : Bool) → b ≡ true → all_hold (b ∷ []) ≡ true
one b e = and b true e refl

two : (a b : Bool) → a ≡ true → b ≡ true → all_hold (a ∷ b ∷ []) ≡ true
two a b e f = and a (b && true) e (and b true f refl)

-- no place matters
same_place : (at place : ℕ) (n : PlanNode) → G (planned at n) ≡ G (planned place n)
same_place at place n = by_place node_gathered (λ p. p.node) at n ∙ sym (by_place node_gathered (λ p. p.node) place n)

-- ---- nodes that are no selectors

-- a node over plans in which no selector is left
plain_done : (at : ℕ) (t : Typing) (y : PlanNode-F PlanNode Plan) → t.select ≡ None → node_gathered (folded node_gathered (λ p. p.node) y) ≡ true → IsDone t (planned at (roll-PlanNode y))
plain_done at t y none e = record {
  gathered = λ u. rolled node_gathered (λ p. p.node) at y ∙ e;
  stamped = λ s. absurd (no_stamp (sym none ∙ s));
}

module _ (engines : List ℕ) (kept : Kept) where
  abbrev change : Change
  change = gather_selector engines kept

  abbrev again : Plan → Plan
  again = rebuilt change

  abbrev node_again : PlanNode → PlanNode
  node_again = fold-PlanNode PlanNode Plan roll-PlanNode (changed change)

  -- ---- parts

  part_gathered : (at : ℕ) (kind : PartKind) (n : PlanNode) → G (planned at (gather engines kept kind at n)) ≡ true
  part_gathered at kind n = of-Gather node_gathered (λ p. p.node) at (expression_of kept (planned at n)) kind engines

  part_done : (at : ℕ) (t : Typing) (kind : PartKind) (n : PlanNode) → (t.select ≡ Some true → ⊥) → IsDone t (planned at (gather engines kept kind at n))
  part_done at t kind n never = record { gathered = λ u. part_gathered at kind n; stamped = λ s. absurd (never s) }

  -- ---- timestamps and Once nodes

  module _ (at : ℕ) (q : Plan) where
    stamped_gathered : (b : Bool) → G q ≡ true → G (planned at (cond b (gather engines kept part.Rows at (node.Stamp q)) (node.Stamp q))) ≡ true
    stamped_gathered true e = part_gathered at part.Rows (node.Stamp q)
    stamped_gathered false e = of-Stamp node_gathered (λ p. p.node) at q ∙ one (G q) e

    abbrev Stamped : Bool → Plan
    Stamped b = planned at (cond b (gather engines kept part.Rows at (node.Stamp q)) (node.Stamp q))

    stamp_gathered : (select : Option Bool) → is_stamped select ≡ true → (is_unstamped select ≡ true → G q ≡ true) → (select ≡ Some true → is_stamped_selector (out-PlanNode q.node) ≡ true)
        → G (Stamped (is_stamped_selector (out-PlanNode q.node))) ≡ true
    stamp_gathered None e gathered stamped = stamped_gathered (is_stamped_selector (out-PlanNode q.node)) (gathered refl)
    stamp_gathered (Some true) e gathered stamped =
        ap (λ (b : Bool). G (Stamped b)) (stamped refl) ∙ part_gathered at part.Rows (node.Stamp q)
    stamp_gathered (Some false) e gathered stamped = absurd (not_true e)

    once_gathered : (b : Bool) → G q ≡ true → G (planned at (cond b q.node (node.Once q))) ≡ true
    once_gathered true e = same_place at q.at q.node ∙ e
    once_gathered false e = of-Once node_gathered (λ p. p.node) at q ∙ one (G q) e

    once_stamped : (b : Bool) → b ≡ true → is_stamped_selector (out-PlanNode q.node) ≡ true → is_stamped_selector (out-PlanNode (cond b q.node (node.Once q))) ≡ true
    once_stamped true e is = is
    once_stamped false e is = absurd (not_true e)

  -- ---- children

  abbrev IsDonePlan : Plan → Type 0
  IsDonePlan p = IsDoneIfTyped (typing p) (again p)

  abbrev IsDoneNode : PlanNode → Type 0
  IsDoneNode n = (at : ℕ) → IsDoneIfTyped (typing (planned at n)) (planned at (change at (out-PlanNode (node_again n))))

  abbrev Known : Type 0
  Known = (p : Plan) × IsDonePlan p

  abbrev typings : List Known → List Typing
  typings ps = map typing (map (λ (p : Known). p.0) ps)

  abbrev afters : List Known → List Plan
  afters ps = map again (map (λ (p : Known). p.0) ps)

  sound_gathered : (p : Known) → is_sound (typing p.0) ≡ true → G (again p.0) ≡ true
  sound_gathered p e =
      (p.1 (left (typing p.0).typed (is_unstamped (typing p.0).select) e)).gathered (right (typing p.0).typed (is_unstamped (typing p.0).select) e)

  of_gathered : (k : Kind) (p : Known) → is_of k (typing p.0) ≡ true → G (again p.0) ≡ true
  of_gathered k p e = sound_gathered p (left (is_sound (typing p.0)) (is_kind k (typing p.0).kind) e)

  all_gathered : (ps : List Known) → are_sound (typings ps) ≡ true → all_hold (map G (afters ps)) ≡ true
  all_gathered [] e = refl
  all_gathered (p ∷ ps) e =
      and (G (again p.0)) (all_hold (map G (afters ps))) (sound_gathered p (left (is_sound (typing p.0)) (are_sound (typings ps)) e))
      (all_gathered ps (right (is_sound (typing p.0)) (are_sound (typings ps)) e))

  -- the first of some and the others
  more_gathered : (p : Known) (ps : List Known) → (is_sound (typing p.0) && are_sound (typings ps)) ≡ true → all_hold (map G (afters (p ∷ ps))) ≡ true
  more_gathered p ps e = all_gathered (p ∷ ps) e

  one_of : (k : Kind) (p : Known) → is_of k (typing p.0) ≡ true → all_hold (G (again p.0) ∷ []) ≡ true
  one_of k p e = one (G (again p.0)) (of_gathered k p e)

  two_of : (j k : Kind) (p q : Known) → (is_of j (typing p.0) && is_of k (typing q.0)) ≡ true → all_hold (G (again p.0) ∷ G (again q.0) ∷ []) ≡ true
  two_of j k p q e =
      two (G (again p.0)) (G (again q.0)) (of_gathered j p (left (is_of j (typing p.0)) (is_of k (typing q.0)) e)) (of_gathered k q (right (is_of j (typing p.0)) (is_of k (typing q.0)) e))

  -- ---- each kind of node

  abbrev Layer : Type 0
  Layer = PlanNode-F ((n : PlanNode) × IsDoneNode n) Known

  abbrev plans : Layer → PlanNode-F PlanNode Plan
  plans = map-PlanNode ((n : PlanNode) × IsDoneNode n) Known PlanNode Plan (λ e. e.0) (λ e. e.0)

  abbrev plans_again : Layer → PlanNode-F PlanNode Plan
  plans_again y = map-PlanNode PlanNode Plan PlanNode Plan node_again again (plans y)

  abbrev typing_of : Layer → Typing
  typing_of y = node_typing (folded node_typing (λ p. p.node) (plans y))

  plain : (at : ℕ) (y : Layer) → (typing_of y).select ≡ None → node_gathered (folded node_gathered (λ p. p.node) (plans_again y)) ≡ true → IsDone (typing_of y) (planned at (roll-PlanNode (plans_again y)))
  plain at y none e = plain_done at (typing_of y) (plans_again y) none e

  level : (at : ℕ) (y : Layer) → IsDoneIfTyped (typing_of y) (planned at (change at (plans_again y)))
  level at (PlanNode-F.Number value) e = plain at (PlanNode-F.Number value) refl refl
  level at PlanNode-F.Time e = plain at PlanNode-F.Time refl refl
  level at (PlanNode-F.Select rules moment false) e = part_done at (typing_of (PlanNode-F.Select rules moment false)) part.Rows (node.Select rules moment false) other_stamp
  level at (PlanNode-F.Select rules moment true) e = record {
    gathered = λ u. absurd (not_true u);
    stamped = λ s. ap is_stamped_selector (out-roll-PlanNode (PlanNode-F.Select rules moment true));
  }
  level at (PlanNode-F.Range rules moment range) e = part_done at (typing_of (PlanNode-F.Range rules moment range)) part.Windows (node.Range rules moment range) no_stamp
  level at (PlanNode-F.Subquery p range step moment) e = plain at (PlanNode-F.Subquery p range step moment) refl (one_of Vector p e)
  level at (PlanNode-F.Element f p ps) e =
      plain at (PlanNode-F.Element f p ps) refl (more_gathered p ps (left (is_sound (typing p.0) && are_sound (typings ps)) (is_element f (typing p.0).kind (kinds_of (typings ps))) e))
  level at (PlanNode-F.Stamp p) e =
      let first = left ((typing p.0).typed && is_stamped (typing p.0).select) (is_kind Vector (typing p.0).kind) e in
      let done = p.1 (left (typing p.0).typed (is_stamped (typing p.0).select) first) in
      record {
        gathered = λ u. stamp_gathered at (again p.0) (typing p.0).select (right (typing p.0).typed (is_stamped (typing p.0).select) first) done.gathered done.stamped;
        stamped = λ s. absurd (no_stamp s);
      }
  level at (PlanNode-F.Window f p ps) e =
      plain at (PlanNode-F.Window f p ps) refl (more_gathered p ps (left (is_sound (typing p.0) && are_sound (typings ps)) (is_window f (typing p.0).kind (kinds_of (typings ps))) e))
  level at (PlanNode-F.Absent labels p) e = plain at (PlanNode-F.Absent labels p) refl (one_of Vector p e)
  level at (PlanNode-F.Buckets p q) e = plain at (PlanNode-F.Buckets p q) refl (two_of Scalar Vector p q e)
  level at (PlanNode-F.Relabel rule p) e = plain at (PlanNode-F.Relabel rule p) refl (one_of Vector p (right (is_relabel rule) (is_of Vector (typing p.0)) e))
  level at (PlanNode-F.Sort down p) e = plain at (PlanNode-F.Sort down p) refl (one_of Vector p e)
  level at (PlanNode-F.ScalarOf p) e = plain at (PlanNode-F.ScalarOf p) refl (one_of Vector p e)
  level at (PlanNode-F.VectorOf p) e = plain at (PlanNode-F.VectorOf p) refl (one_of Scalar p e)
  level at (PlanNode-F.Group f grouping ps label) e =
      plain at (PlanNode-F.Group f grouping ps label) refl (all_gathered ps (left (are_sound (typings ps)) (is_group f (kinds_of (typings ps)) label) e))
  level at (PlanNode-F.Pair op p q pairing) e =
      let sound = left (is_sound (typing p.0) && is_sound (typing q.0)) (is_pair op pairing (typing p.0).kind (typing q.0).kind) e in
      plain at (PlanNode-F.Pair op p q pairing) refl
      (two (G (again p.0)) (G (again q.0)) (sound_gathered p (left (is_sound (typing p.0)) (is_sound (typing q.0)) sound)) (sound_gathered q (right (is_sound (typing p.0)) (is_sound (typing q.0)) sound)))
  level at (PlanNode-F.Set op p q pairing) e = plain at (PlanNode-F.Set op p q pairing) refl (two_of Vector Vector p q e)
  level at (PlanNode-F.Filter p rules) e =
      plain at (PlanNode-F.Filter p rules) refl (one (G (again p.0)) (sound_gathered p (left (is_sound (typing p.0)) (is_kind Vector (typing p.0).kind || is_kind Windows (typing p.0).kind) e)))
  level at (PlanNode-F.Ratio p q) e = plain at (PlanNode-F.Ratio p q) refl (two_of Vector Vector p q e)
  level at (PlanNode-F.Once p) e =
      let done = p.1 e in
      let b = is_stamped_selector (out-PlanNode (again p.0).node) in
      record {
        gathered = λ u. once_gathered at (again p.0) b (done.gathered u);
        stamped = λ s. once_stamped at (again p.0) b (done.stamped s) (done.stamped s);
      }
  level at (PlanNode-F.Gather expr kind numbers) e = plain at (PlanNode-F.Gather expr kind numbers) refl refl

  -- ---- the law

  node_done : (y : Layer) → IsDoneNode (roll-PlanNode (plans y))
  node_done y at =
      let after_is : out-PlanNode (node_again (roll-PlanNode (plans y))) ≡ plans_again y =
      ap out-PlanNode (fold-roll-PlanNode PlanNode Plan roll-PlanNode (changed change) (plans y)) ∙ out-roll-PlanNode (plans_again y) in
      subst (λ t. IsDoneIfTyped t (planned at (change at (out-PlanNode (node_again (roll-PlanNode (plans y))))))) (sym (rolled node_typing (λ p. p.node) at (plans y)))
      (subst (λ (z : PlanNode-F PlanNode Plan). IsDoneIfTyped (typing_of y) (planned at (change at z))) (sym after_is) (level at y))

  plan_done : (at : ℕ) (n : PlanNode) → IsDoneNode n → IsDonePlan (planned at n)
  plan_done at n done =
      subst (IsDoneIfTyped (typing (planned at n))) (sym (fold-roll-Plan PlanNode Plan roll-PlanNode (changed change) (record { at = at; node = n }))) (done at)

  all_done : (p : Plan) → IsDonePlan p
  all_done = ind-Plan IsDoneNode IsDonePlan
      (λ x y is. subst (λ z. IsDoneNode (roll-PlanNode z)) is (node_done y))
      (λ x y is. subst (λ z. IsDonePlan (roll-Plan z)) is (plan_done y.at y.node.0 y.node.1))

pub no_selector_is_left : NoSelectorIsLeft
no_selector_is_left engines kept p e =
    (all_done engines kept p (left (typing p).typed (is_unstamped (typing p).select) e)).gathered (right (typing p).typed (is_unstamped (typing p).select) e)
