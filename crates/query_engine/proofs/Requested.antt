-- Which engines the requests of a tree name: those that the parts of its plan do.
use Rattle.std.proofs.Common.{◌≡◌, ◌∙◌, ◌+◌, ◌<◌, ℕ, zero, suc, List, [], ◌∷◌, ◌++◌, map, length, slice_get, Some, ap, arith, sym, subst}
use Rattle.std.specs.List.{AllByRecursion, range_with_len}
use Rattle.exchange.specs.declared.request.Request.{Request}
use Rattle.holders.specs.Joins.{back_of, front_of}
use Rattle.logical_plan.specs.Lowering.{planned}
use Rattle.logical_plan.specs.PlanFolds.{of-Subquery, of-Element, of-Group, of-Stamp, of-Window, of-Absent, of-Buckets, of-Relabel, of-Sort, of-ScalarOf, of-VectorOf, of-Pair, of-Set, of-Filter, of-Ratio, of-Once, of-Gather}
use Rattle.logical_plan.specs.declared.nodes.Plan.{Plan}
use Rattle.logical_plan.specs.declared.nodes.PlanNode.{PlanNode}
use Rattle.logical_plan.specs.declared.nodes.PlanNode.TheOpen.{PlanNode-F}
use Rattle.logical_plan.specs.declared.nodes.PlanNode.TheVariants as node
use Rattle.opt_remote.specs.Gathering.{all_engines}
use Rattle.opt_remote.specs.Parts.{AreAskedOf, IsAskedOf, Part, all_parts, node_parts, parts_asked}
use Rattle.phys_plan.specs.Asks.{HaveEngines}
use Rattle.plan_parts.specs.Parts.{IsAskedIn, IsChild, itself, of_absent, of_buckets, of_count, of_element, of_element_argument, of_filter, of_group, of_left, of_once, of_quantile, of_relabel, of_right, of_scalar, of_set_left, of_set_right, of_sort, of_stamp, of_subquery, of_sum, of_vector, of_window, of_window_argument, under}
use Rattle.remote_api.specs.Seen.{EngineSeen}

-- ---- numbers

range_inside : (a n j i : ℕ) → slice_get (range_with_len a n) j ≡ Some i → i < a + n
range_inside a zero j i e = absurd (cc)
range_inside a (suc n) zero i e = let s : a ≡ i = cc in omega (arith, s)
range_inside a (suc n) (suc j) i e = let h : i < (a + 1) + n = range_inside (a + 1) n j i e in omega (arith, h)

-- ---- parts

module _ (P : Part → Type 0) where
  abbrev All : List Part → Type 0
  All parts = AllByRecursion P parts

  abbrev step : PlanNode-F (List Part) (List Part) → List Part
  step = node_parts

  there : (p : Plan) (n : PlanNode) → p.node ≡ n → parts_asked p ≡ parts_asked (planned p.at n)
  there p n e = ap (λ (k : PlanNode). parts_asked (planned p.at k)) e

  first : (c : Plan) (rest : List (List Part)) → All (all_parts (parts_asked c ∷ rest)) → All (parts_asked c)
  first c rest all = front_of P (parts_asked c) (all_parts rest) all

  second : (a c : Plan) → All (all_parts (parts_asked a ∷ parts_asked c ∷ [])) → All (parts_asked c)
  second a c all = first c [] (back_of P (parts_asked a) (all_parts (parts_asked c ∷ [])) all)

  among : (before after : List Plan) (c : Plan) → All (all_parts (map parts_asked (before ++ c ∷ after))) → All (parts_asked c)
  among [] after c all = first c (map parts_asked after) all
  among (b ∷ before) after c all = among before after c (back_of P (parts_asked b) (all_parts (map parts_asked (before ++ c ∷ after))) all)

  behind : (a : Plan) (before after : List Plan) (c : Plan) → All (all_parts (parts_asked a ∷ map parts_asked (before ++ c ∷ after))) → All (parts_asked c)
  behind a before after c all = among before after c (back_of P (parts_asked a) (all_parts (map parts_asked (before ++ c ∷ after))) all)

  below : (c p : Plan) → IsChild c p → All (parts_asked p) → All (parts_asked c)
  below c p (of_subquery range by moment e) all =
      first c [] (subst All (there p (node.Subquery c range by moment) e ∙ of-Subquery step (λ q. q.node) p.at c range by moment) all)
  below c p (of_element f arguments e) all = first c (map parts_asked arguments) (subst All (there p (node.Element f c arguments) e ∙ of-Element step (λ q. q.node) p.at f c arguments) all)
  below c p (of_element_argument f inner before after e) all =
      behind inner before after c (subst All (there p (node.Element f inner (before ++ c ∷ after)) e ∙ of-Element step (λ q. q.node) p.at f inner (before ++ c ∷ after)) all)
  below c p (of_stamp e) all = first c [] (subst All (there p (node.Stamp c) e ∙ of-Stamp step (λ q. q.node) p.at c) all)
  below c p (of_window f arguments e) all = first c (map parts_asked arguments) (subst All (there p (node.Window f c arguments) e ∙ of-Window step (λ q. q.node) p.at f c arguments) all)
  below c p (of_window_argument f inner before after e) all =
      behind inner before after c (subst All (there p (node.Window f inner (before ++ c ∷ after)) e ∙ of-Window step (λ q. q.node) p.at f inner (before ++ c ∷ after)) all)
  below c p (of_absent labels e) all = first c [] (subst All (there p (node.Absent labels c) e ∙ of-Absent step (λ q. q.node) p.at labels c) all)
  below c p (of_quantile inner e) all = first c (parts_asked inner ∷ []) (subst All (there p (node.Buckets c inner) e ∙ of-Buckets step (λ q. q.node) p.at c inner) all)
  below c p (of_buckets quantile e) all = second quantile c (subst All (there p (node.Buckets quantile c) e ∙ of-Buckets step (λ q. q.node) p.at quantile c) all)
  below c p (of_relabel rule e) all = first c [] (subst All (there p (node.Relabel rule c) e ∙ of-Relabel step (λ q. q.node) p.at rule c) all)
  below c p (of_sort down e) all = first c [] (subst All (there p (node.Sort down c) e ∙ of-Sort step (λ q. q.node) p.at down c) all)
  below c p (of_scalar e) all = first c [] (subst All (there p (node.ScalarOf c) e ∙ of-ScalarOf step (λ q. q.node) p.at c) all)
  below c p (of_vector e) all = first c [] (subst All (there p (node.VectorOf c) e ∙ of-VectorOf step (λ q. q.node) p.at c) all)
  below c p (of_group f by before after label e) all =
      among before after c (subst All (there p (node.Group f by (before ++ c ∷ after) label) e ∙ of-Group step (λ q. q.node) p.at f by (before ++ c ∷ after) label) all)
  below c p (of_left op right pairing e) all = first c (parts_asked right ∷ []) (subst All (there p (node.Pair op c right pairing) e ∙ of-Pair step (λ q. q.node) p.at op c right pairing) all)
  below c p (of_right op left pairing e) all = second left c (subst All (there p (node.Pair op left c pairing) e ∙ of-Pair step (λ q. q.node) p.at op left c pairing) all)
  below c p (of_set_left op right pairing e) all = first c (parts_asked right ∷ []) (subst All (there p (node.Set op c right pairing) e ∙ of-Set step (λ q. q.node) p.at op c right pairing) all)
  below c p (of_set_right op left pairing e) all = second left c (subst All (there p (node.Set op left c pairing) e ∙ of-Set step (λ q. q.node) p.at op left c pairing) all)
  below c p (of_filter rules e) all = first c [] (subst All (there p (node.Filter c rules) e ∙ of-Filter step (λ q. q.node) p.at c rules) all)
  below c p (of_sum count e) all = first c (parts_asked count ∷ []) (subst All (there p (node.Ratio c count) e ∙ of-Ratio step (λ q. q.node) p.at c count) all)
  below c p (of_count sum e) all = second sum c (subst All (there p (node.Ratio sum c) e ∙ of-Ratio step (λ q. q.node) p.at sum c) all)
  below c p (of_once e) all = first c [] (subst All (there p (node.Once c) e ∙ of-Once step (λ q. q.node) p.at c) all)

  -- what holds of each part of a plan holds of the part of a request
  asked_in : (r : Request) {p : Plan} → IsAskedIn r p → All (parts_asked p) → P (record { expr = r.part.expr; kind = r.part.kind; engines = r.engines })
  asked_in r (itself q e) = λ all. (subst All (there q (node.Gather r.part.expr r.part.kind r.engines) e ∙ of-Gather step (λ x. x.node) q.at r.part.expr r.part.kind r.engines) all).0
  asked_in r (under c q child inside) = λ all. asked_in r inside (below c q child all)

-- there is an engine under each number that the requests of a plan name which asks all engines
pub have_engines : (requests : List Request) (es : List EngineSeen) (p : Plan) (count : ℕ) → count ≡ length es → AreAskedOf (all_engines count) (parts_asked p)
    → ((k : ℕ) (r : Request) → slice_get requests k ≡ Some r → IsAskedIn r p) → HaveEngines requests es
have_engines requests es p count size all named k j i r r_at i_at =
    let is = asked_in (IsAskedOf (all_engines count)) r (named k r r_at) all in
    let inside : i < 0 + count = range_inside 0 count j i (sym (ap (λ (numbers : List ℕ). slice_get numbers j) is.all) ∙ i_at) in
    omega (arith, inside, size)
