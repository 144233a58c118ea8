-- Each rewrite of single nodes keeps what follows.
use Rattle.std.proofs.Common.{◌≡◌, ◌∙◌, ℕ, List, ◌++◌, map, ap, ap₂, refl, Some, None, Bool, true, false, cond}
use Rattle.std.specs.Prelude.{Option, ◌&&◌, nat_lt, unwrap_or, if◌then◌else◌}
use Rattle.func_table.specs.declared.table.Aggregate.TheVariants as aggregate
use Rattle.label_set.specs.declared.rules.Pairing.{Pairing}
use Rattle.label_set.specs.declared.rules.Rule.{Rule}
use Rattle.promql_ast.specs.declared.tree.Moment.{Moment}
use Rattle.ticks.specs.declared.moment.Ms.{Ms}
use Rattle.xfrac.specs.declared.value.ArithOp.{ArithOp}
use Rattle.xfrac.specs.declared.value.PairOp.TheVariants.{Arith, Filter, Flag}
use Rattle.logical_plan.specs.declared.nodes.Plan.{Plan}
use Rattle.logical_plan.specs.declared.nodes.PlanNode.{PlanNode}
use Rattle.logical_plan.specs.declared.nodes.PlanNode.TheVariants as node
use Rattle.logical_plan.specs.declared.nodes.PlanNode.TheOpen.{PlanNode-F, Plan-F}
use Rattle.logical_plan.specs.declared.nodes.PlanNode.TheViews.{out-PlanNode, roll-PlanNode}
use Rattle.logical_plan.specs.Lowering.{planned}
use Rattle.logical_plan.specs.PlanFolds.{by_node, of-Select, of-Range, of-Group, of-Pair, of-Filter, of-Ratio}
use Rattle.plan_rewrite.specs.Rebuilding.{Change, rebuilt}
use Rattle.plan_rewrite.specs.RuleLists.{lacking}
use Rattle.opt_matchers.specs.Handing.{Operand, hand_rules, handed_over, is_plain, names_metric, operand, operand_at, pair_of, selecting, with_rules_of}
use Rattle.opt_matchers.specs.RuleOrder.{order_rules, ordered_rules}
use Rattle.opt_pushdown.specs.Pushing.{push_filter, selector_with}
use Rattle.opt_selects.specs.Bases.{base_among, merge_selects, over_base}
use Rattle.opt_selects.specs.Selectors.{ordered, selectors}
use Rattle.opt_split_avg.specs.Averages.{deepest_of, most_nested, nested, split_average}
use Rattle.rewrite_laws.proofs.Follows.{AreGood, Follows, Pushes}
use Rattle.rewrite_laws.proofs.Rebuilt.{every, folded, kept_by, made, of, rolled}
use Rattle.rewrite_laws.proofs.Rules.{Each, IsGoodBase, base_good, handed_good, lacking_good, ordered_good}

module _ {A B : Type 0} {Good : Rule → Type 0} (node_step : PlanNode-F A B → A) (plan_step : Plan-F A B → B) (Loose Kept : B → B → Type 0)
    (follows : Follows A B node_step plan_step Good Loose Kept) where
  abbrev F : Plan → B
  F = of node_step plan_step

  abbrev M : ℕ → PlanNode-F A B → B
  M = made node_step plan_step

  -- what a node of a plan becomes is related to it
  abbrev Keeps : Change → Type 0
  Keeps change = (at : ℕ) (y : PlanNode-F PlanNode Plan) → Kept (F (planned at (roll-PlanNode y))) (F (planned at (change at y)))

  -- where one node becomes another, by what the fold makes of both
  becomes : (at : ℕ) (y : PlanNode-F PlanNode Plan) (n : PlanNode) (b : B) → F (planned at n) ≡ b → Kept (M at (folded node_step plan_step y)) b → Kept (F (planned at (roll-PlanNode y))) (F (planned at n))
  becomes at y n b is k = kept_by Kept _ _ _ _ (rolled node_step plan_step at y) is k

  -- ---- the order of rules

  orders : (kept : List (Bool × List ℕ)) → Keeps (order_rules kept)
  orders kept at (PlanNode-F.Select rules moment stamped) =
      becomes at (PlanNode-F.Select rules moment stamped) _ _ (of-Select node_step plan_step at (ordered_rules kept rules) moment stamped) (follows.select at rules (ordered_rules kept rules) moment stamped (ordered_good Good kept rules))
  orders kept at (PlanNode-F.Range rules moment range) =
      becomes at (PlanNode-F.Range rules moment range) _ _ (of-Range node_step plan_step at (ordered_rules kept rules) moment range) (follows.range at rules (ordered_rules kept rules) moment range (ordered_good Good kept rules))
  orders kept at (PlanNode-F.Number value) = follows.itself _
  orders kept at PlanNode-F.Time = follows.itself _
  orders kept at (PlanNode-F.Subquery inner range step moment) = follows.itself _
  orders kept at (PlanNode-F.Element f inner arguments) = follows.itself _
  orders kept at (PlanNode-F.Stamp inner) = follows.itself _
  orders kept at (PlanNode-F.Window f inner arguments) = follows.itself _
  orders kept at (PlanNode-F.Absent labels inner) = follows.itself _
  orders kept at (PlanNode-F.Buckets quantile inner) = follows.itself _
  orders kept at (PlanNode-F.Relabel rule inner) = follows.itself _
  orders kept at (PlanNode-F.Sort down inner) = follows.itself _
  orders kept at (PlanNode-F.ScalarOf inner) = follows.itself _
  orders kept at (PlanNode-F.VectorOf inner) = follows.itself _
  orders kept at (PlanNode-F.Group f grouping arguments label) = follows.itself _
  orders kept at (PlanNode-F.Pair op l r pairing) = follows.itself _
  orders kept at (PlanNode-F.Set op l r pairing) = follows.itself _
  orders kept at (PlanNode-F.Filter base rules) = follows.itself _
  orders kept at (PlanNode-F.Ratio sum count) = follows.itself _
  orders kept at (PlanNode-F.Once inner) = follows.itself _
  orders kept at (PlanNode-F.Gather expr kind engines) = follows.itself _

  pub ordered_follows : (kept : List (Bool × List ℕ)) (p : Plan) → Kept (F p) (F (rebuilt (order_rules kept) p))
  ordered_follows kept = every node_step plan_step Loose Kept follows (order_rules kept) (orders kept)

  -- ---- rules that are handed over

  operand_is : (p : Plan) (a : Operand) → operand p ≡ Some a → F p ≡ M a.at (PlanNode-F.Select a.rules a.moment false)
  operand_is p a e = by_node node_step plan_step p ∙ by (out-PlanNode p.node) e
    where
      by : (y : PlanNode-F PlanNode Plan) → operand_at p.at y ≡ Some a → M p.at (folded node_step plan_step y) ≡ M a.at (PlanNode-F.Select a.rules a.moment false)
      by (PlanNode-F.Select rules moment false) e =
          let same : record { at = p.at; rules = rules; moment = moment } ≡ a = cc in
          ap (λ (o : Operand). M o.at (PlanNode-F.Select o.rules o.moment false)) same
      by (PlanNode-F.Select rules moment true) e = absurd (cc)
      by (PlanNode-F.Number value) e = absurd (cc)
      by PlanNode-F.Time e = absurd (cc)
      by (PlanNode-F.Range rules moment range) e = absurd (cc)
      by (PlanNode-F.Subquery inner range step moment) e = absurd (cc)
      by (PlanNode-F.Element f inner arguments) e = absurd (cc)
      by (PlanNode-F.Stamp inner) e = absurd (cc)
      by (PlanNode-F.Window f inner arguments) e = absurd (cc)
      by (PlanNode-F.Absent labels inner) e = absurd (cc)
      by (PlanNode-F.Buckets quantile inner) e = absurd (cc)
      by (PlanNode-F.Relabel rule inner) e = absurd (cc)
      by (PlanNode-F.Sort down inner) e = absurd (cc)
      by (PlanNode-F.ScalarOf inner) e = absurd (cc)
      by (PlanNode-F.VectorOf inner) e = absurd (cc)
      by (PlanNode-F.Group f grouping arguments label) e = absurd (cc)
      by (PlanNode-F.Pair op l r pairing) e = absurd (cc)
      by (PlanNode-F.Set op l r pairing) e = absurd (cc)
      by (PlanNode-F.Filter base rules) e = absurd (cc)
      by (PlanNode-F.Ratio sum count) e = absurd (cc)
      by (PlanNode-F.Once inner) e = absurd (cc)
      by (PlanNode-F.Gather expr kind engines) e = absurd (cc)

  module _ (at : ℕ) (op : ArithOp) (l r : Plan) (pairing : Pairing) where
    abbrev Stays : PlanNode → Type 0
    Stays n = Kept (F (planned at (roll-PlanNode (PlanNode-F.Pair (Arith op) l r pairing)))) (F (planned at n))

    -- what the fold makes of the operator between two sides
    abbrev between : B → B → B
    between x y = M at (PlanNode-F.Pair (Arith op) x y pairing)

    pair_stays : Stays (node.Pair (Arith op) l r pairing)
    pair_stays = becomes at (PlanNode-F.Pair (Arith op) l r pairing) _ _ (of-Pair node_step plan_step at (Arith op) l r pairing) (follows.itself _)

    both : (a b : Operand) (n : Bool) → operand l ≡ Some a → operand r ≡ Some b
        → Stays (pair_of (Arith op) l r pairing (cond n (Some (selecting a (with_rules_of a.rules b.rules), selecting b (with_rules_of b.rules a.rules))) None))
    both a b false is_a is_b = pair_stays
    both a b true is_a is_b =
        let more = with_rules_of a.rules b.rules in
        let other = with_rules_of b.rules a.rules in
        becomes at (PlanNode-F.Pair (Arith op) l r pairing) _ _ (of-Pair node_step plan_step at (Arith op) (selecting a more) (selecting b other) pairing)
        (kept_by Kept _ _ _ _ (ap₂ between (operand_is l a is_a) (operand_is r b is_b))
        (ap₂ between (of-Select node_step plan_step a.at more a.moment false) (of-Select node_step plan_step b.at other b.moment false))
        (follows.pair at (Arith op) a b more other pairing (handed_good Good a.rules b.rules) (handed_good Good b.rules a.rules)))

    sides : (x y : Option Operand) → operand l ≡ x → operand r ≡ y → Stays (pair_of (Arith op) l r pairing (handed_over x y))
    sides (Some a) (Some b) is_a is_b = both a b (names_metric a.rules && names_metric b.rules) is_a is_b
    sides (Some a) None is_a is_b = pair_stays
    sides None y is_a is_b = pair_stays

    handed_stays : (b : Bool) → Stays (pair_of (Arith op) l r pairing (cond b (handed_over (operand l) (operand r)) None))
    handed_stays true = sides (operand l) (operand r) refl refl
    handed_stays false = pair_stays

  hands : Keeps hand_rules
  hands at (PlanNode-F.Pair (Arith op) l r pairing) = handed_stays at op l r pairing (is_plain pairing)
  hands at (PlanNode-F.Pair (Filter c) l r pairing) = follows.itself _
  hands at (PlanNode-F.Pair (Flag c) l r pairing) = follows.itself _
  hands at (PlanNode-F.Number value) = follows.itself _
  hands at PlanNode-F.Time = follows.itself _
  hands at (PlanNode-F.Select rules moment stamped) = follows.itself _
  hands at (PlanNode-F.Range rules moment range) = follows.itself _
  hands at (PlanNode-F.Subquery inner range step moment) = follows.itself _
  hands at (PlanNode-F.Element f inner arguments) = follows.itself _
  hands at (PlanNode-F.Stamp inner) = follows.itself _
  hands at (PlanNode-F.Window f inner arguments) = follows.itself _
  hands at (PlanNode-F.Absent labels inner) = follows.itself _
  hands at (PlanNode-F.Buckets quantile inner) = follows.itself _
  hands at (PlanNode-F.Relabel rule inner) = follows.itself _
  hands at (PlanNode-F.Sort down inner) = follows.itself _
  hands at (PlanNode-F.ScalarOf inner) = follows.itself _
  hands at (PlanNode-F.VectorOf inner) = follows.itself _
  hands at (PlanNode-F.Group f grouping arguments label) = follows.itself _
  hands at (PlanNode-F.Set op l r pairing) = follows.itself _
  hands at (PlanNode-F.Filter base rules) = follows.itself _
  hands at (PlanNode-F.Ratio sum count) = follows.itself _
  hands at (PlanNode-F.Once inner) = follows.itself _
  hands at (PlanNode-F.Gather expr kind engines) = follows.itself _

  pub handed_follows : (p : Plan) → Kept (F p) (F (rebuilt hand_rules p))
  handed_follows = every node_step plan_step Loose Kept follows hand_rules hands

  -- ---- selectors that are merged

  select_stays : (at : ℕ) (rules : List Rule) (moment : Moment) (o : Option (List Rule)) → IsGoodBase Good o
      → Kept (F (planned at (roll-PlanNode (PlanNode-F.Select rules moment false)))) (F (planned at (over_base at (λ r. node.Select r moment false) rules o)))
  select_stays at rules moment None good = becomes at (PlanNode-F.Select rules moment false) _ _ (of-Select node_step plan_step at rules moment false) (follows.itself _)
  select_stays at rules moment (Some base) good =
      becomes at (PlanNode-F.Select rules moment false) _ _
      (of-Filter node_step plan_step at (planned at (node.Select base moment false)) (lacking base rules) ∙ ap (λ (b : B). M at (PlanNode-F.Filter b (lacking base rules))) (of-Select node_step plan_step at base moment false))
      (follows.filtered_select at rules base (lacking base rules) moment good (lacking_good Good base rules))

  range_stays : (at : ℕ) (rules : List Rule) (moment : Moment) (range : Ms) (o : Option (List Rule)) → IsGoodBase Good o
      → Kept (F (planned at (roll-PlanNode (PlanNode-F.Range rules moment range)))) (F (planned at (over_base at (λ r. node.Range r moment range) rules o)))
  range_stays at rules moment range None good = becomes at (PlanNode-F.Range rules moment range) _ _ (of-Range node_step plan_step at rules moment range) (follows.itself _)
  range_stays at rules moment range (Some base) good =
      becomes at (PlanNode-F.Range rules moment range) _ _
      (of-Filter node_step plan_step at (planned at (node.Range base moment range)) (lacking base rules) ∙ ap (λ (b : B). M at (PlanNode-F.Filter b (lacking base rules))) (of-Range node_step plan_step at base moment range))
      (follows.filtered_range at rules base (lacking base rules) moment range good (lacking_good Good base rules))

  merges : (p : Plan) → Each (selectors p) (λ f. AreGood Good f.rules) → Keeps (merge_selects (ordered (selectors p)))
  merges p good at (PlanNode-F.Select rules moment false) =
      select_stays at rules moment (base_among (ordered (selectors p)) rules moment None)
      (base_good Good p rules moment None good)
  merges p good at (PlanNode-F.Range rules moment range) =
      range_stays at rules moment range (base_among (ordered (selectors p)) rules moment (Some range))
      (base_good Good p rules moment (Some range) good)
  merges p good at (PlanNode-F.Select rules moment true) = follows.itself _
  merges p good at (PlanNode-F.Number value) = follows.itself _
  merges p good at PlanNode-F.Time = follows.itself _
  merges p good at (PlanNode-F.Subquery inner range step moment) = follows.itself _
  merges p good at (PlanNode-F.Element f inner arguments) = follows.itself _
  merges p good at (PlanNode-F.Stamp inner) = follows.itself _
  merges p good at (PlanNode-F.Window f inner arguments) = follows.itself _
  merges p good at (PlanNode-F.Absent labels inner) = follows.itself _
  merges p good at (PlanNode-F.Buckets quantile inner) = follows.itself _
  merges p good at (PlanNode-F.Relabel rule inner) = follows.itself _
  merges p good at (PlanNode-F.Sort down inner) = follows.itself _
  merges p good at (PlanNode-F.ScalarOf inner) = follows.itself _
  merges p good at (PlanNode-F.VectorOf inner) = follows.itself _
  merges p good at (PlanNode-F.Group f grouping arguments label) = follows.itself _
  merges p good at (PlanNode-F.Pair op l r pairing) = follows.itself _
  merges p good at (PlanNode-F.Set op l r pairing) = follows.itself _
  merges p good at (PlanNode-F.Filter base rules) = follows.itself _
  merges p good at (PlanNode-F.Ratio sum count) = follows.itself _
  merges p good at (PlanNode-F.Once inner) = follows.itself _
  merges p good at (PlanNode-F.Gather expr kind engines) = follows.itself _

  pub merged_follows : (p : Plan) → Each (selectors p) (λ f. AreGood Good f.rules) → Kept (F p) (F (rebuilt (merge_selects (ordered (selectors p))) p))
  merged_follows p good = every node_step plan_step Loose Kept follows (merge_selects (ordered (selectors p))) (merges p good) p

  -- ---- averages

  splits : Keeps split_average
  splits at (PlanNode-F.Group aggregate.Avg grouping arguments label) = one (nat_lt (deepest_of (map nested arguments)) most_nested)
    where
      one : (b : Bool) → Kept (F (planned at (roll-PlanNode (PlanNode-F.Group aggregate.Avg grouping arguments label))))
          (F (planned at (if b then node.Ratio (planned at (node.Group aggregate.Sum grouping arguments label)) (planned at (node.Group aggregate.Count grouping arguments label)) else node.Group aggregate.Avg grouping arguments label)))
      one false = becomes at (PlanNode-F.Group aggregate.Avg grouping arguments label) _ _ (of-Group node_step plan_step at aggregate.Avg grouping arguments label) (follows.itself _)
      one true =
          becomes at (PlanNode-F.Group aggregate.Avg grouping arguments label) _ _
          (of-Ratio node_step plan_step at (planned at (node.Group aggregate.Sum grouping arguments label)) (planned at (node.Group aggregate.Count grouping arguments label))
          ∙ ap₂ (λ (x y : B). M at (PlanNode-F.Ratio x y)) (of-Group node_step plan_step at aggregate.Sum grouping arguments label) (of-Group node_step plan_step at aggregate.Count grouping arguments label))
          (follows.ratio at grouping (map F arguments) label)
  splits at (PlanNode-F.Group aggregate.Sum grouping arguments label) = follows.itself _
  splits at (PlanNode-F.Group aggregate.Min grouping arguments label) = follows.itself _
  splits at (PlanNode-F.Group aggregate.Max grouping arguments label) = follows.itself _
  splits at (PlanNode-F.Group aggregate.Count grouping arguments label) = follows.itself _
  splits at (PlanNode-F.Group aggregate.Group grouping arguments label) = follows.itself _
  splits at (PlanNode-F.Group aggregate.Stdvar grouping arguments label) = follows.itself _
  splits at (PlanNode-F.Group aggregate.TopK grouping arguments label) = follows.itself _
  splits at (PlanNode-F.Group aggregate.BottomK grouping arguments label) = follows.itself _
  splits at (PlanNode-F.Group aggregate.Quantile grouping arguments label) = follows.itself _
  splits at (PlanNode-F.Group aggregate.CountValues grouping arguments label) = follows.itself _
  splits at (PlanNode-F.Number value) = follows.itself _
  splits at PlanNode-F.Time = follows.itself _
  splits at (PlanNode-F.Select rules moment stamped) = follows.itself _
  splits at (PlanNode-F.Range rules moment range) = follows.itself _
  splits at (PlanNode-F.Subquery inner range step moment) = follows.itself _
  splits at (PlanNode-F.Element f inner arguments) = follows.itself _
  splits at (PlanNode-F.Stamp inner) = follows.itself _
  splits at (PlanNode-F.Window f inner arguments) = follows.itself _
  splits at (PlanNode-F.Absent labels inner) = follows.itself _
  splits at (PlanNode-F.Buckets quantile inner) = follows.itself _
  splits at (PlanNode-F.Relabel rule inner) = follows.itself _
  splits at (PlanNode-F.Sort down inner) = follows.itself _
  splits at (PlanNode-F.ScalarOf inner) = follows.itself _
  splits at (PlanNode-F.VectorOf inner) = follows.itself _
  splits at (PlanNode-F.Pair op l r pairing) = follows.itself _
  splits at (PlanNode-F.Set op l r pairing) = follows.itself _
  splits at (PlanNode-F.Filter base rules) = follows.itself _
  splits at (PlanNode-F.Ratio sum count) = follows.itself _
  splits at (PlanNode-F.Once inner) = follows.itself _
  splits at (PlanNode-F.Gather expr kind engines) = follows.itself _

  pub split_follows : (p : Plan) → Kept (F p) (F (rebuilt split_average p))
  split_follows = every node_step plan_step Loose Kept follows split_average splits

  -- ---- filters that go into selectors

  module _ (pushes : Pushes A B node_step plan_step Kept) where
    module _ (at : ℕ) (base : Plan) (more : List Rule) where
      abbrev IsKept : PlanNode → Type 0
      IsKept n = Kept (F (planned at (roll-PlanNode (PlanNode-F.Filter base more)))) (F (planned at n))

      filter_kept : IsKept (node.Filter base more)
      filter_kept = becomes at (PlanNode-F.Filter base more) _ _ (of-Filter node_step plan_step at base more) (follows.itself _)

      -- the filter over a node that is known
      over : (y : PlanNode-F PlanNode Plan) → out-PlanNode base.node ≡ y → M at (PlanNode-F.Filter (F base) more) ≡ M at (PlanNode-F.Filter (M base.at (folded node_step plan_step y)) more)
      over y is =
          ap (λ (b : B). M at (PlanNode-F.Filter b more))
          (by_node node_step plan_step base ∙ ap (λ (z : PlanNode-F PlanNode Plan). M base.at (folded node_step plan_step z)) is)

      goes_into : (y : PlanNode-F PlanNode Plan) → out-PlanNode base.node ≡ y → IsKept (unwrap_or (selector_with more y) (node.Filter base more))
      goes_into (PlanNode-F.Select rules moment false) is =
          becomes at (PlanNode-F.Filter base more) _ _ (of-Select node_step plan_step at (rules ++ more) moment false)
          (kept_by Kept _ _ _ _ (over (PlanNode-F.Select rules moment false) is) refl (pushes.select at base.at rules more moment))
      goes_into (PlanNode-F.Range rules moment range) is =
          becomes at (PlanNode-F.Filter base more) _ _ (of-Range node_step plan_step at (rules ++ more) moment range)
          (kept_by Kept _ _ _ _ (over (PlanNode-F.Range rules moment range) is) refl (pushes.range at base.at rules more moment range))
      goes_into (PlanNode-F.Select rules moment true) is = filter_kept
      goes_into (PlanNode-F.Filter below rules) is = filter_kept
      goes_into (PlanNode-F.Number value) is = filter_kept
      goes_into PlanNode-F.Time is = filter_kept
      goes_into (PlanNode-F.Subquery inner range step moment) is = filter_kept
      goes_into (PlanNode-F.Element f inner arguments) is = filter_kept
      goes_into (PlanNode-F.Stamp inner) is = filter_kept
      goes_into (PlanNode-F.Window f inner arguments) is = filter_kept
      goes_into (PlanNode-F.Absent labels inner) is = filter_kept
      goes_into (PlanNode-F.Buckets quantile inner) is = filter_kept
      goes_into (PlanNode-F.Relabel rule inner) is = filter_kept
      goes_into (PlanNode-F.Sort down inner) is = filter_kept
      goes_into (PlanNode-F.ScalarOf inner) is = filter_kept
      goes_into (PlanNode-F.VectorOf inner) is = filter_kept
      goes_into (PlanNode-F.Group f grouping arguments label) is = filter_kept
      goes_into (PlanNode-F.Pair op l r pairing) is = filter_kept
      goes_into (PlanNode-F.Set op l r pairing) is = filter_kept
      goes_into (PlanNode-F.Ratio sum count) is = filter_kept
      goes_into (PlanNode-F.Once inner) is = filter_kept
      goes_into (PlanNode-F.Gather expr kind engines) is = filter_kept

    pushed : Keeps push_filter
    pushed at (PlanNode-F.Filter base more) = goes_into at base more (out-PlanNode base.node) refl
    pushed at (PlanNode-F.Select rules moment stamped) = follows.itself _
    pushed at (PlanNode-F.Range rules moment range) = follows.itself _
    pushed at (PlanNode-F.Number value) = follows.itself _
    pushed at PlanNode-F.Time = follows.itself _
    pushed at (PlanNode-F.Subquery inner range step moment) = follows.itself _
    pushed at (PlanNode-F.Element f inner arguments) = follows.itself _
    pushed at (PlanNode-F.Stamp inner) = follows.itself _
    pushed at (PlanNode-F.Window f inner arguments) = follows.itself _
    pushed at (PlanNode-F.Absent labels inner) = follows.itself _
    pushed at (PlanNode-F.Buckets quantile inner) = follows.itself _
    pushed at (PlanNode-F.Relabel rule inner) = follows.itself _
    pushed at (PlanNode-F.Sort down inner) = follows.itself _
    pushed at (PlanNode-F.ScalarOf inner) = follows.itself _
    pushed at (PlanNode-F.VectorOf inner) = follows.itself _
    pushed at (PlanNode-F.Group f grouping arguments label) = follows.itself _
    pushed at (PlanNode-F.Pair op l r pairing) = follows.itself _
    pushed at (PlanNode-F.Set op l r pairing) = follows.itself _
    pushed at (PlanNode-F.Ratio sum count) = follows.itself _
    pushed at (PlanNode-F.Once inner) = follows.itself _
    pushed at (PlanNode-F.Gather expr kind engines) = follows.itself _

    pub pushed_follows : (p : Plan) → Kept (F p) (F (rebuilt push_filter p))
    pushed_follows = every node_step plan_step Loose Kept follows push_filter pushed
