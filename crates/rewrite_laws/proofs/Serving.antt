-- Kernels serve a plan that they served still under each rewrite.
use Rattle.std.proofs.Common.{ℕ, List, [], ◌∷◌, ◌++◌, map, refl, Bool, true, false}
use Rattle.std.specs.Prelude.{◌&&◌}
use Rattle.func_table.specs.declared.table.Aggregate.TheVariants as aggregate
use Rattle.holders.specs.Joins.{back_of, both_of, front_of}
use Rattle.label_set.specs.declared.rules.Grouping.{Grouping}
use Rattle.label_set.specs.declared.rules.Pairing.{Pairing}
use Rattle.label_set.specs.declared.rules.Rule.{Rule}
use Rattle.match_rule.specs.Patterns.{HasItsPattern}
use Rattle.promql_ast.specs.declared.tree.Moment.{Moment}
use Rattle.promql_type.specs.Replacements.{Kept as Patterns}
use Rattle.ticks.specs.declared.moment.Ms.{Ms}
use Rattle.xfrac.specs.declared.value.PairOp.{PairOp}
use Rattle.logical_plan.specs.declared.nodes.Plan.{Plan}
use Rattle.logical_plan.specs.declared.nodes.PlanNode.TheOpen.{PlanNode-F}
use Rattle.plan_serving.specs.Serving.{IsServed, Serving, all_patterns, all_rules, are_served, node_serving, serving}
use Rattle.plan_serving.specs.Stays.{AllStay, IsPattern, Stays, filter_stays, over_stays, plain_stays, relabel_stays, stays_itself, stays_on, window_stays}
use Rattle.plan_rewrite.specs.Rebuilding.{rebuilt}
use Rattle.opt_matchers.specs.Handing.{Operand, hand_rules}
use Rattle.opt_matchers.specs.RuleOrder.{order_rules}
use Rattle.opt_pushdown.specs.Pushing.{push_filter}
use Rattle.opt_selects.specs.Bases.{merge_selects}
use Rattle.opt_selects.specs.Selectors.{all_selectors, node_selectors, ordered, selectors}
use Rattle.opt_selects.specs.Trimming.{trim}
use Rattle.opt_split_avg.specs.Averages.{split_average}
use Rattle.rewrite_laws.specs.Keeping.{KeepsServing}
use Rattle.rewrite_laws.proofs.Ands.{and, left}
use Rattle.rewrite_laws.proofs.Follows.{AreGood, Child, Follows, Pushes, after_of, bares, before_of, befores, side_of}
use Rattle.rewrite_laws.proofs.Rules.{Each}
use Rattle.rewrite_laws.proofs.Selected.{Layer, Told, every, layer_found, layer_served}
use Rattle.rewrite_laws.proofs.Singles.{handed_follows, merged_follows, ordered_follows, pushed_follows, split_follows}
use Rattle.rewrite_laws.proofs.Trimmed.{trimmed_follows}

joined : {X : Type 0} (xs ys : List X) (P : X → Type 0) → Each xs P → Each ys P → Each (xs ++ ys) P
joined xs ys P = both_of P xs ys

module _ (kept : Patterns) where
  abbrev Good : Rule → Type 0
  Good rule = HasItsPattern kept rule.kind

  abbrev StaysSo : Serving → Serving → Type 0
  StaysSo = Stays kept

  abbrev C : Type 0
  C = Child Serving StaysSo StaysSo

  all_stay : (cs : List C) → AllStay kept (befores cs) (bares cs)
  all_stay [] = tt
  all_stay (c ∷ cs) = (c.loose, all_stay cs)

  levels : (y : PlanNode-F Serving C) → StaysSo (node_serving (before_of y)) (node_serving (after_of y))
  levels (PlanNode-F.Number value) = stays_itself kept _
  levels PlanNode-F.Time = stays_itself kept _
  levels (PlanNode-F.Select rules moment stamped) = stays_itself kept _
  levels (PlanNode-F.Range rules moment range) = stays_itself kept _
  levels (PlanNode-F.Subquery c range step moment) = over_stays kept false true true false true true [] [] (c.before ∷ []) (c.bare ∷ []) (λ e. e) (λ e. e) (λ e. e) (c.loose, tt)
  levels (PlanNode-F.Element f c cs) = plain_stays kept (c.before ∷ befores cs) (c.bare ∷ bares cs) ((c.loose, all_stay cs))
  levels (PlanNode-F.Stamp c) = plain_stays kept (c.before ∷ []) (c.whole ∷ []) ((c.kept, tt))
  levels (PlanNode-F.Window f c cs) = window_stays kept c.before c.bare (befores cs) (bares cs) c.loose (all_stay cs)
  levels (PlanNode-F.Absent labels c) = plain_stays kept (c.before ∷ []) (c.bare ∷ []) ((c.loose, tt))
  levels (PlanNode-F.Buckets c d) = plain_stays kept (c.before ∷ d.before ∷ []) (c.bare ∷ d.bare ∷ []) ((c.loose, (d.loose, tt)))
  levels (PlanNode-F.Relabel rule c) = relabel_stays kept rule c.before c.bare c.loose
  levels (PlanNode-F.Sort down c) = plain_stays kept (c.before ∷ []) (c.bare ∷ []) ((c.loose, tt))
  levels (PlanNode-F.ScalarOf c) = plain_stays kept (c.before ∷ []) (c.bare ∷ []) ((c.loose, tt))
  levels (PlanNode-F.VectorOf c) = plain_stays kept (c.before ∷ []) (c.bare ∷ []) ((c.loose, tt))
  levels (PlanNode-F.Group f grouping cs label) = plain_stays kept (befores cs) (bares cs) (all_stay cs)
  levels (PlanNode-F.Pair op c d pairing) = plain_stays kept (c.before ∷ d.before ∷ []) (c.bare ∷ d.bare ∷ []) ((c.loose, (d.loose, tt)))
  levels (PlanNode-F.Set op c d pairing) = plain_stays kept (c.before ∷ d.before ∷ []) (c.bare ∷ d.bare ∷ []) ((c.loose, (d.loose, tt)))
  levels (PlanNode-F.Filter c rules) = filter_stays kept rules c.before c.bare c.loose
  levels (PlanNode-F.Ratio c d) = plain_stays kept (c.before ∷ d.before ∷ []) (c.bare ∷ d.bare ∷ []) ((c.loose, (d.loose, tt)))
  levels (PlanNode-F.Once c) = plain_stays kept (c.before ∷ []) (c.whole ∷ []) ((c.kept, tt))
  levels (PlanNode-F.Gather expr kind engines) = stays_itself kept _

  -- selectors of other rules
  select_stays : (rules more : List Rule) (moment : Moment) (stamped : Bool) → (AreGood Good rules → AreGood Good more)
      → StaysSo (node_serving {A = Serving} (PlanNode-F.Select rules moment stamped)) (node_serving {A = Serving} (PlanNode-F.Select more moment stamped))
  select_stays rules more moment stamped good =
      record { ranges = λ e. e; points = λ e. e; served = λ e. e; rules = λ h. both_of Good more [] (good (front_of Good rules [] h)) tt; patterns = λ h. h }

  range_stays : (rules more : List Rule) (moment : Moment) (length : Ms) → (AreGood Good rules → AreGood Good more)
      → StaysSo (node_serving {A = Serving} (PlanNode-F.Range rules moment length)) (node_serving {A = Serving} (PlanNode-F.Range more moment length))
  range_stays rules more moment length good =
      record { ranges = λ e. e; points = λ e. e; served = λ e. e; rules = λ h. both_of Good more [] (good (front_of Good rules [] h)) tt; patterns = λ h. h }

  over_base : (rules base more : List Rule) → AreGood Good base → (AreGood Good rules → AreGood Good more) → AreGood Good (rules ++ []) → AreGood Good (more ++ ((base ++ []) ++ []))
  over_base rules base more good_base good h =
      both_of Good more ((base ++ []) ++ []) (good (front_of Good rules [] h)) (both_of Good (base ++ []) [] (both_of Good base [] good_base tt) tt)

  filtered_select : (rules base more : List Rule) (moment : Moment) → AreGood Good base → (AreGood Good rules → AreGood Good more)
      → StaysSo (node_serving {A = Serving} (PlanNode-F.Select rules moment false)) (node_serving {A = Serving} (PlanNode-F.Filter (node_serving {A = Serving} (PlanNode-F.Select base moment false)) more))
  filtered_select rules base more moment good_base good =
      record { ranges = λ e. e; points = λ e. e; served = λ e. refl; rules = over_base rules base more good_base good; patterns = λ h. h }

  filtered_range : (rules base more : List Rule) (moment : Moment) (length : Ms) → AreGood Good base → (AreGood Good rules → AreGood Good more)
      → StaysSo (node_serving {A = Serving} (PlanNode-F.Range rules moment length))
      (node_serving {A = Serving} (PlanNode-F.Filter (node_serving {A = Serving} (PlanNode-F.Range base moment length)) more))
  filtered_range rules base more moment length good_base good =
      record { ranges = λ e. refl; points = λ e. e; served = λ e. refl; rules = over_base rules base more good_base good; patterns = λ h. h }

  -- two selectors, each with rules of both
  abbrev beside : List Rule → List Rule → List Rule
  beside l r = (l ++ []) ++ ((r ++ []) ++ [])

  left_good : (l r : List Rule) → AreGood Good (beside l r) → AreGood Good l
  left_good l r h = front_of Good l [] (front_of Good (l ++ []) ((r ++ []) ++ []) h)

  right_good : (l r : List Rule) → AreGood Good (beside l r) → AreGood Good r
  right_good l r h = front_of Good r [] (front_of Good (r ++ []) [] (back_of Good (l ++ []) ((r ++ []) ++ []) h))

  both_good : (l r : List Rule) → AreGood Good l → AreGood Good r → AreGood Good (beside l r)
  both_good l r g h = both_of Good (l ++ []) ((r ++ []) ++ []) (both_of Good l [] g tt) (both_of Good (r ++ []) [] (both_of Good r [] h tt) tt)

  pair_stays : (op : PairOp) (a b : Operand) (more other : List Rule) (pairing : Pairing) → (AreGood Good a.rules → AreGood Good b.rules → AreGood Good more)
      → (AreGood Good b.rules → AreGood Good a.rules → AreGood Good other)
      → StaysSo (node_serving {A = Serving} (PlanNode-F.Pair op (side_of node_serving (λ p. p.node) a a.rules) (side_of node_serving (λ p. p.node) b b.rules) pairing))
      (node_serving {A = Serving} (PlanNode-F.Pair op (side_of node_serving (λ p. p.node) a more) (side_of node_serving (λ p. p.node) b other) pairing))
  pair_stays op a b more other pairing good_left good_right = record {
    ranges = λ e. e;
    points = λ e. e;
    served = λ e. e;
    rules = λ h.
        both_good more other (good_left (left_good a.rules b.rules h) (right_good a.rules b.rules h)) (good_right (right_good a.rules b.rules h) (left_good a.rules b.rules h));
    patterns = λ h. h;
  }

  -- a sum divided by a count has what its average has, twice
  ratio_stays : (grouping : Grouping) (ss : List Serving) (label : List ℕ)
      → StaysSo (node_serving {A = Serving} (PlanNode-F.Group aggregate.Avg grouping ss label))
      (node_serving {A = Serving}
      (PlanNode-F.Ratio (node_serving {A = Serving} (PlanNode-F.Group aggregate.Sum grouping ss label)) (node_serving {A = Serving} (PlanNode-F.Group aggregate.Count grouping ss label))))
  ratio_stays grouping ss label = record {
    ranges = λ e. e;
    points = λ e. e;
    served = λ e. and (are_served ss) (are_served ss && true) e (and (are_served ss) true e refl);
    rules = λ h. both_of Good (all_rules ss) (all_rules ss ++ []) h (both_of Good (all_rules ss) [] h tt);
    patterns = λ h. both_of (IsPattern kept) (all_patterns ss) (all_patterns ss ++ []) h (both_of (IsPattern kept) (all_patterns ss) [] h tt);
  }

  bare_sort_stays : (down : Bool) (c : C) → StaysSo (node_serving {A = Serving} (PlanNode-F.Sort down c.before)) c.bare
  bare_sort_stays down c = record {
    ranges = λ e. absurd (cc);
    points = λ e. absurd (cc);
    served = λ e. c.loose.served (left c.before.served true e);
    rules = λ h. c.loose.rules (front_of Good c.before.rules [] h);
    patterns = λ h. c.loose.patterns (front_of (IsPattern kept) c.before.patterns [] h);
  }

  servings_follow : Follows Serving Serving node_serving (λ p. p.node) Good StaysSo StaysSo
  servings_follow = record {
    itself = stays_itself kept;
    joined = stays_on kept;
    loosely = λ a b k. k;
    levels = λ at y. levels y;
    select = λ at rules more moment stamped good. select_stays rules more moment stamped good;
    range = λ at rules more moment length good. range_stays rules more moment length good;
    filtered_select = λ at rules base more moment good_base good. filtered_select rules base more moment good_base good;
    filtered_range = λ at rules base more moment length good_base good. filtered_range rules base more moment length good_base good;
    pair = λ at op a b more other pairing good_left good_right. pair_stays op a b more other pairing good_left good_right;
    ratio = λ at grouping ss label. ratio_stays grouping ss label;
    bare_sort = λ at down c. bare_sort_stays down c;
    bare_once = λ at c. plain_stays kept (c.before ∷ []) (c.bare ∷ []) (c.loose, tt);
  }

  -- the rules of a filter and of the selector below it
  together : (rules more : List Rule) → AreGood Good (more ++ ((rules ++ []) ++ [])) → AreGood Good ((rules ++ more) ++ [])
  together rules more h =
      both_of Good (rules ++ more) []
      (both_of Good rules more (front_of Good rules [] (front_of Good (rules ++ []) [] (back_of Good more ((rules ++ []) ++ []) h))) (front_of Good more ((rules ++ []) ++ []) h)) tt

  servings_push : Pushes Serving Serving node_serving (λ p. p.node) StaysSo
  servings_push = record {
    select = λ at below rules more moment. record { ranges = λ e. e; points = λ e. e; served = λ e. refl; rules = together rules more; patterns = λ h. h };
    range = λ at below rules more moment length. record { ranges = λ e. refl; points = λ e. e; served = λ e. refl; rules = together rules more; patterns = λ h. h };
  }

  -- ---- the rules of a plan's selectors are among its rules

  abbrev Part : Type 0
  Part = Told Good node_selectors (λ f. f.rules)

  abbrev PlanLayer : Type 0
  PlanLayer = Layer Good node_selectors (λ f. f.rules)

  abbrev plans_of : List Part → List Plan
  plans_of ps = map (λ (p : Part). p.0) ps

  of_all : (ps : List Part) → AreGood Good (all_rules (map serving (plans_of ps))) → Each (all_selectors (map selectors (plans_of ps))) (λ f. AreGood Good f.rules)
  of_all [] h = tt
  of_all (p ∷ ps) h =
      let rest = all_rules (map serving (plans_of ps)) in
      joined (selectors p.0) (all_selectors (map selectors (plans_of ps))) (λ f. AreGood Good f.rules) (p.1 (front_of Good (serving p.0).rules rest h)) (of_all ps (back_of Good (serving p.0).rules rest h))

  of_one : (p : Part) → AreGood Good ((serving p.0).rules ++ []) → Each (selectors p.0) (λ f. AreGood Good f.rules)
  of_one p h = p.1 (front_of Good (serving p.0).rules [] h)

  of_two : (p q : Part) → AreGood Good ((serving p.0).rules ++ ((serving q.0).rules ++ [])) → Each (selectors p.0 ++ selectors q.0) (λ f. AreGood Good f.rules)
  of_two p q h =
      let rest = (serving q.0).rules ++ [] in
      joined (selectors p.0) (selectors q.0) (λ f. AreGood Good f.rules) (p.1 (front_of Good (serving p.0).rules rest h)) (of_one q (back_of Good (serving p.0).rules rest h))

  level : (y : PlanLayer) (at : ℕ) → AreGood Good (node_serving (layer_served Good node_selectors (λ f. f.rules) y)).rules
      → Each (node_selectors (layer_found Good node_selectors (λ f. f.rules) y) at) (λ f. AreGood Good f.rules)
  level (PlanNode-F.Number value) at h = tt
  level PlanNode-F.Time at h = tt
  level (PlanNode-F.Select rules moment true) at h = tt
  level (PlanNode-F.Select rules moment false) at h = (front_of Good rules [] h, tt)
  level (PlanNode-F.Range rules moment range) at h = (front_of Good rules [] h, tt)
  level (PlanNode-F.Subquery c range step moment) at h = of_one c h
  level (PlanNode-F.Element f c cs) at h = of_all (c ∷ cs) h
  level (PlanNode-F.Stamp c) at h = of_one c h
  level (PlanNode-F.Window f c cs) at h = of_all (c ∷ cs) h
  level (PlanNode-F.Absent labels c) at h = of_one c h
  level (PlanNode-F.Buckets c d) at h = of_two c d h
  level (PlanNode-F.Relabel rule c) at h = of_one c h
  level (PlanNode-F.Sort down c) at h = of_one c h
  level (PlanNode-F.ScalarOf c) at h = of_one c h
  level (PlanNode-F.VectorOf c) at h = of_one c h
  level (PlanNode-F.Group f grouping cs label) at h = of_all cs h
  level (PlanNode-F.Pair op c d pairing) at h = of_two c d h
  level (PlanNode-F.Set op c d pairing) at h = of_two c d h
  level (PlanNode-F.Filter c rules) at h = of_one c (back_of Good rules ((serving c.0).rules ++ []) h)
  level (PlanNode-F.Ratio c d) at h = of_two c d h
  level (PlanNode-F.Once c) at h = of_one c h
  level (PlanNode-F.Gather expr kind engines) at h = tt

  selectors_good : (p : Plan) → AreGood Good (serving p).rules → Each (selectors p) (λ f. AreGood Good f.rules)
  selectors_good = every Good node_selectors (λ f. f.rules) level

  served_by : (p q : Plan) → StaysSo (serving p) (serving q) → IsServed kept p → IsServed kept q
  served_by p q s is = record { windows = s.served is.windows; rules = s.rules is.rules; patterns = s.patterns is.patterns }

-- ---- each rewrite

pub ordered_served : (order : List (Bool × List ℕ)) → KeepsServing (rebuilt (order_rules order))
ordered_served order kept p = served_by kept p _ (ordered_follows node_serving (λ p. p.node) (Stays kept) (Stays kept) (servings_follow kept) order p)

pub handed_served : KeepsServing (rebuilt hand_rules)
handed_served kept p = served_by kept p _ (handed_follows node_serving (λ p. p.node) (Stays kept) (Stays kept) (servings_follow kept) p)

pub merged_served : KeepsServing (λ p. rebuilt (merge_selects (ordered (selectors p))) p)
merged_served kept p is =
    served_by kept p _ (merged_follows node_serving (λ p. p.node) (Stays kept) (Stays kept) (servings_follow kept) p (selectors_good kept p is.rules)) is

pub trimmed_served : KeepsServing trim
trimmed_served kept p = served_by kept p _ (trimmed_follows node_serving (λ p. p.node) (Stays kept) (Stays kept) (servings_follow kept) p)

pub split_served : KeepsServing (rebuilt split_average)
split_served kept p = served_by kept p _ (split_follows node_serving (λ p. p.node) (Stays kept) (Stays kept) (servings_follow kept) p)

pub pushed_served : KeepsServing (rebuilt push_filter)
pushed_served kept p = served_by kept p _ (pushed_follows node_serving (λ p. p.node) (Stays kept) (Stays kept) (servings_follow kept) (servings_push kept) p)
