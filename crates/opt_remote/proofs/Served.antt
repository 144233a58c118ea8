-- Kernels serve a plan whose selectors became parts, and the numbers of all engines rise.
use Rattle.std.proofs.Common.{◌≡◌, ◌∙◌, ℕ, zero, suc, ◌+◌, List, [], ◌∷◌, ap, sym, subst, refl, Some, Bool, true, false, arith}
use Rattle.std.specs.Prelude.{◌&&◌, ◌||◌, ◌++◌, nat_lt, is_some, Option}
use Rattle.std.specs.List.{range_with_len}
use Rattle.std.proofs.lemmas.Bool.{lt-ltb}
use Rattle.func_table.specs.declared.table.Func.TheVariants as func
use Rattle.holders.specs.Joins.{both_of, front_of}
use Rattle.label_set.specs.declared.rules.Rule.{Rule}
use Rattle.match_rule.specs.Patterns.{HasItsPattern, HaveTheirPatterns}
use Rattle.promql_ast.specs.declared.tree.Expr.{Expr}
use Rattle.promql_ast.specs.declared.tree.Moment.{Moment}
use Rattle.promql_ast.specs.declared.tree.Node.{Node}
use Rattle.promql_ast.specs.declared.tree.Node.TheOpen.{Node-F}
use Rattle.promql_ast.specs.declared.tree.Node.TheViews.{out-Node, outs-Call, outs-Range, outs-Select}
use Rattle.promql_ast.specs.declared.tree.Selector.{Selector}
use Rattle.promql_type.specs.Replacements.{Kept}
use Rattle.step_table.specs.declared.cells.PartKind.{PartKind}
use Rattle.step_table.specs.declared.cells.PartKind.TheVariants as part
use Rattle.ticks.specs.declared.moment.Ms.{Ms}
use Rattle.logical_plan.specs.declared.nodes.PlanNode.TheOpen.{PlanNode-F}
use Rattle.logical_plan.specs.PlanRules.{selector_of}
use Rattle.plan_serving.specs.Asking.{RangeAsked, asked_range, asked_rules, asked_selector, is_range_part, is_rising, is_served_part, plain_selector, range_in, rules_in, rules_in_range, selector_in}
use Rattle.plan_serving.specs.Serving.{Serving, node_serving_over as node_serving}
use Rattle.plan_serving.specs.Stays.{AllStay, Stays, filter_stays, over_stays, plain_stays, relabel_stays, stays_itself, stays_on, window_stays}
use Rattle.opt_remote.specs.Laws.{AllEnginesRise, GatheredPlansAreServed, RisingEngines}
use Rattle.opt_remote.proofs.Ands.{and}
use Rattle.opt_remote.proofs.Follows.{Child, Follows, after_of, afters, before_of, befores, instant, ranged, timestamp}
use Rattle.opt_remote.proofs.Rebuilt.{every}

-- ---- numbers that rise

rises : (a n : ℕ) → is_rising (range_with_len a n) ≡ true
rises a zero = refl
rises a (suc zero) = refl
rises a (suc (suc n)) = and (nat_lt a (a + 1)) (is_rising (range_with_len (a + 1) (suc n))) (lt-ltb a (a + 1) (omega arith)) (rises (a + 1) (suc n))

pub all_rise : AllEnginesRise
all_rise count = rises 0 count

-- ---- what the parts are asked for

select_out : (at : ℕ) (rules : List Rule) (moment : Moment) → out-Node (instant at rules moment).node ≡ Node-F.Select (selector_of rules moment)
select_out at rules moment = rw outs-Select refl

call_out : (at within : ℕ) (rules : List Rule) (moment : Moment) → out-Node (timestamp at within rules moment).node ≡ Node-F.Call func.Timestamp (instant within rules moment ∷ [])
call_out at within rules moment = rw outs-Call refl

range_out : (at : ℕ) (rules : List Rule) (moment : Moment) (range : Ms) → out-Node (ranged at rules moment range).node ≡ Node-F.Range (selector_of rules moment) range
range_out at rules moment range = rw outs-Range refl

instant_asked : (at : ℕ) (rules : List Rule) (moment : Moment) → asked_selector part.Rows (instant at rules moment) ≡ Some (selector_of rules moment)
instant_asked at rules moment = ap (λ (y : Node-F Node Expr). selector_in y) (select_out at rules moment)

timestamp_asked : (at within : ℕ) (rules : List Rule) (moment : Moment) → asked_selector part.Rows (timestamp at within rules moment) ≡ Some (selector_of rules moment)
timestamp_asked at within rules moment =
    ap (λ (y : Node-F Node Expr). selector_in y) (call_out at within rules moment) ∙ ap (λ (y : Node-F Node Expr). plain_selector y) (select_out within rules moment)

range_asked : (at : ℕ) (rules : List Rule) (moment : Moment) (range : Ms) → asked_range part.Windows (ranged at rules moment range) ≡ Some (record { selector = selector_of rules moment; range = range })
range_asked at rules moment range = ap (λ (y : Node-F Node Expr). range_in y) (range_out at rules moment range)

module _ (kept : Kept) (engines : List ℕ) (rising : RisingEngines engines) where
  abbrev Good : Rule → Type 0
  Good rule = HasItsPattern kept rule.kind

  abbrev StaysSo : Serving → Serving → Type 0
  StaysSo = Stays kept

  abbrev C : Type 0
  C = Child Serving StaysSo

  all_stay : (cs : List C) → AllStay kept (befores cs) (afters cs)
  all_stay [] = tt
  all_stay (c ∷ cs) = (c.kept, all_stay cs)

  one : (c : C) → AllStay kept (c.before ∷ []) (c.after ∷ [])
  one c = (c.kept, tt)

  two : (c d : C) → AllStay kept (c.before ∷ d.before ∷ []) (c.after ∷ d.after ∷ [])
  two c d = (c.kept, (d.kept, tt))

  levels : (y : PlanNode-F Serving C) → StaysSo (node_serving (before_of y)) (node_serving (after_of y))
  levels (PlanNode-F.Number value) = stays_itself kept _
  levels PlanNode-F.Time = stays_itself kept _
  levels (PlanNode-F.Select rules moment stamped) = stays_itself kept _
  levels (PlanNode-F.Range rules moment range) = stays_itself kept _
  levels (PlanNode-F.Subquery c range step moment) = over_stays kept false true true false true true [] [] (c.before ∷ []) (c.after ∷ []) (λ e. e) (λ e. e) (λ e. e) (one c)
  levels (PlanNode-F.Element f c cs) = plain_stays kept (c.before ∷ befores cs) (c.after ∷ afters cs) (c.kept, all_stay cs)
  levels (PlanNode-F.Stamp c) = plain_stays kept (c.before ∷ []) (c.after ∷ []) (one c)
  levels (PlanNode-F.Window f c cs) = window_stays kept c.before c.after (befores cs) (afters cs) c.kept (all_stay cs)
  levels (PlanNode-F.Absent labels c) = plain_stays kept (c.before ∷ []) (c.after ∷ []) (one c)
  levels (PlanNode-F.Buckets c d) = plain_stays kept (c.before ∷ d.before ∷ []) (c.after ∷ d.after ∷ []) (two c d)
  levels (PlanNode-F.Relabel rule c) = relabel_stays kept rule c.before c.after c.kept
  levels (PlanNode-F.Sort down c) = plain_stays kept (c.before ∷ []) (c.after ∷ []) (one c)
  levels (PlanNode-F.ScalarOf c) = plain_stays kept (c.before ∷ []) (c.after ∷ []) (one c)
  levels (PlanNode-F.VectorOf c) = plain_stays kept (c.before ∷ []) (c.after ∷ []) (one c)
  levels (PlanNode-F.Group f grouping cs label) = plain_stays kept (befores cs) (afters cs) (all_stay cs)
  levels (PlanNode-F.Pair op c d pairing) = plain_stays kept (c.before ∷ d.before ∷ []) (c.after ∷ d.after ∷ []) (two c d)
  levels (PlanNode-F.Set op c d pairing) = plain_stays kept (c.before ∷ d.before ∷ []) (c.after ∷ d.after ∷ []) (two c d)
  levels (PlanNode-F.Filter c rules) = filter_stays kept rules c.before c.after c.kept
  levels (PlanNode-F.Ratio c d) = plain_stays kept (c.before ∷ d.before ∷ []) (c.after ∷ d.after ∷ []) (two c d)
  levels (PlanNode-F.Once c) = plain_stays kept (c.before ∷ []) (c.after ∷ []) (one c)
  levels (PlanNode-F.Gather expr kind numbers) = stays_itself kept _

  -- ---- parts

  -- what gives no points stays so as a part that is served and has no other rules
  part_stays : (before : Serving) (e : Expr) (kind : PartKind) → is_served_part kind e ≡ true → (before.ranges ≡ true → is_range_part kind e ≡ true) → (before.points ≡ true → false ≡ true)
      → (HaveTheirPatterns kept before.rules → HaveTheirPatterns kept (asked_rules kind e)) → StaysSo before (node_serving {A = Serving} (PlanNode-F.Gather e kind engines))
  part_stays before e kind is ranges points rules = record {
    ranges = ranges;
    points = points;
    served = λ s. and (is_served_part kind e && is_rising engines) true (and (is_served_part kind e) (is_rising engines) is rising) refl;
    rules = λ h. both_of Good (asked_rules kind e) [] (rules h) tt;
    patterns = λ h. tt;
  }

  rows_served : (e : Expr) (s : Selector) → asked_selector part.Rows e ≡ Some s → is_served_part part.Rows e ≡ true
  rows_served e s is = ap (λ (o : Option Selector). is_some o || false) is

  rows_kept : (e : Expr) (s : Selector) → asked_selector part.Rows e ≡ Some s → HaveTheirPatterns kept s.rules → HaveTheirPatterns kept (asked_rules part.Rows e)
  rows_kept e s is h = subst (λ (o : Option Selector). HaveTheirPatterns kept (rules_in o)) (sym is) h

  windows_kept : (e : Expr) (r : RangeAsked) → asked_range part.Windows e ≡ Some r → HaveTheirPatterns kept r.selector.rules → HaveTheirPatterns kept (asked_rules part.Windows e)
  windows_kept e r is h = subst (λ (o : Option RangeAsked). HaveTheirPatterns kept (rules_in_range o)) (sym is) h

  servings_follow : Follows Serving Serving node_serving (λ p. p.node) StaysSo engines
  servings_follow = record {
    itself = stays_itself kept;
    joined = stays_on kept;
    levels = λ at y. levels y;
    rows = λ at rules moment.
        let is = instant_asked at rules moment in
        part_stays (node_serving {A = Serving} (PlanNode-F.Select rules moment false)) (instant at rules moment) part.Rows (rows_served (instant at rules moment) _ is) (λ e. absurd (cc)) (λ e. e) (λ h. rows_kept (instant at rules moment) _ is (front_of Good rules [] h));
    times = λ at within rules moment.
        let is = timestamp_asked at within rules moment in
        part_stays (node_serving {A = Serving} (PlanNode-F.Stamp (node_serving {A = Serving} (PlanNode-F.Select rules moment true)))) (timestamp at within rules moment) part.Rows (rows_served (timestamp at within rules moment) _ is) (λ e. absurd (cc)) (λ e. e)
        (λ h. rows_kept (timestamp at within rules moment) _ is (front_of Good rules [] (front_of Good (rules ++ []) [] h)));
    windows = λ at rules moment range.
        let is = range_asked at rules moment range in
        let there : is_range_part part.Windows (ranged at rules moment range) ≡ true = ap (λ (o : Option RangeAsked). is_some o) is in
        part_stays (node_serving {A = Serving} (PlanNode-F.Range rules moment range)) (ranged at rules moment range) part.Windows there (λ e. there) (λ e. e) (λ h. windows_kept (ranged at rules moment range) _ is (front_of Good rules [] h));
    onces = λ at within rules moment. record { ranges = λ e. e; points = λ e. e; served = λ e. refl; rules = λ h. front_of Good (rules ++ []) [] h; patterns = λ h. h };
  }

-- ---- the law

pub gathered_served : GatheredPlansAreServed
gathered_served engines kept rising patterns p is =
    let s = every node_serving (λ p. p.node) (Stays patterns) engines (servings_follow patterns engines rising) kept p in
    record { windows = s.served is.windows; rules = s.rules is.rules; patterns = s.patterns is.patterns }
