-- A plan whose selectors became parts stays valid.
use Rattle.std.proofs.Common.{◌≡◌, ◌∙◌, ◌≤◌, ◌⊎◌, inl, inr, ℕ, ◌+◌, ◌*◌, List, [], ◌∷◌, ◌++◌, map, refl, ap, subst, sym, true, arith}
use Rattle.std.specs.Prelude.{not, nat_lt, Contains, ⊤}
use Rattle.std.proofs.lemmas.List.Elements.{Contains-append_cases, Contains-append_left, Contains-append_right}
use Rattle.func_table.specs.declared.table.Func.TheVariants as func
use Rattle.holders.specs.Joins.{back_of, both_of, front_of}
use Rattle.label_set.specs.declared.rules.PatternId.{PatternId}
use Rattle.label_set.specs.declared.rules.Relabel.{Relabel as Relabelling}
use Rattle.label_set.specs.declared.rules.Relabel.TheVariants as relabel
use Rattle.label_set.specs.declared.rules.Rule.{Rule}
use Rattle.promql_ast.specs.Depth.{depth, greatest, node_depth}
use Rattle.promql_ast.specs.Folds.{fold-Call, fold-Range, fold-Select}
use Rattle.promql_ast.specs.Parts.{AreWithin, IsWithin, Part, node_parts, parts_of}
use Rattle.promql_ast.specs.declared.refusal.QueryRefusal.{QueryRefusal}
use Rattle.promql_ast.specs.declared.tree.Expr.{Expr}
use Rattle.promql_ast.specs.declared.tree.Moment.{Moment}
use Rattle.promql_ast.specs.declared.tree.Node.TheOpen.{Node-F}
use Rattle.promql_type.specs.Points.{crowded, crowded_expr, crowded_step, most_points, points}
use Rattle.step_table.specs.declared.cells.PartKind.{PartKind}
use Rattle.step_table.specs.declared.cells.PartKind.TheVariants as part
use Rattle.ticks.specs.declared.moment.Ms.{Ms}
use Rattle.logical_plan.specs.declared.nodes.Plan.{Plan}
use Rattle.logical_plan.specs.declared.nodes.PlanNode.TheOpen.{PlanNode-F}
use Rattle.logical_plan.specs.PlanRules.{selector_of}
use Rattle.logical_plan.specs.PlanTypes.{IsTyped, has_none}
use Rattle.logical_plan.specs.Validity.{IsValid, Measure, all_parts, all_replaced, are_few, measured, node_measure}
use Rattle.opt_remote.specs.Laws.{StaysTyped, ValidityIsKept}
use Rattle.opt_remote.proofs.Ands.{and, left, right}
use Rattle.opt_remote.proofs.Follows.{Child, Follows, after_of, afters, before_of, befores, instant, ranged, timestamp}
use Rattle.opt_remote.proofs.Rebuilt.{every}
use Rattle.opt_remote.proofs.Types.{instant_crowded, timestamp_crowded, types_are_kept}

abbrev Replaced : Type 0
Replaced = List (ℕ × PatternId)

-- ---- what the expressions of selectors have

module _ (at : ℕ) (rules : List Rule) (moment : Moment) where
  abbrev own_parts : List Part
  own_parts = Part.of_rules rules ∷ Part.of_moment moment ∷ []

  instant_parts : parts_of (instant at rules moment) ≡ own_parts
  instant_parts = fold-Select node_parts (λ e. e.node) (instant at rules moment) (selector_of rules moment) refl

  instant_depth : depth (instant at rules moment) ≡ 1
  instant_depth = fold-Select node_depth (λ e. e.node) (instant at rules moment) (selector_of rules moment) refl

module _ (at within : ℕ) (rules : List Rule) (moment : Moment) where
  timestamp_parts : parts_of (timestamp at within rules moment) ≡ own_parts within rules moment ++ []
  timestamp_parts =
      fold-Call node_parts (λ e. e.node) (timestamp at within rules moment) func.Timestamp (instant within rules moment ∷ []) refl
      ∙ ap (λ (parts : List Part). parts ++ []) (instant_parts within rules moment)

  timestamp_depth : depth (timestamp at within rules moment) ≡ 1 + greatest (1 ∷ [])
  timestamp_depth =
      fold-Call node_depth (λ e. e.node) (timestamp at within rules moment) func.Timestamp (instant within rules moment ∷ []) refl
      ∙ ap (λ (n : ℕ). 1 + greatest (n ∷ [])) (instant_depth within rules moment)

module _ (at : ℕ) (rules : List Rule) (moment : Moment) (range : Ms) where
  range_parts : parts_of (ranged at rules moment range) ≡ Part.of_rules rules ∷ Part.of_moment moment ∷ Part.of_length range ∷ []
  range_parts = fold-Range node_parts (λ e. e.node) (ranged at rules moment range) (selector_of rules moment) range refl

  range_depth : depth (ranged at rules moment range) ≡ 1
  range_depth = fold-Range node_depth (λ e. e.node) (ranged at rules moment range) (selector_of rules moment) range refl

  range_crowded : crowded (ranged at rules moment range) ≡ crowded_step (Node-F.Range (selector_of rules moment) range) at
  range_crowded = fold-Range crowded_step crowded_expr (ranged at rules moment range) (selector_of rules moment) range refl

-- ---- the measure of a plan

module _ (longest latest : ℕ) where
  abbrev Within : List Part → Type 0
  Within parts = AreWithin (λ rules. ⊤) longest latest parts

  abbrev Fits : Part → Type 0
  Fits = IsWithin (λ rules. ⊤) longest latest

  -- what is within the limits stays so, no pattern is new, and no plan is deeper
  record Covers (before after : Measure) : Type 0 where
    within : Within before.parts → Within after.parts
    replaced : (r : ℕ × PatternId) → Contains after.replaced r → Contains before.replaced r
    few : (around : ℕ) → before.few around ≡ true → after.few around ≡ true
    shallow : after.depth ≤ before.depth

  abbrev C : Type 0
  C = Child Measure Covers

  itself : (m : Measure) → Covers m m
  itself m = record { within = λ w. w; replaced = λ r c. c; few = λ around f. f; shallow = omega arith }

  joined : (a b c : Measure) → Covers a b → Covers b c → Covers a c
  joined a b c f g = record {
    within = λ w. g.within (f.within w);
    replaced = λ r k. f.replaced r (g.replaced r k);
    few = λ around e. g.few around (f.few around e);
    shallow = omega (arith, f.shallow, g.shallow);
  }

  -- ---- lists of children

  abbrev depths : List Measure → List ℕ
  depths ms = map (λ (m : Measure). m.depth) ms

  all_within : (cs : List C) → Within (all_parts (befores cs)) → Within (all_parts (afters cs))
  all_within [] w = tt
  all_within (c ∷ cs) w =
      both_of Fits c.after.parts (all_parts (afters cs)) (c.kept.within (front_of Fits c.before.parts (all_parts (befores cs)) w))
      (all_within cs (back_of Fits c.before.parts (all_parts (befores cs)) w))

  parts_within : (own : List Part) (cs : List C) → Within (own ++ all_parts (befores cs)) → Within (own ++ all_parts (afters cs))
  parts_within own cs w = both_of Fits own (all_parts (afters cs)) (front_of Fits own (all_parts (befores cs)) w) (all_within cs (back_of Fits own (all_parts (befores cs)) w))

  all_there : (cs : List C) (r : ℕ × PatternId) → Contains (all_replaced (afters cs)) r → Contains (all_replaced (befores cs)) r
  all_there [] r k = k
  all_there (c ∷ cs) r k = by (Contains-append_cases c.after.replaced (all_replaced (afters cs)) r k) (all_there cs r)
    where
      by : Contains c.after.replaced r ⊎ Contains (all_replaced (afters cs)) r → (Contains (all_replaced (afters cs)) r → Contains (all_replaced (befores cs)) r) → Contains (c.before.replaced ++ all_replaced (befores cs)) r
      by (inl k) rest = Contains-append_left c.before.replaced (all_replaced (befores cs)) r (c.kept.replaced r k)
      by (inr k) rest = Contains-append_right c.before.replaced (all_replaced (befores cs)) r (rest k)

  own_there : (own : Replaced) (cs : List C) (r : ℕ × PatternId) → Contains (own ++ all_replaced (afters cs)) r → Contains (own ++ all_replaced (befores cs)) r
  own_there own cs r k = by (Contains-append_cases own (all_replaced (afters cs)) r k)
    where
      by : Contains own r ⊎ Contains (all_replaced (afters cs)) r → Contains (own ++ all_replaced (befores cs)) r
      by (inl k) = Contains-append_left own (all_replaced (befores cs)) r k
      by (inr k) = Contains-append_right own (all_replaced (befores cs)) r (all_there cs r k)

  all_few : (cs : List C) (around : ℕ) → are_few (befores cs) around ≡ true → are_few (afters cs) around ≡ true
  all_few [] around e = refl
  all_few (c ∷ cs) around e =
      and (c.after.few around) (are_few (afters cs) around) (c.kept.few around (left (c.before.few around) (are_few (befores cs) around) e))
      (all_few cs around (right (c.before.few around) (are_few (befores cs) around) e))

  all_shallow : (cs : List C) → greatest (depths (afters cs)) ≤ greatest (depths (befores cs))
  all_shallow [] = omega arith
  all_shallow (c ∷ cs) = omega (arith, c.kept.shallow, all_shallow cs)

  -- ---- nodes

  -- a node over children, which is one deeper than they are
  over : (own : List Part) (replaced : Replaced) (cs : List C)
      → Covers (record { parts = own ++ all_parts (befores cs); replaced = replaced ++ all_replaced (befores cs); few = are_few (befores cs); depth = 1 + greatest (depths (befores cs)) })
      (record { parts = own ++ all_parts (afters cs); replaced = replaced ++ all_replaced (afters cs); few = are_few (afters cs); depth = 1 + greatest (depths (afters cs)) })
  over own replaced cs = record {
    within = parts_within own cs;
    replaced = own_there replaced cs;
    few = all_few cs;
    shallow = omega (arith, all_shallow cs);
  }

  -- a node over two children that isn't counted
  beside : (cs : List C)
      → Covers (record { parts = all_parts (befores cs); replaced = all_replaced (befores cs); few = are_few (befores cs); depth = greatest (depths (befores cs)) })
      (record { parts = all_parts (afters cs); replaced = all_replaced (afters cs); few = are_few (afters cs); depth = greatest (depths (afters cs)) })
  beside cs = record { within = all_within cs; replaced = all_there cs; few = all_few cs; shallow = all_shallow cs }

  relabelled : (at : ℕ) (rule : Relabelling) (c : C)
      → Covers (node_measure {A = ℕ → Measure} (PlanNode-F.Relabel rule c.before) at) (node_measure {A = ℕ → Measure} (PlanNode-F.Relabel rule c.after) at)
  relabelled at (relabel.Replace target template source pattern) c = over [] ((at, pattern) ∷ []) (c ∷ [])
  relabelled at (relabel.Join target separator sources) c = over [] [] (c ∷ [])
  relabelled at (relabel.Filter rules) c = over [] [] (c ∷ [])

  subquery : (c : C) (at : ℕ) (range step : Ms) (moment : Moment)
      → Covers (node_measure {A = ℕ → Measure} (PlanNode-F.Subquery c.before range step moment) at) (node_measure {A = ℕ → Measure} (PlanNode-F.Subquery c.after range step moment) at)
  subquery c at range step moment =
      let o = over (Part.of_moment moment ∷ Part.of_length range ∷ Part.of_length step ∷ []) [] (c ∷ []) in
      record {
        within = o.within;
        replaced = o.replaced;
        few = λ around e. and (not (nat_lt most_points (around * points range step))) (c.after.few (around * points range step))
            (left (not (nat_lt most_points (around * points range step))) (c.before.few (around * points range step)) e)
            (c.kept.few (around * points range step) (right (not (nat_lt most_points (around * points range step))) (c.before.few (around * points range step)) e));
        shallow = o.shallow;
      }

  filtered : (c : C) (at : ℕ) (rules : List Rule)
      → Covers (node_measure {A = ℕ → Measure} (PlanNode-F.Filter c.before rules) at) (node_measure {A = ℕ → Measure} (PlanNode-F.Filter c.after rules) at)
  filtered c at rules =
      let b = beside (c ∷ []) in
      record { within = b.within; replaced = b.replaced; few = b.few; shallow = c.kept.shallow }

  levels : (at : ℕ) (y : PlanNode-F (ℕ → Measure) C) → Covers (node_measure (before_of y) at) (node_measure (after_of y) at)
  levels at (PlanNode-F.Number value) = over [] [] []
  levels at PlanNode-F.Time = over [] [] []
  levels at (PlanNode-F.Select rules moment stamped) = over (Part.of_rules rules ∷ Part.of_moment moment ∷ []) [] []
  levels at (PlanNode-F.Range rules moment range) = over (Part.of_rules rules ∷ Part.of_moment moment ∷ Part.of_length range ∷ []) [] []
  levels at (PlanNode-F.Subquery c range step moment) = subquery c at range step moment
  levels at (PlanNode-F.Element f c cs) = over [] [] (c ∷ cs)
  levels at (PlanNode-F.Stamp c) = over [] [] (c ∷ [])
  levels at (PlanNode-F.Window f c cs) = over [] [] (c ∷ cs)
  levels at (PlanNode-F.Absent labels c) = over [] [] (c ∷ [])
  levels at (PlanNode-F.Buckets c d) = over [] [] (c ∷ d ∷ [])
  levels at (PlanNode-F.Relabel rule c) = relabelled at rule c
  levels at (PlanNode-F.Sort down c) = over [] [] (c ∷ [])
  levels at (PlanNode-F.ScalarOf c) = over [] [] (c ∷ [])
  levels at (PlanNode-F.VectorOf c) = over [] [] (c ∷ [])
  levels at (PlanNode-F.Group f grouping cs label) = over [] [] cs
  levels at (PlanNode-F.Pair op c d pairing) = over [] [] (c ∷ d ∷ [])
  levels at (PlanNode-F.Set op c d pairing) = over [] [] (c ∷ d ∷ [])
  levels at (PlanNode-F.Filter c rules) = filtered c at rules
  levels at (PlanNode-F.Ratio c d) = beside (c ∷ d ∷ [])
  levels at (PlanNode-F.Once c) = c.kept
  levels at (PlanNode-F.Gather expr kind engines) = itself _

  -- ---- parts

  -- a part without subqueries and patterns covers what has its rules, moments and lengths, and is as deep
  part_covers : (before : Measure) (e : Expr) (kind : PartKind) (engines : List ℕ) (at : ℕ) (parts : List Part) (deep : ℕ) → parts_of e ≡ parts → crowded e ≡ (λ around. []) → depth e ≡ deep
      → (Within before.parts → Within parts) → deep ≤ before.depth → Covers before (node_measure {A = ℕ → Measure} (PlanNode-F.Gather e kind engines) at)
  part_covers before e kind engines at parts deep has never is_deep within shallow = record {
    within = λ w. both_of Fits (parts_of e) [] (subst Within (sym has) (within w)) tt;
    replaced = λ r k. absurd (omega (arith, k.1));
    few = λ around b. ap (λ (c : ℕ → List QueryRefusal). has_none (c around)) never;
    shallow = omega (arith, shallow, is_deep);
  }

  measures_follow : (engines : List ℕ) → Follows (ℕ → Measure) Measure node_measure (λ p. p.node p.at) Covers engines
  measures_follow engines = record {
    itself = itself;
    joined = joined;
    levels = levels;
    rows = λ at rules moment.
        part_covers _ (instant at rules moment) part.Rows engines at _ _ (instant_parts at rules moment) (instant_crowded at rules moment) (instant_depth at rules moment)
        (front_of Fits (own_parts at rules moment) []) (omega arith);
    times = λ at within rules moment.
        part_covers _ (timestamp at within rules moment) part.Rows engines at _ _ (timestamp_parts at within rules moment) (timestamp_crowded at within rules moment) (timestamp_depth at within rules moment)
        (front_of Fits (own_parts within rules moment ++ []) []) (omega arith);
    windows = λ at rules moment range.
        part_covers _ (ranged at rules moment range) part.Windows engines at _ _ (range_parts at rules moment range) (range_crowded at rules moment range) (range_depth at rules moment range)
        (front_of Fits (Part.of_rules rules ∷ Part.of_moment moment ∷ Part.of_length range ∷ []) []) (omega arith);
    onces = λ at within rules moment. itself _;
  }

  valid_by : (p q : Plan) → (IsTyped p → StaysTyped p q) → Covers (measured p) (measured q) → IsValid longest latest p → IsValid longest latest q
  valid_by p q types c valid = record {
    typed = (types valid.typed).typed;
    within = c.within valid.within;
    patterns = λ a b in_a in_b same. valid.patterns a b (c.replaced a in_a) (c.replaced b in_b) same;
    few = c.few 1 valid.few;
    shallow = omega (arith, c.shallow, valid.shallow);
  }

-- ---- the law

pub validity_is_kept : ValidityIsKept
validity_is_kept engines kept longest latest p =
    valid_by longest latest p _ (types_are_kept engines kept p)
    (every node_measure (λ p. p.node p.at) (Covers longest latest) engines (measures_follow longest latest engines) kept p)
