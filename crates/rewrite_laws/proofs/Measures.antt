-- A valid plan stays valid under each rewrite.
use Rattle.std.proofs.Common.{◌≡◌, ◌≤◌, ◌⊎◌, inl, inr, ℕ, ◌+◌, ◌*◌, List, [], ◌∷◌, ◌++◌, map, refl, Bool, true, arith}
use Rattle.std.specs.Prelude.{◌&&◌, not, nat_lt, Contains, ⊤}
use Rattle.std.proofs.lemmas.List.Elements.{Contains-append_cases, Contains-append_left, Contains-append_right}
use Rattle.func_table.specs.declared.table.Aggregate.TheVariants as aggregate
use Rattle.holders.specs.Joins.{back_of, both_of, front_of}
use Rattle.label_set.specs.declared.rules.Grouping.{Grouping}
use Rattle.label_set.specs.declared.rules.PatternId.{PatternId}
use Rattle.label_set.specs.declared.rules.Relabel.{Relabel as Relabelling}
use Rattle.label_set.specs.declared.rules.Relabel.TheVariants as relabel
use Rattle.label_set.specs.declared.rules.Rule.{Rule}
use Rattle.promql_ast.specs.Depth.{greatest}
use Rattle.promql_ast.specs.Parts.{AreWithin, IsWithin, Part}
use Rattle.promql_ast.specs.declared.tree.Moment.{Moment}
use Rattle.promql_type.specs.Points.{most_points, points}
use Rattle.ticks.specs.declared.moment.Ms.{Ms}
use Rattle.logical_plan.specs.declared.nodes.Plan.{Plan}
use Rattle.logical_plan.specs.declared.nodes.PlanNode.TheOpen.{PlanNode-F}
use Rattle.logical_plan.specs.PlanTypes.{IsTyped}
use Rattle.logical_plan.specs.Validity.{IsValid, Measure, all_parts, all_replaced, are_few, measured, node_measure}
use Rattle.plan_rewrite.specs.Rebuilding.{rebuilt}
use Rattle.opt_matchers.specs.Handing.{hand_rules}
use Rattle.opt_matchers.specs.RuleOrder.{order_rules}
use Rattle.opt_selects.specs.Bases.{merge_selects}
use Rattle.opt_selects.specs.Selectors.{ordered, selectors}
use Rattle.opt_selects.specs.Trimming.{trim}
use Rattle.opt_split_avg.specs.Averages.{split_average}
use Rattle.rewrite_laws.specs.Keeping.{KeepsValidity, StaysTyped}
use Rattle.rewrite_laws.proofs.Ands.{and, left, right}
use Rattle.rewrite_laws.proofs.Follows.{Any, Child, Follows, after_of, bares, before_of, befores}
use Rattle.rewrite_laws.proofs.Rules.{any_found}
use Rattle.rewrite_laws.proofs.Singles.{handed_follows, merged_follows, ordered_follows, split_follows}
use Rattle.rewrite_laws.proofs.Trimmed.{trimmed_follows}
use Rattle.rewrite_laws.proofs.Types.{handed_typed, merged_typed, ordered_typed, split_typed, trimmed_typed}

abbrev Replaced : Type 0
Replaced = List (ℕ × PatternId)

module _ (longest latest : ℕ) where
  abbrev Within : List Part → Type 0
  Within parts = AreWithin (λ rules. ⊤) longest latest parts

  abbrev Fits : Part → Type 0
  Fits = IsWithin (λ rules. ⊤) longest latest

  -- what is within the limits stays so, no pattern is new, and no plan is deeper
  record Covers (before after : Measure) : Type 0 where
    within : Within before.parts → Within after.parts
    replaced : (r : ℕ × PatternId) → Contains after.replaced r → Contains before.replaced r
    few : (around : ℕ) → before.few around ≡ true → after.few around ≡ true
    shallow : after.depth ≤ before.depth

  abbrev C : Type 0
  C = Child Measure Covers Covers

  itself : (m : Measure) → Covers m m
  itself m = record { within = λ w. w; replaced = λ r c. c; few = λ around f. f; shallow = omega arith }

  joined : (a b c : Measure) → Covers a b → Covers b c → Covers a c
  joined a b c f g = record {
    within = λ w. g.within (f.within w);
    replaced = λ r k. f.replaced r (g.replaced r k);
    few = λ around e. g.few around (f.few around e);
    shallow = omega (arith, f.shallow, g.shallow);
  }

  -- ---- lists of children

  abbrev depths : List Measure → List ℕ
  depths ms = map (λ (m : Measure). m.depth) ms

  all_within : (cs : List C) → Within (all_parts (befores cs)) → Within (all_parts (bares cs))
  all_within [] w = tt
  all_within (c ∷ cs) w =
      both_of Fits c.bare.parts (all_parts (bares cs)) (c.loose.within (front_of Fits c.before.parts (all_parts (befores cs)) w))
      (all_within cs (back_of Fits c.before.parts (all_parts (befores cs)) w))

  parts_within : (own : List Part) (cs : List C) → Within (own ++ all_parts (befores cs)) → Within (own ++ all_parts (bares cs))
  parts_within own cs w = both_of Fits own (all_parts (bares cs)) (front_of Fits own (all_parts (befores cs)) w) (all_within cs (back_of Fits own (all_parts (befores cs)) w))

  all_there : (cs : List C) (r : ℕ × PatternId) → Contains (all_replaced (bares cs)) r → Contains (all_replaced (befores cs)) r
  all_there [] r k = k
  all_there (c ∷ cs) r k = by (Contains-append_cases c.bare.replaced (all_replaced (bares cs)) r k) (all_there cs r)
    where
      by : Contains c.bare.replaced r ⊎ Contains (all_replaced (bares cs)) r → (Contains (all_replaced (bares cs)) r → Contains (all_replaced (befores cs)) r) → Contains (c.before.replaced ++ all_replaced (befores cs)) r
      by (inl k) rest = Contains-append_left c.before.replaced (all_replaced (befores cs)) r (c.loose.replaced r k)
      by (inr k) rest = Contains-append_right c.before.replaced (all_replaced (befores cs)) r (rest k)

  own_there : (own : Replaced) (cs : List C) (r : ℕ × PatternId) → Contains (own ++ all_replaced (bares cs)) r → Contains (own ++ all_replaced (befores cs)) r
  own_there own cs r k = by (Contains-append_cases own (all_replaced (bares cs)) r k)
    where
      by : Contains own r ⊎ Contains (all_replaced (bares cs)) r → Contains (own ++ all_replaced (befores cs)) r
      by (inl k) = Contains-append_left own (all_replaced (befores cs)) r k
      by (inr k) = Contains-append_right own (all_replaced (befores cs)) r (all_there cs r k)

  all_few : (cs : List C) (around : ℕ) → are_few (befores cs) around ≡ true → are_few (bares cs) around ≡ true
  all_few [] around e = refl
  all_few (c ∷ cs) around e =
      and (c.bare.few around) (are_few (bares cs) around) (c.loose.few around (left (c.before.few around) (are_few (befores cs) around) e))
      (all_few cs around (right (c.before.few around) (are_few (befores cs) around) e))

  all_shallow : (cs : List C) → greatest (depths (bares cs)) ≤ greatest (depths (befores cs))
  all_shallow [] = omega arith
  all_shallow (c ∷ cs) = omega (arith, c.loose.shallow, all_shallow cs)

  -- ---- nodes

  -- a node over children, which is one deeper than they are
  over : (own : List Part) (replaced : Replaced) (cs : List C)
      → Covers (record { parts = own ++ all_parts (befores cs); replaced = replaced ++ all_replaced (befores cs); few = are_few (befores cs); depth = 1 + greatest (depths (befores cs)) })
      (record { parts = own ++ all_parts (bares cs); replaced = replaced ++ all_replaced (bares cs); few = are_few (bares cs); depth = 1 + greatest (depths (bares cs)) })
  over own replaced cs = record {
    within = parts_within own cs;
    replaced = own_there replaced cs;
    few = all_few cs;
    shallow = omega (arith, all_shallow cs);
  }

  -- a node over two children that isn't counted
  beside : (cs : List C)
      → Covers (record { parts = all_parts (befores cs); replaced = all_replaced (befores cs); few = are_few (befores cs); depth = greatest (depths (befores cs)) })
      (record { parts = all_parts (bares cs); replaced = all_replaced (bares cs); few = are_few (bares cs); depth = greatest (depths (bares cs)) })
  beside cs = record { within = all_within cs; replaced = all_there cs; few = all_few cs; shallow = all_shallow cs }

  -- a child that keeps its sort
  abbrev whole : C → C
  whole c = record { before = c.before; bare = c.whole; whole = c.whole; loose = c.kept; kept = c.kept }

  relabelled : (at : ℕ) (rule : Relabelling) (c : C)
      → Covers (node_measure {A = ℕ → Measure} (PlanNode-F.Relabel rule c.before) at) (node_measure {A = ℕ → Measure} (PlanNode-F.Relabel rule c.bare) at)
  relabelled at (relabel.Replace target template source pattern) c = over [] ((at, pattern) ∷ []) (c ∷ [])
  relabelled at (relabel.Join target separator sources) c = over [] [] (c ∷ [])
  relabelled at (relabel.Filter rules) c = over [] [] (c ∷ [])

  subquery : (c : C) (at : ℕ) (range step : Ms) (moment : Moment)
      → Covers (node_measure {A = ℕ → Measure} (PlanNode-F.Subquery c.before range step moment) at) (node_measure {A = ℕ → Measure} (PlanNode-F.Subquery c.bare range step moment) at)
  subquery c at range step moment =
      let o = over (Part.of_moment moment ∷ Part.of_length range ∷ Part.of_length step ∷ []) [] (c ∷ []) in
      record {
        within = o.within;
        replaced = o.replaced;
        few = λ around e. and (not (nat_lt most_points (around * points range step))) (c.bare.few (around * points range step))
            (left (not (nat_lt most_points (around * points range step))) (c.before.few (around * points range step)) e)
            (c.loose.few (around * points range step) (right (not (nat_lt most_points (around * points range step))) (c.before.few (around * points range step)) e));
        shallow = o.shallow;
      }

  filtered : (c : C) (at : ℕ) (rules : List Rule)
      → Covers (node_measure {A = ℕ → Measure} (PlanNode-F.Filter c.before rules) at) (node_measure {A = ℕ → Measure} (PlanNode-F.Filter c.bare rules) at)
  filtered c at rules =
      let b = beside (c ∷ []) in
      record { within = b.within; replaced = b.replaced; few = b.few; shallow = c.loose.shallow }

  levels : (at : ℕ) (y : PlanNode-F (ℕ → Measure) C) → Covers (node_measure (before_of y) at) (node_measure (after_of y) at)
  levels at (PlanNode-F.Number value) = over [] [] []
  levels at PlanNode-F.Time = over [] [] []
  levels at (PlanNode-F.Select rules moment stamped) = over (Part.of_rules rules ∷ Part.of_moment moment ∷ []) [] []
  levels at (PlanNode-F.Range rules moment range) = over (Part.of_rules rules ∷ Part.of_moment moment ∷ Part.of_length range ∷ []) [] []
  levels at (PlanNode-F.Subquery c range step moment) = subquery c at range step moment
  levels at (PlanNode-F.Element f c cs) = over [] [] (c ∷ cs)
  levels at (PlanNode-F.Stamp c) = over [] [] (whole c ∷ [])
  levels at (PlanNode-F.Window f c cs) = over [] [] (c ∷ cs)
  levels at (PlanNode-F.Absent labels c) = over [] [] (c ∷ [])
  levels at (PlanNode-F.Buckets c d) = over [] [] (c ∷ d ∷ [])
  levels at (PlanNode-F.Relabel rule c) = relabelled at rule c
  levels at (PlanNode-F.Sort down c) = over [] [] (c ∷ [])
  levels at (PlanNode-F.ScalarOf c) = over [] [] (c ∷ [])
  levels at (PlanNode-F.VectorOf c) = over [] [] (c ∷ [])
  levels at (PlanNode-F.Group f grouping cs label) = over [] [] cs
  levels at (PlanNode-F.Pair op c d pairing) = over [] [] (c ∷ d ∷ [])
  levels at (PlanNode-F.Set op c d pairing) = over [] [] (c ∷ d ∷ [])
  levels at (PlanNode-F.Filter c rules) = filtered c at rules
  levels at (PlanNode-F.Ratio c d) = beside (c ∷ d ∷ [])
  levels at (PlanNode-F.Once c) = c.kept
  levels at (PlanNode-F.Gather expr kind engines) = itself _

  -- a sum divided by a count has what its average has, twice
  ratio : (at : ℕ) (grouping : Grouping) (ms : List Measure) (label : List ℕ)
      → Covers (node_measure {A = ℕ → Measure} (PlanNode-F.Group aggregate.Avg grouping ms label) at)
      (node_measure {A = ℕ → Measure} (PlanNode-F.Ratio (node_measure {A = ℕ → Measure} (PlanNode-F.Group aggregate.Sum grouping ms label) at) (node_measure {A = ℕ → Measure} (PlanNode-F.Group aggregate.Count grouping ms label) at)) at)
  ratio at grouping ms label = record {
    within = λ w. both_of Fits (all_parts ms) (all_parts ms ++ []) w (both_of Fits (all_parts ms) [] w tt);
    replaced = λ r k. first r (Contains-append_cases (all_replaced ms) (all_replaced ms ++ []) r k);
    few = λ around e. and (are_few ms around) (are_few ms around && true) e (and (are_few ms around) true e refl);
    shallow = omega arith;
  }
    where
      second : (r : ℕ × PatternId) → Contains (all_replaced ms) r ⊎ Contains [] r → Contains (all_replaced ms) r
      second r (inl k) = k
      second r (inr k) = absurd (omega (arith, k.1))

      first : (r : ℕ × PatternId) → Contains (all_replaced ms) r ⊎ Contains (all_replaced ms ++ []) r → Contains (all_replaced ms) r
      first r (inl k) = k
      first r (inr k) = second r (Contains-append_cases (all_replaced ms) [] r k)

  bare_sort : (at : ℕ) (down : Bool) (c : C) → Covers (node_measure {A = ℕ → Measure} (PlanNode-F.Sort down c.before) at) c.bare
  bare_sort at down c = record {
    within = λ w. c.loose.within (front_of Fits c.before.parts [] w);
    replaced = λ r k. Contains-append_left c.before.replaced [] r (c.loose.replaced r k);
    few = λ around e. c.loose.few around (left (c.before.few around) true e);
    shallow = omega (arith, c.loose.shallow);
  }

  measures_follow : Follows (ℕ → Measure) Measure node_measure (λ p. p.node p.at) Any Covers Covers
  measures_follow = record {
    itself = itself;
    joined = joined;
    loosely = λ a b k. k;
    levels = levels;
    select = λ at rules more moment stamped good. record { within = λ w. w; replaced = λ r k. k; few = λ around e. e; shallow = omega arith };
    range = λ at rules more moment length good. record { within = λ w. w; replaced = λ r k. k; few = λ around e. e; shallow = omega arith };
    filtered_select = λ at rules base more moment good_base good. record { within = λ w. w; replaced = λ r k. k; few = λ around e. e; shallow = omega arith };
    filtered_range = λ at rules base more moment length good_base good. record { within = λ w. w; replaced = λ r k. k; few = λ around e. e; shallow = omega arith };
    pair = λ at op a b more other pairing good_left good_right. record { within = λ w. w; replaced = λ r k. k; few = λ around e. e; shallow = omega arith };
    ratio = ratio;
    bare_sort = bare_sort;
    bare_once = λ at c. c.loose;
  }

  valid_by : (p q : Plan) → (IsTyped p → StaysTyped p q) → Covers (measured p) (measured q) → IsValid longest latest p → IsValid longest latest q
  valid_by p q types c valid = record {
    typed = (types valid.typed).typed;
    within = c.within valid.within;
    patterns = λ a b in_a in_b same. valid.patterns a b (c.replaced a in_a) (c.replaced b in_b) same;
    few = c.few 1 valid.few;
    shallow = omega (arith, c.shallow, valid.shallow);
  }

-- ---- each rewrite

pub ordered_valid : (kept : List (Bool × List ℕ)) → KeepsValidity (rebuilt (order_rules kept))
ordered_valid kept longest latest p =
    valid_by longest latest p _ (ordered_typed kept p)
    (ordered_follows node_measure (λ p. p.node p.at) (Covers longest latest) (Covers longest latest) (measures_follow longest latest) kept p)

pub handed_valid : KeepsValidity (rebuilt hand_rules)
handed_valid longest latest p =
    valid_by longest latest p _ (handed_typed p) (handed_follows node_measure (λ p. p.node p.at) (Covers longest latest) (Covers longest latest) (measures_follow longest latest) p)

pub merged_valid : KeepsValidity (λ p. rebuilt (merge_selects (ordered (selectors p))) p)
merged_valid longest latest p =
    valid_by longest latest p _ (merged_typed p)
    (merged_follows node_measure (λ p. p.node p.at) (Covers longest latest) (Covers longest latest) (measures_follow longest latest) p (any_found p))

pub trimmed_valid : KeepsValidity trim
trimmed_valid longest latest p =
    valid_by longest latest p _ (trimmed_typed p) (trimmed_follows node_measure (λ p. p.node p.at) (Covers longest latest) (Covers longest latest) (measures_follow longest latest) p)

pub split_valid : KeepsValidity (rebuilt split_average)
split_valid longest latest p =
    valid_by longest latest p _ (split_typed p) (split_follows node_measure (λ p. p.node p.at) (Covers longest latest) (Covers longest latest) (measures_follow longest latest) p)
