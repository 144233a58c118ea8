-- What kernels serve they serve with Once nodes too, which stand over no windows.
use Rattle.std.proofs.Common.{◌≡◌, ◌∙◌, ℕ, List, [], ◌∷◌, map, ap, sym, refl, subst, Bool, true, false}
use Rattle.std.proofs.lemmas.Bool.{false≢true}
use Rattle.std.specs.Prelude.{not, ◌&&◌, ◌||◌}
use Rattle.holders.specs.Joins.{both_of, front_of}
use Rattle.label_set.specs.declared.rules.Rule.{Rule}
use Rattle.match_rule.specs.Patterns.{HasItsPattern}
use Rattle.promql_ast.specs.declared.tree.Expr.{Expr}
use Rattle.promql_meaning.specs.Steadiness.{all_hold}
use Rattle.promql_type.specs.Replacements.{Kept}
use Rattle.step_table.specs.declared.cells.PartKind.{PartKind}
use Rattle.step_table.specs.declared.cells.PartKind.TheVariants as part
use Rattle.logical_plan.specs.declared.steadiness.Facts.{Facts}
use Rattle.logical_plan.specs.declared.nodes.Plan.{Plan}
use Rattle.logical_plan.specs.declared.nodes.PlanNode.{PlanNode}
use Rattle.logical_plan.specs.declared.nodes.PlanNode.TheOpen.{PlanNode-F}
use Rattle.logical_plan.specs.declared.nodes.PlanNode.TheViews.{roll-PlanNode, roll-Plan}
use Rattle.logical_plan.specs.declared.nodes.PlanNode.TheFolds.{map-PlanNode, fold-PlanNode, fold-roll-PlanNode, fold-roll-Plan, ind-Plan}
use Rattle.logical_plan.specs.Lowering.{planned}
use Rattle.logical_plan.specs.Onces.{Onced, node_over as plan_over, once_node, once_of, placed_over, wrapped}
use Rattle.logical_plan.specs.PlanFolds.{of-Number, of-Time, of-Select, of-Range, of-Subquery, of-Element, of-Stamp, of-Window, of-Absent, of-Buckets, of-Relabel, of-Sort, of-ScalarOf, of-VectorOf, of-Group, of-Pair, of-Set, of-Filter, of-Ratio, of-Once, of-Gather}
use Rattle.logical_plan.specs.Steadiness.{is_once, is_steady, is_table, node_facts}
use Rattle.plan_serving.specs.Asking.{is_range_part}
use Rattle.plan_serving.specs.Filters.{node_unfiltered, unfiltered}
use Rattle.plan_serving.specs.Serving.{Serving, node_serving, serving}
use Rattle.plan_serving.specs.ServingLaws.{OncesKeepServing}
use Rattle.plan_serving.specs.Stays.{AllStay, IsPattern, Stays, filter_stays, over_stays, plain_stays, relabel_stays, stays_itself, window_stays}

and : (a b : Bool) → a ≡ true → b ≡ true → (a && b) ≡ true
and true b e f = f
and false b e f = absurd (cc)

-- each of two where each was
and_still : (a b c d : Bool) → (a ≡ true → c ≡ true) → (b ≡ true → d ≡ true) → (a && b) ≡ true → (c && d) ≡ true
and_still true b c d f g e = and c d (f refl) (g e)
and_still false b c d f g e = absurd (cc)

of_one : (a : Bool) → (a || false) ≡ true → a ≡ true
of_one true e = refl
of_one false e = absurd (cc)

left : (a b : Bool) → a ≡ true → (a || b) ≡ true
left true b e = refl
left false b e = absurd (cc)

right : (a b : Bool) → b ≡ true → (a || b) ≡ true
right true b e = refl
right false b e = e

-- what is no table isn't computed once
no_once : (inside : Bool) (f : Facts) → f.table ≡ false → (not inside && is_once f) ≡ true → ⊥
no_once true f e is = absurd (false≢true is)
no_once false f e is = absurd (false≢true (sym (ap (λ (t : Bool). t && f.selects && is_steady f) e) ∙ is))

-- nor are windows that engines are asked for
windows_apart : (kind : PartKind) (expr : Expr) → (is_range_part kind expr || false) ≡ true → is_table kind ≡ false
windows_apart part.Rows expr e = absurd (cc)
windows_apart part.Windows expr e = refl
windows_apart (part.Partial f by) expr e = absurd (cc)

abbrev onces_in : PlanNode → ℕ → Onced
onces_in = fold-PlanNode (ℕ → Onced) Onced once_node (λ p. p.node p.at)

abbrev serving_in : PlanNode → Serving
serving_in = fold-PlanNode Serving Serving node_serving (λ p. p.node)

abbrev unfiltered_in : PlanNode → Bool
unfiltered_in = fold-PlanNode Bool Bool node_unfiltered (λ p. p.node)

module _ (kept : Kept) where
  -- a plan as it is served, with its Once nodes too
  record Fine (s : Serving) (plain : Bool) (o : Onced) : Type 0 where
    tables : (s.ranges || s.points) ≡ true → o.facts.table ≡ false
    stays : (inside : Bool) → Stays kept s (serving (o.plan inside))
    bare : (inside : Bool) → plain ≡ true → unfiltered (o.plan inside) ≡ true

  abbrev IsFine : Plan → Type 0
  IsFine p = Fine (serving p) (unfiltered p) (once_of p)

  abbrev IsFineNode : PlanNode → Type 0
  IsFineNode n = (at : ℕ) → Fine (serving_in n) (unfiltered_in n) (onces_in n at)

  abbrev Part : Type 0
  Part = (p : Plan) × IsFine p

  abbrev Layer : Type 0
  Layer = PlanNode-F ((n : PlanNode) × IsFineNode n) Part

  abbrev plans : Layer → PlanNode-F PlanNode Plan
  plans = map-PlanNode ((n : PlanNode) × IsFineNode n) Part PlanNode Plan (λ n. n.0) (λ p. p.0)

  abbrev onced : Layer → PlanNode-F (ℕ → Onced) Onced
  onced y = map-PlanNode PlanNode Plan (ℕ → Onced) Onced onces_in once_of (plans y)

  abbrev served : Layer → PlanNode-F Serving Serving
  served y = map-PlanNode PlanNode Plan Serving Serving serving_in serving (plans y)

  abbrev plain : Layer → PlanNode-F Bool Bool
  plain y = map-PlanNode PlanNode Plan Bool Bool unfiltered_in unfiltered (plans y)

  -- ---- children

  abbrev before : List Part → List Plan
  before ps = map (λ (p : Part). p.0) ps

  abbrev after : Bool → List Part → List Plan
  after inside ps = map (λ (o : Onced). o.plan inside) (map once_of (before ps))

  all_stay : (ps : List Part) (inside : Bool) → AllStay kept (map serving (before ps)) (map serving (after inside ps))
  all_stay [] inside = tt
  all_stay (p ∷ ps) inside = (p.1.stays inside, all_stay ps inside)

  all_bare : (ps : List Part) (inside : Bool) → all_hold (map unfiltered (before ps)) ≡ true → all_hold (map unfiltered (after inside ps)) ≡ true
  all_bare [] inside e = refl
  all_bare (p ∷ ps) inside e =
      and_still (unfiltered p.0) (all_hold (map unfiltered (before ps))) (unfiltered ((once_of p.0).plan inside)) (all_hold (map unfiltered (after inside ps))) (p.1.bare inside) (all_bare ps inside) e

  -- ---- nodes

  record Over (s : Serving) (plain : Bool) (q : Plan) : Type 0 where
    stays : Stays kept s (serving q)
    bare : plain ≡ true → unfiltered q ≡ true

  arm : (s : Serving) (plain : Bool) (q : Plan) (after : Serving) (b : Bool) → serving q ≡ after → unfiltered q ≡ b → Stays kept s after → (plain ≡ true → b ≡ true) → Over s plain q
  arm s plain q after b is same stays bare = record { stays = subst (Stays kept s) (sym is) stays; bare = λ e. same ∙ bare e }

  -- a node over the children with their Once nodes
  over : (y : Layer) (at : ℕ) (inside : Bool) → Over (node_serving (served y)) (node_unfiltered (plain y)) (planned at (plan_over (λ (o : Onced). o.plan inside) (onced y)))
  over (PlanNode-F.Number value) at inside = arm _ _ _ _ _ (of-Number node_serving (λ p. p.node) at value) (of-Number node_unfiltered (λ p. p.node) at value) (stays_itself kept _) (λ e. e)
  over PlanNode-F.Time at inside = arm _ _ _ _ _ (of-Time node_serving (λ p. p.node) at) (of-Time node_unfiltered (λ p. p.node) at) (stays_itself kept _) (λ e. e)
  over (PlanNode-F.Select rules moment stamped) at inside = arm _ _ _ _ _ (of-Select node_serving (λ p. p.node) at rules moment stamped) (of-Select node_unfiltered (λ p. p.node) at rules moment stamped) (stays_itself kept _) (λ e. e)
  over (PlanNode-F.Range rules moment range) at inside = arm _ _ _ _ _ (of-Range node_serving (λ p. p.node) at rules moment range) (of-Range node_unfiltered (λ p. p.node) at rules moment range) (stays_itself kept _) (λ e. e)
  over (PlanNode-F.Subquery p range step moment) at inside = arm _ _ _ _ _ (of-Subquery node_serving (λ p. p.node) at ((once_of p.0).plan inside) range step moment) (of-Subquery node_unfiltered (λ p. p.node) at ((once_of p.0).plan inside) range step moment) (over_stays kept false true true false true true [] [] (serving p.0 ∷ []) (serving ((once_of p.0).plan inside) ∷ []) (λ e. e) (λ e. e) (λ e. e) (p.1.stays inside, tt)) (all_bare (p ∷ []) inside)
  over (PlanNode-F.Element f p ps) at inside = arm _ _ _ _ _ (of-Element node_serving (λ p. p.node) at f ((once_of p.0).plan inside) (after inside ps)) (of-Element node_unfiltered (λ p. p.node) at f ((once_of p.0).plan inside) (after inside ps)) (plain_stays kept (serving p.0 ∷ map serving (before ps)) (serving ((once_of p.0).plan inside) ∷ map serving (after inside ps)) ((p.1.stays inside, all_stay ps inside))) (all_bare (p ∷ ps) inside)
  over (PlanNode-F.Stamp p) at inside = arm _ _ _ _ _ (of-Stamp node_serving (λ p. p.node) at ((once_of p.0).plan inside)) (of-Stamp node_unfiltered (λ p. p.node) at ((once_of p.0).plan inside)) (plain_stays kept (serving p.0 ∷ []) (serving ((once_of p.0).plan inside) ∷ []) ((p.1.stays inside, tt))) (all_bare (p ∷ []) inside)
  over (PlanNode-F.Window f p ps) at inside = arm _ _ _ _ _ (of-Window node_serving (λ p. p.node) at f ((once_of p.0).plan inside) (after inside ps)) (of-Window node_unfiltered (λ p. p.node) at f ((once_of p.0).plan inside) (after inside ps)) (window_stays kept (serving p.0) (serving ((once_of p.0).plan inside)) (map serving (before ps)) (map serving (after inside ps)) (p.1.stays inside) (all_stay ps inside)) (all_bare (p ∷ ps) inside)
  over (PlanNode-F.Absent labels p) at inside = arm _ _ _ _ _ (of-Absent node_serving (λ p. p.node) at labels ((once_of p.0).plan inside)) (of-Absent node_unfiltered (λ p. p.node) at labels ((once_of p.0).plan inside)) (plain_stays kept (serving p.0 ∷ []) (serving ((once_of p.0).plan inside) ∷ []) ((p.1.stays inside, tt))) (all_bare (p ∷ []) inside)
  over (PlanNode-F.Buckets q p) at inside = arm _ _ _ _ _ (of-Buckets node_serving (λ p. p.node) at ((once_of q.0).plan inside) ((once_of p.0).plan inside)) (of-Buckets node_unfiltered (λ p. p.node) at ((once_of q.0).plan inside) ((once_of p.0).plan inside)) (plain_stays kept (serving q.0 ∷ serving p.0 ∷ []) (serving ((once_of q.0).plan inside) ∷ serving ((once_of p.0).plan inside) ∷ []) ((q.1.stays inside, (p.1.stays inside, tt)))) (all_bare (q ∷ p ∷ []) inside)
  over (PlanNode-F.Relabel rule p) at inside = arm _ _ _ _ _ (of-Relabel node_serving (λ p. p.node) at rule ((once_of p.0).plan inside)) (of-Relabel node_unfiltered (λ p. p.node) at rule ((once_of p.0).plan inside)) (relabel_stays kept rule (serving p.0) (serving ((once_of p.0).plan inside)) (p.1.stays inside)) (all_bare (p ∷ []) inside)
  over (PlanNode-F.Sort down p) at inside = arm _ _ _ _ _ (of-Sort node_serving (λ p. p.node) at down ((once_of p.0).plan inside)) (of-Sort node_unfiltered (λ p. p.node) at down ((once_of p.0).plan inside)) (plain_stays kept (serving p.0 ∷ []) (serving ((once_of p.0).plan inside) ∷ []) ((p.1.stays inside, tt))) (all_bare (p ∷ []) inside)
  over (PlanNode-F.ScalarOf p) at inside = arm _ _ _ _ _ (of-ScalarOf node_serving (λ p. p.node) at ((once_of p.0).plan inside)) (of-ScalarOf node_unfiltered (λ p. p.node) at ((once_of p.0).plan inside)) (plain_stays kept (serving p.0 ∷ []) (serving ((once_of p.0).plan inside) ∷ []) ((p.1.stays inside, tt))) (all_bare (p ∷ []) inside)
  over (PlanNode-F.VectorOf p) at inside = arm _ _ _ _ _ (of-VectorOf node_serving (λ p. p.node) at ((once_of p.0).plan inside)) (of-VectorOf node_unfiltered (λ p. p.node) at ((once_of p.0).plan inside)) (plain_stays kept (serving p.0 ∷ []) (serving ((once_of p.0).plan inside) ∷ []) ((p.1.stays inside, tt))) (all_bare (p ∷ []) inside)
  over (PlanNode-F.Group f by ps label) at inside = arm _ _ _ _ _ (of-Group node_serving (λ p. p.node) at f by (after inside ps) label) (of-Group node_unfiltered (λ p. p.node) at f by (after inside ps) label) (plain_stays kept (map serving (before ps)) (map serving (after inside ps)) (all_stay ps inside)) (all_bare ps inside)
  over (PlanNode-F.Pair op l r pairing) at inside = arm _ _ _ _ _ (of-Pair node_serving (λ p. p.node) at op ((once_of l.0).plan inside) ((once_of r.0).plan inside) pairing) (of-Pair node_unfiltered (λ p. p.node) at op ((once_of l.0).plan inside) ((once_of r.0).plan inside) pairing) (plain_stays kept (serving l.0 ∷ serving r.0 ∷ []) (serving ((once_of l.0).plan inside) ∷ serving ((once_of r.0).plan inside) ∷ []) ((l.1.stays inside, (r.1.stays inside, tt)))) (all_bare (l ∷ r ∷ []) inside)
  over (PlanNode-F.Set op l r pairing) at inside = arm _ _ _ _ _ (of-Set node_serving (λ p. p.node) at op ((once_of l.0).plan inside) ((once_of r.0).plan inside) pairing) (of-Set node_unfiltered (λ p. p.node) at op ((once_of l.0).plan inside) ((once_of r.0).plan inside) pairing) (plain_stays kept (serving l.0 ∷ serving r.0 ∷ []) (serving ((once_of l.0).plan inside) ∷ serving ((once_of r.0).plan inside) ∷ []) ((l.1.stays inside, (r.1.stays inside, tt)))) (all_bare (l ∷ r ∷ []) inside)
  over (PlanNode-F.Filter p rules) at inside = arm _ _ _ _ _ (of-Filter node_serving (λ p. p.node) at ((once_of p.0).plan inside) rules) (of-Filter node_unfiltered (λ p. p.node) at ((once_of p.0).plan inside) rules) (filter_stays kept rules (serving p.0) (serving ((once_of p.0).plan inside)) (p.1.stays inside)) (λ e. absurd (cc))
  over (PlanNode-F.Ratio l r) at inside = arm _ _ _ _ _ (of-Ratio node_serving (λ p. p.node) at ((once_of l.0).plan inside) ((once_of r.0).plan inside)) (of-Ratio node_unfiltered (λ p. p.node) at ((once_of l.0).plan inside) ((once_of r.0).plan inside)) (plain_stays kept (serving l.0 ∷ serving r.0 ∷ []) (serving ((once_of l.0).plan inside) ∷ serving ((once_of r.0).plan inside) ∷ []) ((l.1.stays inside, (r.1.stays inside, tt)))) (all_bare (l ∷ r ∷ []) inside)
  over (PlanNode-F.Once p) at inside = arm _ _ _ _ _ (of-Once node_serving (λ p. p.node) at ((once_of p.0).plan inside)) (of-Once node_unfiltered (λ p. p.node) at ((once_of p.0).plan inside)) (plain_stays kept (serving p.0 ∷ []) (serving ((once_of p.0).plan inside) ∷ []) ((p.1.stays inside, tt))) (all_bare (p ∷ []) inside)
  over (PlanNode-F.Gather expr kind engines) at inside = arm _ _ _ _ _ (of-Gather node_serving (λ p. p.node) at expr kind engines) (of-Gather node_unfiltered (λ p. p.node) at expr kind engines) (stays_itself kept _) (λ e. e)

  abbrev HasItsPatterns : Rule → Type 0
  HasItsPatterns r = HasItsPattern kept r.kind

  and_first : (a b : Bool) → (a && b) ≡ true → a ≡ true
  and_first true b e = refl
  and_first false b e = absurd (cc)

  wrapped_over : (once : Bool) (s : Serving) (b : Bool) (at : ℕ) (n : PlanNode) → Over s b (planned at n) → (once ≡ true → (s.ranges || s.points) ≡ true → ⊥) → Over s b (wrapped once at n)
  wrapped_over false s b at n o none = o
  wrapped_over true s b at n o none =
      let p = planned at n in
      let once : Stays kept s (node_serving {A = Serving} (PlanNode-F.Once (serving p))) = record {
        ranges = λ e. absurd (none refl (left s.ranges s.points e));
        points = λ e. absurd (none refl (right s.ranges s.points e));
        served = λ e. and (serving p).served true (o.stays.served e) refl;
        rules = λ h. both_of HasItsPatterns (serving p).rules [] (o.stays.rules h) tt;
        patterns = λ h. both_of (IsPattern kept) (serving p).patterns [] (o.stays.patterns h) tt;
      } in
      arm s b _ _ _ (of-Once node_serving (λ p. p.node) at p) (of-Once node_unfiltered (λ p. p.node) at p) once (λ e. and (unfiltered p) true (o.bare e) refl)

  abbrev facts_at : Layer → Facts
  facts_at y = node_facts (λ (o : Onced). o.facts) (onced y)

  abbrev Tables : Layer → Type 0
  Tables y = ((node_serving (served y)).ranges || (node_serving (served y)).points) ≡ true → (facts_at y).table ≡ false

  under : (y : Layer) (at : ℕ) (inside : Bool) → Tables y → Over (node_serving (served y)) (node_unfiltered (plain y)) (placed_over (onced y) at inside)
  under y at inside tables =
      let once = not inside && is_once (facts_at y) in
      let below = inside || once in
      wrapped_over once (node_serving (served y)) (node_unfiltered (plain y)) at (plan_over (λ (o : Onced). o.plan below) (onced y)) (over y at below)
      (λ is reads. no_once inside (facts_at y) (tables reads) is)

  placed : (y : Layer) (at : ℕ) → Tables y → Fine (node_serving (served y)) (node_unfiltered (plain y)) (record { facts = facts_at y; plan = placed_over (onced y) at })
  placed y at tables = record { tables = tables; stays = λ inside. (under y at inside tables).stays; bare = λ inside. (under y at inside tables).bare }

  -- a Once node that is there already is placed anew
  again : (p : Part) → Fine (node_serving {A = Serving} (PlanNode-F.Once (serving p.0))) (node_unfiltered {A = Bool} (PlanNode-F.Once (unfiltered p.0))) (once_of p.0)
  again p = record {
    tables = λ e. absurd (cc);
    stays = λ inside.
        let s = p.1.stays inside in
        record {
          ranges = λ e. absurd (cc);
          points = λ e. absurd (cc);
          served = λ e. s.served (and_first (serving p.0).served true e);
          rules = λ h. s.rules (front_of HasItsPatterns (serving p.0).rules [] h);
          patterns = λ h. s.patterns (front_of (IsPattern kept) (serving p.0).patterns [] h);
        };
    bare = λ inside e. p.1.bare inside (and_first (unfiltered p.0) true e);
  }

  level : (y : Layer) (at : ℕ) → Fine (node_serving (served y)) (node_unfiltered (plain y)) (once_node (onced y) at)
  level (PlanNode-F.Number value) at = placed (PlanNode-F.Number value) at (λ e. absurd (cc))
  level PlanNode-F.Time at = placed PlanNode-F.Time at (λ e. absurd (cc))
  level (PlanNode-F.Select rules moment stamped) at = placed (PlanNode-F.Select rules moment stamped) at (λ e. absurd (cc))
  level (PlanNode-F.Range rules moment range) at = placed (PlanNode-F.Range rules moment range) at (λ e. refl)
  level (PlanNode-F.Subquery p range step moment) at = placed (PlanNode-F.Subquery p range step moment) at (λ e. refl)
  level (PlanNode-F.Element f p ps) at = placed (PlanNode-F.Element f p ps) at (λ e. absurd (cc))
  level (PlanNode-F.Stamp p) at = placed (PlanNode-F.Stamp p) at (λ e. absurd (cc))
  level (PlanNode-F.Window f p ps) at = placed (PlanNode-F.Window f p ps) at (λ e. absurd (cc))
  level (PlanNode-F.Absent labels p) at = placed (PlanNode-F.Absent labels p) at (λ e. absurd (cc))
  level (PlanNode-F.Buckets q p) at = placed (PlanNode-F.Buckets q p) at (λ e. absurd (cc))
  level (PlanNode-F.Relabel rule p) at = placed (PlanNode-F.Relabel rule p) at (λ e. absurd (cc))
  level (PlanNode-F.Sort down p) at = placed (PlanNode-F.Sort down p) at (λ e. absurd (cc))
  level (PlanNode-F.ScalarOf p) at = placed (PlanNode-F.ScalarOf p) at (λ e. absurd (cc))
  level (PlanNode-F.VectorOf p) at = placed (PlanNode-F.VectorOf p) at (λ e. absurd (cc))
  level (PlanNode-F.Group f by ps label) at = placed (PlanNode-F.Group f by ps label) at (λ e. absurd (cc))
  level (PlanNode-F.Pair op l r pairing) at = placed (PlanNode-F.Pair op l r pairing) at (λ e. absurd (cc))
  level (PlanNode-F.Set op l r pairing) at = placed (PlanNode-F.Set op l r pairing) at (λ e. absurd (cc))
  level (PlanNode-F.Filter p rules) at = placed (PlanNode-F.Filter p rules) at (λ e. p.1.tables (left (serving p.0).ranges (serving p.0).points (of_one (serving p.0).ranges e)))
  level (PlanNode-F.Ratio l r) at = placed (PlanNode-F.Ratio l r) at (λ e. absurd (cc))
  level (PlanNode-F.Once p) at = again p
  level (PlanNode-F.Gather expr kind engines) at = placed (PlanNode-F.Gather expr kind engines) at (λ e. windows_apart kind expr e)

  node_fine : (y : Layer) → IsFineNode (roll-PlanNode (plans y))
  node_fine y at =
      let n = roll-PlanNode (plans y) in
      subst (λ (s : Serving). Fine s (unfiltered_in n) (onces_in n at)) (sym (fold-roll-PlanNode Serving Serving node_serving (λ p. p.node) (plans y)))
      (subst (λ (b : Bool). Fine (node_serving (served y)) b (onces_in n at)) (sym (fold-roll-PlanNode Bool Bool node_unfiltered (λ p. p.node) (plans y)))
      (subst (λ (f : ℕ → Onced). Fine (node_serving (served y)) (node_unfiltered (plain y)) (f at)) (sym (fold-roll-PlanNode (ℕ → Onced) Onced once_node (λ p. p.node p.at) (plans y))) (level y at)))

  plan_fine : (at : ℕ) (n : PlanNode) → IsFineNode n → IsFine (roll-Plan (record { at = at; node = n }))
  plan_fine at n fine =
      let p = roll-Plan (record { at = at; node = n }) in
      subst (λ (s : Serving). Fine s (unfiltered p) (once_of p)) (sym (fold-roll-Plan Serving Serving node_serving (λ p. p.node) (record { at = at; node = n })))
      (subst (λ (b : Bool). Fine (serving_in n) b (once_of p)) (sym (fold-roll-Plan Bool Bool node_unfiltered (λ p. p.node) (record { at = at; node = n })))
      (subst (λ (o : Onced). Fine (serving_in n) (unfiltered_in n) o) (sym (fold-roll-Plan (ℕ → Onced) Onced once_node (λ p. p.node p.at) (record { at = at; node = n }))) (fine at)))

  every : (p : Plan) → IsFine p
  every = ind-Plan IsFineNode IsFine
      (λ x y is. subst (λ z. IsFineNode (roll-PlanNode z)) is (node_fine y))
      (λ x y is. subst (λ z. IsFine (roll-Plan z)) is (plan_fine y.at y.node.0 y.node.1))

pub onces_served : OncesKeepServing
onces_served kept p is =
    let s = (every kept p).stays false in
    record {
      served = record { windows = s.served is.served.windows; rules = s.rules is.served.rules; patterns = s.patterns is.served.patterns };
      plain = (every kept p).bare false is.plain;
    }
