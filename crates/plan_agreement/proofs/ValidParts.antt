-- The children of a part of a valid plan are such parts.
use Rattle.std.proofs.Common.{◌≡◌, ◌∙◌, ◌<◌, ◌≤◌, ◌+◌, ◌*◌, ℕ, Bool, true, List, [], ◌∷◌, ◌++◌, map, ap, sym, subst, arith}
use Rattle.std.specs.Prelude.{◌&&◌, ◌||◌, not, nat_lt, max, unsigned_abs, ℤ, pos, negsuc, ◌<ℤ◌, Contains, ⊤}
use Rattle.std.specs.Int.{div_ceil}
use Rattle.std.specs.List.{AllByRecursion}
use Rattle.std.proofs.lemmas.List.Elements.{Contains-append_left, Contains-append_right}
use Rattle.holders.specs.Joins.{back_of, front_of}
use Rattle.label_set.specs.declared.rules.PatternId.{PatternId}
use Rattle.label_set.specs.declared.rules.Relabel.{Relabel}
use Rattle.label_set.specs.declared.rules.Relabel.TheVariants as relabelling
use Rattle.promql_ast.specs.Depth.{greatest}
use Rattle.promql_ast.specs.Parts.{AreWithin, IsWithin, Part}
use Rattle.promql_ast.specs.declared.tree.Moment.{Moment}
use Rattle.promql_type.specs.Kinds.{is_kind}
use Rattle.promql_type.specs.Points.{most_points, points}
use Rattle.promql_type.specs.declared.kind.Kind.{Kind}
use Rattle.promql_type.specs.declared.kind.Kind.TheVariants.{Scalar, Vector, Windows}
use Rattle.ticks.specs.declared.moment.Ms.{Ms}
use Rattle.logical_plan.specs.PlanFolds.{by_node}
use Rattle.logical_plan.specs.PlanTypes.{Typing, are_sound, is_element, is_group, is_of, is_pair, is_relabel, is_sound, is_stamped, is_unstamped, is_window, kinds_of, node_typed, node_typing, typing}
use Rattle.logical_plan.specs.Validity.{HasOnePattern, Measure, all_parts, all_replaced, are_few, children, deepest, measured, node_measure}
use Rattle.logical_plan.specs.declared.nodes.Plan.{Plan}
use Rattle.logical_plan.specs.declared.nodes.PlanNode.{PlanNode}
use Rattle.logical_plan.specs.declared.nodes.PlanNode.TheOpen.{PlanNode-F}
use Rattle.logical_plan.specs.declared.nodes.PlanNode.TheViews.{out-PlanNode}
use Rattle.logical_plan.specs.declared.nodes.PlanNode.TheFolds.{fold-PlanNode, map-PlanNode}
use Rattle.plan_agreement.specs.DescentLaws.{IsValidPart, PartsOfValidAreValid, ValidIsValidPart}
use Rattle.plan_agreement.proofs.Ands.{left, right}
use Rattle.plan_agreement.proofs.Fewer.{plans_less}

-- ---- types

abbrev IsTypedPart : Plan → Type 0
IsTypedPart p = (typing p).typed ≡ true

abbrev typings : PlanNode-F PlanNode Plan → PlanNode-F Typing Typing
typings = map-PlanNode PlanNode Plan Typing Typing (fold-PlanNode Typing Typing node_typing (λ p. p.node)) typing

sound_part : (p : Plan) → is_sound (typing p) ≡ true → IsTypedPart p
sound_part p e = left (typing p).typed (is_unstamped (typing p).select) e

of_part : (k : Kind) (p : Plan) → is_of k (typing p) ≡ true → IsTypedPart p
of_part k p e = sound_part p (left (is_sound (typing p)) (is_kind k (typing p).kind) e)

two_parts : (j k : Kind) (p q : Plan) → (is_of j (typing p) && is_of k (typing q)) ≡ true → AllByRecursion IsTypedPart (p ∷ q ∷ [])
two_parts j k p q e = (of_part j p (left (is_of j (typing p)) (is_of k (typing q)) e), (of_part k q (right (is_of j (typing p)) (is_of k (typing q)) e), tt))

all_parts_typed : (ps : List Plan) → are_sound (map typing ps) ≡ true → AllByRecursion IsTypedPart ps
all_parts_typed [] e = tt
all_parts_typed (p ∷ ps) e = (sound_part p (left (is_sound (typing p)) (are_sound (map typing ps)) e), all_parts_typed ps (right (is_sound (typing p)) (are_sound (map typing ps)) e))

-- a first child and others, whatever they fit
more_typed : (p : Plan) (ps : List Plan) (fits : Bool) → (is_sound (typing p) && are_sound (map typing ps) && fits) ≡ true → AllByRecursion IsTypedPart (p ∷ ps)
more_typed p ps fits e = all_parts_typed (p ∷ ps) (left (is_sound (typing p) && are_sound (map typing ps)) fits e)

children_typed : (y : PlanNode-F PlanNode Plan) → node_typed (typings y) ≡ true → AllByRecursion IsTypedPart (children y)
children_typed (PlanNode-F.Number value) e = tt
children_typed PlanNode-F.Time e = tt
children_typed (PlanNode-F.Select rules moment stamped) e = tt
children_typed (PlanNode-F.Range rules moment range) e = tt
children_typed (PlanNode-F.Subquery p range step moment) e = (of_part Vector p e, tt)
children_typed (PlanNode-F.Element f p ps) e = more_typed p ps (is_element f (typing p).kind (kinds_of (map typing ps))) e
children_typed (PlanNode-F.Stamp p) e =
    (left (typing p).typed (is_stamped (typing p).select) (left ((typing p).typed && is_stamped (typing p).select) (is_kind Vector (typing p).kind) e), tt)
children_typed (PlanNode-F.Window f p ps) e = more_typed p ps (is_window f (typing p).kind (kinds_of (map typing ps))) e
children_typed (PlanNode-F.Absent labels p) e = (of_part Vector p e, tt)
children_typed (PlanNode-F.Buckets p q) e = two_parts Scalar Vector p q e
children_typed (PlanNode-F.Relabel rule p) e = (of_part Vector p (right (is_relabel rule) (is_of Vector (typing p)) e), tt)
children_typed (PlanNode-F.Sort down p) e = (of_part Vector p e, tt)
children_typed (PlanNode-F.ScalarOf p) e = (of_part Vector p e, tt)
children_typed (PlanNode-F.VectorOf p) e = (of_part Scalar p e, tt)
children_typed (PlanNode-F.Group f grouping ps label) e = all_parts_typed ps (left (are_sound (map typing ps)) (is_group f (kinds_of (map typing ps)) label) e)
children_typed (PlanNode-F.Pair op p q pairing) e =
    let both : (is_sound (typing p) && is_sound (typing q)) ≡ true = left (is_sound (typing p) && is_sound (typing q)) (is_pair op pairing (typing p).kind (typing q).kind) e in
    (sound_part p (left (is_sound (typing p)) (is_sound (typing q)) both), (sound_part q (right (is_sound (typing p)) (is_sound (typing q)) both), tt))
children_typed (PlanNode-F.Set op p q pairing) e = two_parts Vector Vector p q e
children_typed (PlanNode-F.Filter p rules) e = (sound_part p (left (is_sound (typing p)) (is_kind Vector (typing p).kind || is_kind Windows (typing p).kind) e), tt)
children_typed (PlanNode-F.Ratio p q) e = two_parts Vector Vector p q e
children_typed (PlanNode-F.Once p) e = (e, tt)
children_typed (PlanNode-F.Gather expr kind engines) e = tt

-- ---- limits

abbrev measures : PlanNode-F PlanNode Plan → PlanNode-F (ℕ → Measure) Measure
measures = map-PlanNode PlanNode Plan (ℕ → Measure) Measure (fold-PlanNode (ℕ → Measure) Measure node_measure (λ p. p.node p.at)) measured

some_points : (length step : Ms) → pos 0 <ℤ length.0 → 1 ≤ points length step
some_points length step h = by length.0 h
  where
    rounded_up : (n k : ℕ) → 0 < n → 0 < k → 1 ≤ div_ceil n k
    rounded_up n k h l = grind arith

    by : (z : ℤ) → pos 0 <ℤ z → 1 ≤ div_ceil (unsigned_abs z) (max 1 (unsigned_abs step.0))
    by (pos n) h = rounded_up n (max 1 (unsigned_abs step.0)) (grind arith) (omega arith)
    by (negsuc n) h = absurd (grind arith)

module _ (longest latest : ℕ) (whole : Plan) where
  abbrev Fits : Part → Type 0
  Fits = IsWithin (λ rules. ⊤) longest latest

  abbrev Within : List Part → Type 0
  Within parts = AreWithin (λ rules. ⊤) longest latest parts

  -- label_replace nodes of which those of one place have one pattern, and which are among those of the whole
  record AreKnown (replaced : List (ℕ × PatternId)) : Type 0 where
    patterns : HasOnePattern replaced
    among : (r : ℕ × PatternId) → Contains replaced r → Contains (measured whole).replaced r

  fewer_known : (xs ys : List (ℕ × PatternId)) → ((r : ℕ × PatternId) → Contains xs r → Contains ys r) → AreKnown ys → AreKnown xs
  fewer_known xs ys f k = record { patterns = λ a b in_a in_b same. k.patterns a b (f a in_a) (f b in_b) same; among = λ r in_r. k.among r (f r in_r) }

  record IsSmall (m : Measure) : Type 0 where
    within : Within m.parts
    known : AreKnown m.replaced
    few : m.few 1 ≡ true
    shallow : m.depth ≤ deepest

  abbrev depths : List Plan → List ℕ
  depths ps = map (λ (m : Measure). m.depth) (map measured ps)

  -- children of which all together are small
  each_small : (own : List Part) (replaced : List (ℕ × PatternId)) (ps : List Plan)
      → Within (own ++ all_parts (map measured ps)) → AreKnown (replaced ++ all_replaced (map measured ps)) → are_few (map measured ps) 1 ≡ true → greatest (depths ps) ≤ deepest
      → AllByRecursion (λ (p : Plan). IsSmall (measured p)) ps
  each_small own replaced [] w k f d = tt
  each_small own replaced (p ∷ ps) w k f d =
      let rest : List (ℕ × PatternId) = all_replaced (map measured ps) in
      let all : Within ((measured p).parts ++ all_parts (map measured ps)) = back_of Fits own ((measured p).parts ++ all_parts (map measured ps)) w in
      let known : AreKnown ((measured p).replaced ++ rest) =
      fewer_known ((measured p).replaced ++ rest) (replaced ++ ((measured p).replaced ++ rest)) (Contains-append_right replaced ((measured p).replaced ++ rest)) k in (
        record {
          within = front_of Fits (measured p).parts (all_parts (map measured ps)) all;
          known = fewer_known (measured p).replaced ((measured p).replaced ++ rest) (Contains-append_left (measured p).replaced rest) known;
          few = left ((measured p).few 1) (are_few (map measured ps) 1) f;
          shallow = omega arith;
        },
        each_small [] [] ps (back_of Fits (measured p).parts (all_parts (map measured ps)) all)
            (fewer_known rest ((measured p).replaced ++ rest) (Contains-append_right (measured p).replaced rest) known)
            (right ((measured p).few 1) (are_few (map measured ps) 1) f) (omega arith),
      )

  -- of a node that is one deeper than they are
  below : (own : List Part) (replaced : List (ℕ × PatternId)) (ps : List Plan)
      → IsSmall (record { parts = own ++ all_parts (map measured ps); replaced = replaced ++ all_replaced (map measured ps); few = are_few (map measured ps); depth = 1 + greatest (depths ps) })
      → AllByRecursion (λ (p : Plan). IsSmall (measured p)) ps
  below own replaced ps s = each_small own replaced ps s.within s.known s.few (let deep : 1 + greatest (depths ps) ≤ deepest = s.shallow in omega arith)

  relabelled : (at : ℕ) (rule : Relabel) (p : Plan) → IsSmall (node_measure {A = ℕ → Measure} (PlanNode-F.Relabel rule (measured p)) at) → AllByRecursion (λ (p : Plan). IsSmall (measured p)) (p ∷ [])
  relabelled at (relabelling.Replace target template source pattern) p s = below [] ((at, pattern) ∷ []) (p ∷ []) s
  relabelled at (relabelling.Join target separator sources) p s = below [] [] (p ∷ []) s
  relabelled at (relabelling.Filter rules) p s = below [] [] (p ∷ []) s

  asked_again : (at : ℕ) (p : Plan) (length step : Ms) (moment : Moment) → IsSmall (node_measure {A = ℕ → Measure} (PlanNode-F.Subquery (measured p) length step moment) at) → AllByRecursion (λ (p : Plan). IsSmall (measured p)) (p ∷ [])
  asked_again at p length step moment s =
      let more : ℕ = 1 * points length step in
      let some : 1 ≤ more = (let h : 1 ≤ points length step = some_points length step s.within.1.0.0 in omega arith) in
      let inside : (measured p).few more ≡ true = right (not (nat_lt most_points more)) ((measured p).few more) s.few in
      below (Part.of_moment moment ∷ Part.of_length length ∷ Part.of_length step ∷ []) [] (p ∷ [])
      (record { within = s.within; known = s.known; few = ap (λ (b : Bool). b && true) (plans_less p 1 more some inside); shallow = s.shallow })

  children_small : (y : PlanNode-F PlanNode Plan) (at : ℕ) → IsSmall (node_measure (measures y) at) → AllByRecursion (λ (p : Plan). IsSmall (measured p)) (children y)
  children_small (PlanNode-F.Number value) at s = tt
  children_small PlanNode-F.Time at s = tt
  children_small (PlanNode-F.Select rules moment stamped) at s = tt
  children_small (PlanNode-F.Range rules moment range) at s = tt
  children_small (PlanNode-F.Subquery p range step moment) at s = asked_again at p range step moment s
  children_small (PlanNode-F.Element f p ps) at s = below [] [] (p ∷ ps) s
  children_small (PlanNode-F.Stamp p) at s = below [] [] (p ∷ []) s
  children_small (PlanNode-F.Window f p ps) at s = below [] [] (p ∷ ps) s
  children_small (PlanNode-F.Absent labels p) at s = below [] [] (p ∷ []) s
  children_small (PlanNode-F.Buckets p q) at s = below [] [] (p ∷ q ∷ []) s
  children_small (PlanNode-F.Relabel rule p) at s = relabelled at rule p s
  children_small (PlanNode-F.Sort down p) at s = below [] [] (p ∷ []) s
  children_small (PlanNode-F.ScalarOf p) at s = below [] [] (p ∷ []) s
  children_small (PlanNode-F.VectorOf p) at s = below [] [] (p ∷ []) s
  children_small (PlanNode-F.Group f grouping ps label) at s = below [] [] ps s
  children_small (PlanNode-F.Pair op p q pairing) at s = below [] [] (p ∷ q ∷ []) s
  children_small (PlanNode-F.Set op p q pairing) at s = below [] [] (p ∷ q ∷ []) s
  children_small (PlanNode-F.Filter p rules) at s = each_small [] [] (p ∷ []) s.within s.known s.few (let deep : (measured p).depth ≤ deepest = s.shallow in omega arith)
  children_small (PlanNode-F.Ratio p q) at s = each_small [] [] (p ∷ q ∷ []) s.within s.known s.few s.shallow
  children_small (PlanNode-F.Once p) at s = (s, tt)
  children_small (PlanNode-F.Gather expr kind engines) at s = tt

  -- ---- plans

  both_ways : (ps : List Plan) → AllByRecursion IsTypedPart ps → AllByRecursion (λ (p : Plan). IsSmall (measured p)) ps → AllByRecursion (IsValidPart longest latest whole) ps
  both_ways [] t s = tt
  both_ways (p ∷ ps) t s =
      (record { typed = t.0; within = s.0.within; patterns = s.0.known.patterns; few = s.0.few; shallow = s.0.shallow; among = s.0.known.among }, both_ways ps t.1 s.1)

  pub goes_down : (p : Plan) → IsValidPart longest latest whole p → AllByRecursion (IsValidPart longest latest whole) (children (out-PlanNode p.node))
  goes_down p v =
      let y : PlanNode-F PlanNode Plan = out-PlanNode p.node in
      let typed : node_typed (typings y) ≡ true = ap (λ (t : Typing). t.typed) (sym (by_node node_typing (λ p. p.node) p)) ∙ v.typed in
      let small : IsSmall (measured p) = record { within = v.within; known = record { patterns = v.patterns; among = v.among }; few = v.few; shallow = v.shallow } in
      both_ways (children y) (children_typed y typed) (children_small y p.at (subst IsSmall (by_node node_measure (λ p. p.node p.at) p) small))

pub valid_part : ValidIsValidPart
valid_part longest latest p valid = record {
  typed = left (typing p).typed (is_unstamped (typing p).select) valid.typed;
  within = valid.within;
  patterns = valid.patterns;
  few = valid.few;
  shallow = valid.shallow;
  among = λ r in_r. in_r;
}

pub parts_valid : PartsOfValidAreValid
parts_valid longest latest whole p v = goes_down longest latest whole p v
