-- A valid plan stays valid where what is put in the place of its parts fits in there and is no more than these.
use Rattle.std.proofs.Common.{◌≡◌, ◌≤◌, ◌⊎◌, inl, inr, ℕ, ◌+◌, ◌*◌, List, [], ◌∷◌, ◌++◌, map, refl, true, Some, arith}
use Rattle.std.specs.Prelude.{not, nat_lt, Contains, ⊤}
use Rattle.std.specs.List.{AllZip}
use Rattle.std.proofs.lemmas.List.Elements.{Contains-append_cases, Contains-append_left, Contains-append_right}
use Rattle.holders.specs.Joins.{back_of, both_of, front_of}
use Rattle.label_set.specs.declared.rules.PatternId.{PatternId}
use Rattle.label_set.specs.declared.rules.Relabel.{Relabel}
use Rattle.label_set.specs.declared.rules.Relabel.TheVariants as relabelling
use Rattle.label_set.specs.declared.rules.Rule.{Rule}
use Rattle.promql_ast.specs.Depth.{greatest}
use Rattle.promql_ast.specs.Parts.{AreWithin, IsWithin, Part}
use Rattle.promql_ast.specs.declared.tree.Moment.{Moment}
use Rattle.promql_type.specs.Points.{most_points, points}
use Rattle.ticks.specs.declared.moment.Ms.{Ms}
use Rattle.logical_plan.specs.declared.nodes.Plan.{Plan}
use Rattle.logical_plan.specs.declared.nodes.PlanNode.TheOpen.{PlanNode-F}
use Rattle.logical_plan.specs.PlanTypes.{is_unstamped, node_typing, typing}
use Rattle.logical_plan.specs.Validity.{IsValid, Measure, all_parts, all_replaced, are_few, measured, node_measure}
use Rattle.plan_agreement.specs.DescentLaws.{DescentsKeepValidity, IsNoMore, IsValidPart}
use Rattle.plan_agreement.specs.Descents.{descended}
use Rattle.plan_agreement.specs.SameNodes.{SameNode, number, time, select, range, subquery, element, stamp, window, absent, buckets, relabel, sort, scalar_of, vector_of, group, pair, set, filtered, ratio, once, gather}
use Rattle.plan_agreement.proofs.Ands.{and, both_follow, right}
use Rattle.plan_agreement.proofs.Descends.{every_in}
use Rattle.plan_agreement.proofs.Types.{Kept, Stays, fits_in}
use Rattle.plan_agreement.proofs.Types.{levels as types_levels}
use Rattle.plan_agreement.proofs.ValidParts.{goes_down, valid_part}

abbrev Replaced : Type 0
Replaced = List (ℕ × PatternId)

module _ (longest latest : ℕ) where
  abbrev Within : List Part → Type 0
  Within parts = AreWithin (λ rules. ⊤) longest latest parts

  abbrev Fits : Part → Type 0
  Fits = IsWithin (λ rules. ⊤) longest latest

  -- what is within the limits stays so, no pattern is new, and no plan is deeper
  record NoMore (a b : Measure) : Type 0 where
    within : Within b.parts → Within a.parts
    replaced : (r : ℕ × PatternId) → Contains a.replaced r → Contains b.replaced r
    few : (around : ℕ) → b.few around ≡ true → a.few around ≡ true
    shallow : a.depth ≤ b.depth

  abbrev AllNoMore : List Measure → List Measure → Type 0
  AllNoMore = AllZip NoMore

  itself : (m : Measure) → NoMore m m
  itself m = record { within = λ w. w; replaced = λ r c. c; few = λ around f. f; shallow = omega arith }

  -- ---- lists of children

  abbrev depths : List Measure → List ℕ
  depths ms = map (λ (m : Measure). m.depth) ms

  all_within : (xs ys : List Measure) → AllNoMore xs ys → Within (all_parts ys) → Within (all_parts xs)
  all_within [] [] z w = tt
  all_within [] (y ∷ ys) z w = absurd z
  all_within (x ∷ xs) [] z w = absurd z
  all_within (x ∷ xs) (y ∷ ys) z w = both_of Fits x.parts (all_parts xs) (z.0.within (front_of Fits y.parts (all_parts ys) w)) (all_within xs ys z.1 (back_of Fits y.parts (all_parts ys) w))

  all_there : (xs ys : List Measure) → AllNoMore xs ys → (r : ℕ × PatternId) → Contains (all_replaced xs) r → Contains (all_replaced ys) r
  all_there [] [] z r k = k
  all_there [] (y ∷ ys) z r k = absurd z
  all_there (x ∷ xs) [] z r k = absurd z
  all_there (x ∷ xs) (y ∷ ys) z r k = by (Contains-append_cases x.replaced (all_replaced xs) r k) (all_there xs ys z.1 r)
    where
      by : Contains x.replaced r ⊎ Contains (all_replaced xs) r → (Contains (all_replaced xs) r → Contains (all_replaced ys) r) → Contains (y.replaced ++ all_replaced ys) r
      by (inl h) rest = Contains-append_left y.replaced (all_replaced ys) r (z.0.replaced r h)
      by (inr h) rest = Contains-append_right y.replaced (all_replaced ys) r (rest h)

  own_there : (own : Replaced) (xs ys : List Measure) → AllNoMore xs ys → (r : ℕ × PatternId) → Contains (own ++ all_replaced xs) r → Contains (own ++ all_replaced ys) r
  own_there own xs ys z r k = by (Contains-append_cases own (all_replaced xs) r k)
    where
      by : Contains own r ⊎ Contains (all_replaced xs) r → Contains (own ++ all_replaced ys) r
      by (inl h) = Contains-append_left own (all_replaced ys) r h
      by (inr h) = Contains-append_right own (all_replaced ys) r (all_there xs ys z r h)

  all_few : (xs ys : List Measure) → AllNoMore xs ys → (around : ℕ) → are_few ys around ≡ true → are_few xs around ≡ true
  all_few [] [] z around e = refl
  all_few [] (y ∷ ys) z around e = absurd z
  all_few (x ∷ xs) [] z around e = absurd z
  all_few (x ∷ xs) (y ∷ ys) z around e = both_follow (y.few around) (are_few ys around) (x.few around) (are_few xs around) (z.0.few around) (all_few xs ys z.1 around) e

  all_shallow : (xs ys : List Measure) → AllNoMore xs ys → greatest (depths xs) ≤ greatest (depths ys)
  all_shallow [] [] z = omega arith
  all_shallow [] (y ∷ ys) z = absurd z
  all_shallow (x ∷ xs) [] z = absurd z
  all_shallow (x ∷ xs) (y ∷ ys) z = omega (arith, z.0.shallow, all_shallow xs ys z.1)

  -- ---- nodes

  -- a node over children, which is one deeper than they are
  over : (own : List Part) (replaced : Replaced) (xs ys : List Measure) → AllNoMore xs ys
      → NoMore (record { parts = own ++ all_parts xs; replaced = replaced ++ all_replaced xs; few = are_few xs; depth = 1 + greatest (depths xs) })
      (record { parts = own ++ all_parts ys; replaced = replaced ++ all_replaced ys; few = are_few ys; depth = 1 + greatest (depths ys) })
  over own replaced xs ys z = record {
    within = λ w. both_of Fits own (all_parts xs) (front_of Fits own (all_parts ys) w) (all_within xs ys z (back_of Fits own (all_parts ys) w));
    replaced = own_there replaced xs ys z;
    few = all_few xs ys z;
    shallow = omega (arith, all_shallow xs ys z);
  }

  -- a node over children that isn't counted
  beside : (xs ys : List Measure) → AllNoMore xs ys
      → NoMore (record { parts = all_parts xs; replaced = all_replaced xs; few = are_few xs; depth = greatest (depths xs) })
      (record { parts = all_parts ys; replaced = all_replaced ys; few = are_few ys; depth = greatest (depths ys) })
  beside xs ys z = record { within = all_within xs ys z; replaced = all_there xs ys z; few = all_few xs ys z; shallow = all_shallow xs ys z }

  one : (own : List Part) (replaced : Replaced) (a b : Measure) → NoMore a b
      → NoMore (record { parts = own ++ all_parts (a ∷ []); replaced = replaced ++ all_replaced (a ∷ []); few = are_few (a ∷ []); depth = 1 + greatest (depths (a ∷ [])) })
      (record { parts = own ++ all_parts (b ∷ []); replaced = replaced ++ all_replaced (b ∷ []); few = are_few (b ∷ []); depth = 1 + greatest (depths (b ∷ [])) })
  one own replaced a b k = over own replaced (a ∷ []) (b ∷ []) (k, tt)

  relabelled : (at : ℕ) (rule : Relabel) (a b : Measure) → NoMore a b → NoMore (node_measure {A = ℕ → Measure} (PlanNode-F.Relabel rule a) at) (node_measure {A = ℕ → Measure} (PlanNode-F.Relabel rule b) at)
  relabelled at (relabelling.Replace target template source pattern) a b k = one [] ((at, pattern) ∷ []) a b k
  relabelled at (relabelling.Join target separator sources) a b k = one [] [] a b k
  relabelled at (relabelling.Filter rules) a b k = one [] [] a b k

  asked_again : (at : ℕ) (a b : Measure) (length step : Ms) (moment : Moment) → NoMore a b
      → NoMore (node_measure {A = ℕ → Measure} (PlanNode-F.Subquery a length step moment) at) (node_measure {A = ℕ → Measure} (PlanNode-F.Subquery b length step moment) at)
  asked_again at a b length step moment k =
      let o = one (Part.of_moment moment ∷ Part.of_length length ∷ Part.of_length step ∷ []) [] a b k in
      record {
        within = o.within;
        replaced = o.replaced;
        few = λ around e.
            let more : ℕ = around * points length step in
            both_follow (not (nat_lt most_points more)) (b.few more) (not (nat_lt most_points more)) (a.few more) (λ h. h) (k.few more) e;
        shallow = o.shallow;
      }

  passing : (at : ℕ) (a b : Measure) (rules : List Rule) → NoMore a b → NoMore (node_measure {A = ℕ → Measure} (PlanNode-F.Filter a rules) at) (node_measure {A = ℕ → Measure} (PlanNode-F.Filter b rules) at)
  passing at a b rules k =
      let o = beside (a ∷ []) (b ∷ []) (k, tt) in
      record { within = o.within; replaced = o.replaced; few = o.few; shallow = k.shallow }

  levels : (at : ℕ) (y z : PlanNode-F (ℕ → Measure) Measure) → SameNode NoMore y z → NoMore (node_measure y at) (node_measure z at)
  levels at _ _ (number value) = itself _
  levels at _ _ time = itself _
  levels at _ _ (select rules moment stamped) = itself _
  levels at _ _ (range rules moment length) = itself _
  levels at _ _ (subquery a b length step moment k) = asked_again at a b length step moment k
  levels at _ _ (element f a b xs ys k z) = over [] [] (a ∷ xs) (b ∷ ys) (k, z)
  levels at _ _ (stamp a b k) = one [] [] a b k
  levels at _ _ (window f a b xs ys k z) = over [] [] (a ∷ xs) (b ∷ ys) (k, z)
  levels at _ _ (absent labels a b k) = one [] [] a b k
  levels at _ _ (buckets a b c d k l) = over [] [] (a ∷ b ∷ []) (c ∷ d ∷ []) (k, (l, tt))
  levels at _ _ (relabel rule a b k) = relabelled at rule a b k
  levels at _ _ (sort down a b k) = one [] [] a b k
  levels at _ _ (scalar_of a b k) = one [] [] a b k
  levels at _ _ (vector_of a b k) = one [] [] a b k
  levels at _ _ (group f grouping xs ys label z) = over [] [] xs ys z
  levels at _ _ (pair op a b c d pairing k l) = over [] [] (a ∷ b ∷ []) (c ∷ d ∷ []) (k, (l, tt))
  levels at _ _ (set op a b c d pairing k l) = over [] [] (a ∷ b ∷ []) (c ∷ d ∷ []) (k, (l, tt))
  levels at _ _ (filtered a b rules k) = passing at a b rules k
  levels at _ _ (ratio a b c d k l) = beside (a ∷ b ∷ []) (c ∷ d ∷ []) (k, (l, tt))
  levels at _ _ (once a b k) = k
  levels at _ _ (gather expr kind engines) = itself _

pub validity_stays : DescentsKeepValidity
validity_stays longest latest f p puts valid =
    let v : IsValidPart longest latest p p = valid_part longest latest p valid in
    let fits : (q r : Plan) → f q ≡ Some r → IsValidPart longest latest p q → Stays (typing r) (typing q) = λ q r e h typed. fits_in r q (puts q r e h).0 in
    let no_more : (q r : Plan) → f q ≡ Some r → IsValidPart longest latest p q → NoMore longest latest (measured r) (measured q) = λ q r e h.
    let k : IsNoMore r q = (puts q r e h).1 in
    record { within = k.within longest latest; replaced = k.patterns; few = k.few; shallow = k.shallow } in
    let t : Kept (typing (descended f p)) (typing p) = every_in f node_typing (λ p. p.node) Stays (λ at y z s. types_levels y z s) (IsValidPart longest latest p) (goes_down longest latest p) fits p v v.typed in
    let k : NoMore longest latest (measured (descended f p)) (measured p) =
    every_in f node_measure (λ p. p.node p.at) (NoMore longest latest) (levels longest latest) (IsValidPart longest latest p) (goes_down longest latest p) no_more p v in
    let valid_still : IsValid longest latest (descended f p) = record {
      typed = and (typing (descended f p)).typed (is_unstamped (typing (descended f p)).select) t.typed (t.unstamped (right (typing p).typed (is_unstamped (typing p).select) valid.typed));
      within = k.within valid.within;
      patterns = λ a b in_a in_b same. valid.patterns a b (k.replaced a in_a) (k.replaced b in_b) same;
      few = k.few 1 valid.few;
      shallow = omega (arith, k.shallow, valid.shallow);
    } in
    (valid_still, t.kind)
