-- One selector of each kind has the bases that all have.
use Rattle.std.proofs.Common.{◌≡◌, ◌∙◌, ℕ, List, [], ◌∷◌, ◌++◌, ap, sym, refl, Some, None, Bool, true, false, cond}
use Rattle.std.specs.Prelude.{Option, option_map, ◌&&◌, ◌||◌, not}
use Rattle.std.specs.List.{find, list_all, list_any}
use Rattle.std.proofs.lemmas.Bool.{and_from, and_parts}
use Rattle.label_set.specs.declared.rules.Rule.{Rule}
use Rattle.promql_ast.specs.declared.tree.Moment.{Moment}
use Rattle.ticks.specs.declared.moment.Ms.{Ms}
use Rattle.logical_plan.specs.declared.nodes.PlanNode.{PlanNode}
use Rattle.logical_plan.specs.declared.nodes.PlanNode.TheVariants as node
use Rattle.logical_plan.specs.declared.nodes.PlanNode.TheOpen.{PlanNode-F}
use Rattle.logical_plan.specs.declared.nodes.Plan.{Plan}
use Rattle.plan_rewrite.specs.RuleLaws.{member}
use Rattle.plan_rewrite.specs.RuleLists.{has_rule, is_part}
use Rattle.opt_selects.specs.Bases.{HaveSameBases, has_alike, is_alike, is_base, merge_selects, names_metric, over_base, same_moment, same_range}
use Rattle.opt_selects.specs.declared.found.Found.{Found}
use Rattle.opt_selects.proofs.BaseParts.{base_from, base_parts}
use Rattle.opt_selects.proofs.Moments.{moment_same, range_same}

-- a part of a part is a part
part_of_part : (a b c : List Rule) → is_part a b ≡ true → is_part b c ≡ true → is_part a c ≡ true
part_of_part [] b c e f = refl
part_of_part (r ∷ a) b c e f =
    let parts = and_parts (has_rule b r) (is_part a b) e in
    and_from (has_rule c r) (is_part a c) (member (has_rule c) b r parts.0 f) (part_of_part a b c parts.1 f)

module _ (p : Rule → Bool) where
  none : (rules : List Rule) → list_any p rules ≡ false → list_all (λ (rule : Rule). not (p rule)) rules ≡ true
  none [] e = refl
  none (r ∷ rules) e = by (p r) refl e (none rules)
    where
      by : (b : Bool) → p r ≡ b → (b || list_any p rules) ≡ false → (list_any p rules ≡ false → list_all (λ (rule : Rule). not (p rule)) rules ≡ true) → (not b && list_all (λ (rule : Rule). not (p rule)) rules) ≡ true
      by true is e rest = absurd (cc)
      by false is e rest = rest e

  -- a rule that passes is found in a list that has it
  found_in : (rules : List Rule) (rule : Rule) → has_rule rules rule ≡ true → p rule ≡ true → list_any p rules ≡ true
  found_in rules rule h e = by (list_any p rules) refl
    where
      by : (b : Bool) → list_any p rules ≡ b → b ≡ true
      by true is = refl
      by false is =
          let no : not true ≡ true = ap not (sym e) ∙ member (λ (r : Rule). not (p r)) rules rule h (none rules is) in
          absurd (cc)

  any_of_part : (a b : List Rule) → is_part a b ≡ true → list_any p a ≡ true → list_any p b ≡ true
  any_of_part [] b e f = absurd (cc)
  any_of_part (r ∷ a) b e f = by (p r) refl f (any_of_part a b (and_parts (has_rule b r) (is_part a b) e).1)
    where
      by : (s : Bool) → p r ≡ s → (s || list_any p a) ≡ true → (list_any p a ≡ true → list_any p b ≡ true) → list_any p b ≡ true
      by true is f rest = found_in b r (and_parts (has_rule b r) (is_part a b) e).0 is
      by false is f rest = rest f

-- what is no part of some rules is no part of a part of them
no_part : (a b rules : List Rule) → is_part a b ≡ true → not (is_part rules b) ≡ true → not (is_part rules a) ≡ true
no_part a b rules e f = by (is_part rules a) refl
  where
    by : (s : Bool) → is_part rules a ≡ s → not s ≡ true
    by true is = let no : not true ≡ true = ap not (sym (part_of_part rules a b is e)) ∙ f in absurd (cc)
    by false is = refl

-- what a selector is a base for, one that is alike is a base for
alike_base : (a b : Found) (rules : List Rule) (moment : Moment) (range : Option Ms) → is_alike a b ≡ true → is_base rules moment range b ≡ true → is_base rules moment range a ≡ true
alike_base a b rules moment range e f =
    let all = and_parts (same_moment a.moment b.moment && same_range a.range b.range && is_part a.rules b.rules) (is_part b.rules a.rules) e in
    let to = and_parts (same_moment a.moment b.moment && same_range a.range b.range) (is_part a.rules b.rules) all.0 in
    let times = and_parts (same_moment a.moment b.moment) (same_range a.range b.range) to.0 in
    let moments = moment_same a.moment b.moment times.0 in
    let ranges = range_same a.range b.range times.1 in
    let base = base_parts rules moment range b f in
    base_from rules moment range a (record {
      moments = ap (λ (m : Moment). same_moment m moment) moments ∙ base.moments;
      ranges = ap (λ (r : Option Ms). same_range r range) ranges ∙ base.ranges;
      metrics = any_of_part (λ (rule : Rule). names_metric rule && has_rule rules rule) b.rules a.rules all.1 base.metrics;
      part = part_of_part a.rules b.rules rules to.1 base.part;
      proper = no_part a.rules b.rules rules to.1 base.proper;
    })

module _ (p : Found → Bool) (one : Found) (alike_pass : (a : Found) → is_alike a one ≡ true → p one ≡ true → p a ≡ true) where
  passed_over : (kept rest : List Found) → p one ≡ false → find p (kept ++ one ∷ rest) ≡ find p (kept ++ rest)
  passed_over [] rest e = ap (λ b. cond b (Some one) (find p rest)) e
  passed_over (a ∷ kept) rest e = ap (λ (o : Option Found). cond (p a) (Some a) o) (passed_over kept rest e)

  found_before : (kept rest : List Found) → has_alike kept one ≡ true → p one ≡ true → find p (kept ++ one ∷ rest) ≡ find p (kept ++ rest)
  found_before [] rest h e = absurd (cc)
  found_before (a ∷ kept) rest h e = by (is_alike a one) refl h (λ h. found_before kept rest h e)
    where
      by : (s : Bool) → is_alike a one ≡ s → (s || has_alike kept one) ≡ true → (has_alike kept one ≡ true → find p (kept ++ one ∷ rest) ≡ find p (kept ++ rest))
          → cond (p a) (Some a) (find p (kept ++ one ∷ rest)) ≡ cond (p a) (Some a) (find p (kept ++ rest))
      by true is h again =
          let here = alike_pass a is e in
          ap (λ b. cond b (Some a) (find p (kept ++ one ∷ rest))) here ∙ sym (ap (λ b. cond b (Some a) (find p (kept ++ rest))) here)
      by false is h again = ap (λ (o : Option Found). cond (p a) (Some a) o) (again h)

  found_same : (kept rest : List Found) → has_alike kept one ≡ true → find p (kept ++ one ∷ rest) ≡ find p (kept ++ rest)
  found_same kept rest h = by (p one) refl
    where
      by : (s : Bool) → p one ≡ s → find p (kept ++ one ∷ rest) ≡ find p (kept ++ rest)
      by true is = found_before kept rest h is
      by false is = passed_over kept rest is

-- without a selector behind one that is alike each base stays
pub without_alike : (kept rest : List Found) (one : Found) → has_alike kept one ≡ true → HaveSameBases (kept ++ rest) (kept ++ one ∷ rest)
without_alike kept rest one h rules moment range =
    ap (option_map (λ (a : Found). a.rules)) (sym (found_same (is_base rules moment range) one (λ a. alike_base a one rules moment range) kept rest h))

-- selectors among which the bases are the same change each node alike
pub same_change : (some others : List Found) → HaveSameBases some others → merge_selects some ≡ merge_selects others
same_change some others same i at y = each at y i
  where
    each : (at : ℕ) (y : PlanNode-F PlanNode Plan) → merge_selects some at y ≡ merge_selects others at y
    each at (PlanNode-F.Select rules moment false) = ap (over_base at (λ r. node.Select r moment false) rules) (same rules moment None)
    each at (PlanNode-F.Range rules moment range) = ap (over_base at (λ r. node.Range r moment range) rules) (same rules moment (Some range))
    each at (PlanNode-F.Number value) = refl
    each at PlanNode-F.Time = refl
    each at (PlanNode-F.Select rules moment true) = refl
    each at (PlanNode-F.Subquery inner range step moment) = refl
    each at (PlanNode-F.Element f inner arguments) = refl
    each at (PlanNode-F.Stamp inner) = refl
    each at (PlanNode-F.Window f inner arguments) = refl
    each at (PlanNode-F.Absent labels inner) = refl
    each at (PlanNode-F.Buckets quantile inner) = refl
    each at (PlanNode-F.Relabel rule inner) = refl
    each at (PlanNode-F.Sort down inner) = refl
    each at (PlanNode-F.ScalarOf inner) = refl
    each at (PlanNode-F.VectorOf inner) = refl
    each at (PlanNode-F.Group f by arguments label) = refl
    each at (PlanNode-F.Pair op left right pairing) = refl
    each at (PlanNode-F.Set op left right pairing) = refl
    each at (PlanNode-F.Filter base rules) = refl
    each at (PlanNode-F.Ratio sum count) = refl
    each at (PlanNode-F.Once inner) = refl
    each at (PlanNode-F.Gather expr kind engines) = refl
