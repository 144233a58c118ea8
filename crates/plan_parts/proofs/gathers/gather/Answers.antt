use Rattle.std.proofs.Common.{◌≡◌, ◌∙◌, ◌++◌, ℕ, List, [], ◌∷◌, Option, Some, true, false, ap, refl, subst, sym}
use Rattle.std.specs.Prelude.{ℤ, IsTrue, is_some, pos}
use Rattle.exchange.specs.Exchanging.{Exchanging}
use Rattle.exchange.specs.Requests.{AreRising}
use Rattle.exchange.specs.declared.request.Request.{Request}
use Rattle.logical_plan.specs.declared.nodes.PlanNode.TheVariants as node
use Rattle.match_rule.specs.Patterns.{HaveTheirPatterns}
use Rattle.plan_serving.specs.Asking.{asked_selector, is_rising, is_rows_part}
use Rattle.plan_tree.specs.declared.node.Node.TheVariants.{Gather}
use Rattle.promql_ast.specs.declared.tree.Selector.{Selector}
use Rattle.promql_meaning.specs.Selecting.{lookback}
use Rattle.ticks.specs.Walks.{HasTimes, IsInstant, LeadsToTimes, moment_at}
use Rattle.ticks.specs.declared.walk.Walk.{Walk}
use Rattle.plan_parts.specs.Courses.{IsMomentWithin}
use Rattle.plan_parts.specs.Parts.{IsPart}
use Rattle.plan_parts.specs.Requested.{asked_with}
use Rattle.plan_parts.proofs.Askable.{no_windows, same_selector}
use Rattle.plan_parts.proofs.Leaf.{leaf_may, leaf_part, not_asked}
use Rattle.plan_parts.proofs.gathers.gather.Goals as goal

-- ---- what is added

pub add-requires-clause-times : goal.add-requires-clause-times
add-requires-clause-times c =
    let part = c.in_ok-part.part in
    let s : Selector = c.in-Some.selector.now in
    let named : asked_selector part.kind part.expr ≡ Some s = (λ j. asked_selector (c.in_ok-part.ensures.kind j) (c.in_ok-part.ensures.expr j)) ∙ c.in-Some.ensures.some in
    record { walk = subst LeadsToTimes (sym (c.in_ok-walk.ensures ∙ c.walk.ensures.walk)) c.walk.ensures.times; windows = λ k. absurd (no_windows part.kind part.expr s named k) }

pub add-requires-clause-rising : goal.add-requires-clause-rising
add-requires-clause-rising c = subst AreRising (sym (c.in_ok-asked.ensures ∙ sym c.as_slice.ensures)) (c.if-not-are_rising.ensures.rising refl)

-- ---- the leaf

pub returns-clause-part : goal.returns-clause-part
returns-clause-part c = λ samples engines p e.
    let kept = c.args.patterns.now in
    let own = c.args.span.now in
    let asked = asked_with samples kept own engines in
    let walk = c.args.course.now.walk in
    let before = c.args.exchange.now.requests in
    let part = c.in_ok-part.part in
    let s : Selector = c.in-Some.selector.now in
    let r : Request = record { part = part; walk = c.in_ok-walk.walk; moment = c.instants_alone.result; range = record { 0 = pos 0 }; engines = c.in_ok-asked.asked } in
    let named : asked_selector part.kind part.expr ≡ Some s = (λ j. asked_selector (c.in_ok-part.ensures.kind j) (c.in_ok-part.ensures.expr j)) ∙ c.in-Some.ensures.some in
    let rows : IsTrue (is_rows_part part.kind part.expr) = ap (λ (o : Option Selector). is_some o) named in
    let here : node.Gather c.args.expr.now c.args.kind.now c.args.asked.now ≡ node.Gather part.expr part.kind r.engines =
    λ j. node.Gather (sym c.in_ok-part.ensures.expr j) (sym c.in_ok-part.ensures.kind j) (sym c.in_ok-asked.ensures j) in
    let walk_is : r.walk ≡ walk = c.in_ok-walk.ensures ∙ c.walk.ensures.walk in
    let rules : HaveTheirPatterns kept s.rules = subst (HaveTheirPatterns kept) c.as_slice-2.ensures (c.if-not-are_rules_kept.ensures.0 refl) in
    let leads : LeadsToTimes r.walk = subst LeadsToTimes (sym walk_is) c.walk.ensures.times in
    let times : (t : ℤ) → IsInstant r.walk t → HasTimes (moment_at c.settled-moment.result t) lookback =
    λ t on. c.if-not-is_within.ensures.times refl t (subst (λ (w : Walk). IsInstant w t) walk_is on) in
    let now : c.add.new.self.requests ≡ before ++ r ∷ [] = ap (λ (x : Exchanging). x.requests) c.in_ok-place.ensures.added in
    subst (λ (rs : List Request). IsPart asked walk before rs p (record { tree = Gather c.in_ok-place.place; scalar = false; own = false })) (sym now)
    (subst (λ (k : ℕ). IsPart asked walk before (before ++ r ∷ []) p (record { tree = Gather k; scalar = false; own = false })) (sym c.in_ok-place.ensures.place)
    (leaf_part c.trees_stay_within.ensures.gather asked walk before p r (e ∙ here) walk_is rows
    (leaf_may c.walk_moments_are_moments.ensures samples kept own engines r s c.settled-moment.result named rules (c.settled-moment.ensures.moment [] kept) leads times)))

-- ---- what is served

pub returns-in_default-clause-total : goal.returns-in_default-clause-total
returns-in_default-clause-total c = λ n s few near named rising have within.
    absurd (not_asked c.selector_asked.result (asked_selector c.args.kind.now c.args.expr.now) s c.in_default.not-Some c.selector_asked.ensures.none named)

pub returns-then-not-are_rising-clause-total : goal.returns-then-not-are_rising-clause-total
returns-then-not-are_rising-clause-total c = λ n s few near named rising have within.
    let none : false ≡ true = c.if-not-are_rising.ensures.told ∙ ap is_rising c.as_slice.ensures ∙ rising in absurd (cc)

pub returns-then-not-are_rules_kept-clause-total : goal.returns-then-not-are_rules_kept-clause-total
returns-then-not-are_rules_kept-clause-total c = λ n s few near named rising have within.
    let kept = c.args.patterns.now in
    let same : s ≡ c.in-Some.selector.now = same_selector s c.in-Some.selector.now (sym named ∙ c.in-Some.ensures.some) in
    let own = subst (λ (x : Selector). HaveTheirPatterns kept x.rules) same have in
    let none : false ≡ true = c.if-not-are_rules_kept.ensures.1 (subst (HaveTheirPatterns kept) (sym c.as_slice-2.ensures) own) in absurd (cc)

pub returns-then-not-is_within-clause-total : goal.returns-then-not-is_within-clause-total
returns-then-not-is_within-clause-total c = λ n s few near named rising have within.
    let same : s ≡ c.in-Some.selector.now = same_selector s c.in-Some.selector.now (sym named ∙ c.in-Some.ensures.some) in
    let own = subst (λ (x : Selector). IsMomentWithin x.moment) same within in
    let none : false ≡ true = c.if-not-is_within.ensures.near n few near (c.settled-moment.ensures.near own) in absurd (cc)
