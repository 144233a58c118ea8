use Rattle.std.proofs.Common.{◌≡◌, ◌∙◌, ◌++◌, ℕ, [], ◌∷◌, List, Option, None, Some, false, length, refl, subst, sym, ap}
use Rattle.std.specs.Prelude.{ℤ, slice_get}
use Rattle.std.proofs.lemmas.Result.{err_from_is_err_and}
use Rattle.exchange.specs.Asked.{MayRequest}
use Rattle.exchange.specs.Exchanging.{Exchanging}
use Rattle.exchange.specs.Requests.{AreRising}
use Rattle.exchange.specs.declared.request.Request.{Request}
use Rattle.label_set.specs.declared.rules.Rule.{Rule}
use Rattle.plan_parts.specs.Adding.{get_last, one_added, requests_stay}
use Rattle.plan_parts.specs.Gathered.{IsQueryOver}
use Rattle.plan_parts.specs.Parts.{IsPart}
use Rattle.plan_parts.specs.Requested.{asked_with}
use Rattle.plan_tree.specs.Asking.{HaveRequests, HasWindowsRequest}
use Rattle.plan_tree.specs.Nodes.{CanGo, CanPass, rules_of, shape_of}
use Rattle.plan_tree.specs.Shapes.{WindowsOf}
use Rattle.plan_tree.specs.Spending.{IsFresh}
use Rattle.plan_tree.specs.Worlds.{world}
use Rattle.plan_tree.specs.declared.node.Node.{Node}
use Rattle.ticks.specs.Listed.{IsListed}
use Rattle.ticks.specs.Walks.{HasTimes, IsInstant, IsTime, LeadsToTimes, moment_at}
use Rattle.ticks.specs.declared.moment.Ms.{Ms}
use Rattle.ticks.specs.declared.walk.Walk.{Walk}
use Rattle.ticks.specs.declared.walk.WalkMoment.{WalkMoment}
use Rattle.window_parts.specs.Engines.{AreAskable, IsGatheringWithin}
use Rattle.window_parts.proofs.Askable.{may_over, windows_kind}
use Rattle.window_parts.proofs.Handed.{handed_on, none_some}
use Rattle.window_parts.proofs.Made.{gathered_part, requested}
use Rattle.window_parts.proofs.given.over_gather.Goals as goal

-- ---- what is added

pub add-requires-clause-times : goal.add-requires-clause-times
add-requires-clause-times c =
    let a = c.in-Some.ensures.askable in
    let walk_is = c.in_ok-walk.ensures ∙ c.walk.ensures.walk in
    record {
      walk = subst LeadsToTimes (sym walk_is) c.walk.ensures.times;
      windows = λ k at on. a.times at.0 (subst (λ (w : Walk). IsInstant w at.0) walk_is on);
    }

pub add-requires-clause-rising : goal.add-requires-clause-rising
add-requires-clause-rising c = c.in-Some.ensures.askable.rising

-- ---- the leaf

pub returns-clause-part : goal.returns-clause-part
returns-clause-part c = λ samples engines before p inner arguments e under one.
    let kept = c.args.patterns.now in
    let own = c.args.span.now in
    let asked = asked_with samples kept own engines in
    let walk = c.args.course.now.walk in
    let between = c.args.exchange.now.requests in
    let g = c.args.gathering in
    let moment = c.in-Some.moment in
    let range = c.in-Some.range in
    let a = c.in-Some.ensures.askable in
    let r : Request = record { part = g.part; walk = c.in_ok-walk.walk; moment = moment; range = range; engines = g.asked } in
    let walk_is : r.walk ≡ walk = c.in_ok-walk.ensures ∙ c.walk.ensures.walk in
    let now : c.add.new.self.requests ≡ between ++ r ∷ [] = ap (λ (x : Exchanging). x.requests) c.in_ok-place.ensures.added in
    let made = c.in_ok-kernel.ensures in
    let passed = c.in_ok-passed.ensures in
    let same = c.in_ok-scalar.ensures.ok in
    let instants = λ (t : ℤ) (on : IsInstant walk t). c.walk.ensures.instants t on in
    let on_walk = λ (t : ℤ) (on : IsInstant r.walk t). subst (λ (w : Walk). IsInstant w t) walk_is on in
    requested asked walk before (between ++ r ∷ []) _ p _ now
    (gathered_part asked walk before between p inner c.args.f arguments e _ c.args.scalar one r c.walk_moments_are_moments.ensures c.trees_stay_within.ensures.given g.rules a.asked under a.asks a.reaches (record { fixed = a.timed.fixed; offset = a.timed.offset })
    (λ j. WindowsOf (c.in_ok-place.ensures.place j) (made.f j) (made.moment j) (made.range j) (passed.rules j) (shape_of (same j))) refl refl
    (λ gs ps. (passed.pass, subst (λ (n : Node). CanGo (world samples gs) kept ps None n) (sym same) (one.sound.can gs ps)))
    (λ times listed. (
      record {
        r = r;
        r_at = subst (λ (k : ℕ). slice_get (between ++ r ∷ []) k ≡ Some r) (sym c.in_ok-place.ensures.place) (get_last between r);
        asks = record { kind = windows_kind g.part.kind g.part.expr a.asked a.asks; ends = sym made.moment; reaches = sym made.range };
        listed = subst (λ (w : Walk). IsListed w times) (sym walk_is) listed;
      },
      subst (HaveRequests (between ++ r ∷ []) times) (sym same) (requests_stay between (between ++ r ∷ []) (one_added between r) times c.args.scalar.tree (one.asks times listed)),
    ))
    (subst IsFresh (sym same) one.sound.fresh)
    (may_over c.walk_moments_are_moments.ensures samples kept own engines r a.asked a.asks a.reaches a.rules a.timed a.closed a.forward (subst LeadsToTimes (sym walk_is) c.walk.ensures.times) (λ t on. instants t (on_walk t on)) (λ t on. a.times t (on_walk t on)))
    instants a.times)

-- ---- what is built

pub returns-in_default-clause-total : goal.returns-in_default-clause-total
returns-in_default-clause-total c = λ n few near w. absurd (none_some c.windows_of.result c.in_default.not-Some (c.windows_of.ensures.total n few near w))

pub returns-in_err-passed-clause-total : goal.returns-in_err-passed-clause-total
returns-in_err-passed-clause-total c = λ n few near w.
    let p = err_from_is_err_and c.from_residual.result c.from_residual.ensures.1 in
    handed_on false _ _ _ p.1 p.2 (c.in_err-passed.ensures.total w.passing)
