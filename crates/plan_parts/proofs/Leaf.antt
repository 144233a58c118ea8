-- The leaf of a part that engines are asked for.
use Rattle.std.proofs.Common.{◌≡◌, ◌∙◌, ◌++◌, ℕ, false, List, [], ◌∷◌, length, Option, None, Some, refl, sym, subst}
use Rattle.std.specs.Prelude.{ℤ, IfNone, IsTrue}
use Rattle.exchange.specs.Asked.{MayRequest}
use Rattle.exchange.specs.declared.request.Request.{Request}
use Rattle.logical_plan.specs.Gathers.{given_over, windows_of}
use Rattle.logical_plan.specs.declared.nodes.Plan.{Plan}
use Rattle.logical_plan.specs.declared.nodes.PlanNode.TheVariants as node
use Rattle.match_rule.specs.Patterns.{HaveTheirPatterns}
use Rattle.op_labels.specs.Rules.{Kept}
use Rattle.plan_serving.specs.Asking.{asked_selector, is_rows_part}
use Rattle.plan_tree.specs.declared.node.Node.TheVariants.{Gather}
use Rattle.plan_work.specs.TreeBounds.{GathersStay}
use Rattle.promql_ast.specs.declared.tree.Selector.{Selector}
use Rattle.promql_meaning.specs.Selecting.{AllSeries, Asked, asked_over, lookback}
use Rattle.promql_meaning.specs.WalkMoments.{IsMomentOf, WalkMomentIsMoment}
use Rattle.ticks.specs.Listed.{IsListed}
use Rattle.ticks.specs.Walks.{HasTimes, IsInstant, LeadsToTimes, moment_at}
use Rattle.ticks.specs.declared.grid.Grid.{Grid}
use Rattle.ticks.specs.declared.walk.Walk.{Walk}
use Rattle.ticks.specs.declared.walk.WalkMoment.{WalkMoment}
use Rattle.plan_parts.specs.Adding.{each_one, get_last, one_added, own_one}
use Rattle.plan_parts.specs.Parts.{IsAskedIn, IsPart, itself}
use Rattle.plan_parts.specs.Gathered.{IsQueryOver}
use Rattle.plan_parts.specs.Requested.{asked_with}
use Rattle.plan_parts.proofs.Askable.{may_request}
use Rattle.plan_parts.proofs.Giving.{gather_step}
use Rattle.plan_parts.proofs.Meant.{given_step, rows_served, rows_steps}

-- what is asked for over one grid may be asked for over each with the same ends
pub leaf_may : WalkMomentIsMoment → (samples : AllSeries) (kept : Kept) (own : Grid) (engines : List AllSeries) (r : Request) (s : Selector) (w : WalkMoment) → asked_selector r.part.kind r.part.expr ≡ Some s → HaveTheirPatterns kept s.rules
    → IsMomentOf (asked_over [] kept own) s.moment w → LeadsToTimes r.walk → ((t : ℤ) → IsInstant r.walk t → HasTimes (moment_at w t) lookback)
    → (span : Grid) → IsQueryOver span kept (asked_with samples kept own engines) → MayRequest span kept r
leaf_may law samples kept own engines r s w is rules moment leads times span over =
    let same : asked_over [] kept own ≡ asked_over [] kept span = λ j. record { samples = []; kept = kept; start = over.starts j; end = over.ends j; engines = [] } in
    may_request law span kept r s w is rules (subst (λ (a : Asked). IsMomentOf a s.moment w) same moment) leads times

-- a leaf that stands for the request that is added for it
pub leaf_part : GathersStay → (asked : Asked) (walk : Walk) (before : List Request) (p : Plan) (r : Request) → p.node ≡ node.Gather r.part.expr r.part.kind r.engines → r.walk ≡ walk → IsTrue (is_rows_part r.part.kind r.part.expr)
    → ((span : Grid) → IsQueryOver span asked.kept asked → MayRequest span asked.kept r)
    → IsPart asked walk before (before ++ r ∷ []) p (record { tree = Gather (length before); scalar = false; own = false })
leaf_part stays asked walk before p r e walk_is rows may = record {
  sound = record { fit = tt; can = λ gathers places. tt; times = λ t i. tt; fresh = tt };
  added = one_added before r;
  owns = own_one before r;
  asks = λ times listed. record { r = r; r_at = get_last before r; asks = rows_steps r.part.kind r.part.expr rows; listed = subst (λ (w : Walk). IsListed w times) (sym walk_is) listed };
  named = each_one (λ (one : Request). IsAskedIn one p) before r (itself p e);
  make = λ span over. each_one (MayRequest span asked.kept) before r (may span over);
  scalar = λ h. absurd (cc);
  gives = λ gathers meant stay. gather_step asked (IsInstant walk) p r.part.expr r.part.kind r.engines (λ t. (gathers (length before) t).step) e
      (λ t on. meant (length before) r t (get_last before r) (rows_served r.part.kind r.part.expr rows)
      ∙ given_step r.part.kind (windows_of (given_over asked r.part.expr t [])) (gathers (length before) t) (rows_steps r.part.kind r.part.expr rows));
  within = stays asked walk p (length before);
}

-- ---- a selector that is asked for

pub not_asked : {X : Type 0} (o : Option X) (asked : Option Selector) (s : Selector) → ((x : X) → o ≡ Some x → ⊥) → IfNone o (asked ≡ None) → asked ≡ Some s → ⊥
not_asked None asked s none e is = let no : None ≡ Some s = sym e ∙ is in absurd (cc)
not_asked (Some x) asked s none e is = none x refl
