-- A plan whose selectors became parts stays typed.
use Rattle.std.proofs.Common.{◌≡◌, ◌∙◌, ℕ, List, [], ◌∷◌, ap, ap₂, refl, true}
use Rattle.std.specs.Prelude.{◌&&◌, ◌||◌, ◌++◌}
use Rattle.func_table.specs.declared.table.Func.TheVariants as func
use Rattle.label_set.specs.declared.rules.Rule.{Rule}
use Rattle.promql_ast.specs.Folds.{fold-Call, fold-Select}
use Rattle.promql_ast.specs.declared.refusal.QueryRefusal.{QueryRefusal}
use Rattle.promql_ast.specs.declared.tree.Expr.{Expr}
use Rattle.promql_ast.specs.declared.tree.Moment.{Moment}
use Rattle.promql_ast.specs.declared.tree.Node.TheOpen.{Node-F}
use Rattle.promql_ast.specs.declared.tree.Node.TheViews.{out-Node, outs-Range}
use Rattle.promql_type.specs.Judging.{Judgement, expr_step, judged, node_step}
use Rattle.promql_type.specs.Kinds.{both, is_kind}
use Rattle.promql_type.specs.Points.{crowded, crowded_expr, crowded_step}
use Rattle.promql_type.specs.Rules.{result_refusals}
use Rattle.promql_type.specs.declared.kind.Kind.{Kind}
use Rattle.promql_type.specs.declared.kind.Kind.TheVariants.{Scalar, Vector, Windows}
use Rattle.ticks.specs.declared.moment.Ms.{Ms}
use Rattle.logical_plan.specs.declared.nodes.Plan.{Plan}
use Rattle.logical_plan.specs.declared.nodes.PlanNode.TheOpen.{PlanNode-F}
use Rattle.logical_plan.specs.PlanRules.{selector_of}
use Rattle.logical_plan.specs.PlanTypes.{IsTyped, Typing, all_agree, are_sound, element_kind, has_none, is_element, is_group, is_of, is_pair, is_range, is_relabel, is_sound, is_stamped, is_unstamped, is_vector, is_window, kinds_of, node_typed, node_typing, typing}
use Rattle.opt_remote.specs.Laws.{StaysTyped, TypesAreKept}
use Rattle.opt_remote.proofs.Ands.{and, left, right}
use Rattle.opt_remote.proofs.Follows.{Child, Follows, after_of, afters, before_of, befores, instant, ranged, timestamp}
use Rattle.opt_remote.proofs.Rebuilt.{every}

-- of the same kind, typed, and with a stamp or none where it was so
record Stays (before after : Typing) : Type 0 where
  kind : after.kind ≡ before.kind
  typed : after.typed ≡ true
  unstamped : is_unstamped before.select ≡ true → is_unstamped after.select ≡ true
  stamped : is_stamped before.select ≡ true → is_stamped after.select ≡ true

abbrev StaysSo : Typing → Typing → Type 0
StaysSo before after = before.typed ≡ true → Stays before after

stays_itself : (t : Typing) → StaysSo t t
stays_itself t typed = record { kind = refl; typed = typed; unstamped = λ u. u; stamped = λ s. s }

stays_on : (a b c : Typing) → StaysSo a b → StaysSo b c → StaysSo a c
stays_on a b c f g typed =
    let first = f typed in
    let second = g first.typed in
    record {
      kind = second.kind ∙ first.kind;
      typed = second.typed;
      unstamped = λ u. second.unstamped (first.unstamped u);
      stamped = λ s. second.stamped (first.stamped s);
    }

abbrev C : Type 0
C = Child Typing StaysSo

sound_typed : (t : Typing) → is_sound t ≡ true → t.typed ≡ true
sound_typed t e = left t.typed (is_unstamped t.select) e

of_sound : (k : Kind) (t : Typing) → is_of k t ≡ true → is_sound t ≡ true
of_sound k t e = left (is_sound t) (is_kind k t.kind) e

sound_stays : (c : C) → is_sound c.before ≡ true → is_sound c.after ≡ true
sound_stays c e =
    let l = c.kept (sound_typed c.before e) in
    and c.after.typed (is_unstamped c.after.select) l.typed (l.unstamped (right c.before.typed (is_unstamped c.before.select) e))

kind_stays : (c : C) → is_sound c.before ≡ true → c.after.kind ≡ c.before.kind
kind_stays c e = (c.kept (sound_typed c.before e)).kind

of_stays : (k : Kind) (c : C) → is_of k c.before ≡ true → is_of k c.after ≡ true
of_stays k c e =
    let s = of_sound k c.before e in
    and (is_sound c.after) (is_kind k c.after.kind) (sound_stays c s) (ap (is_kind k) (kind_stays c s) ∙ right (is_sound c.before) (is_kind k c.before.kind) e)

all_stay : (cs : List C) → are_sound (befores cs) ≡ true → are_sound (afters cs) ≡ true
all_stay [] e = refl
all_stay (c ∷ cs) e =
    and (is_sound c.after) (are_sound (afters cs)) (sound_stays c (left (is_sound c.before) (are_sound (befores cs)) e)) (all_stay cs (right (is_sound c.before) (are_sound (befores cs)) e))

kinds_stay : (cs : List C) → are_sound (befores cs) ≡ true → kinds_of (afters cs) ≡ kinds_of (befores cs)
kinds_stay [] e = refl
kinds_stay (c ∷ cs) e =
    ap₂ (λ (k : Kind) (ks : List Kind). k ∷ ks) (kind_stays c (left (is_sound c.before) (are_sound (befores cs)) e)) (kinds_stay cs (right (is_sound c.before) (are_sound (befores cs)) e))

node_stays : (y : PlanNode-F Typing C) → node_typed (before_of y) ≡ true → Stays (node_typing (before_of y)) (node_typing (after_of y))
node_stays (PlanNode-F.Number value) e = record { kind = refl; typed = refl; unstamped = λ u. u; stamped = λ s. s }
node_stays PlanNode-F.Time e = record { kind = refl; typed = refl; unstamped = λ u. u; stamped = λ s. s }
node_stays (PlanNode-F.Select rules moment stamped) e = record { kind = refl; typed = refl; unstamped = λ u. u; stamped = λ s. s }
node_stays (PlanNode-F.Range rules moment range) e = record { kind = refl; typed = refl; unstamped = λ u. u; stamped = λ s. s }
node_stays (PlanNode-F.Subquery c range step moment) e = record { kind = refl; typed = of_stays Vector c e; unstamped = λ u. u; stamped = λ s. s }
node_stays (PlanNode-F.Element f c cs) e =
    let sound = left (is_sound c.before && are_sound (befores cs)) (is_element f c.before.kind (kinds_of (befores cs))) e in
    let first = left (is_sound c.before) (are_sound (befores cs)) sound in
    let rest = right (is_sound c.before) (are_sound (befores cs)) sound in
    let fits : is_element f c.after.kind (kinds_of (afters cs)) ≡ true =
    ap₂ (is_element f) (kind_stays c first) (kinds_stay cs rest) ∙ right (is_sound c.before && are_sound (befores cs)) (is_element f c.before.kind (kinds_of (befores cs))) e in
    record { kind = ap (element_kind f) (kind_stays c first); typed = and (is_sound c.after && are_sound (afters cs)) (is_element f c.after.kind (kinds_of (afters cs))) (and (is_sound c.after) (are_sound (afters cs)) (sound_stays c first) (all_stay cs rest)) fits; unstamped = λ u. u; stamped = λ s. s }
node_stays (PlanNode-F.Stamp c) e =
    let first = left (c.before.typed && is_stamped c.before.select) (is_kind Vector c.before.kind) e in
    let k = c.kept (left c.before.typed (is_stamped c.before.select) first) in
    let typed : (c.after.typed && is_stamped c.after.select && is_kind Vector c.after.kind) ≡ true =
    and (c.after.typed && is_stamped c.after.select) (is_kind Vector c.after.kind)
    (and c.after.typed (is_stamped c.after.select) k.typed (k.stamped (right c.before.typed (is_stamped c.before.select) first)))
    (ap (is_kind Vector) k.kind ∙ right (c.before.typed && is_stamped c.before.select) (is_kind Vector c.before.kind) e) in
    record { kind = refl; typed = typed; unstamped = λ u. u; stamped = λ s. s }
node_stays (PlanNode-F.Window f c cs) e =
    let sound = left (is_sound c.before && are_sound (befores cs)) (is_window f c.before.kind (kinds_of (befores cs))) e in
    let first = left (is_sound c.before) (are_sound (befores cs)) sound in
    let rest = right (is_sound c.before) (are_sound (befores cs)) sound in
    let fits : is_window f c.after.kind (kinds_of (afters cs)) ≡ true =
    ap₂ (is_window f) (kind_stays c first) (kinds_stay cs rest) ∙ right (is_sound c.before && are_sound (befores cs)) (is_window f c.before.kind (kinds_of (befores cs))) e in
    record { kind = refl; typed = and (is_sound c.after && are_sound (afters cs)) (is_window f c.after.kind (kinds_of (afters cs))) (and (is_sound c.after) (are_sound (afters cs)) (sound_stays c first) (all_stay cs rest)) fits; unstamped = λ u. u; stamped = λ s. s }
node_stays (PlanNode-F.Absent labels c) e = record { kind = refl; typed = of_stays Vector c e; unstamped = λ u. u; stamped = λ s. s }
node_stays (PlanNode-F.Buckets c d) e = record { kind = refl; typed = and (is_of Scalar c.after) (is_of Vector d.after) (of_stays Scalar c (left (is_of Scalar c.before) (is_of Vector d.before) e)) (of_stays Vector d (right (is_of Scalar c.before) (is_of Vector d.before) e)); unstamped = λ u. u; stamped = λ s. s }
node_stays (PlanNode-F.Relabel rule c) e = record { kind = refl; typed = and (is_relabel rule) (is_of Vector c.after) (left (is_relabel rule) (is_of Vector c.before) e) (of_stays Vector c (right (is_relabel rule) (is_of Vector c.before) e)); unstamped = λ u. u; stamped = λ s. s }
node_stays (PlanNode-F.Sort down c) e = record { kind = refl; typed = of_stays Vector c e; unstamped = λ u. u; stamped = λ s. s }
node_stays (PlanNode-F.ScalarOf c) e = record { kind = refl; typed = of_stays Vector c e; unstamped = λ u. u; stamped = λ s. s }
node_stays (PlanNode-F.VectorOf c) e = record { kind = refl; typed = of_stays Scalar c e; unstamped = λ u. u; stamped = λ s. s }
node_stays (PlanNode-F.Group f grouping cs label) e =
    let rest = left (are_sound (befores cs)) (is_group f (kinds_of (befores cs)) label) e in
    record { kind = refl; typed = and (are_sound (afters cs)) (is_group f (kinds_of (afters cs)) label) (all_stay cs rest) (ap (λ (ks : List Kind). is_group f ks label) (kinds_stay cs rest) ∙ right (are_sound (befores cs)) (is_group f (kinds_of (befores cs)) label) e); unstamped = λ u. u; stamped = λ s. s }
node_stays (PlanNode-F.Pair op c d pairing) e =
    let sound = left (is_sound c.before && is_sound d.before) (is_pair op pairing c.before.kind d.before.kind) e in
    let first = left (is_sound c.before) (is_sound d.before) sound in
    let second = right (is_sound c.before) (is_sound d.before) sound in
    record { kind = ap₂ both (kind_stays c first) (kind_stays d second); typed = and (is_sound c.after && is_sound d.after) (is_pair op pairing c.after.kind d.after.kind) (and (is_sound c.after) (is_sound d.after) (sound_stays c first) (sound_stays d second)) (ap₂ (is_pair op pairing) (kind_stays c first) (kind_stays d second) ∙ right (is_sound c.before && is_sound d.before) (is_pair op pairing c.before.kind d.before.kind) e); unstamped = λ u. u; stamped = λ s. s }
node_stays (PlanNode-F.Set op c d pairing) e = record { kind = refl; typed = and (is_of Vector c.after) (is_of Vector d.after) (of_stays Vector c (left (is_of Vector c.before) (is_of Vector d.before) e)) (of_stays Vector d (right (is_of Vector c.before) (is_of Vector d.before) e)); unstamped = λ u. u; stamped = λ s. s }
node_stays (PlanNode-F.Filter c rules) e =
    let first = left (is_sound c.before) (is_kind Vector c.before.kind || is_kind Windows c.before.kind) e in
    record { kind = kind_stays c first; typed = and (is_sound c.after) (is_kind Vector c.after.kind || is_kind Windows c.after.kind) (sound_stays c first) (ap (λ (k : Kind). is_kind Vector k || is_kind Windows k) (kind_stays c first) ∙ right (is_sound c.before) (is_kind Vector c.before.kind || is_kind Windows c.before.kind) e); unstamped = λ u. u; stamped = λ s. s }
node_stays (PlanNode-F.Ratio c d) e = record { kind = refl; typed = and (is_of Vector c.after) (is_of Vector d.after) (of_stays Vector c (left (is_of Vector c.before) (is_of Vector d.before) e)) (of_stays Vector d (right (is_of Vector c.before) (is_of Vector d.before) e)); unstamped = λ u. u; stamped = λ s. s }
node_stays (PlanNode-F.Once c) e =
    let k = c.kept e in
    record { kind = k.kind; typed = k.typed; unstamped = λ u. k.unstamped u; stamped = λ s. k.stamped s }
node_stays (PlanNode-F.Gather expr kind engines) e = record { kind = refl; typed = e; unstamped = λ u. u; stamped = λ s. s }

-- ---- the parts that selectors become

-- an expression whose judgement is known gives a vector
vector_by : (e : Expr) (j : Judgement) (points : ℕ → List QueryRefusal) → judged e ≡ j → crowded e ≡ points
    → (has_none (j.refusals ++ (points 1 ++ result_refusals j.operand.gives)) && is_kind Vector j.operand.gives && all_agree j.replacements) ≡ true → is_vector e ≡ true
vector_by e j points is around h =
    ap₂ (λ (x : Judgement) (c : ℕ → List QueryRefusal). has_none (x.refusals ++ (c 1 ++ result_refusals x.operand.gives)) && is_kind Vector x.operand.gives && all_agree x.replacements) is around ∙ h

module _ (at : ℕ) (rules : List Rule) (moment : Moment) where
  pub instant_judged : judged (instant at rules moment) ≡ node_step (Node-F.Select (selector_of rules moment)) at
  instant_judged = fold-Select node_step expr_step (instant at rules moment) (selector_of rules moment) refl

  pub instant_crowded : crowded (instant at rules moment) ≡ crowded_step (Node-F.Select (selector_of rules moment)) at
  instant_crowded = fold-Select crowded_step crowded_expr (instant at rules moment) (selector_of rules moment) refl

  instant_typed : is_vector (instant at rules moment) ≡ true
  instant_typed = vector_by (instant at rules moment) _ _ instant_judged instant_crowded refl

module _ (at within : ℕ) (rules : List Rule) (moment : Moment) where
  timestamp_judged : judged (timestamp at within rules moment) ≡ node_step (Node-F.Call func.Timestamp (node_step (Node-F.Select (selector_of rules moment)) within ∷ [])) at
  timestamp_judged =
      fold-Call node_step expr_step (timestamp at within rules moment) func.Timestamp (instant within rules moment ∷ []) refl
      ∙ ap (λ (j : Judgement). node_step (Node-F.Call func.Timestamp (j ∷ [])) at) (instant_judged within rules moment)

  pub timestamp_crowded : crowded (timestamp at within rules moment) ≡ crowded_step (Node-F.Call func.Timestamp (crowded_step (Node-F.Select (selector_of rules moment)) within ∷ [])) at
  timestamp_crowded =
      fold-Call crowded_step crowded_expr (timestamp at within rules moment) func.Timestamp (instant within rules moment ∷ []) refl
      ∙ ap (λ (c : ℕ → List QueryRefusal). crowded_step (Node-F.Call func.Timestamp (c ∷ [])) at) (instant_crowded within rules moment)

  timestamp_typed : is_vector (timestamp at within rules moment) ≡ true
  timestamp_typed = vector_by (timestamp at within rules moment) _ _ timestamp_judged timestamp_crowded refl

range_typed : (at : ℕ) (rules : List Rule) (moment : Moment) (range : Ms) → is_range (out-Node (ranged at rules moment range).node) ≡ true
range_typed at rules moment range = rw outs-Range refl

typings_follow : (engines : List ℕ) → Follows Typing Typing node_typing (λ p. p.node) StaysSo engines
typings_follow engines = record {
  itself = stays_itself;
  joined = stays_on;
  levels = λ at y. node_stays y;
  rows = λ at rules moment e. record { kind = refl; typed = instant_typed at rules moment; unstamped = λ u. refl; stamped = λ s. refl };
  times = λ at within rules moment e. record { kind = refl; typed = timestamp_typed at within rules moment; unstamped = λ u. refl; stamped = λ s. refl };
  windows = λ at rules moment range e. record { kind = refl; typed = range_typed at rules moment range; unstamped = λ u. refl; stamped = λ s. refl };
  onces = λ at within rules moment e. record { kind = refl; typed = refl; unstamped = λ u. u; stamped = λ s. s };
}

-- ---- the law

stays_typed : (p q : Plan) → StaysSo (typing p) (typing q) → IsTyped p → StaysTyped p q
stays_typed p q stays e =
    let k = stays (left (typing p).typed (is_unstamped (typing p).select) e) in
    record { typed = and (typing q).typed (is_unstamped (typing q).select) k.typed (k.unstamped (right (typing p).typed (is_unstamped (typing p).select) e)); kind = k.kind }

pub types_are_kept : TypesAreKept
types_are_kept engines kept p = stays_typed p _ (every node_typing (λ p. p.node) StaysSo engines (typings_follow engines) kept p)
