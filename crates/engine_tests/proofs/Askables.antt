-- The parts of the rows may be asked for, and what is asked may be pulled.
use Rattle.std.proofs.Common.{◌≡◌, ◌∙◌, ℕ, zero, suc, ◌+◌, ◌<◌, ◌≤◌, ◌^◌, List, [], ◌∷◌, ◌++◌, length, map, slice_get, slice_set, refl, sym, ap, subst, Some, None, Ok, arith, false}
use Rattle.std.specs.Prelude.{ℤ, pos, ◌-ℤ◌, ◌<ℤ◌, ◌≤ℤ◌, Option, IsTrue}
use Rattle.std.proofs.lemmas.Int.{ints}
use Rattle.promql_ast.specs.Folds.{fold-Range, fold-Select}
use Rattle.promql_ast.specs.declared.tree.Expr.{Expr}
use Rattle.promql_ast.specs.declared.tree.Moment.{Moment}
use Rattle.promql_ast.specs.declared.tree.Selector.{Selector}
use Rattle.promql_meaning.specs.Conditions.{AreMet, Need, needs_of, node_needs}
use Rattle.promql_meaning.specs.Selecting.{Asked, asked_over, lookback, moment_of}
use Rattle.promql_meaning.specs.WalkMoments.{fixed_time}
use Rattle.promql_type.specs.Answers.{refusals_of}
use Rattle.promql_type.specs.Judging.{Judgement, expr_step, judged, node_step}
use Rattle.promql_type.specs.Points.{crowded, crowded_expr, crowded_step}
use Rattle.promql_type.specs.Replacements.{AreKept, Kept}
use Rattle.promql_type.specs.Rules.{result_refusals}
use Rattle.remote_api.specs.Seen.{AskSeen, EngineSeen, HasAsked, HasForm, HasPulled, IsAskOf, IsTyped, IsWindowOf, MayAsk, MayPull, after_pull}
use Rattle.remote_api.specs.Strays.{AsksInTimes}
use Rattle.remote_api.specs.declared.asks.Ask.{Ask}
use Rattle.remote_api.specs.declared.asks.Part.{Part}
use Rattle.remote_api.specs.declared.engine.Pulled.{Pulled}
use Rattle.remote_api.specs.declared.engine.Pulled.TheVariants as pulled
use Rattle.step_table.specs.declared.cells.PartKind.{PartKind}
use Rattle.step_table.specs.declared.cells.PartKind.TheVariants as part_kind
use Rattle.step_table.specs.declared.cells.StepCells.{StepCells}
use Rattle.ticks.specs.Near.{GridsAreNear, IsNear}
use Rattle.ticks.specs.Walks.{HasTimes, IsInstant, IsTime, moment_at}
use Rattle.ticks.specs.declared.grid.Grid.{Grid as Instants}
use Rattle.ticks.specs.declared.moment.Ms.{Ms}
use Rattle.ticks.specs.declared.walk.Walk.{Walk, Grid}
use Rattle.ticks.specs.declared.walk.WalkMoment.{WalkMoment}
use Rattle.engine_tests.specs.Askable.{IsAskable, IsPlain, Selects, SelectsRange, at_once, own_moment, reach}

-- ---- the form

select_typed : (kept : Kept) (e : Expr) → Selects e → IsTyped kept e
select_typed kept e s =
    let j = fold-Select node_step expr_step e s.selector s.node in
    let c = fold-Select crowded_step crowded_expr e s.selector s.node in (
      λ i. (j i).refusals ++ ((c i) 1 ++ result_refusals (j i).operand.gives),
      [],
      subst (λ (x : Judgement). AreKept kept x.replacements []) (sym j) tt,
    )

form_of : (kept : Kept) (kind : PartKind) (e : Expr) → IsAskable kind e → HasForm kept e kind
form_of kept part_kind.Rows e s = select_typed kept e s
form_of kept part_kind.Windows e s = (s.selector, reach, s.node, omega (arith, ints))
form_of kept (part_kind.Partial f by) e s = (select_typed kept e s.0, s.1)

-- ---- the needs

-- times that are near the time 0, and those of a short range before them
time_of : (t : ℤ) (range : ℕ) → IsNear (10 ^ 14) t → range ≤ 10 ^ 6 → HasTimes (t -ℤ pos 0) (pos range)
time_of t range near few =
    let low = near.low in
    let high = near.high in
    record {
      ends = record { low = omega (arith, ints, low, high); high = omega (arith, ints, low, high) };
      begins = record { low = omega (arith, ints, low, high, few); high = omega (arith, ints, low, high, few) };
    }

select_met : (kept : Kept) (g : Instants) (e : Expr) (t : ℤ) → IsNear (10 ^ 14) t → Selects e → AreMet (asked_over [] kept g) (needs_of (asked_over [] kept g) e t)
select_met kept g e t near s =
    let asked : Asked = asked_over [] kept g in
    let f = fold-Select (node_needs asked) (λ e. e.node) e s.selector s.node in
    let times = time_of t 300000 near (omega arith) in
    subst (λ (needs : ℤ → List Need). AreMet asked (needs t)) (sym f)
    (subst (λ (m : Moment). AreMet asked (Need.patterns s.selector.rules ∷ Need.times (moment_of asked m t ∷ (moment_of asked m t -ℤ lookback) ∷ []) ∷ [])) (sym s.plain.moment)
    (s.plain.rules kept, ((times.ends, (times.begins, tt)), tt)))

range_met : (kept : Kept) (g : Instants) (e : Expr) (t : ℤ) → IsNear (10 ^ 14) t → SelectsRange e → AreMet (asked_over [] kept g) (needs_of (asked_over [] kept g) e t)
range_met kept g e t near s =
    let asked : Asked = asked_over [] kept g in
    let f = fold-Range (node_needs asked) (λ e. e.node) e s.selector reach s.node in
    let times = time_of t 15 near (omega arith) in
    let low = near.low in
    let high = near.high in
    let here : IsTime t = record { low = omega (arith, ints, low, high); high = omega (arith, ints, low, high) } in
    subst (λ (needs : ℤ → List Need). AreMet asked (needs t)) (sym f)
    (subst (λ (m : Moment). AreMet asked (Need.patterns s.selector.rules ∷ Need.times (t ∷ moment_of asked m t ∷ (moment_of asked m t -ℤ reach.0) ∷ []) ∷ [])) (sym s.plain.moment)
    (s.plain.rules kept, ((here, (times.ends, (times.begins, tt))), tt)))

needs_met : (kept : Kept) (g : Instants) (kind : PartKind) (e : Expr) (t : ℤ) → IsNear (10 ^ 14) t → IsAskable kind e → AreMet (asked_over [] kept g) (needs_of (asked_over [] kept g) e t)
needs_met kept g part_kind.Rows e t near s = select_met kept g e t near s
needs_met kept g part_kind.Windows e t near s = range_met kept g e t near s
needs_met kept g (part_kind.Partial f by) e t near s = select_met kept g e t near s.0

-- ---- what is asked

abbrev pub ask_over : Instants → PartKind → Ask
ask_over g kind = record { walk = Grid g; kind = kind; moment = at_once; range = reach }

pub in_times : GridsAreNear → (g : Instants) (kind : PartKind) → AsksInTimes (ask_over g kind)
in_times grids g kind = record { walk = tt; windows = λ is at here. time_of at.0 15 (grids g at.0 here) (omega arith) }

window_of : (g : Instants) (e : Expr) (kind : PartKind) → SelectsRange e → IsWindowOf g e (ask_over g kind)
window_of g e kind s = record {
  selector = s.selector;
  selects = s.node;
  moment = record {
    fixed = ap (λ (m : Moment). fixed_time g.start.0 g.end.0 m.fixed) (sym s.plain.moment);
    offset = ap (λ (m : Moment). m.offset) (sym s.plain.moment);
  };
  closed = ap (λ (m : Moment). m.closed) (sym s.plain.moment);
}

pub window_asked : (g : Instants) (kind : PartKind) (e : Expr) → IsAskable kind e → kind ≡ part_kind.Windows → IsWindowOf g e (ask_over g kind)
window_asked g kind e s is = window_of g e kind (subst (λ (k : PartKind). IsAskable k e) is s)

pub may_ask : GridsAreNear → (part : Part) (g : Instants) (kept : Kept) (e : EngineSeen) → IsAskable part.kind part.expr → e.spent ≡ false → MayAsk part (Grid g) g kept e
may_ask grids part g kept e s going = record {
  going = going;
  form = form_of kept part.kind part.expr s;
  needs = λ t here. needs_met kept g part.kind part.expr t.0 (grids g t.0 here) s;
  times = (ask_over g part.kind, record { walk_is = refl; kind_is = refl; window = window_asked g part.kind part.expr s }, in_times grids g part.kind);
}
