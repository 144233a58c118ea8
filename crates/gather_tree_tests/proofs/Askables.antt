-- The parts of the rows may be asked for at the instants of each walk near the time 0.
use Rattle.std.proofs.Common.{◌≡◌, ◌≤◌, ℕ, false, List, [], ◌∷◌, ◌++◌, ◌^◌, refl, sym, subst, arith}
use Rattle.std.specs.Prelude.{ℤ, pos, ◌-ℤ◌}
use Rattle.std.proofs.lemmas.Int.{ints}
use Rattle.exchange.specs.Asked.{MayRequest}
use Rattle.exchange.specs.Requests.{ask_of}
use Rattle.exchange.specs.declared.request.Request.{Request}
use Rattle.promql_ast.specs.Folds.{fold-Select}
use Rattle.promql_ast.specs.declared.tree.Expr.{Expr}
use Rattle.promql_ast.specs.declared.tree.Moment.{Moment}
use Rattle.promql_meaning.specs.Conditions.{AreMet, Need, needs_of, node_needs}
use Rattle.promql_meaning.specs.Selecting.{Asked, asked_over, lookback, moment_of}
use Rattle.promql_type.specs.Judging.{Judgement, expr_step, node_step}
use Rattle.promql_type.specs.Points.{crowded_expr, crowded_step}
use Rattle.promql_type.specs.Replacements.{AreKept, Kept}
use Rattle.promql_type.specs.Rules.{result_refusals}
use Rattle.remote_api.specs.Seen.{EngineSeen, HasForm, IsTyped, IsWindowOf, MayAsk}
use Rattle.remote_api.specs.Strays.{AsksInTimes}
use Rattle.remote_api.specs.declared.asks.Ask.{Ask}
use Rattle.step_table.specs.declared.cells.PartKind.{PartKind}
use Rattle.step_table.specs.declared.cells.PartKind.TheVariants as part_kind
use Rattle.ticks.specs.Near.{IsNear}
use Rattle.ticks.specs.Walks.{HasTimes}
use Rattle.ticks.specs.declared.grid.Grid.{Grid as Instants}
use Rattle.ticks.specs.declared.moment.Ms.{Ms}
use Rattle.ticks.specs.declared.walk.Walk.{Walk}
use Rattle.ticks.specs.declared.walk.WalkMoment.{WalkMoment}
use Rattle.gather_tree_tests.specs.Askable.{IsAskable, Selects}
use Rattle.gather_tree_tests.specs.Fitting.{IsFitting, IsNearby}

-- ---- the form

select_typed : (kept : Kept) (e : Expr) → Selects e → IsTyped kept e
select_typed kept e s =
    let j = fold-Select node_step expr_step e s.selector s.node in
    let c = fold-Select crowded_step crowded_expr e s.selector s.node in (
      λ i. (j i).refusals ++ ((c i) 1 ++ result_refusals (j i).operand.gives),
      [],
      subst (λ (x : Judgement). AreKept kept x.replacements []) (sym j) tt,
    )

form_of : (kept : Kept) (kind : PartKind) (e : Expr) → IsAskable kind e → HasForm kept e kind
form_of kept part_kind.Rows e s = select_typed kept e s
form_of kept part_kind.Windows e s = absurd s
form_of kept (part_kind.Partial f by) e s = (select_typed kept e s.0, s.1)

selects_of : (kind : PartKind) (e : Expr) → IsAskable kind e → Selects e
selects_of part_kind.Rows e s = s
selects_of part_kind.Windows e s = absurd s
selects_of (part_kind.Partial f by) e s = s.0

-- ---- the needs

-- times that are near the time 0, and those up to five minutes before them
time_of : (t : ℤ) (range : ℕ) → IsNear (10 ^ 15) t → range ≤ 10 ^ 6 → HasTimes (t -ℤ pos 0) (pos range)
time_of t range near few =
    let low = near.low in
    let high = near.high in
    record {
      ends = record { low = omega (arith, ints, low, high); high = omega (arith, ints, low, high) };
      begins = record { low = omega (arith, ints, low, high, few); high = omega (arith, ints, low, high, few) };
    }

select_met : (kept : Kept) (g : Instants) (e : Expr) (t : ℤ) → IsNear (10 ^ 15) t → Selects e → AreMet (asked_over [] kept g) (needs_of (asked_over [] kept g) e t)
select_met kept g e t near s =
    let asked : Asked = asked_over [] kept g in
    let f = fold-Select (node_needs asked) (λ e. e.node) e s.selector s.node in
    let times = time_of t 300000 near (omega arith) in
    subst (λ (needs : ℤ → List Need). AreMet asked (needs t)) (sym f)
    (subst (λ (m : Moment). AreMet asked (Need.patterns s.selector.rules ∷ Need.times (moment_of asked m t ∷ (moment_of asked m t -ℤ lookback) ∷ []) ∷ [])) (sym s.plain.moment)
    (s.plain.rules kept, ((times.ends, (times.begins, tt)), tt)))

-- ---- what is asked

no_windows : (kind : PartKind) (e : Expr) → IsAskable kind e → kind ≡ part_kind.Windows → ⊥
no_windows kind e s is = subst (λ (k : PartKind). IsAskable k e) is s

pub in_times : (walk : Walk) (kind : PartKind) (e : Expr) (moment : WalkMoment) (range : Ms) → IsNearby walk → IsAskable kind e → AsksInTimes (record { walk = walk; kind = kind; moment = moment; range = range })
in_times walk kind e moment range n s = record { walk = n.leads; windows = λ is at here. absurd (no_windows kind e s is) }

may_ask : (walk : Walk) (g : Instants) (kept : Kept) (r : Request) (e : EngineSeen) → IsNearby walk → IsFitting walk r → e.spent ≡ false → MayAsk r.part walk g kept e
may_ask walk g kept r e n f going = record {
  going = going;
  form = form_of kept r.part.kind r.part.expr f.askable;
  needs = λ t here. select_met kept g r.part.expr t.0 (n.near t.0 here) (selects_of r.part.kind r.part.expr f.askable);
  times = (
    record { walk = walk; kind = r.part.kind; moment = r.moment; range = r.range },
    record { walk_is = refl; kind_is = refl; window = λ is. absurd (no_windows r.part.kind r.part.expr f.askable is) },
    in_times walk r.part.kind r.part.expr r.moment r.range n f.askable,
  );
}

pub may_request : (walk : Walk) (g : Instants) (kept : Kept) (r : Request) → IsNearby walk → IsFitting walk r → MayRequest g kept r
may_request walk g kept r n f = record {
  may = λ e going. subst (λ (w : Walk). MayAsk r.part w g kept e) (sym f.walk_is) (may_ask walk g kept r e n f going);
  window = λ is. absurd (no_windows r.part.kind r.part.expr f.askable is);
}
