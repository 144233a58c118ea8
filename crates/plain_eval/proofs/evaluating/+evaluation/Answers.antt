use Rattle.std.proofs.Common.{◌≡◌, ◌∙◌, ◌<◌, ◌≤◌, ◌+◌, subst, sym, ap, arith, map, get_or}
use Rattle.std.specs.Prelude.{ℤ, pos}
use Rattle.std.specs.List.{AllByRecursion}
use Rattle.std.proofs.lemmas.Result.{IfOk-weaker}
use Rattle.ticks.specs.declared.moment.Ms.{Ms}
use Rattle.step_table.specs.declared.step.Step.{Step}
use Rattle.promql_ast.specs.declared.tree.Expr.{Expr}
use Rattle.promql_ast.specs.Depth.{depth, greatest}
use Rattle.promql_meaning.specs.Givens.{no_marks, step_of}
use Rattle.promql_meaning.specs.Meaning.{given_at, meaning, meaning_step, operation, words_at}
use Rattle.promql_meaning.specs.Subqueries.{marks_over, rows_over}
use Rattle.promql_meaning.specs.declared.given.Given.{Given}
use Rattle.promql_meaning.specs.declared.given.Given.TheVariants.{Vector, Windows}
use Rattle.plain_eval.specs.Queried.{asked_of}
use Rattle.plain_eval.specs.Ready.{IsKeptWhole, IsReady}
use Rattle.plain_eval.proofs.Children.{depth_Paren, depth_Negate, depth_Subquery, depth_Call, depth_Aggregate, depth_item, ready_Paren, ready_Negate, ready_Call, ready_Aggregate, ready_Pair, ready_Set}
use Rattle.plain_eval.proofs.Called.{call_framed, call_kept, subquery_ready}
use Rattle.plain_eval.proofs.Meanings.{depths_Pair, depths_Set, means_Pair, means_Set, means_Subquery}
use Rattle.plain_eval.proofs.Rests.{given_more, rows_more, marks_more}
use Rattle.step_rules.specs.Rests.{next_holds, item_holds}
use Rattle.plain_eval.proofs.evaluating.+evaluation.Goals as goal

pub value_at-value_at-requires : goal.value_at-value_at-requires
value_at-value_at-requires g t c κs within =
    let asked = asked_of c.args.query.now c.args.patterns.now in
    let d : depth c.get.result.now < depth c.args.e.now = subst (λ e. depth e < depth c.args.e.now) (sym c.get.ensures) (depth_Paren c.args.e.now c.in-Paren.inner c.in-Paren.is) in
    let ready : IsReady asked c.get.result.now c.args.t.0 =
    subst (λ e. IsReady asked e c.args.t.0) (sym c.get.ensures) (ready_Paren asked c.args.e.now c.in-Paren.inner c.args.t.0 c.in-Paren.is c.requires) in
    (omega (arith, c.decreases), (within, ready))

pub value_at-value_at-requires-in-Negate : goal.value_at-value_at-requires-in-Negate
value_at-value_at-requires-in-Negate g t c κs within =
    let asked = asked_of c.args.query.now c.args.patterns.now in
    let d : depth c.get-in-Negate.result.now < depth c.args.e.now = subst (λ e. depth e < depth c.args.e.now) (sym c.get-in-Negate.ensures) (depth_Negate c.args.e.now c.in-Negate.inner c.in-Negate.is) in
    let ready : IsReady asked c.get-in-Negate.result.now c.args.t.0 =
    subst (λ e. IsReady asked e c.args.t.0) (sym c.get-in-Negate.ensures) (ready_Negate asked c.args.e.now c.in-Negate.inner c.args.t.0 c.in-Negate.is c.requires) in
    (omega (arith, c.decreases), (within, ready))

pub value_at-values_at-requires : goal.value_at-values_at-requires
value_at-values_at-requires g t c κs within =
    let asked = asked_of c.args.query.now c.args.patterns.now in
    let e = c.as_slice-in-Call.ensures in
    let d : depth c.args.e.now ≡ 1 + greatest (map depth c.as_slice-in-Call.result.now) = depth_Call c.args.e.now c.in-Call.f c.in-Call.arguments c.in-Call.is ∙ ap (λ es. 1 + greatest (map depth es)) (sym e) in (
      omega (arith, c.decreases),
      (
        within,
        subst (λ es. AllByRecursion (λ (x : Expr). IsReady asked x c.args.t.0) es) (sym e)
            (ready_Call asked c.args.e.now c.in-Call.f c.in-Call.arguments c.args.t.0 c.in-Call.is c.requires),
      ),
    )

pub value_at-values_at-requires-in-Aggregate : goal.value_at-values_at-requires-in-Aggregate
value_at-values_at-requires-in-Aggregate g t c κs within =
    let asked = asked_of c.args.query.now c.args.patterns.now in
    let e = c.as_slice-in-Aggregate.ensures in
    let d : depth c.args.e.now ≡ 1 + greatest (map depth c.as_slice-in-Aggregate.result.now) =
    depth_Aggregate c.args.e.now c.in-Aggregate.f c.in-Aggregate.by c.in-Aggregate.arguments c.in-Aggregate.is ∙ ap (λ es. 1 + greatest (map depth es)) (sym e) in (
      omega (arith, c.decreases),
      (
        within,
        subst (λ es. AllByRecursion (λ (x : Expr). IsReady asked x c.args.t.0) es) (sym e)
            (ready_Aggregate asked c.args.e.now c.in-Aggregate.f c.in-Aggregate.by c.in-Aggregate.arguments c.args.t.0 c.in-Aggregate.is c.requires),
      ),
    )

pub values_at-value_at-requires : goal.values_at-value_at-requires
values_at-value_at-requires g t c κs within =
    let query = c.args.query.now in
    let asked = asked_of query c.args.patterns.now in
    let d : depth c.e-item.result ≤ greatest (map depth c.args.arguments.now) = depth_item c.args.arguments.now c.loop-e.e-index c.e-item.result c.loop-e-test.true c.e-item.is in
    let ready = (item_holds (λ (x : Expr). IsReady asked x c.args.t.0) c.args.arguments.now c.loop-e.e-index c.e-item.result c.loop-e-test.true c.e-item.is c.loop-e.invariant.ready).0 in
    (omega (arith, c.decreases), (within, subst (λ p. IsReady (asked_of query p) c.e-item.result c.args.t.0) (sym c.loop-e.invariant.same) ready))

pub values_at-loop-e-preserved : goal.values_at-loop-e-preserved
values_at-loop-e-preserved g t c =
    let query = c.args.query.now in
    let asked = asked_of query c.args.patterns.now in
    let value : c.in_ok-value_at.field-0 ≡ meaning asked c.e-item.result c.args.t.0 = c.in_ok-value_at.ensures.meaning ∙ ap (λ p. meaning (asked_of query p) c.e-item.result c.args.t.0) c.loop-e.invariant.same in
    record {
      given = given_more asked c.args.arguments.now c.loop-e.e-index c.e-item.result c.args.t.0 c.loop-e.givens c.push.new.self c.in_ok-value_at.field-0 _ c.loop-e-test.true c.e-item.is c.in_ok-push.ensures.ok value c.loop-e.invariant.given;
      ready = (item_holds (λ (x : Expr). IsReady asked x c.args.t.0) c.args.arguments.now c.loop-e.e-index c.e-item.result c.loop-e-test.true c.e-item.is c.loop-e.invariant.ready).1;
      same = c.value_at.ensures.same ∙ c.loop-e.invariant.same;
    }

pub points_at-value_at-requires : goal.points_at-value_at-requires
points_at-value_at-requires g t c κs within =
    let query = c.args.query.now in
    let asked = asked_of query c.args.patterns.now in
    let inner = c.args.inner.now in
    let u : Ms = get_or c.args.us.now c.loop-u.u-index (record { 0 = pos 0 }) in
    let ready = (next_holds (λ (v : Ms). IsReady asked inner v.0) c.args.us.now c.loop-u.u-index (record { 0 = pos 0 }) c.loop-u-test.true c.loop-u.invariant.ready).0 in
    (omega (arith, c.decreases), (within, subst (λ p. IsReady (asked_of query p) inner u.0) (sym c.loop-u.invariant.same) ready))

pub points_at-loop-u-preserved : goal.points_at-loop-u-preserved
points_at-loop-u-preserved g t c =
    let query = c.args.query.now in
    let asked = asked_of query c.args.patterns.now in
    let inner = c.args.inner.now in
    let us = c.args.us.now in
    let i = c.loop-u.u-index in
    let u : Ms = get_or us i (record { 0 = pos 0 }) in
    let meant : ℤ → Step = meaning_step asked inner in
    let value : c.in_ok-given.given ≡ meaning asked inner u.0 = c.in_ok-given.ensures.meaning ∙ ap (λ p. meaning (asked_of query p) inner u.0) c.loop-u.invariant.same in
    let step : c.in_ok-into_step.field-0 ≡ meant u.0 = c.in_ok-into_step.ensures ∙ ap step_of value in
    record {
      rows = rows_more meant us i (record { 0 = pos 0 }) c.in_ok-into_step.field-0 c.loop-u.points.rows _ _ c.loop-u-test.true c.in_ok-add_step.ensures.rows step c.loop-u.invariant.rows;
      marks = marks_more meant us i (record { 0 = pos 0 }) c.in_ok-into_step.field-0 c.loop-u.points.marks _ _ c.loop-u-test.true c.in_ok-add_step.ensures.marks step c.loop-u.invariant.marks;
      ready = (next_holds (λ (v : Ms). IsReady asked inner v.0) us i (record { 0 = pos 0 }) c.loop-u-test.true c.loop-u.invariant.ready).1;
      same = c.value_at.ensures.same ∙ c.loop-u.invariant.same;
    }

pub value_at-points_at-requires : goal.value_at-points_at-requires
value_at-points_at-requires g t c κs within =
    let asked = asked_of c.args.query.now c.args.patterns.now in
    let e = c.args.e.now in
    let inner = c.in-Subquery.inner in
    let get = c.get-in-Subquery.ensures in
    let d : depth c.get-in-Subquery.result.now < depth e = subst (λ x. depth x < depth e) (sym get) (depth_Subquery e inner c.in-Subquery.range c.in-Subquery.step c.in-Subquery.moment c.in-Subquery.is) in
    let us = c.as_slice.result.now in
    let ready = subquery_ready asked e inner c.in-Subquery.range c.in-Subquery.step c.in-Subquery.moment c.args.t.0 c.moment_in-m.result.0 us c.in-Subquery.is c.requires c.moment_in-m.ensures
    (c.as_slice.ensures ∙ c.in_ok-us-in-Subquery.ensures) in
    (omega (arith, c.decreases), (within, subst (λ x. AllByRecursion (λ (u : Ms). IsReady asked x u.0) us) (sym get) ready))

pub value_at-call-requires-clause-framed : goal.value_at-call-requires-clause-framed
value_at-call-requires-clause-framed g t c =
    let asked = asked_of c.args.query.now c.args.patterns.now in
    call_framed asked c.args.e.now c.in-Call.f c.in-Call.arguments c.args.t.0 c.in_ok-givens-in-Call.givens c.in-Call.is c.requires
    (c.in_ok-givens-in-Call.ensures.meaning ∙ ap (λ es. given_at (map (meaning asked) es) c.args.t.0) c.as_slice-in-Call.ensures)

pub value_at-call-requires-clause-kept : goal.value_at-call-requires-clause-kept
value_at-call-requires-clause-kept g t c label =
    let asked = asked_of c.args.query.now c.args.patterns.now in
    let there = call_kept asked c.args.e.now c.in-Call.f c.in-Call.arguments c.args.t.0 c.in_ok-givens-in-Call.givens c.in-Call.is c.requires
    (c.in_ok-givens-in-Call.ensures.meaning ∙ ap (λ es. given_at (map (meaning asked) es) c.args.t.0) c.as_slice-in-Call.ensures) label in
    subst (λ p. IsKeptWhole p (words_at c.in_ok-givens-in-Call.givens 4)) (sym c.values_at.ensures.same) there

pub value_at-value_at-requires-in-Pair : goal.value_at-value_at-requires-in-Pair
value_at-value_at-requires-in-Pair g t c κs within =
    let asked = asked_of c.args.query.now c.args.patterns.now in
    let e = c.args.e.now in
    let get = c.get-in-Pair.ensures in
    let d : depth c.get-in-Pair.result.now < depth e = subst (λ x. depth x < depth e) (sym get) (depths_Pair e c.in-Pair.op c.in-Pair.left c.in-Pair.right c.in-Pair.pairing c.in-Pair.is).0 in
    (omega (arith, c.decreases), (within, subst (λ x. IsReady asked x c.args.t.0) (sym get) (ready_Pair asked e c.in-Pair.op c.in-Pair.left c.in-Pair.right c.in-Pair.pairing c.args.t.0 c.in-Pair.is c.requires).0))

pub value_at-value_at-requires-in-Pair-2 : goal.value_at-value_at-requires-in-Pair-2
value_at-value_at-requires-in-Pair-2 g t c κs within =
    let query = c.args.query.now in
    let asked = asked_of query c.args.patterns.now in
    let e = c.args.e.now in
    let get = c.get-in-Pair-2.ensures in
    let d : depth c.get-in-Pair-2.result.now < depth e = subst (λ x. depth x < depth e) (sym get) (depths_Pair e c.in-Pair.op c.in-Pair.left c.in-Pair.right c.in-Pair.pairing c.in-Pair.is).1 in
    let ready = (ready_Pair asked e c.in-Pair.op c.in-Pair.left c.in-Pair.right c.in-Pair.pairing c.args.t.0 c.in-Pair.is c.requires).1 in (
      omega (arith, c.decreases),
      (
        within,
        subst (λ p. IsReady (asked_of query p) c.get-in-Pair-2.result.now c.args.t.0) (sym c.value_at-in-Pair.ensures.same)
            (subst (λ x. IsReady asked x c.args.t.0) (sym get) ready),
      ),
    )

pub value_at-value_at-requires-in-Set : goal.value_at-value_at-requires-in-Set
value_at-value_at-requires-in-Set g t c κs within =
    let asked = asked_of c.args.query.now c.args.patterns.now in
    let e = c.args.e.now in
    let get = c.get-in-Set.ensures in
    let d : depth c.get-in-Set.result.now < depth e = subst (λ x. depth x < depth e) (sym get) (depths_Set e c.in-Set.op c.in-Set.left c.in-Set.right c.in-Set.pairing c.in-Set.is).0 in
    (omega (arith, c.decreases), (within, subst (λ x. IsReady asked x c.args.t.0) (sym get) (ready_Set asked e c.in-Set.op c.in-Set.left c.in-Set.right c.in-Set.pairing c.args.t.0 c.in-Set.is c.requires).0))

pub value_at-value_at-requires-in-Set-2 : goal.value_at-value_at-requires-in-Set-2
value_at-value_at-requires-in-Set-2 g t c κs within =
    let query = c.args.query.now in
    let asked = asked_of query c.args.patterns.now in
    let e = c.args.e.now in
    let get = c.get-in-Set-2.ensures in
    let d : depth c.get-in-Set-2.result.now < depth e = subst (λ x. depth x < depth e) (sym get) (depths_Set e c.in-Set.op c.in-Set.left c.in-Set.right c.in-Set.pairing c.in-Set.is).1 in
    let ready = (ready_Set asked e c.in-Set.op c.in-Set.left c.in-Set.right c.in-Set.pairing c.args.t.0 c.in-Set.is c.requires).1 in (
      omega (arith, c.decreases),
      (
        within,
        subst (λ p. IsReady (asked_of query p) c.get-in-Set-2.result.now c.args.t.0) (sym c.value_at-in-Set.ensures.same)
            (subst (λ x. IsReady asked x c.args.t.0) (sym get) ready),
      ),
    )

pub value_at-returns-in_ok-windows_over-in-Subquery-clause-meaning : goal.value_at-returns-in_ok-windows_over-in-Subquery-clause-meaning
value_at-returns-in_ok-windows_over-in-Subquery-clause-meaning g t c =
    let asked = asked_of c.args.query.now c.args.patterns.now in
    let inner = c.in-Subquery.inner in
    let us = c.as_slice.result.now in
    let meant : ℤ → Step = meaning_step asked inner in
    let get : meaning_step asked c.get-in-Subquery.result.now ≡ meant = ap (meaning_step asked) c.get-in-Subquery.ensures in
    ap Windows c.in_ok-windows_over-in-Subquery.ensures
    ∙ means_Subquery asked c.args.e.now c.args.t.0 inner c.in-Subquery.range c.in-Subquery.step c.in-Subquery.moment c.moment_in-m.result us c.in_ok-points-in-Subquery.points.rows c.in_ok-points-in-Subquery.points.marks c.in-Subquery.is
    c.moment_in-m.ensures (c.as_slice.ensures ∙ c.in_ok-us-in-Subquery.ensures) (c.in_ok-points-in-Subquery.ensures.rows ∙ ap (λ f. rows_over f us) get)
    (c.in_ok-points-in-Subquery.ensures.marks ∙ ap (λ f. marks_over f no_marks us) get)

pub value_at-returns-in_ok-r-in-Pair-clause-meaning : goal.value_at-returns-in_ok-r-in-Pair-clause-meaning
value_at-returns-in_ok-r-in-Pair-clause-meaning g t c =
    let query = c.args.query.now in
    let asked = asked_of query c.args.patterns.now in
    let left : c.in_ok-l-in-Pair.l ≡ meaning asked c.in-Pair.left c.args.t.0 = c.in_ok-l-in-Pair.ensures.meaning ∙ ap (λ x. meaning asked x c.args.t.0) c.get-in-Pair.ensures in
    let right : c.in_ok-r-in-Pair.r ≡ meaning asked c.in-Pair.right c.args.t.0 =
    c.in_ok-r-in-Pair.ensures.meaning ∙ ap (λ p. meaning (asked_of query p) c.get-in-Pair-2.result.now c.args.t.0) c.value_at-in-Pair.ensures.same ∙ ap (λ x. meaning asked x c.args.t.0) c.get-in-Pair-2.ensures in
    IfOk-weaker c.operation.result (λ (v : Given). v ≡ operation c.in-Pair.op c.in-Pair.pairing c.in_ok-l-in-Pair.l c.in_ok-r-in-Pair.r) (λ (v : Given). v ≡ meaning asked c.args.e.now c.args.t.0)
    (λ v is. is ∙ means_Pair asked c.args.e.now c.args.t.0 c.in-Pair.op c.in-Pair.left c.in-Pair.right c.in-Pair.pairing c.in_ok-l-in-Pair.l c.in_ok-r-in-Pair.r c.in-Pair.is left right) c.operation.ensures

pub value_at-returns-in_ok-set_operation-in-Set-clause-meaning : goal.value_at-returns-in_ok-set_operation-in-Set-clause-meaning
value_at-returns-in_ok-set_operation-in-Set-clause-meaning g t c =
    let query = c.args.query.now in
    let asked = asked_of query c.args.patterns.now in
    let left : c.in_ok-l-in-Set.l ≡ meaning asked c.in-Set.left c.args.t.0 = c.in_ok-l-in-Set.ensures.meaning ∙ ap (λ x. meaning asked x c.args.t.0) c.get-in-Set.ensures in
    let right : c.in_ok-r-in-Set.r ≡ meaning asked c.in-Set.right c.args.t.0 =
    c.in_ok-r-in-Set.ensures.meaning ∙ ap (λ p. meaning (asked_of query p) c.get-in-Set-2.result.now c.args.t.0) c.value_at-in-Set.ensures.same ∙ ap (λ x. meaning asked x c.args.t.0) c.get-in-Set-2.ensures in
    ap Vector c.in_ok-set_operation-in-Set.ensures
    ∙ means_Set asked c.args.e.now c.args.t.0 c.in-Set.op c.in-Set.left c.in-Set.right c.in-Set.pairing c.in_ok-l-in-Set.l c.in_ok-r-in-Set.r c.in-Set.is left right
