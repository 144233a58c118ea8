use Rattle.std.proofs.Common.{◌≡◌, ◌∙◌, Some, refl, sym, ap, subst}
use Rattle.series_marks.specs.Reaches.{IsReached, IsSoon, edge_at, moment_of, reach}
use Rattle.series_marks.specs.Reads.{Reached, edge_of}
use Rattle.series_marks.specs.Spent.{reached_on}
use Rattle.ticks.specs.declared.moment.Ms.{Ms}
use Rattle.op_window.specs.Kernels.{Kernel}
use Rattle.op_window.specs.declared.renew.Span.{Span}
use Rattle.op_window.proofs.rows.WindowRows.step.Goals as goal

abbrev reached_at : Ms → Ms → Reached
reached_at e m = Some (e, m)

pub returns-clause-edge : goal.returns-clause-edge
returns-clause-edge g c =
    let k = c.self.inside in
    let seen = c.self.view_is in
    let span = c.span_of-span.result in
    let reached : IsReached k.moment.closed k.range.0 k.reached = subst (λ (z : Kernel). IsReached z.moment.closed z.range.0 z.reached) (sym seen) c.requires.reached in
    let soon : IsSoon k.range.0 k.reached k.moment c.args.t = subst (λ (z : Kernel). IsSoon z.range.0 z.reached z.moment c.args.t) (sym seen) c.requires.soon in
    let on : IsReached k.moment.closed k.range.0 (reach k.range.0 k.reached k.moment c.args.t) =
    reached_on k.moment.closed k.range.0 k.reached (edge_at k.range.0 k.moment c.args.t) (moment_of k.moment c.args.t) refl reached soon.0 in
    let is : reached_at c.edge_since.result span.moment ≡ reach k.range.0 k.reached k.moment c.args.t =
    ap (λ (e : Ms). reached_at e span.moment) c.edge_since.ensures ∙ ap (λ (s : Span). reached_at (edge_of k.reached s.edge) s.moment) c.span_of-span.ensures in
    subst (λ (z : Kernel). IsReached z.moment.closed z.range.0 (reached_at c.edge_since.result span.moment)) seen (subst (IsReached k.moment.closed k.range.0) (sym is) on)
