use Rattle.std.proofs.Common.{◌≡◌, ◌∙◌, ◌↔◌, ◌^◌, Bool, rules, to_z, of_z, w64, sym, ap, subst, arith}
use Rattle.std.specs.Prelude.{ℤ, neg_ℤ, pos, ◌-ℤ◌, ◌<ℤ◌, ◌≤ℤ◌, int_lt, IsTrue}
use Rattle.std.proofs.lemmas.Int.{ints, to_z-of_z}
use Rattle.ticks.specs.Edges.{before, before-near}
use Rattle.ticks.specs.Walks.{IsTime, moment_at}
use Rattle.op_subquery.specs.Rings.{IsReady, Kernel}
use Rattle.op_subquery.specs.declared.span.Span.{Span}
use Rattle.op_subquery.proofs.Readiness.{IsLater, ready_by}
use Rattle.op_subquery.proofs.points.Points.ready.Goals as goal

pub returns : goal.returns
returns c =
    let k = c.self.inside in
    let at = c.args.at in
    let low = c.later_of-low.result.0 in
    let old : Kernel = record { range = k.range; step = k.step; moment = k.moment; last = k.last; reached = k.reached; waiting = k.waiting; windows = k.windows; raised = k.raised } in
    let seen : old ≡ c.args.self.now = c.self.view_is in
    let m : c.of-span.result.moment.0 ≡ moment_at k.moment at.0 = ap (λ (s : Span). s.moment.0) c.of-span.ensures in
    let edge : c.of-span.result.edge.0 ≡ before k.moment.closed (moment_at k.moment at.0 -ℤ k.range.0) = ap (λ (s : Span). s.edge.0) c.of-span.ensures in
    let is : IsLater k.last (before k.moment.closed (moment_at k.moment at.0 -ℤ k.range.0)) low =
    subst (λ (e : ℤ). IsLater k.last e low) edge (record { after_edge = c.later_of-low.ensures.edge; after_last = c.later_of-low.ensures.last; no_later = c.later_of-low.ensures.either }) in
    let positive : pos 0 <ℤ k.step.0 = subst (λ (z : Kernel). pos 0 <ℤ z.step.0) (sym seen) c.requires.step in
    let behind_low : low <ℤ c.of-span.result.moment.0 = omega (arith, ints, c.if-span-low.false) in
    let h : low <ℤ moment_at k.moment at.0 = subst (λ (z : ℤ). low <ℤ z) m behind_low in
    let way = c.way_to_multiple.result in
    let b : Bool = int_lt (to_z w64 (of_z w64 (to_z w64 (of_z w64 c.of-span.result.moment.0) -ℤ to_z w64 (of_z w64 low)))) (to_z w64 (of_z w64 way)) in
    let span = c.of-span.result in
    let left = span.moment.0 -ℤ low in
    let em : to_z w64 (of_z w64 span.moment.0) ≡ span.moment.0 = search rules in
    let el : to_z w64 (of_z w64 low) ≡ low = search rules in
    let ew : to_z w64 (of_z w64 way) ≡ way = search rules in
    let low_edge : span.edge.0 ≤ℤ low = c.later_of-low.ensures.edge in
    let near = before-near k.moment.closed (moment_at k.moment at.0 -ℤ k.range.0) in
    let begins : IsTime (moment_at k.moment at.0 -ℤ k.range.0) = subst (λ (z : Kernel). IsTime (moment_at z.moment at.0 -ℤ z.range.0)) (sym seen) c.requires.times.begins in
    let ends : IsTime (moment_at k.moment at.0) = subst (λ (z : Kernel). IsTime (moment_at z.moment at.0)) (sym seen) c.requires.times.ends in
    let least : (neg_ℤ (pos (2 ^ 60)) -ℤ pos 1) ≤ℤ low = let a = near.0 in let d = begins.low in omega (arith, ints, a, d, edge, low_edge) in
    let most : span.moment.0 ≤ℤ pos (2 ^ 60) = let a = ends.high in omega (arith, ints, a, m) in
    let ed : to_z w64 (of_z w64 left) ≡ left = grind (arith, ints, to_z-of_z, least, most, behind_low) in
    let e : b ≡ int_lt (moment_at k.moment at.0 -ℤ low) way =
    ap (λ (z : ℤ). int_lt (to_z w64 (of_z w64 (z -ℤ to_z w64 (of_z w64 low)))) (to_z w64 (of_z w64 way))) em
    ∙ ap (λ (z : ℤ). int_lt (to_z w64 (of_z w64 (span.moment.0 -ℤ z))) (to_z w64 (of_z w64 way))) el
    ∙ ap (λ (z : ℤ). int_lt z (to_z w64 (of_z w64 way))) ed ∙ ap (int_lt left) ew ∙ ap (λ (z : ℤ). int_lt (z -ℤ low) way) m in
    subst (λ (z : Kernel). IsTrue b ↔ IsReady z at) seen (ready_by c.multiples_are_all.ensures old at low positive is way b h c.way_to_multiple.ensures e)
