use Rattle.std.proofs.Common.{◌≡◌, ◌∙◌, sym, subst}
use Rattle.std.specs.Prelude.{◌≤ℤ◌, IfNone, IfSome}
use Rattle.std.proofs.lemmas.Bool.{false≢true}
use Rattle.op_subquery.specs.Rings.{IsReady}
use Rattle.ticks.specs.Walks.{moment_at}
use Rattle.subquery_rows.specs.Rings.{IsAsked, Ring}
use Rattle.subquery_rows.proofs.Standing.{has_times, is_lacking, is_within, none_lacks, step_positive}
use Rattle.subquery_rows.proofs.rows.SubqueryRows.wanted.Goals as goal

pub ready-requires-clause-times : goal.ready-requires-clause-times
ready-requires-clause-times c =
    let k = c.self.inside in
    let r = c.requires in
    let old : Ring = record { f = k.rows.f; walk = k.walk; next = k.next; points = k.points; buffer = k.rows.buffer } in
    let seen : old ≡ c.args.self.now = c.self.view_is in
    has_times old r.0 r.1 r.2 c.args.t (subst (λ (z : Ring). IsAsked z r.0 r.1 r.2 c.args.t) (sym seen) r.3)

pub ready-requires-clause-step : goal.ready-requires-clause-step
ready-requires-clause-step c =
    let k = c.self.inside in
    let r = c.requires in
    let old : Ring = record { f = k.rows.f; walk = k.walk; next = k.next; points = k.points; buffer = k.rows.buffer } in
    let seen : old ≡ c.args.self.now = c.self.view_is in
    step_positive old r.0 r.1 r.2 c.args.t (subst (λ (z : Ring). IsAsked z r.0 r.1 r.2 c.args.t) (sym seen) r.3)

pub returns-clause-up_to : goal.returns-clause-up_to
returns-clause-up_to c =
    let k = c.self.inside in
    let r = c.requires in
    let t = c.args.t in
    let old : Ring = record { f = k.rows.f; walk = k.walk; next = k.next; points = k.points; buffer = k.rows.buffer } in
    let seen : old ≡ c.args.self.now = c.self.view_is in
    let asked : IsAsked old r.0 r.1 r.2 t = subst (λ (z : Ring). IsAsked z r.0 r.1 r.2 t) (sym seen) r.3 in
    subst (λ (z : Ring). IfSome k.next (λ u. u.0 ≤ℤ moment_at z.points.moment t.0)) seen (is_within old r.0 r.1 r.2 t asked (λ all. false≢true (sym c.if-ready.false ∙ c.ready.ensures.1 all)))

pub returns-clause-lacks : goal.returns-clause-lacks
returns-clause-lacks c =
    let k = c.self.inside in
    let r = c.requires in
    let t = c.args.t in
    let old : Ring = record { f = k.rows.f; walk = k.walk; next = k.next; points = k.points; buffer = k.rows.buffer } in
    let seen : old ≡ c.args.self.now = c.self.view_is in
    let asked : IsAsked old r.0 r.1 r.2 t = subst (λ (z : Ring). IsAsked z r.0 r.1 r.2 t) (sym seen) r.3 in
    subst (λ (z : Ring). IfSome k.next (λ u. IsReady z.points t → ⊥)) seen (is_lacking old r.0 r.1 r.2 t asked (λ all. false≢true (sym c.if-ready.false ∙ c.ready.ensures.1 all)))

pub returns-clause-ready : goal.returns-clause-ready
returns-clause-ready c =
    let k = c.self.inside in
    let r = c.requires in
    let t = c.args.t in
    let old : Ring = record { f = k.rows.f; walk = k.walk; next = k.next; points = k.points; buffer = k.rows.buffer } in
    let seen : old ≡ c.args.self.now = c.self.view_is in
    subst (λ (z : Ring). IfNone k.next (IsReady z.points t)) seen (none_lacks old r.0 r.1 r.2 t (subst (λ (z : Ring). IsAsked z r.0 r.1 r.2 t) (sym seen) r.3))
