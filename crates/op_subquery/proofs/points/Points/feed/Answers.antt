use Rattle.std.proofs.Common.{◌≡◌, refl, sym, subst}
use Rattle.op_subquery.specs.Rings.{CanFeed, Kernel, WasFed}
use Rattle.op_subquery.proofs.Fed.{feed_more}
use Rattle.op_subquery.proofs.points.Points.feed.Goals as goal

pub returns-clause-fed : goal.returns-clause-fed
returns-clause-fed c = λ steps fed.
    let k = c.self.inside in
    let old : Kernel = record { range = k.range; step = k.step; moment = k.moment; last = k.last; reached = k.reached; waiting = k.waiting; windows = k.windows; raised = k.raised } in
    let seen : old ≡ c.args.self.now = c.self.view_is in
    feed_more c.lent_steps_are_tables.ensures.rows old _ c.args.rows.now c.last_instant-last.ensures.lent (subst (λ (z : Kernel). CanFeed z c.args.rows.now) (sym seen) c.requires) refl c.in_ok-take.ensures refl refl c.last_instant-last.ensures.last steps
    (subst (λ (z : Kernel). WasFed z steps) (sym seen) fed)
