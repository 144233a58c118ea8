use Rattle.std.proofs.Common.{◌≡◌, ◌∙◌, List, [], ◌∷◌, map, take, refl, sym, subst}
use Rattle.op_subquery.specs.Rings.{AreLent, IsReady, windows_at}
use Rattle.op_window.specs.Rules.{HasScalars, fed_by, windowed_at, windows_of_lent}
use Rattle.step_batch.specs.Lent.{stages}
use Rattle.step_batch.specs.LentWindows.{WindowsAt}
use Rattle.step_table.specs.Timed.{StepAt, steps_over}
use Rattle.subquery_rows.specs.Rings.{IsAsked, Ring, windows_of_points}
use Rattle.subquery_rows.proofs.Giving.{can_feed_windows, given_is}
use Rattle.subquery_rows.proofs.Standing.{Gives, has_times, no_earlier, stands_given}
use Rattle.subquery_rows.proofs.rows.SubqueryRows.give.Goals as goal

pub advance-requires-clause-times : goal.advance-requires-clause-times
advance-requires-clause-times c =
    let k = c.self.inside in
    let r = c.requires.asked in
    let old : Ring = record { f = k.rows.f; walk = k.walk; next = k.next; points = k.points; buffer = k.rows.buffer } in
    let seen : old ≡ c.args.self.now = c.self.view_is in
    has_times old r.0 r.1 r.2 c.args.t (subst (λ (z : Ring). IsAsked z r.0 r.1 r.2 c.args.t) (sym seen) r.3)

pub advance-requires-clause-on : goal.advance-requires-clause-on
advance-requires-clause-on c =
    let k = c.self.inside in
    let r = c.requires.asked in
    let old : Ring = record { f = k.rows.f; walk = k.walk; next = k.next; points = k.points; buffer = k.rows.buffer } in
    let seen : old ≡ c.args.self.now = c.self.view_is in
    no_earlier old r.0 r.1 r.2 c.args.t (subst (λ (z : Ring). IsAsked z r.0 r.1 r.2 c.args.t) (sym seen) r.3)

pub feed_windows-requires : goal.feed_windows-requires
feed_windows-requires c =
    let k = c.self.inside in
    let r = c.requires.asked in
    let t = c.args.t in
    let w = c.lend-windows.result in
    let scalar = c.args.scalar.now in
    let old : Ring = record { f = k.rows.f; walk = k.walk; next = k.next; points = k.points; buffer = k.rows.buffer } in
    let seen : old ≡ c.args.self.now = c.self.view_is in
    let asked : IsAsked old r.0 r.1 r.2 t = subst (λ (z : Ring). IsAsked z r.0 r.1 r.2 t) (sym seen) r.3 in
    let of = asked.stands.of in
    let steps : List StepAt = steps_over r.1 (take asked.stands.count of.times) in
    let is : AreLent w t (windows_at k.points.moment k.points.range steps t) = subst (λ (z : WindowsAt). AreLent z t (windows_at k.points.moment k.points.range steps t)) (sym c.lend-windows.ensures) (c.in_ok-advance.ensures.lent steps of.fed) in
    let scalars : HasScalars k.rows.f (t ∷ []) scalar = subst (λ (z : Ring). HasScalars z.f (t ∷ []) scalar) (sym seen) c.requires.scalars in
    can_feed_windows k.rows k.points.moment k.points.range t steps w scalar c.self.invariant.0 c.self.invariant.1 c.len.ensures.lent is c.requires.time (has_times old r.0 r.1 r.2 t asked) scalars

pub returns-clause-stands : goal.returns-clause-stands
returns-clause-stands c = λ outer inner last asked.
    let k = c.self.inside in
    let told = c.in_ok-advance.ensures in
    let rows = c.feed_windows.new.self in
    let old : Ring = record { f = k.rows.f; walk = k.walk; next = k.next; points = k.points; buffer = k.rows.buffer } in
    let new : Ring = record { f = rows.f; walk = k.walk; next = k.next; points = c.advance.new.self; buffer = rows.buffer } in
    let seen : old ≡ c.args.self.now = c.self.view_is in
    let was : IsAsked old outer inner last c.args.t = subst (λ (z : Ring). IsAsked z outer inner last c.args.t) (sym seen) asked in
    let gives : Gives old new c.args.t = record { walk = refl; next = refl; moment = told.moment; range = told.range; step = told.step; reached = told.reached; fed = told.fed } in
    stands_given old new outer inner last c.args.t was.stands gives

pub returns-clause-lent : goal.returns-clause-lent
returns-clause-lent c = λ outer inner last asked.
    let k = c.self.inside in
    let t = c.args.t in
    let w = c.lend-windows.result in
    let scalar = c.args.scalar.now in
    let now = stages c.feed_windows.new.self.buffer in
    let old : Ring = record { f = k.rows.f; walk = k.walk; next = k.next; points = k.points; buffer = k.rows.buffer } in
    let seen : old ≡ c.args.self.now = c.self.view_is in
    let was : IsAsked old outer inner last t = subst (λ (z : Ring). IsAsked z outer inner last t) (sym seen) asked in
    let of = was.stands.of in
    let steps : List StepAt = steps_over inner (take was.stands.count of.times) in
    let is : AreLent w t (windows_at k.points.moment k.points.range steps t) = subst (λ (z : WindowsAt). AreLent z t (windows_at k.points.moment k.points.range steps t)) (sym c.lend-windows.ensures) (c.in_ok-advance.ensures.lent steps of.fed) in
    let scalars : HasScalars k.rows.f (t ∷ []) scalar = subst (λ (z : Ring). HasScalars z.f (t ∷ []) scalar) (sym seen) c.requires.scalars in
    let ready : IsReady k.points t = subst (λ (z : Ring). IsReady z.points t) (sym seen) c.requires.ready in
    let made : now ≡ map (windowed_at k.rows.f (windows_of_lent w k.points.moment k.points.range)) (fed_by k.rows.f (w.at ∷ []) (stages scalar)) =
    c.in_ok-feed_windows.ensures.lent ∙ (λ i. map (windowed_at k.rows.f (windows_of_lent w (c.self.invariant.0 i) (c.self.invariant.1 i))) (fed_by k.rows.f (w.at ∷ []) (stages scalar))) in
    subst (λ (z : Ring). now ≡ map (windowed_at z.f (windows_of_points z inner)) (fed_by z.f (t ∷ []) (stages scalar))) seen
    (given_is c.rows_ignore_order.ensures.outcomes k.rows.f k.points.moment k.points.range t steps w scalar (windows_of_points old inner) now c.len.ensures.lent is scalars (c.lent_are_meant.ensures k.points outer inner was.stands.count t of was.on ready) made)
