use Rattle.std.proofs.Common.{◌≡◌, ◌∙◌, Option, refl, sym, ap, subst}
use Rattle.std.specs.Prelude.{IfSome}
use Rattle.ticks.specs.Listed.{IsNext}
use Rattle.ticks.specs.declared.moment.Ms.{Ms}
use Rattle.subquery_rows.specs.Rings.{IsNextStep, Ring}
use Rattle.subquery_rows.proofs.Standing.{Takes, can_feed, last_is, stands_on}
use Rattle.subquery_rows.proofs.rows.SubqueryRows.take.Goals as goal

pub feed-requires : goal.feed-requires
feed-requires c =
    let k = c.self.inside in
    let r = c.requires in
    let old : Ring = record { f = k.rows.f; walk = k.walk; next = k.next; points = k.points; buffer = k.rows.buffer } in
    let seen : old ≡ c.args.self.now = c.self.view_is in
    can_feed old r.0 r.1 r.2 r.3 c.args.rows.now (subst (λ (z : Ring). IsNextStep z r.0 r.1 r.2 r.3 c.args.rows.now) (sym seen) r.4)

pub returns-clause-last : goal.returns-clause-last
returns-clause-last c =
    let k = c.self.inside in
    let r = c.requires in
    let rows = c.args.rows.now in
    let points = c.feed.new.self in
    let next = c.next_after-self-inside.result in
    let told = c.in_ok-feed.ensures in
    let old : Ring = record { f = k.rows.f; walk = k.walk; next = k.next; points = k.points; buffer = k.rows.buffer } in
    let new : Ring = record { f = k.rows.f; walk = k.walk; next = next; points = points; buffer = k.rows.buffer } in
    let seen : old ≡ c.args.self.now = c.self.view_is in
    let is : IsNextStep old r.0 r.1 r.2 r.3 rows = subst (λ (z : Ring). IsNextStep z r.0 r.1 r.2 r.3 rows) (sym seen) r.4 in
    let behind : IsNext k.walk r.3.0 next = subst (λ (o : Option Ms). IfSome o (λ t. IsNext k.walk t.0 next)) is.next c.next_after-self-inside.ensures in
    let takes : Takes old new r.3 rows = record { walk = refl; moment = told.moment; range = told.range; step = told.step; reached = told.reached; fed = told.fed; next = behind } in
    last_is old new r.0 r.1 r.2 r.3 rows is takes ∙ sym is.next ∙ ap (λ (z : Ring). z.next) seen

pub returns-clause-stands : goal.returns-clause-stands
returns-clause-stands c = λ outer inner last at step.
    let k = c.self.inside in
    let rows = c.args.rows.now in
    let points = c.feed.new.self in
    let next = c.next_after-self-inside.result in
    let told = c.in_ok-feed.ensures in
    let old : Ring = record { f = k.rows.f; walk = k.walk; next = k.next; points = k.points; buffer = k.rows.buffer } in
    let new : Ring = record { f = k.rows.f; walk = k.walk; next = next; points = points; buffer = k.rows.buffer } in
    let seen : old ≡ c.args.self.now = c.self.view_is in
    let is : IsNextStep old outer inner last at rows = subst (λ (z : Ring). IsNextStep z outer inner last at rows) (sym seen) step in
    let behind : IsNext k.walk at.0 next = subst (λ (o : Option Ms). IfSome o (λ t. IsNext k.walk t.0 next)) is.next c.next_after-self-inside.ensures in
    let takes : Takes old new at rows = record { walk = refl; moment = told.moment; range = told.range; step = told.step; reached = told.reached; fed = told.fed; next = behind } in
    stands_on old new outer inner last at rows is takes c.walks_are_listed.ensures.next
