use Rattle.std.proofs.Common.{◌≡◌, ◌∙◌, sym, subst}
use Rattle.op_subquery.specs.Walked.{inner_walk}
use Rattle.ticks.specs.Walks.{LeadsToTimes}
use Rattle.ticks.specs.declared.walk.Walk.TheVariants.{Multiples}
use Rattle.subquery_rows.specs.Rings.{Ring}
use Rattle.subquery_rows.proofs.Standing.{begins}
use Rattle.subquery_rows.proofs.rows.SubqueryRows.new.Goals as goal

pub returns-clause-stands : goal.returns-clause-stands
returns-clause-stands c = λ inner.
    let outer = c.args.outer.now in
    let points = c.in_ok-points.points in
    let told = c.in_ok-points.ensures in
    let rows = c.in_ok-rows.rows in
    let ring : Ring = record { f = rows.f; walk = c.in_ok-walk.walk; next = c.first-next.result; points = points; buffer = rows.buffer } in
    let same : inner_walk points outer ≡ Multiples outer c.args.moment c.args.range c.args.step = λ i. Multiples outer (told.moment i) (told.range i) (told.step i) in
    let head = c.first-next.ensures in
    begins c.walks_are_listed.ensures.one c.walks_are_listed.ensures.first ring outer inner (c.in_ok-walk.ensures ∙ sym same) (subst LeadsToTimes (sym same) c.requires)
    (record { instant = head.instant; least = head.least; none = head.none }) told.fresh told.fed
