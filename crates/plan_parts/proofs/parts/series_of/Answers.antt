use Rattle.std.proofs.Common.{subst, sym}
use Rattle.plan_bases.specs.Bases.{AreSeries}
use Rattle.plan_parts.proofs.SelectorRows.{found_is, not_found}
use Rattle.plan_parts.proofs.parts.series_of.Goals as goal

pub returns-in_ok-copy-in-Some-clause-series : goal.returns-in_ok-copy-in-Some-clause-series
returns-in_ok-copy-in-Some-clause-series c = λ kept right.
    let series = c.in-Some.series in
    let found = found_is c.in_ok-series.field-0 series _ c.in-Some.is c.in_ok-series.ensures in
    subst (AreSeries kept c.args.bases.now.samples c.args.rules.now) (sym c.in_ok-copy-in-Some.ensures) (right c.args.rules.now series.now found)

pub returns-in-None-clause-total : goal.returns-in-None-clause-total
returns-in-None-clause-total c = λ there. absurd (not_found c.in_ok-series.field-0 _ c.in-None.is c.in_ok-series.ensures there)
