use Rattle.std.proofs.Common.{◌∙◌, ap, sym, subst}
use Rattle.std.specs.Prelude.{◌≡◌, IfOk}
use Rattle.promql_meaning.specs.Meaning.{meaning}
use Rattle.promql_meaning.specs.Selecting.{asked_over}
use Rattle.promql_meaning.specs.declared.given.Given.{Given}
use Rattle.step_cells.specs.Owed.{cells}
use Rattle.engine_local.proofs.Readiness.{ready_at}
use Rattle.engine_local.proofs.Well.{made_well}
use Rattle.engine_local.proofs.pulling.step_at.Goals as goal

pub given-requires : goal.given-requires
given-requires g c =
    record { ready = ready_at c.checked_patterns_are_kept.ensures c.args.store.now c.args.patterns.now c.args.one.now c.args.t c.requires.allowed c.requires.kept c.requires.here }

pub returns-clause-owed : goal.returns-clause-owed
returns-clause-owed g c =
    let one = c.args.one.now in
    let value = c.in_ok-given.ensures.meaning ∙ ap (λ k. meaning (asked_over c.args.store.now k one.span) one.part.expr c.args.t.0) (sym c.requires.kept) in
    subst (λ (x : Given). IfOk c.cells_of.result (λ step. step ≡ cells one.part.kind c.args.t x)) value c.cells_of.ensures.cells

pub returns-clause-well : goal.returns-clause-well
returns-clause-well g c =
    made_well c.meanings_are_well_formed.ensures c.walk_moments_are_moments.ensures c.args.store.now c.series.ensures.rising c.args.patterns.now c.args.one.now c.requires.allowed c.args.t
    c.in_ok-given.given c.cells_of.result c.in_ok-given.ensures.meaning c.cells_of.ensures.cells c.cells_of.ensures.few

pub returns-clause-same : goal.returns-clause-same
returns-clause-same g c = c.given.ensures.same
