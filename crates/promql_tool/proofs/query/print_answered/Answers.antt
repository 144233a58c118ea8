use Rattle.std.proofs.Common.{List, ℕ, subst, sym}
use Rattle.std.specs.Prelude.{Vec}
use Rattle.std.specs.declared.alloc.Global.{Global}
use Rattle.promql_tool.specs.Query.{AreNoteLines, notes_in}
use Rattle.promql_tool.specs.Runs.{bytes_of}
use Rattle.promql_tool.proofs.Querying.{outcome_printed, stop_printed}
use Rattle.promql_tool.proofs.query.print_answered.Goals as goal

pub returns-in_ok-notes-in-Outcome-clause-ends : goal.returns-in_ok-notes-in-Outcome-clause-ends
returns-in_ok-notes-in-Outcome-clause-ends g c =
    let got = c.in-Outcome.outcome in
    let lines = c.deref.result.now in
    let are = subst (λ (notes : List (Vec ℕ Global)). AreNoteLines (notes_in got) (bytes_of notes)) (sym c.deref.ensures.value) c.in_ok-notes-in-Outcome.ensures in
    rw c.in-Outcome.is (outcome_printed c.args.path.now _ _ got (bytes_of lines) c.print_outcome.result are c.print_outcome.ensures.ok c.print_outcome.ensures.err)

pub returns-in-Stopped-clause-ends : goal.returns-in-Stopped-clause-ends
returns-in-Stopped-clause-ends g c =
    rw c.in-Stopped.is (stop_printed c.args.path.now _ _ c.in-Stopped.stop c.print_stop.result c.print_stop.ensures.ok c.print_stop.ensures.err)
