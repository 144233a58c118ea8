use Rattle.std.proofs.Common.{List, ℕ, Some, refl, subst, sym}
use Rattle.promql_tool.specs.Chosen.{under}
use Rattle.promql_tool.specs.Found.{IsFound}
use Rattle.promql_tool.proofs.BoxLists.{still_itself}
use Rattle.promql_tool.proofs.Querying.{bytes_answered, bytes_came, never_gone}
use Rattle.promql_tool.specs.Spending.{no_answer}
use Rattle.promql_tool.proofs.Spending.{bytes_asked}
use Rattle.promql_tool.proofs.query.answer_file.Goals as goal

pub returns-in-Bytes-clause-gone : goal.returns-in-Bytes-clause-gone
returns-in-Bytes-clause-gone g c = never_gone (under c.args.question.options.now.closed c.args.declared.now) c.args.path.now _ _ c.as_slice.result.now c.answer_bytes.result _ (c.answer_bytes.ensures.came c.args.path.now)

pub returns-in-Bytes-clause-answered : goal.returns-in-Bytes-clause-answered
returns-in-Bytes-clause-answered g c =
    let found = IsFound (g.L.Library.told c.args.library.now) (g.L.Library.sound c.args.library.now) in
    let is_found = subst (λ (bytes : List ℕ). found c.args.path.now (Some bytes)) (sym c.as_slice.ensures) (rw c.in-Bytes.is at (c.in_ok-bytes.ensures.file (under c.args.question.options.now.closed c.args.declared.now))) in
    λ tell. bytes_answered _ c.args.path.now _ _ _ _ found _ c.as_slice.result.now c.answer_bytes.result is_found (c.answer_bytes.ensures.answered tell c.args.path.now)

pub returns-in_err-bytes-clause-bounded : goal.returns-in_err-bytes-clause-bounded
returns-in_err-bytes-clause-bounded g c = λ none. no_answer refl

pub returns-in-Bytes-clause-bounded : goal.returns-in-Bytes-clause-bounded
returns-in-Bytes-clause-bounded g c =
    let found = IsFound (g.L.Library.told c.args.library.now) (g.L.Library.sound c.args.library.now) in
    let is_found = subst (λ (bytes : List ℕ). found c.args.path.now (Some bytes)) (sym c.as_slice.ensures) (rw c.in-Bytes.is at (c.in_ok-bytes.ensures.file (under c.args.question.options.now.closed c.args.declared.now))) in
    let question = c.args.question in
    λ none. bytes_asked question.options.now found c.args.path.now c.as_slice.result.now question.expr.now question.grid.now c.args.work.now c.answer_bytes.new.work is_found (c.answer_bytes.ensures.bounded none c.args.path.now)

pub returns-in-Stopped-clause-bounded : goal.returns-in-Stopped-clause-bounded
returns-in-Stopped-clause-bounded g c = λ none. no_answer refl

pub returns-in-Bytes-clause-came : goal.returns-in-Bytes-clause-came
returns-in-Bytes-clause-came g c =
    let found = IsFound (g.L.Library.told c.args.library.now) (g.L.Library.sound c.args.library.now) in
    let is_found = subst (λ (bytes : List ℕ). found c.args.path.now (Some bytes)) (sym c.as_slice.ensures) (rw c.in-Bytes.is at (c.in_ok-bytes.ensures.file (under c.args.question.options.now.closed c.args.declared.now))) in
    bytes_came (under c.args.question.options.now.closed c.args.declared.now) c.args.path.now _ found _ c.as_slice.result.now c.answer_bytes.result is_found (c.answer_bytes.ensures.came c.args.path.now)

pub returns-in-Stopped-clause-boxes : goal.returns-in-Stopped-clause-boxes
returns-in-Stopped-clause-boxes g c = still_itself _

pub returns-in-Stopped-clause-answered : goal.returns-in-Stopped-clause-answered
returns-in-Stopped-clause-answered g c = λ tell. (rw c.in-Stopped.is at (c.in_ok-bytes.ensures.file (under c.args.question.options.now.closed c.args.declared.now)), refl)

pub returns-in-Stopped-clause-came : goal.returns-in-Stopped-clause-came
returns-in-Stopped-clause-came g c = (rw c.in-Stopped.is at (c.in_ok-bytes.ensures.file (under c.args.question.options.now.closed c.args.declared.now)), refl)
