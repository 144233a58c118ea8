use Rattle.std.proofs.Common.{refl}
use Rattle.promql_tool.specs.Chosen.{under}
use Rattle.promql_tool.specs.Reading.{unread}
use Rattle.promql_tool.proofs.BoxLists.{still_itself}
use Rattle.promql_tool.proofs.Querying.{script_answered, script_came}
use Rattle.promql_tool.specs.Spending.{no_answer}
use Rattle.promql_tool.proofs.Spending.{script_asked}
use Rattle.promql_tool.proofs.query.answer_bytes.Goals as goal

pub returns-in-Ok-clause-answered : goal.returns-in-Ok-clause-answered
returns-in-Ok-clause-answered g c = λ tell path. script_answered _ path _ _ _ _ _ c.read_script.new.searches c.args.bytes.now c.in-Ok.script c.answer_script.result c.in-Ok.ensures.said (c.answer_script.ensures.answered tell)

pub returns-in-Err-Refused-clause-answered : goal.returns-in-Err-Refused-clause-answered
returns-in-Err-Refused-clause-answered g c =
    let said = rw c.in-Err-Refused.field-0-is at c.in-Err-Refused.ensures.said in
    λ tell path. rw (c.refused.ensures, c.in-Err-Refused.refusal-is) ((c.args.bytes.now, refl, unread c.read_script.new.searches c.in-Err-Refused.refusal said), refl)

pub returns-in_err-room-clause-bounded : goal.returns-in_err-room-clause-bounded
returns-in_err-room-clause-bounded g c = λ none path. no_answer refl

pub returns-in-Ok-clause-bounded : goal.returns-in-Ok-clause-bounded
returns-in-Ok-clause-bounded g c =
    let question = c.args.question in
    λ none path. script_asked question.options.now c.read_script.new.searches c.args.bytes.now c.in-Ok.script path question.expr.now question.grid.now c.args.work.now c.answer_script.new.work c.in-Ok.ensures.said
    (rw none at c.answer_script.ensures.idle) (c.answer_script.ensures.bounded none)

pub returns-in-Err-Refused-clause-bounded : goal.returns-in-Err-Refused-clause-bounded
returns-in-Err-Refused-clause-bounded g c = λ none path. no_answer refl

pub returns-in-Ok-clause-came : goal.returns-in-Ok-clause-came
returns-in-Ok-clause-came g c = λ path. script_came (under c.args.question.options.now.closed c.args.declared.now) path _ _ c.read_script.new.searches c.args.bytes.now c.in-Ok.script c.answer_script.result c.in-Ok.ensures.said c.answer_script.ensures.came

pub returns-in-Err-Refused-clause-came : goal.returns-in-Err-Refused-clause-came
returns-in-Err-Refused-clause-came g c =
    let said = rw c.in-Err-Refused.field-0-is at c.in-Err-Refused.ensures.said in
    λ path. rw (c.refused.ensures, c.in-Err-Refused.refusal-is) ((c.args.bytes.now, refl, unread c.read_script.new.searches c.in-Err-Refused.refusal said), refl)

pub returns-in-Err-Refused-clause-boxes : goal.returns-in-Err-Refused-clause-boxes
returns-in-Err-Refused-clause-boxes g c = still_itself _
