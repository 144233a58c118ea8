use Rattle.std.proofs.Common.{refl}
use Rattle.promql_tool.specs.Reading.{unread}
use Rattle.promql_tool.specs.Chosen.{under}
use Rattle.promql_tool.proofs.BoxLists.{still_itself}
use Rattle.promql_tool.proofs.Judging.{bytes_come, bytes_cut, bytes_end, bytes_stopped}
use Rattle.promql_tool.specs.Spending.{no_file}
use Rattle.promql_tool.proofs.Spending.{script_spends}
use Rattle.promql_tool.proofs.judge.run_bytes.Goals as goal

pub returns-in-Ok-clause-ran : goal.returns-in-Ok-clause-ran
returns-in-Ok-clause-ran g c = λ tell. bytes_come c.read_script.new.searches c.args.bytes.now c.in-Ok.script c.in-Ok.ensures.said (under c.args.options.now.closed c.args.declared.now) c.args.path.now _ _ _ _ c.run_script.result (c.run_script.ensures.ran tell)

pub returns-in-Ok-clause-cut : goal.returns-in-Ok-clause-cut
returns-in-Ok-clause-cut g c = λ tell. bytes_cut c.read_script.new.searches c.args.bytes.now c.in-Ok.script c.in-Ok.ensures.said (under c.args.options.now.closed c.args.declared.now) c.args.path.now _ _ _ c.run_script.result (c.run_script.ensures.cut tell)

pub returns-in-Err-Refused-clause-ran : goal.returns-in-Err-Refused-clause-ran
returns-in-Err-Refused-clause-ran g c =
    let said = rw c.in-Err-Refused.field-0-is at c.in-Err-Refused.ensures.said in
    λ tell. rw (c.refused.ensures, c.in-Err-Refused.refusal-is) ((c.args.bytes.now, refl, unread c.read_script.new.searches c.in-Err-Refused.refusal said), refl, refl)

pub returns-in_err-room-clause-bounded : goal.returns-in_err-room-clause-bounded
returns-in_err-room-clause-bounded g c = λ none. no_file refl

pub returns-in-Ok-clause-bounded : goal.returns-in-Ok-clause-bounded
returns-in-Ok-clause-bounded g c =
    λ none. script_spends c.args.options.now c.read_script.new.searches c.args.bytes.now c.in-Ok.script c.args.path.now c.args.work.now c.run_script.new.work c.in-Ok.ensures.said (c.run_script.ensures.bounded none)

pub returns-in-Err-Refused-clause-bounded : goal.returns-in-Err-Refused-clause-bounded
returns-in-Err-Refused-clause-bounded g c = λ none. no_file refl

pub returns-in-Ok-clause-came : goal.returns-in-Ok-clause-came
returns-in-Ok-clause-came g c = bytes_end c.read_script.new.searches c.args.bytes.now c.in-Ok.script c.in-Ok.ensures.said (under c.args.options.now.closed c.args.declared.now) c.args.path.now _ _ _ _ c.run_script.result c.run_script.ensures.came

pub returns-in-Ok-clause-stopped : goal.returns-in-Ok-clause-stopped
returns-in-Ok-clause-stopped g c = λ tell. bytes_stopped c.read_script.new.searches c.args.bytes.now c.in-Ok.script c.in-Ok.ensures.said (under c.args.options.now.closed c.args.declared.now) c.args.path.now _ _ c.run_script.result (c.run_script.ensures.stopped tell)

pub returns-in-Err-Refused-clause-came : goal.returns-in-Err-Refused-clause-came
returns-in-Err-Refused-clause-came g c =
    let said = rw c.in-Err-Refused.field-0-is at c.in-Err-Refused.ensures.said in
    rw (c.refused.ensures, c.in-Err-Refused.refusal-is) ((c.args.bytes.now, refl, unread c.read_script.new.searches c.in-Err-Refused.refusal said), refl, refl)

pub returns-in-Err-Refused-clause-boxes : goal.returns-in-Err-Refused-clause-boxes
returns-in-Err-Refused-clause-boxes g c = still_itself _
