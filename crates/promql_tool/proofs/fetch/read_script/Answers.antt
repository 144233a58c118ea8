use Rattle.promql_tool.proofs.Fetching.{file_read}
use Rattle.promql_tool.proofs.fetch.read_script.Goals as goal

pub returns-clause-said : goal.returns-clause-said
returns-clause-said c =
    let read = c.read-script in
    let grows = rw c.requires at read.ensures.grows in
    let gains = rw c.requires at read.ensures.gains in
    file_read read.new.searches c.args.bytes.now read.result read.ensures.said read.ensures.refused grows gains

pub returns-clause-kept : goal.returns-clause-kept
returns-clause-kept c = c.scripts_keep_their_patterns.ensures c.read-script.result c.read-script.new.searches c.args.bytes.now c.read-script.ensures.said
