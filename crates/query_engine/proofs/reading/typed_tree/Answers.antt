use Rattle.std.proofs.Common.{[], sym, subst}
use Rattle.std.specs.Prelude.{Ok, Err}
use Rattle.promql_parse.specs.Parsing.{Parses, Refuses}
use Rattle.promql_type.specs.Replacements.{Kept}
use Rattle.query_engine.specs.Evaluating.{IsRefusedWith, unread}
use Rattle.query_engine.proofs.Ready.{ready_of, refused_of}
use Rattle.query_engine.proofs.reading.typed_tree.Goals as goal

pub returns-in_ok-edged-in-Ok-clause-tree : goal.returns-in_ok-edged-in-Ok-clause-tree
returns-in_ok-edged-in-Ok-clause-tree c =
    let read = c.parse.new.patterns in
    let parses : Parses c.args.text.now [] read (Ok c.in-Ok.tree) = subst (λ (k : Kept). Parses c.args.text.now k read (Ok c.in-Ok.tree)) c.requires c.in-Ok.ensures.tree in
    ready_of c.args.text.now c.args.closed read c.check.new.patterns c.in-Ok.tree parses c.edges_are_typed_alike.ensures.judged c.edges_are_typed_alike.ensures.refused c.edges_are_typed_alike.ensures.typed c.checked_trees_are_within_limits.ensures c.in_ok-edged-in-Ok.field-0 c.in_ok-edged-in-Ok.ensures c.check.result c.in-Ok.ensures.within c.in-Ok.ensures.shallow c.check.ensures.gains
    c.check.ensures.tree c.check.ensures.taken c.check.ensures.kept c.check.ensures.placed c.check.ensures.parts c.check.ensures.depth

pub returns-in_ok-edged-in-Ok-clause-refused : goal.returns-in_ok-edged-in-Ok-clause-refused
returns-in_ok-edged-in-Ok-clause-refused c =
    let read = c.parse.new.patterns in
    let parses : Parses c.args.text.now [] read (Ok c.in-Ok.tree) = subst (λ (k : Kept). Parses c.args.text.now k read (Ok c.in-Ok.tree)) c.requires c.in-Ok.ensures.tree in
    refused_of c.args.text.now c.args.closed read c.check.new.patterns c.in-Ok.tree parses c.edges_are_typed_alike.ensures.judged c.edges_are_typed_alike.ensures.refused c.edges_are_typed_alike.ensures.typed c.checked_trees_are_within_limits.ensures c.in_ok-edged-in-Ok.field-0 c.in_ok-edged-in-Ok.ensures c.check.result c.check.ensures.refused

pub returns-in-Err-Refused-clause-refused : goal.returns-in-Err-Refused-clause-refused
returns-in-Err-Refused-clause-refused c =
    let read = c.parse.new.patterns in
    let told = subst (Refuses c.args.text.now c.args.patterns.now read) c.in-Err-Refused.field-0-is c.in-Err-Refused.ensures.refusal in
    let parses = subst (λ (k : Kept). Parses c.args.text.now k read (Err c.in-Err-Refused.refusal)) c.requires told in
    subst (IsRefusedWith c.args.text.now) (sym c.in-Err-Refused.refusal-is) (unread read c.in-Err-Refused.refusal parses)
