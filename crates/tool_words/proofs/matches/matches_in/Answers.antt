use Rattle.std.proofs.Common.{◌≡◌, ◌∙◌, map, true, false}
use Rattle.tool_words.proofs.Final.{err_tells, ok_tells}
use Rattle.tool_words.proofs.matches.matches_in.Goals as goal

pub returns-in-Ok : goal.returns-in-Ok
returns-in-Ok c =
    let options = map (λ o. o.now) c.args.options.now in
    ok_tells c.args.name.now options c.requires c.args.words.now _ c.in-Ok.matches c.in_ok-command.ensures.app c.in-Ok.ensures.matches
    (c.in-Ok.ensures.kinds c.in_ok-command.ensures.free)

pub returns : goal.returns
returns c =
    let options = map (λ o. o.now) c.args.options.now in
    err_tells c.args.name.now options c.requires c.args.words.now _ c.in-Err.error c.in_ok-command.ensures.app
    (c.in-Err.ensures.kinds c.in_ok-command.ensures.free)
    (λ e. let k = c.kind.ensures ∙ e in let f : false ≡ true = rw k at c.if-eq.ensures in absurd (cc))
