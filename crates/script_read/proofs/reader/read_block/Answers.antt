use Rattle.std.proofs.Common.{◌∷◌, ◌++◌, ◌-◌, length, take, drop, map, ap, sym, ◌∙◌, Ok}
use Rattle.std.proofs.lemmas.Result.{err_from_is_err_and}
use Rattle.script_read.specs.Outcomes.{in_front}
use Rattle.script_read.specs.Reading.{commands_in}
use Rattle.script_read.specs.Views.{instructions, numbered}
use Rattle.script_read.proofs.Among.{behind}
use Rattle.script_read.proofs.Bodies.{clear_more, first_cut, left_refused, left_said, other_more, there_cut}
use Rattle.script_read.proofs.Growing.{gathers_all, gathers_among}
use Rattle.script_read.proofs.Spares.{refused_among}
use Rattle.script_read.proofs.reader.read_block.Goals as goal

pub returns-in_err-command-clause-added : goal.returns-in_err-command-clause-added
returns-in_err-command-clause-added c =
    let p = err_from_is_err_and c.from_residual.result c.from_residual.ensures.1 in
    let rest = c.loop-rest.rest.now in
    let line = c.line-item.result in
    rw (p.1, p.2) (left_refused c.args.commands.now c.loop-rest.commands (map numbered c.args.block.now) (map numbered rest) c.loop-rest.searches c.loop-rest.invariant.said c.command_of.new.searches
    c.command_of.ensures.grows.more (numbered line) (map numbered (take (length rest - 1) (drop 1 rest))) c.in_err-command.field-0.0 c.command_of.ensures.grows.behind
    (first_cut rest line c.in-len1-up.len_at_least c.line-item.is) c.in_err-command.ensures.said)

pub returns-in_err-command-clause-refused : goal.returns-in_err-command-clause-refused
returns-in_err-command-clause-refused c =
    let p = err_from_is_err_and c.from_residual.result c.from_residual.ensures.1 in
    let rest = c.loop-rest.rest.now in
    let line = c.line-item.result in
    let body = map numbered (take (length rest - 1) (drop 1 rest)) in
    rw (p.1, p.2) (refused_among c.command_of.new.searches (numbered line ∷ body) (map numbered c.args.block.now) c.in_err-command.field-0.0
    (λ x at. c.loop-rest.invariant.among x (there_cut (map numbered rest) (numbered line) body x (first_cut rest line c.in-len1-up.len_at_least c.line-item.is) at)) c.in_err-command.ensures.refused)

pub returns-in_err-command-clause-grows : goal.returns-in_err-command-clause-grows
returns-in_err-command-clause-grows c =
    let rest = c.loop-rest.rest.now in
    let line = c.line-item.result in
    gathers_all (map numbered c.args.block.now) _ _ _ c.loop-rest.invariant.grows (gathers_among _ (map numbered c.args.block.now) _ _
    (λ x at. c.loop-rest.invariant.among x (there_cut (map numbered rest) (numbered line) _ x (first_cut rest line c.in-len1-up.len_at_least c.line-item.is) at)) c.command_of.ensures.grows)

pub returns-in_err-push-clause-grows : goal.returns-in_err-push-clause-grows
returns-in_err-push-clause-grows c =
    let rest = c.loop-rest.rest.now in
    let line = c.line-item.result in
    gathers_all (map numbered c.args.block.now) _ _ _ c.loop-rest.invariant.grows (gathers_among _ (map numbered c.args.block.now) _ _
    (λ x at. c.loop-rest.invariant.among x (there_cut (map numbered rest) (numbered line) _ x (first_cut rest line c.in-len1-up.len_at_least c.line-item.is) at)) c.command_of.ensures.grows)

pub returns-then-not-goes_on-clause-added : goal.returns-then-not-goes_on-clause-added
returns-then-not-goes_on-clause-added c = λ more.
    let rest = c.loop-rest.rest.now in
    let line = c.line-item.result in
    let body = map numbered (take (length rest - 1) (drop 1 rest)) in
    let kept = c.command_of.new.searches ++ more in
    sym (left_said c.args.commands.now c.loop-rest.commands (map numbered c.args.block.now) (map numbered rest) c.loop-rest.searches c.loop-rest.invariant.said c.command_of.new.searches
    c.command_of.ensures.grows.more more c.command_of.ensures.grows.behind)
    ∙ ap (λ l. in_front (instructions c.loop-rest.commands) (commands_in kept l)) (first_cut rest line c.in-len1-up.len_at_least c.line-item.is)
    ∙ other_more kept c.loop-rest.commands (numbered line) body c.in_ok-command.command (c.in_ok-command.ensures.said more) (sym c.is_clear-goes_on.ensures ∙ c.if-not-goes_on.true)
    ∙ ap (λ l. Ok (instructions l)) (sym c.in_ok-push.ensures.ok)

pub returns-then-not-goes_on-clause-grows : goal.returns-then-not-goes_on-clause-grows
returns-then-not-goes_on-clause-grows c =
    let rest = c.loop-rest.rest.now in
    let line = c.line-item.result in
    gathers_all (map numbered c.args.block.now) _ _ _ c.loop-rest.invariant.grows (gathers_among _ (map numbered c.args.block.now) _ _
    (λ x at. c.loop-rest.invariant.among x (there_cut (map numbered rest) (numbered line) _ x (first_cut rest line c.in-len1-up.len_at_least c.line-item.is) at)) c.command_of.ensures.grows)

pub loop-rest-preserved : goal.loop-rest-preserved
loop-rest-preserved c =
    let rest = c.loop-rest.rest.now in
    let line = c.line-item.result in
    let body = map numbered (take (length rest - 1) (drop 1 rest)) in
    let cut = first_cut rest line c.in-len1-up.len_at_least c.line-item.is in
    record {
      said = λ more.
          ap (λ l. in_front (instructions l) (commands_in (c.command_of.new.searches ++ more) body)) c.in_ok-push.ensures.ok
          ∙ sym (clear_more (c.command_of.new.searches ++ more) c.loop-rest.commands (numbered line) body c.in_ok-command.command (c.in_ok-command.ensures.said more) (sym c.is_clear-goes_on.ensures ∙ c.if-not-goes_on.false))
          ∙ ap (λ l. in_front (instructions c.loop-rest.commands) (commands_in (c.command_of.new.searches ++ more) l)) (sym cut)
          ∙ left_said c.args.commands.now c.loop-rest.commands (map numbered c.args.block.now) (map numbered rest) c.loop-rest.searches c.loop-rest.invariant.said c.command_of.new.searches
          c.command_of.ensures.grows.more more c.command_of.ensures.grows.behind;
      among = λ x at. c.loop-rest.invariant.among x (there_cut (map numbered rest) (numbered line) body x cut (behind (numbered line) body x at));
      grows = gathers_all (map numbered c.args.block.now) _ _ _ c.loop-rest.invariant.grows (gathers_among _ (map numbered c.args.block.now) _ _
          (λ x at. c.loop-rest.invariant.among x (there_cut (map numbered rest) (numbered line) body x cut at)) c.command_of.ensures.grows);
    }
