use Rattle.std.proofs.Common.{◌∷◌, map, sym}
use Rattle.std.proofs.lemmas.Result.{err_from_is_err_and}
use Rattle.script_read.specs.Views.{heading_seen, instruction, numbered}
use Rattle.script_read.proofs.Among.{behind}
use Rattle.script_read.proofs.Growing.{gathers_among}
use Rattle.script_read.proofs.Spares.{heading_refused, load_refused, refused_more}
use Rattle.script_read.proofs.reader.command_of.Goals as goal

pub returns-in_err-at_line-clause-refused : goal.returns-in_err-at_line-clause-refused
returns-in_err-at_line-clause-refused c =
    let p = err_from_is_err_and c.from_residual.result c.from_residual.ensures.1 in
    rw (p.1, p.2) (heading_refused c.args.searches.now (numbered c.args.line ∷ map numbered c.args.body.now) c.args.line.number c.heading_of.result heading_seen c.args.line.text.now
    c.in_err-at_line.field-0.0 c.heading_of.ensures (sym c.in_err-at_line.ensures))

pub returns-in-Load-clause-refused : goal.returns-in-Load-clause-refused
returns-in-Load-clause-refused c =
    load_refused c.args.searches.now (numbered c.args.line ∷ map numbered c.args.body.now) c.read_load.result instruction c.args.line.number c.in-Load.interval (map numbered c.args.body.now) c.read_load.ensures

pub returns-in-Eval-clause-refused : goal.returns-in-Eval-clause-refused
returns-in-Eval-clause-refused c =
    let body = map numbered c.args.body.now in
    refused_more c.read_eval.new.searches body (numbered c.args.line ∷ body) c.read_eval.result (behind (numbered c.args.line) body) c.read_eval.ensures.refused

pub returns-in-Eval-clause-grows : goal.returns-in-Eval-clause-grows
returns-in-Eval-clause-grows c =
    let body = map numbered c.args.body.now in
    gathers_among body (numbered c.args.line ∷ body) c.args.searches.now c.read_eval.new.searches (behind (numbered c.args.line) body) c.read_eval.ensures.grows
