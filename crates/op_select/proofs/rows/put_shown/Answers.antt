use Rattle.std.proofs.Common.{◌∙◌, ◌++◌, ◌∷◌, [], ap, sym, append-nil, arith}
use Rattle.std.specs.Prelude.{List, Option}
use Rattle.std.specs.Option.{option_to_list}
use Rattle.step_batch.specs.Lent.{no_marks, step_of}
use Rattle.step_table.specs.Groups.{Names}
use Rattle.xfrac.specs.declared.value.XFrac.{XFrac}
use Rattle.op_select.specs.Newest.{entry_under}
use Rattle.op_select.proofs.Lasts.{free_wider, stages_row}
use Rattle.op_select.proofs.rows.put_shown.Goals as goal

pub put-requires-clause-free : goal.put-requires-clause-free
put-requires-clause-free c = c.free_places_are_free.ensures c.args.buffer.now c.args.place c.args.place (omega arith) c.requires.free

pub returns-in-None-clause-free : goal.returns-in-None-clause-free
returns-in-None-clause-free c = free_wider c.args.place c.args.buffer.now c.requires.free

pub returns-in_ok-put-in-Some-clause-free : goal.returns-in_ok-put-in-Some-clause-free
returns-in_ok-put-in-Some-clause-free c = c.in_ok-put-in-Some.ensures.free c.args.place (omega arith) c.requires.free

pub returns-in-None-clause-stages : goal.returns-in-None-clause-stages
returns-in-None-clause-stages c = λ names front at es here was.
    was ∙ ap (λ (ds : List (Names × XFrac)). front ++ record { at = at; step = step_of ds no_marks } ∷ []) (sym (append-nil es) ∙ ap (λ (o : Option XFrac). es ++ option_to_list (entry_under names o)) (sym c.in-None.is))

pub returns-in_ok-put-in-Some-clause-stages : goal.returns-in_ok-put-in-Some-clause-stages
returns-in_ok-put-in-Some-clause-stages c = λ names front at es here was.
    stages_row _ _ front at es no_marks names c.in-Some.value (c.in_ok-put-in-Some.ensures.stages names here) was
    ∙ ap (λ (o : Option XFrac). front ++ record { at = at; step = step_of (es ++ option_to_list (entry_under names o)) no_marks } ∷ []) (sym c.in-Some.is)
