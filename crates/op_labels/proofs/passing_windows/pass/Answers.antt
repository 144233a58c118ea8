use Rattle.std.proofs.Common.{◌≡◌, ◌∙◌, ◌++◌, ◌∷◌, [], false, sym, ap, subst}
use Rattle.std.specs.List.{list_any}
use Rattle.std.proofs.lemmas.Result.{on_ok_weaker}
use Rattle.label_set.specs.LabelEquality.{labels_eq}
use Rattle.step_batch.specs.LentWindows.{names_of}
use Rattle.step_put.specs.Feeding.{some_here}
use Rattle.step_table.specs.Groups.{Names}
use Rattle.step_table.specs.declared.windows.WindowRow.{WindowRow}
use Rattle.op_labels.specs.Rules.{staying}
use Rattle.op_labels.specs.declared.change.Fate.{Fate}
use Rattle.op_labels.proofs.Passing.{as_many, named_at, window_is}
use Rattle.op_labels.proofs.passing_windows.pass.Goals as goal

pub put-requires : goal.put-requires
put-requires c =
    let rows = c.args.windows.now.rows in
    let w = some_here rows c.args.i c.requires.here in
    record {
      same = as_many rows c.args.i c.times.result.now c.values.result.now c.len.ensures.lent.each c.times.ensures.times c.values.ensures;
      some = c.times.ensures.some;
      rising = c.times.ensures.rising;
      fresh = subst (λ (names : Names). list_any (labels_eq names) (names_of c.args.passed.now.rows) ≡ false) (named_at rows c.args.i w.0 c.labels.result.now w.1 c.labels.ensures) (c.requires.fresh w.0 w.1);
    }

pub returns-in-Stays : goal.returns-in-Stays
returns-in-Stays c =
    let was = c.args.passed.now in
    on_ok_weaker c.put.result
    (λ put w e. put ∙ ap (λ (x : WindowRow). record { at = was.at; rows = was.rows ++ x ∷ []; marks = was.marks })
    (window_is c.args.windows.now.rows c.args.i w c.labels.result.now c.times.result.now c.values.result.now e c.labels.ensures c.times.ensures.times c.values.ensures)
    ∙ ap (λ (fate : Fate). record { at = was.at; rows = was.rows ++ staying fate w; marks = was.marks }) (sym c.in-Stays.is))
    c.put.ensures.ok
