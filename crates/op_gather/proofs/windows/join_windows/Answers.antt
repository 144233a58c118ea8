use Rattle.std.proofs.Common.{◌∙◌, List, map, sym, subst}
use Rattle.std.proofs.lemmas.Result.{on_ok_weaker}
use Rattle.std.specs.List.{AllByRecursion}
use Rattle.std.specs.List.Sorted.{IsStrictlySortedBy}
use Rattle.label_set.specs.Labels.{labels_cmp}
use Rattle.step_batch.specs.LentWindows.{IsWindow, names_of}
use Rattle.step_cells.specs.Joined.{windows_in}
use Rattle.step_table.specs.declared.windows.WindowRow.{WindowRow}
use Rattle.op_gather.specs.Joins.{with_sets}
use Rattle.op_gather.proofs.LoneWindows.{lone_is, lone_sorted, lone_windows, sets_windows, windows_each, windows_filled, windows_put}
use Rattle.op_gather.proofs.windows.join_windows.Goals as goal

pub put_all-requires-clause-sorted : goal.put_all-requires-clause-sorted
put_all-requires-clause-sorted c =
    let steps = map with_sets c.args.steps in
    let lone = lone_is steps c.in_ok-all.all.cells c.in_ok-windows.windows c.in_ok-parted.parted.lone c.in_ok-all.ensures.cells c.in_ok-windows.ensures c.in_ok-parted.ensures.lone in
    subst (λ (ws : List WindowRow). IsStrictlySortedBy labels_cmp (names_of ws)) (sym (c.as_slice.ensures ∙ lone)) (lone_sorted (windows_in steps))

pub put_all-requires-clause-windows : goal.put_all-requires-clause-windows
put_all-requires-clause-windows c =
    let steps = map with_sets c.args.steps in
    let lone = lone_is steps c.in_ok-all.all.cells c.in_ok-windows.windows c.in_ok-parted.parted.lone c.in_ok-all.ensures.cells c.in_ok-windows.ensures c.in_ok-parted.ensures.lone in
    subst (AllByRecursion IsWindow) (sym (c.as_slice.ensures ∙ lone)) (lone_windows (windows_in steps) (windows_each steps (sets_windows c.args.steps c.requires)))

pub returns : goal.returns
returns c =
    let steps = map with_sets c.args.steps in
    on_ok_weaker c.put_all.result
    (λ e. windows_put c.args.at steps c.in_ok-all.all.cells c.in_ok-windows.windows c.in_ok-parted.parted.lone c.in_ok-parted.parted.shared c.in_ok-all.all.marks c.add_shared.new.marks c.put_all.new.buffer
    c.in_ok-all.ensures.cells c.in_ok-all.ensures.marks c.in_ok-windows.ensures c.in_ok-parted.ensures.lone c.in_ok-parted.ensures.shared c.in_ok-add_shared.ensures
    (windows_filled c.args.at c.begin.new.self c.unite.new.self c.put_all.new.buffer c.add_shared.new.marks c.as_slice.result.now c.in_ok-parted.parted.lone c.begin.ensures c.in_ok-unite.ensures.ok c.as_slice.ensures e))
    c.put_all.ensures
