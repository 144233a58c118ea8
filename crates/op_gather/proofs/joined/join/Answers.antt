use Rattle.op_gather.proofs.Grouping.{groups_are}
use Rattle.op_gather.proofs.LoneWindows.{windows_are}
use Rattle.op_gather.proofs.joined.join.Goals as goal

pub join_windows-requires : goal.join_windows-requires
join_windows-requires c = windows_are c.args.ask.now c.in-Windows.is c.args.steps c.requires.well

pub join_groups-requires-clause-groups : goal.join_groups-requires-clause-groups
join_groups-requires-clause-groups c = groups_are c.args.ask.now c.in-Partial.f c.in-Partial.field-1 c.in-Partial.is c.args.steps c.requires.well
