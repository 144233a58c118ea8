use Rattle.std.proofs.Common.{◌≡◌, subst}
use Rattle.std.specs.Prelude.{IfOk}
use Rattle.std.specs.List.{filter_map}
use Rattle.step_table.specs.Groups.{alone}
use Rattle.step_table.proofs.groups.part.Goals as goal

pub returns-clause-lone : goal.returns-clause-lone
returns-clause-lone g c = subst (λ groups. IfOk c.part_groups.result (λ parted. parted.lone ≡ filter_map (λ group. alone group.1) groups)) c.in_ok-gather.ensures c.part_groups.ensures.lone
