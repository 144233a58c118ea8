use Rattle.std.proofs.Common.{rules}
use Rattle.opt_selects.proofs.Standing.{put_is_there, put_keeps, put_keeps_many}
use Rattle.opt_selects.proofs.candidates.stand.Goals as goal

pub returns-clause-many : goal.returns-clause-many
returns-clause-many c = put_keeps_many _ _ _ _ _ c.requires c.put.ensures

pub returns-clause-stays : goal.returns-clause-stays
returns-clause-stays c = put_keeps _ _ _ _ _ c.requires c.put.ensures

pub returns-clause-stands : goal.returns-clause-stands
returns-clause-stands c = put_is_there _ _ _ _ _ c.requires c.args.keys.now c.least_used-i.result c.least_used-i.ensures (search rules) c.put.ensures
