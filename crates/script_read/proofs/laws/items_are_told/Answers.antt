use Rattle.script_read.proofs.ItemsFound.{item_found}
use Rattle.script_read.proofs.ItemsRead.{item_read}
use Rattle.script_read.proofs.laws.items_are_told.Goals as goal

pub returns : goal.returns
returns c = λ word item. (item_found word item, item_read (λ text v. (c.numbers_are_told.ensures.script text v).0) word item)
