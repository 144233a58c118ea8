use Rattle.script_check.proofs.Pairs.{answer_rises, lines_rise}
use Rattle.script_check.proofs.paired.agree_in_pairs.Goals as goal

pub returns-then-are_paired : goal.returns-then-are_paired
returns-then-are_paired c = λ _.
    let told = c.are_paired.ensures in
    let so = c.if-are_paired.true in
    answer_rises c.args.wanted.now c.args.got.now (told.in_order so) (told.beside so) (told.there so)

pub returns-else-are_paired : goal.returns-else-are_paired
returns-else-are_paired c = λ h.
    let told = c.are_paired-else-are_paired.ensures in
    lines_rise c.near_is_symmetric.ensures c.args.wanted.now c.args.got.now (told.in_order h) (told.beside h) (told.there h)
