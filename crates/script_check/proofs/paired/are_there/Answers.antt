use Rattle.script_check.proofs.Pairs.{each_is_there, no_marks}
use Rattle.script_check.proofs.paired.are_there.Goals as goal

pub returns : goal.returns
returns c = λ h.
    each_is_there c.args.part.now c.args.others.now c.mark.new.marks (c.mark.ensures (no_marks c.args.part.now c.args.others.now c.requires)) (c.are_set.ensures h)
