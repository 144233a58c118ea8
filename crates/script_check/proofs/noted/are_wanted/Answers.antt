use Rattle.script_check.proofs.Wanting.{each_is_wanted, no_notes_marked}
use Rattle.script_check.proofs.noted.are_wanted.Goals as goal

pub returns : goal.returns
returns c = λ h.
    each_is_wanted c.args.warnings c.args.part.now c.args.lines.now c.mark.new.marks (c.mark.ensures (no_notes_marked c.args.part.now c.args.lines.now c.requires)) (c.are_marked.ensures h)
