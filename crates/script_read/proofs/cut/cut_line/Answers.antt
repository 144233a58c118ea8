use Rattle.std.proofs.Common.{◌∷◌, ◌+◌, drop, sym, ap, ◌∙◌, arith}
use Rattle.std.specs.List.{slice_split}
use Rattle.script_read.specs.Lines.{is_line_feed}
use Rattle.script_read.proofs.Lines.{split_at_position, split_nowhere}
use Rattle.script_read.proofs.cut.cut_line.Goals as goal

pub returns-in-Some-clause-parted : goal.returns-in-Some-clause-parted
returns-in-Some-clause-parted c = (
  split_at_position is_line_feed c.args.text.now 0 c.in-Some.end (sym c.line_end.ensures.place ∙ c.in-Some.is)
      ∙ ap (λ l. l ∷ slice_split is_line_feed (drop (c.in-Some.end + 1) c.args.text.now)) (sym c.split_at.ensures.front)
      ∙ ap (λ l. c.split_at.result.0.now ∷ slice_split is_line_feed l) (sym c.split_at-in-Some.ensures.back),
  omega (arith, c.split_at-in-Some.ensures.back_len),
)

pub returns-in-None-clause-parted : goal.returns-in-None-clause-parted
returns-in-None-clause-parted c = split_nowhere is_line_feed c.args.text.now 0 (sym c.line_end.ensures.place ∙ c.in-None.is)
