use Rattle.std.proofs.Common.{◌∷◌, ◌+◌, drop, sym, ap, ◌∙◌, arith}
use Rattle.std.specs.List.{slice_split}
use Rattle.script_read.specs.Series.{is_comma}
use Rattle.script_read.proofs.Lines.{split_at_position, split_nowhere}
use Rattle.script_read.proofs.Parts.{a_token}
use Rattle.script_read.proofs.series.cut_part.Goals as goal

pub returns-in-Some : goal.returns-in-Some
returns-in-Some c = (
  split_at_position (is_comma c.args.text.now) c.args.tokens.now a_token c.in-Some.end (sym c.comma_place.ensures.place ∙ c.in-Some.is)
      ∙ ap (λ l. l ∷ slice_split (is_comma c.args.text.now) (drop (c.in-Some.end + 1) c.args.tokens.now)) (sym c.split_at.ensures.front)
      ∙ ap (λ l. c.split_at.result.0.now ∷ slice_split (is_comma c.args.text.now) l) (sym c.split_at-in-Some.ensures.back),
  omega (arith, c.split_at-in-Some.ensures.back_len),
)

pub returns-in-None : goal.returns-in-None
returns-in-None c = split_nowhere (is_comma c.args.text.now) c.args.tokens.now a_token (sym c.comma_place.ensures.place ∙ c.in-None.is)
