use Rattle.std.proofs.Common.{rules, ◌≡◌, ◌∙◌, replicate}
use Rattle.step_put.specs.declared.cells.Cell.TheVariants.{Empty}
use Rattle.step_put.proofs.Lone.{no_cells}
use Rattle.step_put.proofs.cells.empty.Goals as goal

pub returns : goal.returns
returns c = let all : c.resize.new.self.items ≡ replicate c.args.count Empty = search rules in all ∙ no_cells 0 c.args.count
