use Rattle.promql_tool.proofs.SortedLines.{lines_sorted}
use Rattle.promql_tool.proofs.text.sorted_lines.Goals as goal

pub returns : goal.returns
returns c = lines_sorted c.args.notes.now c.in_ok-lines.lines.items c.sort_unstable.new.self.items c.in_ok-lines.ensures c.sort_unstable.ensures.permutation c.sort_unstable.ensures.sorted
