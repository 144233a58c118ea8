use Rattle.std.proofs.Common.{◌≡◌, map, take}
use Rattle.promql_tool.specs.Query.{note_line}
use Rattle.promql_tool.specs.Runs.{bytes_of}
use Rattle.promql_tool.proofs.text.each_line.Given as goal

abbrev pub invariant-loop-note : goal.invariant-loop-note
invariant-loop-note l = bytes_of l.lines.items ≡ map note_line (take l.note-index l.notes)
