use Rattle.std.proofs.Common.{◌≡◌, drop, map}
use Rattle.script_read.specs.Reading.{series_of}
use Rattle.script_read.specs.Outcomes.{each_of, in_front}
use Rattle.script_read.specs.Views.{numbered}
use Rattle.script_read.proofs.reader.series_lines.Given as goal

abbrev pub invariant-loop-line : goal.invariant-loop-line
invariant-loop-line l = in_front l.lines (each_of series_of (map numbered (drop l.line-index l.body))) ≡ each_of series_of (map numbered l.body)
