use Rattle.std.proofs.Common.{◌≡◌, ◌++◌, drop, map}
use Rattle.plan_text.specs.PlanLines.{all_lines, lines_of}
use Rattle.plan_text.proofs.lines.+writes.Given as goal

abbrev pub invariant-append_all-loop-p : goal.invariant-append_all-loop-p
invariant-append_all-loop-p l =
    l.into.items ++ all_lines (map (lines_of l.patterns) (drop l.p-index l.p-items)) l.front
    ≡ l.initial.into.items ++ all_lines (map (lines_of l.patterns) l.p-items) l.front
