use Rattle.std.proofs.Common.{◌≡◌, ◌++◌, length}
use denote.Text.{Utf8}
use denote.Shadow.{shadow}
use Rattle.std.specs.Prelude.{string_bytes}
use Rattle.promql_meaning.specs.Templates.{expanded, expanded_from}
use Rattle.step_rules.proofs.templates.expanded.Given as goal

abbrev pub invariant-loop-plain : goal.invariant-loop-plain
invariant-loop-plain l = shadow (Utf8 l.rest) × (string_bytes l.text ++ expanded_from 0 l.spans l.value l.rest ≡ expanded l.spans l.value l.template)

abbrev pub decreases-loop-plain : goal.decreases-loop-plain
decreases-loop-plain l = length l.rest
