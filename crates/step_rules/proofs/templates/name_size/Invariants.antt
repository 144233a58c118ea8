use Rattle.std.proofs.Common.{◌≡◌, ◌+◌, drop}
use Rattle.std.specs.List.{prefix_len}
use Rattle.promql_meaning.specs.Templates.{is_word_byte}
use Rattle.step_rules.proofs.templates.name_size.Given as goal

abbrev pub invariant-loop-i : goal.invariant-loop-i
invariant-loop-i l = l.i + prefix_len is_word_byte (drop l.i l.text) ≡ prefix_len is_word_byte l.text
