use Rattle.std.proofs.Common.{◌≡◌, ◌+◌, drop}
use Rattle.std.specs.List.{prefix_len}
use Rattle.promql_type.specs.Templates.{is_word}
use Rattle.promql_type.proofs.template.word_size.Given as goal

abbrev pub invariant-loop-i : goal.invariant-loop-i
invariant-loop-i l = l.i + prefix_len is_word (drop l.i l.text) ≡ prefix_len is_word l.text
