use Rattle.std.proofs.Common.{◌≡◌, map, drop}
use Rattle.std.specs.Char.{to_ascii_lowercase}
use Rattle.std.specs.Map.{lookup}
use Rattle.frac_text.specs.Readings.{is_word}
use Rattle.promql_lex.proofs.word.word_in.Given as goal

abbrev pub invariant-loop-other : goal.invariant-loop-other
invariant-loop-other l =
    lookup (λ other. is_word l.spelling (map to_ascii_lowercase other.now)) (drop l.other-index l.table)
    ≡ lookup (λ other. is_word l.spelling (map to_ascii_lowercase other.now)) l.table
