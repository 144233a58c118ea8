-- The one side of a matching, as it is kept: its rows by their signatures.
use Rattle.std.specs.Prelude.{List, [], map, Option, unwrap_or}
use Rattle.std.specs.BTreeMap.{is_at}
use Rattle.std.specs.Map.{lookup}
use Rattle.std.specs.Option.{option_map}
use Rattle.label_set.specs.Labels.{labels_cmp}
use Rattle.label_set.specs.declared.rules.Pairing.{Pairing}
use Rattle.xfrac.specs.declared.value.PairOp.{PairOp}
use Rattle.step_table.specs.Groups.{Names, alone}
use Rattle.step_table.specs.Matching.{signature_of, pair_outcome}
use Rattle.step_table.specs.declared.outcomes.Outcome.{Outcome}
use Rattle.step_table.specs.declared.step.Row.{Row}
use denote.Ref.{Bor}

-- the groups of rows that groups of references point to
abbrev pub read : List (Names × List (Bor Row)) → List (Names × List Row)
read groups = map (λ group. (group.0, map (λ row. row.now) group.1)) groups

-- the row that is alone in the group of a signature
abbrev pub partner_in : List (Names × List Row) → Names → Option Row
partner_in groups names = alone (unwrap_or (lookup (is_at (labels_cmp names)) groups) [])

-- a row of the many side beside what comes of it and its partner
abbrev pub match_in : PairOp → Pairing → List (Names × List Row) → Row → Option (Names × Outcome)
match_in op p groups row =
    option_map (λ one. (signature_of p row, pair_outcome op p row one)) (partner_in groups (signature_of p row))
